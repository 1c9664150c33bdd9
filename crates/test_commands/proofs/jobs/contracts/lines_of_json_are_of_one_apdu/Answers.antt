use Rattle.std.proofs.Common.{◌∙◌, sym, arith}
use Rattle.ill_json.proofs.OneToOne.{line_once}
use Rattle.test_commands.proofs.jobs.contracts.lines_of_json_are_of_one_apdu.Goals as goal

pub returns : goal.returns
returns c a b h k f g e =
    line_once _ c.args.head c.args.other_head a b (omega arith, omega arith, omega arith) (omega arith, omega arith, omega arith) f g
    (sym (c.in_ok-json_line.ensures a h) ∙ e ∙ c.in_ok-json_line-2.ensures b k)

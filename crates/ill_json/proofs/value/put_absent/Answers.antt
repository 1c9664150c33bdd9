use Rattle.std.proofs.Common.{◌≡◌, ◌∙◌, sym, true, false, rules}
use Rattle.ill_tables.specs.Names.{row_node}
use Rattle.ill_json.proofs.Added.{adds_as, adds_nothing, adds_then}
use Rattle.ill_json.proofs.Tokens.{entry_default, entry_nothing}
use Rattle.ill_json.proofs.value.put_absent.Goals as goal

pub returns-then-not-has_default : goal.returns-then-not-has_default
returns-then-not-has_default c e h =
    let no : c.has_default.result ≡ false = search rules in
    adds_as _ _ _ _ (entry_nothing c.args.node c.args.i e (sym (c.has_default.ensures e h) ∙ no)) (adds_nothing _)

pub returns : goal.returns
returns c e h =
    let yes : c.has_default.result ≡ true = search rules in
    adds_as _ _ _ _ (entry_default c.row_name-name.result.now c.args.node c.args.i e c.row_name-name.ensures (sym (c.has_default.ensures e h) ∙ yes))
    (adds_then _ _ _ _ _ c.put.ensures (c.put_default.ensures e (row_node c.args.node c.args.i) h))

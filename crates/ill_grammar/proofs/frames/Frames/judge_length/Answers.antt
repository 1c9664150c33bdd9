use Rattle.std.proofs.Common.{◌≡◌, ◌<◌, get_or, IsTrue, ap, ◌∙◌, arith}
use Rattle.ber_tree.specs.Octets.{are_octets}
use Rattle.ber_core.specs.declared.header.Len.TheVariants.{Definite}
use Rattle.ber_tree.proofs.Octets.{octets_fit}
use Rattle.ill_schema.specs.Profiles.{profile_of}
use Rattle.ill_refusals.specs.Fault.{cut_fault}
use Rattle.ber_core.specs.declared.header_read.LengthRead.TheVariants.{Whole}
use Rattle.ill_grammar.proofs.Judgements.{definite_extent}
use Rattle.ill_grammar.proofs.frames.Frames.judge_length.Goals as goal

pub returns-in-Whole-Definite-default-clause-exact : goal.returns-in-Whole-Definite-default-clause-exact
returns-in-Whole-Definite-default-clause-exact c rest front behind available_len spelled read found place h room =
    let w = c.args.window.now in
    let header = c.in-Whole-Definite-default.header in
    let size = c.in-Whole-Definite-default.size in
    let ok : IsTrue (are_octets w) = octets_fit w (λ k. let l : get_or w k 0 < 256 = omega (arith, c.type_inv.window k) in l) in
    let field : c.in-Whole-Definite-default.field-0 ≡ Definite size = rw c.in-Whole-Definite-default.is at c.in-Whole-Definite-default.field-0-is in
    let is : c.args.length_read ≡ Whole (Definite size) header = c.in-Whole-Definite-default.is ∙ ap (λ l. Whole l header) field in
    definite_extent c.args.self.now.profile found c.args.id place c.args.at (cut_fault (profile_of c.args.self.now.profile) place c.args.at rest) w front behind size header c.args.length_read c.judge_size.result ok spelled is read
    (λ n short. c.judge_size.ensures.exact rest n available_len short found place h room)

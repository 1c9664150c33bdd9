use Rattle.std.proofs.Common.{ℕ, sym, ap, ◌∙◌}
use Rattle.ber_leaf.specs.Profile.{profile_two}
use Rattle.ill_refusals.specs.Next.{opening}
use Rattle.ill_grammar.specs.Cells.{next_from}
use Rattle.ill_grammar.specs.Places.{PlaceView, element_found}
use Rattle.ill_grammar.proofs.FirstAndAfter.{element-due, first-opens}
use Rattle.ill_grammar.proofs.place.Found.first.Goals as goal

pub returns-clause-place : goal.returns-clause-place
returns-clause-place c = let f = c.args.self in ap (λ (n : ℕ). let at : PlaceView = record { part = f.tagged.now.part; node = f.tagged.now.node; position = n } in at) c.first_position.ensures

pub returns-clause-next : goal.returns-clause-next
returns-clause-next c =
    let f = c.args.self in
    ap (next_from f.tagged.now.part f.tagged.now.node) c.first_position.ensures
    ∙ first-opens f.tagged.now.element_type f.tagged.now.part f.tagged.now.node f.opens
    ∙ ap (opening profile_two) (sym (element-due f.at.parent.now.part f.at.parent.now.node f.at.position f.cell.now.slot (element_found f)))

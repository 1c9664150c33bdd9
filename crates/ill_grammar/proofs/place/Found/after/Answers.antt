use Rattle.std.proofs.Common.{◌≡◌, sym, ap, subst, ◌∙◌, refl, rules, IsTrue}
use Rattle.ill_tables.specs.Table.{kind_of}
use Rattle.ill_refusals.specs.Next.{next_of}
use Rattle.ill_grammar.specs.Cells.{due_at, is_placed, next_from}
use Rattle.ill_grammar.specs.Places.{PlaceView, due_of, element_found, place_after, slot_of}
use Rattle.ill_grammar.specs.declared.place.Found.{Found}
use Rattle.ill_grammar.specs.declared.cell.EntryRole.{EntryRole}
use Rattle.ill_grammar.proofs.FirstAndAfter.{after-foreign, after-item, after-root, after-row, after-segment}
use Rattle.ill_grammar.proofs.place.Found.after.Goals as goal

-- the next of the place after what was found is what comes after it
after-slot : (f : Found) (s : EntryRole) → slot_of f ≡ s → (w : PlaceView) → w ≡ place_after f s → next_from w.part w.node w.position ≡ next_of (due_of f)
after-slot f s e w h =
    let placed : IsTrue (is_placed (kind_of f.at.parent.now.node) f.at.position s) = subst (λ s. IsTrue (is_placed (kind_of f.at.parent.now.node) f.at.position s)) e f.placed in
    ap (λ w. next_from w.part w.node w.position) h ∙ go s placed
    ∙ ap (λ s. next_of (due_at f.at.parent.now.part f.at.parent.now.node f.at.position s (element_found f))) (sym e)
  where
    go : (s : EntryRole) → IsTrue (is_placed (kind_of f.at.parent.now.node) f.at.position s)
        → next_from (place_after f s).part (place_after f s).node (place_after f s).position ≡ next_of (due_at f.at.parent.now.part f.at.parent.now.node f.at.position s (element_found f))
    go EntryRole.Row p = after-row f.at.parent.now.part f.at.parent.now.node f.at.position (element_found f) p
    go EntryRole.Inner p = refl
    go EntryRole.Item p = after-item f.at.parent.now.part f.at.parent.now.node f.at.position (element_found f) (kind_of f.at.parent.now.node) refl p
    go EntryRole.Segment p = after-segment f.at.parent.now.part f.at.parent.now.node f.at.position (element_found f) (kind_of f.at.parent.now.node) refl p
    go EntryRole.Root p = after-root f.at.parent.now.part f.at.parent.now.node f.at.position (element_found f)
    go EntryRole.Foreign p = after-foreign f.at.parent.now.part f.at.parent.now.node f.at.position (element_found f) (kind_of f.at.parent.now.node) refl p

pub returns-clause-next : goal.returns-clause-next
returns-clause-next c =
    let w : PlaceView = record { part = c.match-self.result.0.now.part; node = c.match-self.result.0.now.node; position = c.match-self.result.1.0 } in
    let h : w ≡ place_after c.args.self (slot_of c.args.self) = search rules in
    after-slot c.args.self (slot_of c.args.self) refl w h

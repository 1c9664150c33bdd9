use Rattle.std.proofs.Common.{◌≡◌, ◌∙◌, ◌++◌, List, [], ◌∷◌, refl, sym, ap, map, append-nil, subst}
use Rattle.ill_grammar.specs.Due.{first_of, read_as, shape, slot_in}
use Rattle.ber_core.specs.Id.{tag_of_id}
use Rattle.ill_grammar.specs.Places.{alternative_of}
use Rattle.ill_grammar.specs.declared.element.Element.{Element as CodeElement}
use Rattle.ill_grammar.specs.declared.element.Element.TheVariants.{Foreign}
use Rattle.ill_read.specs.code.Drafts.{IsDueAt}
use Rattle.ill_read.specs.code.Outlines.{first_marks}
use Rattle.ill_grammar.specs.declared.outline.Mark.TheVariants as mark
use Rattle.ill_read.specs.declared.outline_draft.OutlineDraft.{OutlineDraft}
use Rattle.ill_read.proofs.Outlines.{foreign_led, module_marks, octets_joined, outline_element}
use Rattle.ill_read.proofs.outline_draft.OutlineDraftDraft.module_element.Goals as goal

-- a primitive element that isn't of a foreign tree
element_marks : (e : CodeElement) (octets : List _) → ((m : _) → e ≡ Foreign m → ⊥) → module_marks e octets ≡ first_marks (first_of e) e ++ (map mark.Octet octets ++ mark.End ∷ [])
element_marks (Foreign m) octets other = absurd (other m refl)
element_marks _ octets other = refl

pub returns-in-Foreign : goal.returns-in-Foreign
returns-in-Foreign c l below content h due is =
    let old = c.args.self.now in
    let found = c.args.reading.found in
    let new : OutlineDraft = record old { octets = c.module_element.new.self } in
    let element : read_as found ≡ Foreign c.in-Foreign.field-0 = sym c.element-element.ensures.element ∙ c.in-Foreign.is in
    let led = foreign_led c.args.profile l (shape c.args.place) (tag_of_id c.args.reading.id) (slot_in found) (alternative_of found) c.in-Foreign.field-0 old.marks.items
    (subst (IsDueAt c.args.profile l (shape c.args.place) (tag_of_id c.args.reading.id) (slot_in found) (alternative_of found)) element due) in
    outline_element c.args.profile old new (shape c.args.place) c.args.reading c.args.content.now old.marks.items c.requires.other c.requires.content c.in_ok-module_element.ensures led
    (sym (append-nil old.marks.items) ∙ ap (λ e. old.marks.items ++ module_marks e c.args.content.now) (sym element)) l below content h due is

pub returns : goal.returns
returns c =
    let found = c.args.reading.found in
    let octets = c.args.content.now in
    let new : OutlineDraft = record { octets = c.module_element.new.self; marks = c.push.new.self } in
    let joined = octets_joined octets c.mark_preceding.new.marks.items _ c.mark_start.new.marks.items c.mark_octets.new.marks.items c.push.new.self.items c.in_ok-mark_start.ensures c.in_ok-mark_octets.ensures c.in_ok-push.ensures.items in
    outline_element c.args.profile c.args.self.now new (shape c.args.place) c.args.reading octets c.mark_preceding.new.marks.items c.requires.other c.requires.content c.in_ok-module_element.ensures c.in_ok-mark_preceding.ensures
    (joined ∙ ap (λ e. c.mark_preceding.new.marks.items ++ (first_marks (first_of e) e ++ (map mark.Octet octets ++ mark.End ∷ []))) c.element-element.ensures.element
    ∙ ap (λ ms. c.mark_preceding.new.marks.items ++ ms) (sym (element_marks (read_as found) octets (λ m s. c.in_default.not-Foreign m (c.element-element.ensures.element ∙ s)))))

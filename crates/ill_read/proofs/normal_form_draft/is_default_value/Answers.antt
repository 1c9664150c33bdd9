use Rattle.std.proofs.Common.{◌∙◌, ap, is_some, sym, rules, FitsSigned, w64}
use Rattle.std.proofs.lemmas.Int.{to_z-of_z}
use Rattle.ill_grammar.specs.Cells.{default_due}
use Rattle.ill_grammar.specs.Places.{alternative_of, due_of, slot_of}
use Rattle.ill_grammar.specs.LeafTypes.{leaf_is}
use Rattle.ill_grammar.specs.Written.{is_number}
use Rattle.ill_grammar.proofs.Defaults.{found_left, is_left, left_row}
use Rattle.ill_read.proofs.normal_form_draft.is_default_value.Goals as goal

pub returns-in_default : goal.returns-in_default
returns-in_default c t n due after =
    let f = c.args.reading.found in
    sym (found_left f t n c.args.leaf c.args.content.now due after
    ∙ ap (λ d. is_left d (alternative_of f) (slot_of f) (leaf_is c.args.leaf) c.args.content.now) (sym c.default_value.ensures ∙ c.in_default.is))

pub returns-in-Row : goal.returns-in-Row
returns-in-Row c t n due after =
    let f = c.args.reading.found in
    let fits : FitsSigned w64 c.in-Some.number = search rules in
    c.is_number.ensures
    ∙ ap (λ d. is_number (leaf_is c.args.leaf) d c.args.content.now) (to_z-of_z w64 c.in-Some.number fits)
    ∙ sym (found_left f t n c.args.leaf c.args.content.now due after
    ∙ left_row (default_due (due_of f)) (alternative_of f) (slot_of f) (leaf_is c.args.leaf) c.args.content.now c.in-Some.number (sym c.default_value.ensures ∙ c.in-Some.is)
    (ap is_some (sym c.alternative.ensures) ∙ sym c.is_some.ensures ∙ c.if-is_some.false) (sym c.slot.ensures ∙ c.in-Row.is))

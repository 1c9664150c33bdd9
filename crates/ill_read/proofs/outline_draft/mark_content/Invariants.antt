use Rattle.std.proofs.Common.{◌≡◌, ◌+◌, ◌-◌, ◌≤◌, ◌++◌, ◌∷◌, length, map, take}
use Rattle.std.specs.Vec.{vec_len, vec_capacity}
use Rattle.ill_grammar.specs.declared.outline.Mark.TheVariants as mark
use Rattle.ill_read.proofs.outline_draft.mark_content.Given as goal

abbrev pub invariant-loop-octet : goal.invariant-loop-octet
invariant-loop-octet l =
    (l.marks.items ≡ l.fn.marks.items ++ (l.fn.first ∷ map mark.Octet (take l.octet-index l.octets)))
    × (vec_len l.marks + (length l.octets - l.octet-index) + 1 ≤ vec_capacity l.marks)

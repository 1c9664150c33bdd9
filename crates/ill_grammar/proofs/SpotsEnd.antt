-- Where an element may end, and where a message begins.
use Rattle.std.proofs.Common.{◌≡◌, ◌≤◌, ℕ, zero, suc, ◌+◌, ◌-◌, ◌/◌, ◌%◌, Bool, true, false, ◌&&◌, not, List, [], ◌∷◌, drop, Option, Some, None, is_some, IsTrue, refl, subst, arith, get_or}
use Rattle.std.specs.List.{list_all}
use Rattle.std.proofs.lemmas.Bool.{and_parts}
use Rattle.std.proofs.lemmas.List.{get_or-drop}
use Rattle.ber_leaf.specs.Profile.{profile_two}
use Rattle.ill_tables.specs.declared.part.PartId.{PartId}
use Rattle.ill_tables.specs.declared.profile.Profile.TheVariants.{Two, Module}
use Rattle.ill_refusals.specs.Next.{missing}
use Rattle.ill_grammar.specs.Due.{next_is}
use Rattle.ill_grammar.specs.Standing.{next_at_top}
use Rattle.ill_grammar.specs.code.Spots.{is_either}
use Rattle.ill_grammar.specs.code.SpotTable.{complete_start, next_at_offset, spots}
use Rattle.ill_grammar.specs.declared.due.Next.{Next}
use Rattle.ill_grammar.specs.declared.due.Next.TheVariants.{Nothing}
use Rattle.ill_grammar.specs.declared.spot_entries.TheConstants.{MODULE_TOP, TOP}

-- nothing is missing, and no SEQUENCE
abbrev may_end : Next → Bool
may_end n = not (is_some (missing profile_two (next_is n))) && not (is_either n)

all_end : IsTrue (list_all (λ ns. list_all may_end ns) (drop (complete_start / 16) spots))
unfolding spots
all_end = refl

each_passes : {A : Type 0} (test : A → Bool) (xs : List A) (i : ℕ) (other : A) → list_all test xs ≡ true → test other ≡ true → test (get_or xs i other) ≡ true
each_passes test [] i other h o = o
each_passes test (x ∷ xs) zero other h o = (and_parts (test x) (list_all test xs) h).0
each_passes test (x ∷ xs) (suc i) other h o = each_passes test xs i other (and_parts (test x) (list_all test xs) h).1 o

offset_ends : (offset : ℕ) → complete_start ≤ offset → may_end (next_at_offset offset) ≡ true
unfolding next_at_offset
offset_ends offset le =
    let chunk = offset / 16 in
    let far : complete_start / 16 + (chunk - complete_start / 16) ≡ chunk = omega arith in
    let there : list_all may_end (get_or (drop (complete_start / 16) spots) (chunk - complete_start / 16) []) ≡ true =
    each_passes (λ ns. list_all may_end ns) (drop (complete_start / 16) spots) (chunk - complete_start / 16) [] all_end refl in
    each_passes may_end (get_or spots chunk []) (offset % 16) Nothing
    (subst (λ (i : ℕ). list_all may_end (get_or spots i []) ≡ true) far (subst (λ ns. list_all may_end ns ≡ true) (get_or-drop (complete_start / 16) spots (chunk - complete_start / 16) []) there)) refl

none_there : (o : Option PartId) → not (is_some o) ≡ true → o ≡ None
none_there None h = refl
none_there (Some part) h = absurd cc

not_true : (b : Bool) → not b ≡ true → b ≡ false
not_true true h = absurd cc
not_true false h = refl

pub may_end_there : (offset : ℕ) → complete_start ≤ offset → (missing profile_two (next_is (next_at_offset offset)) ≡ None) × (is_either (next_at_offset offset) ≡ false)
may_end_there offset le =
    let both = and_parts (not (is_some (missing profile_two (next_is (next_at_offset offset))))) (not (is_either (next_at_offset offset))) (offset_ends offset le) in
    (none_there _ both.0, not_true _ both.1)

pub top_there : next_at_offset TOP ≡ next_at_top Two
unfolding next_at_offset spots
top_there = refl

pub module_top_there : next_at_offset MODULE_TOP ≡ next_at_top Module
unfolding next_at_offset spots
module_top_there = refl

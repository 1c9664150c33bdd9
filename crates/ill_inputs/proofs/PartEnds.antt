-- How the parts of a text are found octet by octet.
use Rattle.std.proofs.Common.{◌≡◌, ◌==◌, ◌||◌, ℕ, ◌<◌, Bool, true, false, List, [], ◌∷◌, ◌++◌, length, refl, ap, ◌∙◌, arith, if◌then◌else◌}
use Rattle.std.proofs.lemmas.List.Folds.{list_any-append}
use Rattle.ill_inputs.specs.Parts.{has_end, parts_by, put_first}

or_right : (x y : Bool) → (x || y) ≡ false → y ≡ false
or_right true y h = absurd cc
or_right false y h = h

module _ (e : ℕ) where
  -- a part without an end, and then an end
  ended_step : (b : Bool) (c : ℕ) (part more : List ℕ) → (b || has_end e part) ≡ false → (has_end e part ≡ false → parts_by e (part ++ e ∷ more) ≡ part ∷ parts_by e more)
      → (if b then [] ∷ parts_by e (part ++ e ∷ more) else put_first c (parts_by e (part ++ e ∷ more))) ≡ (c ∷ part) ∷ parts_by e more
  ended_step true c part more h ih = absurd cc
  ended_step false c part more h ih = ap (put_first c) (ih h)

  end_first : (more : List ℕ) (b : Bool) → b ≡ true → (if b then [] ∷ parts_by e more else put_first e (parts_by e more)) ≡ [] ∷ parts_by e more
  end_first more true h = refl
  end_first more false h = absurd cc

  pub part_ended : (part more : List ℕ) → has_end e part ≡ false → parts_by e (part ++ e ∷ more) ≡ part ∷ parts_by e more
  part_ended [] more h = end_first more (e == e) (grind arith)
  part_ended (c ∷ part) more h = ended_step (c == e) c part more h (part_ended part more)

  -- a part that the end of the text ends
  last_step : (b : Bool) (c : ℕ) (part : List ℕ) → (b || has_end e part) ≡ false → put_first c (parts_by e part) ≡ (c ∷ part) ∷ []
      → (if b then [] ∷ parts_by e part else put_first c (parts_by e part)) ≡ (c ∷ part) ∷ []
  last_step true c part h k = absurd cc
  last_step false c part h k = k

  not_empty : (c : ℕ) (part : List ℕ) → has_end e (c ∷ part) ≡ false → parts_by e (c ∷ part) ≡ (c ∷ part) ∷ []
  not_empty c [] h = last_step (c == e) c [] h refl
  not_empty c (d ∷ part) h = last_step (c == e) c (d ∷ part) h (ap (put_first c) (not_empty d part (or_right (c == e) (has_end e (d ∷ part)) h)))

  pub last_part : (part : List ℕ) → 0 < length part → has_end e part ≡ false → parts_by e part ≡ part ∷ []
  last_part [] some h = absurd (omega (arith, some))
  last_part (c ∷ part) some h = not_empty c part h

  more_step : (b : Bool) (part : List ℕ) (c : ℕ) → (b || has_end e part) ≡ false → (has_end e part ≡ false → has_end e (part ++ c ∷ []) ≡ false)
      → (b || has_end e (part ++ c ∷ [])) ≡ false
  more_step true part c h ih = absurd cc
  more_step false part c h ih = ih h

  pub no_end_more : (part : List ℕ) (c : ℕ) → has_end e part ≡ false → (c == e) ≡ false → has_end e (part ++ c ∷ []) ≡ false
  no_end_more [] c h k = ap (λ (x : Bool). x || false) k
  no_end_more (d ∷ part) c h k = more_step (d == e) part c h (λ n. no_end_more part c n k)

  or_false : (x y : Bool) → x ≡ false → y ≡ false → (x || y) ≡ false
  or_false true y h k = absurd cc
  or_false false y h k = k

  pub no_end_join : (part more : List ℕ) → has_end e part ≡ false → has_end e more ≡ false → has_end e (part ++ more) ≡ false
  no_end_join part more h k = list_any-append (λ c. c == e) part more ∙ or_false (has_end e part) (has_end e more) h k

use Rattle.std.proofs.Common.{◌≡◌, ◌<◌, [], ◌∷◌, ◌++◌, length, flat_map, refl, sym, ap, ◌∙◌, arith, append-nil, append_assoc}
use Rattle.std.proofs.lemmas.Bool.Decides.{nat_tests}
use Rattle.std.proofs.lemmas.List.{nil_from_length}
use Rattle.ill_schema.specs.Texts.{after_dot}
use Rattle.oid_text.specs.Numbers.{subidentifier}
use Rattle.oid_text.proofs.Dots.{no_numbers, numbers_behind, short_more}
use Rattle.oid_text.proofs.components.put_numbers.Goals as goal

pub returns-in_default-clause-unsaid : goal.returns-in_default-clause-unsaid
returns-in_default-clause-unsaid c = λ _ numbers short e.
    let some : 0 < length c.numbers.left.now = grind (arith, nat_tests) in
    let rest = c.numbers.invariant.back numbers short e in
    no_numbers c.numbers.left.now rest.0 some c.in_default.ensures rest.1 rest.2

pub numbers-preserved : goal.numbers-preserved
numbers-preserved c =
    let n = c.in-Some.number in
    let found = c.in-Some.ensures in
    record {
      forth = λ ns short e.
          let all = c.numbers.invariant.forth (n ∷ ns) (short_more n ns found.0 short) (found.2 ∙ ap (λ z. after_dot n ++ z) e) in
          let items = ap (λ z. z ++ flat_map subidentifier ns) c.in_ok-put_number.ensures ∙ append_assoc c.numbers.octets.items (subidentifier n) (flat_map subidentifier ns) in
          (all.0, all.1, all.2, items ∙ all.3);
      back = λ ms short e.
          let rest = c.numbers.invariant.back ms short e in
          numbers_behind c.numbers.left.now c.in-Some.rest.now n rest.0 found.0 found.1 found.2 rest.1 rest.2;
    }

pub returns-clause-said : goal.returns-clause-said
returns-clause-said c = λ _.
    let end : length c.numbers.left.now ≡ 0 = grind (arith, nat_tests) in
    let all = c.numbers.invariant.forth [] refl (nil_from_length c.numbers.left.now end) in
    (all.0, all.1, all.2, sym (append-nil _) ∙ all.3)

-- What a foreign tree has: identifiers, and few levels.
use Rattle.std.proofs.Common.{◌≡◌, ℕ, zero, suc, ◌≤◌, Bool, true, false, not, ◌&&◌, ◌||◌, IsTrue, refl, subst, arith}
use Rattle.std.specs.Prelude.{nat_eq, nat_le}
use Rattle.std.proofs.lemmas.Bool.{and_parts}
use Rattle.ber_tree.specs.declared.class.Class.{Class}
use Rattle.ber_tree.specs.Identifier.{Tag, HasIdentifier, class_bits}
use Rattle.ber_core.specs.Der.{HasIdentifiers, HaveIdentifiers}
use Rattle.ber_core.specs.Foreign.{is_identified, is_foreign, are_foreign}
use Rattle.ber_tree.specs.Tree.{Tree, Trees, primitive, constructed, none, more, depth, depth_all}

no_end : (c : Class) (n : ℕ) (f : Bool) → IsTrue (f || not (nat_eq (class_bits c) 0 && nat_eq n 0)) → c ≡ Class.Universal → n ≡ 0 → f ≡ true
no_end c n true h e z = refl
no_end c n false h e z =
    let q : IsTrue (not (nat_eq (class_bits Class.Universal) 0 && nat_eq 0 0)) = subst (λ m. IsTrue (not (nat_eq (class_bits Class.Universal) 0 && nat_eq m 0))) z (subst (λ x. IsTrue (not (nat_eq (class_bits x) 0 && nat_eq n 0))) e h) in
    absurd cc

pub identified_has : (t : Tag) (f : Bool) → IsTrue (is_identified t f) → HasIdentifier t f
identified_has t f h =
    let p = and_parts (nat_le t.number 268_435_455) (f || not (nat_eq (class_bits t.class) 0 && nat_eq t.number 0)) h in
    record { number = (let q : nat_le t.number 268_435_455 ≡ true = p.0 in grind (arith, q)); not_end = no_end t.class t.number f p.1 }

pub both : (a b : Bool) → IsTrue a → IsTrue b → IsTrue (a && b)
both true true h k = refl
both true false h k = absurd cc
both false b h k = absurd cc

apart : (c : Class) (n : ℕ) (f : Bool) → (c ≡ Class.Universal → n ≡ 0 → f ≡ true) → IsTrue (f || not (nat_eq (class_bits c) 0 && nat_eq n 0))
apart c n true h = refl
apart Class.Universal zero false h = absurd (let q : false ≡ true = h refl refl in cc)
apart Class.Universal (suc n) false h = let q : nat_eq (suc n) 0 ≡ false = grind arith in rw q refl
apart Class.Application n false h = refl
apart Class.Context n false h = refl
apart Class.Private n false h = refl

pub has_identified : (t : Tag) (f : Bool) → HasIdentifier t f → IsTrue (is_identified t f)
has_identified t f h = both _ _ (let q = h.number in grind (arith, q)) (apart t.class t.number f h.not_end)

mutual
  pub foreign_identified : (n : ℕ) (T : Tree) → IsTrue (is_foreign n T) → HasIdentifiers T
  foreign_identified zero T h = absurd cc
  foreign_identified (suc n) (primitive tag octets) h = identified_has tag false (and_parts _ _ h).0
  foreign_identified (suc n) (constructed tag trees) h = let p = and_parts _ _ h in (identified_has tag true p.0, foreigns_identified n trees p.1)

  pub foreigns_identified : (n : ℕ) (ts : Trees) → IsTrue (are_foreign n ts) → HaveIdentifiers ts
  foreigns_identified n none h = tt
  foreigns_identified n (more T ts) h = let p = and_parts _ _ h in (foreign_identified n T p.0, foreigns_identified n ts p.1)

mutual
  pub foreign_depth : (n : ℕ) (T : Tree) → IsTrue (is_foreign n T) → depth T ≤ n
  foreign_depth zero T h = absurd cc
  foreign_depth (suc n) (primitive tag octets) h = omega arith
  foreign_depth (suc n) (constructed tag trees) h = let q = foreigns_depth n trees (and_parts _ _ h).1 in omega arith

  pub foreigns_depth : (n : ℕ) (ts : Trees) → IsTrue (are_foreign n ts) → depth_all ts ≤ n
  foreigns_depth n none h = omega arith
  foreigns_depth n (more T ts) h = let p = and_parts _ _ h in let a = foreign_depth n T p.0 in let b = foreigns_depth n ts p.1 in omega arith

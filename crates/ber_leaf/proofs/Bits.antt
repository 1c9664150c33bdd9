-- The contents of a BIT STRING: clearing the unused bits twice clears them once, so a normal content is a content of its value.
use Rattle.std.proofs.Common.{◌≡◌, ℕ, suc, ◌-◌, ◌*◌, ◌/◌, ◌^◌, ◌<◌, ◌≤◌, true, List, [], ◌∷◌, length, IsTrue, refl, ap, ap₂, arith, lt-ltb, eqb-true}
use Rattle.std.specs.Prelude.{nat_eq, nat_le}
use Rattle.std.proofs.Math.Nat.{mul-div_cancel, div-mul-le_self}
use Rattle.std.proofs.lemmas.Nat.{pow_pos}
use Rattle.ber_tree.specs.Octets.{are_octets}
use Rattle.ber_leaf.specs.Leaf.{bit_string, cleared, cleared_last, is_bits, value, normal_content}
use Rattle.ber_leaf.proofs.Integers.{small}
use Rattle.ber_leaf.specs.Simple.{bits}
use Rattle.ber_leaf.specs.Bits.{cleared_content, IsNormalBits}

cleared_twice : (u x : ℕ) → cleared u (cleared u x) ≡ cleared u x
cleared_twice u x = ap (λ (q : ℕ). q * 2 ^ u) (mul-div_cancel (x / 2 ^ u) (pow_pos u))

last_twice : (u : ℕ) (o : List ℕ) → cleared_last u (cleared_last u o) ≡ cleared_last u o
last_twice u [] = refl
last_twice u (a ∷ []) = ap (λ (x : ℕ). x ∷ []) (cleared_twice u a)
last_twice u (a ∷ b ∷ []) = ap (λ (o : List ℕ). a ∷ o) (last_twice u (b ∷ []))
last_twice u (a ∷ b ∷ c ∷ o) = ap (λ (o : List ℕ). a ∷ o) (last_twice u (b ∷ c ∷ o))

pub length-cleared : (u : ℕ) (o : List ℕ) → length (cleared_last u o) ≡ length o
length-cleared u [] = refl
length-cleared u (a ∷ []) = refl
length-cleared u (a ∷ b ∷ o) = ap suc (length-cleared u (b ∷ o))

octets_before : (a : ℕ) (o : List ℕ) → a < 256 → IsTrue (are_octets o) → IsTrue (are_octets (a ∷ o))
octets_before a o l h = rw (lt-ltb a 256 l) h

last_octets : (u : ℕ) (o : List ℕ) → IsTrue (are_octets o) → IsTrue (are_octets (cleared_last u o))
last_octets u [] h = refl
last_octets u (a ∷ []) h = octets_before (cleared u a) [] (omega (arith, (small a [] h).0, div-mul-le_self a (2 ^ u))) refl
last_octets u (a ∷ b ∷ o) h = let p = small a (b ∷ o) h in octets_before a (cleared_last u (b ∷ o)) p.0 (last_octets u (b ∷ o) p.1)

content_twice : (o : List ℕ) → cleared_content (cleared_content o) ≡ cleared_content o
content_twice [] = refl
content_twice (u ∷ o) = ap (λ (o : List ℕ). u ∷ o) (last_twice u o)

pub content_octets : (o : List ℕ) → IsTrue (are_octets o) → IsTrue (are_octets (cleared_content o))
content_octets [] h = refl
content_octets (u ∷ o) h = let p = small u o h in octets_before u (cleared_last u o) p.0 (last_octets u o p.1)

pub content_bits : (o : List ℕ) → IsTrue (is_bits o) → IsTrue (is_bits (cleared_content o))
content_bits [] h = absurd cc
content_bits (u ∷ []) h = h
content_bits (u ∷ a ∷ []) h = h
content_bits (u ∷ a ∷ b ∷ o) h = h

pub length-content : (o : List ℕ) → length (cleared_content o) ≡ length o
length-content [] = refl
length-content (u ∷ o) = ap suc (length-cleared u o)

pub clear_is_normal : (o : List ℕ) → IsTrue (are_octets o) → IsTrue (is_bits o) → IsNormalBits (cleared_content o)
clear_is_normal o h b = record { are_octets = content_octets o h; is_bits = content_bits o b; is_clear = content_twice o }

-- a content has no more unused bits than bits
pub few_unused : (u : ℕ) (o : List ℕ) → IsTrue (is_bits (u ∷ o)) → u ≤ 8 * length o
few_unused u [] h = let q : nat_eq u 0 ≡ true = h in omega (arith, eqb-true u 0 q)
few_unused u (a ∷ o) h = let q : nat_le u 7 ≡ true = h in let l : u ≤ 7 = grind (arith, q) in omega (arith, l)

-- the value of a content is that of the content with its unused bits 0
pub same_bits : (o : List ℕ) → value bit_string (cleared_content o) ≡ value bit_string o
same_bits [] = refl
same_bits (u ∷ o) = ap₂ bits (ap (λ (n : ℕ). 8 * n - u) (length-cleared u o)) (last_twice u o)

-- and its normal content is that content
pub normal_bits : (o : List ℕ) → IsTrue (is_bits o) → normal_content (value bit_string o) ≡ cleared_content o
normal_bits [] h = absurd cc
normal_bits (u ∷ o) h =
    let l = few_unused u o h in
    let e : 8 * length (cleared_last u o) - (8 * length o - u) ≡ u = omega (arith, l, length-cleared u o) in
    ap (λ (x : ℕ). x ∷ cleared_last u o) e

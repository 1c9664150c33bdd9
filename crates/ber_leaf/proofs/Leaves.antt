-- Which octets are contents, and what every kind of leaf has in common.
use Rattle.std.proofs.Common.{◌≡◌, ◌↔◌, ℕ, suc, ◌<◌, ◌≤◌, Bool, true, false, not, nat_eq, nat_lt, List, [], ◌∷◌, length, get_or, Option, Some, None, IsTrue, IsNone, refl, sym, ◌∙◌, ap, subst, arith}
use Rattle.std.specs.Prelude.{if◌then◌else◌}
use Rattle.std.specs.List.{list_all}
use Rattle.ber_tree.specs.Octets.{are_octets}
use Rattle.ber_leaf.specs.declared.fault.LeafFault.{LeafFault}
use Rattle.ber_leaf.specs.Content.{IsContent}
use Rattle.ber_leaf.specs.Leaf.{Leaf, is_bits, boolean, integer, enumerated, general_string, visible_string, printable_string, iso_date, iso_time, null_type, object_identifier, octet_string, bit_string, object_descriptor, Holds, value, normal_content, content_fault}
use Rattle.ber_leaf.specs.Profile.{Profile, profile_one, profile_two, is_graphic, is_no_shift}
use Rattle.ber_leaf.specs.Simple.{Simple, flag}
use Rattle.ber_leaf.proofs.Bits.{content_octets, content_bits, length-content, same_bits, normal_bits}
use Rattle.ber_leaf.proofs.Integers.{integer_same, and_parts}
use Rattle.ber_leaf.specs.Bits.{cleared_content}

-- the numbers of a vector that are below 256 are octets
pub items_are_octets : (a : List ℕ) → ((i d : ℕ) → i < length a → get_or a i d < 256) → IsTrue (are_octets a)
items_are_octets [] h = refl
items_are_octets (x ∷ a) h =
    let l : x < 256 = h 0 0 (omega arith) in
    let q : nat_lt x 256 ≡ true = grind arith in
    rw q (items_are_octets a (λ i d k. h (suc i) d (omega (arith, k))))

-- octets without a fault hold their value
pub content : (l : Leaf) (o : List ℕ) → IsTrue (are_octets o) → content_fault profile_two l o ≡ None → IsContent l o
unfolding IsContent
content l o h e = (value l o, (h, e, refl))

-- a content has no fault
pub no_fault : (l : Leaf) (o : List ℕ) → IsContent l o → content_fault profile_two l o ≡ None
unfolding IsContent
no_fault l o h = h.1.1

-- the fault is None exactly at a content
pub exact : (l : Leaf) (o : List ℕ) (r : Option LeafFault) → IsTrue (are_octets o) → r ≡ content_fault profile_two l o → IsNone r ↔ IsContent l o
exact l o None h e = (λ n. content l o h (sym e), λ k. refl)
exact l o (Some f) h e = (λ n. absurd cc, λ k. let none : Some f ≡ None = e ∙ no_fault l o k in cc)

-- a content holds its value
pub content_holds : (l : Leaf) (o : List ℕ) → IsContent l o → Holds profile_two l (value l o) o
unfolding IsContent
content_holds l o h = (h.1.0, h.1.1, refl)

pub tested : (b : Bool) (f : LeafFault) → (if b then None else Some f) ≡ None → b ≡ true
tested true f e = refl
tested false f e = absurd cc

-- a boolean has one octet
pub one_octet : (o : List ℕ) → content_fault profile_two boolean o ≡ None → length o ≡ 1
one_octet [] e = absurd cc
one_octet (a ∷ []) e = refl
one_octet (a ∷ b ∷ o) e = grind arith

-- octets hold at most one value
pub held_same : (p : Profile) (l : Leaf) (v w : Simple) (o : List ℕ) → Holds p l v o → Holds p l w o → v ≡ w
held_same p l v w o h k = h.2 ∙ sym k.2

-- a content of bits is one when the unused bits are 0
bits_hold : (p : Profile) (o : List ℕ) → IsTrue (are_octets o) → content_fault p bit_string o ≡ None → Holds p bit_string (value bit_string o) (normal_content (value bit_string o))
bits_hold p o h e =
    let b : IsTrue (is_bits o) = tested (is_bits o) LeafFault.BadBits e in
    let c : is_bits (cleared_content o) ≡ true = content_bits o b in
    subst (Holds p bit_string (value bit_string o)) (sym (normal_bits o b)) (content_octets o h, rw c refl, sym (same_bits o))

pub flag_holds : (p : Profile) (b : Bool) → Holds p boolean (flag b) (normal_content (flag b))
flag_holds p true = (refl, refl, refl)
flag_holds p false = (refl, refl, refl)

pub normal_value : (p : Profile) (l : Leaf) (o : List ℕ) → IsTrue (are_octets o) → content_fault p l o ≡ None → Holds p l (value l o) (normal_content (value l o))
normal_value p boolean o h e = flag_holds p _
normal_value p integer o h e = subst (λ z. Holds p integer (value integer o) z) (sym (integer_same o h p e)) (h, e, refl)
normal_value p enumerated o h e = subst (λ z. Holds p enumerated (value enumerated o) z) (sym (integer_same o h p e)) (h, e, refl)
normal_value p general_string o h e = (h, e, refl)
normal_value p visible_string o h e = (h, e, refl)
normal_value p printable_string o h e = (h, e, refl)
normal_value p iso_date o h e = (h, e, refl)
normal_value p iso_time o h e = (h, e, refl)
normal_value p null_type o h e = (refl, refl, refl)
normal_value p object_identifier o h e = (h, e, refl)
normal_value p octet_string o h e = (h, e, refl)
normal_value p bit_string o h e = bits_hold p o h e
normal_value p object_descriptor o h e = (h, e, refl)

-- the normal content of a value that some octets hold holds it
pub normal_holds : (p : Profile) (l : Leaf) (v : Simple) (o : List ℕ) → Holds p l v o → Holds p l v (normal_content v)
normal_holds p l v o h = subst (λ w. Holds p l w (normal_content w)) (sym h.2) (normal_value p l o h.0 h.1)

-- no content of a value is shorter than its normal content
value_least : (p : Profile) (l : Leaf) (o : List ℕ) → IsTrue (are_octets o) → content_fault p l o ≡ None → length (normal_content (value l o)) ≤ length o
value_least p boolean o h e = flag_least (not (list_all (nat_eq 0) o)) o e
  where
    flag_least : (b : Bool) (o : List ℕ) → content_fault p boolean o ≡ None → length (normal_content (flag b)) ≤ length o
    flag_least b [] e = absurd cc
    flag_least true (a ∷ o) e = omega arith
    flag_least false (a ∷ o) e = omega arith
value_least p integer o h e = omega (arith, ap length (integer_same o h p e))
value_least p enumerated o h e = omega (arith, ap length (integer_same o h p e))
value_least p general_string o h e = omega arith
value_least p visible_string o h e = omega arith
value_least p printable_string o h e = omega arith
value_least p iso_date o h e = omega arith
value_least p iso_time o h e = omega arith
value_least p null_type o h e = omega arith
value_least p object_identifier o h e = omega arith
value_least p octet_string o h e = omega arith
value_least p bit_string o h e = omega (arith, ap length (normal_bits o (tested (is_bits o) LeafFault.BadBits e)), length-content o)
value_least p object_descriptor o h e = omega arith

pub content_least : (p : Profile) (l : Leaf) (v : Simple) (o : List ℕ) → Holds p l v o → length (normal_content v) ≤ length o
content_least p l v o h = subst (λ w. length (normal_content w) ≤ length o) (sym h.2) (value_least p l o h.0 h.1)

-- values of one kind with the same normal content are the same
pub normal_apart : (p : Profile) (l : Leaf) (v w : Simple) (a b : List ℕ) → Holds p l v a → Holds p l w b → normal_content v ≡ normal_content w → v ≡ w
normal_apart p l v w a b h k e = held_same p l v w (normal_content w) (subst (λ o. Holds p l v o) e (normal_holds p l v a h)) (normal_holds p l w b k)

-- what octets hold in the narrow profile they hold in the wide one
wider_octet : (n : ℕ) → is_graphic n ≡ true → is_no_shift n ≡ true
wider_octet n h = grind arith

wider_octets : (os : List ℕ) → list_all is_graphic os ≡ true → list_all is_no_shift os ≡ true
wider_octets [] h = refl
wider_octets (o ∷ os) h = let p = and_parts (is_graphic o) (list_all is_graphic os) h in rw (wider_octet o p.0) (wider_octets os p.1)

pub wider_content : (limit : ℕ) (l : Leaf) (os : List ℕ) → content_fault (profile_one limit) l os ≡ None → content_fault profile_two l os ≡ None
wider_content limit general_string os e =
    ap (λ (b : Bool). if b then None else Some LeafFault.BadText) (wider_octets os (tested (list_all is_graphic os) LeafFault.BadText e))
wider_content limit boolean os e = e
wider_content limit integer os e = e
wider_content limit enumerated os e = e
wider_content limit visible_string os e = e
wider_content limit printable_string os e = e
wider_content limit iso_date os e = e
wider_content limit iso_time os e = e
wider_content limit null_type os e = e
wider_content limit object_identifier os e = e
wider_content limit octet_string os e = e
wider_content limit bit_string os e = e
wider_content limit object_descriptor os e = e

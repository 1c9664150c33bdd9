-- The normal content of a leaf that was read.
use Rattle.std.proofs.Common.{◌≡◌, ℕ, zero, suc, Bool, false, List, [], ◌∷◌, Option, Some, None, IsTrue, refl, arith, length, eqb-true}
use Rattle.std.specs.Prelude.{nat_eq, if◌then◌else◌}
use Rattle.ber_tree.specs.Octets.{are_octets}
use Rattle.ber_leaf.specs.Leaf.{Leaf, boolean, integer, enumerated, null_type, bit_string, value, normal_content, content_fault}
use Rattle.ber_leaf.specs.Profile.{Profile}
use Rattle.ill_schema.specs.Content.{Content, alternative}
use Rattle.ill_schema.specs.Presence.{is_default, is_default_of}
use Rattle.ill_tables.specs.Table.{kind_of}
use Rattle.ill_tables.specs.declared.{node.Kind.Kind, part.Presence.Presence, part.Row.Row}
use Rattle.ill_grammar.specs.LeafTypes.{leaf_is}
use Rattle.ill_grammar.specs.declared.leaf_type.LeafType.{LeafType}
use Rattle.ill_grammar.specs.declared.leaf_type.LeafType.TheVariants as code
use Rattle.ill_grammar.specs.Written.{left_away, row_slot}
use Rattle.ill_grammar.specs.declared.due.Next.{Next}
use Rattle.ill_grammar.specs.declared.due.Slot.{Slot}
use Rattle.ber_leaf.proofs.Integers.{integer_same}
use Rattle.ber_leaf.proofs.Leaves.{tested}
use Rattle.ber_leaf.specs.declared.fault.LeafFault.{LeafFault}

-- any content but that of a boolean, or of bits, is normal
pub normal_as_read : (p : Profile) (l : Leaf) (o : List ℕ) → (l ≡ boolean → ⊥) → (l ≡ bit_string → ⊥) → IsTrue (are_octets o) → content_fault p l o ≡ None → normal_content (value l o) ≡ o
normal_as_read p boolean o n m h e = absurd (n refl)
normal_as_read p bit_string o n m h e = absurd (m refl)
normal_as_read p integer o n m h e = integer_same o h p e
normal_as_read p enumerated o n m h e = integer_same o h p e
normal_as_read p null_type [] n m h e = refl
normal_as_read p null_type (a ∷ o) n m h e = absurd (omega (arith, eqb-true (length (a ∷ o)) 0 (tested (nat_eq (length (a ∷ o)) 0) LeafFault.BadNull e)))
normal_as_read p _ o n m h e = refl

-- the code names no bits
pub no_bits : (l : LeafType) → leaf_is l ≡ bit_string → ⊥
no_bits code.Boolean e = cc
no_bits code.Integer e = cc
no_bits code.Enumerated e = cc
no_bits code.General e = cc
no_bits code.Visible e = cc
no_bits code.Printable e = cc
no_bits code.Date e = cc
no_bits code.Time e = cc

-- a boolean's content is one octet, and its normal content is 00 or FF as that is 0 or not
pub normal_boolean : (p : Profile) (o : List ℕ) → content_fault p boolean o ≡ None
    → (a : ℕ) × (o ≡ a ∷ []) × (normal_content (value boolean o) ≡ (if nat_eq a 0 then 0 ∷ [] else 0xFF ∷ []))
normal_boolean p [] e = absurd cc
normal_boolean p (zero ∷ []) e = (zero, refl, refl)
normal_boolean p (suc a ∷ []) e =
    let left : nat_eq 0 (suc a) ≡ false = grind arith in
    let right : nat_eq (suc a) 0 ≡ false = grind arith in
    (suc a, refl, rw (left, right) refl)
normal_boolean p (a ∷ b ∷ o) e = absurd (grind arith)

pub alternative_kept : (p : Presence) (k : Kind) (n : ℕ) (c : Content) → is_default_of p k (alternative n c) ≡ false
alternative_kept Presence.Must k n c = refl
alternative_kept _ k n c = refl

-- a value of a choice is never its row's default
pub choice_kept : (c : Content) (next : Next) (slot : Slot) (n : ℕ) → left_away next slot (alternative n c) ≡ false
choice_kept c next slot n = in_row (row_slot next slot)
  where
    in_row : (r : Option Row) → (elim r as (λ _. Bool) [ Some row ↦ is_default row (alternative n c) | None ↦ false ]) ≡ false
    in_row None = refl
    in_row (Some row) = alternative_kept row.presence (kind_of row.node) n c

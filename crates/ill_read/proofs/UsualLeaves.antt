-- Leaves of usual elements, as they are written.
use Rattle.std.proofs.Common.{◌≡◌, ◌∙◌, ℕ, zero, suc, Bool, true, false, not, ◌&&◌, IsTrue, None, List, [], ◌∷◌, ◌++◌, length, get_or, refl, sym, ap, subst, arith, inl, inr}
use Rattle.std.specs.List.{between}
use Rattle.ber_leaf.specs.Leaf.{boolean, content_fault, integer, normal_content, value}
use Rattle.ber_leaf.specs.Profile.{profile_two}
use Rattle.ber_leaf.specs.Simple.{flag}
use Rattle.std.proofs.lemmas.Bool.{ne_eqb}
use Rattle.ber_tree.specs.Octets.{are_octets}
use Rattle.ber_tree.specs.Length.{shortest_length}
use Rattle.ill_tables.specs.declared.profile.Profile.{Profile as Named}
use Rattle.ill_grammar.specs.LeafTypes.{IsContentIn, leaf_is}
use Rattle.ill_grammar.specs.code.Spots.{default_number, is_default_octets}
use Rattle.ill_grammar.specs.declared.leaf_type.LeafType.{LeafType}
use Rattle.ill_grammar.specs.declared.leaf_type.LeafType.TheVariants as leaf_type
use Rattle.ill_grammar.proofs.NormalLeaves.{no_bits, normal_as_read}
use Rattle.ill_read.specs.code.Usual.{IsLeafPut, IsNumberType, IsOrdered, Puts}
use Rattle.ill_read.specs.declared.usual.header.Header.{Header}
use Rattle.ill_read.proofs.UsualWrites.{puts_as, puts_kept, puts_none, puts_then}

-- a leaf that is the default of its row
pub default_put : (l : LeafType) (h : Header) (octets old : List ℕ) (n : ℕ) → IsOrdered h n old → ((p : Named) → IsContentIn p (leaf_is l) octets)
    → is_default_octets (default_number h.element.default) (leaf_is l) octets ≡ true → IsLeafPut l h octets old old h.from.written
default_put l h octets old n order right is = record {
  right = right;
  put = puts_as old old h.from.written h.from.written h.from.written [] _ (puts_none old h.from.written (omega (arith, order))) refl
      (sym (ap (λ (b : Bool). elim b as (λ _. List ℕ) [ true ↦ [] | false ↦ between h.from.written h.length.written old ++ (shortest_length (length (normal_content (value (leaf_is l) octets))) ++ normal_content (value (leaf_is l) octets)) ]) is));
}

-- another leaf
pub leaf_put : (l : LeafType) (h : Header) (octets old new : List ℕ) (n end : ℕ) → IsOrdered h n old → ((p : Named) → IsContentIn p (leaf_is l) octets)
    → is_default_octets (default_number h.element.default) (leaf_is l) octets ≡ false
    → Puts old new h.length.written end (shortest_length (length (normal_content (value (leaf_is l) octets))) ++ normal_content (value (leaf_is l) octets)) → IsLeafPut l h octets old new end
leaf_put l h octets old new n end order right is put =
    let id = between h.from.written h.length.written old in
    record {
      right = right;
      put = puts_as old new h.from.written end end _ _
          (puts_then old old new h.from.written h.length.written end id _ (puts_kept old h.from.written h.length.written (omega (arith, order)) (omega (arith, order))) put) refl
          (sym (ap (λ (b : Bool). elim b as (λ _. List ℕ) [ true ↦ [] | false ↦ id ++ (shortest_length (length (normal_content (value (leaf_is l) octets))) ++ normal_content (value (leaf_is l) octets)) ]) is));
    }

-- contents of one octet
pub one_long : (xs : List ℕ) → length xs ≡ 1 → xs ≡ get_or xs 0 0 ∷ []
one_long [] e = absurd (omega (arith, e))
one_long (x ∷ []) e = refl
one_long (x ∷ (y ∷ xs)) e = absurd (omega (arith, e))

pub flag_right : (octets : List ℕ) → length octets ≡ 1 → content_fault profile_two boolean octets ≡ None
flag_right [] e = absurd (omega (arith, e))
flag_right (x ∷ []) e = refl
flag_right (x ∷ (y ∷ xs)) e = absurd (omega (arith, e))

number_fault : (octets : List ℕ) → length octets ≡ 1 → content_fault profile_two integer octets ≡ None
number_fault [] e = absurd (omega (arith, e))
number_fault (x ∷ []) e = refl
number_fault (x ∷ (y ∷ xs)) e = absurd (omega (arith, e))

pub number_right : (l : LeafType) (octets : List ℕ) → IsNumberType l → length octets ≡ 1 → content_fault profile_two (leaf_is l) octets ≡ None
number_right l octets (inl is) e = subst (λ x. content_fault profile_two (leaf_is x) octets ≡ None) (sym is) (number_fault octets e)
number_right l octets (inr is) e = subst (λ x. content_fault profile_two (leaf_is x) octets ≡ None) (sym is) (number_fault octets e)

not_flag : (l : LeafType) → (l ≡ leaf_type.Boolean → ⊥) → leaf_is l ≡ boolean → ⊥
not_flag leaf_type.Boolean n e = n refl
not_flag leaf_type.Integer n e = cc
not_flag leaf_type.Enumerated n e = cc
not_flag leaf_type.General n e = cc
not_flag leaf_type.Visible n e = cc
not_flag leaf_type.Printable n e = cc
not_flag leaf_type.Date n e = cc
not_flag leaf_type.Time n e = cc

pub number_other : (l : LeafType) → IsNumberType l → l ≡ leaf_type.Boolean → ⊥
number_other l (inl is) e = let q : leaf_type.Integer ≡ leaf_type.Boolean = sym is ∙ e in absurd cc
number_other l (inr is) e = let q : leaf_type.Enumerated ≡ leaf_type.Boolean = sym is ∙ e in absurd cc

-- what is written of any leaf but a BOOLEAN
pub other_written : (l : LeafType) (octets : List ℕ) → (l ≡ leaf_type.Boolean → ⊥) → IsTrue (are_octets octets) → content_fault profile_two (leaf_is l) octets ≡ None
    → shortest_length (length octets) ++ octets ≡ shortest_length (length (normal_content (value (leaf_is l) octets))) ++ normal_content (value (leaf_is l) octets)
other_written l octets other ok right = ap (λ c. shortest_length (length c) ++ c) (sym (normal_as_read profile_two (leaf_is l) octets (not_flag l other) (no_bits l) ok right))

-- what is written of a BOOLEAN
pub flag_written : (octets : List ℕ) (normal : ℕ) → length octets ≡ 1 → (get_or octets 0 0 ≡ 0 → normal ≡ 0) → ((get_or octets 0 0 ≡ 0 → ⊥) → normal ≡ 255)
    → 1 ∷ normal ∷ [] ≡ shortest_length (length (normal_content (value boolean octets))) ++ normal_content (value boolean octets)
flag_written [] normal e clear set = absurd (omega (arith, e))
flag_written (zero ∷ []) normal e clear set = ap (λ n. 1 ∷ n ∷ []) (clear refl)
flag_written (suc a ∷ []) normal e clear set =
    subst (λ (b : Bool). 1 ∷ normal ∷ [] ≡ shortest_length (length (normal_content (flag (not (b && true))))) ++ normal_content (flag (not (b && true)))) (sym (ne_eqb 0 (suc a) (λ z. absurd (omega (arith, z)))))
    (ap (λ n. 1 ∷ n ∷ []) (set (λ z. absurd (omega (arith, z)))))
flag_written (x ∷ (y ∷ xs)) normal e clear set = absurd (omega (arith, e))

-- a row without a default
pub no_default : (default : ℕ) (l : LeafType) (octets : List ℕ) → default ≡ 255 → is_default_octets (default_number default) (leaf_is l) octets ≡ false
no_default default l octets is = ap (λ n. is_default_octets (default_number n) (leaf_is l) octets) is

-- Texts of ILL-Strings.
use Rattle.std.proofs.Common.{◌≡◌, ◌∙◌, ℕ, ◌+◌, ◌-◌, ◌%◌, ◌^◌, ◌<◌, ◌≤◌, Bool, true, false, not, ◌||◌, List, [], ◌∷◌, map, length, get_or, Fits, w8, Option, None, Some, is_some, IsTrue, leb, refl, sym, ap, subst, arith, inl, inr, if◌then◌else◌}
use Rattle.std.proofs.lemmas.Bool.{agree_below, agree_below_at, not-true, cases_eq, leb-true}
use Rattle.std.proofs.lemmas.Simd.{map-map, mask_l-mod, length-chunk, get_or-chunk, leading_from_mask_l, trailing_mask_l}
use Rattle.std.proofs.lemmas.List.{length-map}
use Rattle.std.proofs.lemmas.List.Edits.{length-between, get_or-between}
use Rattle.std.proofs.lemmas.List.Sums.{list_all-from_AllPass, prefix_len_passes}
use Rattle.std.proofs.lemmas.List.Elements.{All-from_get_or}
use Rattle.std.specs.List.{between, list_all, prefix_len}
use Rattle.ber_leaf.specs.Leaf.{content_fault, general_string}
use Rattle.ber_leaf.specs.Profile.{is_graphic, profile_two}
use Rattle.ill_schema.specs.Profiles.{profile_of}
use Rattle.ill_tables.specs.declared.profile.Profile.{Profile as Named}
use Rattle.ill_tables.specs.declared.profile.Profile.TheVariants.{Two, Module}
use Rattle.ill_grammar.specs.LeafTypes.{leaf_is}
use Rattle.ill_grammar.specs.declared.leaf_type.LeafType.{LeafType}
use Rattle.ill_read.specs.code.Usual.{IsStringType}
use Rattle.ill_grammar.specs.declared.leaf_type.LeafType.TheVariants.{Boolean, Integer, Enumerated, General, Visible, Printable, Date, Time}
use Rattle.ber_leaf.proofs.Leaves.{wider_content}
use Rattle.ber_leaf.specs.declared.fault.LeafFault.{LeafFault}
use lib.Count.{count_trailing_zeros}
use lib.Lanes.{chunk, mask_l, top}

-- where no lane of a load's first octets stops, each of them passes the test
pub front_passes : (q : ℕ → Bool) (d : List ℕ) (i n size : ℕ) (z : List ℕ) (f : ℕ → ℕ) → i + n ≤ length d → n ≤ 64 → size ≤ n → ((k : ℕ) → Fits w8 (get_or d k 0)) → z ≡ map f (chunk i n d)
    → IsTrue (leb size (count_trailing_zeros 64 (mask_l (map (top 7) z) % 2 ^ 64))) → agree_below (λ x. top 7 (f x) || q x) (λ _. true) 256 ≡ true → list_all q (between i (i + size) d) ≡ true
front_passes q d i n size z f room few le fits lanes clear all =
    let stops : ℕ → Bool = λ x. top 7 (f x) in
    let v = chunk i n d in
    let long = length-chunk i n d room in
    let mask : mask_l (map (top 7) z) % 2 ^ 64 ≡ mask_l (map stops v) = ap (λ l. mask_l l % 2 ^ 64) (ap (map (top 7)) lanes ∙ map-map (top 7) f v) ∙ mask_l-mod (map stops v) 64 (omega (arith, length-map v stops, long)) in
    let counted : size ≤ prefix_len (λ x. not (stops x)) v = elim (cases_eq (mask_l (map stops v)) 0) [
      | inl none ↦ omega (arith, leading_from_mask_l stops v none, long, le)
      | inr some ↦ omega (arith, leb-true _ _ (subst (λ m. IsTrue (leb size (count_trailing_zeros 64 m))) mask clear), trailing_mask_l stops 64 v (omega (arith, long)) (omega arith))
    ] in
    let width : i + size - i ≡ size = omega arith in
    let between_long : length (between i (i + size) d) ≡ size = length-between d i (i + size) (omega arith) ∙ width in
    list_all-from_AllPass q (between i (i + size) d) (All-from_get_or (λ x. q x ≡ true) (between i (i + size) d) 0 (λ k inside.
    let lt : k < size = omega (arith, inside, between_long) in
    let at : get_or v k 0 ≡ get_or (between i (i + size) d) k 0 = get_or-chunk i n d k 0 (omega arith) ∙ sym (get_or-between d i (i + size) k 0 (omega arith)) in
    let goes = subst (λ x. stops x ≡ false) at (not-true _ (prefix_len_passes (λ x. not (stops x)) v k 0 (omega (arith, lt, counted)))) in
    let small = subst (λ x. x < 256) (sym (get_or-between d i (i + size) k 0 (omega arith))) (fits (i + k)).fits in
    sym (ap (λ b. b || q (get_or (between i (i + size) d) k 0)) goes) ∙ agree_below_at (λ x. stops x || q x) (λ _. true) 256 (get_or (between i (i + size) d) k 0) all small))

pub nothing : {X : Type 0} (o : Option X) → is_some o ≡ false → o ≡ None
nothing None e = refl
nothing (Some x) e = absurd cc

any_octet : (octets : List ℕ) → list_all (λ octet. true) octets ≡ true
any_octet [] = refl
any_octet (x ∷ xs) = any_octet xs

-- what octets hold in profile 2 they hold in both profiles
pub right_in : (p : Named) (l : LeafType) (octets : List ℕ) → content_fault profile_two (leaf_is l) octets ≡ None → content_fault (profile_of p) (leaf_is l) octets ≡ None
right_in Two l octets h = h
right_in Module General octets h = ap (λ (b : Bool). if b then None else Some LeafFault.BadText) (any_octet octets)
right_in Module Boolean octets h = h
right_in Module Integer octets h = h
right_in Module Enumerated octets h = h
right_in Module Visible octets h = h
right_in Module Printable octets h = h
right_in Module Date octets h = h
right_in Module Time octets h = h

-- graphic octets are a text of either string
pub graphic_text : (l : LeafType) (octets : List ℕ) → IsStringType l → list_all is_graphic octets ≡ true → content_fault profile_two (leaf_is l) octets ≡ None
graphic_text l octets (inl is) h =
    subst (λ x. content_fault profile_two (leaf_is x) octets ≡ None) (sym is) (wider_content 0 general_string octets (ap (λ (b : Bool). if b then None else Some LeafFault.BadText) h))
graphic_text l octets (inr is) h =
    subst (λ x. content_fault profile_two (leaf_is x) octets ≡ None) (sym is) (ap (λ (b : Bool). if b then None else Some LeafFault.BadText) h)

-- The numbers of an OBJECT IDENTIFIER, taken from marks one after another.
use Rattle.std.proofs.Common.{◌≡◌, ◌∙◌, ℕ, ◌-◌, ◌*◌, ◌/◌, ◌&&◌, IsTrue, List, [], ◌∷◌, ◌++◌, drop, decimal, flat_map, sym, ap, subst, arith, append_assoc, append-nil}
use Rattle.std.specs.Prelude.{min}
use Rattle.std.specs.List.{list_all}
use Rattle.std.proofs.lemmas.Bool.{and_parts}
use Rattle.std.proofs.lemmas.Bool.Decides.{nat_tests}
use Rattle.ill_grammar.specs.declared.outline.Mark.{Mark}
use Rattle.ill_grammar.specs.Marks.{octets_in}
use Rattle.ill_schema.specs.Texts.{after_dot, numbers_after, oid_components, with_dots}
use Rattle.ill_grammar.specs.Identifiers.{IsFirstNumber, is_short}

-- the numbers from mark i on are those of all marks, where this one goes on
pub record Numbering (octets : List Mark) (number i : ℕ) : Type 0 where
  pub so_far : ℕ
  pub same : numbers_after 0 (octets_in octets) ≡ numbers_after so_far (octets_in (drop i octets))
  pub held : number ≡ min so_far 18_446_744_073_709_551_615

-- where all numbers are short, the next one is exact
pub exact_next : (octets rest : List ℕ) (k : ℕ) → IsFirstNumber octets k rest → IsTrue (list_all is_short (numbers_after 0 octets)) → (numbers_after 0 octets ≡ k ∷ numbers_after 0 rest) × IsTrue (list_all is_short (numbers_after 0 rest))
exact_next octets rest k h all =
    let parts : IsTrue (is_short h.0 && list_all is_short (numbers_after 0 rest)) = subst (λ ns. IsTrue (list_all is_short ns)) h.1 all in
    let p = and_parts (is_short h.0) (list_all is_short (numbers_after 0 rest)) parts in
    let few = p.0 in
    let same : h.0 ≡ k = grind (arith, nat_tests) in
    (h.1 ∙ ap (λ (n : ℕ). n ∷ numbers_after 0 rest) same, p.1)

-- ---- the text of numbers

-- the first number is two components
pub first_text : (octets rest : List ℕ) (n root : ℕ) (old one two : List ℕ) → numbers_after 0 octets ≡ n ∷ numbers_after 0 rest → root ≡ min (n / 40) 2 → one ≡ old ++ decimal root → two ≡ one ++ after_dot (n - 40 * root)
    → two ++ flat_map after_dot (numbers_after 0 rest) ≡ old ++ with_dots (oid_components (numbers_after 0 octets))
first_text octets rest n root old one two e r f g =
    let same : root ≡ min 2 (n / 40) = omega (arith, r) in
    let later = flat_map after_dot (numbers_after 0 rest) in
    let whole : with_dots (oid_components (numbers_after 0 octets)) ≡ decimal root ++ (after_dot (n - 40 * root) ++ later) =
    ap (λ numbers. with_dots (oid_components numbers)) e ∙ ap (λ (m : ℕ). decimal m ++ (after_dot (n - 40 * m) ++ later)) (sym same) in
    ap (λ (x : List ℕ). x ++ later) (g ∙ ap (λ (x : List ℕ). x ++ after_dot (n - 40 * root)) f) ∙ append_assoc (old ++ decimal root) (after_dot (n - 40 * root)) later ∙ append_assoc old (decimal root) (after_dot (n - 40 * root) ++ later) ∙ ap (λ (x : List ℕ). old ++ x) (sym whole)

pub next_text : (octets rest : List ℕ) (n : ℕ) (old new whole : List ℕ) → numbers_after 0 octets ≡ n ∷ numbers_after 0 rest → new ≡ old ++ after_dot n → old ++ flat_map after_dot (numbers_after 0 octets) ≡ whole → new ++ flat_map after_dot (numbers_after 0 rest) ≡ whole
next_text octets rest n old new whole e f g =
    let later = flat_map after_dot (numbers_after 0 rest) in
    ap (λ (x : List ℕ). x ++ later) f ∙ append_assoc old (after_dot n) later ∙ ap (λ numbers. old ++ flat_map after_dot numbers) (sym e) ∙ g

pub last_text : (octets old whole : List ℕ) → numbers_after 0 octets ≡ [] → old ++ flat_map after_dot (numbers_after 0 octets) ≡ whole → old ≡ whole
last_text octets old whole e g = sym (append-nil old) ∙ ap (λ numbers. old ++ flat_map after_dot numbers) (sym e) ∙ g

use Rattle.std.proofs.Common.{rules, arith, ◌≡◌, ℕ, [], ◌∷◌, Bool, true, false, nat_eq, None, if◌then◌else◌, sym, ap, subst, ◌∙◌}
use Rattle.ber_leaf.specs.Leaf.{boolean, content_fault, normal_content, value}
use Rattle.ill_schema.specs.Profiles.{profile_of}
use Rattle.ill_grammar.specs.LeafTypes.{leaf_is}
use Rattle.ill_grammar.specs.declared.leaf_type.LeafType.{LeafType}
use Rattle.ill_grammar.specs.declared.leaf_type.LeafType.TheVariants as code
use Rattle.ill_grammar.proofs.NormalLeaves.{no_bits, normal_as_read, normal_boolean}
use Rattle.ill_read.proofs.normal_form_draft.normal_content.Goals as goal

only_boolean : (l : LeafType) → leaf_is l ≡ boolean → l ≡ code.Boolean
only_boolean code.Boolean e = e'
  where
    e' : code.Boolean ≡ code.Boolean
    e' = λ i. code.Boolean
only_boolean _ e = absurd cc

not_zero : (a : ℕ) → (a ∷ [] ≡ 0 ∷ [] → ⊥) → nat_eq a 0 ≡ false
not_zero a h = elim (nat_eq a 0) as (λ b. nat_eq a 0 ≡ b → b ≡ false) [ true ↦ λ e. absurd (h (ap (λ n. n ∷ []) (grind (arith, e)))) | false ↦ λ e. λ i. false ] (λ i. nat_eq a 0)

pub returns-in_default : goal.returns-in_default
returns-in_default c =
    let right = c.requires.1 in
    sym (normal_as_read (profile_of c.requires.0) (leaf_is c.args.leaf) c.args.content.now (λ e. c.in_default.not-Boolean (only_boolean c.args.leaf e)) (no_bits c.args.leaf) right.0 right.1)

pub returns-then-ne : goal.returns-then-ne
returns-then-ne c =
    let o = c.args.content.now in
    let right = c.requires.1 in
    let is = ap leaf_is c.in-Boolean.is in
    let b = normal_boolean (profile_of c.requires.0) o (subst (λ l. content_fault (profile_of c.requires.0) l o ≡ None) is right.1) in
    let differs : o ≡ 0 ∷ [] → ⊥ = search rules in
    let other = not_zero b.0 (λ e. differs (b.1 ∙ e)) in
    sym (ap (λ l. normal_content (value l o)) is ∙ b.2 ∙ ap (λ (x : Bool). if x then 0 ∷ [] else 0xFF ∷ []) other)

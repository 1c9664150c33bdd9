-- The bits of segments, joined in any grouping, are the same.
use Rattle.std.proofs.Common.{◌≡◌, ℕ, Bool, true, false, ◌&&◌, List, [], ◌∷◌, ◌++◌, append_assoc, nat_eq, nat_le, arith, if◌then◌else◌, refl, sym, ap, ap₂, ◌∙◌}
use Rattle.std.proofs.lemmas.Bool.Decides.{nat_tests}
use Rattle.ber_tree.specs.Tree.{Tree, Trees, none, more}
use Rattle.ber_leaf.specs.Leaf.{is_bits}
use Rattle.ber_leaf.specs.Segments.{bits_after, join_bits, no_bits, tree_bits}
use Rattle.ill_refusals.specs.code.Step.{snoc}

-- with octets before its own, a content of bits is one still
few_unused : (w : ℕ) → nat_eq w 0 ≡ true → nat_le w 7 ≡ true
few_unused w h = grind (arith, nat_tests, h)

bits_behind : (w : ℕ) (ps qs : List ℕ) → is_bits (w ∷ qs) ≡ true → is_bits (w ∷ ps ++ qs) ≡ true
bits_behind w [] qs h = h
bits_behind w (p ∷ ps) [] h = few_unused w h
bits_behind w (p ∷ ps) (q ∷ qs) h = h

bits_whole : (u : ℕ) (ps : List ℕ) → nat_eq u 0 ≡ true → is_bits (u ∷ ps) ≡ true
bits_whole u [] h = h
bits_whole u (p ∷ ps) h = few_unused u h

-- after what is no bits come none
join_none : (c : List ℕ) → join_bits no_bits c ≡ no_bits
join_none [] = refl
join_none (w ∷ qs) = refl

none_joined : (a : List ℕ) → join_bits a no_bits ≡ no_bits
none_joined [] = refl
none_joined (u ∷ os) = ap (λ b. if b then 8 ∷ os ++ [] else no_bits) (no-and (nat_eq u 0))
  where
    no-and : (b : Bool) → (b && false) ≡ false
    no-and true = refl
    no-and false = refl

empty_joined : (a : List ℕ) → join_bits a [] ≡ no_bits
empty_joined [] = refl
empty_joined (u ∷ os) = refl

pub join_assoc : (a b c : List ℕ) → join_bits a (join_bits b c) ≡ join_bits (join_bits a b) c
join_assoc [] b c = sym (join_none c)
join_assoc (u ∷ os) [] c = none_joined (u ∷ os) ∙ sym (join_none c)
join_assoc (u ∷ os) (v ∷ ps) [] = none_joined (u ∷ os) ∙ sym (empty_joined (join_bits (u ∷ os) (v ∷ ps)))
join_assoc (u ∷ os) (v ∷ ps) (w ∷ qs) = go (nat_eq u 0) (nat_eq v 0) (is_bits (w ∷ qs)) refl refl refl
  where
    -- two contents that are joined
    pair : (u v : ℕ) (os ps : List ℕ) (b : Bool) → (nat_eq u 0 && is_bits (v ∷ ps)) ≡ b → join_bits (u ∷ os) (v ∷ ps) ≡ (if b then v ∷ os ++ ps else no_bits)
    pair u v os ps b e = ap (λ b. if b then v ∷ os ++ ps else no_bits) e

    apart : (b c : Bool) → b ≡ false → (b && c) ≡ false
    apart b c e = ap (λ x. x && c) e

    ended : (b c : Bool) → c ≡ false → (b && c) ≡ false
    ended true c e = e
    ended false c e = refl

    with_none : join_bits (u ∷ os) (join_bits (v ∷ ps) (w ∷ qs)) ≡ join_bits (u ∷ os) no_bits → (d : Bool) → (nat_eq u 0 && is_bits (v ∷ ps)) ≡ d → (d ≡ true → (nat_eq v 0 && is_bits (w ∷ qs)) ≡ false)
        → join_bits (u ∷ os) (join_bits (v ∷ ps) (w ∷ qs)) ≡ join_bits (join_bits (u ∷ os) (v ∷ ps)) (w ∷ qs)
    with_none e true d h = e ∙ none_joined (u ∷ os) ∙ sym (ap (λ x. join_bits x (w ∷ qs)) (pair u v os ps true d) ∙ pair v w (os ++ ps) qs false (h refl))
    with_none e false d h = e ∙ none_joined (u ∷ os) ∙ sym (ap (λ x. join_bits x (w ∷ qs)) (pair u v os ps false d))

    go : (x y z : Bool) → nat_eq u 0 ≡ x → nat_eq v 0 ≡ y → is_bits (w ∷ qs) ≡ z → join_bits (u ∷ os) (join_bits (v ∷ ps) (w ∷ qs)) ≡ join_bits (join_bits (u ∷ os) (v ∷ ps)) (w ∷ qs)
    go true true true x y z =
        let first : join_bits (u ∷ os) (v ∷ ps) ≡ v ∷ os ++ ps = pair u v os ps true (ap₂ ◌&&◌ x (bits_whole v ps y)) in
        let last : join_bits (v ∷ ps) (w ∷ qs) ≡ w ∷ ps ++ qs = pair v w ps qs true (ap₂ ◌&&◌ y z) in
        ap (join_bits (u ∷ os)) last ∙ pair u w os (ps ++ qs) true (ap₂ ◌&&◌ x (bits_behind w ps qs z)) ∙ ap (λ rest. w ∷ rest) (sym (append_assoc os ps qs))
        ∙ sym (ap (λ a. join_bits a (w ∷ qs)) first ∙ pair v w (os ++ ps) qs true (ap₂ ◌&&◌ y z))
    go true true false x y z = with_none (ap (join_bits (u ∷ os)) (pair v w ps qs false (ended (nat_eq v 0) _ z))) _ refl (λ d. ended (nat_eq v 0) _ z)
    go true false z' x y z = with_none (ap (join_bits (u ∷ os)) (pair v w ps qs false (apart (nat_eq v 0) _ y))) _ refl (λ d. apart (nat_eq v 0) _ y)
    go false y' z' x y z =
        never (join_bits (v ∷ ps) (w ∷ qs)) ∙ sym (ap (λ a. join_bits a (w ∷ qs)) (pair u v os ps false (apart (nat_eq u 0) _ x)) ∙ join_none (w ∷ qs))
      where
        never : (a : List ℕ) → join_bits (u ∷ os) a ≡ no_bits
        never [] = refl
        never (v ∷ ps) = pair u v os ps false (apart (nat_eq u 0) _ x)

-- the bits of segments, behind a content
pub bits_joined : (a c : List ℕ) (ts : Trees) → join_bits a (bits_after c ts) ≡ bits_after (join_bits a c) ts
bits_joined a c none = refl
bits_joined a c (more T ts) = bits_joined a (join_bits c (tree_bits T)) ts ∙ ap (λ x. bits_after x ts) (join_assoc a c (tree_bits T))

-- one segment more
pub bits_more : (c : List ℕ) (ts : Trees) (T : Tree) → bits_after c (snoc ts T) ≡ join_bits (bits_after c ts) (tree_bits T)
bits_more c none T = refl
bits_more c (more U ts) T = bits_more (join_bits c (tree_bits U)) ts T

-- Foreign trees at the front of octets.
use Rattle.std.proofs.Common.{◌≡◌, ℕ, zero, suc, ◌<◌, Bool, true, false, List, [], ◌∷◌, ◌++◌, length, IsTrue, refl, sym, ap, subst, ◌∙◌, arith, append-nil, true≢false}
use Rattle.std.proofs.lemmas.Bool.{and_parts}
use Rattle.ber_tree.specs.Identifier.{Tag, identifier, HasIdentifier}
use Rattle.ber_tree.specs.Length.{shortest_length}
use Rattle.ber_tree.specs.Octets.{are_octets}
use Rattle.ber_tree.specs.Tree.{Tree, Trees, primitive, constructed, none, more}
use Rattle.ber_core.specs.Der.{encoding, encodings}
use Rattle.ber_core.specs.Foreign.{is_foreign, are_foreign}
use Rattle.ber_core.proofs.Foreign.{both, foreign_identified, has_identified, identified_has}
use Rattle.ber_core.proofs.ReadOctets.{octets_left, octets_right}
use Rattle.ber_foreign.specs.Fronts.{AreTrees, BeginsWithElement, BeginsWithTree, element_octets}
use Rattle.ber_foreign.proofs.Once.{element_parts, element_unique, encoding_some, same_tree}

-- a primitive element is a tree
pub primitive_tree : (n : ℕ) (octets behind contents : List ℕ) (t : Tag) (f : Bool) → HasIdentifier t f → f ≡ false → IsTrue (are_octets octets) → octets ≡ element_octets t f contents ++ behind → BeginsWithTree (suc n) octets behind
primitive_tree n octets behind contents t f h form ok e =
    let parts : IsTrue (are_octets (identifier t f ++ (shortest_length (length contents) ++ (contents ++ behind)))) = subst (λ z. IsTrue (are_octets z)) (e ∙ element_parts t f contents behind) ok in
    let inner : IsTrue (are_octets contents) = octets_left contents behind (octets_right (shortest_length (length contents)) _ (octets_right (identifier t f) _ parts)) in
    (primitive t contents, both _ _ (has_identified t false (subst (HasIdentifier t) form h)) inner, e ∙ ap (λ g. element_octets t g contents ++ behind) form)

-- a constructed element of trees is a tree
pub constructed_tree : (n : ℕ) (octets behind contents : List ℕ) (t : Tag) (f : Bool) → HasIdentifier t f → f ≡ true → AreTrees n contents → octets ≡ element_octets t f contents ++ behind → BeginsWithTree (suc n) octets behind
constructed_tree n octets behind contents t f h form trees e = (
  constructed t trees.0,
  both _ _ (has_identified t true (subst (HasIdentifier t) form h)) trees.1,
  e ∙ ap (λ g. element_octets t g contents ++ behind) form ∙ ap (λ z. element_octets t true z ++ behind) trees.2,
)

-- a constructed element of other octets is none
pub no_tree : (n : ℕ) (octets behind contents : List ℕ) (t : Tag) (f : Bool) → HasIdentifier t f → f ≡ true → (AreTrees n contents → ⊥) → octets ≡ element_octets t f contents ++ behind → (rest : List ℕ) → BeginsWithTree (suc n) octets rest → ⊥
no_tree n octets behind contents t f h form wrong e rest tree = by tree.0 tree.1 tree.2
  where
    by : (T : Tree) → IsTrue (is_foreign (suc n) T) → octets ≡ encoding T ++ rest → ⊥
    by (primitive s a) k d =
        let u = element_unique t s f false contents a behind rest h (identified_has s false (and_parts _ _ k).0) (sym e ∙ d) in true≢false (sym form ∙ u.1)
    by (constructed s ss) k d =
        let p = and_parts _ _ k in
        let u = element_unique t s f true contents (encodings ss) behind rest h (identified_has s true p.0) (sym e ∙ d) in
        wrong (ss, p.1, u.2)

-- where no element begins, no tree does
pub no_element : (n : ℕ) (octets : List ℕ) → (BeginsWithElement octets → ⊥) → (rest : List ℕ) → BeginsWithTree n octets rest → ⊥
no_element n octets wrong rest tree = by n tree.0 tree.1 tree.2
  where
    by : (n : ℕ) (T : Tree) → IsTrue (is_foreign n T) → octets ≡ encoding T ++ rest → ⊥
    by zero T k d = absurd cc
    by (suc n) (primitive s a) k d = wrong (s, false, a, rest, identified_has s false (and_parts _ _ k).0, d)
    by (suc n) (constructed s ss) k d = wrong (s, true, encodings ss, rest, identified_has s true (and_parts _ _ k).0, d)

-- one tree and others are trees
pub tree_before : (n : ℕ) (left behind : List ℕ) → BeginsWithTree n left behind → AreTrees n behind → AreTrees n left
tree_before n left behind tree trees = (more tree.0 trees.0, both _ _ tree.1 trees.1, tree.2 ∙ ap (λ z. encoding tree.0 ++ z) trees.2)

-- and are those of no other list
pub trees_behind : (n : ℕ) (left behind : List ℕ) → BeginsWithTree n left behind → AreTrees n left → AreTrees n behind
trees_behind n left behind tree trees = by trees.0 trees.1 trees.2
  where
    by : (ts : Trees) → IsTrue (are_foreign n ts) → left ≡ encodings ts → AreTrees n behind
    by none k d = absurd (omega (arith, encoding_some tree.0 behind (foreign_identified n tree.0 tree.1), ap length (sym tree.2 ∙ d)))
    by (more T ts) k d =
        let p = and_parts _ _ k in
        let u = same_tree tree.0 T behind (encodings ts) (foreign_identified n tree.0 tree.1) (foreign_identified n T p.0) (sym tree.2 ∙ d) in
        (ts, p.1, u.1)

-- octets that are trees begin with one
pub first_tree : (n : ℕ) (left : List ℕ) → 0 < length left → AreTrees n left → (behind : List ℕ) × BeginsWithTree n left behind
first_tree n left some trees = by trees.0 trees.1 trees.2
  where
    by : (ts : Trees) → IsTrue (are_foreign n ts) → left ≡ encodings ts → (behind : List ℕ) × BeginsWithTree n left behind
    by none k d = absurd (omega (arith, some, ap length d))
    by (more T ts) k d = (encodings ts, (T, (and_parts _ _ k).0, d))

-- no octet is no tree
pub no_trees : (n : ℕ) (left : List ℕ) → length left ≡ 0 → AreTrees n left
no_trees n [] e = (none, refl, refl)
no_trees n (a ∷ left) e = absurd (omega (arith, e))

-- one tree has one rest
pub one_rest : (n : ℕ) (octets behind : List ℕ) → BeginsWithTree n octets behind → (T : Tree) → IsTrue (is_foreign n T) → octets ≡ encoding T → length behind ≡ 0
one_rest n octets behind tree T h e =
    let u = same_tree tree.0 T behind [] (foreign_identified n tree.0 tree.1) (foreign_identified n T h) (sym tree.2 ∙ e ∙ sym (append-nil (encoding T))) in
    ap length u.1

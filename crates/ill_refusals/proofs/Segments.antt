-- The content of a string in segments: it is octets, and no longer than its segments.
use Rattle.std.proofs.Common.{ℕ, ◌+◌, ◌-◌, ◌≤◌, Bool, true, false, ◌&&◌, nat_eq, List, [], ◌∷◌, ◌++◌, length, length-append, IsTrue, refl, subst, inl, inr, arith, if◌then◌else◌}
use Rattle.ber_tree.specs.Identifier.{Tag, identifier}
use Rattle.ber_tree.specs.Octets.{are_octets}
use Rattle.ber_tree.specs.Tree.{Tree, Trees, primitive, constructed, none, more, Spells, SpellsAll, text, text_all}
use Rattle.ber_leaf.specs.Leaf.{Leaf, bit_string, is_bits}
use Rattle.ber_leaf.specs.Segments.{no_bits, join_bits, tree_bits, bits_after, segments_content}
use Rattle.ber_core.proofs.ReadOctets.{octets_left, octets_right, octets_join}

-- the contents octets of an encoding that is octets
contents_octets : (tag : Tag) (ts : Trees) (b : List ℕ) → (h : Spells (constructed tag ts) b) → IsTrue (are_octets b) → IsTrue (are_octets h.0)
contents_octets tag ts b h o = elim h.2 [
  | inl i ↦ octets_right i.octets h.0 (octets_right (identifier tag true) (i.octets ++ h.0) (subst (λ z. IsTrue (are_octets z)) i.joined o))
  | inr i ↦ octets_left h.0 (0 ∷ 0 ∷ []) (octets_right (128 ∷ []) (h.0 ++ 0 ∷ 0 ∷ []) (octets_right (identifier tag true) (128 ∷ h.0 ++ 0 ∷ 0 ∷ []) (subst (λ z. IsTrue (are_octets z)) i.joined o)))
]

-- the text of what octets spell is of octets
mutual
  text_octets : (T : Tree) (b : List ℕ) → Spells T b → IsTrue (are_octets b) → IsTrue (are_octets (text T))
  text_octets (primitive tag octets) b h o =
      octets_right h.octets octets (octets_right (identifier tag false) (h.octets ++ octets) (subst (λ z. IsTrue (are_octets z)) h.joined o))
  text_octets (constructed tag ts) b h o = texts_octets ts h.0 h.1 (contents_octets tag ts b h o)

  texts_octets : (ts : Trees) (b : List ℕ) → SpellsAll ts b → IsTrue (are_octets b) → IsTrue (are_octets (text_all ts))
  texts_octets none b h o = refl
  texts_octets (more T ts) b h o =
      let q = subst (λ z. IsTrue (are_octets z)) h.4 o in
      octets_join (text T) (text_all ts) (text_octets T h.0 h.2 (octets_left h.0 h.1 q)) (texts_octets ts h.1 h.3 (octets_right h.0 h.1 q))

-- joined octets are octets
join_octets : (a b : List ℕ) → IsTrue (are_octets a) → IsTrue (are_octets b) → IsTrue (are_octets (join_bits a b))
join_octets [] b h k = refl
join_octets (u ∷ a) [] h k = refl
join_octets (u ∷ a) (v ∷ b) h k = go (nat_eq u 0 && is_bits (v ∷ b))
  where
    go : (x : Bool) → IsTrue (are_octets (if x then v ∷ a ++ b else no_bits))
    go true = octets_join (v ∷ []) (a ++ b) (octets_left (v ∷ []) b k) (octets_join a b (octets_right (u ∷ []) a h) (octets_right (v ∷ []) b k))
    go false = refl

mutual
  tree_bits_octets : (T : Tree) (b : List ℕ) → Spells T b → IsTrue (are_octets b) → IsTrue (are_octets (tree_bits T))
  tree_bits_octets (primitive tag octets) b h o = text_octets (primitive tag octets) b h o
  tree_bits_octets (constructed tag ts) b h o = bits_after_octets (0 ∷ []) ts h.0 refl h.1 (contents_octets tag ts b h o)

  bits_after_octets : (c : List ℕ) (ts : Trees) (b : List ℕ) → IsTrue (are_octets c) → SpellsAll ts b → IsTrue (are_octets b) → IsTrue (are_octets (bits_after c ts))
  bits_after_octets c none b k h o = k
  bits_after_octets c (more T ts) b k h o =
      let q = subst (λ z. IsTrue (are_octets z)) h.4 o in
      bits_after_octets (join_bits c (tree_bits T)) ts h.1 (join_octets c (tree_bits T) k (tree_bits_octets T h.0 h.2 (octets_left h.0 h.1 q))) h.3 (octets_right h.0 h.1 q)

-- the content of segments that octets spell is of octets
pub segments_octets : (l : Leaf) (ts : Trees) (b : List ℕ) → SpellsAll ts b → IsTrue (are_octets b) → IsTrue (are_octets (segments_content l ts))
segments_octets bit_string ts b h o = bits_after_octets (0 ∷ []) ts b refl h o
segments_octets _ ts b h o = texts_octets ts b h o

length-join : (a b : List ℕ) → 1 ≤ length a → (length (join_bits a b) ≤ length a + (length b - 1)) × (1 ≤ length (join_bits a b))
length-join [] b h = absurd (omega (arith, h))
length-join (u ∷ a) [] h = (omega arith, omega arith)
length-join (u ∷ a) (v ∷ b) h = go (nat_eq u 0 && is_bits (v ∷ b))
  where
    go : (x : Bool) → (length (if x then v ∷ a ++ b else no_bits) ≤ length (u ∷ a) + (length (v ∷ b) - 1)) × (1 ≤ length (if x then v ∷ a ++ b else no_bits))
    go true = (omega (arith, length-append a b), omega arith)
    go false = (omega arith, omega arith)

mutual
  length-tree_bits : (T : Tree) → length (tree_bits T) ≤ 1 + length (text T)
  length-tree_bits (primitive tag octets) = omega arith
  length-tree_bits (constructed tag ts) = let n = length-bits_after (0 ∷ []) ts (omega arith) in omega (arith, n)

  -- segments only add
  pub length-bits_after : (c : List ℕ) (ts : Trees) → 1 ≤ length c → length (bits_after c ts) ≤ length c + length (text_all ts)
  length-bits_after c none h = omega arith
  length-bits_after c (more T ts) h =
      let j = length-join c (tree_bits T) h in let j0 = j.0 in
      let t = length-tree_bits T in
      let r = length-bits_after (join_bits c (tree_bits T)) ts j.1 in
      omega (arith, j0, t, r, length-append (text T) (text_all ts))

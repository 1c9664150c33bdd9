-- Encodings in DER say their trees, and where they end.
use Rattle.std.proofs.Common.{◌≡◌, ℕ, ◌<◌, Bool, true, false, List, [], ◌++◌, length, IsTrue, refl, sym, ap, ap₂, ◌∙◌, arith, append_assoc, length-append, true≢false}
use Rattle.ber_tree.specs.Identifier.{Tag, identifier, HasIdentifier}
use Rattle.ber_tree.specs.Length.{shortest_length}
use Rattle.ber_tree.specs.Tree.{Tree, Trees, primitive, constructed, none, more}
use Rattle.ber_tree.proofs.Lists.{fronts}
use Rattle.ber_core.specs.Der.{encoding, encodings, HasIdentifiers, HaveIdentifiers}
use Rattle.ber_core.specs.Foreign.{foreign_levels, is_foreign}
use Rattle.ber_core.proofs.Foreign.{foreign_identified}
use Rattle.ber_core.proofs.Identifiers.{identifier_unique}
use Rattle.ber_foreign.specs.Fronts.{element_octets}
use Rattle.ber_foreign.proofs.Identifiers.{identifier_count}
use Rattle.ber_foreign.proofs.FewestOctets.{shortest_unique}

-- an element and what is behind it, part by part
pub element_parts : (t : Tag) (f : Bool) (a x : List ℕ) → element_octets t f a ++ x ≡ identifier t f ++ (shortest_length (length a) ++ (a ++ x))
element_parts t f a x = append_assoc (identifier t f) (shortest_length (length a) ++ a) x ∙ ap (λ z. identifier t f ++ z) (append_assoc (shortest_length (length a)) a x)

-- an element says its tag, form and contents, and where it ends
pub element_unique : (s t : Tag) (f g : Bool) (a b x y : List ℕ) → HasIdentifier s f → HasIdentifier t g → element_octets s f a ++ x ≡ element_octets t g b ++ y → (s ≡ t) × (f ≡ g) × (a ≡ b) × (x ≡ y)
element_unique s t f g a b x y h k e =
    let i = identifier_unique s t f g _ _ h k (sym (element_parts s f a x) ∙ e ∙ element_parts t g b y) in
    let l = shortest_unique (length a) (length b) (a ++ x) (b ++ y) i.2 in
    let c = fronts a b x y l.0 l.1 in
    (i.0, i.1, c.0, c.1)

-- an element has an octet
pub element_some : (t : Tag) (f : Bool) (a x : List ℕ) → HasIdentifier t f → 0 < length (element_octets t f a ++ x)
element_some t f a x h = omega (arith, ap length (element_parts t f a x), length-append (identifier t f) (shortest_length (length a) ++ (a ++ x)), (identifier_count t f h).0)

-- so has an encoding
pub encoding_some : (T : Tree) (x : List ℕ) → HasIdentifiers T → 0 < length (encoding T ++ x)
encoding_some (primitive t a) x h = element_some t false a x h
encoding_some (constructed t ts) x h = element_some t true (encodings ts) x h.0

-- an encoding says its tree, and where it ends
mutual
  pub same_tree : (T U : Tree) (x y : List ℕ) → HasIdentifiers T → HasIdentifiers U → encoding T ++ x ≡ encoding U ++ y → (T ≡ U) × (x ≡ y)
  same_tree (primitive s a) (primitive t b) x y h k e = let u = element_unique s t false false a b x y h k e in (ap₂ primitive u.0 u.2, u.3)
  same_tree (primitive s a) (constructed t ts) x y h k e = absurd (true≢false (sym (element_unique s t false true a (encodings ts) x y h k.0 e).1))
  same_tree (constructed s ss) (primitive t b) x y h k e = absurd (true≢false (element_unique s t true false (encodings ss) b x y h.0 k e).1)
  same_tree (constructed s ss) (constructed t ts) x y h k e =
      let u = element_unique s t true true (encodings ss) (encodings ts) x y h.0 k.0 e in
      (ap₂ constructed u.0 (same_trees ss ts h.1 k.1 u.2), u.3)

  pub same_trees : (ss ts : Trees) → HaveIdentifiers ss → HaveIdentifiers ts → encodings ss ≡ encodings ts → ss ≡ ts
  same_trees none none h k e = refl
  same_trees none (more T ts) h k e = absurd (omega (arith, encoding_some T (encodings ts) k.0, ap length e))
  same_trees (more S ss) none h k e = absurd (omega (arith, encoding_some S (encodings ss) h.0, ap length e))
  same_trees (more S ss) (more T ts) h k e =
      let u = same_tree S T (encodings ss) (encodings ts) h.0 k.0 e in
      ap₂ more u.0 (same_trees ss ts h.1 k.1 u.1)

-- a foreign tree is all that its encoding says
pub encoding_once : (T U : Tree) → IsTrue (is_foreign foreign_levels T) → IsTrue (is_foreign foreign_levels U) → encoding T ≡ encoding U → T ≡ U
encoding_once T U h k e =
    (same_tree T U [] [] (foreign_identified foreign_levels T h) (foreign_identified foreign_levels U k) (ap (λ z. z ++ []) e)).0

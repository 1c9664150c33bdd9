-- Octets begin with at most one framed element, and encodings are framed.
use Rattle.std.proofs.Common.{◌≡◌, ◌≢◌, ℕ, zero, suc, ◌+◌, ◌%◌, ◌<◌, ◌≤◌, Bool, true, false, List, [], ◌∷◌, ◌++◌, length, refl, sym, ap, subst, ◌∙◌, arith, inl, inr, append_assoc, append-nil, length-append, lit<, nat_eq, true≢false}
use Rattle.std.proofs.lemmas.List.{append_cancel_right}
use Rattle.ber_tree.specs.declared.class.Class.{Class}
use Rattle.ber_tree.specs.declared.class.Class.TheVariants.{Universal, Application, Context, Private}
use Rattle.ber_tree.specs.Identifier.{Tag, class_bits, form_bit, identifier, HasIdentifier}
use Rattle.ber_tree.specs.Tree.{Tree, Trees, primitive, constructed, none, more, Spells, SpellsAll, IsDefinite, depth, depth_all}
use Rattle.ber_core.proofs.Identifiers.{Digits, one, two, three, four, Identified, identified, leading_unique}
use Rattle.ber_core.proofs.Identifiers as id
use Rattle.ber_core.proofs.Lengths.{length_unique}
use Rattle.ber_tree.proofs.Lists.{cells, fronts}
use Rattle.ber_core.proofs.Trees.{no_length_128}
use Rattle.ber_framing.specs.declared.framer.Framing.{Framing}
use Rattle.ber_framing.specs.declared.framer.Framing.TheVariants.{Part, Whole, Unframed}
use Rattle.ber_framing.specs.Framed.{is_constructed, IsTagNumber, last, IsIdentifier, low, high, IsFramed, definite, indefinite, AreFramed, next, IsFrame, IsPartOfFrame, IsUnframed}
use Rattle.ber_framing.specs.Framed as framed
use Rattle.ber_framing.specs.Framer.{HasFraming}
use Rattle.ber_framing.proofs.FrameSteps.{begins}

number_unique : (a b x y : List ℕ) → IsTagNumber a → IsTagNumber b → a ++ x ≡ b ++ y → x ≡ y
number_unique a b x y (last h) (last k) e = (cells e).1
number_unique a b x y (last h) (framed.more k _) e = let c = cells e in absurd (omega (arith, c.0, h, k))
number_unique a b x y (framed.more h _) (last k) e = let c = cells e in absurd (omega (arith, c.0, h, k))
number_unique a b x y (framed.more {rest = m} _ h) (framed.more {rest = n} _ k) e = number_unique m n x y h k ((cells e).1)

pub id_unique : (f g : Bool) (a b x y : List ℕ) → IsIdentifier f a → IsIdentifier g b → a ++ x ≡ b ++ y → x ≡ y
id_unique f g a b x y (low _ _ _) (low _ _ _) e = (cells e).1
id_unique f g a b x y (low _ n _) (high m _ _) e = absurd (n (ap (λ (k : ℕ). k % 32) ((cells e).0) ∙ m))
id_unique f g a b x y (high m _ _) (low _ n _) e = absurd (n (ap (λ (k : ℕ). k % 32) (sym ((cells e).0)) ∙ m))
id_unique f g a b x y (high {number = m} _ _ h) (high {number = n} _ _ k) e = number_unique m n x y h k ((cells e).1)

three_parts : (a i o c x : List ℕ) → a ≡ i ++ (o ++ c) → a ++ x ≡ i ++ (o ++ (c ++ x))
three_parts a i o c x e = ap (λ z. z ++ x) e ∙ simp append_assoc

marked : (a i c x : List ℕ) → a ≡ i ++ (128 ∷ (c ++ 0 ∷ 0 ∷ [])) → a ++ x ≡ i ++ (128 ∷ (c ++ 0 ∷ 0 ∷ x))
marked a i c x e = ap (λ z. z ++ x) e ∙ simp append_assoc

mutual
  pub unique : (d e : ℕ) (a b x y : List ℕ) → IsFramed d a → IsFramed e b → a ++ x ≡ b ++ y → x ≡ y
  unique d e a b x y (definite {form = f} {id = i} {octets = os} c h l _ p) (definite {form = g} {id = j} {octets = ps} k m n _ q) z =
      let r = id_unique f g i j _ _ h m (sym (three_parts a i os c x p) ∙ z ∙ three_parts b j ps k y q) in
      let s = length_unique (length c) (length k) os ps _ _ l n r in
      (fronts c k x y s.0 s.2).1
  unique d e a b x y (definite {form = f} {id = i} {octets = os} c h l _ p) (indefinite {id = j} {contents = k} m _ q) z =
      absurd (no_length_128 (length c) os _ _ l (id_unique f true i j _ _ h m (sym (three_parts a i os c x p) ∙ z ∙ marked b j k y q)))
  unique d e a b x y (indefinite {id = i} {contents = c} h _ p) (definite {form = g} {id = j} {octets = ps} k m n _ q) z =
      absurd (no_length_128 (length k) ps _ _ n (id_unique g true j i _ _ m h (sym (three_parts b j ps k y q) ∙ sym z ∙ marked a i c x p)))
  unique d e a b x y (indefinite {deep = d'} {id = i} {contents = c} h v p) (indefinite {deep = e'} {id = j} {contents = k} m w q) z =
      let r = id_unique true true i j _ _ h m (sym (marked a i c x p) ∙ z ∙ marked b j k y q) in
      all_unique d' e' c k x y v w ((cells r).1)

  all_unique : (d e : ℕ) (a b x y : List ℕ) → AreFramed d a → AreFramed e b → a ++ 0 ∷ 0 ∷ x ≡ b ++ 0 ∷ 0 ∷ y → x ≡ y
  all_unique d e a b x y framed.none framed.none z = (cells ((cells z).1)).1
  all_unique d e a b x y framed.none (next {x = v} {y = w} h k q) z =
      absurd (begins e v (w ++ 0 ∷ 0 ∷ y) (0 ∷ x) 0 h (z ∙ ap (λ l. l ++ 0 ∷ 0 ∷ y) q ∙ append_assoc v w (0 ∷ 0 ∷ y)) refl)
  all_unique d e a b x y (next {x = v} {y = w} h k q) framed.none z =
      absurd (begins d v (w ++ 0 ∷ 0 ∷ x) (0 ∷ y) 0 h (sym z ∙ ap (λ l. l ++ 0 ∷ 0 ∷ x) q ∙ append_assoc v w (0 ∷ 0 ∷ x)) refl)
  all_unique d e a b x y (next {x = v} {y = w} h k q) (next {x = t} {y = u} m n r) z =
      let s : w ++ 0 ∷ 0 ∷ x ≡ u ++ 0 ∷ 0 ∷ y =
      unique d e v t _ _ h m (sym (append_assoc v w (0 ∷ 0 ∷ x)) ∙ sym (ap (λ l. l ++ 0 ∷ 0 ∷ x) q) ∙ z ∙ ap (λ l. l ++ 0 ∷ 0 ∷ y) r ∙ append_assoc t u (0 ∷ 0 ∷ y)) in
      all_unique d e w u x y k n s

pub one_frame : (a b x y : List ℕ) → IsFrame a → IsFrame b → a ++ x ≡ b ++ y → a ≡ b
one_frame a b x y h k e =
    let r = unique _ _ a b x y h k e in append_cancel_right a b y (ap (λ z. a ++ z) (sym r) ∙ e)

pub part_and_whole : {A : Type 0} (b : List ℕ) → IsPartOfFrame b → IsFrame b → A
part_and_whole b p h =
    let e : p.0 ≡ [] = unique _ _ b (b ++ p.0) p.0 [] h p.2 (sym (append-nil (b ++ p.0))) in absurd (p.1 e)

part_and_unframed : {A : Type 0} (b : List ℕ) → IsPartOfFrame b → IsUnframed b → A
part_and_unframed b p h = absurd (h p.0 p.2)

whole_and_unframed : {A : Type 0} (b : List ℕ) → IsFrame b → IsUnframed b → A
whole_and_unframed b p h = absurd (h [] (subst IsFrame (sym (append-nil b)) p))

pub one_judgment : (b : List ℕ) (r s : Framing) → HasFraming b r → HasFraming b s → r ≡ s
one_judgment b Part Part h k = refl
one_judgment b Part Whole h k = part_and_whole b h k
one_judgment b Part Unframed h k = part_and_unframed b h k
one_judgment b Whole Part h k = part_and_whole b k h
one_judgment b Whole Whole h k = refl
one_judgment b Whole Unframed h k = whole_and_unframed b h k
one_judgment b Unframed Part h k = part_and_unframed b k h
one_judgment b Unframed Whole h k = whole_and_unframed b k h
one_judgment b Unframed Unframed h k = refl

-- ---- encodings

digits_are_number : (n : ℕ) (octets : List ℕ) → Digits n octets → IsTagNumber octets
digits_are_number n octets (one h) = last h
digits_are_number n octets (two a b _ _ h _) = framed.more (omega arith) (last h)
digits_are_number n octets (three a b c _ _ _ h _) = framed.more (omega arith) (framed.more (omega arith) (last h))
digits_are_number n octets (four a b c d _ _ _ _ h _) = framed.more (omega arith) (framed.more (omega arith) (framed.more (omega arith) (last h)))

abbrev bit : Bool → ℕ
bit false = 0
bit true = 1

tests : (f : Bool) (k : ℕ) → k ≡ bit f → f ≡ nat_eq k 1
tests false k e = subst (λ z. false ≡ nat_eq z 1) (sym e) refl
tests true k e = subst (λ z. true ≡ nat_eq z 1) (sym e) refl

-- bit 6, and bits 5 to 1
form_is : (c : Class) (f : Bool) (n : ℕ) → n < 32 → (f ≡ is_constructed (class_bits c + form_bit f + n)) × ((class_bits c + form_bit f + n) % 32 ≡ n)
form_is Universal false n h = (tests false _ (omega arith), omega arith)
form_is Universal true n h = (tests true _ (omega arith), omega arith)
form_is Application false n h = (tests false _ (omega arith), omega arith)
form_is Application true n h = (tests true _ (omega arith), omega arith)
form_is Context false n h = (tests false _ (omega arith), omega arith)
form_is Context true n h = (tests true _ (omega arith), omega arith)
form_is Private false n h = (tests false _ (omega arith), omega arith)
form_is Private true n h = (tests true _ (omega arith), omega arith)

first_some : (c : Class) (f : Bool) (n : ℕ) → n < 31 → (c ≡ Universal → n ≡ 0 → f ≡ true) → class_bits c + form_bit f + n ≢ 0
first_some c f n h k e =
    let u = leading_unique c Universal f false n 0 (omega (arith, h)) (lit< tt) e in true≢false (sym (k u.0 u.2) ∙ u.1)

is_id : (tag : Tag) (f : Bool) (a : List ℕ) → HasIdentifier tag f → Identified tag f a → IsIdentifier f a
is_id tag f a h (id.low k) =
    let p = form_is tag.class f tag.number (omega (arith, k)) in
    low (first_some tag.class f tag.number k h.not_end) (λ e. omega (arith, p.1, e, k)) p.0
is_id tag f a h (id.high {octets = os} k d) =
    let p = form_is tag.class f 31 (lit< tt) in high p.1 p.0 (digits_are_number tag.number os d)

pub identifier_is : (tag : Tag) (f : Bool) → HasIdentifier tag f → IsIdentifier f (identifier tag f)
identifier_is tag f h = is_id tag f (identifier tag f) h (identified tag f h)

definite_framed : (deep : ℕ) (tag : Tag) (f : Bool) (contents b : List ℕ) → IsDefinite tag f contents b → length b ≤ 4_294_967_294 → IsFramed deep b
definite_framed deep tag f contents b h le =
    definite contents (identifier_is tag f h.has_identifier) h.spell_length
    (omega (arith, le, ap length h.joined, length-append (identifier tag f) (h.octets ++ contents), length-append h.octets contents)) h.joined

mutual
  pub tree_framed : (t : Tree) (deep : ℕ) (b : List ℕ) → Spells t b → length b ≤ 4_294_967_294 → depth t ≤ deep → IsFramed deep b
  tree_framed (primitive tag octets) deep b h le d = definite_framed deep tag false octets b h le
  tree_framed (constructed tag trees) zero b h le d = absurd (omega (arith, d))
  tree_framed (constructed tag trees) (suc deep) b h le d = elim h.2 [
    | inl k ↦ definite_framed (suc deep) tag true h.0 b k le
    | inr k ↦ indefinite (identifier_is tag true k.has_identifier)
        (trees_framed trees deep h.0 h.1
        (omega (arith, le, ap length k.joined, length-append (identifier tag true) (128 ∷ (h.0 ++ 0 ∷ 0 ∷ [])), length-append h.0 (0 ∷ 0 ∷ []))) (omega (arith, d)))
        k.joined
  ]

  trees_framed : (ts : Trees) (deep : ℕ) (b : List ℕ) → SpellsAll ts b → length b ≤ 4_294_967_294 → depth_all ts ≤ deep → AreFramed deep b
  trees_framed none deep b h le d = subst (AreFramed deep) (sym h) framed.none
  trees_framed (more t ts) deep b h le d =
      let size : length b ≡ length h.0 + length h.1 = ap length h.4 ∙ length-append h.0 h.1 in
      next (tree_framed t deep h.0 h.2 (omega (arith, le, size)) (omega (arith, d))) (trees_framed ts deep h.1 h.3 (omega (arith, le, size)) (omega (arith, d))) h.4

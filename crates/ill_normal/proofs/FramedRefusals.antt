-- A framed element isn't refused as Truncated.
use Rattle.std.proofs.Common.{◌≡◌, ◌⊎◌, ℕ, zero, suc, ◌+◌, ◌*◌, ◌-◌, ◌%◌, ◌<◌, ◌≤◌, Bool, true, false, ◌||◌, List, [], ◌∷◌, ◌++◌, length, take, drop, Some, refl, sym, ap, subst, ◌∙◌, inl, inr, arith, append_assoc, length-append, length-drop, if◌then◌else◌}
use Rattle.std.specs.Prelude.{nat_eq, nat_lt}
use Rattle.std.proofs.lemmas.List.{length-take-le, take-append-drop}
use Rattle.ber_tree.specs.Identifier.{identifier}
use Rattle.ber_tree.specs.Length.{IsLength}
use Rattle.ber_tree.specs.Tree.{Trees, none, more, SpellsAll, depth}
use Rattle.ber_tree.proofs.Lists.{cells}
use Rattle.ber_leaf.specs.Profile.{Profile}
use Rattle.ber_core.specs.Reading.{IdentifierRead, identified, part_identifier, no_identifier, tagged, read_digits, read_number, read_identifier, LengthRead, read_length, part_length}
use Rattle.ber_core.specs.Reading as read
use Rattle.ber_core.proofs.ReadOctets.{length_read}
use Rattle.ber_core.proofs.Lengths.{length_unique}
use Rattle.ber_core.proofs.Trees.{no_length_128}
use Rattle.ber_framing.specs.Framed.{IsTagNumber, last, IsIdentifier, low, high, IsFramed, AreFramed, IsFrame}
use Rattle.ber_framing.specs.Framed as framed
use Rattle.ber_framing.specs.Framer.{Closes, IsElementThen, IsLengthThen, definite, indefinite}
use Rattle.ber_framing.proofs.FrameSteps.{IsIdentifierThen, element_then, begins}
use Rattle.ber_framing.proofs.FrameEnds.{first_element}
use Rattle.ber_framing.proofs.Frames.{unique, id_unique, identifier_is, tree_framed}
use Rattle.ill_schema.specs.declared.refusal.Cause.{Cause}
use Rattle.ill_refusals.specs.Place.{Open, bound, IsOpening, IsPlace}
use Rattle.ill_refusals.specs.Fault.{Fault, Refuses}
use Rattle.ill_refusals.proofs.FirstFault.{is_judged}
use Rattle.ill_refusals.proofs.Judgements.{bound_some}
use Rattle.ill_refusals.proofs.Truncation.{IsLengthCut, IsCutShort, in_mark, in_identifier, in_element, truncated_at, truncated_in}

-- ---- an identifier that is whole is read as far as it goes

abbrev IsReadBefore : List ℕ → IdentifierRead → Type 0
IsReadBefore z (identified tag form rest) = rest ≡ z
IsReadBefore z part_identifier = ⊥
IsReadBefore z no_identifier = Unit {0}

digits_before : (first n value : ℕ) (number z : List ℕ) → IsTagNumber number → IsReadBefore z (read_digits first n value (number ++ z))
digits_before first zero value number z h = tt
digits_before first (suc n) value number z (last {octet = a} l) = go (nat_lt a 128) (grind arith)
  where
    go : (b : Bool) → b ≡ true → IsReadBefore z (elim b as (λ _. IdentifierRead) [ true ↦ tagged first (128 * value + a) z | false ↦ read_digits first n (128 * value + (a - 128)) z ])
    go true e = refl
    go false e = cc
digits_before first (suc n) value number z (framed.more {octet = a} {rest = rest} l h) = go (digits_before first n (128 * value + (a - 128)) rest z h) (nat_lt a 128) (grind arith)
  where
    go : IsReadBefore z (read_digits first n (128 * value + (a - 128)) (rest ++ z)) → (b : Bool) → b ≡ false → IsReadBefore z (elim b as (λ _. IdentifierRead) [ true ↦ tagged first (128 * value + a) (rest ++ z) | false ↦ read_digits first n (128 * value + (a - 128)) (rest ++ z) ])
    go k true e = cc
    go k false e = k

number_before : (first : ℕ) (number z : List ℕ) → IsTagNumber number → IsReadBefore z (read_number first (number ++ z))
number_before first number z (last {octet = a} l) = go (nat_lt a 31 || nat_eq a 128)
  where
    go : (b : Bool) → IsReadBefore z (if b then no_identifier else if nat_lt a 128 then tagged first a z else read_digits first 3 (a - 128) z)
    go true = tt
    go false = let e : nat_lt a 128 ≡ true = grind arith in rw e refl
number_before first number z (framed.more {octet = a} {rest = rest} l h) = go (nat_lt a 31 || nat_eq a 128)
  where
    go : (b : Bool) → IsReadBefore z (if b then no_identifier else if nat_lt a 128 then tagged first a (rest ++ z) else read_digits first 3 (a - 128) (rest ++ z))
    go true = tt
    go false = let e : nat_lt a 128 ≡ false = grind arith in rw e (digits_before first 3 (a - 128) rest z h)

identifier_before : (f : Bool) (id z : List ℕ) → IsIdentifier f id → IsReadBefore z (read_identifier (id ++ z))
identifier_before f id z (low {first = a} some short _) =
    let e : nat_eq a 0 ≡ false = grind (arith, some) in
    let n : nat_eq (a % 32) 31 ≡ false = grind (arith, short) in
    rw (e, n) refl
identifier_before f id z (high {first = a} {number = number} ones _ h) =
    let e : nat_eq a 0 ≡ false = grind (arith, ones) in
    let n : nat_eq (a % 32) 31 ≡ true = grind (arith, ones) in
    rw (e, n) (number_before a number z h)

-- ---- what finishes an element of which some octets were taken

-- where n elements are open, all of the indefinite form, the octets close them; where none is open, they are the element
abbrev Follows : ℕ → ℕ → List ℕ → Type 0
Follows zero deep y = IsElementThen 0 deep y
Follows (suc n) deep y = Closes (suc n) deep y

-- they begin with an end mark, or with an element
follows_begin : (n deep : ℕ) (w : List ℕ) → Follows n deep w → ((x : List ℕ) × (w ≡ 0 ∷ x)) ⊎ IsIdentifierThen n deep w
follows_begin zero deep w h = inr ((element_then 0 deep w).0 h)
follows_begin (suc n) deep w h = go h.0 h.1 h.2 h.3 h.4
  where
    go : (contents rest : List ℕ) → AreFramed deep contents → Closes n (suc deep) rest → w ≡ contents ++ 0 ∷ 0 ∷ rest
        → ((x : List ℕ) × (w ≡ 0 ∷ x)) ⊎ IsIdentifierThen (suc n) deep w
    go contents rest framed.none c e = inl (0 ∷ rest, e)
    go contents rest (framed.next {x = a} {y = b} f g q) c e = inr ((element_then (suc n) deep w).0 (record {
      element = a;
      rest = b ++ 0 ∷ 0 ∷ rest;
      framed = f;
      closes = (b, rest, g, c, refl);
      joined = e ∙ ap (λ z. z ++ 0 ∷ 0 ∷ rest) q ∙ append_assoc a b (0 ∷ 0 ∷ rest);
    }))

no_zero : (f : Bool) (id z x : List ℕ) → IsIdentifier f id → id ++ z ≡ 0 ∷ x → ⊥
no_zero f id z x (low some _ _) e = some ((cells e).0)
no_zero f id z x (high ones _ _) e = omega (arith, (cells e).0, ones)

identifier_follows : (f : Bool) (n deep : ℕ) (id z : List ℕ) → IsIdentifier f id → Follows n deep (id ++ z) → (form : Bool) × IsLengthThen form n deep z
identifier_follows f n deep id z i h = elim (follows_begin n deep (id ++ z) h) [
  | inl m ↦ absurd (no_zero f id z m.0 i m.1)
  | inr t ↦ (t.form, subst (IsLengthThen t.form n deep) (sym (id_unique f t.form id t.id z t.rest i t.is_id t.joined)) t.length_then)
]

-- after a header, its element is open, or it has as many octets as its length says
opening_follows : (n deep : ℕ) (o : Open) (header y : List ℕ) → IsOpening o header → Follows n deep (header ++ y)
    → ((inner : ℕ) × Closes (suc n) inner y) ⊎ ((m : ℕ) × (o.end ≡ Some (o.start + length header + m)) × (m ≤ length y))
opening_follows n deep o header y h follows =
    let os = h.0 in
    let id = identifier o.tag true in
    let l = identifier_follows true n deep id (os ++ y) (identifier_is o.tag true h.1) (subst (Follows n deep) (ap (λ z. z ++ y) h.2 ∙ append_assoc id os y) follows) in
    elim h.3 [
      | inl i ↦ inl (marked l.0 (subst (IsLengthThen l.0 n deep) (ap (λ z. z ++ y) i.1) l.1))
      | inr i ↦ inr (i.0, i.2, sized l.0 os i.0 i.1 l.1)
    ]
  where
    marked : (form : Bool) → IsLengthThen form n deep (128 ∷ y) → (inner : ℕ) × Closes (suc n) inner y
    marked form (definite {octets = os} {rest = r} m l _ _ e) = absurd (no_length_128 m os r y l (sym e))
    marked form (indefinite inner _ _ c e) = (inner, subst (Closes (suc n) inner) (sym ((cells e).1)) c)

    sized : (form : Bool) (os : List ℕ) (m : ℕ) → IsLength m os → IsLengthThen form n deep (os ++ y) → m ≤ length y
    sized form os m l (definite {octets = ps} {rest = r} k j _ c e) =
        let u = length_unique m k os ps y r l j e in
        omega (arith, u.0, ap length u.2, c.size, ap length c.joined, length-append c.contents c.rest)
    sized form os m l (indefinite {rest = r} _ _ _ _ e) = absurd (no_length_128 m os y r l e)

-- after an element that is whole, the same are open
frame_closes : (n deep d : ℕ) (b y contents rest : List ℕ) → IsFramed d b → AreFramed deep contents → Closes n (suc deep) rest → b ++ y ≡ contents ++ 0 ∷ 0 ∷ rest → Closes (suc n) deep y
frame_closes n deep d b y contents rest f framed.none c e = absurd (begins d b y (0 ∷ rest) 0 f (sym e) refl)
frame_closes n deep d b y contents rest f (framed.next {x = v} {y = w} g k q) c e =
    (w, rest, k, c, unique d deep b v y (w ++ 0 ∷ 0 ∷ rest) f g (e ∙ ap (λ z. z ++ 0 ∷ 0 ∷ rest) q ∙ append_assoc v w (0 ∷ 0 ∷ rest)))

trees_close : (ts : Trees) (n deep : ℕ) (b y : List ℕ) → SpellsAll ts b → length b ≤ 4_294_967_294 → Closes (suc n) deep (b ++ y) → Closes (suc n) deep y
trees_close none n deep b y h le c = subst (λ z. Closes (suc n) deep (z ++ y)) h c
trees_close (more T ts) n deep b y h le c =
    let size : length b ≡ length h.0 + length h.1 = ap length h.4 ∙ length-append h.0 h.1 in
    let joined : b ++ y ≡ h.0 ++ (h.1 ++ y) = ap (λ z. z ++ y) h.4 ∙ append_assoc h.0 h.1 y in
    let f = tree_framed T (depth T) h.0 h.2 (omega (arith, le, size)) (omega arith) in
    trees_close ts n deep h.1 y h.3 (omega (arith, le, size)) (frame_closes n deep (depth T) h.0 (h.1 ++ y) c.0 c.1 f c.2 c.3 (sym joined ∙ c.4))

bound_limit : (p : Profile) (path : List Open) (u : List ℕ) → IsPlace p u path → bound p path ≤ p.limit
bound_limit p [] u h = omega arith
bound_limit p (o ∷ path) u h = omega (arith, h.4.inside, bound_limit p path h.0 h.3)

module _ (p : Profile) (small : p.limit ≤ 4_294_967_294) where
  -- from a place on, a framed element reaches as far as the open elements may, or all of them are of the indefinite form, and the rest closes them
  place_follows : (path : List Open) (u y : List ℕ) → IsPlace p u path → IsFrame (u ++ y)
      → (bound p path ≤ length (u ++ y)) ⊎ ((deep : ℕ) × Follows (length path) deep y)
  place_follows [] u y h f = inr (_, (first_element _ y).0 (subst (λ z. IsFrame (z ++ y)) h f))
  place_follows (o ∷ path) u y h f =
      let before = h.0 in let header = h.1 in let contents = h.2 in let q = h.4 in
      let rest = contents ++ y in
      let joined : u ++ y ≡ before ++ (header ++ rest) = ap (λ z. z ++ y) h.5 ∙ append_assoc before (header ++ contents) y ∙ ap (λ z. before ++ z) (append_assoc header contents y) in
      let size : length (u ++ y) ≡ length before + (length header + length rest) = ap length joined ∙ length-append before (header ++ rest) ∙ ap (λ (k : ℕ). length before + k) (length-append header rest) in
      elim (place_follows path before (header ++ rest) h.3 (subst IsFrame joined f)) [
        | inl le ↦ inl (omega (arith, q.inside, le, ap length joined))
        | inr g ↦ elim (opening_follows (length path) g.0 o header rest q.opens g.1) [
          | inl i ↦ inr (i.0, trees_close o.trees (length path) i.0 contents y q.spelled (omega (arith, small, q.reached, bound_limit p (o ∷ path) u h)) i.1)
          | inr i ↦ inl (omega (arith, bound_some p o path _ i.1, q.starts, i.2, size))
        ]
      ]

  -- ---- no octet of a framed element is missing

  abbrev Fits : LengthRead → Type 0
  Fits (read.definite n rest) = n ≤ length rest
  Fits (read.indefinite rest) = Unit {0}
  Fits part_length = ⊥
  Fits read.no_length = Unit {0}

  length_fits : (form f : Bool) (n deep : ℕ) (r : List ℕ) → IsLengthThen form n deep r → Fits (read_length f r)
  length_fits form f n deep r (definite {octets = os} {rest = s} m l _ c e) =
      subst (λ z. Fits (read_length f z)) (sym e) (subst Fits (sym (length_read f m os s l)) (let le : m ≤ length s = omega (arith, c.size, ap length c.joined, length-append c.contents c.rest) in le))
  length_fits form f n deep r (indefinite {rest = s} _ _ _ _ e) = subst (λ z. Fits (read_length f z)) (sym e) (go f)
    where
      go : (f : Bool) → Fits (read_length f (128 ∷ s))
      go true = tt
      go false = tt

  not_cut_in_length : (path : List Open) (f : Bool) (r : List ℕ) → Fits (read_length f r) → IsLengthCut p path f r → ⊥
  not_cut_in_length path f r h (inl e) = subst Fits e h
  not_cut_in_length path f r h (inr c) = let le : c.0 ≤ length c.1 = subst Fits c.3 h in omega (arith, le, c.4)

  not_cut : (path : List Open) (deep : ℕ) (w : List ℕ) → Follows (length path) deep w → IsCutShort p path w → ⊥
  not_cut [] deep w h (in_mark i e) = cc
  not_cut (o ∷ path) deep w h (in_mark i e) = omega (arith, ap length e, ap length h.4, length-append h.0 (0 ∷ 0 ∷ h.1))
  not_cut path deep w h (in_identifier e) = elim (follows_begin (length path) deep w h) [
    | inl m ↦ let q : no_identifier ≡ part_identifier = sym (ap read_identifier m.1) ∙ e in cc
    | inr t ↦ subst (IsReadBefore t.rest) (sym (ap read_identifier t.joined) ∙ e) (identifier_before t.form t.id t.rest t.is_id)
  ]
  not_cut path deep w h (in_element tag f r e c) = elim (follows_begin (length path) deep w h) [
    | inl m ↦ let q : no_identifier ≡ identified tag f r = sym (ap read_identifier m.1) ∙ e in cc
    | inr t ↦
        let same : r ≡ t.rest = subst (IsReadBefore t.rest) (sym (ap read_identifier t.joined) ∙ e) (identifier_before t.form t.id t.rest t.is_id) in
        not_cut_in_length path f r (subst (λ z. Fits (read_length f z)) (sym same) (length_fits t.form f (length path) deep t.rest t.length_then)) c
  ]

  pub frame_not_truncated : (s : List ℕ) (f : Fault) → IsFrame s → Refuses p s f → f.cause ≡ Cause.Truncated → ⊥
  frame_not_truncated s f h (inl r) c =
      let path = r.0 in let k = r.1 in let place = r.2.1 in
      let judged = is_judged p path k (drop k s) f r.3 in
      let before = (truncated_at p path k (drop k s) f judged c).0 in
      let size : length (take k s) ≡ k = length-take-le k s r.2.0 in
      elim (place_follows path (take k s) (drop k s) place (subst IsFrame (sym (take-append-drop k s)) h)) [
        | inl le ↦ omega (arith, le, before, size, length-append (take k s) (drop k s))
        | inr g ↦ not_cut path g.0 (drop k s) g.1 (truncated_in p path k (drop k s) f judged c)
      ]
  frame_not_truncated s f h (inr n) c = let e : Cause.NormalTooLong ≡ Cause.Truncated = sym (ap (λ (x : Fault). x.cause) n.0) ∙ c in cc

-- an input that is Truncated has fewer octets than a message may have
pub truncated_short : (p : Profile) (s : List ℕ) (f : Fault) → Refuses p s f → f.cause ≡ Cause.Truncated → length s < p.limit
truncated_short p s f (inl r) c =
    let path = r.0 in let k = r.1 in
    let before = (truncated_at p path k (drop k s) f (is_judged p path k (drop k s) f r.3) c).0 in
    omega (arith, before, bound_limit p path (take k s) r.2.1, length-drop k s, r.2.0)
truncated_short p s f (inr n) c = let e : Cause.NormalTooLong ≡ Cause.Truncated = sym (ap (λ (x : Fault). x.cause) n.0) ∙ c in cc

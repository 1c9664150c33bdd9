-- What finishes an element at each stage: something does, and it has at least as many octets as are needed.
use Rattle.std.proofs.Common.{◌≡◌, ◌↔◌, ℕ, zero, suc, ◌+◌, ◌-◌, ◌*◌, ◌^◌, ◌<◌, ◌≤◌, Bool, List, [], ◌∷◌, ◌++◌, length, replicate, refl, sym, ap, subst, ◌∙◌, arith, append_assoc, append-nil, length-append, length-drop, take, drop, lit<, lit≤}
use Rattle.std.specs.Int.Digits.{AllBelowBase, number_from_digits_after}
use Rattle.std.proofs.lemmas.List.{length-replicate, take_all}
use Rattle.std.proofs.Math.Seq.{take-add}
use Rattle.std.proofs.Math.Nat.{pow-succ'}
use Rattle.ber_tree.specs.Length.{IsLength, short, long}
use Rattle.ber_framing.specs.declared.framer.Framer.{Framer}
use Rattle.ber_framing.specs.declared.framer.Stage.{Stage}
use Rattle.ber_framing.specs.declared.framer.Stage.TheVariants.{Identifier, BetweenElements, Number, Length, EndOfContents, Unframed}
use Rattle.ber_framing.specs.declared.framer.Stage.TheVariants as stage
use Rattle.ber_framing.specs.declared.framer.Contents.{Contents}
use Rattle.ber_framing.specs.Framed.{last, low, IsFramed, none, IsFrame, IsPartOfFrame, IsUnframed}
use Rattle.ber_framing.specs.Framed as framed
use Rattle.ber_framing.proofs.FrameSteps.{contents_more}
use Rattle.ber_framing.specs.Framer.{Closes, IsElementThen, IsContentsThen, IsLongThen, IsLengthThen, definite, indefinite, FinishesAt, Finishes, IsFed}

-- end marks alone close what is open
marks_close : (marks deep : ℕ) → (x : List ℕ) × Closes marks deep x
marks_close zero deep = ([], refl)
marks_close (suc marks) deep = let m = marks_close marks (suc deep) in (0 ∷ 0 ∷ m.0, ([], m.0, none, m.1, refl))

contents_finish : (missing_len marks deep : ℕ) → (x : List ℕ) × (missing_len ≤ length x) × IsContentsThen missing_len marks deep x
contents_finish missing_len marks deep =
    let m = marks_close marks deep in
    let size : length {A = ℕ} (replicate missing_len 0) ≡ missing_len = length-replicate missing_len 0 in (
      replicate missing_len 0 ++ m.0,
      omega (arith, length-append (replicate missing_len 0) m.0, size),
      record { contents = replicate missing_len 0; rest = m.0; size = size; closes = m.1; joined = refl },
    )

length_finish : (f : Bool) (marks deep : ℕ) → (x : List ℕ) × IsLengthThen f marks deep (0 ∷ x)
length_finish f marks deep = let c = contents_finish 0 marks deep in (c.0, definite 0 (short (lit≤ tt)) (lit≤ tt) c.2 refl)

after_zeros : (missing_len value : ℕ) → number_from_digits_after 256 value (replicate missing_len 0) ≡ value * 256 ^ missing_len
after_zeros zero value = omega arith
after_zeros (suc missing_len) value =
    let power : 256 ^ suc missing_len ≡ 256 * 256 ^ missing_len = pow-succ' 256 missing_len in
    let rest = after_zeros missing_len (value * 256 + 0) in
    omega (arith, rest, ap (λ (k : ℕ). value * k) power)

small_zeros : (n : ℕ) → AllBelowBase 256 (replicate n 0)
small_zeros zero = tt
small_zeros (suc n) = (lit< tt, small_zeros n)

long_finish : (missing_len value marks deep : ℕ) → 0 < missing_len → value * 256 ^ missing_len ≤ 4_294_967_294 → (x : List ℕ) × (0 < length x) × IsLongThen missing_len value marks deep x
long_finish missing_len value marks deep some fits =
    let octets : List ℕ = replicate missing_len 0 in
    let size : length octets ≡ missing_len = length-replicate missing_len 0 in
    let c = contents_finish (number_from_digits_after 256 value octets) marks deep in (
      octets ++ c.0,
      omega (arith, length-append octets c.0, size, some),
      record {
        octets = octets;
        rest = c.0;
        size = size;
        small = small_zeros missing_len;
        fits = omega (arith, after_zeros missing_len value, fits);
        contents = c.2;
        joined = refl;
      },
    )

abbrev CanFinish : Stage → ℕ → ℕ → Type 0
CanFinish s marks deep = (x : List ℕ) × (0 < length x) × FinishesAt s marks deep x

element_finish : (marks deep : ℕ) → CanFinish Identifier marks deep
element_finish marks deep =
    let m = marks_close marks deep in (
      1 ∷ 0 ∷ m.0,
      omega arith,
      record {
        element = 1 ∷ 0 ∷ [];
        rest = m.0;
        framed = framed.definite [] (low (λ e. omega arith) (λ e. omega arith) refl) (short (lit≤ tt)) (lit≤ tt) refl;
        closes = m.1;
        joined = refl;
      },
    )

between_finish : (marks deep : ℕ) → 0 < marks → CanFinish BetweenElements marks deep
between_finish zero deep some = absurd (omega arith)
between_finish (suc marks) deep some = let m = marks_close marks (suc deep) in (0 ∷ 0 ∷ m.0, omega arith, ([], m.0, none, m.1, refl))

-- something more finishes an element at each stage but the last ones
pub can_finish : (s : Stage) (marks deep : ℕ) → ((missing_len : ℕ) → s ≡ Unframed missing_len → ⊥) → (s ≡ BetweenElements → 0 < marks) → CanFinish s marks deep
can_finish Identifier marks deep known some = element_finish marks deep
can_finish BetweenElements marks deep known some = between_finish marks deep (some refl)
can_finish (Number f) marks deep known some =
    let l = length_finish f marks deep in
    (0 ∷ 0 ∷ l.0, omega arith, record { number = 0 ∷ []; rest = 0 ∷ l.0; is_number = last (lit< tt); length_then = l.1; joined = refl })
can_finish (Length f) marks deep known some = let l = length_finish f marks deep in (0 ∷ l.0, omega arith, l.1)
can_finish (stage.LongLength l) marks deep known some = long_finish l.missing_len l.value marks deep l.some l.fits
can_finish (stage.Contents c) marks deep known some =
    let k = contents_finish c.missing_len marks deep in (k.0, omega (arith, k.1, c.some), k.2)
can_finish EndOfContents marks deep known some = let m = marks_close marks deep in (0 ∷ m.0, omega arith, record { rest = m.0; closes = m.1; joined = refl })
can_finish (Unframed missing_len) marks deep known some = absurd (known missing_len refl)

-- what each stage needs
abbrev pub Needs : Stage → ℕ → ℕ → Type 0
Needs Identifier marks n = n ≤ 1
Needs BetweenElements marks n = (n ≤ 1) × (marks ≡ 0 → n ≡ 0)
Needs (Number f) marks n = n ≤ 1
Needs (Length f) marks n = n ≤ 1
Needs (stage.LongLength l) marks n = n ≤ l.missing_len
Needs (stage.Contents c) marks n = n ≤ c.missing_len
Needs EndOfContents marks n = n ≤ 1
Needs (Unframed missing_len) marks n = Unit {0}

longer : (a x y : List ℕ) → x ≡ a ++ y → length a ≤ length x
longer a x y e = omega (arith, ap length e, length-append a y)

between_needs : (marks deep n : ℕ) (x : List ℕ) → n ≤ 1 → (marks ≡ 0 → n ≡ 0) → Closes marks deep x → n ≤ length x
between_needs zero deep n x le z h = let none : n ≡ 0 = z refl in omega (arith, none)
between_needs (suc marks) deep n x le z h = omega (arith, le, ap length h.4, length-append h.0 (0 ∷ 0 ∷ h.1))

some_number : (number : List ℕ) → framed.IsTagNumber number → 1 ≤ length number
some_number number (last h) = lit≤ tt
some_number number (framed.more {rest = r} h k) = omega arith

some_length : (n : ℕ) (octets : List ℕ) → IsLength n octets → 1 ≤ length octets
some_length n octets (short h) = lit≤ tt
some_length n octets (long _ _ _ _) = omega arith

length_needs : (f : Bool) (marks deep : ℕ) (x : List ℕ) → IsLengthThen f marks deep x → 1 ≤ length x
length_needs f marks deep x (definite {octets = os} {rest = r} n l _ _ e) = omega (arith, some_length n os l, longer os x r e)
length_needs f marks deep x (indefinite {rest = r} inner _ _ _ e) = omega (arith, ap length e)

some_id : (f : Bool) (id : List ℕ) → framed.IsIdentifier f id → 1 ≤ length id
some_id f id (low _ _ _) = lit≤ tt
some_id f id (framed.high _ _ _) = omega arith

element_needs : (deep : ℕ) (b : List ℕ) → IsFramed deep b → 1 ≤ length b
element_needs deep b (framed.definite {form = f} {id = id} {octets = os} contents i _ _ e) = omega (arith, some_id f id i, longer id b (os ++ contents) e)
element_needs deep b (framed.indefinite {id = id} {contents = c} i _ e) = omega (arith, some_id _ id i, longer id b (128 ∷ (c ++ 0 ∷ 0 ∷ [])) e)

pub needs : (s : Stage) (marks deep n : ℕ) (x : List ℕ) → Needs s marks n → FinishesAt s marks deep x → n ≤ length x
needs Identifier marks deep n x le h = omega (arith, le, element_needs deep h.element h.framed, longer h.element x h.rest h.joined)
needs BetweenElements marks deep n x le h = between_needs marks deep n x le.0 le.1 h
needs (Number f) marks deep n x le h = omega (arith, le, some_number h.number h.is_number, longer h.number x h.rest h.joined)
needs (Length f) marks deep n x le h = omega (arith, le, length_needs f marks deep x h)
needs (stage.LongLength l) marks deep n x le h = omega (arith, le, h.size, longer h.octets x h.rest h.joined)
needs (stage.Contents c) marks deep n x le h = omega (arith, le, h.size, longer h.contents x h.rest h.joined)
needs EndOfContents marks deep n x le h = omega (arith, le, ap length h.joined)
needs (Unframed missing_len) marks deep n x le h = absurd h

-- ---- the framer that was fed some octets

pub fed_more : (f g : Framer) (o : ℕ) → ((x : List ℕ) → Finishes f (o ∷ x) ↔ Finishes g x) → (b : List ℕ) → IsFed f b → IsFed g (b ++ o ∷ [])
unfolding IsFed
fed_more f g o same b h x =
    let e : (b ++ o ∷ []) ++ x ≡ b ++ (o ∷ x) = append_assoc b (o ∷ []) x in (
      (λ k. (same x).0 ((h (o ∷ x)).0 (subst IsFrame e k))),
      (λ k. subst IsFrame (sym e) ((h (o ∷ x)).1 ((same x).1 k))),
    )

pub fed_all : (f g : Framer) (w : List ℕ) → ((x : List ℕ) → Finishes f (w ++ x) ↔ Finishes g x) → (b : List ℕ) → IsFed f b → IsFed g (b ++ w)
unfolding IsFed
fed_all f g w same b h x =
    let e : (b ++ w) ++ x ≡ b ++ (w ++ x) = append_assoc b w x in (
      (λ k. (same x).0 ((h (w ++ x)).0 (subst IsFrame e k))),
      (λ k. subst IsFrame (sym e) ((h (w ++ x)).1 ((same x).1 k))),
    )

pub fed_none : (f : Framer) → ((x : List ℕ) → IsFrame x ↔ Finishes f x) → IsFed f []
unfolding IsFed
fed_none f same x = same x

pub first_element : (deep : ℕ) (x : List ℕ) → IsFramed deep x ↔ IsElementThen 0 deep x
first_element deep x = (
  (λ h. record { element = x; rest = []; framed = h; closes = refl; joined = sym (append-nil x) }),
  (λ h. subst (IsFramed deep) (sym (h.joined ∙ ap (λ z. h.element ++ z) h.closes ∙ append-nil h.element)) h.framed),
)

pub is_part : (f : Framer) (b : List ℕ) → IsFed f b → ((missing_len : ℕ) → f.stage ≡ Unframed missing_len → ⊥) → (f.stage ≡ BetweenElements → 0 < f.marks) → IsPartOfFrame b
unfolding IsFed
is_part f b h known some =
    let c = can_finish f.stage f.marks (18_446_744_073_709_551_615 - f.marks) known some in
    (c.0, (λ e. omega (arith, c.1, ap length e)), (h c.0).1 c.2)

pub is_unframed : (f : Framer) (b : List ℕ) (missing_len : ℕ) → IsFed f b → f.stage ≡ Unframed missing_len → IsUnframed b
unfolding IsFed
is_unframed f b missing_len h e rest k = subst (λ s. FinishesAt s f.marks (18_446_744_073_709_551_615 - f.marks) rest) e ((h rest).0 k)

ended : (f : Framer) (x : List ℕ) → f.stage ≡ BetweenElements → f.marks ≡ 0 → Finishes f x ↔ (x ≡ [])
ended f x e z =
    subst (λ s. FinishesAt s f.marks (18_446_744_073_709_551_615 - f.marks) x ↔ (x ≡ [])) (sym e)
    (subst (λ (m : ℕ). Closes m (18_446_744_073_709_551_615 - m) x ↔ (x ≡ [])) (sym z) ((λ h. h), (λ h. h)))

pub is_whole : (f : Framer) (b : List ℕ) → IsFed f b → f.stage ≡ BetweenElements → f.marks ≡ 0 → IsFrame b
unfolding IsFed
is_whole f b h e z = subst IsFrame (append-nil b) ((h []).1 ((ended f [] e z).1 refl))

-- nothing more is part of a whole one
pub no_part : (f : Framer) (b : List ℕ) → IsFed f b → f.stage ≡ BetweenElements → f.marks ≡ 0 → IsPartOfFrame b → ⊥
unfolding IsFed
no_part f b h e z p = p.1 ((ended f p.0 e z).0 ((h p.0).0 p.2))

pub need_least : (f : Framer) (n : ℕ) → Needs f.stage f.marks n → (b rest : List ℕ) → IsFed f b → IsFrame (b ++ rest) → n ≤ length rest
unfolding IsFed
need_least f n k b rest h w = needs f.stage f.marks (18_446_744_073_709_551_615 - f.marks) n rest k ((h rest).0 w)

pub needs_one : (s : Stage) (marks : ℕ) → (s ≡ BetweenElements → ⊥) → ((c : Contents) → s ≡ stage.Contents c → ⊥) → Needs s marks 1
needs_one Identifier marks b c = lit≤ tt
needs_one BetweenElements marks b c = absurd (b refl)
needs_one (Number f) marks b c = lit≤ tt
needs_one (Length f) marks b c = lit≤ tt
needs_one (stage.LongLength l) marks b c = omega (arith, l.some)
needs_one (stage.Contents k) marks b c = absurd (c k refl)
needs_one EndOfContents marks b c = lit≤ tt
needs_one (Unframed missing_len) marks b c = tt

-- no octet more is part of an element whose end can't be known
pub no_more : (f : Framer) (b : List ℕ) (missing_len : ℕ) → IsFed f b → f.stage ≡ Unframed missing_len → IsPartOfFrame b → ⊥
no_more f b missing_len h e p = is_unframed f b missing_len h e p.0 p.2

-- some first octets, and then the first ones of the rest
two_parts : (xs : List ℕ) (m n : ℕ) → take m xs ++ take n (take (length xs - m) (drop m xs)) ≡ take (m + n) xs
two_parts xs m n =
    let rest : take (length xs - m) (drop m xs) ≡ drop m xs = take_all (length xs - m) (drop m xs) (omega (arith, length-drop m xs)) in
    ap (λ z. take m xs ++ take n z) rest ∙ sym (take-add m n xs)

pub next_octets : (f : Framer) (b xs : List ℕ) (m n : ℕ) → IsFed f (b ++ take m xs ++ take n (take (length xs - m) (drop m xs))) → IsFed f (b ++ take (m + n) xs)
next_octets f b xs m n h = subst (IsFed f) (append_assoc b (take m xs) (take n (take (length xs - m) (drop m xs))) ∙ ap (λ z. b ++ z) (two_parts xs m n)) h

-- fewer octets than the contents still have leave it part of an element
pub within_contents : (f : Framer) (c : Contents) (b w : List ℕ) → f.stage ≡ stage.Contents c → length w < c.missing_len → IsFed f b → IsPartOfFrame (b ++ w)
within_contents f c b w e lt h =
    let deep = 18_446_744_073_709_551_615 - f.marks in
    let rest : Contents = record { missing_len = c.missing_len - length w; some = omega arith } in
    let g : Framer = record { stage = stage.Contents rest; marks = f.marks } in
    let same : (x : List ℕ) → Finishes f (w ++ x) ↔ Finishes g x = λ x.
    subst (λ s. FinishesAt s f.marks deep (w ++ x) ↔ IsContentsThen (c.missing_len - length w) f.marks deep x) (sym e)
    (contents_more c.missing_len f.marks deep w x (omega arith)) in
    is_part g (b ++ w) (fed_all f g w same b h) (λ _ k. cc) (λ k. cc)

-- no octets leave it so
pub with_none : (b w : List ℕ) → length w < 1 → IsPartOfFrame b → IsPartOfFrame (b ++ w)
with_none b [] lt p = subst IsPartOfFrame (sym (append-nil b)) p
with_none b (o ∷ w) lt p = absurd (omega (arith, lt))

-- of some first octets and then more, part of an element is fed each time
pub within_next : (b xs : List ℕ) (m k : ℕ) → m ≤ k → IsPartOfFrame (b ++ take m xs ++ take (k - m) (take (length xs - m) (drop m xs))) → IsPartOfFrame (b ++ take k xs)
within_next b xs m k le h =
    let sum : m + (k - m) ≡ k = omega arith in
    subst IsPartOfFrame (append_assoc b (take m xs) (take (k - m) (take (length xs - m) (drop m xs))) ∙ ap (λ z. b ++ z) (two_parts xs m (k - m) ∙ ap (λ (i : ℕ). take i xs) sum)) h

-- When `==` of parts says that their contents are equal.
use Rattle.std.proofs.Common.{◌≡◌, ℕ, suc, Bool, true, false, true≢false, ◌&&◌, List, [], ◌∷◌, ◌++◌, map, length, Option, Some, None, option_map, refl, sym, ap, arith}
use Rattle.std.specs.Bool.{Decides}
use Rattle.std.specs.Cmp.{booleans_Decides}
use Rattle.std.specs.Cmp.Lexicographic.{pointwise}
use Rattle.std.specs.Global.{Vec}
use Rattle.std.specs.Option.{option_eq}
use Rattle.std.specs.Ordering.{int_eq}
use Rattle.std.specs.Prelude.{nat_eq}
use Rattle.std.proofs.Math.Bool.{beq}
use Rattle.std.proofs.lemmas.Bool.Decides.{Decides-and, Decides-like, Decides-eqb, Decides-int_eq}
use Rattle.std.proofs.lemmas.Slice.Eq.{slice_eq-Decides}
use Rattle.ber_leaf.specs.declared.text.ill_string.IllString.TheVariants.{General, Visible}
use Rattle.ber_leaf.specs.contracts.text.ill_string.IllStringPartialEq.TheImpl.{eq-value as string_eq}
use Rattle.ill_schema.specs.Content.{Content}
use Rattle.ill_schema.specs.Value.{entries_of, items_of}
use Rattle.ill_parts.specs.Shape.{record_of, list_of, listed, flag_content, number_content, date_content, time_content, printable_content, string_content}

-- the test is true exactly where the contents are equal
abbrev pub Exact : {A : Type 0} → (A → Content) → (A → A → Bool) → Type 0
Exact {A} f e = (x y : A) → Decides (e x y) (f x ≡ f y)

pub no_truth : {A : Type 0} → false ≡ true → A
no_truth e = absurd (true≢false (sym e))

-- leaves

pub flag_exact : Exact flag_content beq
flag_exact x y = Decides-like (beq x y) (λ e. ap flag_content e) (λ e. cc) (booleans_Decides x y)

pub number_exact : Exact number_content int_eq
number_exact x y = Decides-like (int_eq x y) (λ e. ap number_content e) (λ e. cc) (Decides-int_eq x y)

texts_Decide : (x y : List ℕ) → Decides (pointwise nat_eq x y) (x ≡ y)
texts_Decide x y = slice_eq-Decides Decides-eqb x y (pointwise nat_eq x y) refl

pub date_exact : Exact date_content (pointwise nat_eq)
date_exact x y = Decides-like (pointwise nat_eq x y) (λ e. ap date_content e) (λ e. cc) (texts_Decide x y)

pub time_exact : Exact time_content (pointwise nat_eq)
time_exact x y = Decides-like (pointwise nat_eq x y) (λ e. ap time_content e) (λ e. cc) (texts_Decide x y)

pub printable_exact : Exact printable_content (pointwise nat_eq)
printable_exact x y = Decides-like (pointwise nat_eq x y) (λ e. ap printable_content e) (λ e. cc) (texts_Decide x y)

pub string_exact : Exact string_content string_eq.it
string_exact (General x) (General y) = Decides-like (pointwise nat_eq x y) (λ e. ap (λ s. string_content (General s)) e) (λ e. cc) (texts_Decide x y)
string_exact (General x) (Visible y) = (no_truth, λ e. absurd (cc))
string_exact (Visible x) (General y) = (no_truth, λ e. absurd (cc))
string_exact (Visible x) (Visible y) = Decides-like (pointwise nat_eq x y) (λ e. ap (λ s. string_content (Visible s)) e) (λ e. cc) (texts_Decide x y)

-- lists

items_exact : {A : Type 0} {f : A → Content} {e : A → A → Bool} → Exact f e → (xs ys : List A) → Decides (pointwise e xs ys) (items_of (map f xs) ≡ items_of (map f ys))
items_exact exact [] [] = (λ b. refl, λ e. refl)
items_exact exact [] (y ∷ ys) = (no_truth, λ e. absurd (cc))
items_exact exact (x ∷ xs) [] = (no_truth, λ e. absurd (cc))
items_exact {f} {e} exact (x ∷ xs) (y ∷ ys) =
    Decides-like (e x y && pointwise e xs ys) (λ h. let a = h.0 in let b = h.1 in cc) (λ h. (cc, cc)) (Decides-and (e x y) (pointwise e xs ys) (exact x y) (items_exact exact xs ys))

pub listed_exact : {A : Type 0} {f : A → Content} {e : A → A → Bool} → Exact f e → Exact (listed f) (λ (v w : Vec A). pointwise e v.items w.items)
unfolding list_of
listed_exact {f} {e} exact v w =
    Decides-like (pointwise e v.items w.items) (λ h. cc) (λ h. let h' : items_of (map f v.items) ≡ items_of (map f w.items) = cc in h') (items_exact exact v.items w.items)

-- sequences: some fields of two parts, with the test of whether they are equal

pub record Segment : Type 0 where
  pub test : Bool
  pub left : List (Option Content)
  pub right : List (Option Content)
  pub even : length left ≡ length right
  pub exact : Decides test (left ≡ right)

pub must_exact : {A : Type 0} {f : A → Content} {e : A → A → Bool} → Exact f e → (x y : A) → Decides (e x y) (Some (f x) ∷ [] ≡ Some (f y) ∷ [])
must_exact {f} {e} exact x y = Decides-like (e x y) (λ h. cc) (λ h. cc) (exact x y)

-- a field that is always there
abbrev pub must : {A : Type 0} {f : A → Content} {e : A → A → Bool} → Exact f e → A → A → Segment
must {f} {e} exact x y = record { test = e x y; left = Some (f x) ∷ []; right = Some (f y) ∷ []; even = refl; exact = must_exact exact x y }

pub may_exact : {A : Type 0} {f : A → Content} {e : A → A → Bool} → Exact f e → (x y : Option A) → Decides (option_eq e x y) (option_map f x ∷ [] ≡ option_map f y ∷ [])
may_exact exact None None = (λ b. refl, λ e. refl)
may_exact exact None (Some y) = (no_truth, λ e. absurd (cc))
may_exact exact (Some x) None = (no_truth, λ e. absurd (cc))
may_exact {f} {e} exact (Some x) (Some y) = Decides-like (e x y) (λ h. cc) (λ h. cc) (exact x y)

-- a field that may be absent
abbrev pub may : {A : Type 0} {f : A → Content} {e : A → A → Bool} → Exact f e → Option A → Option A → Segment
may {f} {e} exact x y = record { test = option_eq e x y; left = option_map f x ∷ []; right = option_map f y ∷ []; even = refl; exact = may_exact exact x y }

append_apart : (a b c d : List (Option Content)) → length a ≡ length b → a ++ c ≡ b ++ d → (a ≡ b) × (c ≡ d)
append_apart [] [] c d h e = (refl, e)
append_apart [] (y ∷ b) c d h e = absurd (omega (arith, h))
append_apart (x ∷ a) [] c d h e = absurd (omega (arith, h))
append_apart (x ∷ a) (y ∷ b) c d h e =
    let k : length a ≡ length b = omega (arith, h) in
    let tails : a ++ c ≡ b ++ d = cc in
    let head : x ≡ y = cc in
    let i = append_apart a b c d k tails in
    let same = i.0 in
    (cc, i.1)

pub longer : (a b : List (Option Content)) → length a ≡ length b → length (a ++ None ∷ []) ≡ length (b ++ None ∷ [])
longer [] [] h = refl
longer [] (y ∷ b) h = absurd (omega (arith, h))
longer (x ∷ a) [] h = absurd (omega (arith, h))
longer (x ∷ a) (y ∷ b) h = let k : length a ≡ length b = omega (arith, h) in ap suc (longer a b k)

pub padded : (s : Segment) → Decides s.test (s.left ++ None ∷ [] ≡ s.right ++ None ∷ [])
padded s = Decides-like s.test (λ e. ap (λ os. os ++ None ∷ []) e) (λ e. (append_apart s.left s.right (None ∷ []) (None ∷ []) s.even e).0) s.exact

-- with a row after it that is left out
abbrev pub gap_after : Segment → Segment
gap_after s = record { test = s.test; left = s.left ++ None ∷ []; right = s.right ++ None ∷ []; even = longer s.left s.right s.even; exact = padded s }

abbrev pub all_hold : List Segment → Bool
all_hold [] = true
all_hold (s ∷ []) = s.test
all_hold (s ∷ t ∷ ss) = s.test && all_hold (t ∷ ss)

abbrev pub lefts : List Segment → List (Option Content)
lefts [] = []
lefts (s ∷ ss) = s.left ++ lefts ss

abbrev pub rights : List Segment → List (Option Content)
rights [] = []
rights (s ∷ ss) = s.right ++ rights ss

pub segments_exact : (ss : List Segment) → Decides (all_hold ss) (lefts ss ≡ rights ss)
segments_exact [] = (λ b. refl, λ e. refl)
segments_exact (s ∷ []) = Decides-like s.test (λ e. ap (λ os. os ++ []) e) (λ e. (append_apart s.left s.right [] [] s.even e).0) s.exact
segments_exact (s ∷ t ∷ ss) =
    Decides-like (s.test && all_hold (t ∷ ss)) (λ h. let a = h.0 in let b = h.1 in cc) (λ e. append_apart s.left s.right (lefts (t ∷ ss)) (rights (t ∷ ss)) s.even e)
    (Decides-and s.test (all_hold (t ∷ ss)) s.exact (segments_exact (t ∷ ss)))

entries_one : (os us : List (Option Content)) → entries_of os ≡ entries_of us → os ≡ us
entries_one [] [] e = refl
entries_one [] (None ∷ us) e = absurd (cc)
entries_one [] (Some c ∷ us) e = absurd (cc)
entries_one (None ∷ os) [] e = absurd (cc)
entries_one (Some c ∷ os) [] e = absurd (cc)
entries_one (None ∷ os) (None ∷ us) e = let i = entries_one os us (cc) in cc
entries_one (None ∷ os) (Some d ∷ us) e = absurd (cc)
entries_one (Some c ∷ os) (None ∷ us) e = absurd (cc)
entries_one (Some c ∷ os) (Some d ∷ us) e = let h : c ≡ d = cc in let i = entries_one os us (cc) in cc

-- parts are equal exactly if all their fields are
pub record_exact : (ss : List Segment) → Decides (all_hold ss) (record_of (lefts ss) ≡ record_of (rights ss))
unfolding record_of
record_exact ss = Decides-like (all_hold ss) (λ e. ap record_of e) (λ e. entries_one (lefts ss) (rights ss) (cc)) (segments_exact ss)

-- Decimals with dots between them.
use Rattle.std.proofs.Common.{◌≡◌, ℕ, ◌+◌, ◌-◌, ◌*◌, ◌/◌, ◌^◌, ◌<◌, min, List, [], ◌∷◌, ◌++◌, length, get_or, take, decimal, flat_map, IsTrue, refl, sym, ap, ap₂, subst, ◌∙◌, arith, nat_lt, ltb-true, lt-ltb, append_assoc}
use Rattle.std.proofs.lemmas.Bool.{and_from, and_parts}
use Rattle.std.proofs.lemmas.Fmt.{decimal_injective, decimal_is_IsNumeral}
use Rattle.std.proofs.lemmas.List.{take_more}
use Rattle.std.proofs.lemmas.Str.Parse.{digit_from_value}
use Rattle.std.specs.Str.Parse.{AllDigits}
use Rattle.ber_tree.proofs.Lists.{cells}
use Rattle.ill_schema.specs.Texts.{after_dot, oid_components, with_dots}
use Rattle.oid_text.specs.Numbers.{HasNoDot, IsAtDot, are_short, two_components}

-- a text is cut at its first dot in one way
pub dot_once : (a b x y : List ℕ) → HasNoDot a → HasNoDot b → IsAtDot x → IsAtDot y → a ++ x ≡ b ++ y → (a ≡ b) × (x ≡ y)
dot_once [] [] x y h k i j e = (refl, e)
dot_once [] (c ∷ b) x y h k i j e = absurd (k.0 (subst IsAtDot e i))
dot_once (c ∷ a) [] x y h k i j e = absurd (h.0 (subst IsAtDot (sym e) j))
dot_once (c ∷ a) (d ∷ b) x y h k i j e =
    let f = cells e in
    let rest = dot_once a b x y h.1 k.1 i j f.1 in
    (ap₂ ◌∷◌ f.0 rest.0, rest.1)

-- no digit is a dot
digits_have_no_dot : (ds : List ℕ) → AllDigits 10 ds → HasNoDot ds
digits_have_no_dot [] h = tt
digits_have_no_dot (c ∷ ds) h = let r = digit_from_value c h.0 in ((λ e. omega (arith, r.0, e)), digits_have_no_dot ds h.1)

-- so no decimal has one
pub decimal_has_no_dot : (n : ℕ) → n < 2 ^ 63 → HasNoDot (decimal n)
decimal_has_no_dot n l = digits_have_no_dot (decimal n) (decimal_is_IsNumeral n (omega (arith, l))).0.1

-- a decimal says its number, and where it ends
pub decimal_once : (m n : ℕ) (x y : List ℕ) → m < 2 ^ 63 → n < 2 ^ 63 → IsAtDot x → IsAtDot y → decimal m ++ x ≡ decimal n ++ y → (m ≡ n) × (x ≡ y)
decimal_once m n x y h k i j e =
    let parts = dot_once (decimal m) (decimal n) x y (decimal_has_no_dot m h) (decimal_has_no_dot n k) i j e in
    (decimal_injective m n (omega (arith, h)) (omega (arith, k)) parts.0, parts.1)

-- so does one after a dot
pub after_dot_once : (m n : ℕ) (x y : List ℕ) → m < 2 ^ 63 → n < 2 ^ 63 → IsAtDot x → IsAtDot y → after_dot m ++ x ≡ after_dot n ++ y → (m ≡ n) × (x ≡ y)
after_dot_once m n x y h k i j e = decimal_once m n x y h k i j ((cells e).1)

-- numbers after dots begin with a dot, if any
pub numbers_at_dot : (ns : List ℕ) → IsAtDot (flat_map after_dot ns)
numbers_at_dot [] = tt
numbers_at_dot (n ∷ ns) = refl

-- each of short numbers is short
pub short_parts : (n : ℕ) (ns : List ℕ) → IsTrue (are_short (n ∷ ns)) → (n < 2 ^ 63) × IsTrue (are_short ns)
short_parts n ns h = let p = and_parts (nat_lt n 9_223_372_036_854_775_808) (are_short ns) h in (ltb-true _ _ p.0, p.1)

-- so do the two components of a first number
pub two_once : (m n : ℕ) (x y : List ℕ) → m < 2 ^ 63 → n < 2 ^ 63 → IsAtDot x → IsAtDot y → two_components m ++ x ≡ two_components n ++ y → (m ≡ n) × (x ≡ y)
two_once m n x y h k i j e =
    let r = min 2 (m / 40) in
    let s = min 2 (n / 40) in
    let f = sym (append_assoc (decimal r) (after_dot (m - 40 * r)) x) ∙ e ∙ append_assoc (decimal s) (after_dot (n - 40 * s)) y in
    let root = decimal_once r s (after_dot (m - 40 * r) ++ x) (after_dot (n - 40 * s) ++ y) (omega arith) (omega arith) refl refl f in
    let second = after_dot_once (m - 40 * r) (n - 40 * s) x y (omega (arith, h)) (omega (arith, k)) i j root.1 in
    let same : m ≡ n = omega (arith, root.0, second.0) in
    (same, second.1)

-- so do numbers after dots
pub numbers_once : (ms ns : List ℕ) → IsTrue (are_short ms) → IsTrue (are_short ns) → flat_map after_dot ms ≡ flat_map after_dot ns → ms ≡ ns
numbers_once [] [] h k e = refl
numbers_once [] (n ∷ ns) h k e = absurd (omega (arith, ap length e))
numbers_once (m ∷ ms) [] h k e = absurd (omega (arith, ap length e))
numbers_once (m ∷ ms) (n ∷ ns) h k e =
    let a = short_parts m ms h in
    let b = short_parts n ns k in
    let u = after_dot_once m n (flat_map after_dot ms) (flat_map after_dot ns) a.0 b.0 (numbers_at_dot ms) (numbers_at_dot ns) e in
    ap₂ ◌∷◌ u.0 (numbers_once ms ns a.1 b.1 u.1)

-- the text of numbers is that of the first two components and of the numbers after dots
pub components_text : (n : ℕ) (ns : List ℕ) → with_dots (oid_components (n ∷ ns)) ≡ two_components n ++ flat_map after_dot ns
components_text n ns = let r = min 2 (n / 40) in sym (append_assoc (decimal r) (after_dot (n - 40 * r)) (flat_map after_dot ns))

-- the text of numbers says them
pub components_once : (m n : ℕ) (ms ns : List ℕ) → IsTrue (are_short (m ∷ ms)) → IsTrue (are_short (n ∷ ns)) → with_dots (oid_components (m ∷ ms)) ≡ with_dots (oid_components (n ∷ ns)) → m ∷ ms ≡ n ∷ ns
components_once m n ms ns h k e =
    let a = short_parts m ms h in
    let b = short_parts n ns k in
    let u = two_once m n (flat_map after_dot ms) (flat_map after_dot ns) a.0 b.0 (numbers_at_dot ms) (numbers_at_dot ns) (sym (components_text m ms) ∙ e ∙ components_text n ns) in
    ap₂ ◌∷◌ u.0 (numbers_once ms ns a.1 b.1 u.1)

-- no dot is added
no_dot_push : (a : List ℕ) (c : ℕ) → HasNoDot a → (c ≡ 0x2E → ⊥) → HasNoDot (a ++ c ∷ [])
no_dot_push [] c h k = (k, tt)
no_dot_push (d ∷ a) c h k = (h.0, no_dot_push a c h.1 k)

-- the same of one octet more of a text
pub no_dot_more : (text : List ℕ) (i : ℕ) → i < length text → HasNoDot (take i text) → (get_or text i 0 ≡ 0x2E → ⊥) → HasNoDot (take (i + 1) text)
no_dot_more text i l h k = subst HasNoDot (sym (take_more text i 0 l)) (no_dot_push (take i text) (get_or text i 0) h k)

-- what is before the first dot of a text that begins with a decimal
pub front_is_decimal : (text digits rest more : List ℕ) (n : ℕ) → text ≡ digits ++ more → HasNoDot digits → IsAtDot more → n < 2 ^ 63 → IsAtDot rest → text ≡ decimal n ++ rest → digits ≡ decimal n
front_is_decimal text digits rest more n e h i l j f = (dot_once digits (decimal n) more rest h (decimal_has_no_dot n l) i j (sym e ∙ f)).0

-- the parts of a text that begins with two components
pub two_parts : (text after rest : List ℕ) (root n : ℕ) → root < 2 ^ 63 → IsAtDot after → text ≡ decimal root ++ after → n < 2 ^ 63 → text ≡ two_components n ++ rest
    → (root ≡ min 2 (n / 40)) × (after ≡ after_dot (n - 40 * min 2 (n / 40)) ++ rest)
two_parts text after rest root n small i e l f =
    let r = min 2 (n / 40) in
    decimal_once root r after (after_dot (n - 40 * r) ++ rest) small (omega arith) i refl (sym e ∙ f ∙ append_assoc (decimal r) (after_dot (n - 40 * r)) rest)

-- a short number and others are short
pub short_more : (n : ℕ) (ns : List ℕ) → n < 2 ^ 63 → IsTrue (are_short ns) → IsTrue (are_short (n ∷ ns))
short_more n ns l h = and_from (nat_lt n 9_223_372_036_854_775_808) (are_short ns) (lt-ltb n 9_223_372_036_854_775_808 l) h

-- where a number after a dot begins a text of such numbers, the others follow
pub numbers_behind : (left rest : List ℕ) (n : ℕ) (ns : List ℕ) → n < 2 ^ 63 → IsAtDot rest → left ≡ after_dot n ++ rest → IsTrue (are_short ns) → left ≡ flat_map after_dot ns
    → (ms : List ℕ) × IsTrue (are_short ms) × (rest ≡ flat_map after_dot ms)
numbers_behind left rest n [] l i e h f = absurd (omega (arith, ap length (sym e ∙ f)))
numbers_behind left rest n (m ∷ ms) l i e h f =
    let p = short_parts m ms h in
    (ms, p.1, (after_dot_once n m rest (flat_map after_dot ms) l p.0 i (numbers_at_dot ms) (sym e ∙ f)).1)

-- where none begins a text, it is of no such numbers
pub no_numbers : (left : List ℕ) (ns : List ℕ) → 0 < length left → ((n : ℕ) (rest : List ℕ) → n < 2 ^ 63 → IsAtDot rest → left ≡ after_dot n ++ rest → ⊥) → IsTrue (are_short ns) → left ≡ flat_map after_dot ns → ⊥
no_numbers left [] some lacks h e = absurd (omega (arith, some, ap length e))
no_numbers left (n ∷ ns) some lacks h e = let p = short_parts n ns h in lacks n (flat_map after_dot ns) p.0 (numbers_at_dot ns) e

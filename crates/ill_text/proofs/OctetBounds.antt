-- How long the text of octets may be, and that of a foreign tree.
use Rattle.std.proofs.Common.{◌≡◌, ℕ, suc, ◌+◌, ◌-◌, ◌*◌, ◌/◌, ◌^◌, ◌<◌, ◌≤◌, min, ◌&&◌, Bool, true, false, IsTrue, List, [], ◌∷◌, ◌++◌, length, refl, arith, codes, decimal, nat_lt, ap, length-append, ltb-true}
use Rattle.std.specs.Prelude.{nat_eq, nat_le, flat_map, slice_index, ◌||◌, ◌%◌, if◌then◌else◌}
use Rattle.std.specs.List.{list_all}
use Rattle.std.proofs.lemmas.Bool.{and_parts}
use Rattle.itoa.proofs.Decimal.{length_wide}
use Rattle.ber_core.specs.Der.{size, sizes}
use Rattle.ber_tree.specs.Identifier.{Tag, identifier}
use Rattle.ber_tree.specs.Length.{shortest_length}
use Rattle.ber_tree.specs.Tree.{Tree, Trees, primitive, constructed, none, more}
use Rattle.ber_leaf.specs.Profile.{is_graphic}
use Rattle.ill_schema.specs.Texts.{after_dot, digits, hexadecimal, numbers_after, oid_components, oid_text, with_dots}
use Rattle.ill_text.specs.Shown.{content_text, escaped, quoted, tree_text, trees_text}
use Rattle.ill_grammar.specs.Identifiers.{are_short}
use Rattle.ill_text.proofs.Subidentifiers.{two_and_others}

-- ---- in quotes, and in hexadecimal

escape_size : (a b : Bool) (x y z : List ℕ) → length x ≤ 4 → length y ≤ 4 → length z ≤ 4 → length (if a then x else if b then y else z) ≤ 4
escape_size true b x y z h k l = h
escape_size false true x y z h k l = k
escape_size false false x y z h k l = l

escaped_one : (a : ℕ) → length (escaped a) ≤ 4
escaped_one a =
    escape_size (nat_eq a 0x22 || nat_eq a 0x5C) (nat_le 0x20 a && nat_le a 0x7E) (0x5C ∷ a ∷ []) (a ∷ [])
    (0x5C ∷ 0x78 ∷ slice_index (codes "0123456789abcdef") (a / 16) ∷ slice_index (codes "0123456789abcdef") (a % 16) ∷ []) (omega arith) (omega arith) (omega arith)

escaped_size : (o : List ℕ) → length (flat_map escaped o) ≤ 4 * length o
escaped_size [] = omega arith
escaped_size (a ∷ o) = omega (arith, escaped_size o, length-append (escaped a) (flat_map escaped o), escaped_one a)

pub quoted_size : (o : List ℕ) → length (quoted o) ≤ 4 * length o + 2
quoted_size o = omega (arith, escaped_size o, length-append (codes "\"" ++ flat_map escaped o) (codes "\""), length-append (codes "\"") (flat_map escaped o))

pub hexadecimal_size : (o : List ℕ) → length (hexadecimal o) ≡ 2 * length o
hexadecimal_size [] = refl
hexadecimal_size (a ∷ o) = omega (arith, hexadecimal_size o, length-append (digits a) (hexadecimal o))

pub content_size : (o : List ℕ) → length (content_text o) ≤ 4 * length o + 2
content_size o = go (list_all is_graphic o)
  where
    go : (b : Bool) → length (if b then quoted o else hexadecimal o) ≤ 4 * length o + 2
    go true = quoted_size o
    go false = omega (arith, hexadecimal_size o)

-- ---- an OBJECT IDENTIFIER

-- no more numbers than octets
numbers_few : (n : ℕ) (o : List ℕ) → length (numbers_after n o) ≤ length o
numbers_few n [] = omega arith
numbers_few n (a ∷ o) = go (nat_lt a 0x80) (numbers_few 0 o) (numbers_few (128 * n + (a - 0x80)) o)
  where
    go : (b : Bool) → length (numbers_after 0 o) ≤ length o → length (numbers_after (128 * n + (a - 0x80)) o) ≤ length o
        → length (if b then (128 * n + a) ∷ numbers_after 0 o else numbers_after (128 * n + (a - 0x80)) o) ≤ suc (length o)
    go true last other = omega (arith, last)
    go false last other = omega (arith, other)

dotted_size : (n : ℕ) → n < 2 ^ 64 → length (after_dot n) ≤ 40
dotted_size n h = omega (arith, length_wide n (omega (arith, h)), length-append (codes ".") (decimal n))

small_parts : (n : ℕ) (numbers : List ℕ) → IsTrue (are_short (n ∷ numbers)) → (n < 2 ^ 63) × IsTrue (are_short numbers)
small_parts n numbers h =
    let parts = and_parts (nat_lt n 9_223_372_036_854_775_808) (are_short numbers) h in
    (ltb-true n 9_223_372_036_854_775_808 parts.0, parts.1)

all_dotted_size : (numbers : List ℕ) → IsTrue (are_short numbers) → length (flat_map after_dot numbers) ≤ 40 * length numbers
all_dotted_size [] h = omega arith
all_dotted_size (n ∷ numbers) h =
    let parts = small_parts n numbers h in
    omega (arith, dotted_size n (omega (arith, parts.0)), all_dotted_size numbers parts.1, length-append (after_dot n) (flat_map after_dot numbers))

-- the two components for which the first number stands, and others
two_size : (a b : ℕ) (others : List ℕ) → a < 2 ^ 64 → b < 2 ^ 64 → length ((decimal a ++ after_dot b) ++ others) ≤ length others + 79
two_size a b others h k =
    omega (arith, length_wide a (omega (arith, h)), dotted_size b k, length-append (decimal a) (after_dot b), length-append (decimal a ++ after_dot b) others)

components_size : (numbers : List ℕ) → IsTrue (are_short numbers) → length (with_dots (oid_components numbers)) ≤ 40 * length numbers + 40
components_size [] h = omega arith
components_size (n ∷ numbers) h =
    let parts = small_parts n numbers h in
    let first = min 2 (n / 40) in
    let two = two_size first (n - 40 * first) (flat_map after_dot numbers) (omega arith) (omega (arith, parts.0)) in
    omega (arith, two, all_dotted_size numbers parts.1, ap length (two_and_others n numbers))

pub oid_size : (o : List ℕ) → length (oid_text o) ≤ 40 * length o + 40
oid_size o = go (are_short (numbers_after 0 o)) refl
  where
    go : (b : Bool) → are_short (numbers_after 0 o) ≡ b → length (if b then with_dots (oid_components (numbers_after 0 o)) else codes "oid " ++ hexadecimal o) ≤ 40 * length o + 40
    go true e = omega (arith, components_size (numbers_after 0 o) e, numbers_few 0 o)
    go false e = omega (arith, hexadecimal_size o, length-append (codes "oid ") (hexadecimal o))

-- ---- trees

some_identifier : (t : Tag) (f : Bool) → 1 ≤ length (identifier t f)
some_identifier t f = grind arith

some_length : (n : ℕ) → 1 ≤ length (shortest_length n)
some_length n = grind arith

pub primitive_size : (t : Tag) (o : List ℕ) → length o + 2 ≤ size (primitive t o)
primitive_size t o = omega (arith, some_identifier t false, some_length (length o))

pub constructed_size : (t : Tag) (ts : Trees) → sizes ts + 2 ≤ size (constructed t ts)
constructed_size t ts = omega (arith, some_identifier t true, some_length (sizes ts))

pub some_size : (T : Tree) → 2 ≤ size T
some_size (primitive t o) = omega (arith, primitive_size t o)
some_size (constructed t ts) = omega (arith, constructed_size t ts)

mutual
  -- there is room for one octet more
  pub tree_text_size : (T : Tree) → length (tree_text T) + 1 ≤ 8 * size T
  tree_text_size (primitive t o) =
      omega (arith, hexadecimal_size (identifier t false), content_size o, some_length (length o), length-append (hexadecimal (identifier t false) ++ codes ":") (content_text o), length-append (hexadecimal (identifier t false)) (codes ":"))
  tree_text_size (constructed t ts) =
      omega (
        arith,
        hexadecimal_size (identifier t true),
        trees_text_size ts,
        some_length (sizes ts),
        length-append (hexadecimal (identifier t true) ++ codes "{" ++ trees_text ts) (codes "}"),
        length-append (hexadecimal (identifier t true) ++ codes "{") (trees_text ts),
        length-append (hexadecimal (identifier t true)) (codes "{"),
      )

  pub trees_text_size : (ts : Trees) → length (trees_text ts) ≤ 8 * sizes ts
  trees_text_size none = omega arith
  trees_text_size (more T none) = omega (arith, tree_text_size T)
  trees_text_size (more T (more U ts)) =
      omega (arith, tree_text_size T, trees_text_size (more U ts), length-append (tree_text T ++ codes " ") (trees_text (more U ts)), length-append (tree_text T) (codes " "))

-- The octets of foreign trees, as marks, and the text that is put of one tree after another.
use Rattle.std.proofs.Common.{◌≡◌, ℕ, suc, ◌+◌, ◌^◌, ◌<◌, ◌≤◌, Bool, true, false, IsTrue, nat_lt, List, [], ◌∷◌, ◌++◌, codes, length, drop, map, get_or, refl, sym, ap, subst, ◌∙◌, arith, inl, inr, ltb-true, ltb-false, append_assoc, append-nil, length-append}
use Rattle.std.specs.Int.Digits.{digits_of, number_from_digits_after}
use Rattle.std.proofs.lemmas.Int.Digits.{number_after_ge}
use Rattle.std.proofs.lemmas.List.{at_drop_more, map-append}
use Rattle.std.proofs.lemmas.Bool.{and_parts}
use Rattle.ber_core.specs.Der.{encoding, encodings}
use Rattle.ber_core.specs.Foreign.{are_foreign, is_foreign, is_identified}
use Rattle.ber_tree.specs.Identifier.{HasIdentifier, Tag, identifier}
use Rattle.ber_tree.specs.Length.{shortest_length}
use Rattle.ber_tree.specs.Tree.{Tree, Trees, primitive, constructed, none, more}
use Rattle.ber_core.proofs.Foreign.{both, identified_has}
use Rattle.ber_core.proofs.Identifiers.{cases}
use Rattle.ber_core.proofs.Shortest.{is_long, is_short}
use Rattle.ill_grammar.specs.declared.outline.Mark.{Mark}
use Rattle.ill_grammar.specs.declared.outline.Mark.TheVariants as mark
use Rattle.ill_grammar.specs.Marks.{octets_in}
use Rattle.ill_schema.specs.Texts.{hexadecimal}
use Rattle.ill_text.specs.Shown.{content_text, tree_text, trees_text}
use Rattle.ill_text.specs.code.Elements.{blank}
use Rattle.ill_text.specs.code.Sending.{Adds, Sending, counted}
use Rattle.ill_grammar.proofs.MarkedValues.{marks_length}
use Rattle.ill_text.proofs.Sent.{adds_as, adds_nothing, adds_then}

-- ---- lengths

counted_after : (n : ℕ) (o : List ℕ) → counted (number_from_digits_after 256 n o) ≡ counted (number_from_digits_after 256 (counted n) o)
counted_after n o = elim (cases (nat_lt n (2 ^ 64))) [
  | inl h ↦ ap (λ (k : ℕ). counted (number_from_digits_after 256 k o)) (omega (arith, ltb-true _ _ h))
  | inr h ↦ omega (arith, number_after_ge 256 n o (omega arith), number_after_ge 256 (counted n) o (omega arith), ltb-false _ _ h)
]

after_mark : (n : ℕ) (m : Mark) (ms : List Mark) → number_from_digits_after 256 n (octets_in (m ∷ ms)) ≡ number_from_digits_after 256 (number_from_digits_after 256 n (octets_in (m ∷ []))) (octets_in ms)
after_mark n (mark.Octet a) ms = refl
after_mark n _ ms = refl

-- the number that octets go on from, one octet further
pub number_step : (xs : List Mark) (i : ℕ) (d : Mark) (n k : ℕ) → i < length xs → k ≡ counted (number_from_digits_after 256 n (octets_in (get_or xs i d ∷ [])))
    → counted (number_from_digits_after 256 n (octets_in (drop i xs))) ≡ counted (number_from_digits_after 256 k (octets_in (drop (i + 1) xs)))
number_step xs i d n k h e =
    let later = octets_in (drop (i + 1) xs) in
    let first = number_from_digits_after 256 n (octets_in (get_or xs i d ∷ [])) in
    at_drop_more (λ ms. counted (number_from_digits_after 256 n (octets_in ms))) xs i d h ∙ ap counted (after_mark n (get_or xs i d) (drop (i + 1) xs))
    ∙ counted_after first later ∙ ap (λ (x : ℕ). counted (number_from_digits_after 256 x later)) (sym e)

-- a length in several octets: how many there are, and they
pub long_length : (n : ℕ) (rest : List ℕ) (first : Mark) (others : List Mark) (octet : ℕ) → map mark.Octet (shortest_length n ++ rest) ≡ first ∷ others
    → ((a : ℕ) → first ≡ mark.Octet a → octet ≡ a) → 128 ≤ octet
    → (octet ≡ 128 + length (digits_of 256 n)) × (others ≡ map mark.Octet (digits_of 256 n) ++ map mark.Octet rest)
long_length n rest first others octet e is le = elim (cases (nat_lt n 128)) [
  | inl h ↦
      let f : mark.Octet n ∷ map mark.Octet rest ≡ first ∷ others = ap (λ o. map mark.Octet (o ++ rest)) (sym (is_short n (ltb-true _ _ h))) ∙ e in
      absurd (let q : octet ≡ n = is n cc in omega (arith, q, ltb-true _ _ h))
  | inr h ↦
      let ds = digits_of 256 n in
      let f : mark.Octet (128 + length ds) ∷ map mark.Octet (ds ++ rest) ≡ first ∷ others = ap (λ o. map mark.Octet (o ++ rest)) (sym (is_long n (ltb-false _ _ h))) ∙ e in
      (is (128 + length ds) cc, (let g : others ≡ map mark.Octet (ds ++ rest) = cc in g ∙ map-append mark.Octet ds rest))
]

-- ---- one element

-- the parts of an element that octets begin with, and its text
pub record Element (inside : ℕ) (T : Tree) (rest : List ℕ) : Type 0 where
  pub tag : Tag
  pub form : Bool
  pub contents : List ℕ
  pub has_identifier : HasIdentifier tag form
  pub joined : encoding T ++ rest ≡ identifier tag form ++ (shortest_length (length contents) ++ (contents ++ rest))
  pub primitive : form ≡ false → tree_text T ≡ hexadecimal (identifier tag form) ++ codes ":" ++ content_text contents
  pub constructed : form ≡ true
      → (ts : Trees) × IsTrue (are_foreign inside ts) × (contents ≡ encodings ts) × (tree_text T ≡ hexadecimal (identifier tag form) ++ codes "{" ++ trees_text ts ++ codes "}")

pub element : (inside : ℕ) (T : Tree) (rest : List ℕ) → IsTrue (is_foreign (suc inside) T) → Element inside T rest
element inside (primitive tag octets) rest h = record {
  tag = tag;
  form = false;
  contents = octets;
  has_identifier = identified_has tag false (and_parts _ _ h).0;
  joined = simp append_assoc;
  primitive = λ e. refl;
  constructed = λ e. absurd cc;
}
element inside (constructed tag ts) rest h =
    let p = and_parts (is_identified tag true) (are_foreign inside ts) h in
    record {
      tag = tag;
      form = true;
      contents = encodings ts;
      has_identifier = identified_has tag true p.0;
      joined = simp append_assoc;
      primitive = λ e. absurd cc;
      constructed = λ e. (ts, p.1, refl, refl);
    }

some_identifier : (t : Tag) (f : Bool) → 1 ≤ length (identifier t f)
some_identifier t f = grind arith

some_octets : (T : Tree) → 1 ≤ length (encoding T)
some_octets (primitive tag octets) = omega (arith, some_identifier tag false, length-append (identifier tag false) (shortest_length (length octets) ++ octets))
some_octets (constructed tag ts) = omega (arith, some_identifier tag true, length-append (identifier tag true) (shortest_length (length (encodings ts)) ++ encodings ts))

some_trees : (T : Tree) (ts : Trees) → 1 ≤ length (map mark.Octet (encodings (more T ts)))
some_trees T ts = omega (arith, some_octets T, marks_length (encodings (more T ts)), length-append (encoding T) (encodings ts))

-- ---- one after another

-- so far: the trees that are left, which make the text of all
pub record TreesReached (levels : ℕ) (ts : Trees) (left : List Mark) (old new : Sending) : Type 0 where
  pub later : Trees
  pub are : IsTrue (are_foreign levels later)
  pub marks : left ≡ map mark.Octet (encodings later)
  pub adds : (s : Sending) → Adds (trees_text later) new s → Adds (trees_text ts) old s

some_blank : (ms : List Mark) → 1 ≤ length ms → blank ms ≡ codes " "
some_blank [] h = absurd (omega (arith, h))
some_blank (m ∷ ms) h = refl

first_tree : (T : Tree) (ts : Trees) → tree_text T ++ blank (map mark.Octet (encodings ts)) ++ trees_text ts ≡ trees_text (more T ts)
first_tree T none = append-nil (tree_text T ++ []) ∙ append-nil (tree_text T)
first_tree T (more U ts) = ap (λ x. tree_text T ++ x ++ trees_text (more U ts)) (some_blank (map mark.Octet (encodings (more U ts))) (some_trees U ts))

pub trees_more : (levels inside : ℕ) (ts : Trees) (left left' : List Mark) (a b c d : Sending) → levels ≡ suc inside → TreesReached levels ts left a b → 1 ≤ length left
    → ((T : Tree) (rest : List ℕ) → IsTrue (is_foreign (suc inside) T) → left ≡ map mark.Octet (encoding T ++ rest) → (left' ≡ map mark.Octet rest) × Adds (tree_text T) b c)
    → Adds (blank left') c d → TreesReached levels ts left' a d
trees_more levels inside ts left left' a b c d e r some put gap = go r.later r.are r.marks r.adds
  where
    go : (later : Trees) → IsTrue (are_foreign levels later) → left ≡ map mark.Octet (encodings later) → ((s : Sending) → Adds (trees_text later) b s → Adds (trees_text ts) a s) → TreesReached levels ts left' a d
    go none are marks adds = absurd (omega (arith, some, ap length marks))
    go (more T us) are marks adds =
        let p = and_parts (is_foreign levels T) (are_foreign levels us) are in
        let did = put T (encodings us) (subst (λ (n : ℕ). IsTrue (is_foreign n T)) e p.0) marks in
        record {
          later = us;
          are = p.1;
          marks = did.0;
          adds = λ s h. adds s (adds_as _ _ _ _ (first_tree T us) (adds_then _ _ _ _ _ (adds_then _ _ _ _ _ did.1 (adds_as _ _ _ _ (ap blank did.0) gap)) h));
        }

pub trees_end : (levels : ℕ) (ts : Trees) (left : List Mark) (a b : Sending) → TreesReached levels ts left a b → length left ≡ 0 → Adds (trees_text ts) a b
trees_end levels ts left a b r end = go r.later r.marks r.adds
  where
    go : (later : Trees) → left ≡ map mark.Octet (encodings later) → ((s : Sending) → Adds (trees_text later) b s → Adds (trees_text ts) a s) → Adds (trees_text ts) a b
    go none marks adds = adds b (adds_nothing b)
    go (more T us) marks adds = absurd (omega (arith, end, ap length marks, some_trees T us))

-- no tree has no level
pub no_levels : (ts : Trees) → IsTrue (are_foreign 0 ts) → trees_text ts ≡ []
no_levels none h = refl
no_levels (more T ts) h = absurd cc

pub one_tree : (n : ℕ) (T : Tree) → IsTrue (is_foreign n T) → IsTrue (are_foreign n (more T none))
one_tree n T h = both (is_foreign n T) true h refl

-- Elements as they are written.
use Rattle.std.proofs.Common.{◌≡◌, ℕ, ◌+◌, ◌≤◌, true, List, [], ◌∷◌, ◌++◌, length, get_or, Option, Some, refl, sym, ap, ap₂, subst, ◌∙◌, arith, append_assoc, append-nil, length-append, Result, Ok, Err, IfOk}
use Rattle.ber_core.proofs.Encodings.{length-encodings}
use Rattle.ill_write.specs.code.Puts.{Puts}
use Rattle.ill_write.proofs.Putting.{puts_then, puts_failed, puts_nothing, as_failed}
use Rattle.ber_tree.specs.Identifier.{Tag, identifier}
use Rattle.ber_tree.specs.Length.{shortest_length}
use Rattle.ber_tree.specs.Tree.{Tree, Trees, constructed, none, more, primitive}
use Rattle.ber_core.specs.Der.{encoding, encodings, sizes}
use Rattle.ill_write.specs.code.NextAre.{NextAre}
use Rattle.ill_schema.specs.Elements.{joined, place_trees, trees_unless, row_tree}
use Rattle.ill_write.specs.ContentSizes.{all_content_sizes, content_sizes}
use Rattle.ill_schema.specs.Value.{content_of}
use Rattle.ill_schema.specs.Presence.{is_default}
use Rattle.ill_schema.proofs.Trees.{sizes-joined}
use Rattle.ill_write.proofs.Joined.{encodings-joined, content_sizes-joined}
use Rattle.ber_leaf.specs.Leaf.{normal_content}
use Rattle.ber_leaf.specs.Profile.{profile_two}
use Rattle.ber_leaf.specs.Strings.{string_octets, string_value}
use Rattle.ber_leaf.specs.declared.text.ill_string.IllString.{IllString}
use Rattle.ber_leaf.specs.declared.text.ill_string.IllString.TheVariants.{General, Visible}
use Rattle.std.specs.Prelude.{IsErr}
use Rattle.ber_core.specs.declared.source.Broken.{Broken}
use Rattle.ill_write.specs.declared.buffered_sink.BufferedSink.{BufferedSink}
use Rattle.ill_tables.specs.declared.part.Row.{Row}
use Rattle.ill_schema.specs.declared.value.Value.{Value}

pub next_left : (all : List ℕ) (at : ℕ) (xs ys : List ℕ) → NextAre all at (xs ++ ys) → NextAre all at xs
next_left all at xs ys a = (a.0, ys ++ a.1, a.2 ∙ ap (λ z. a.0 ++ z) (append_assoc xs ys a.1), a.3)

pub next_right : (all : List ℕ) (at n : ℕ) (xs ys : List ℕ) → n ≡ at + length xs → NextAre all at (xs ++ ys) → NextAre all n ys
next_right all at n xs ys e a =
    (a.0 ++ xs, a.1, a.2 ∙ ap (λ z. a.0 ++ z) (append_assoc xs ys a.1) ∙ sym (append_assoc a.0 xs (ys ++ a.1)), omega (arith, e, a.3, length-append a.0 xs))

pub next_nothing : (all : List ℕ) (at : ℕ) (xs : List ℕ) → NextAre all at (xs ++ []) → NextAre all at xs
next_nothing all at xs a = next_left all at xs [] a

at_front : (front : List ℕ) (x : ℕ) (rest : List ℕ) → get_or (front ++ (x ∷ rest)) (length front) 0 ≡ x
at_front [] x rest = refl
at_front (y ∷ front) x rest = at_front front x rest

pub next_first : (all : List ℕ) (at x : ℕ) (xs : List ℕ) → NextAre all at (x ∷ xs) → get_or all at 0 ≡ x
next_first all at x xs a = ap₂ (λ (z : List ℕ) (i : ℕ). get_or z i 0) a.2 (sym a.3) ∙ at_front a.0 x (xs ++ a.1)

pub next_after : (all : List ℕ) (at n x : ℕ) (xs : List ℕ) → n ≡ at + 1 → NextAre all at (x ∷ xs) → NextAre all n xs
next_after all at n x xs e a = next_right all at n (x ∷ []) xs e a

opened : (T : Tree) (tag : Tag) (ts : Trees) (n : ℕ) → T ≡ constructed tag ts → n ≡ sizes ts → (identifier tag true ++ shortest_length n) ++ encodings ts ≡ encoding T
opened T tag ts n e f =
    append_assoc (identifier tag true) (shortest_length n) (encodings ts)
    ∙ ap (λ (k : ℕ). identifier tag true ++ (shortest_length k ++ encodings ts)) (f ∙ sym (length-encodings ts)) ∙ ap encoding (sym e)

-- a constructed element is its header and the elements in it
pub composed : (r : Result (Unit {0}) Broken) (a b c : Option (List ℕ)) (p q s : BufferedSink) (T : Tree) (tag : Tag) (ts : Trees) (n : ℕ) → T ≡ constructed tag ts → n ≡ sizes ts
    → Puts (Ok tt) (identifier tag true ++ shortest_length n) a p b q → Puts r (encodings ts) b q c s → Puts r (encoding T) a p c s
composed r a b c p q s T tag ts n e f h k =
    subst (λ z. Puts r z a p c s) (opened T tag ts n e f) (puts_then tt r (identifier tag true ++ shortest_length n) (encodings ts) a b c p q s h k)

pub not_opened : (r : Result (Unit {0}) Broken) (x : Broken) (a b : Option (List ℕ)) (p q : BufferedSink) (T : Tree) (tag : Tag) (ts : Trees) (n : ℕ) → T ≡ constructed tag ts → n ≡ sizes ts
    → IsErr r → Puts (Err x) (identifier tag true ++ shortest_length n) a p b q → Puts r (encoding T) a p b q
not_opened r x a b p q T tag ts n e f fails h =
    subst (λ z. Puts r z a p b q) (opened T tag ts n e f) (as_failed r x _ a b p q fails (puts_failed x x (identifier tag true ++ shortest_length n) (encodings ts) a b p q h))

pub only_one : (r : Result (Unit {0}) Broken) (a c : Option (List ℕ)) (p s : BufferedSink) (E : Tree) → Puts r (encoding E) a p c s → Puts r (encodings (more E none)) a p c s
only_one r a c p s E h = subst (λ z. Puts r z a p c s) (sym (append-nil (encoding E))) h

-- how far a loop over the elements in another has come: what is written and what is left make up all
pub record Reached (all left : Trees) (contents : List ℕ) (start : Option (List ℕ)) (old : BufferedSink) (now : Option (List ℕ)) (new : BufferedSink) : Type 0 where
  pub done : List ℕ
  pub make_up : done ++ encodings left ≡ encodings all
  pub puts : Puts (Ok tt) done start old now new
  pub next : new.next + length (all_content_sizes left) ≡ old.next + length (all_content_sizes all)
  pub coming : NextAre contents new.next (all_content_sizes left)
  pub small : sizes left ≤ profile_two.limit

pub reached_none : (all : Trees) (contents : List ℕ) (start : Option (List ℕ)) (p : BufferedSink) → NextAre contents p.next (all_content_sizes all) → sizes all ≤ profile_two.limit
    → Reached all all contents start p start p
reached_none all contents start p a le = record { done = []; make_up = refl; puts = puts_nothing tt start p; next = refl; coming = a; small = le }

-- another spelling of what is left
pub reached_same : (all us ws : Trees) (contents : List ℕ) (a b : Option (List ℕ)) (p q : BufferedSink) → ws ≡ us → Reached all ws contents a p b q → Reached all us contents a p b q
reached_same all us ws contents a b p q e h = subst (λ z. Reached all z contents a p b q) e h

sizes_next : (contents : List ℕ) (at : ℕ) (ts us ws : Trees) → ws ≡ joined ts us → NextAre contents at (all_content_sizes ws) → NextAre contents at (all_content_sizes ts ++ all_content_sizes us)
sizes_next contents at ts us ws e a = subst (λ z. NextAre contents at z) (ap all_content_sizes e ∙ content_sizes-joined ts us) a

-- what the next elements ask
pub reached_next : (all ts us ws : Trees) (contents : List ℕ) (a b : Option (List ℕ)) (p q : BufferedSink) → ws ≡ joined ts us → Reached all ws contents a p b q
    → NextAre contents q.next (all_content_sizes ts)
reached_next all ts us ws contents a b p q e h = next_left _ _ _ _ (sizes_next contents q.next ts us ws e h.coming)

pub reached_small : (all ts us ws : Trees) (contents : List ℕ) (a b : Option (List ℕ)) (p q : BufferedSink) → ws ≡ joined ts us → Reached all ws contents a p b q
    → sizes ts ≤ profile_two.limit
reached_small all ts us ws contents a b p q e h = omega (arith, ap sizes e, sizes-joined ts us, h.small)

made_up : (done : List ℕ) (all ts us ws : Trees) → ws ≡ joined ts us → done ++ encodings ws ≡ encodings all → (done ++ encodings ts) ++ encodings us ≡ encodings all
made_up done all ts us ws e f =
    append_assoc done (encodings ts) (encodings us) ∙ ap (λ z. done ++ z) (sym (encodings-joined ts us)) ∙ ap (λ z. done ++ encodings z) (sym e) ∙ f

-- the next elements are written
pub reached_more : (all ts us ws : Trees) (contents : List ℕ) (a b c : Option (List ℕ)) (p q s : BufferedSink) → ws ≡ joined ts us → Reached all ws contents a p b q
    → Puts (Ok tt) (encodings ts) b q c s → s.next ≡ q.next + length (all_content_sizes ts) → Reached all us contents a p c s
reached_more all ts us ws contents a b c p q s e h k n = record {
  done = h.done ++ encodings ts;
  make_up = made_up h.done all ts us ws e h.make_up;
  puts = puts_then tt (Ok tt) h.done (encodings ts) a b c p q s h.puts k;
  next =
      let x = ap (λ z. length (all_content_sizes z)) e in
      let y = ap length (content_sizes-joined ts us) in
      omega (arith, x, y, h.next, n, length-append (all_content_sizes ts) (all_content_sizes us));
  coming = next_right _ _ _ (all_content_sizes ts) (all_content_sizes us) n (sizes_next contents q.next ts us ws e h.coming);
  small = omega (arith, ap sizes e, sizes-joined ts us, h.small);
}

-- the sink broke in the next elements
pub reached_failed : (r : Result (Unit {0}) Broken) (x : Broken) (all ts us ws : Trees) (contents : List ℕ) (a b c : Option (List ℕ)) (p q s : BufferedSink) → ws ≡ joined ts us
    → IsErr r → Reached all ws contents a p b q → Puts (Err x) (encodings ts) b q c s → Puts r (encodings all) a p c s
reached_failed r x all ts us ws contents a b c p q s e fails h k =
    subst (λ z. Puts r z a p c s) (made_up h.done all ts us ws e h.make_up)
    (as_failed r x _ a c p s fails (puts_failed x x (h.done ++ encodings ts) (encodings us) a c p s (puts_then tt (Err x) h.done (encodings ts) a b c p q s h.puts k)))

pub empty_element : (r : Result (Unit {0}) Broken) (a b : Option (List ℕ)) (p q : BufferedSink) (T : Tree) (tag : Tag) (n : ℕ) → T ≡ constructed tag none → n ≡ 0 → Puts r (identifier tag true ++ shortest_length n) a p b q → Puts r (encoding T) a p b q
empty_element r a b p q T tag n e f h = subst (λ z. Puts r z a p b q) (sym (append-nil (identifier tag true ++ shortest_length n)) ∙ opened T tag none n e f) h

pub default_trees : (o : Option Row) (row : Row) (v : Value) → o ≡ Some row → is_default row (content_of v) ≡ true → place_trees o (Some v) ≡ none
default_trees o row v e f = ap (λ x. place_trees x (Some v)) e ∙ ap (λ b. trees_unless b (row_tree row (content_of v))) f

-- a leaf has no content size
pub leaf_next : (answer : Result (Unit {0}) Broken) (old new : ℕ) (T : Tree) (tag : Tag) (octets : List ℕ) → T ≡ primitive tag octets → new ≡ old
    → IfOk answer (λ _. new ≡ old + length (content_sizes T))
leaf_next (Ok x) old new T tag octets e f = let s = ap (λ z. length (content_sizes z)) e in omega (arith, f, s)
leaf_next (Err x) old new T tag octets e f = tt

pub string_normal : (string : IllString) → string_octets string ≡ normal_content (string_value string)
string_normal (General text) = refl
string_normal (Visible text) = refl

-- The list of what is due at a place.
use Rattle.std.proofs.Common.{rules, ◌≡◌, ◌≤◌, ◌+◌, ◌++◌, ◌||◌, ◌∙◌, ℕ, suc, Bool, true, false, IsTrue, List, [], ◌∷◌, Some, None, Result, Ok, Err, option_map, append_assoc, append-nil, drop, length, refl, sym, ap, subst, arith, slice_get}
use Rattle.std.specs.Prelude.{if◌then◌else◌, map, not, OnOk}
use Rattle.std.specs.List.{All, list_any}
use Rattle.std.proofs.lemmas.Bool.{and_from, and_parts}
use Rattle.std.proofs.lemmas.List.Elements.{All-append, All-nil, All-push, All-weaker}
use Rattle.std.proofs.lemmas.List.Folds.{list_any-append}
use Rattle.ber_tree.specs.Identifier.{Tag}
use Rattle.ill_schema.specs.Tagging.{same_tag}
use Rattle.ill_refusals.proofs.Rows.{same_tag-is}
use Rattle.ill_grammar.specs.Elements.{element_with}
use Rattle.ill_grammar.specs.Cells.{BeginsDue, cell_alternative, due_at, next_from, node_choice}
use Rattle.ill_grammar.specs.Places.{IsDueWithTag, alternative_of, due_of, element_found, next_at, node_at, part_in, slot_of}
use Rattle.ill_grammar.specs.DueLists.{due_tag, have_own_tags, is_listed}
use Rattle.ill_grammar.specs.code.ByTag.{due_by_tag}
use Rattle.ill_grammar.specs.code.Listing.{StartsAt, cell_tag, due_found, with_due}
use Rattle.ill_grammar.specs.code.Meant.{all_open, cell_choice, cell_opens, cell_start, cell_starts, cells_meant, is_nested, nested_starts, node_meant, node_starts, opens_in, starts_of_cells}
use Rattle.ill_grammar.specs.code.Starts.{BeginsIn, IsBegunBy}
use Rattle.ill_grammar.specs.declared.cell.Cell.{Cell}
use Rattle.ill_grammar.specs.declared.place.Found.{Found}
use Rattle.ill_grammar.specs.declared.place.Place.{Place}
use Rattle.ill_grammar.specs.declared.place.due_elements.DueElement.{DueElement}
use Rattle.ill_tables.specs.Table.{kind_of}
use Rattle.ill_schema.proofs.Tags.{same_tag-refl}
use Rattle.ill_grammar.proofs.Alternatives.{begins-nested, drop-at, drop-past, element_with-found, element_with-other, open-at, starts_from}
use Rattle.ill_grammar.proofs.AtRow.{row-of}
use Rattle.ill_grammar.proofs.Scanning.{none-by-tag, scan, tag-due}
use Rattle.ill_grammar.proofs.Steps.{HasPassed, cell-said, passed-next, passed-none, scan-all, scan-end, scan-found, scan-skip, scan-stop}

neither : (a b : Bool) → (a || b) ≡ false → (a ≡ false) × (b ≡ false)
neither false b h = (refl, h)
neither true b h = absurd cc

-- what isn't in a longer list isn't in its front
pub unlisted-front : (t : Tag) (ds more : List DueElement) → is_listed t (ds ++ more) ≡ false → is_listed t ds ≡ false
unlisted-front t ds more h = (neither (is_listed t ds) (is_listed t more) (sym (list_any-append (λ d. same_tag (due_tag d) t) ds more) ∙ h)).0

-- what isn't there after one is added wasn't before, and isn't what was added
pub unlisted-with : (t : Tag) (ds : List DueElement) (d : DueElement) → is_listed t (with_due ds d) ≡ false
    → (is_listed t ds ≡ false) × (same_tag (due_tag d) t ≡ false)
unlisted-with t ds d h = go (is_listed (due_tag d) ds) refl h
  where
    apart : (b : Bool) → same_tag (due_tag d) t ≡ b → is_listed (due_tag d) ds ≡ true → is_listed t ds ≡ false → same_tag (due_tag d) t ≡ false
    apart false e in_list h = e
    apart true e in_list h = let q : true ≡ false = sym in_list ∙ ap (λ u. is_listed u ds) (same_tag-is (due_tag d) t e) ∙ h in cc

    go : (b : Bool) → is_listed (due_tag d) ds ≡ b → is_listed t (if b then ds else ds ++ d ∷ []) ≡ false
        → (is_listed t ds ≡ false) × (same_tag (due_tag d) t ≡ false)
    go true e h = (h, apart (same_tag (due_tag d) t) refl e h)
    go false e h =
        let both = neither (is_listed t ds) (is_listed t (d ∷ [])) (sym (list_any-append (λ x. same_tag (due_tag x) t) ds (d ∷ [])) ∙ h) in
        (both.0, (neither (same_tag (due_tag d) t) false both.1).0)

-- a tag that isn't that of one more is as little in a longer list
apart-snoc : (t : Tag) (ds : List DueElement) (d : DueElement) → IsTrue (not (list_any (same_tag t) (map due_tag ds))) → same_tag t (due_tag d) ≡ false
    → IsTrue (not (list_any (same_tag t) (map due_tag (ds ++ d ∷ []))))
apart-snoc t [] d h n = rw n refl
apart-snoc t (x ∷ ds) d h n = go (same_tag t (due_tag x)) h (λ k. apart-snoc t ds d k n)
  where
    go : (b : Bool) → IsTrue (not (b || list_any (same_tag t) (map due_tag ds)))
        → (IsTrue (not (list_any (same_tag t) (map due_tag ds))) → IsTrue (not (list_any (same_tag t) (map due_tag (ds ++ d ∷ [])))))
        → IsTrue (not (b || list_any (same_tag t) (map due_tag (ds ++ d ∷ []))))
    go true k rest = k
    go false k rest = rest k

own-tags-snoc : (ds : List DueElement) (d : DueElement) → IsTrue (have_own_tags ds) → is_listed (due_tag d) ds ≡ false → IsTrue (have_own_tags (ds ++ d ∷ []))
own-tags-snoc [] d own new = refl
own-tags-snoc (e ∷ ds) d own new =
    let apart = neither (same_tag (due_tag e) (due_tag d)) (is_listed (due_tag d) ds) new in
    let both = and_parts (not (list_any (same_tag (due_tag e)) (map due_tag ds))) (have_own_tags ds) own in
    and_from (not (list_any (same_tag (due_tag e)) (map due_tag (ds ++ d ∷ [])))) (have_own_tags (ds ++ d ∷ []))
    (apart-snoc (due_tag e) ds d both.0 apart.0) (own-tags-snoc ds d both.1 apart.1)

-- with one more, each still has a tag of its own
pub own-tags-with : (ds : List DueElement) (d : DueElement) → IsTrue (have_own_tags ds) → IsTrue (have_own_tags (with_due ds d))
own-tags-with ds d own = go (is_listed (due_tag d) ds) refl
  where
    go : (b : Bool) → is_listed (due_tag d) ds ≡ b → IsTrue (have_own_tags (if b then ds else ds ++ d ∷ []))
    go true h = own
    go false h = own-tags-snoc ds d own h

-- one more element that begins at a place
pub more-started : (at : Place) (c : Cell) (before more items : List DueElement) (d : DueElement) → items ≡ before ++ more → All (StartsAt at c before) more
    → (is_listed (due_tag d) items ≡ false → StartsAt at c before d)
    → (others : List DueElement) × (with_due items d ≡ before ++ others) × All (StartsAt at c before) others
more-started at c before more items d e all starts = go (is_listed (due_tag d) items) refl
  where
    go : (b : Bool) → is_listed (due_tag d) items ≡ b
        → (others : List DueElement) × ((if b then items else items ++ d ∷ []) ≡ before ++ others) × All (StartsAt at c before) others
    go true h = (more, e, all)
    go false h = (more ++ d ∷ [], ap (λ xs. xs ++ d ∷ []) e ∙ append_assoc before more (d ∷ []), All-push (StartsAt at c before) more d all (starts h))

-- what an outcome that is Ok says, in other words
pub on_ok : {X E : Type 0} {P Q : Type 0} (r : Result X E) → (P → Q) → OnOk r P → OnOk r Q
on_ok (Ok x) f p = f p
on_ok (Err e) f p = tt

chosen : {X : Type 0} (b : Bool) (x y : X) → b ≡ true → (if b then x else y) ≡ x
chosen true x y h = refl
chosen false x y h = absurd cc

other : {X : Type 0} (b : Bool) (x y : X) → b ≡ false → (if b then x else y) ≡ y
other false x y h = refl
other true x y h = absurd cc

-- a cell with a tag of its own begins by it
own-begun : (c : Cell) → c.nested ≡ false → cell_opens c ≡ true → IsBegunBy (cell_tag c) (cell_starts c) (cell_choice c) (cell_alternative c c) c
own-begun c h opens = go c.nested h
  where
    own : IsBegunBy (cell_tag c) (cell_start c ∷ []) None None c
    own = record {
      tagged = record { is = element_with-found (cell_tag c) (cell_start c) [] (same_tag-refl (cell_tag c)); by = tt };
      opens = sym (other c.nested (is_nested (kind_of c.node)) (opens_in c.element_type c.node) h) ∙ opens;
    }

    go : (b : Bool) → b ≡ false
        → IsBegunBy (cell_tag c) (if b then node_starts c.node else cell_start c ∷ []) (if b then node_choice c.node else None)
        (if b then option_map (λ _. c.part.row) (node_choice c.node) else None) c
    go false e = own
    go true e = absurd cc

-- what has a tag of its own is one more, if it is new
pub own-started : (at : Place) (c : Cell) (before items : List DueElement) (f : Found) → items ≡ with_due before (due_found f) → f.at ≡ at → f.cell.now ≡ c → f.tagged.now ≡ c
    → c.nested ≡ false → cell_opens c ≡ true → (more : List DueElement) × (items ≡ before ++ more) × All (StartsAt at c before) more
own-started at c before items f e there cell tagged single opens =
    let nothing : All (StartsAt at c before) [] = All-nil (StartsAt at c before) in
    let made = more-started at c before [] before (due_found f) (sym (append-nil before)) nothing starts in
    (made.0, e ∙ made.1, made.2)
  where
    begun : IsBegunBy (cell_tag f.tagged.now) (cell_starts f.cell.now) (cell_choice f.cell.now) (alternative_of f) f.tagged.now
    begun =
        subst (λ (x : Cell). IsBegunBy (cell_tag f.tagged.now) (cell_starts x) (cell_choice x) (cell_alternative x f.tagged.now) f.tagged.now) (sym cell)
        (subst (λ (x : Cell). IsBegunBy (cell_tag x) (cell_starts c) (cell_choice c) (cell_alternative c x) x) (sym tagged) (own-begun c single opens))

    starts : is_listed (due_tag (due_found f)) before ≡ false → StartsAt at c before (due_found f)
    starts h = record { there = there; cell = cell; is_new = h; begun = begun }

-- the tags that are not there begin a node only by the alternatives from a row on
abbrev pub Left : Cell → List Cell → ℕ → List DueElement → Type 0
Left c cells row ds = (t : Tag) → is_listed t ds ≡ false → element_with t (node_starts c.node) ≡ element_with t (starts_from (drop row cells))

pub nested-cell : (c : Cell) → c.nested ≡ true → cell_opens c ≡ true → is_nested (kind_of c.node) ≡ true
nested-cell c h opens = sym (chosen c.nested (is_nested (kind_of c.node)) (opens_in c.element_type c.node) h) ∙ opens

-- the tag of an alternative that is new begins the node by it
alternative-begun : (c : Cell) (cells : List Cell) (row : ℕ) (tagged : Cell) (ds : List DueElement) → c.nested ≡ true → cell_opens c ≡ true
    → starts_of_cells cells ≡ nested_starts (kind_of c.node) c.node → all_open 0 cells ≡ true → slice_get cells row ≡ Some tagged
    → Left c cells row ds → is_listed (cell_tag tagged) ds ≡ false
    → IsBegunBy (cell_tag tagged) (cell_starts c) (cell_choice c) (cell_alternative c tagged) tagged
alternative-begun c cells row tagged ds nested opens meant all_opened is left h = go c.nested nested
  where
    same : same_tag (cell_tag tagged) (cell_tag tagged) ≡ true
    same = same_tag-refl (cell_tag tagged)

    own : IsTrue (opens_in tagged.element_type tagged.node) × (0 + row ≡ tagged.part.row)
    own = open-at 0 row cells tagged all_opened is

    begun : IsBegunBy (cell_tag tagged) (node_starts c.node) (node_choice c.node) (option_map (λ _. tagged.part.row) (node_choice c.node)) tagged
    begun =
        let z : row ≡ 0 + row = omega arith in
        record {
          tagged = record {
            is = left (cell_tag tagged) h ∙ ap (λ cs. element_with (cell_tag tagged) (starts_from cs)) (drop-at cells row tagged is)
                ∙ element_with-found (cell_tag tagged) (cell_start tagged) _ same;
            by = subst (λ (n : ℕ). BeginsIn (cell_tag tagged) (node_choice c.node) (option_map (λ _. n) (node_choice c.node)) (cell_start tagged).element) (z ∙ own.1)
                (begins-nested (cell_tag tagged) c.node row cells tagged (nested-cell c nested opens) meant is same);
          };
          opens = own.0;
        }

    go : (b : Bool) → b ≡ true
        → IsBegunBy (cell_tag tagged) (if b then node_starts c.node else cell_start c ∷ []) (if b then node_choice c.node else None)
        (if b then option_map (λ _. tagged.part.row) (node_choice c.node) else None) tagged
    go true e = begun
    go false e = absurd cc

-- an alternative is one more, if it is new
pub alternative-started : (at : Place) (c : Cell) (cells : List Cell) (row : ℕ) (before more ds items : List DueElement) (f : Found)
    → items ≡ with_due ds (due_found f) → f.at ≡ at → f.cell.now ≡ c → slice_get cells row ≡ Some f.tagged.now → c.nested ≡ true → cell_opens c ≡ true
    → starts_of_cells cells ≡ nested_starts (kind_of c.node) c.node → all_open 0 cells ≡ true → ds ≡ before ++ more → All (StartsAt at c before) more
    → Left c cells row ds → (others : List DueElement) × (items ≡ before ++ others) × All (StartsAt at c before) others
alternative-started at c cells row before more ds items f e there cell is nested opens meant all_opened joined all left =
    let made = more-started at c before more ds (due_found f) joined all starts in
    (made.0, e ∙ made.1, made.2)
  where
    starts : is_listed (due_tag (due_found f)) ds ≡ false → StartsAt at c before (due_found f)
    starts h = record {
      there = there;
      cell = cell;
      is_new = unlisted-front (due_tag (due_found f)) before more (ap (is_listed (due_tag (due_found f))) (sym joined) ∙ h);
      begun = subst (λ (x : Cell). IsBegunBy (cell_tag f.tagged.now) (cell_starts x) (cell_choice x) (cell_alternative x f.tagged.now) f.tagged.now) (sym cell)
          (alternative-begun c cells row f.tagged.now ds nested opens meant all_opened is left h);
    }

-- and the tags that are not there then begin the node by the alternatives after it
pub left-next : (c : Cell) (cells : List Cell) (row : ℕ) (ds items : List DueElement) (f : Found) → items ≡ with_due ds (due_found f) → slice_get cells row ≡ Some f.tagged.now
    → Left c cells row ds → Left c cells (row + 1) items
left-next c cells row ds items f e is left t h =
    let apart = unlisted-with t ds (due_found f) (ap (is_listed t) (sym e) ∙ h) in
    let z : suc row ≡ row + 1 = omega arith in
    left t apart.0 ∙ ap (λ cs. element_with t (starts_from cs)) (drop-at cells row f.tagged.now is)
    ∙ element_with-other t (cell_start f.tagged.now) _ apart.1 ∙ ap (λ j. element_with t (starts_from (drop j cells))) z

-- no tag is left after the last alternative
pub none-begun : (c : Cell) (cells : List Cell) (row : ℕ) (ds : List DueElement) → c.nested ≡ true → length cells ≤ row → Left c cells row ds
    → (t : Tag) → is_listed t ds ≡ false → element_with t (cell_starts c) ≡ None
none-begun c cells row ds nested end left t h =
    ap (element_with t) (chosen c.nested (node_starts c.node) (cell_start c ∷ []) nested) ∙ left t h ∙ ap (λ cs. element_with t (starts_from cs)) (drop-past cells row end)

-- nor after a tag of its own
pub none-own : (c : Cell) (ds items : List DueElement) (f : Found) → items ≡ with_due ds (due_found f) → f.tagged.now ≡ c → c.nested ≡ false
    → (t : Tag) → is_listed t items ≡ false → element_with t (cell_starts c) ≡ None
none-own c ds items f e tagged single t h =
    let apart = unlisted-with t ds (due_found f) (ap (is_listed t) (sym e) ∙ h) in
    ap (element_with t) (other c.nested (node_starts c.node) (cell_start c ∷ []) single)
    ∙ element_with-other t (cell_start c) [] (ap (λ (x : Cell). same_tag (cell_tag x) t) (sym tagged) ∙ apart.1)

-- the search for a tag has come from a place to a position after it
abbrev pub Passed : Place → List Cell → ℕ → Tag → Type 0
Passed s cells i t =
    (scan t (part_in s) (node_at s) s.position (drop s.position (cells_meant cells)) ≡ scan t (part_in s) (node_at s) i (drop i (cells_meant cells)))
    × HasPassed t (node_at s) s.position i

-- the list is of what is due, and has each tag that was found before a position
pub record IsListing (s : Place) (cells : List Cell) (i : ℕ) (ds : List DueElement) : Type 0 where
  pub due : All (λ d. IsDueWithTag (due_tag d) s d.found) ds
  pub passed : (t : Tag) → is_listed t ds ≡ false → Passed s cells i t
  pub once : IsTrue (have_own_tags ds)

-- what is found by a cell where a search has come is due
due-found : (t : Tag) (s : Place) (i : ℕ) (cells : List Cell) (c : Cell) (f : Found) → cells_meant cells ≡ node_meant (node_at s) → slice_get cells i ≡ Some c
    → Passed s cells i t → part_in f.at ≡ part_in s → node_at f.at ≡ node_at s → f.at.position ≡ i → f.cell.now ≡ c
    → IsBegunBy t (cell_starts f.cell.now) (cell_choice f.cell.now) (alternative_of f) f.tagged.now → IsDueWithTag t s f
due-found t s i cells c f meant is passed p n at same begun =
    let begun_here = subst (λ (x : Cell). IsBegunBy t (cell_starts x) (cell_choice x) (alternative_of f) f.tagged.now) same begun in
    let e = element_found f in
    let said = cell-said (node_at s) i cells c meant is in
    let by_tag : due_by_tag t (next_from (part_in s) (node_at s) s.position) ≡ Some (due_at (part_in s) (node_at s) i c.slot e) =
    scan-all t (part_in s) (node_at s) s.position cells meant ∙ passed.0 ∙ scan-found t (part_in s) (node_at s) i cells c e is begun_here.tagged.is in
    let here : due_at (part_in s) (node_at s) i c.slot e ≡ due_of f =
    sym (ap (λ x. due_at x (node_at f.at) f.at.position (slot_of f) e) p ∙ ap (λ x. due_at (part_in s) x f.at.position (slot_of f) e) n
    ∙ ap (λ (x : ℕ). due_at (part_in s) (node_at s) x (slot_of f) e) at ∙ ap (λ (x : Cell). due_at (part_in s) (node_at s) i x.slot e) same) in
    let later : s.position ≤ i = passed.1.later in
    record {
      is = tag-due t (next_from (part_in s) (node_at s) s.position) _ (by_tag ∙ ap Some here);
      begins = subst (λ d. BeginsDue t d (alternative_of f)) here (said.begins t (part_in s) (alternative_of f) e (record { is = begun_here.tagged.is; by = begun_here.tagged.by }));
      parent = n;
      later = subst (λ (x : ℕ). s.position ≤ x) (sym at) later;
      passed = λ z apart. passed.1.apart z (λ m. apart (at ∙ m));
      placed = f.placed;
      row = row-of (part_in f.at) (node_at f.at) f.at.position (slot_of f) e f.placed f.there;
      stays = λ any. absurd (none-by-tag t (part_in s) (node_at s) s.position _ any by_tag);
    }

-- nothing is listed at the beginning
pub listing-begun : (s : Place) (cells : List Cell) → IsListing s cells s.position []
listing-begun s cells = record { due = search rules; passed = λ t h. (refl, passed-none t (node_at s) s.position); once = refl }

-- with what begins at the position where it is, the list is still of what is due
pub due-more : (s at : Place) (i : ℕ) (cells : List Cell) (c : Cell) (ds more items : List DueElement) → cells_meant cells ≡ node_meant (node_at s)
    → slice_get cells i ≡ Some c → IsListing s cells i ds → part_in at ≡ part_in s → node_at at ≡ node_at s → at.position ≡ i
    → items ≡ ds ++ more → All (StartsAt at c ds) more → All (λ d. IsDueWithTag (due_tag d) s d.found) items
due-more s at i cells c ds more items meant is listing p n position e all =
    subst (All (λ d. IsDueWithTag (due_tag d) s d.found)) (sym e)
    (All-append (λ d. IsDueWithTag (due_tag d) s d.found) ds more listing.due (All-weaker (StartsAt at c ds) (λ d. IsDueWithTag (due_tag d) s d.found) one more all))
  where
    one : (d : DueElement) → StartsAt at c ds d → IsDueWithTag (due_tag d) s d.found
    one d starts =
        due-found (due_tag d) s i cells c d.found meant is (listing.passed (due_tag d) starts.is_new)
        (ap part_in starts.there ∙ p) (ap node_at starts.there ∙ n) (ap (λ (x : Place). x.position) starts.there ∙ position) starts.cell starts.begun

-- what isn't in the list then isn't due at the position, and is searched for at the next one
pub passed-more : (s : Place) (i : ℕ) (cells : List Cell) (c : Cell) (ds more items : List DueElement) → cells_meant cells ≡ node_meant (node_at s)
    → slice_get cells i ≡ Some c → IsListing s cells i ds → items ≡ ds ++ more → c.is_mandatory ≡ false
    → ((t : Tag) → is_listed t items ≡ false → element_with t (cell_starts c) ≡ None) → (t : Tag) → is_listed t items ≡ false → Passed s cells (i + 1) t
passed-more s i cells c ds more items meant is listing e optional none t h =
    let before = listing.passed t (unlisted-front t ds more (ap (is_listed t) (sym e) ∙ h)) in (
      before.0 ∙ scan-skip t (part_in s) (node_at s) i cells c is (none t h) optional,
      passed-next t (node_at s) s.position i cells c meant is (none t h) before.1,
    )

-- after a mandatory one nothing else is due
pub none-after : (s : Place) (i : ℕ) (cells : List Cell) (c : Cell) (ds more items : List DueElement) → cells_meant cells ≡ node_meant (node_at s)
    → slice_get cells i ≡ Some c → IsListing s cells i ds → items ≡ ds ++ more → c.is_mandatory ≡ true
    → (t : Tag) → is_listed t items ≡ false → element_with t (cell_starts c) ≡ None → due_by_tag t (next_at s) ≡ None
none-after s i cells c ds more items meant is listing e mandatory t h none =
    let before = listing.passed t (unlisted-front t ds more (ap (is_listed t) (sym e) ∙ h)) in
    scan-all t (part_in s) (node_at s) s.position cells meant ∙ before.0 ∙ scan-stop t (part_in s) (node_at s) i cells c is none mandatory

-- nor after the last one
pub none-left : (s : Place) (i : ℕ) (cells : List Cell) (ds : List DueElement) → cells_meant cells ≡ node_meant (node_at s) → IsListing s cells i ds → length cells ≤ i
    → (t : Tag) → is_listed t ds ≡ false → due_by_tag t (next_at s) ≡ None
none-left s i cells ds meant listing h t unlisted =
    scan-all t (part_in s) (node_at s) s.position cells meant ∙ (listing.passed t unlisted).0 ∙ scan-end t (part_in s) (node_at s) i cells h

-- A string that is alone in its explicit tag: the three steps of the tag, the string and the end are one.
use Rattle.ill_tables.specs.declared.profile.Profile.{Profile as Named}
use Rattle.ill_schema.specs.Profiles.{profile_of}
use Rattle.std.proofs.Common.{◌≡◌, ℕ, ◌+◌, ◌-◌, ◌<◌, ◌≤◌, Bool, true, false, List, [], ◌∷◌, ◌++◌, length, take, drop, Option, Some, None, Ok, IsTrue, refl, sym, ap, ap₂, subst, ◌∙◌, arith, length-drop, take-append-drop, nat_eq, ◌||◌, if◌then◌else◌}
use Rattle.std.specs.Prelude.{nat_le, nat_lt, slice_index_or}
use Rattle.std.proofs.lemmas.List.{length-take-le}
use Rattle.ber_core.specs.Id.{tag_of_id}
use Rattle.ber_core.proofs.ReadOctets.{octets_right}
use Rattle.ber_tree.specs.Identifier.{Tag}
use Rattle.ber_tree.specs.Octets.{are_octets}
use Rattle.ber_tree.specs.Tree.{Tree, primitive, more, none}
use Rattle.ber_leaf.specs.Leaf.{content_fault}
use Rattle.ber_leaf.specs.Profile.{profile_two}
use Rattle.ill_schema.specs.Tagging.{leaf_tag}
use Rattle.ill_schema.specs.declared.refusal.Cause.{Cause}
use Rattle.ill_tables.specs.declared.node.Kind.{Kind}
use Rattle.ill_tables.specs.declared.node.NodeId.{NodeId}
use Rattle.ill_tables.specs.Table.{kind_of}
use Rattle.ill_refusals.specs.Element.{Element, leaf, wrapper}
use Rattle.ill_refusals.specs.Fault.{Fault, cut_fault, ends_at, element_fault, fault, past_end}
use Rattle.ill_refusals.specs.Next.{Due, Next, anything, due, element_of, is_last, missing, next_of, part, rows}
use Rattle.ill_refusals.specs.Place.{Open, bound, next_in}
use Rattle.ill_refusals.specs.code.Judge.{Judgement, closes, faulty, judge, judge_content, judge_end, judge_form, judge_tag, or_faulty, reads}
use Rattle.ill_refusals.specs.code.Step.{opened}
use Rattle.ill_grammar.specs.Begun.{Begun}
use Rattle.ill_grammar.specs.Begun as begun
use Rattle.ill_grammar.specs.Due.{IsBegun}
use Rattle.ill_grammar.specs.Elements.{component_of, element_is}
use Rattle.ill_grammar.specs.LeafTypes.{leaf_is}
use Rattle.ill_grammar.specs.code.Judging.{content_in}
use Rattle.ill_grammar.specs.declared.element.Element.TheVariants.{Leaf, Wrapper}
use Rattle.ill_grammar.specs.declared.element.Wrapped.{Wrapped}
use Rattle.ill_grammar.specs.declared.leaf_type.LeafType.{LeafType}
use Rattle.ill_grammar.proofs.DueElements.{due_in-found}
use Rattle.ill_grammar.proofs.Judgements.{behind_identifier, definite_judged, ended_judged, identified_judged, within_judged}
use Rattle.ill_refusals.proofs.Judgements.{form_judged}
use Rattle.ber_leaf.specs.Leaf.{value}
use Rattle.ill_schema.specs.Content.{simple}
use Rattle.ill_refusals.specs.Element.{segment}
use Rattle.ill_refusals.specs.code.Step.{with_tree}
use Rattle.ill_grammar.specs.Contents.{IsValueOf}
use Rattle.ill_grammar.specs.Due.{IsDueIn, behind, due_with, next_place, read_as, shape_at, slot_in}
use Rattle.ill_grammar.specs.LeafTypes.{IsContentIn}
use Rattle.ill_grammar.specs.Places.{alternative_of, place_view}
use Rattle.ill_grammar.specs.Standing.{Level, next_at}
use Rattle.ill_grammar.specs.code.Judging.{IsBegin}
use Rattle.ill_grammar.specs.declared.element.Element.{Element as CodeElement}
use Rattle.ill_grammar.specs.declared.judge.ConstructedElement.{ConstructedElement}
use Rattle.ill_grammar.specs.declared.place.Place.{Place}
use Rattle.ill_grammar.proofs.Meanings.{begun_means, begun_proper}
use Rattle.ill_read.specs.Paths.{HoldsAt, text_so_far}
use Rattle.ill_read.specs.code.Drafts.{HasString, IsNoSegment, WrapsString, is_ill_string}
use Rattle.ill_read.specs.code.Judged.{IsStep}
use Rattle.ill_read.specs.code.Stepping.{GoesOn}
use Rattle.ill_read.specs.declared.path.Path.{Path}
use Rattle.ill_read.proofs.DeliveredEntries.{entry_added}
use Rattle.ill_read.proofs.Segments.{due_outside, no_text, segments_alone}
use Rattle.ill_read.specs.code.StringsInTags.{BeginsWithString, HasStringInTag, HoldsOnly, string_tree}

-- ---- what is due in the tag

-- a string of an ILL-String begins what the tag is round
pub string_begun : (w : Wrapped) (l : LeafType) → w.node ≡ NodeId.IllString → IsTrue (is_ill_string l) → IsBegun (leaf_tag (leaf_is l)) (component_of w) None (begun.Element (Leaf l))
string_begun w l node string = subst (λ n. IsBegun (leaf_tag (leaf_is l)) (component_of (record w { node = n })) None (begun.Element (Leaf l))) (sym node) (go l string)
  where
    go : (l : LeafType) → IsTrue (is_ill_string l) → IsBegun (leaf_tag (leaf_is l)) (component_of (record w { node = NodeId.IllString })) None (begun.Element (Leaf l))
    go LeafType.General h = record { is = refl; begins = refl }
    go LeafType.Visible h = record { is = refl; begins = refl }
    go _ h = absurd cc

-- the tag, once it is open
abbrev pub open_tag : Wrapped → Tag → ℕ → Option ℕ → Open
open_tag w tag at end = opened (element_is (Wrapper w)) tag at end

next_round : (p : Named) (w : Wrapped) (tag : Tag) (at : ℕ) (end : Option ℕ) (place : List Open) → w.node ≡ NodeId.IllString → next_in (profile_of p) (open_tag w tag at end ∷ place) ≡ rows (component_of w ∷ [])
next_round p w tag at end place node = ap (λ n. elim (kind_of n) as (λ _. Next) [ Kind.Any ↦ anything (component_of w) | _ ↦ rows (component_of w ∷ []) ]) node

string_next : (w : Wrapped) (l : LeafType) → w.node ≡ NodeId.IllString → IsTrue (is_ill_string l) → due profile_two (leaf_tag (leaf_is l)) (rows (component_of w ∷ [])) ≡ Some (part (component_of w) (leaf (leaf_is l)) (rows []))
string_next w l node string = due_in-found (leaf_tag (leaf_is l)) (component_of w) [] (leaf (leaf_is l)) (string_begun w l node string).is

-- ---- the string is judged

abbrev deep_body : (p : Named) → List Open → Tag → Bool → ℕ → ℕ → Fault → List ℕ → Bool → Judgement
deep_body p place tag f at i cut w b = if b then faulty (fault Cause.TooDeep at) else judge_tag (profile_of p) place tag f at i cut w

abbrev due_body : (p : Named) → List Open → Tag → Bool → ℕ → ℕ → Fault → List ℕ → Option Due → Judgement
due_body p place tag f at i cut w x = elim x as (λ _. Judgement) [
  | None ↦ faulty (fault Cause.UnexpectedTag at)
  | Some d ↦ judge_form (profile_of p) place (element_of d) tag f at i cut w
]

abbrev size_body : (p : Named) → List Open → Element → Tag → ℕ → ℕ → Fault → ℕ → List ℕ → Bool → Judgement
size_body p place e tag at header cut n w b = if b then faulty (fault (past_end place) at) else judge_content (profile_of p) e tag at header cut n w

abbrev content_body : (p : Named) → Element → Tag → ℕ → ℕ → Fault → ℕ → List ℕ → Bool → Judgement
content_body p e tag at header cut n w b = if b then faulty cut else or_faulty (element_fault (profile_of p) e (take n w)) at (reads tag header (take n w))

not_less : (m n : ℕ) → n ≤ m → nat_lt m n ≡ false
not_less m n h = grind (arith, h)

not_deep : (n : ℕ) → n < 31 → nat_le 32 (n + 1) ≡ false
not_deep n h = grind (arith, h)

pub string_judged : (p : Named) (place : List Open) (tag : Tag) (w : Wrapped) (l : LeafType) (at k own size : ℕ) (end : Option ℕ) (rest window : List ℕ) → length place < 31 → w.node ≡ NodeId.IllString
    → ends_at (open_tag w tag at end ∷ place) k ≡ false → window ≡ take (bound profile_two (open_tag w tag at end ∷ place) - k) rest → IsTrue (are_octets window) → BeginsWithString l own size window
    → k + own + size ≤ bound profile_two (open_tag w tag at end ∷ place) → content_fault (profile_of p) (leaf_is l) (content_in own size window) ≡ None
    → judge (profile_of p) (open_tag w tag at end ∷ place) k rest ≡ reads (leaf_tag (leaf_is l)) own (content_in own size window)
string_judged p place tag w l at k own size end rest window shallow node apart is ok h room sound =
    let path = open_tag w tag at end ∷ place in
    let t = leaf_tag (leaf_is l) in
    let e = leaf (leaf_is l) in
    let cut = cut_fault profile_two path k rest in
    let behind = drop 1 window in
    let spelled : window ≡ take 1 window ++ behind = sym (take-append-drop 1 window) in
    let next = next_round p w tag at end place node in
    let few : nat_le 32 (length path) ≡ false = (let n : length path ≡ length place + 1 = omega arith in ap (nat_le 32) n ∙ not_deep (length place) shallow) in
    let deep : (nat_le 32 (length path) || is_last (next_in (profile_of p) path)) ≡ false = ap₂ (λ a b. a || b) few (ap is_last next) in
    let found = ap (due profile_two t) next ∙ string_next w l node h.kind in
    let right = octets_right (take 1 window) behind (subst (λ x. IsTrue (are_octets x)) spelled ok) in
    let within : nat_lt (bound profile_two path) (k + own + size) ≡ false = not_less _ _ room in
    let there : nat_lt (length (drop own window)) size ≡ false = not_less _ _ (omega (arith, h.within, length-drop own window)) in
    within_judged p path k rest window apart is
    ∙ identified_judged p path k cut window behind t false h.named
    ∙ behind_identifier p path k cut window (take 1 window) behind t false spelled h.named
    ∙ ap (deep_body p path t false k (length (take 1 window)) cut behind) deep
    ∙ ap (due_body p path t false k (length (take 1 window)) cut behind) found
    ∙ form_judged (profile_of p) path e t false k (length (take 1 window)) cut behind refl
    ∙ definite_judged p path e t false k cut window (take 1 window) behind own size right spelled (omega (arith, h.within)) h.sized
    ∙ ap (size_body p path e t k own cut size (drop own window)) within
    ∙ ap (content_body p e t k own cut size (drop own window)) there
    ∙ ap (λ x. or_faulty x k (reads t own (content_in own size window))) sound

-- ---- the end is judged

-- with the string in it
abbrev pub filled_tag : Wrapped → Tag → ℕ → Option ℕ → Tree → Open
filled_tag w tag at end U = record (open_tag w tag at end) { trees = more U none }

none_missing : (p : Named) (w : Wrapped) (l : LeafType) (tag : Tag) (at : ℕ) (end : Option ℕ) (place : List Open) (octets : List ℕ) → w.node ≡ NodeId.IllString → IsTrue (is_ill_string l)
    → missing profile_two (next_in (profile_of p) (filled_tag w tag at end (primitive (leaf_tag (leaf_is l)) octets) ∷ place)) ≡ None
none_missing p w l tag at end place octets node string =
    let t = leaf_tag (leaf_is l) in
    let start = next_round p w tag at end place node in
    ap (λ n. missing profile_two (elim (due profile_two t n) as (λ _. Next) [ Some d ↦ next_of d | None ↦ n ])) start
    ∙ ap (λ d. missing profile_two (elim d as (λ _. Next) [ Some d ↦ next_of d | None ↦ rows (component_of w ∷ []) ])) (string_next w l node string)

end_judged : (p : Named) (w : Wrapped) (l : LeafType) (tag : Tag) (at k marks : ℕ) (end : Option ℕ) (place : List Open) (octets : List ℕ) → w.node ≡ NodeId.IllString → IsTrue (is_ill_string l)
    → judge_end (profile_of p) (filled_tag w tag at end (primitive (leaf_tag (leaf_is l)) octets) ∷ place) k marks ≡ closes marks
end_judged p w l tag at k marks end place octets node string =
    ap (λ x. elim x as (λ _. Judgement) [ Some missed ↦ faulty (fault (Cause.Missing missed) k) | None ↦ closes marks ]) (none_missing p w l tag at end place octets node string)

same_number : (n : ℕ) → nat_eq n n ≡ true
same_number n = grind arith

-- of definite length
pub tag_ended : (p : Named) (w : Wrapped) (l : LeafType) (tag : Tag) (at k : ℕ) (place : List Open) (octets rest : List ℕ) → w.node ≡ NodeId.IllString → IsTrue (is_ill_string l)
    → judge (profile_of p) (filled_tag w tag at (Some k) (primitive (leaf_tag (leaf_is l)) octets) ∷ place) k rest ≡ closes 0
tag_ended p w l tag at k place octets rest node string =
    ended_judged p (filled_tag w tag at (Some k) (primitive (leaf_tag (leaf_is l)) octets) ∷ place) k rest (same_number k) ∙ end_judged p w l tag at k 0 (Some k) place octets node string

-- by an end mark
pub tag_marked : (p : Named) (w : Wrapped) (l : LeafType) (tag : Tag) (at k : ℕ) (place : List Open) (octets rest after : List ℕ) → w.node ≡ NodeId.IllString → IsTrue (is_ill_string l)
    → take (bound profile_two place - k) rest ≡ 0 ∷ 0 ∷ after → judge (profile_of p) (filled_tag w tag at None (primitive (leaf_tag (leaf_is l)) octets) ∷ place) k rest ≡ closes 2
tag_marked p w l tag at k place octets rest after node string window =
    let path = filled_tag w tag at None (primitive (leaf_tag (leaf_is l)) octets) ∷ place in
    within_judged p path k rest (0 ∷ 0 ∷ after) refl (sym window) ∙ end_judged p w l tag at k 2 None place octets node string

-- ---- what is in the tag

-- an end mark begins the octets
pub two_zeros : (xs : List ℕ) → 2 ≤ length xs → slice_index_or xs 0 0 ≡ 0 → slice_index_or xs 1 0 ≡ 0 → (w : List ℕ) × (xs ≡ 0 ∷ 0 ∷ w)
two_zeros (x ∷ (y ∷ w)) h a b = (w, ap₂ (λ i j. i ∷ j ∷ w) a b)
two_zeros _ h a b = absurd (omega (arith, h))

pub string_found : (at header : ℕ) (end : Option ℕ) (window contents octets : List ℕ) (l : LeafType) (own size total : ℕ) → BeginsWithString l own size contents → octets ≡ content_in own size contents
    → HoldsOnly at header end window (own + size) contents total → total ≤ length window → HasStringInTag at header end window l octets total
string_found at header end window contents octets l own size total h e only fits =
    let n : length octets ≡ size = ap length e ∙ length-take-le size (drop own contents) (omega (arith, h.within, length-drop own contents)) in
    record {
      contents = contents;
      own = own;
      string = subst (λ k. BeginsWithString l own k contents) (sym n) h;
      content = e ∙ ap (λ k. content_in own k contents) (sym n);
      only = subst (λ k. HoldsOnly at header end window (own + k) contents total) (sym n) only;
      fits = fits;
    }

-- ---- the string in the path

-- the tag that it is
pub wrapped_of : (e : CodeElement) (l : LeafType) → WrapsString e l → (w : Wrapped) × (e ≡ Wrapper w) × (w.node ≡ NodeId.IllString) × IsTrue (is_ill_string l)
wrapped_of (Wrapper w) l h = (w, refl, h.0, h.1)
wrapped_of _ l h = absurd h

-- the value that the tag has is the string's
pub string_value : (p : Named) (w : Wrapped) (l : LeafType) (tag : Tag) (octets : List ℕ) → w.node ≡ NodeId.IllString → IsTrue (is_ill_string l) → IsContentIn p (leaf_is l) octets
    → IsValueOf p (wrapper (component_of w)) (simple (value (leaf_is l) octets)) (string_tree tag l octets)
string_value p w l tag octets node string right =
    let t = leaf_tag (leaf_is l) in
    let U = primitive t octets in
    let starts = string_begun w l node string in
    let q = begun_means p (component_of w) None (begun.Element (Leaf l)) (simple (value (leaf_is l) octets)) U (begun_proper t w None (begun.Element (Leaf l)) starts) starts (tt, right.0, right.1, refl) in
    (tag, U, refl, q.1)

-- it is an entry of the element round the tag
pub string_taken : {D : Type 0} (p : Named) (holds : D → List Level → List ℕ → Type 0) (old new : Path D) (place : List Open) (o : ConstructedElement) (l : LeafType) (octets : List ℕ) (done : Bool) (at : ℕ) (rest : List ℕ)
    → HoldsAt p holds old place → IsBegin old.frames place (tag_of_id o.id) o.found true → WrapsString (read_as o.found) l → IsContentIn p (leaf_is l) octets
    → HasString p holds old.draft (next_at p old.frames.open.items) o l octets new.draft
    → new.frames.profile ≡ old.frames.profile → (after : Place) → place_view after ≡ next_place o.found → GoesOn after old.frames.open.items new.frames.open.items done
    → IsStep p holds new (Ok done) (with_tree place (string_tree (tag_of_id o.id) l octets) at rest)
string_taken p holds old new place o l octets done at rest stands begin string right has kept after there goes =
    let tag = tag_of_id o.id in
    let el = read_as o.found in
    let items = old.frames.open.items in
    let d = due_with (slot_in o.found) (alternative_of o.found) el in
    let due_here : IsDueIn tag (next_at p items) d = subst (λ q. IsDueIn tag (next_at q items) d) stands.3 begin.is_due in
    let goes_on : shape_at (next_place o.found) ≡ behind (next_at p items) (slot_in o.found) = subst (λ q. shape_at (next_place o.found) ≡ behind (next_at q items) (slot_in o.found)) stands.3 begin.goes_on in
    let x = wrapped_of el l string in
    let whole = subst IsNoSegment (sym x.1) (λ s. cc, λ s. cc) in
    let apart : (u : Tag) → element_is el ≡ segment u → ⊥ = λ u. segments_alone el u whole in
    let no : text_so_far place ≡ [] = no_text p place items stands.0 stands.1 (due_outside tag (next_at p items) d due_here apart) in
    let c = simple (value (leaf_is l) octets) in
    let given : IsValueOf p (element_is el) c (string_tree tag l octets) = subst (λ e. IsValueOf p (element_is e) c (string_tree tag l octets)) (sym x.1) (string_value p x.0 l tag octets x.2 x.3 right) in
    entry_added p holds items stands.0 new place (slot_in o.found) (alternative_of o.found) el c (string_tree tag l octets) at rest done (kept ∙ stands.3) stands.1 due_here apart after (ap shape_at there ∙ goes_on) goes
    (λ level below e due_at. (given, has level below (subst (λ t. holds old.draft (level ∷ below) t) no (subst (λ ls. holds old.draft ls (text_so_far place)) e stands.2)) due_at))

-- the tag's header is a part of it
pub string_size : (at header : ℕ) (end : Option ℕ) (window : List ℕ) (l : LeafType) (octets : List ℕ) (size : ℕ) → HasStringInTag at header end window l octets size → header ≤ size
string_size at header end window l octets size h = go end h.only
  where
    go : (e : Option ℕ) → HoldsOnly at header e window (h.own + length octets) h.contents size → header ≤ size
    go (Some e) k = omega (arith, k.2)
    go None k = omega (arith, k.2)

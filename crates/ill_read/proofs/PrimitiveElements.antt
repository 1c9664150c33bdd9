-- A primitive element is read.
use Rattle.ill_tables.specs.declared.profile.Profile.{Profile as Named}
use Rattle.ill_schema.specs.Profiles.{profile_of}
use Rattle.std.proofs.Common.{◌≡◌, ℕ, ◌+◌, List, [], ◌∷◌, ◌++◌, length, drop, None, Result, Ok, Bool, true, false, IsTrue, refl, sym, ap, subst, ◌∙◌}
use Rattle.ber_core.specs.Id.{tag_of_id}
use Rattle.ber_tree.specs.Identifier.{Tag}
use Rattle.ber_tree.specs.Tree.{primitive}
use Rattle.ber_leaf.specs.Leaf.{value}
use Rattle.ill_schema.specs.Content.{Content, simple}
use Rattle.ill_schema.specs.Content as content
use Rattle.ber_core.specs.Foreign.{is_identified}
use Rattle.ber_tree.specs.Identifier.{HasIdentifier}
use Rattle.ber_core.proofs.Foreign.{has_identified}
use Rattle.ber_leaf.specs.Leaf.{bit_string}
use Rattle.ber_leaf.specs.Segments.{join_bits}
use Rattle.ill_grammar.specs.Contents.{IsValueOf, with_alternative}
use Rattle.ill_grammar.specs.LeafTypes.{IsContentIn, module_leaf_is}
use Rattle.ill_grammar.specs.declared.frames.Frames.{Frames}
use Rattle.ill_read.specs.code.Drafts.{HasBits, HasModuleElement, IsDueAt, IsModuleElement, IsNoSegment, IsPrimitiveOf, IsRightContent, with_entry}
use Rattle.ill_read.proofs.Segments.{segments_alone}
use Rattle.ill_read.proofs.StringLevels.{bit_level, string_level}
use Rattle.ill_read.proofs.Strings.{IsSegmentOf, is_bit_segment}
use Rattle.ill_grammar.proofs.DueTags.{bit_segment_due}
use Rattle.ill_grammar.specs.declared.due.Next.TheVariants.{BitSegments}
use Rattle.ill_refusals.specs.Element.{segment}
use Rattle.ill_refusals.specs.Fault.{element_fault}
use Rattle.ill_refusals.specs.Place.{Open, allows}
use Rattle.ill_refusals.specs.code.Judge.{Judgement, or_faulty, reads}
use Rattle.ill_refusals.specs.code.Step.{Step, step_after}
use Rattle.ill_grammar.specs.Places.{alternative_of, place_view}
use Rattle.ill_grammar.specs.Elements.{element_is}
use Rattle.ill_grammar.specs.declared.place.Place.{Place}
use Rattle.ill_grammar.specs.Due.{IsDueIn, behind, read_as, shape_at, slot_in, next_place}
use Rattle.ill_grammar.specs.LeafTypes.{leaf_is}
use Rattle.ill_read.specs.code.Drafts.{HasLeaf, HasText}
use Rattle.ill_grammar.specs.Due.{due_with}
use Rattle.ill_grammar.specs.code.Judging.{IsBegin, content_in}
use Rattle.ill_read.specs.code.Judged.{IsJudgement, IsStep}
use Rattle.ill_read.specs.code.Stepping.{GoesOn, ReadsExactly}
use Rattle.ill_grammar.specs.Standing.{Level, next_at, AreFrames}
use Rattle.ill_read.specs.Paths.{text_so_far, HoldsAt}
use Rattle.ill_grammar.specs.declared.due.Next.TheVariants.{Segments}
use Rattle.ill_grammar.specs.declared.element.Element.{Element as CodeElement}
use Rattle.ill_grammar.specs.declared.element.Element.TheVariants.{Leaf, Segment, ModuleLeaf, BitString, BitSegment, Foreign}
use Rattle.ill_read.specs.declared.failure.Failure.{Failure}
use Rattle.ill_read.specs.code.Progress.{Reads}
use Rattle.ill_grammar.specs.declared.judge.PrimitiveElement.{PrimitiveElement}
use Rattle.ill_grammar.specs.declared.leaf_type.LeafType.{LeafType}
use Rattle.ill_grammar.specs.declared.leaf_type.ModuleLeaf.{ModuleLeaf as ModuleLeafType}
use Rattle.ill_read.specs.declared.path.Path.{Path}
use Rattle.ill_read.proofs.DeliveredEntries.{entry_added}
use Rattle.ill_grammar.proofs.DueTags.{segment_due}
use Rattle.ill_read.proofs.Segments.{due_outside, no_text}
use Rattle.ill_read.proofs.Strings.{is_segment, segment_added, text_after}

-- where the contents that were read lead
abbrev pub content_read : Named → CodeElement → List Open → Tag → ℕ → List ℕ → ℕ → ℕ → List ℕ → Step
content_read p e place tag header octets start at rest = step_after (or_faulty (element_fault (profile_of p) (element_is e) octets) start (reads tag header octets)) place at rest

-- an element that is no segment, by its content
element_read : {D : Type 0} (p : Named) (holds : D → List Level → List ℕ → Type 0) (old new : Path D) (place : List Open) (r : PrimitiveElement) (c : Content) (start : ℕ) (octets : List ℕ) (result : Bool) (header at : ℕ) (rest : List ℕ)
    → HoldsAt p holds old place → IsBegin old.frames place (tag_of_id r.id) r.found false → IsNoSegment (read_as r.found) → element_fault (profile_of p) (element_is (read_as r.found)) octets ≡ None
    → IsValueOf p (element_is (read_as r.found)) c (primitive (tag_of_id r.id) octets)
    → (shape_at (next_place r.found) ≡ behind (next_at p old.frames.open.items) (slot_in r.found) → (l : Level) (below : List Level) → holds old.draft (l ∷ below) []
    → IsDueAt p l (next_at p old.frames.open.items) (tag_of_id r.id) (slot_in r.found) (alternative_of r.found) (read_as r.found)
    → holds new.draft (with_entry l (slot_in r.found) (with_alternative (alternative_of r.found) c) ∷ below) [])
    → new.frames.profile ≡ old.frames.profile → (after : Place) → place_view after ≡ next_place r.found → GoesOn after old.frames.open.items new.frames.open.items result
    → IsStep p holds new (Ok result) (content_read p (read_as r.found) place (tag_of_id r.id) header octets start at rest)
element_read p holds old new place r c start octets result header at rest stands begin whole sound value has kept after there goes =
    let tag = tag_of_id r.id in
    let next = next_at p old.frames.open.items in
    let d = due_with (slot_in r.found) (alternative_of r.found) (read_as r.found) in
    let due : IsDueIn tag next d = subst (λ q. IsDueIn tag (next_at q old.frames.open.items) d) stands.3 begin.is_due in
    let goes_on : shape_at (next_place r.found) ≡ behind next (slot_in r.found) = subst (λ q. shape_at (next_place r.found) ≡ behind (next_at q old.frames.open.items) (slot_in r.found)) stands.3 begin.goes_on in
    let apart : (u : Tag) → element_is (read_as r.found) ≡ segment u → ⊥ = λ u. segments_alone (read_as r.found) u whole in
    let no : text_so_far place ≡ [] = no_text p place old.frames.open.items stands.0 stands.1 (due_outside tag next d due apart) in
    let added = entry_added p holds old.frames.open.items stands.0 new place (slot_in r.found) (alternative_of r.found) (read_as r.found) c (primitive tag octets)
    (at + header + length octets) (drop (header + length octets) rest) result (kept ∙ stands.3) stands.1 due apart after (ap shape_at there ∙ goes_on) goes
    (λ level below e due_at. (value, has goes_on level below (subst (λ t. holds old.draft (level ∷ below) t) no (subst (λ ls. holds old.draft ls (text_so_far place)) e stands.2)) due_at)) in
    subst (λ f. IsStep p holds new (Ok result) (step_after (or_faulty f start (reads tag header octets)) place at rest)) (sym sound) added

-- a leaf
pub leaf_read : {D : Type 0} (p : Named) (holds : D → List Level → List ℕ → Type 0) (old new : Path D) (place : List Open) (r : PrimitiveElement) (l : LeafType) (start : ℕ) (octets : List ℕ) (result : Bool) (header at : ℕ) (rest : List ℕ)
    → HoldsAt p holds old place → IsBegin old.frames place (tag_of_id r.id) r.found false → read_as r.found ≡ Leaf l → IsContentIn p (leaf_is l) octets
    → HasLeaf p holds old.draft (next_at p old.frames.open.items) r l octets new.draft
    → new.frames.profile ≡ old.frames.profile → (after : Place) → place_view after ≡ next_place r.found → GoesOn after old.frames.open.items new.frames.open.items result
    → IsStep p holds new (Ok result) (content_read p (read_as r.found) place (tag_of_id r.id) header octets start at rest)
leaf_read p holds old new place r l start octets result header at rest stands begin is right has kept after there goes =
    let c = simple (value (leaf_is l) octets) in
    let next = next_at p old.frames.open.items in
    element_read p holds old new place r c start octets result header at rest stands begin (subst IsNoSegment (sym is) (λ s. cc, λ s. cc))
    (ap (λ x. element_fault (profile_of p) (element_is x) octets) is ∙ right.1)
    (subst (λ x. IsValueOf p (element_is x) c (primitive (tag_of_id r.id) octets)) (sym is) (tt, right.0, right.1, refl))
    (λ goes_on level below h due. has goes_on level below h (subst (λ x. IsDueAt p level next (tag_of_id r.id) (slot_in r.found) (alternative_of r.found) x) is due))
    kept after there goes

-- an element that only the module profile has is no segment, and has a content, which means what the element holds
pub module_whole : (e : CodeElement) → IsModuleElement e → IsNoSegment e
module_whole (ModuleLeaf l) other = (λ s. cc, λ s. cc)
module_whole BitString other = (λ s. cc, λ s. cc)
module_whole (Foreign m) other = (λ s. cc, λ s. cc)
module_whole _ other = absurd other

primitive_content : (e : CodeElement) (tag : Tag) (octets : List ℕ) → IsModuleElement e → (c : Content) × IsPrimitiveOf e tag octets c
primitive_content (ModuleLeaf l) tag octets other = (simple (value (module_leaf_is l) octets), refl)
primitive_content BitString tag octets other = (simple (value bit_string octets), refl)
primitive_content (Foreign m) tag octets other = (content.foreign (primitive tag octets), refl)
primitive_content _ tag octets other = absurd other

pub primitive_means : (p : Named) (e : CodeElement) (tag : Tag) (octets : List ℕ) (c : Content) → IsTrue (is_identified tag false) → IsRightContent p e octets → IsPrimitiveOf e tag octets c → IsValueOf p (element_is e) c (primitive tag octets)
primitive_means p (ModuleLeaf l) tag octets c tagged right is = subst (λ x. IsValueOf p (element_is (ModuleLeaf l)) x (primitive tag octets)) (sym is) (tt, right.0, right.1, refl)
primitive_means p BitString tag octets c tagged right is = subst (λ x. IsValueOf p (element_is BitString) x (primitive tag octets)) (sym is) (tt, right.0, right.1, refl)
primitive_means p (Foreign m) tag octets c tagged right is = (rw tagged right.0, is)
primitive_means p _ tag octets c tagged right is = absurd is

pub module_element_read : {D : Type 0} (p : Named) (holds : D → List Level → List ℕ → Type 0) (old new : Path D) (place : List Open) (r : PrimitiveElement) (start : ℕ) (octets : List ℕ) (result : Bool) (header at : ℕ) (rest : List ℕ)
    → HoldsAt p holds old place → IsBegin old.frames place (tag_of_id r.id) r.found false → IsModuleElement (read_as r.found) → IsRightContent p (read_as r.found) octets
    → HasModuleElement p holds old.draft (next_at p old.frames.open.items) r octets new.draft
    → new.frames.profile ≡ old.frames.profile → (after : Place) → place_view after ≡ next_place r.found → GoesOn after old.frames.open.items new.frames.open.items result
    → IsStep p holds new (Ok result) (content_read p (read_as r.found) place (tag_of_id r.id) header octets start at rest)
module_element_read p holds old new place r start octets result header at rest stands begin other right has kept after there goes =
    let tag = tag_of_id r.id in
    let x = primitive_content (read_as r.found) tag octets other in
    let value = primitive_means p (read_as r.found) tag octets x.0 (has_identified tag false (subst (HasIdentifier tag) r.form r.id.valid)) right x.1 in
    element_read p holds old new place r x.0 start octets result header at rest stands begin (module_whole (read_as r.found) other) right.1 value (λ goes_on level below h due. has level below x.0 h due x.1) kept after there goes

-- what is primitive and none of these is a segment of a string
pub primitive_segment : (e : CodeElement) → allows (element_is e) false ≡ true → ((l : LeafType) → e ≡ Leaf l → ⊥) → ((l : ModuleLeafType) → e ≡ ModuleLeaf l → ⊥) → (e ≡ BitString → ⊥) → ((m : ℕ) → e ≡ Foreign m → ⊥)
    → (e ≡ BitSegment → ⊥) → e ≡ Segment
primitive_segment Segment a f g h i j = refl
primitive_segment (Leaf l) a f g h i j = absurd (f l refl)
primitive_segment (ModuleLeaf l) a f g h i j = absurd (g l refl)
primitive_segment BitString a f g h i j = absurd (h refl)
primitive_segment (Foreign m) a f g h i j = absurd (i m refl)
primitive_segment BitSegment a f g h i j = absurd (j refl)
primitive_segment _ a f g h i j = absurd cc

-- a segment, by the text that it leaves
segment_joined : {D : Type 0} (p : Named) (holds : D → List Level → List ℕ → Type 0) (old new : Path D) (place : List Open) (r : PrimitiveElement) (start : ℕ) (octets : List ℕ) (header at : ℕ) (rest : List ℕ) → (stands : HoldsAt p holds old place)
    → IsDueIn (tag_of_id r.id) (next_at p old.frames.open.items) (due_with (slot_in r.found) (alternative_of r.found) (read_as r.found)) → element_fault (profile_of p) (element_is (read_as r.found)) octets ≡ None
    → IsSegmentOf (next_at p old.frames.open.items) (primitive (tag_of_id r.id) octets) → holds new.draft stands.0 (text_after (next_at p old.frames.open.items) (text_so_far place) (primitive (tag_of_id r.id) octets)) → new.frames ≡ old.frames
    → IsStep p holds new (Ok false) (content_read p (read_as r.found) place (tag_of_id r.id) header octets start at rest)
segment_joined p holds old new place r start octets header at rest stands due sound one held frames =
    let T = primitive (tag_of_id r.id) octets in
    let d = due_with (slot_in r.found) (alternative_of r.found) (read_as r.found) in
    let items = ap (λ (x : Frames). x.open.items) (sym frames) in
    let added = segment_added p holds new place stands.0 d T (at + header + length octets) (drop (header + length octets) rest) (ap (λ (x : Frames). x.profile) frames ∙ stands.3)
    (subst (λ fs. AreFrames p place fs stands.0) items stands.1) (subst (λ fs. IsDueIn (tag_of_id r.id) (next_at p fs) d) items due) (subst (λ fs. IsSegmentOf (next_at p fs) T) items one)
    (subst (λ fs. holds new.draft stands.0 (text_after (next_at p fs) (text_so_far place) T)) items held) in
    subst (λ f. IsStep p holds new (Ok false) (step_after (or_faulty f start (reads (tag_of_id r.id) header octets)) place at rest)) (sym sound) added

-- a segment of a string
pub segment_read : {D : Type 0} (p : Named) (holds : D → List Level → List ℕ → Type 0) (old new : Path D) (place : List Open) (r : PrimitiveElement) (start : ℕ) (octets : List ℕ) (header at : ℕ) (rest : List ℕ)
    → HoldsAt p holds old place → IsBegin old.frames place (tag_of_id r.id) r.found false → read_as r.found ≡ Segment → new.frames ≡ old.frames → HasText holds old.draft octets new.draft
    → IsStep p holds new (Ok false) (content_read p (read_as r.found) place (tag_of_id r.id) header octets start at rest)
segment_read p holds old new place r start octets header at rest stands begin is frames has =
    let tag = tag_of_id r.id in
    let next = next_at p old.frames.open.items in
    let d = due_with (slot_in r.found) (alternative_of r.found) (read_as r.found) in
    let due : IsDueIn tag next d = subst (λ q. IsDueIn tag (next_at q old.frames.open.items) d) stands.3 begin.is_due in
    let string : next ≡ Segments = segment_due tag next d due (ap element_is is) in
    let l = string_level p place old.frames.open.items stands.0 stands.1 string in
    let there = has l.level l.below (text_so_far place) l.is (subst (λ ls. holds old.draft ls (text_so_far place)) l.are stands.2) in
    let held = subst (λ ls. holds new.draft ls (text_so_far place ++ octets)) (sym l.are) there in
    segment_joined p holds old new place r start octets header at rest stands due (ap (λ x. element_fault (profile_of p) (element_is x) octets) is)
    (is_segment next (primitive tag octets) d due string tt) (subst (λ n. holds new.draft stands.0 (text_after n (text_so_far place) (primitive tag octets))) (sym string) held) frames

-- a segment of a BIT STRING
pub bit_segment_read : {D : Type 0} (p : Named) (holds : D → List Level → List ℕ → Type 0) (old new : Path D) (place : List Open) (r : PrimitiveElement) (start : ℕ) (octets : List ℕ) (header at : ℕ) (rest : List ℕ)
    → HoldsAt p holds old place → IsBegin old.frames place (tag_of_id r.id) r.found false → read_as r.found ≡ BitSegment → new.frames ≡ old.frames → HasBits holds old.draft octets new.draft
    → IsStep p holds new (Ok false) (content_read p (read_as r.found) place (tag_of_id r.id) header octets start at rest)
bit_segment_read p holds old new place r start octets header at rest stands begin is frames has =
    let tag = tag_of_id r.id in
    let next = next_at p old.frames.open.items in
    let d = due_with (slot_in r.found) (alternative_of r.found) (read_as r.found) in
    let due : IsDueIn tag next d = subst (λ q. IsDueIn tag (next_at q old.frames.open.items) d) stands.3 begin.is_due in
    let string : next ≡ BitSegments = bit_segment_due tag next d due (ap element_is is) in
    let l = bit_level p place old.frames.open.items stands.0 stands.1 string in
    let there = has l.level l.below (text_so_far place) l.is (subst (λ ls. holds old.draft ls (text_so_far place)) l.are stands.2) in
    let held = subst (λ ls. holds new.draft ls (join_bits (text_so_far place) octets)) (sym l.are) there in
    segment_joined p holds old new place r start octets header at rest stands due (ap (λ x. element_fault (profile_of p) (element_is x) octets) is)
    (is_bit_segment next (primitive tag octets) d due string tt) (subst (λ n. holds new.draft stands.0 (text_after n (text_so_far place) (primitive tag octets))) (sym string) held) frames

-- what was judged to be read is
pub reads_judged : {D : Type 0} (p : Named) (holds : D → List Level → List ℕ → Type 0) (old new : Path D) (place : List Open) (r : PrimitiveElement) (at : ℕ) (rest : List ℕ) (j : Judgement) (result : Result Bool Failure)
    → HoldsAt p holds old place → IsJudgement p old.frames place at rest (Reads r) j → ReadsExactly holds old r at (content_in r.header r.size rest) new result → IsStep p holds new result (step_after j place at rest)
reads_judged p holds old new place r at rest j result stands judged reads_on =
    subst (λ x. IsStep p holds new result (step_after x place at rest)) (sym judged.1) (reads_on p place r.header at rest stands judged.0)

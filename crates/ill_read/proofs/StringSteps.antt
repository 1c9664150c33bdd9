-- Where the reader is after a string that is alone in its explicit tag.
use Rattle.ill_tables.specs.declared.profile.Profile.{Profile as Named}
use Rattle.ill_schema.specs.Profiles.{profile_of}
use Rattle.std.proofs.Common.{◌≡◌, ℕ, ◌+◌, ◌-◌, ◌<◌, ◌≤◌, Bool, false, List, ◌∷◌, ◌++◌, length, take, drop, Option, Some, None, Ok, IsTrue, refl, sym, ap, subst, ◌∙◌, arith, take-append-drop, nat_eq}
use Rattle.std.proofs.lemmas.List.{drop-drop, drop-take, length-take}
use Rattle.ber_core.proofs.ReadOctets.{octets_left, octets_right}
use Rattle.ber_tree.specs.Identifier.{Tag}
use Rattle.ber_tree.specs.Octets.{are_octets}
use Rattle.ber_tree.specs.Tree.{primitive}
use Rattle.ber_leaf.specs.Leaf.{content_fault}
use Rattle.ber_leaf.specs.Profile.{profile_two}
use Rattle.ill_schema.specs.Tagging.{leaf_tag}
use Rattle.ill_tables.specs.declared.node.NodeId.{NodeId}
use Rattle.ill_refusals.specs.Place.{bound}
use Rattle.ill_refusals.specs.code.Judge.{closes, judge, opens, reads}
use Rattle.ill_refusals.specs.code.Step.{goes, step_after, with_tree}
use Rattle.ill_refusals.proofs.DueSteps.{Placed, step_placed}
use Rattle.ill_grammar.specs.Elements.{element_is}
use Rattle.ill_grammar.specs.LeafTypes.{leaf_is}
use Rattle.ill_grammar.specs.Standing.{Level, StandsBefore}
use Rattle.ill_grammar.specs.code.Judging.{content_in}
use Rattle.ill_grammar.specs.declared.element.Element.TheVariants.{Wrapper}
use Rattle.ill_grammar.specs.declared.element.Wrapped.{Wrapped}
use Rattle.ill_grammar.specs.declared.leaf_type.LeafType.{LeafType}
use Rattle.ill_grammar.proofs.Judgements.{content_further}
use Rattle.ill_read.specs.Paths.{HoldsAt}
use Rattle.ill_read.specs.code.Judged.{IsStep}
use Rattle.ill_read.specs.code.ReaderCode.{IsAfter}
use Rattle.ill_read.specs.code.StringsInTags.{HasStringInTag, string_tree}
use Rattle.ill_read.specs.declared.path.Path.{Path}
use Rattle.ill_read.proofs.DecoderSteps.{step_made, with_end}
use Rattle.ill_read.proofs.StringsInTags.{filled_tag, open_tag, string_judged, tag_ended, tag_marked}

-- three steps after one another
three_steps : {D : Type 0} (p : Named) (holds : D → List Level → List ℕ → Type 0) (old new : Path D) (at : ℕ) (s rest : List ℕ) (w : Wrapped) (l : LeafType) (tag : Tag) (header : ℕ) (end : Option ℕ) (own marks : ℕ) (octets : List ℕ) (done : Bool)
    → (b : StandsBefore p (HoldsAt p holds old) at s rest) → judge (profile_of p) b.place at rest ≡ opens tag (element_is (Wrapper w)) header end
    → judge (profile_of p) (open_tag w tag at end ∷ b.place) (at + header) (drop header rest) ≡ reads (leaf_tag (leaf_is l)) own octets
    → let k = at + header + own + length octets in let r = drop (own + length octets) (drop header rest) in
    judge (profile_of p) (filled_tag w tag at end (primitive (leaf_tag (leaf_is l)) octets) ∷ b.place) k r ≡ closes marks
    → IsStep p holds new (Ok done) (with_tree b.place (string_tree tag l octets) (k + marks) (drop marks r)) → IsAfter p holds new (k + marks) s (drop marks r) done
three_steps p holds old new at s rest w l tag header end own marks octets done b first second third is =
    let q = profile_of p in
    let k = at + header + own + length octets in
    let r = drop (own + length octets) (drop header rest) in
    let inside = open_tag w tag at end ∷ b.place in
    let behind = filled_tag w tag at end (primitive (leaf_tag (leaf_is l)) octets) ∷ b.place in
    let here : Placed q s (goes b.place at rest) = (b.before, b.joined, b.offset, b.is_place) in
    let one : Placed q s (goes inside (at + header) (drop header rest)) = subst (λ j. Placed q s (step_after j b.place at rest)) first (step_placed q s b.place at rest b.octets here) in
    let two : Placed q s (goes behind k r) = subst (λ j. Placed q s (step_after j inside (at + header) (drop header rest))) second (step_placed q s inside (at + header) (drop header rest) b.octets one) in
    let three : Placed q s (with_tree b.place (string_tree tag l octets) (k + marks) (drop marks r)) = subst (λ j. Placed q s (step_after j behind k r)) third (step_placed q s behind k r b.octets two) in
    step_made p holds new (k + marks) s (drop marks r) (with_tree b.place (string_tree tag l octets) (k + marks) (drop marks r)) done b.octets three
    (with_end b.place (string_tree tag l octets) (k + marks) (k + marks) (drop marks r) (drop marks r) refl refl) is

not_yet : (m n : ℕ) → n < m → nat_eq m n ≡ false
not_yet m n h = grind (arith, h)

moved : {D : Type 0} (p : Named) (holds : D → List Level → List ℕ → Type 0) (new : Path D) (s : List ℕ) (done : Bool) (k l : ℕ) (r x : List ℕ) → k ≡ l → r ≡ x → IsAfter p holds new k s r done → IsAfter p holds new l s x done
moved p holds new s done k l r x e f h = subst (λ n. IsAfter p holds new n s x done) e (subst (λ y. IsAfter p holds new k s y done) f h)

-- the octets of a part of what is left
part_right : (s before rest : List ℕ) (header held : ℕ) → IsTrue (are_octets s) → s ≡ before ++ rest → IsTrue (are_octets (take held (drop header rest)))
part_right s before rest header held ok e =
    let all = octets_right before rest (subst (λ x. IsTrue (are_octets x)) e ok) in
    let behind = octets_right (take header rest) (drop header rest) (subst (λ x. IsTrue (are_octets x)) (sym (take-append-drop header rest)) all) in
    octets_left (take held (drop header rest)) (drop held (drop header rest)) (subst (λ x. IsTrue (are_octets x)) (sym (take-append-drop held (drop header rest))) behind)

-- the tag, the string and the end are passed
pub string_passed : {D : Type 0} (p : Named) (holds : D → List Level → List ℕ → Type 0) (old new : Path D) (at : ℕ) (s rest window : List ℕ) (w : Wrapped) (l : LeafType) (tag : Tag) (header : ℕ) (end : Option ℕ) (octets : List ℕ) (size : ℕ) (done : Bool)
    → (b : StandsBefore p (HoldsAt p holds old) at s rest) → length b.place < 31 → w.node ≡ NodeId.IllString → judge (profile_of p) b.place at rest ≡ opens tag (element_is (Wrapper w)) header end
    → window ≡ take (bound profile_two b.place - at) rest → HasStringInTag at header end window l octets size → content_fault (profile_of p) (leaf_is l) octets ≡ None
    → ((k : ℕ) (r : List ℕ) → IsStep p holds new (Ok done) (with_tree b.place (string_tree tag l octets) k r)) → IsAfter p holds new (at + size) s (drop size rest) done
string_passed p holds old new at s rest window w l tag header (Some e) octets size done b shallow node first is h sound made =
    let n = length octets in
    let own = h.own in
    let k = at + header in
    let held = own + n in
    let room = bound profile_two b.place - at in
    let some = h.string.some in
    let last : e ≡ at + header + own + n = omega (arith, h.only.1) in
    let len : length window ≤ length window = omega arith in
    let rejoined : window ++ drop room rest ≡ rest = ap (λ x. x ++ drop room rest) is ∙ take-append-drop room rest in
    let counted : header + held ≤ length window = omega (arith, h.fits, h.only.2) in
    let own_size : e - k ≡ held = omega (arith, last) in
    let contents : h.contents ≡ take (e - k) (drop header rest) =
    h.only.0 ∙ content_further header held window (drop room rest) counted ∙ ap (content_in header held) rejoined ∙ ap (λ m. take m (drop header rest)) (sym own_size) in
    let right = subst (λ x. IsTrue (are_octets x)) (sym contents) (part_right s b.before rest header (e - k) b.octets b.joined) in
    let second = string_judged p b.place tag w l at k own n (Some e) (drop header rest) h.contents shallow node (not_yet e k (omega (arith, last, some))) contents right h.string (omega (arith, last))
    (ap (content_fault (profile_of p) (leaf_is l)) (sym h.content) ∙ sound) in
    let behind = drop held (drop header rest) in
    let third = subst (λ x. judge (profile_of p) (filled_tag w tag at (Some x) (primitive (leaf_tag (leaf_is l)) octets) ∷ b.place) (at + header + own + n) behind ≡ closes 0) (sym last)
    (tag_ended p w l tag at (at + header + own + n) b.place octets behind node h.string.kind) in
    moved p holds new s done (at + header + own + n + 0) (at + size) behind (drop size rest) (omega (arith, h.only.2)) (drop-drop held header rest ∙ ap (λ m. drop m rest) (sym h.only.2))
    (three_steps p holds old new at s rest w l tag header (Some e) own 0 octets done b first (second ∙ ap (reads (leaf_tag (leaf_is l)) own) (sym h.content)) third (made _ _))
string_passed p holds old new at s rest window w l tag header None octets size done b shallow node first is h sound made =
    let n = length octets in
    let own = h.own in
    let k = at + header in
    let held = own + n in
    let most = bound profile_two b.place in
    let within : length window ≤ most - at = omega (arith, ap length is, length-take (most - at) rest) in
    let room : header + (most - k) ≡ most - at = omega (arith, within, h.fits, h.only.2) in
    let contents : h.contents ≡ take (most - k) (drop header rest) = h.only.0 ∙ ap (drop header) (is ∙ ap (λ m. take m rest) (sym room)) ∙ drop-take header (most - k) rest in
    let right = subst (λ x. IsTrue (are_octets x)) (sym contents) (part_right s b.before rest header (most - k) b.octets b.joined) in
    let second = string_judged p b.place tag w l at k own n None (drop header rest) h.contents shallow node refl contents right h.string (omega (arith, within, h.fits, h.only.2))
    (ap (content_fault (profile_of p) (leaf_is l)) (sym h.content) ∙ sound) in
    let behind = drop held (drop header rest) in
    let left : held + (most - (at + header + own + n)) ≡ most - k = omega (arith, within, h.fits, h.only.2) in
    let marks : take (most - (at + header + own + n)) behind ≡ 0 ∷ 0 ∷ h.only.1.0 =
    sym (drop-take held (most - (at + header + own + n)) (drop header rest)) ∙ ap (λ m. drop held (take m (drop header rest))) left ∙ ap (drop held) (sym contents) ∙ h.only.1.1 in
    let third = tag_marked p w l tag at (at + header + own + n) b.place octets behind h.only.1.0 node h.string.kind marks in
    let size_is : header + held + 2 ≡ size = sym h.only.2 in
    moved p holds new s done (at + header + own + n + 2) (at + size) (drop 2 behind) (drop size rest) (omega (arith, h.only.2))
    (ap (drop 2) (drop-drop held header rest) ∙ drop-drop 2 (header + held) rest ∙ ap (λ m. drop m rest) size_is)
    (three_steps p holds old new at s rest w l tag header None own 2 octets done b first (second ∙ ap (reads (leaf_tag (leaf_is l)) own) (sym h.content)) third (made _ _))

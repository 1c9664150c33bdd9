-- What each part of a step does to the path.
use Rattle.ill_schema.specs.Profiles.{profile_of}
use Rattle.ill_tables.specs.declared.profile.Profile.{Profile as Named}
use Rattle.std.specs.Prelude.{◌≡◌, ℕ, Bool, true, false, List, [], ◌∷◌, ◌++◌, Result, Ok}
use Rattle.ber_core.specs.Id.{tag_of_id}
use Rattle.ill_refusals.specs.Place.{Open}
use Rattle.ill_refusals.specs.Fault.{element_fault}
use Rattle.ill_refusals.specs.code.Judge.{Judgement, or_faulty, reads}
use Rattle.ill_refusals.specs.code.Step.{step_after, opened, with_tree}
use Rattle.ill_grammar.specs.Due.{read_as}
use Rattle.ill_grammar.specs.Elements.{element_is}
use Rattle.ill_grammar.specs.declared.place.Place.{Place}
use Rattle.ill_grammar.specs.code.Judging.{IsEnd, IsBegin}
use Rattle.ill_read.specs.code.Judged.{IsStep}
use Rattle.ill_grammar.specs.Standing.{Level}
use Rattle.ill_read.specs.Paths.{HoldsAt}
use Rattle.ill_read.specs.declared.failure.Failure.{Failure}
use Rattle.ill_grammar.specs.declared.frame.Frame.{Frame}
use Rattle.ill_grammar.specs.declared.judge.ConstructedElement.{ConstructedElement}
use Rattle.ill_grammar.specs.declared.judge.PrimitiveElement.{PrimitiveElement}
use Rattle.ill_grammar.specs.declared.leaf_type.LeafType.{LeafType}
use Rattle.ill_read.specs.code.StringsInTags.{string_tree}
use Rattle.ill_read.specs.declared.path.Path.{Path}

-- the innermost element goes on at this place, or the message is whole
abbrev pub GoesOn : Place → List Frame → List Frame → Bool → Type 0
GoesOn after old new true = (old ≡ []) × (new ≡ [])
GoesOn after old new false = (old ≡ [] → ⊥)
    × ((outer : List Frame) (f : Frame) → old ≡ outer ++ f ∷ [] → new ≡ outer ++ record f { place = after } ∷ [])

abbrev pub ClosesExactly : {D : Type 0} → (D → List Level → List ℕ → Type 0) → Path D → Path D → Result Bool Failure → Type 0
ClosesExactly holds old new result = (p : Named) (place : List Open) (marks at : ℕ) (rest : List ℕ) (j : Judgement) → HoldsAt p holds old place → IsEnd p place marks j
    → IsStep p holds new result (step_after j place at rest)

abbrev pub OpensExactly : {D : Type 0} → (D → List Level → List ℕ → Type 0) → Path D → ConstructedElement → ℕ → Path D → Type 0
OpensExactly holds old o start new = (p : Named) (place : List Open) → HoldsAt p holds old place → IsBegin old.frames place (tag_of_id o.id) o.found true
    → HoldsAt p holds new (opened (element_is (read_as o.found)) (tag_of_id o.id) start o.end ∷ place)

abbrev pub ReadsExactly : {D : Type 0} → (D → List Level → List ℕ → Type 0) → Path D → PrimitiveElement → ℕ → List ℕ → Path D → Result Bool Failure → Type 0
ReadsExactly holds old r start octets new result = (p : Named) (place : List Open) (header at : ℕ) (rest : List ℕ) → HoldsAt p holds old place
    → IsBegin old.frames place (tag_of_id r.id) r.found false
    → IsStep p holds new result (step_after (or_faulty (element_fault (profile_of p) (element_is (read_as r.found)) octets) start (reads (tag_of_id r.id) header octets)) place at rest)

-- an explicit tag with one primitive string in it was taken; `whole` says whether the message is whole
abbrev pub TakesString : {D : Type 0} → (D → List Level → List ℕ → Type 0) → Path D → ConstructedElement → LeafType → List ℕ → Path D → Bool → Type 0
TakesString holds old o leaf octets new whole = (p : Named) (place : List Open) (at : ℕ) (rest : List ℕ) → HoldsAt p holds old place → IsBegin old.frames place (tag_of_id o.id) o.found true
    → IsStep p holds new (Ok whole) (with_tree place (string_tree (tag_of_id o.id) leaf octets) at rest)

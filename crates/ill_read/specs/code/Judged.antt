-- What the decoder judges at a place, and where a step leads, in the words of the definitions.
use Rattle.ill_schema.specs.Profiles.{profile_of}
use Rattle.ill_tables.specs.declared.profile.Profile.{Profile as Named}
use Rattle.std.specs.Prelude.{◌≡◌, ℕ, Bool, true, false, List, [], ◌∷◌, Result, Ok, Err}
use Rattle.ber_core.specs.Id.{tag_of_id}
use Rattle.ber_tree.specs.Tree.{Tree}
use Rattle.ill_schema.specs.Apdu.{root}
use Rattle.ill_schema.specs.Content.{Content}
use Rattle.ill_schema.specs.Meaning.{Means}
use Rattle.ill_schema.specs.Tagging.{untagged}
use Rattle.ill_refusals.specs.Place.{Open}
use Rattle.ill_refusals.specs.Fault.{fault_of, element_fault}
use Rattle.ill_refusals.specs.code.Judge.{Judgement, opens, reads, or_faulty}
use Rattle.ill_grammar.specs.Elements.{element_is}
use Rattle.ill_grammar.specs.Due.{read_as}
use Rattle.ill_grammar.specs.Standing.{Level, whole_level}
use Rattle.ill_read.specs.Paths.{HoldsAt}
use Rattle.ill_refusals.specs.code.Step.{Step, refused, goes, whole}
use Rattle.ill_read.specs.declared.failure.Failure.{Failure}
use Rattle.ill_read.specs.code.Progress.{Judgement as CodeJudgement}
use Rattle.ill_read.specs.code.Progress as code
use Rattle.ill_grammar.specs.declared.frames.Frames.{Frames}
use Rattle.ill_read.specs.declared.path.Path.{Path}
use Rattle.ill_grammar.specs.code.Judging.{IsBegin, IsEnd, content_in}

-- the decoder's judgement is the one of the definitions, but for the fault of a text or a content
abbrev pub IsJudgement : Named → Frames → List Open → ℕ → List ℕ → CodeJudgement → Judgement → Type 0
IsJudgement p frames place at rest (code.Closes marks) j = IsEnd p place marks j
IsJudgement p frames place at rest (code.Opens o) j =
    IsBegin frames place (tag_of_id o.id) o.found true × (j ≡ opens (tag_of_id o.id) (element_is (read_as o.found)) o.header o.end)
IsJudgement p frames place at rest (code.Reads r) j = IsBegin frames place (tag_of_id r.id) r.found false
    × (j ≡ or_faulty (element_fault (profile_of p) (element_is (read_as r.found)) (content_in r.header r.size rest)) at (reads (tag_of_id r.id) r.header (content_in r.header r.size rest)))

-- the draft holds the content of a whole message, which is what the tree means
abbrev pub HoldsWhole : {D : Type 0} → Named → (D → List Level → List ℕ → Type 0) → D → Tree → Type 0
HoldsWhole p holds draft T = (c : Content) × holds draft (whole_level p c ∷ []) [] × Means (profile_of p) c (root (profile_of p)) untagged T

-- the path has made the step
abbrev pub IsStep : {D : Type 0} → Named → (D → List Level → List ℕ → Type 0) → Path D → Result Bool Failure → Step → Type 0
IsStep p holds path (Ok false) (goes place k rest) = HoldsAt p holds path place
IsStep p holds path (Ok true) (whole T n) = HoldsWhole p holds path.draft T
IsStep p holds path (Err (Failure.Refused refusal)) (refused f) = f ≡ fault_of refusal
IsStep p holds path (Err Failure.OutOfMemory) st = Unit {0}
IsStep _ _ _ _ _ = ⊥

-- Where the decoder is after a step.
use Rattle.ill_tables.specs.declared.profile.Profile.{Profile as Named}
use Rattle.ill_schema.specs.Profiles.{profile_of}
use Rattle.ill_tables.specs.declared.profile.Profile.TheVariants.{Two}
use Rattle.std.proofs.Common.{◌≡◌, ℕ, ◌+◌, ◌-◌, ◌≤◌, Bool, List, [], ◌∷◌, ◌++◌, length, take, drop, Option, Some, None, Ok, Err, true, false, refl, sym, ap, subst, ◌∙◌, inl, arith, IsTrue}
use Rattle.std.proofs.lemmas.List.{length-drop, length-take-le}
use Rattle.ber_core.specs.Id.{tag_of_id}
use Rattle.ber_tree.specs.Tree.{Tree}
use Rattle.ber_leaf.specs.declared.fault.LeafFault.{LeafFault}
use Rattle.ill_schema.specs.Apdu.{root}
use Rattle.ill_tables.specs.declared.profile.Profile.TheVariants.{Two, Module}
use Rattle.ill_schema.specs.declared.refusal.Cause.{Cause}
use Rattle.ill_schema.specs.Apdu.{Apdu, choice_of, Encodes, MeansApdu}
use Rattle.ill_tables.specs.declared.node.Kind.{Kind}
use Rattle.ill_schema.specs.Content.{Content, simple, alternative}
use Rattle.ill_schema.specs.Content as content
use Rattle.ill_schema.specs.Meaning.{Means}
use Rattle.ill_schema.specs.Tagging.{untagged}
use Rattle.ill_refusals.specs.Fault.{Fault, fault_of}
use Rattle.ill_refusals.specs.code.Judge.{Judgement, closes, reads, judge, or_faulty}
use Rattle.ill_read.specs.Answers.{IsRefusedIn}
use Rattle.ill_grammar.specs.Standing.{Level, whole_level, StandsBefore}
use Rattle.ill_read.specs.Paths.{HoldsAt}
use Rattle.ber_tree.specs.Octets.{are_octets}
use Rattle.ill_read.specs.code.ReaderCode.{IsAfter}
use Rattle.ill_read.specs.code.Judged.{IsJudgement, IsStep}
use Rattle.ill_refusals.specs.Place.{Open}
use Rattle.ill_read.specs.code.Progress.{size_of, IsProgress}
use Rattle.ill_grammar.specs.Standing.{depth_of}
use Rattle.ill_refusals.specs.code.Step.{Step, refused, goes, whole, stuck, with_tree, close, step_after}
use Rattle.ill_read.specs.declared.failure.Failure.{Failure}
use Rattle.ill_read.specs.code.Progress.{Judgement as CodeJudgement}
use Rattle.ill_read.specs.code.Progress as code
use Rattle.ill_grammar.specs.declared.frames.Frames.{Frames}
use Rattle.ill_read.specs.declared.path.Path.{Path}
use Rattle.ill_read.proofs.MessageEnds.{refuses_alone}
use Rattle.ill_refusals.proofs.OneOutcome.{message_encodes}
use Rattle.ill_refusals.proofs.DueSteps.{IsMessage, Placed, step_placed}
use Rattle.ill_refusals.proofs.Truncation.{leaf_cause}

-- the step ends at this offset, or with a fault that isn't that the octets end
abbrev pub EndsAt : ℕ → List ℕ → Step → Type 0
EndsAt k rest (goes place l after) = (l ≡ k) × (after ≡ rest)
EndsAt k rest (whole T n) = n ≡ k
EndsAt k rest (refused f) = f.cause ≡ Cause.Truncated → ⊥
EndsAt k rest stuck = Unit {0}

pub with_end : (place : List Open) (T : Tree) (k l : ℕ) (rest after : List ℕ) → l ≡ k → after ≡ rest → EndsAt k rest (with_tree place T l after)
with_end [] T k l rest after e f = e
with_end (o ∷ place) T k l rest after e f = (e, f)

or_end : (c : Option LeafFault) (at : ℕ) (j : Judgement) (place : List Open) (k l : ℕ) (rest after : List ℕ) → EndsAt k after (step_after j place l rest) → EndsAt k after (step_after (or_faulty c at j) place l rest)
or_end None at j place k l rest after h = h
or_end (Some c) at j place k l rest after h = leaf_cause c

moved_end : (p : Named) (frames : Frames) (place : List Open) (at : ℕ) (rest : List ℕ) (judgement : CodeJudgement) (j : Judgement) → IsProgress (depth_of frames) (length rest) judgement
    → IsJudgement p frames place at rest judgement j → EndsAt (at + size_of judgement) (drop (size_of judgement) rest) (step_after j place at rest)
moved_end p frames place at rest (code.Closes m) j q h =
    subst (λ x. EndsAt (at + m) (drop m rest) (step_after x place at rest)) (sym h.is)
    (or_end _ _ (closes m) place (at + m) at rest (drop m rest)
    (subst (λ x. EndsAt (at + m) (drop m rest) (close x (at + m) (drop m rest))) (sym h.is_path) (with_end h.outer _ (at + m) (at + m) (drop m rest) (drop m rest) refl refl)))
moved_end p frames place at rest (code.Opens o) j q h = subst (λ x. EndsAt (at + o.header) (drop o.header rest) (step_after x place at rest)) (sym h.1) (refl, refl)
moved_end p frames place at rest (code.Reads r) j q h =
    let content = take r.size (drop r.header rest) in
    let le = q.1 in
    let n : length content ≡ r.size = length-take-le r.size (drop r.header rest) (omega (arith, length-drop r.header rest)) in
    subst (λ x. EndsAt (at + (r.header + r.size)) (drop (r.header + r.size) rest) (step_after x place at rest)) (sym h.1)
    (or_end _ at (reads (tag_of_id r.id) r.header content) place (at + (r.header + r.size)) at rest (drop (r.header + r.size) rest)
    (with_end place _ (at + (r.header + r.size)) (at + r.header + length content) (drop (r.header + r.size) rest) (drop (r.header + length content) rest)
    (omega (arith, n)) (ap (λ k. drop (r.header + k) rest) n)))

-- what means a value of ILL-APDU means an APDU
pub means_apdu : (p : Named) (c : Content) (T : Tree) → Means (profile_of p) c (root (profile_of p)) untagged T → (a : Apdu) × (c ≡ choice_of a) × MeansApdu (profile_of p) a T
means_apdu p (alternative n d) T h =
    let e : n ≡ n + 1 - 1 = omega arith in
    (record { number = n + 1; body = d }, ap (λ m. alternative m d) e, (omega arith, subst (λ m. Means (profile_of p) (alternative m d) (root (profile_of p)) untagged T) e h))
means_apdu Two (simple v) T h = absurd (let q : None ≡ Some h.0 = h.1 in cc)
means_apdu Module (simple v) T h = absurd (let q : None ≡ Some h.0 = h.1 in cc)
means_apdu Two (content.sequence es) T h = absurd (let q : Kind.Choice ≡ Kind.Seq = h.0 in cc)
means_apdu Module (content.sequence es) T h = absurd (let q : Kind.Choice ≡ Kind.Seq = h.0 in cc)
means_apdu Two (content.list is) T h = absurd (let q : Kind.Choice ≡ Kind.SeqOf = h.0 in cc)
means_apdu Module (content.list is) T h = absurd (let q : Kind.Choice ≡ Kind.SeqOf = h.0 in cc)
means_apdu Two (content.foreign V) T h = absurd (let q : Kind.Choice ≡ Kind.Any = h.0 in cc)
means_apdu Module (content.foreign V) T h = absurd (let q : Kind.Choice ≡ Kind.Any = h.0 in cc)

-- the step of what is there
record IsMade (p : Named) (at : ℕ) (s rest : List ℕ) (judgement : CodeJudgement) (st : Step) : Type 0 where
  placed : Placed (profile_of p) s st
  ends : EndsAt (at + size_of judgement) (drop (size_of judgement) rest) st

made : (p : Named) (Stands : List Open → Type 0) (frames : Frames) (at : ℕ) (s rest : List ℕ) (judgement : CodeJudgement) → (b : StandsBefore p Stands at s rest) → IsProgress (depth_of frames) (length rest) judgement
    → IsJudgement p frames b.place at rest judgement (judge (profile_of p) b.place at rest)
    → IsMade p at s rest judgement (step_after (judge (profile_of p) b.place at rest) b.place at rest)
made p Stands frames at s rest judgement b q h = record {
  placed = step_placed (profile_of p) s b.place at rest b.octets (b.before, b.joined, b.offset, b.is_place);
  ends = moved_end p frames b.place at rest judgement (judge (profile_of p) b.place at rest) q h;
}

-- after a step the path is at the next place, or the message is whole: its octets encode what the draft holds
pub step_made : {D : Type 0} (p : Named) (holds : D → List Level → List ℕ → Type 0) (new : Path D) (k : ℕ) (s rest : List ℕ) (st : Step) (done : Bool) → IsTrue (are_octets s) → Placed (profile_of p) s st → EndsAt k rest st
    → IsStep p holds new (Ok done) st → IsAfter p holds new k s rest done
step_made p holds new k s rest (goes place l after) false ok placed ends i = record {
  place = place;
  before = placed.0;
  joined = subst (λ z. s ≡ placed.0 ++ z) ends.1 placed.1;
  octets = ok;
  offset = sym ends.0 ∙ placed.2;
  stands = i;
  is_place = placed.3;
}
step_made p holds new k s rest (whole T n) true ok placed ends i =
    let apdu = means_apdu p i.0 T i.2 in
    let message : IsMessage (profile_of p) s T n = record placed { apdu = apdu.0; means = apdu.2 } in
    let encoded = subst (λ l. (l ≤ length s) × Encodes (profile_of p) apdu.0 (take l s)) ends (message_encodes (profile_of p) s T n message) in
    (encoded.0, (apdu.0, (subst (λ c. holds new.draft (whole_level p c ∷ []) []) apdu.1 i.1, apdu.2.0, encoded.1)))
step_made p holds new k s rest (refused f) false ok placed ends i = absurd i
step_made p holds new k s rest (refused f) true ok placed ends i = absurd i
step_made p holds new k s rest stuck false ok placed ends i = absurd i
step_made p holds new k s rest stuck true ok placed ends i = absurd i
step_made p holds new k s rest (goes place l after) true ok placed ends i = absurd i
step_made p holds new k s rest (whole T n) false ok placed ends i = absurd i

-- the same of what was judged
pub after_step : {D : Type 0} (p : Named) (holds : D → List Level → List ℕ → Type 0) (path new : Path D) (at : ℕ) (s rest : List ℕ) (judgement : CodeJudgement) (done : Bool) → (b : StandsBefore p (HoldsAt p holds path) at s rest)
    → IsProgress (depth_of path.frames) (length rest) judgement → IsJudgement p path.frames b.place at rest judgement (judge (profile_of p) b.place at rest)
    → IsStep p holds new (Ok done) (step_after (judge (profile_of p) b.place at rest) b.place at rest)
    → IsAfter p holds new (at + size_of judgement) s (drop (size_of judgement) rest) done
after_step p holds path new at s rest judgement done b q h is =
    let m = made p (HoldsAt p holds path) path.frames at s rest judgement b q h in
    step_made p holds new (at + size_of judgement) s (drop (size_of judgement) rest) (step_after (judge (profile_of p) b.place at rest) b.place at rest) done b.octets m.placed m.ends is

-- a text is at fault, or memory runs out
pub is_refused : {D : Type 0} (p : Named) (holds : D → List Level → List ℕ → Type 0) (path new : Path D) (at : ℕ) (s rest : List ℕ) (judgement : CodeJudgement) (failure : Failure)
    → (b : StandsBefore p (HoldsAt p holds path) at s rest) → IsProgress (depth_of path.frames) (length rest) judgement
    → IsJudgement p path.frames b.place at rest judgement (judge (profile_of p) b.place at rest) → IsStep p holds new (Err failure) (step_after (judge (profile_of p) b.place at rest) b.place at rest)
    → IsRefusedIn (profile_of p) s failure
is_refused p holds path new at s rest judgement failure b q h is = go failure (step_after (judge (profile_of p) b.place at rest) b.place at rest) (made p (HoldsAt p holds path) path.frames at s rest judgement b q h) is
  where
    go : (failure : Failure) (st : Step) → IsMade p at s rest judgement st → IsStep p holds new (Err failure) st → IsRefusedIn (profile_of p) s failure
    go (Failure.Refused r) (refused f) m i =
        (refuses_alone p s (fault_of r) (inl (subst (λ (g : Fault). Placed (profile_of p) s (refused g)) i m.placed)), subst (λ (g : Fault). g.cause ≡ Cause.Truncated → ⊥) i m.ends)
    go (Failure.Refused r) _ m i = absurd i
    go Failure.OutOfMemory st m i = tt

use Rattle.std.proofs.Common.{◌≡◌, ◌∙◌, ℕ, List, Ok, length, subst}
use Rattle.std.specs.Io.KnownBytes.{Appends}
use Rattle.ill_schema.specs.Profiles.{profile_of}
use Rattle.ill_read.specs.Answers.{IsNormalIn, ReadsNextIn}
use Rattle.ill_read.specs.code.OctetDrafts.{AreNormal}
use Rattle.ill_read.specs.code.ReaderCode.{IsReadOf}
use Rattle.ill_read.specs.declared.normal.NormalForm.{NormalForm}
use Rattle.ill_read.proofs.NextRead.{reads_as, reads_fails, reads_none}
use Rattle.ill_read.proofs.normal.NormalReader.read_any.Goals as goal

pub read_draft-requires : goal.read_draft-requires
read_draft-requires g c = record { takes = tt }

pub returns-in-Ok-Some-clause-next : goal.returns-in-Ok-Some-clause-next
returns-in-Ok-Some-clause-next g c =
    let p = c.args.profile in
    let Is : ℕ → List ℕ → Type 0 = λ n octets. (n ≡ length octets) × IsReadOf p AreNormal c.read_draft.new.reader.path.draft octets × Appends (g.K.Recorder.recorded c.args.recorded.now) (g.K.Recorder.recorded c.read_draft.new.recorder) octets in
    let Js : NormalForm → List ℕ → Type 0 = λ n octets. IsNormalIn (profile_of p) n octets × Appends (g.K.Recorder.recorded c.args.recorded.now) (g.K.Recorder.recorded c.read_draft.new.recorder) octets in
    let was = subst (λ o. ReadsNextIn (profile_of p) {T = ℕ} (g.R.Source.left c.args.source.now) (g.R.Source.left c.read_draft.new.source) (g.R.Source.is_broken c.args.source.now) (g.R.Source.is_broken c.read_draft.new.source) Is (Ok o)) c.in-Ok-Some.field-0-is
    (c.in-Ok-Some.ensures p (c.restart.ensures.«open» (c.new.ensures p))) in
    reads_as Is Js _ _ _ _ c.in-Ok-Some.read c.normal.result (λ b h. ((h.1.0, h.1.1, c.normal.ensures.octets ∙ h.1.2, c.normal.ensures.input_len ∙ h.0), h.2)) was

pub returns-in-Ok-None-clause-next : goal.returns-in-Ok-None-clause-next
returns-in-Ok-None-clause-next g c =
    let p = c.args.profile in
    let Is : ℕ → List ℕ → Type 0 = λ n octets. (n ≡ length octets) × IsReadOf p AreNormal c.read_draft.new.reader.path.draft octets × Appends (g.K.Recorder.recorded c.args.recorded.now) (g.K.Recorder.recorded c.read_draft.new.recorder) octets in
    let was = subst (λ o. ReadsNextIn (profile_of p) {T = ℕ} (g.R.Source.left c.args.source.now) (g.R.Source.left c.read_draft.new.source) (g.R.Source.is_broken c.args.source.now) (g.R.Source.is_broken c.read_draft.new.source) Is (Ok o)) c.in-Ok-None.field-0-is
    (c.in-Ok-None.ensures p (c.restart.ensures.«open» (c.new.ensures p))) in
    reads_none Is _ _ _ _ _ was

pub returns-in-Err-clause-next : goal.returns-in-Err-clause-next
returns-in-Err-clause-next g c =
    let p = c.args.profile in
    reads_fails _ _ _ _ _ _ c.in-Err.failure (c.in-Err.ensures p (c.restart.ensures.«open» (c.new.ensures p)))

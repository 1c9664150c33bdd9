use Rattle.ill_schema.specs.Profiles.{profile_of}
use Rattle.std.proofs.Common.{Some, ◌≡◌, ℕ, length, Bool, Ok, Err, Result, ap, sym, subst, ◌∙◌}
use Rattle.std.specs.Io.KnownBytes.{Appends}
use Rattle.ill_read.specs.Answers.{ReadsNextIn}
use Rattle.ill_read.specs.code.ReaderCode.{IsReadOf, read_result}
use Rattle.ill_read.specs.declared.failure.Failure.{Failure}
use Rattle.ill_read.proofs.SourceReads.{finished, reads_filled, reads_nothing}
use Rattle.ill_read.proofs.read.read_draft.Goals as goal

pub returns-in-Ok-true : goal.returns-in-Ok-true
returns-in-Ok-true g c p opened =
    let done = finished p g.D.Draft.holds g.D.Draft.has c.fill.new.reader c.ended.result (c.ended.ensures.«open» p) c.ended.ensures.whole c.ended.ensures.failed in
    let read = reads_filled p g.D.Draft.holds g.D.Draft.has _ _ _ _ c.fill.new.reader c.ended.result _ _ (c.in-Ok.ensures.filled p opened) done c.in-Ok.ensures.taken c.in-Ok.ensures.stays in
    subst (λ e. ReadsNextIn (profile_of p) {T = ℕ} (g.R.Source.left c.args.source.now) (g.R.Source.left c.fill.new.source) (g.R.Source.is_broken c.args.source.now) (g.R.Source.is_broken c.fill.new.source)
    (λ n octets. (n ≡ length octets) × IsReadOf p g.D.Draft.has c.fill.new.reader.path.draft octets × Appends (g.K.Recorder.recorded c.args.recorder.now) (g.K.Recorder.recorded c.fill.new.recorder) octets) e)
    (ap (read_result c.fill.new.reader.at) (c.in-Ok-true.is ∙ ap Ok c.in-Ok-true.field-0-test) ∙ ap (λ n. Ok (Some n)) (sym c.offset.ensures)) read

pub returns-in-Ok-false : goal.returns-in-Ok-false
returns-in-Ok-false g c p opened =
    let done = finished p g.D.Draft.holds g.D.Draft.has c.fill.new.reader c.ended.result (c.ended.ensures.«open» p) c.ended.ensures.whole c.ended.ensures.failed in
    let read = reads_filled p g.D.Draft.holds g.D.Draft.has _ _ _ _ c.fill.new.reader c.ended.result _ _ (c.in-Ok.ensures.filled p opened) done c.in-Ok.ensures.taken c.in-Ok.ensures.stays in
    subst (λ (e : Result Bool Failure). ReadsNextIn (profile_of p) {T = ℕ} (g.R.Source.left c.args.source.now) (g.R.Source.left c.fill.new.source) (g.R.Source.is_broken c.args.source.now) (g.R.Source.is_broken c.fill.new.source)
    (λ n octets. (n ≡ length octets) × IsReadOf p g.D.Draft.has c.fill.new.reader.path.draft octets × Appends (g.K.Recorder.recorded c.args.recorder.now) (g.K.Recorder.recorded c.fill.new.recorder) octets) (read_result c.fill.new.reader.at e))
    (c.in-Ok-false.is ∙ ap Ok c.in-Ok-false.field-0-test) read

pub returns-in-Err-ended : goal.returns-in-Err-ended
returns-in-Err-ended g c p opened =
    let done = finished p g.D.Draft.holds g.D.Draft.has c.fill.new.reader c.ended.result (c.ended.ensures.«open» p) c.ended.ensures.whole c.ended.ensures.failed in
    let read = reads_filled p g.D.Draft.holds g.D.Draft.has _ _ _ _ c.fill.new.reader c.ended.result _ _ (c.in-Ok.ensures.filled p opened) done c.in-Ok.ensures.taken c.in-Ok.ensures.stays in
    subst (λ e. ReadsNextIn (profile_of p) {T = ℕ} (g.R.Source.left c.args.source.now) (g.R.Source.left c.fill.new.source) (g.R.Source.is_broken c.args.source.now) (g.R.Source.is_broken c.fill.new.source)
    (λ n octets. (n ≡ length octets) × IsReadOf p g.D.Draft.has c.fill.new.reader.path.draft octets × Appends (g.K.Recorder.recorded c.args.recorder.now) (g.K.Recorder.recorded c.fill.new.recorder) octets) e)
    (ap (read_result c.fill.new.reader.at) c.in-Err-ended.is ∙ ap Err (sym c.from.ensures)) read

pub returns-in-Err : goal.returns-in-Err
returns-in-Err g c p opened =
    reads_nothing p _ _ _ _ _ c.in-Err.failure c.in-Err.ensures.failed c.in-Err.ensures.taken (λ e. c.fill.ensures.broken (c.in-Err.is ∙ ap Err e)) (λ e. c.fill.ensures.unfinished p opened (c.in-Err.is ∙ ap Err e)) c.in-Err.ensures.stays

use Rattle.std.proofs.Common.{◌≡◌, ◌∙◌, ℕ, List, None, Ok, length, ap, subst}
use Rattle.std.specs.Io.KnownBytes.{Appends}
use Rattle.ill_tables.specs.declared.profile.Profile.TheVariants.{Two}
use Rattle.ill_read.specs.Answers.{ReadsNext}
use Rattle.ill_read.specs.Paths.{AreMessage}
use Rattle.ill_read.specs.code.ReaderCode.{IsReadOf}
use Rattle.ill_read.specs.declared.value_draft.ValueDraft.{ValueDraft}
use Rattle.ill_read.proofs.NextRead.{reads_fails, reads_less, reads_none}
use Rattle.ill_read.proofs.SourceReads.{reads_message}
use Rattle.ill_read.proofs.read.read_value.Goals as goal

pub returns-in-Ok-Some : goal.returns-in-Ok-Some
returns-in-Ok-Some g c =
    let draft = c.read_draft.new.reader.path.draft in
    let recorded = Appends None None in
    let Is : ℕ → List ℕ → Type 0 = λ n octets. (n ≡ length octets) × IsReadOf Two (λ p values a n. AreMessage values a n) draft octets × recorded octets in
    let was = subst (λ o. ReadsNext {T = ℕ} (g.R.Source.left c.args.source.now) (g.R.Source.left c.read_draft.new.source) (g.R.Source.is_broken c.args.source.now) (g.R.Source.is_broken c.read_draft.new.source) Is (Ok o)) c.in-Ok-Some.field-0-is
    (c.in-Ok-Some.ensures Two (c.new-reader.ensures.«open» c.new.ensures)) in
    reads_less _ _ _ _ _ _ _ (λ m b h. h.0) (reads_message draft recorded _ _ _ _ _ c.into_message.result (c.into_message.ensures ∙ ap (λ (v : ValueDraft). v.message) c.into_draft.ensures) was)

pub returns-in-Ok-None : goal.returns-in-Ok-None
returns-in-Ok-None g c =
    let recorded = Appends None None in
    let Is : ℕ → List ℕ → Type 0 = λ n octets. (n ≡ length octets) × IsReadOf Two (λ p values a n. AreMessage values a n) c.read_draft.new.reader.path.draft octets × recorded octets in
    let was = subst (λ o. ReadsNext {T = ℕ} (g.R.Source.left c.args.source.now) (g.R.Source.left c.read_draft.new.source) (g.R.Source.is_broken c.args.source.now) (g.R.Source.is_broken c.read_draft.new.source) Is (Ok o)) c.in-Ok-None.field-0-is
    (c.in-Ok-None.ensures Two (c.new-reader.ensures.«open» c.new.ensures)) in
    reads_none Is _ _ _ _ _ was

pub returns-in-Err : goal.returns-in-Err
returns-in-Err g c = reads_fails _ _ _ _ _ _ c.in-Err.failure (c.in-Err.ensures Two (c.new-reader.ensures.«open» c.new.ensures))

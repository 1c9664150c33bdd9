use Rattle.std.proofs.Common.{◌<◌, Bool, Result, get_or, IsTrue, Ok, drop, sym, ap, subst, ◌∙◌, arith}
use Rattle.ber_tree.specs.Octets.{are_octets}
use Rattle.ber_tree.proofs.Octets.{octets_fit}
use Rattle.ill_tables.specs.declared.profile.Profile.TheVariants.{Two}
use Rattle.ill_read.specs.Paths.{AreMessage, AreValues}
use Rattle.ill_read.specs.code.ReaderCode.{HasBegun, HasOutcome}
use Rattle.ill_read.specs.declared.failure.Failure.{Failure}
use Rattle.ill_read.specs.declared.value_draft.ValueDraft.{ValueDraft}
use Rattle.ill_read.proofs.MessageEnds.{message_is, runs}
use Rattle.ill_read.proofs.read.message_of_piece.Goals as goal

pub returns-in-Ok-true : goal.returns-in-Ok-true
returns-in-Ok-true c =
    let w = c.args.octets.now in
    let ok : IsTrue (are_octets w) = octets_fit w (λ k. let small : get_or w k 0 < 256 = omega (arith, c.type_inv.octets k) in small) in
    let outcome = c.outcome.ensures Two w (drop c.read_elements.result w) (c.read_elements.ensures.stopped Two w (runs Two AreValues (λ p values a n. AreMessage values a n) c.new-reader.result w ok (c.new-reader.ensures.«open» c.new.ensures))) in
    let read = subst (λ (e : Result Bool Failure). HasOutcome Two (λ p values a n. AreMessage values a n) c.read_elements.new.self w e) (c.in-Ok-true.is ∙ ap Ok c.in-Ok-true.field-0-test) outcome in
    let m = message_is c.read_elements.new.self w read in
    subst (λ x. HasBegun w (Ok x)) (sym (c.into_message.ensures ∙ ap (λ (v : ValueDraft). v.message) c.into_draft.ensures ∙ m.1)) m.2

pub returns-in-Ok-false : goal.returns-in-Ok-false
returns-in-Ok-false c =
    let w = c.args.octets.now in
    let ok : IsTrue (are_octets w) = octets_fit w (λ k. let small : get_or w k 0 < 256 = omega (arith, c.type_inv.octets k) in small) in
    let outcome = c.outcome.ensures Two w (drop c.read_elements.result w) (c.read_elements.ensures.stopped Two w (runs Two AreValues (λ p values a n. AreMessage values a n) c.new-reader.result w ok (c.new-reader.ensures.«open» c.new.ensures))) in
    subst (λ (e : Result Bool Failure). HasOutcome Two (λ p values a n. AreMessage values a n) c.read_elements.new.self w e) (c.in-Ok-false.is ∙ ap Ok c.in-Ok-false.field-0-test) outcome

pub returns-in-Err : goal.returns-in-Err
returns-in-Err c =
    let w = c.args.octets.now in
    let ok : IsTrue (are_octets w) = octets_fit w (λ k. let small : get_or w k 0 < 256 = omega (arith, c.type_inv.octets k) in small) in
    let outcome = c.outcome.ensures Two w (drop c.read_elements.result w) (c.read_elements.ensures.stopped Two w (runs Two AreValues (λ p values a n. AreMessage values a n) c.new-reader.result w ok (c.new-reader.ensures.«open» c.new.ensures))) in
    subst (λ (e : Result Bool Failure). HasOutcome Two (λ p values a n. AreMessage values a n) c.read_elements.new.self w e) c.in-Err.is outcome

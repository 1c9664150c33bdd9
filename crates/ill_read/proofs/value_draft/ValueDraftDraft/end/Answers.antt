use Rattle.std.proofs.Common.{Some, true, false, refl, subst, sym}
use Rattle.ill_read.specs.Paths.{AreMessage, AreValues}
use Rattle.ill_read.specs.code.Drafts.{HasEnded, HoldsApdu}
use Rattle.ill_read.proofs.value_draft.ValueDraftDraft.end.Goals as goal

pub returns-in-Some : goal.returns-in-Some
returns-in-Some c p a b two h =
    let is = c.in-Some.ensures a b (subst (λ q. HoldsApdu q AreValues c.args.self.now a b) two h) in
    subst (λ q. HasEnded q (λ p values a n. AreMessage values a n) (record c.message_of_draft.new.self { message = Some c.in-Some.message }) a c.args.octets true) (sym two) ((c.in-Some.message, refl, is.0, is.1), is.2)

pub returns-in-None : goal.returns-in-None
returns-in-None c p a b two h =
    let is = c.in-None.ensures a b (subst (λ q. HoldsApdu q AreValues c.args.self.now a b) two h) in
    subst (λ q. HasEnded q (λ p values a n. AreMessage values a n) c.message_of_draft.new.self a c.args.octets false) (sym two) is

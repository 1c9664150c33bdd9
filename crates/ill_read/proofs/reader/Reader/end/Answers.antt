use Rattle.ill_schema.specs.Profiles.{profile_of}
use Rattle.std.proofs.Common.{◌∙◌, take, sym, subst, ap}
use Rattle.ill_schema.specs.Apdu.{Apdu}
use Rattle.ill_refusals.specs.Outcome.{OnlyAccepts}
use Rattle.ill_refusals.proofs.OneOutcome.{accepted_alone}
use Rattle.ill_read.specs.code.Drafts.{HasEnded}
use Rattle.ill_read.specs.code.ReaderCode.{InState}
use Rattle.ill_read.specs.declared.reader.State.TheVariants.{Failed}
use Rattle.ill_read.proofs.MessageEnds.{too_long}
use Rattle.ill_read.proofs.reader.Reader.end.Goals as goal
use Rattle.ill_read.proofs.reader.Reader.end.Goals.{then-end, else-end}

pub returns-clause-ended : goal.returns-clause-ended
returns-clause-ended g c p s a takes le h =
    let n = c.args.self.now.at in
    let has = g.D.Draft.has p c.end.new.self in
    let is = c.end.ensures p a (take n s) takes h in
    elim c.if-end.branch [
      | then-end w ↦
          let whole = subst (HasEnded p g.D.Draft.has c.end.new.self a n) w.if-end.true is in
          subst (λ st. InState p st s ((b : Apdu) × OnlyAccepts (profile_of p) s b n × has b n) ⊥) (sym w.self-is) (a, accepted_alone (profile_of p) s a n le h.2 whole.1, whole.0)
      | else-end w ↦
          let long = subst (HasEnded p g.D.Draft.has c.end.new.self a n) w.if-end.false is in
          subst (λ st. InState p st s ((b : Apdu) × OnlyAccepts (profile_of p) s b n × has b n) ⊥) (sym (w.self-is ∙ ap Failed w.refused.ensures)) (too_long p s a n le h.2 long)
    ]

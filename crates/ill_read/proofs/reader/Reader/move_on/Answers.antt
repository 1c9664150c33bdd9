use Rattle.std.proofs.Common.{◌+◌, Some, Bool, drop, sym, subst}
use Rattle.ill_read.specs.Paths.{HoldsAt}
use Rattle.ill_grammar.specs.Standing.{StandsBefore}
use Rattle.ill_schema.specs.Apdu.{Apdu}
use Rattle.ill_refusals.specs.Outcome.{OnlyAccepts}
use Rattle.ill_schema.specs.Profiles.{profile_of}
use Rattle.ill_read.specs.code.ReaderCode.{HasAdvanced, InState, IsAfter}
use Rattle.ill_read.specs.declared.reader.Reader.{Reader}
use Rattle.ill_read.proofs.MessageEnds.{after_end}
use Rattle.ill_read.proofs.reader.Reader.move_on.Goals as goal
use Rattle.ill_read.proofs.reader.Reader.move_on.Goals.{then-whole, else-whole}

pub returns-clause-goes : goal.returns-clause-goes
returns-clause-goes g c p s rest takes after =
    let holds = g.D.Draft.holds in
    let d = c.args.self.now in
    let is_after = λ (b : Bool). IsAfter p holds d.path (d.at + c.args.size) s (drop c.args.size rest) b in
    elim c.if-whole.branch [
      | then-whole w ↦
          let here = subst is_after w.if-whole.true after in
          subst (λ (r : Reader g.row.D.Denot). HasAdvanced p holds g.D.Draft.has r s rest (Some c.args.size)) (sym w.self-is)
          (after_end p g.D.Draft.has w.end.new.self s _ (w.end.ensures.ended p s here.1.0 takes here.0 here.1.1))
      | else-whole w ↦
          let here = subst is_after w.if-whole.false after in
          subst (λ (r : Reader g.row.D.Denot). HasAdvanced p holds g.D.Draft.has r s rest (Some c.args.size)) (sym w.self-is)
          (subst (λ st. InState p st s ((a : Apdu) × OnlyAccepts (profile_of p) s a (d.at + c.args.size) × g.D.Draft.has p d.path.draft a (d.at + c.args.size))
          (StandsBefore p (HoldsAt p holds d.path) (d.at + c.args.size) s (drop c.args.size rest))) (sym c.requires.open) here)
    ]

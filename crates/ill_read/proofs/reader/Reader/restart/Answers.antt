use Rattle.std.proofs.Common.{[], refl, sym, subst}
use Rattle.ill_read.specs.Paths.{HoldsAt}
use Rattle.ill_grammar.specs.Standing.{StandsLast}
use Rattle.ill_read.proofs.reader.Reader.restart.Goals as goal

pub returns-clause-open : goal.returns-clause-open
returns-clause-open g c h = (
  refl,
  subst (StandsLast c.args.profile (HoldsAt c.args.profile g.D.Draft.holds c.restart.new.self) 0 []) (sym c.clear.ensures.items)
      (record { place = []; before = []; joined = refl; octets = refl; offset = refl; stands = c.restart.ensures.holds h; is_place = refl }, refl),
)

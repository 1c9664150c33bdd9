use Rattle.std.proofs.Common.{[], refl, sym, subst}
use Rattle.ill_read.specs.Paths.{HoldsAt}
use Rattle.ill_grammar.specs.Standing.{StandsLast}
use Rattle.ill_read.proofs.reader.Reader.new.Goals as goal

pub returns-clause-open : goal.returns-clause-open
returns-clause-open g c h = (
  refl,
  subst (StandsLast c.args.profile (HoldsAt c.args.profile g.D.Draft.holds c.new.result) 0 []) (sym c.new-2.ensures.items)
      (record { place = []; before = []; joined = refl; octets = refl; offset = refl; stands = c.new.ensures.holds h; is_place = refl }, refl),
)

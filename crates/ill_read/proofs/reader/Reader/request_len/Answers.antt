use Rattle.std.proofs.Common.{◌≡◌, ℕ, [], true, Vec, Global, sym, subst, ◌∙◌, arith}
use Rattle.std.specs.Bool.{◌==◌}
use Rattle.std.specs.Vec.{vec_len}
use Rattle.std.proofs.lemmas.List.{nil_from_length}
use Rattle.ill_read.specs.Paths.{HoldsAt}
use Rattle.ill_grammar.specs.Standing.{StandsLast}
use Rattle.ill_read.proofs.MessageEnds.{is_open}
use Rattle.ill_read.proofs.NeededOctets.{two_at_least}
use Rattle.ill_read.proofs.reader.Reader.request_len.Goals as goal

none_left : (v : Vec ℕ Global) → (vec_len v == 0) ≡ true → v.items ≡ []
none_left v e = nil_from_length v.items (grind (arith, e))

pub returns-in-1-clause-at_least : goal.returns-in-1-clause-at_least
returns-in-1-clause-at_least g c p fed more a n is ok o h =
    let d = c.args.self.now in
    let none = none_left d.pending (sym c.is_empty.ensures ∙ c.if-is_empty.true) in
    let stands = (is_open p g.D.Draft.holds g.D.Draft.has d fed is o).1 in
    two_at_least p (HoldsAt p g.D.Draft.holds d.path) d.at fed (subst (StandsLast p (HoldsAt p g.D.Draft.holds d.path) d.at fed) none stands) more a n ok h

pub returns-in_default-clause-at_least : goal.returns-in_default-clause-at_least
returns-in_default-clause-at_least g c p fed more a n is ok o h = c.need.ensures.at_least p fed more a n (is_open p g.D.Draft.holds g.D.Draft.has c.args.self.now fed is o) ok h

pub returns-in_default-2-clause-some : goal.returns-in_default-2-clause-some
returns-in_default-2-clause-some g c p fed is o = c.need.ensures.some p fed (is_open p g.D.Draft.holds g.D.Draft.has c.args.self.now fed is o)

pub returns-in_default-2-clause-at_least : goal.returns-in_default-2-clause-at_least
returns-in_default-2-clause-at_least g c p fed more a n is ok o h = c.need.ensures.at_least p fed more a n (is_open p g.D.Draft.holds g.D.Draft.has c.args.self.now fed is o) ok h

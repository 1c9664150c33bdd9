use Rattle.std.proofs.Common.{◌≡◌, ◌<◌, ◌++◌, [], true, false, drop, get_or, IsTrue, sym, ap, ◌∙◌, arith, rules}
use Rattle.std.proofs.lemmas.List.{nil_from_length}
use Rattle.ber_tree.specs.Octets.{are_octets}
use Rattle.ber_tree.proofs.Octets.{octets_fit}
use Rattle.ill_read.specs.declared.reader.State.TheVariants.{Open, Failed}
use Rattle.ill_read.specs.declared.failure.Failure.{Failure}
use Rattle.ill_read.proofs.LookedOctets.{looked_open, looked_refused, looked_whole, looked_without_memory, started, starts_at}
use Rattle.ill_read.proofs.MessageEnds.{is_failed, is_whole}
use Rattle.ill_read.proofs.reader.Reader.read_buffered.Goals as goal
use Rattle.ill_read.proofs.reader.Reader.read_buffered.Goals.{in-Open, in_default}

pub returns-in-Open-state-clause-looked : goal.returns-in-Open-state-clause-looked
returns-in-Open-state-clause-looked g c p b h exact =
    let d = c.args.self.now in let octets = c.args.octets.now in
    let none : d.pending.items ≡ [] = nil_from_length d.pending.items (grind (arith, c.is_empty.ensures, c.if-not-is_empty.false)) in
    let ok : IsTrue (are_octets octets) = octets_fit octets (λ k. let small : get_or octets k 0 < 256 = omega (arith, c.type_inv.octets k) in small) in
    let stopped = c.read_elements-count.ensures.stopped p _ (started p g.D.Draft.holds g.D.Draft.has d b octets none ok h) in
    looked_open p g.D.Draft.holds g.D.Draft.has c.read_elements-count.new.self b octets c.read_elements-count.result c.in-Open-state.is (ap (λ v. v.items) c.read_elements-count.ensures.pending ∙ none) stopped

pub returns-in-Whole-clause-looked : goal.returns-in-Whole-clause-looked
returns-in-Whole-clause-looked g c p b h exact =
    let d = c.args.self.now in let octets = c.args.octets.now in
    let opened : d.state ≡ Open = elim c.match-matches.branch [
      | in-Open w ↦ w.in-Open.is
      | in_default w ↦ absurd (let q : true ≡ false = sym c.if-not-matches.false ∙ w.matches-is in cc)
    ] in
    let none : d.pending.items ≡ [] = nil_from_length d.pending.items (grind (arith, c.is_empty.ensures, c.if-not-is_empty.false)) in
    let ok : IsTrue (are_octets octets) = octets_fit octets (λ k. let small : get_or octets k 0 < 256 = omega (arith, c.type_inv.octets k) in small) in
    let new = c.read_elements-count.new.self in
    let s = b ++ octets in
    let rest = drop c.read_elements-count.result octets in
    let read = is_whole p g.D.Draft.holds g.D.Draft.has new s rest (c.read_elements-count.ensures.stopped p s (started p g.D.Draft.holds g.D.Draft.has d b octets none ok h)) c.in-Whole.is in
    let at = starts_at p g.D.Draft.holds g.D.Draft.has d b opened none h in
    looked_whole p g.D.Draft.holds g.D.Draft.has new b octets c.min.result c.in-Whole.is (omega (arith, at, c.min.ensures, c.saturating_sub.ensures)) exact read

pub returns-in-Failed-Refused-clause-looked : goal.returns-in-Failed-Refused-clause-looked
returns-in-Failed-Refused-clause-looked g c p b h exact =
    let d = c.args.self.now in let octets = c.args.octets.now in
    let none : d.pending.items ≡ [] = nil_from_length d.pending.items (grind (arith, c.is_empty.ensures, c.if-not-is_empty.false)) in
    let ok : IsTrue (are_octets octets) = octets_fit octets (λ k. let small : get_or octets k 0 < 256 = omega (arith, c.type_inv.octets k) in small) in
    let new = c.read_elements-count.new.self in
    let is : new.state ≡ Failed (Failure.Refused c.in-Failed-Refused.field-0-0) = search rules in
    let s = b ++ octets in
    let rest = drop c.read_elements-count.result octets in
    let refused = is_failed p g.D.Draft.holds g.D.Draft.has new s rest (Failure.Refused c.in-Failed-Refused.field-0-0) (c.read_elements-count.ensures.stopped p s (started p g.D.Draft.holds g.D.Draft.has d b octets none ok h)) is in
    looked_refused p g.D.Draft.holds g.D.Draft.has new c.in-Failed-Refused.field-0-0 b octets is refused

pub returns-in-Failed-OutOfMemory-clause-looked : goal.returns-in-Failed-OutOfMemory-clause-looked
returns-in-Failed-OutOfMemory-clause-looked g c p b h exact =
    let is : c.read_elements-count.new.self.state ≡ Failed Failure.OutOfMemory = search rules in
    looked_without_memory p g.D.Draft.holds g.D.Draft.has c.read_elements-count.new.self b is exact

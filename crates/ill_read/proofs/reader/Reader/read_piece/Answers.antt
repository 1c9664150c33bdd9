use Rattle.std.proofs.Common.{◌≡◌, ◌<◌, ◌-◌, ◌++◌, [], drop, take, length, get_or, Vec, Global, ℕ, IsTrue, true, false, sym, subst, ap, ◌∙◌, arith}
use Rattle.std.proofs.lemmas.List.{length-drop, nil_from_length, take_all}
use Rattle.ber_tree.specs.Octets.{are_octets}
use Rattle.ber_tree.proofs.Octets.{octets_fit}
use Rattle.ill_read.specs.code.ReaderCode.{HasStopped, IsRunning}
use Rattle.ill_read.specs.declared.reader.State.TheVariants.{Open}
use Rattle.ill_read.proofs.MessageEnds.{running_longer, ended_longer}
use Rattle.ill_read.proofs.reader.Reader.read_piece.Goals as goal
use Rattle.ill_read.proofs.reader.Reader.read_piece.Goals.{in-Open, in_default}

pub returns-then-not-matches-clause-fed : goal.returns-then-not-matches-clause-fed
returns-then-not-matches-clause-fed g c p fed h =
    let d = c.args.self.now in
    let ended : d.state ≡ Open → ⊥ = elim c.match-matches.branch [
      | in-Open w ↦ absurd (let q : false ≡ true = sym c.if-not-matches.true ∙ w.matches-is in cc)
      | in_default w ↦ λ e. w.in_default.not-Open e
    ] in
    ended_longer p g.D.Draft.has d fed c.args.piece.now _ _ ended h

pub returns-then-is_empty-clause-fed : goal.returns-then-is_empty-clause-fed
returns-then-is_empty-clause-fed g c p fed h =
    let d = c.args.self.now in
    let piece = c.args.piece.now in
    let n = c.read_elements-count.result in
    let ok : IsTrue (are_octets piece) = octets_fit piece (λ k. let small : get_or piece k 0 < 256 = omega (arith, c.type_inv.piece k) in small) in
    let running = running_longer p g.D.Draft.holds g.D.Draft.has d fed d.pending.items piece ok h in
    let none : d.pending.items ≡ [] = nil_from_length d.pending.items (grind (arith, c.is_empty.ensures, c.if-is_empty.true)) in
    let from : IsRunning p g.D.Draft.holds g.D.Draft.has d (fed ++ piece) piece = subst (λ z. IsRunning p g.D.Draft.holds g.D.Draft.has d (fed ++ piece) (z ++ piece)) none running in
    let whole : take (length piece - n) (drop n piece) ≡ drop n piece = take_all (length piece - n) (drop n piece) (omega (arith, length-drop n piece)) in
    c.keep.ensures.fed p (fed ++ piece) (subst (HasStopped p g.D.Draft.holds g.D.Draft.has c.read_elements-count.new.self (fed ++ piece)) (sym whole) (c.read_elements-count.ensures.stopped p (fed ++ piece) from))

pub returns-in-Ok-clause-fed : goal.returns-in-Ok-clause-fed
returns-in-Ok-clause-fed g c p fed h =
    let d = c.args.self.now in
    let piece = c.args.piece.now in
    let octets = c.deref.result.now in
    let ok : IsTrue (are_octets piece) = octets_fit piece (λ k. let small : get_or piece k 0 < 256 = omega (arith, c.type_inv.piece k) in small) in
    let running = running_longer p g.D.Draft.holds g.D.Draft.has d fed d.pending.items piece ok h in
    let all : octets ≡ d.pending.items ++ piece = c.deref.ensures.value ∙ c.in-Ok.ensures.items ∙ ap (λ (v : Vec ℕ Global). v.items ++ piece) c.replace-octets.ensures.value in
    let from = subst (IsRunning p g.D.Draft.holds g.D.Draft.has d (fed ++ piece)) (sym all) running in
    c.keep_after.ensures.fed p (fed ++ piece) (subst (λ z. HasStopped p g.D.Draft.holds g.D.Draft.has c.read_elements-count-in-Ok.new.self (fed ++ piece) (drop c.read_elements-count-in-Ok.result z)) c.deref.ensures.value
    (c.read_elements-count-in-Ok.ensures.stopped p (fed ++ piece) from))

pub returns-then-not-matches-clause-octets : goal.returns-then-not-matches-clause-octets
returns-then-not-matches-clause-octets g c = octets_fit c.args.piece.now (λ k. let small : get_or c.args.piece.now k 0 < 256 = omega (arith, c.type_inv.piece k) in small)

pub returns-then-is_empty-clause-octets : goal.returns-then-is_empty-clause-octets
returns-then-is_empty-clause-octets g c = octets_fit c.args.piece.now (λ k. let small : get_or c.args.piece.now k 0 < 256 = omega (arith, c.type_inv.piece k) in small)

pub returns-in-Ok-clause-octets : goal.returns-in-Ok-clause-octets
returns-in-Ok-clause-octets g c = octets_fit c.args.piece.now (λ k. let small : get_or c.args.piece.now k 0 < 256 = omega (arith, c.type_inv.piece k) in small)

pub returns-in-Err-clause-octets : goal.returns-in-Err-clause-octets
returns-in-Err-clause-octets g c = octets_fit c.args.piece.now (λ k. let small : get_or c.args.piece.now k 0 < 256 = omega (arith, c.type_inv.piece k) in small)

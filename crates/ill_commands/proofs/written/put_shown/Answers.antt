use Rattle.std.proofs.Common.{◌≡◌, ◌+◌, ◌<◌, ℕ, length, take, sym, ap, subst, refl, ◌∙◌, arith}
use Rattle.std.specs.Io.KnownBytes.{Appends}
use Rattle.std.proofs.KnownBytes.{Appends-trans}
use Rattle.std.proofs.Math.Seq.{take-append-add}
use Rattle.ill_commands.proofs.written.put_shown.Goals as goal

pub returns-in-Ok-clause-all : goal.returns-in-Ok-clause-all
returns-in-Ok-clause-all g c octets h =
    let first = g.W.Sink.contents c.args.sink.now in
    let last = g.W.Sink.contents c.put.new.sink in
    subst (Appends first last) (sym h.2) (Appends-trans first (g.W.Sink.contents c.put_all.new.sink) last c.args.label.now h.0 c.in_ok-put_all.ensures.all (c.in-Ok.ensures.all h.0 h.1))

pub returns-in-Err-clause-some : goal.returns-in-Err-clause-some
returns-in-Err-clause-some g c octets h =
    let first = g.W.Sink.contents c.args.sink.now in
    let last = g.W.Sink.contents c.put.new.sink in
    let fewer : c.in-Err.count < length h.0 = c.in-Err.ensures.fewer h.0 h.1 in
    let sum : c.saturating_add-in-Err.result ≡ length c.args.label.now + c.in-Err.count = omega (arith, c.saturating_add-in-Err.ensures, fewer, h.1.3, h.3) in
    let front = sym (ap (λ (n : ℕ). take n octets) sum ∙ ap (take (length c.args.label.now + c.in-Err.count)) h.2 ∙ take-append-add c.args.label.now h.0 c.in-Err.count) in
    subst (Appends first last) front
    (Appends-trans first (g.W.Sink.contents c.put_all.new.sink) last c.args.label.now (take c.in-Err.count h.0) c.in_ok-put_all.ensures.all (c.in-Err.ensures.some h.0 h.1))

pub returns-in-Err-clause-breaks : goal.returns-in-Err-clause-breaks
returns-in-Err-clause-breaks g c octets h e = c.in-Err.ensures.breaks h.0 h.1 refl

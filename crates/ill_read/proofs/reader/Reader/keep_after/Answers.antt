use Rattle.std.proofs.Common.{◌≡◌, ◌-◌, drop, take, sym, subst, ap, ◌∙◌, arith}
use Rattle.ill_read.specs.code.ReaderCode.{HasStopped}
use Rattle.ill_read.proofs.MovedOctets.{moved_front}
use Rattle.ill_read.proofs.reader.Reader.keep_after.Goals as goal

pub returns-then-count-eq0-clause-fed : goal.returns-then-count-eq0-clause-fed
returns-then-count-eq0-clause-fed g c p fed h = subst (λ n. HasStopped p g.D.Draft.holds g.D.Draft.has c.args.self.now fed (drop n c.args.octets.items)) c.if-count-eq0.true h

pub returns-clause-fed : goal.returns-clause-fed
returns-clause-fed g c p fed h =
    let all = c.args.octets.items in
    let n = c.args.count in
    let within = c.requires in
    let moved : c.truncate.new.self.items ≡ drop n all =
    c.truncate.ensures.items ∙ ap (take (c.len.result - n)) c.copy_within.ensures.items ∙ moved_front all n c.args.octets.len (c.len.result - n) within.within (omega (arith, c.args.octets.ok.0)) (omega (arith, c.len.ensures, c.args.octets.ok.0)) in
    subst (HasStopped p g.D.Draft.holds g.D.Draft.has c.args.self.now fed) (sym moved) h

use Rattle.std.proofs.Common.{rules, ◌≡◌, ◌+◌, ◌++◌, ◌≤◌, [], Ok, refl, take, length, ◌-◌, ap, sym, subst, ◌∙◌}
use Rattle.ill_write.specs.code.Puts.{Puts}
use Rattle.ill_write.proofs.Putting.{puts_nothing, puts_then, puts_failed, sent_on, kept, as_failed}
use Rattle.std.proofs.lemmas.Slice.{take-put_mid}
use Rattle.ill_write.proofs.buffered_sink.BufferedSink.put.Goals as goal
use Rattle.ill_write.proofs.buffered_sink.BufferedSink.put.Goals.{then-octets-self+in_ok-flush+else-octets-gt-BUFFER_LEN, else-octets-self}

pub returns-in_err-flush-clause-puts : goal.returns-in_err-flush-clause-puts
returns-in_err-flush-clause-puts g c =
    as_failed c.from_residual.result c.in_err-flush.field-0.0 c.args.octets.now _ _ c.args.self.now _ c.from_residual.ensures.0
    (puts_failed c.in_err-flush.field-0.0 c.in_err-flush.field-0.0 [] c.args.octets.now _ _ c.args.self.now _ c.in_err-flush.ensures.puts)

pub returns-then-octets-gt-BUFFER_LEN-clause-puts : goal.returns-then-octets-gt-BUFFER_LEN-clause-puts
returns-then-octets-gt-BUFFER_LEN-clause-puts g c =
    puts_then tt c.send.result [] c.args.octets.now _ _ _ c.args.self.now c.flush.new.self _ c.in_ok-flush.ensures.puts
    (sent_on c.send.result c.args.octets.now _ _ c.flush.new.self _ c.in_ok-flush.ensures.empty c.send.ensures.sends c.in_ok-flush.ensures.empty)

pub returns-clause-puts : goal.returns-clause-puts
returns-clause-puts g c =
    let p = c.if-octets-self.self in
    let xs = c.args.octets.now in
    let same : c.copy_from_slice.new.self ≡ xs = search rules in
    let bound : p.len ≤ length p.waiting = search rules in
    let w = take-put_mid p.len (p.len + length xs - p.len) p.waiting c.copy_from_slice.new.self (p.len + length xs) (ap (λ z. p.len + length z) (sym same)) bound ∙ ap (λ z. take p.len p.waiting ++ z) same in
    let before = g.W.Sink.contents c.args.sink.now in
    let now = g.W.Sink.contents c.if-octets-self.sink in
    let h : Puts (Ok tt) [] before c.args.self.now now p = elim c.if-octets-self.branch [
      | then-octets-self+in_ok-flush+else-octets-gt-BUFFER_LEN v ↦
          subst (λ q. Puts (Ok tt) [] before c.args.self.now now q) (sym v.self-is)
          (subst (λ s. Puts (Ok tt) [] before c.args.self.now (g.W.Sink.contents s) v.flush.new.self) (sym v.sink-is) v.in_ok-flush.ensures.puts)
      | else-octets-self v ↦
          subst (λ q. Puts (Ok tt) [] before c.args.self.now now q) (sym v.self-is)
          (subst (λ s. Puts (Ok tt) [] before c.args.self.now (g.W.Sink.contents s) c.args.self.now) (sym v.sink-is) (puts_nothing tt before c.args.self.now))
    ] in
    puts_then tt (Ok tt) [] xs _ _ _ c.args.self.now p _ h (kept tt xs _ p _ w refl)

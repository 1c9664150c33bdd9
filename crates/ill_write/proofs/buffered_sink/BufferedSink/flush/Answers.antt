use Rattle.std.proofs.Common.{[], Ok, Err, refl}
use Rattle.ill_write.proofs.Putting.{flushed, as_failed}
use Rattle.ill_write.proofs.buffered_sink.BufferedSink.flush.Goals as goal

pub returns-in_err-send-clause-puts : goal.returns-in_err-send-clause-puts
returns-in_err-send-clause-puts g c =
    as_failed c.from_residual.result c.in_err-send.field-0.0 [] _ _ c.args.self.now _ c.from_residual.ensures.0
    (flushed (Err c.in_err-send.field-0.0) _ _ c.args.self.now _ c.in_err-send.ensures.sends (λ f. absurd cc))

pub returns-clause-puts : goal.returns-clause-puts
returns-clause-puts g c = flushed (Ok tt) _ _ c.args.self.now _ c.in_ok-send.ensures.sends (λ f. refl)

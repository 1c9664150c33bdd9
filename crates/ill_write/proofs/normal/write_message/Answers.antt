use Rattle.std.proofs.Common.{◌-◌, [], Ok, append-nil, sym, subst, ap}
use Rattle.ber_core.specs.Der.{encoding}
use Rattle.ill_tables.specs.declared.node.NodeId.TheVariants.{IllApdu}
use Rattle.ill_schema.specs.Apdu.{normal_form}
use Rattle.ill_schema.specs.Message.{apdu_of}
use Rattle.ill_write.specs.code.Puts.{Puts}
use Rattle.ill_write.proofs.Messages.{message_tree, message_small}
use Rattle.ill_write.proofs.Putting.{puts_then}
use Rattle.ill_write.proofs.Tags.{row_valid}
use Rattle.ill_write.proofs.normal.write_message.Goals as goal

pub write_row-requires-clause-valid : goal.write_row-requires-clause-valid
write_row-requires-clause-valid g c = row_valid IllApdu ((apdu_of c.args.message.now).number - 1) c.apdu_row.result (sym c.apdu_row.ensures)

pub write_row-requires-clause-small : goal.write_row-requires-clause-small
write_row-requires-clause-small g c = message_small c.args.message.now c.apdu_row.result _ c.apdu_row.ensures c.body.ensures.content c.body.ensures.within

pub returns-clause-puts : goal.returns-clause-puts
returns-clause-puts g c =
    let E = normal_form (apdu_of c.args.message.now) in
    let e = ap encoding (message_tree c.args.message.now c.apdu_row.result _ c.apdu_row.ensures c.body.ensures.content) in
    let h = subst (λ z. Puts (Ok tt) z (g.W.Sink.contents c.args.sink.now) c.args.progress.now (g.W.Sink.contents c.write_row.new.sink) c.write_row.new.progress) (sym e) c.in_ok-write_row.ensures.puts in
    subst (λ z. Puts c.flush.result z (g.W.Sink.contents c.args.sink.now) c.args.progress.now (g.W.Sink.contents c.flush.new.sink) c.flush.new.self) (append-nil E)
    (puts_then tt c.flush.result E [] _ _ _ c.args.progress.now c.write_row.new.progress c.flush.new.self h c.flush.ensures.puts)

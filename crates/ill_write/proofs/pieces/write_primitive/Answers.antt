use Rattle.std.proofs.Common.{◌++◌, subst, length, false, append_assoc}
use Rattle.ber_tree.specs.Identifier.{identifier}
use Rattle.ber_tree.specs.Length.{shortest_length}
use Rattle.ill_schema.specs.Elements.{tag_at}
use Rattle.ill_write.specs.code.Puts.{Puts}
use Rattle.ill_write.proofs.Putting.{puts_then, puts_failed, as_failed}
use Rattle.ill_write.proofs.pieces.write_primitive.Goals as goal

pub returns-in_err-write_header-clause-puts : goal.returns-in_err-write_header-clause-puts
returns-in_err-write_header-clause-puts g c =
    let x = c.in_err-write_header.field-0.0 in
    let heading = identifier (tag_at c.args.tag) false ++ shortest_length (length c.args.octets.now) in
    subst (λ z. Puts c.from_residual.result z (g.W.Sink.contents c.args.sink.now) c.args.progress.now (g.W.Sink.contents c.write_header.new.sink) c.write_header.new.progress)
    (append_assoc (identifier (tag_at c.args.tag) false) (shortest_length (length c.args.octets.now)) c.args.octets.now)
    (as_failed c.from_residual.result x _ _ _ c.args.progress.now c.write_header.new.progress c.from_residual.ensures.0
    (puts_failed x x heading c.args.octets.now _ _ c.args.progress.now c.write_header.new.progress c.in_err-write_header.ensures.puts))

pub returns-clause-puts : goal.returns-clause-puts
returns-clause-puts g c =
    let heading = identifier (tag_at c.args.tag) false ++ shortest_length (length c.args.octets.now) in
    subst (λ z. Puts c.put.result z (g.W.Sink.contents c.args.sink.now) c.args.progress.now (g.W.Sink.contents c.put.new.sink) c.put.new.self)
    (append_assoc (identifier (tag_at c.args.tag) false) (shortest_length (length c.args.octets.now)) c.args.octets.now)
    (puts_then tt c.put.result heading c.args.octets.now _ _ _ c.args.progress.now c.write_header.new.progress c.put.new.self c.in_ok-write_header.ensures.puts c.put.ensures.puts)

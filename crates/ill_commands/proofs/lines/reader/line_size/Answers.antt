use Rattle.std.proofs.Common.{◌≡◌, ◌==◌, false, slice_index, arith, rules}
use Rattle.ill_commands.proofs.LineEnds.{no_end_next}
use Rattle.ill_commands.proofs.lines.reader.line_size.Goals as goal

pub octets-preserved : goal.octets-preserved
octets-preserved c =
    let other : (slice_index c.args.octets.now c.octets.i == 10) ≡ false = search rules in
    no_end_next c.args.octets.now c.octets.i (omega arith) c.octets.invariant other

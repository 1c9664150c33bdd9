use Rattle.std.proofs.Common.{◌∙◌}
use Rattle.ill_dump.proofs.WrittenLines.{puts_more}
use Rattle.ill_dump.proofs.write_dump.WriteDump.put_elements.Goals.{then-len-ge-FLUSH_AT+in_ok-flush, else-len-ge-FLUSH_AT}
use Rattle.ill_dump.proofs.write_dump.WriteDump.put_elements.Goals as goal

pub loop-preserved : goal.loop-preserved
loop-preserved g c = elim c.if-len-ge-FLUSH_AT.branch [
  | then-len-ge-FLUSH_AT+in_ok-flush w ↦ record {
    puts = rw (w.sink-is, w.self-is) (puts_more _ _ _ _ _ _ _ c.loop.invariant.puts w.in_ok-flush.ensures.puts w.in_ok-flush.ensures.none);
    same = rw w.self-is (w.in_ok-flush.ensures.same ∙ c.loop.invariant.same);
    stays = λ t. rw w.sink-is (w.in_ok-flush.ensures.stays (c.loop.invariant.stays t));
  }
  | else-len-ge-FLUSH_AT w ↦ record {
    puts = rw (w.sink-is, w.self-is) c.loop.invariant.puts;
    same = rw w.self-is c.loop.invariant.same;
    stays = λ t. rw w.sink-is (c.loop.invariant.stays t);
  }
]

pub returns-after-len-ge-FLUSH_AT-clause-puts : goal.returns-after-len-ge-FLUSH_AT-clause-puts
returns-after-len-ge-FLUSH_AT-clause-puts g c = elim c.if-len-ge-FLUSH_AT.branch [
  | then-len-ge-FLUSH_AT+in_ok-flush w ↦ rw (w.sink-is, w.self-is) (puts_more _ _ _ _ _ _ _ c.loop.invariant.puts w.in_ok-flush.ensures.puts w.in_ok-flush.ensures.none)
  | else-len-ge-FLUSH_AT w ↦ rw (w.sink-is, w.self-is) c.loop.invariant.puts
]

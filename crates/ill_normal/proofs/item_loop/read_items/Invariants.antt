use Rattle.std.proofs.Common.{◌≡◌, IsTrue}
use Rattle.ill_schema.specs.Profiles.{profile_of}
use Rattle.ill_normal.specs.code.Loop.{HasRead, IsCounted, streams}
use Rattle.ill_normal.proofs.item_loop.read_items.Given as goal

abbrev pub invariant-loop-before : goal.invariant-loop-before
invariant-loop-before g l = record {
  read : HasRead l.reading (profile_of (g.I.WriteItems.reads (g.I.WriteItems.options l.fn.writer))) (g.I.WriteItems.writes (g.I.WriteItems.options l.fn.writer)) (g.I.WriteItems.fails (g.I.WriteItems.options l.fn.writer))
      (g.I.WriteItems.is_good (g.I.WriteItems.options l.fn.writer))
      (streams (g.R.Source.left l.fn.source) (g.R.Source.is_broken l.fn.source) (g.W.Sink.contents l.fn.sink) (g.W.Sink.is_broken l.fn.sink) (g.T.ReportRefusals.reported l.fn.reports))
      (streams (g.R.Source.left l.source) (g.R.Source.is_broken l.source) (g.W.Sink.contents l.sink) (g.W.Sink.is_broken l.sink) (g.T.ReportRefusals.reported l.reports)) l.work.counts;
  reading : l.work.reading ≡ l.reading;
  options : g.I.WriteItems.options l.writer ≡ g.I.WriteItems.options l.fn.writer;
  ready : g.I.WriteItems.is_ready l.writer;
  counted : IsCounted l.work.counts;
  count : l.work.counts.messages ≡ l.before;
  source_stays : IsTrue (g.R.Source.is_broken l.fn.source) → IsTrue (g.R.Source.is_broken l.source);
  sink_stays : IsTrue (g.W.Sink.is_broken l.fn.sink) → IsTrue (g.W.Sink.is_broken l.sink);
}

use Rattle.std.proofs.Common.{false}
use Rattle.ill_normal.proofs.StreamAnswers.{ok_accepts, ok_refuses, ok_too_many, stops_accepts, stops_refuses, stops_too_many}
use Rattle.ill_normal.proofs.NormalStreams.{is_stream_fault, stops_of, streamed}
use Rattle.ill_normal.proofs.StoppedReading.{passes_at, stops_at}
use Rattle.ill_normal.proofs.stream.normalise_stream_as.Goals as goal

pub returns-in-None-clause-streamed : goal.returns-in-None-clause-streamed
returns-in-None-clause-streamed g c = streamed c.args.profile _ _ _ _ _ _ (passes_at c.args.profile _ _ _ _ _ false c.read_items-end.result c.read_items-end.ensures.reads c.in-None.is)

pub returns-in-None-clause-accepts : goal.returns-in-None-clause-accepts
returns-in-None-clause-accepts g c =
    let h = streamed c.args.profile _ _ _ _ _ _ (passes_at c.args.profile _ _ _ _ _ false c.read_items-end.result c.read_items-end.ensures.reads c.in-None.is) in ok_accepts c.args.profile _ _ _ _ _ _ h.1 h.2 h.3

pub returns-in-None-clause-refuses : goal.returns-in-None-clause-refuses
returns-in-None-clause-refuses g c =
    let h = streamed c.args.profile _ _ _ _ _ _ (passes_at c.args.profile _ _ _ _ _ false c.read_items-end.result c.read_items-end.ensures.reads c.in-None.is) in ok_refuses c.args.profile _ _ _ _ _ _ h.1 h.2 h.3

pub returns-in-None-clause-too_many : goal.returns-in-None-clause-too_many
returns-in-None-clause-too_many g c =
    let h = streamed c.args.profile _ _ _ _ _ _ (passes_at c.args.profile _ _ _ _ _ false c.read_items-end.result c.read_items-end.ensures.reads c.in-None.is) in ok_too_many c.args.profile _ _ _ _ _ _ h.1 h.2 h.3

pub failure_of-requires : goal.failure_of-requires
failure_of-requires g c = is_stream_fault c.args.profile _ _ _ _ (stops_at c.args.profile _ _ _ _ _ false c.read_items-end.result c.read_items-end.ensures.reads c.in-Some.fault c.in-Some.is)

pub returns-in-Some-clause-stops : goal.returns-in-Some-clause-stops
returns-in-Some-clause-stops g c =
    stops_of c.args.profile _ _ _ _ c.failure_of.result c.failure_of.ensures (stops_at c.args.profile _ _ _ _ _ false c.read_items-end.result c.read_items-end.ensures.reads c.in-Some.fault c.in-Some.is)

pub returns-in-Some-clause-accepts : goal.returns-in-Some-clause-accepts
returns-in-Some-clause-accepts g c =
    stops_accepts c.args.profile _ _ _ _ _ _ c.failure_of.result (stops_of c.args.profile _ _ _ _ c.failure_of.result c.failure_of.ensures (stops_at c.args.profile _ _ _ _ _ false c.read_items-end.result c.read_items-end.ensures.reads c.in-Some.fault c.in-Some.is))

pub returns-in-Some-clause-refuses : goal.returns-in-Some-clause-refuses
returns-in-Some-clause-refuses g c =
    stops_refuses c.args.profile _ _ _ _ _ _ c.failure_of.result (stops_of c.args.profile _ _ _ _ c.failure_of.result c.failure_of.ensures (stops_at c.args.profile _ _ _ _ _ false c.read_items-end.result c.read_items-end.ensures.reads c.in-Some.fault c.in-Some.is))

pub returns-in-Some-clause-too_many : goal.returns-in-Some-clause-too_many
returns-in-Some-clause-too_many g c =
    stops_too_many c.args.profile _ _ _ _ _ _ c.failure_of.result (stops_of c.args.profile _ _ _ _ c.failure_of.result c.failure_of.ensures (stops_at c.args.profile _ _ _ _ _ false c.read_items-end.result c.read_items-end.ensures.reads c.in-Some.fault c.in-Some.is))

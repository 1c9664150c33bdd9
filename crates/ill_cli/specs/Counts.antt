-- The numbers of a summary, and what is added to them. A number that would be more than 18,446,744,073,709,551,615 stays at that.
use Rattle.std.specs.Prelude.{ℕ, ◌+◌, ◌-◌, min, Option, Some, None}
use Rattle.ill_inputs.specs.declared.run_fault.RunFault.{RunFault}
use Rattle.ill_normal.specs.Messages.{counted}
use Rattle.ill_normal.specs.declared.report.RefusalReport.{RefusalReport}
use Rattle.ill_normal.specs.declared.counts.Counts.{Counts}
use Rattle.ill_cli.specs.declared.build.BuildCounts.{BuildCounts}
use Rattle.ill_json.specs.declared.result.RefusalKind.{RefusalKind}
use Rattle.ill_cli.specs.declared.summary.KindCounts.{KindCounts}
use Rattle.ill_cli.specs.declared.summary.LeftAt.{LeftAt}
use Rattle.ill_cli.specs.declared.summary.Summary.{Summary}

-- a number of messages of one input, or 4,294,967,295 where it would be more
abbrev pub counted_messages : ℕ → ℕ
counted_messages n = min n 4_294_967_295

-- a file more that was opened
abbrev pub with_file : Summary → Summary
with_file s = record s { files = counted (s.files + 1) }

-- a file less that was opened
abbrev pub without_file : Summary → Summary
without_file s = record s { files = s.files - 1 }

-- a file more that could not be opened
abbrev pub with_unopened : Summary → Summary
with_unopened s = record s { unopened = counted (s.unopened + 1) }

-- a file more that was left before its end
abbrev pub with_left : Summary → Summary
with_left s = record s { left = counted (s.left + 1) }

-- messages more, of which none is refused, so many of them in normal form, of so many octets
abbrev pub with_messages : Summary → ℕ → ℕ → ℕ → Summary
with_messages s messages good octets = record s {
  normal = counted (s.normal + good);
  not_normal = counted (s.not_normal + (messages - good));
  octets = counted (s.octets + octets);
}

-- so many refused messages more
abbrev pub with_refused : Summary → ℕ → Summary
with_refused s count = record s { refused = counted (s.refused + count) }

-- lines more, of which messages were built, or which are refused
abbrev pub with_lines : Summary → BuildCounts → Summary
with_lines s counts = record s {
  normal = counted (s.normal + counts.built);
  refused = counted (s.refused + counts.refused);
  octets = counted (s.octets + counts.octets);
}

-- a refusal of a kind more
abbrev pub with_kind : KindCounts → RefusalKind → KindCounts
with_kind k RefusalKind.NoMessage = record k { no_message = counted_messages (k.no_message + 1) }
with_kind k RefusalKind.NotRead = record k { not_read = counted_messages (k.not_read + 1) }
with_kind k RefusalKind.Invalid = record k { invalid = counted_messages (k.invalid + 1) }

-- so many refused messages are only not read, so many are wrong, and at so many places no message begins
abbrev pub with_kinds : Summary → KindCounts → Summary
with_kinds s kinds = record s {
  not_read = counted (s.not_read + kinds.not_read);
  invalid = counted (s.invalid + kinds.invalid);
  no_message = counted (s.no_message + kinds.no_message);
}

-- messages more, of which some are refused
abbrev pub with_counts : Summary → Counts → Summary
with_counts s counts = with_refused (with_messages s (counts.messages - counts.refused) counts.good counts.octets) counts.refused

-- the octets of a refused message, where their number is known
abbrev pub octets_of_report : RefusalReport → ℕ
octets_of_report report = elim report.octets as (λ _. ℕ) [ Some n ↦ n | None ↦ 0 ]

-- a refused message more, and its octets
abbrev pub with_report : Summary → RefusalReport → Summary
with_report s report = record (with_refused s 1) { octets = counted (s.octets + octets_of_report report) }

-- how many messages are refused: at the other places no message begins
abbrev pub refused_messages_of : Summary → ℕ
refused_messages_of s = s.refused - s.no_message

-- how many messages there are
abbrev pub messages_of : Summary → ℕ
messages_of s = counted (s.normal + s.not_normal + refused_messages_of s)

-- where a refused message is
abbrev pub place_of_report : RefusalReport → LeftAt
place_of_report report = record { message = report.message; offset = report.offset }

-- the message at which a fault ended the work on an input whose messages are counted so; a fault of the output has no such place
abbrev pub left_after : RunFault → Counts → Option LeftAt
left_after (RunFault.WriteFault n) counts = None
left_after (RunFault.Refused message refusal) counts = Some (record { message = message; offset = counts.octets })
left_after _ counts = Some (record { message = counted_messages (counts.messages + 1); offset = counts.octets })

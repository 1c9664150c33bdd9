-- What is counted of the messages of an input.
use Rattle.std.specs.Prelude.{ℕ, ◌+◌, Bool}
use Rattle.ill_normal.specs.Messages.{counted, one_if}
use Rattle.ill_normal.specs.declared.counts.Counts.{Counts}

-- no message
abbrev pub no_counts : Counts
no_counts = record { messages = 0; refused = 0; good = 0; octets = 0; written = 0 }

-- one more message, which is accepted, and of which so many octets were written
abbrev pub with_accepted : ℕ → Bool → ℕ → Counts → Counts
with_accepted octets is_good written counts = record {
  messages = counts.messages + 1;
  refused = counts.refused;
  good = counts.good + one_if is_good;
  octets = counted (counts.octets + octets);
  written = counts.written + written;
}

-- one more message, which is refused, and of which so many octets were written
abbrev pub with_refused : ℕ → ℕ → Counts → Counts
with_refused octets written counts = record {
  messages = counts.messages + 1;
  refused = counts.refused + 1;
  good = counts.good;
  octets = counted (counts.octets + octets);
  written = counts.written + written;
}

-- one more message, which is refused, and whose end is unknown
abbrev pub with_last : Counts → Counts
with_last counts = record {
  messages = counts.messages + 1;
  refused = counts.refused + 1;
  good = counts.good;
  octets = counts.octets;
  written = counts.written;
}

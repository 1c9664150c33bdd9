-- A text that is put into a sink, part by part.
use Rattle.std.specs.Prelude.{◌≡◌, ℕ, ◌-◌, ◌^◌, ◌<◌, min, Bool, true, false, List, ◌++◌, length, take, Option, IsTrue}
use Rattle.std.specs.Io.KnownBytes.{Appends}
use Rattle.ill_text.specs.declared.text_sink.TextSink.{TextSink}

-- a count of octets, as far as 64 bits hold it
abbrev pub counted : ℕ → ℕ
counted n = min n (2 ^ 64 - 1)

-- what a sink holds and whether it is broken, and what waits
pub record Sending : Type 0 where
  pub reported : Option (List ℕ)
  pub broken : Bool
  pub out : TextSink

abbrev pub sending : Option (List ℕ) → Bool → TextSink → Sending
sending reported broken out = record { reported = reported; broken = broken; out = out }

-- what isn't in the sink waits; or the sink is broken
abbrev pub IsLeft : TextSink → Bool → List ℕ → Type 0
IsLeft out broken rest = elim out.broken as (λ _. Type 0) [ false ↦ rest ≡ take out.len out.waiting | true ↦ (0 < length rest) × IsTrue broken ]

-- of the octets that were put, the first are in the sink, as many as are counted
pub record Stands (start : Option (List ℕ)) (put : List ℕ) (s : Sending) : Type 0 where
  pub sent : List ℕ
  pub rest : List ℕ
  pub in_sink : Appends start s.reported sent
  pub all : put ≡ sent ++ rest
  pub count : s.out.written ≡ counted (length sent)
  pub left : IsLeft s.out s.broken rest

-- these octets were put
unfoldable pub Adds : List ℕ → Sending → Sending → Type 0
Adds octets old new = (start : Option (List ℕ)) (put : List ℕ) → Stands start put old → Stands start (put ++ octets) new

-- What has been put into a sink, and what waits.
use Rattle.std.specs.Prelude.{◌≡◌, ℕ, ◌+◌, ◌-◌, ◌^◌, ◌<◌, min, List, ◌++◌, length, take, Option, Result, MatchResult}
use Rattle.std.specs.Io.KnownBytes.{Appends}
use Rattle.ber_core.specs.declared.source.Broken.{Broken}
use Rattle.ill_write.specs.declared.buffered_sink.BufferedSink.{BufferedSink}

-- a count of octets, as far as 32 bits hold it
abbrev pub counted : ℕ → ℕ
counted n = min n (2 ^ 32 - 1)

-- octets of which the sink took the first, and not all
pub record TakesPart (octets : List ℕ) (before : Option (List ℕ)) (old : ℕ) (after : Option (List ℕ)) (new : ℕ) : Type 0 where
  pub sent : List ℕ
  pub rest : List ℕ
  pub in_sink : Appends before after sent
  pub begins : octets ≡ sent ++ rest
  pub not_all : length sent < length octets
  pub count : new ≡ counted (old + length sent)

-- all the octets are in the sink, or where it broke the first of them, and they are counted
abbrev pub Sends : Result (Unit {0}) Broken → List ℕ → Option (List ℕ) → ℕ → Option (List ℕ) → ℕ → Type 0
Sends result octets before old after new =
    MatchResult result
    (λ _. Appends before after octets × (new ≡ counted (old + length octets)))
    (λ _. TakesPart octets before old after new)

-- of the octets given, all are in the sink but those that wait
pub record Stands (start : Option (List ℕ)) (given : List ℕ) (reported : Option (List ℕ)) (p : BufferedSink) : Type 0 where
  pub sent : List ℕ
  pub in_sink : Appends start reported sent
  pub all : given ≡ sent ++ take p.len p.waiting
  pub count : p.written ≡ counted (length sent)

-- of the octets given, the first are in the sink, as many as are counted, and not all
pub record Stopped (start : Option (List ℕ)) (given : List ℕ) (reported : Option (List ℕ)) (p : BufferedSink) : Type 0 where
  pub sent : List ℕ
  pub rest : List ℕ
  pub in_sink : Appends start reported sent
  pub begins : given ≡ sent ++ rest
  pub not_all : length sent < length given
  pub count : p.written ≡ counted (length sent)

-- the octets are given, or where the sink broke the first of all are in it
unfoldable pub Puts : Result (Unit {0}) Broken → List ℕ → Option (List ℕ) → BufferedSink → Option (List ℕ) → BufferedSink → Type 0
Puts result octets before old after new =
    (start : Option (List ℕ)) (given : List ℕ) → Stands start given before old
    → MatchResult result (λ _. Stands start (given ++ octets) after new) (λ _. Stopped start (given ++ octets) after new)

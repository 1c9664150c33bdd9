-- What contracts see of a message.
use Rattle.std.specs.Prelude.{ℕ}
use Rattle.ill_schema.specs.declared.message.Message.{Message}
use Rattle.ill_schema.specs.{Apdu.Apdu, Value.apdu_with}

abbrev pub apdu_of : Message → Apdu
apdu_of m = apdu_with m.apdu m.body

-- how many octets it was read from, or those of its normal form
abbrev pub octets_of : Message → ℕ
octets_of m = m.octets

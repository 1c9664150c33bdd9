-- The octets that a hexadecimal text stands for.
use Rattle.std.specs.Prelude.{ℕ, ◌≤◌, Bool, ◌||◌, not, nat_eq, nat_lt, List, length, filter, Option, Result, Ok, Err, if◌then◌else◌}
use Rattle.std.specs.Io.KnownBytes.{Consumes, IsAtEnd}
use Rattle.hex.specs.Hex.{decode_of}
use Rattle.hex.specs.declared.error.FromHexError.{FromHexError}
use Rattle.ill_inputs.specs.declared.run_fault.RunFault.{RunFault}

-- a space, a tab or a part of a line end
abbrev pub is_blank : ℕ → Bool
is_blank octet = nat_eq octet 0x20 || (nat_eq octet 0x09 || (nat_eq octet 0x0D || nat_eq octet 0x0A))

abbrev pub without_blanks : List ℕ → List ℕ
without_blanks text = filter (λ octet. not (is_blank octet)) text

-- the first character that is not a digit is at this place, or the digits are odd in number; `decode_of` gives no other error
abbrev pub hex_fault : FromHexError → RunFault
hex_fault (FromHexError.InvalidHexCharacter octet place) = RunFault.BadHex place
hex_fault _ = RunFault.OddHex

abbrev pub with_fault : {T : Type 0} → Result T FromHexError → Result T RunFault
with_fault (Ok octets) = Ok octets
with_fault (Err error) = Err (hex_fault error)

-- what a text of at most 4,194,304 octets stands for
abbrev pub hex_octets : List ℕ → Result (List ℕ) RunFault
hex_octets text = if nat_lt 4_194_304 (length text) then Err RunFault.HexTooLong else with_fault (decode_of (without_blanks text))

-- the text was taken up to its end, or up to the first octet that makes it too long
abbrev pub TakesText : Option (List ℕ) → Option (List ℕ) → List ℕ → Type 0
TakesText left left' text = Consumes left left' text × (length text ≤ 4_194_305) × (length text ≤ 4_194_304 → IsAtEnd left')

-- The words of a line that is not a message.
use Rattle.std.specs.Prelude.{ℕ, List, [], ◌++◌, codes, decimal, Option, Some, None}
use Rattle.ill_schema.specs.Names.{cause_part_name_of, dotted_name}
use Rattle.ill_schema.specs.Causes.{cause_name}
use Rattle.ill_schema.specs.declared.refusal.Cause.{Cause}
use Rattle.ill_refusals.specs.Fault.{Fault}
use Rattle.ill_inputs.specs.declared.run_fault.RunFault.{RunFault}

-- the names of a part
abbrev pub part_words : Option (List ℕ × List ℕ) → List ℕ
part_words None = []
part_words (Some names) = codes " " ++ dotted_name names

-- a cause, and the part that it is about
abbrev pub cause_words : Cause → List ℕ
cause_words cause = cause_name cause ++ part_words (cause_part_name_of cause)

-- why octets are not one message
abbrev pub refusal_words : Fault → List ℕ
refusal_words f = codes "refused at " ++ decimal f.at ++ codes ": " ++ cause_words f.cause

-- why a text stands for no octets
abbrev pub hex_words : RunFault → List ℕ
hex_words RunFault.OddHex = codes "hex: odd number of digits"
hex_words (RunFault.BadHex place) = codes "hex: bad digit at " ++ decimal place
hex_words RunFault.HexTooLong = codes "hex: too long"
hex_words _ = []

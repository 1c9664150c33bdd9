-- A refusal, as it is reported to C.
use Rattle.std.specs.Prelude.{ℕ, ◌-◌, List, [], ◌++◌, length, replicate, Option, Some, None}
use Rattle.ill_schema.specs.Names.{cause_part_name_of, dotted_name}
use Rattle.ill_schema.specs.Causes.{cause_number}
use Rattle.ill_refusals.specs.Fault.{Fault}
use Rattle.ill_c.specs.declared.refusal.IllcanonRefusal.{IllcanonRefusal}

-- the names of a part, where there are some
abbrev pub part_text : Option (List ℕ × List ℕ) → List ℕ
part_text None = []
part_text (Some names) = dotted_name names

-- a text in 64 octets, the rest of which are zeros
abbrev pub c_text : List ℕ → List ℕ
c_text text = text ++ replicate (64 - length text) 0

-- a fault, as it is reported
abbrev pub reported : Fault → IllcanonRefusal
reported f = record { at = f.at; cause = cause_number f.cause; part = c_text (part_text (cause_part_name_of f.cause)) }

use Rattle.std.proofs.Common.{◌≡◌, drop, map}
use Rattle.ill_tables.specs.Numbers.{name_in}
use Rattle.ill_tables.specs.code.Numbers.{named}
use Rattle.ill_tables.proofs.number.number_name.Given as goal

-- the name is that among the numbers that are left
abbrev pub invariant-loop-own : goal.invariant-loop-own
invariant-loop-own l = name_in l.number (map named (drop l.own-index l.own-items)) ≡ name_in l.number (map named l.own-items)

-- A number of an OBJECT IDENTIFIER while its octets are read.
use Rattle.std.specs.Prelude.{ℕ, ◌+◌, ◌-◌, ◌*◌, nat_lt, if◌then◌else◌}
use Rattle.ill_grammar.specs.declared.outline.Mark.{Mark}
use Rattle.ill_grammar.specs.declared.outline.Mark.TheVariants as mark

-- the number with the seven bits of a mark's octet
abbrev pub number_with : ℕ → Mark → ℕ
number_with n (mark.Octet a) = if nat_lt a 0x80 then 128 * n + a else 128 * n + (a - 0x80)
number_with n _ = n

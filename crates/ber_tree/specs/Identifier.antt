-- Identifier octets (X.690, 8.1.2).
use Rattle.std.specs.Prelude.{◌≡◌, ℕ, ◌+◌, ◌/◌, ◌%◌, ◌≤◌, Bool, true, false, List, [], ◌∷◌, nat_lt, if◌then◌else◌}
use Rattle.ber_tree.specs.declared.class.Class.{Class}
use Rattle.ber_tree.specs.declared.class.Class.TheVariants.{Universal, Application, Context, Private}

-- a tag is a class and a number; the form, primitive or constructed, is not part of it (8.1.2.1)
pub record Tag : Type 0 where
  pub class : Class
  pub number : ℕ

-- bits 8 and 7 (8.1.2.2, table 1)
abbrev pub class_bits : Class → ℕ
class_bits Universal = 0
class_bits Application = 64
class_bits Context = 128
class_bits Private = 192

-- bit 6 (8.1.2.5)
abbrev pub form_bit : Bool → ℕ
form_bit false = 0
form_bit true = 32

-- a number in the fewest base-128 octets, here at most four, with bit 8 set on all but the last (8.1.2.4.2)
abbrev pub base_128 : ℕ → List ℕ
base_128 n =
    if nat_lt n 128 then n ∷ []
    else if nat_lt n 16_384 then (128 + n / 128) ∷ n % 128 ∷ []
    else if nat_lt n 2_097_152 then (128 + n / 16_384) ∷ (128 + n / 128 % 128) ∷ n % 128 ∷ []
    else (128 + n / 2_097_152) ∷ (128 + n / 16_384 % 128) ∷ (128 + n / 128 % 128) ∷ n % 128 ∷ []

-- the identifier octets: one octet for the numbers up to 30 (8.1.2.2), else ones in bits 5 to 1, and then the number (8.1.2.4)
abbrev pub identifier : Tag → Bool → List ℕ
identifier tag constructed =
    if nat_lt tag.number 31 then (class_bits tag.class + form_bit constructed + tag.number) ∷ []
    else (class_bits tag.class + form_bit constructed + 31) ∷ base_128 tag.number

-- a tag and a form that have an identifier here: a number of at most four octets, and not universal 0 primitive, which begins an end mark (8.1.5)
pub record HasIdentifier (tag : Tag) (constructed : Bool) : Type 0 where
  pub number : tag.number ≤ 268_435_455
  pub not_end : tag.class ≡ Universal → tag.number ≡ 0 → constructed ≡ true

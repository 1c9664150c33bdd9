-- What is said of a message that was checked.
use Rattle.std.specs.Prelude.{◌≡◌, ◌↔◌, ℕ, List, length, IsTrue}
use Rattle.ber_leaf.specs.Profile.{Profile, profile_two}
use Rattle.ill_schema.specs.Apdu.{Apdu, SpellsApdu, normal_form_in}
use Rattle.ill_normal.specs.declared.check.Checked.{Checked}

-- the octets spell an APDU, of this number, and are its normal form or not
abbrev pub DescribesIn : Profile → Checked → List ℕ → Type 0
DescribesIn p x octets = (a : Apdu) × SpellsApdu p a octets × (x.apdu ≡ a.number) × (x.octets ≡ length octets)
    × (x.normal ≡ length (normal_form_in p a)) × (IsTrue x.is_normal ↔ (octets ≡ normal_form_in p a))

abbrev pub Describes : Checked → List ℕ → Type 0
Describes x octets = DescribesIn profile_two x octets

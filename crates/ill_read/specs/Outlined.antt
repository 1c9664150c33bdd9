-- What is said of an outline that was read.
use Rattle.std.specs.Prelude.{◌≡◌, ℕ, List, length}
use Rattle.ber_leaf.specs.Profile.{Profile}
use Rattle.ill_schema.specs.Apdu.{Apdu, SpellsApdu, normal_form_in}
use Rattle.ill_grammar.specs.Outline.{IsOutlineOf}
use Rattle.ill_read.specs.declared.outlined.OutlinedMessage.{OutlinedMessage}

-- the octets spell an APDU in the profile, and this is its outline, how many they are, and its normal form
abbrev pub IsOutlinedIn : Profile → OutlinedMessage → List ℕ → Type 0
IsOutlinedIn p o b = (a : Apdu) × SpellsApdu p a b × IsOutlineOf o.outline a × (o.input_len ≡ length b) × (o.normal.items ≡ normal_form_in p a)

-- What is made of a message and put into a buffer.
use Rattle.std.proofs.Common.{◌≡◌, ℕ, List}
use Rattle.ber_leaf.specs.Profile.{Profile}
use Rattle.ill_schema.specs.Apdu.{Apdu, SpellsApdu}
use Rattle.ill_c.specs.Calls.{Puts, WritesIn}
use Rattle.ill_c.specs.Memory.{Change, Stays}
use Rattle.ill_c.specs.declared.refusal.IllcanonRefusal.{IllcanonRefusal}
use Rattle.ill_c.specs.declared.status.Status.{Status}

-- what was put is made of the message
pub made : (p : Profile) (make : Apdu → List ℕ) (s octets : List ℕ) (a : Apdu) (buffer : Change (List ℕ)) (size : Change ℕ) (refusal : Change IllcanonRefusal) (status : Status)
    → SpellsApdu p a s → octets ≡ make a → Stays refusal → Puts octets buffer size status → WritesIn p make s buffer size refusal status
made p make s octets a buffer size refusal Status.Done spells e stays put = ((octets, (a, spells, e), put), stays)
made p make s octets a buffer size refusal Status.NoRoom spells e stays put = ((octets, (a, spells, e), put), stays)
made p make s octets a buffer size refusal _ spells e stays put = absurd put

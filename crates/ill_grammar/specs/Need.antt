-- How many octets at least still belong to a message.
use Rattle.ill_schema.specs.Profiles.{profile_of}
use Rattle.ill_tables.specs.declared.profile.Profile.{Profile as Named}
use Rattle.ill_tables.specs.declared.profile.Profile.TheVariants.{Two}
use Rattle.std.specs.Prelude.{◌≡◌, ℕ, ◌+◌, ◌-◌, Bool, true, false, ◌&&◌, nat_eq, List, [], ◌∷◌, ◌++◌, length, Option, Some, None}
use Rattle.ill_schema.specs.declared.refusal.Cause.{Cause}
use Rattle.ill_refusals.specs.Fault.{fault, is_indefinite, fault_at}
use Rattle.ber_core.specs.HeaderRead.{Lacks}
use Rattle.ber_core.specs.declared.header.Len.TheVariants.{Definite}
use Rattle.ber_core.specs.declared.header_read.HeaderRead.{HeaderRead}
use Rattle.ber_core.specs.declared.header_read.HeaderRead.TheVariants.{PartIdentifier, Identified}
use Rattle.ber_core.specs.declared.header_read.LengthRead.TheVariants.{PartLength, Whole}
use Rattle.ill_refusals.specs.Place.{Open, IsPlace}
use Rattle.ber_core.specs.Reading.{IdentifierRead, identified, part_identifier, no_identifier, read_identifier, LengthRead, definite, indefinite, part_length, no_length, read_length}

-- the end of the outermost element of definite length
abbrev pub outermost : List Open → Option ℕ
outermost [] = None
outermost (o ∷ path) = elim (outermost path) as (λ _. Option ℕ) [ Some e ↦ Some e | None ↦ o.end ]

abbrev pub begins_zero : List ℕ → Bool
begins_zero [] = false
begins_zero (octet ∷ rest) = nat_eq octet 0

-- whether the octets begin with an end mark's first
abbrev pub in_mark : List Open → List ℕ → Bool
in_mark place octets = is_indefinite place && begins_zero octets

-- the rest of a content, or the least that makes a header
abbrev pub NeedsOfLength : LengthRead → List ℕ → ℕ → Type 0
NeedsOfLength (definite size content) octets n = size ≡ length content + n
NeedsOfLength part_length octets n = Lacks octets n
NeedsOfLength (indefinite rest) octets n = ⊥
NeedsOfLength no_length octets n = ⊥

-- this many octets of an element, and one where its identifier isn't whole
abbrev pub NeedsOfElement : IdentifierRead → List ℕ → ℕ → Type 0
NeedsOfElement (identified tag constructed rest) octets n = NeedsOfLength (read_length constructed rest) octets n
NeedsOfElement part_identifier octets n = n ≡ 1
NeedsOfElement no_identifier octets n = ⊥

-- the end mark's second octet
abbrev pub NeedsAfterMark : Bool → List ℕ → ℕ → Type 0
NeedsAfterMark true octets n = n ≡ 1
NeedsAfterMark false octets n = NeedsOfElement (read_identifier octets) octets n

-- the octets up to an end
abbrev pub NeedsBefore : Option ℕ → List Open → ℕ → List ℕ → ℕ → Type 0
NeedsBefore (Some e) place at octets n = e ≡ at + length octets + n
NeedsBefore None place at octets n = NeedsAfterMark (in_mark place octets) octets n

-- after octets that don't reach the next place: as many as lie before the end of the outermost definite element, else what the end mark or the element there still needs
abbrev pub IsNeed : List Open → ℕ → List ℕ → ℕ → Type 0
IsNeed place at octets n = NeedsBefore (outermost place) place at octets n

-- what these octets need: some of them lead to a place, the rest of them end there too early, and this many are needed
pub record NeedsAfterIn (p : Named) (fed : List ℕ) (n : ℕ) : Type 0 where
  pub place : List Open
  pub before : List ℕ
  pub rest : List ℕ
  pub joined : fed ≡ before ++ rest
  pub is_place : IsPlace (profile_of p) before place
  pub ends : fault_at (profile_of p) place (length before) rest ≡ Some (fault Cause.Truncated (length fed))
  pub needed : IsNeed place (length before) rest n

-- the same in profile 2
abbrev pub NeedsAfter : List ℕ → ℕ → Type 0
NeedsAfter fed n = NeedsAfterIn Two fed n

-- how many octets at least still belong to an element, by the number of octets in which its header was read
abbrev pub need_read : HeaderRead → ℕ → ℕ
need_read PartIdentifier count = 1
need_read (Identified id (PartLength due)) count = due
need_read (Identified id (Whole (Definite size) header)) count = size - (count - header)
need_read _ count = 0

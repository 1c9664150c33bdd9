-- An input that isn't given up at a message that is refused: what it is, what is written of it, and what is reported.
use Rattle.std.specs.Prelude.{◌≡◌, ℕ, ◌+◌, Bool, List, [], ◌∷◌, ◌++◌, length, take, Option, Some, None, MatchOption}
use Rattle.std.specs.Io.KnownBytes.{IsAtEnd}
use Rattle.ber_leaf.specs.Profile.{Profile}
use Rattle.ber_framing.specs.Framed.{IsFrame}
use Rattle.ill_schema.specs.declared.refusal.Cause.{Cause}
use Rattle.ill_schema.specs.declared.refusal.Refusal.{Refusal}
use Rattle.ill_schema.specs.Apdu.{SpellsApdu}
use Rattle.ill_refusals.specs.Fault.{fault_of}
use Rattle.ill_refusals.specs.Outcome.{OnlyRefuses}
use Rattle.ill_normal.specs.Messages.{Spelling, after, counted, one_if}
use Rattle.ill_normal.specs.declared.messages.MessagePlace.{MessagePlace}
use Rattle.ill_normal.specs.declared.report.RefusalReport.{RefusalReport}
use Rattle.ill_schema.specs.Profiles.{profile_of}
use Rattle.ill_tables.specs.declared.profile.Profile.{Profile as Named}

-- one message of an input: a spelling, or octets that are refused
pub data Item : Type 0 where
  good : Spelling → Item
  bad : List ℕ → Refusal → Item

-- the refusal says the one fault of the octets; of more than a message may have, that of the first 1,048,576
abbrev pub IsRefusedFor : Profile → List ℕ → Refusal → Type 0
IsRefusedFor q octets refusal = OnlyRefuses q (take 1_048_576 octets) (fault_of refusal)

-- the refusal says that octets are missing only where the input ends, of which this is left
abbrev pub IsCutAtEnd : Refusal → Option (List ℕ) → Type 0
IsCutAtEnd refusal left = refusal.cause ≡ Cause.Truncated → IsAtEnd left

-- s is these messages, one after another, and then the rest; those that are refused are framed elements
abbrev pub AreItems : Profile → List ℕ → List Item → List ℕ → Type 0
AreItems q s [] rest = s ≡ rest
AreItems q s (good m ∷ items) rest = (t : List ℕ) × (s ≡ m.octets ++ t) × SpellsApdu q m.apdu m.octets × AreItems q t items rest
AreItems q s (bad octets refusal ∷ items) rest = (t : List ℕ) × (s ≡ octets ++ t) × IsFrame octets × IsRefusedFor q octets refusal × AreItems q t items rest

abbrev pub item_octets : Item → List ℕ
item_octets (good m) = m.octets
item_octets (bad octets refusal) = octets

-- the position after messages
abbrev pub position_past : MessagePlace → List Item → MessagePlace
position_past p [] = p
position_past p (x ∷ items) = position_past (after p (length (item_octets x))) items

-- of the message at a position: why it is refused, and how many octets it has, where its end is known
abbrev pub report : MessagePlace → Refusal → Option ℕ → RefusalReport
report p refusal octets = record { message = p.number; offset = p.offset; refusal = refusal; octets = octets }

-- a report comes with the first 1,048,576 octets of its message: in some profile the message is refused as the report says, and where its end
-- is known, the report counts its octets
pub record ComesWith (r : RefusalReport) (octets : List ℕ) : Type 0 where
  pub message : List ℕ
  pub begins : octets ≡ take 1_048_576 message
  pub profile : Named
  pub refused : IsRefusedFor (profile_of profile) message r.refusal
  pub counts : MatchOption r.octets (Unit {0}) (λ n. n ≡ counted (length message))

-- what is reported of messages from this position on: each that is refused
abbrev pub reports_from : MessagePlace → List Item → List RefusalReport
reports_from p [] = []
reports_from p (good m ∷ items) = reports_from (after p (length m.octets)) items
reports_from p (bad octets refusal ∷ items) = report p refusal (Some (counted (length octets))) ∷ reports_from (after p (length octets)) items

-- how many messages that aren't refused are as they should be
abbrev pub good_in : (Spelling → Bool) → List Item → ℕ
good_in is_good [] = 0
good_in is_good (good m ∷ items) = one_if (is_good m) + good_in is_good items
good_in is_good (bad octets refusal ∷ items) = good_in is_good items

-- the messages that aren't refused
abbrev pub good_ones : List Item → List Spelling
good_ones [] = []
good_ones (good m ∷ items) = m ∷ good_ones items
good_ones (bad octets refusal ∷ items) = good_ones items

-- known reports grow by these
abbrev pub Adds : Option (List RefusalReport) → Option (List RefusalReport) → List RefusalReport → Type 0
Adds None new more = Unit {0}
Adds (Some old) None more = ⊥
Adds (Some old) (Some new) more = new ≡ old ++ more

-- no front of the octets is a framed element, so no message ends in them
abbrev pub HasNoMore : List ℕ → Type 0
HasNoMore s = (x y : List ℕ) → IsFrame x → s ≡ x ++ y → ⊥

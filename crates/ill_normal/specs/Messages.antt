-- The messages of an input, one after another, and what is written of them.
use Rattle.std.specs.Prelude.{◌≡◌, ℕ, ◌+◌, min, Bool, true, false, List, [], ◌∷◌, ◌++◌, length, Option}
use Rattle.std.specs.Str.{bytes_eq}
use Rattle.std.specs.Io.KnownBytes.{Consumes, Keeps, Appends}
use Rattle.ber_leaf.specs.Profile.{Profile, profile_two}
use Rattle.ill_schema.specs.Apdu.{Apdu, SpellsApdu, normal_form_in}
use Rattle.ill_read.specs.Answers.{TakesNoMessageIn}
use Rattle.ill_normal.specs.declared.messages.MessagePlace.{MessagePlace}

-- an APDU, and octets
pub record Spelling : Type 0 where
  pub apdu : Apdu
  pub octets : List ℕ

abbrev pub spelling : Apdu → List ℕ → Spelling
spelling a octets = record { apdu = a; octets = octets }

-- s is octets that spell the APDUs, one after another, and then the rest
abbrev pub AreSpelledIn : Profile → List ℕ → List Spelling → List ℕ → Type 0
AreSpelledIn q s [] rest = s ≡ rest
AreSpelledIn q s (m ∷ ms) rest = (t : List ℕ) × (s ≡ m.octets ++ t) × SpellsApdu q m.apdu m.octets × AreSpelledIn q t ms rest

abbrev pub AreSpelled : List ℕ → List Spelling → List ℕ → Type 0
AreSpelled s ms rest = AreSpelledIn profile_two s ms rest

abbrev pub position : ℕ → ℕ → MessagePlace
position number offset = record { number = number; offset = offset }

-- a number of octets, or 18,446,744,073,709,551,615 where they are more
abbrev pub counted : ℕ → ℕ
counted n = min n 18_446_744_073_709_551_615

-- where the first message of an input is
abbrev pub first : MessagePlace
first = position 1 0

-- the position after a message of n octets
abbrev pub after : MessagePlace → ℕ → MessagePlace
after p n = position (p.number + 1) (counted (p.offset + n))

-- the position after messages
abbrev pub position_after : MessagePlace → List Spelling → MessagePlace
position_after p [] = p
position_after p (m ∷ ms) = position_after (after p (length m.octets)) ms

-- what is written of messages from this position on, where `text p m` is written of the message at p
abbrev pub output_from : (MessagePlace → Spelling → List ℕ) → MessagePlace → List Spelling → List ℕ
output_from text p [] = []
output_from text p (m ∷ ms) = text p m ++ output_from text (after p (length m.octets)) ms

abbrev pub one_if : Bool → ℕ
one_if true = 1
one_if false = 0

-- how many messages are as they should be
abbrev pub good_of : (Spelling → Bool) → List Spelling → ℕ
good_of is_good [] = 0
good_of is_good (m ∷ ms) = one_if (is_good m) + good_of is_good ms

-- the octets that were taken are these messages, and their output was written
pub record WritesMessagesIn (q : Profile) (text : MessagePlace → Spelling → List ℕ) (left left' held held' : Option (List ℕ)) (messages : List Spelling) : Type 0 where
  pub octets : List ℕ
  pub spelled : AreSpelledIn q octets messages []
  pub taken : Consumes left left' octets
  pub written : Appends held held' (output_from text first messages)

-- no message was taken after this many; after 1,000,000 nothing was
abbrev pub TakesNoFurtherIn : Profile → ℕ → Option (List ℕ) → Option (List ℕ) → Type 0
TakesNoFurtherIn q whole left left' = TakesNoMessageIn q left left' × (whole ≡ 1_000_000 → Keeps left left')

-- the octets are the normal form in the profile
abbrev pub is_normal : Profile → Spelling → Bool
is_normal q m = bytes_eq m.octets (normal_form_in q m.apdu)

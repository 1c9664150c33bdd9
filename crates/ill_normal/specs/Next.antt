-- The next message of an input: it is read, or refused, or the source breaks in it.
use Rattle.std.specs.Prelude.{◌≡◌, ◌⊎◌, ℕ, ◌<◌, ◌≤◌, List, [], ◌++◌, length, take, Option, MatchOption}
use Rattle.std.specs.Io.KnownBytes.{Consumes, IsAtEnd}
use Rattle.ber_leaf.specs.Profile.{Profile}
use Rattle.ber_framing.specs.Framed.{IsFrame, IsPartOfFrame, IsUnframed}
use Rattle.ill_read.specs.Answers.{IsUnfinishedIn}
use Rattle.ill_schema.specs.Profiles.{profile_of}
use Rattle.ill_schema.specs.declared.refusal.Refusal.{Refusal}
use Rattle.ill_tables.specs.declared.profile.Profile.{Profile as Named}
use Rattle.ill_normal.specs.Messages.{counted}
use Rattle.ill_normal.specs.Items.{IsRefusedFor, IsCutAtEnd}
use Rattle.ill_normal.specs.ReadMessages.{IsMessage}
use Rattle.ill_normal.specs.declared.message_reader.ReadMessage.{ReadMessage}
use Rattle.ill_normal.specs.declared.message_reader.Wants.{Wants}
use Rattle.ill_normal.specs.declared.next_message.NextMessage.{NextMessage}
use Rattle.ill_normal.specs.declared.next_message.NextMessage.TheVariants.{AtEnd, Read, Refused}

-- a prefix of these octets begins no element, and each shorter prefix is a part of one
pub record IsEndless (octets : List ℕ) : Type 0 where
  pub front : List ℕ
  pub more : List ℕ
  pub joined : octets ≡ front ++ more
  pub unframed : IsUnframed front
  pub within : (n : ℕ) → n < length front → IsPartOfFrame (take n front)

-- where an element ends that begins with these octets can't be known; or they are part of one, and the input ends in them, or they are too many
-- to count
abbrev pub HasNoEnd : List ℕ → Option (List ℕ) → Type 0
HasNoEnd octets left' = IsEndless octets ⊎ (IsPartOfFrame octets × (IsAtEnd left' ⊎ (18_446_744_073_709_551_615 ≤ length octets)))

-- a part of an element was taken, and no message of any profile is at its front
pub record TakesPart (left left' : Option (List ℕ)) : Type 0 where
  pub octets : List ℕ
  pub taken : Consumes left left' octets
  pub unfinished : (q : Named) → IsUnfinishedIn (profile_of q) octets

-- the octets of the next message were taken, as far as its end can be known, and it is refused; its first 1,048,576 octets were recorded
abbrev pub IsNextRefused : Profile → Option (List ℕ) → Option (List ℕ) → List ℕ → Refusal → Option ℕ → Type 0
IsNextRefused q left left' recorded refusal end =
    (b : List ℕ) × Consumes left left' b × IsRefusedFor q b refusal × MatchOption end (HasNoEnd b left') (λ n. IsFrame b × (n ≡ counted (length b))) × (recorded ≡ take 1_048_576 b) × IsCutAtEnd refusal left'

-- the next message was read, or refused; or nothing was left
abbrev pub IsNext : Profile → Wants → Option (List ℕ) → Option (List ℕ) → List ℕ → ReadMessage → NextMessage → Type 0
IsNext q wants left left' recorded message Read = (b : List ℕ) × Consumes left left' b × IsMessage q wants message b
IsNext q wants left left' recorded message (Refused refusal end) = IsNextRefused q left left' recorded refusal end
IsNext q wants left left' recorded message AtEnd = Consumes left left' [] × IsAtEnd left'

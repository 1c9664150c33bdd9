-- A reader that was fed from a source.
use Rattle.ill_schema.specs.Profiles.{profile_of}
use Rattle.ill_tables.specs.declared.profile.Profile.{Profile as Named}
use Rattle.std.specs.Prelude.{◌≡◌, ◌≢◌, ◌⊎◌, ℕ, ◌≤◌, List, [], ◌++◌, length, Option}
use Rattle.std.specs.Io.KnownBytes.{Appends, Consumes, IsAtEnd}
use Rattle.ill_schema.specs.Apdu.{Apdu, Accepts}
use Rattle.ill_grammar.specs.Standing.{Level}
use Rattle.ill_read.specs.Answers.{IsUnfinishedIn}
use Rattle.ill_read.specs.code.ReaderCode.{IsFed}
use Rattle.ill_read.specs.declared.reader.Reader.{Reader}
use Rattle.ill_read.specs.declared.reader.State.TheVariants as state

-- no message ends before the octets do
abbrev pub NoneEndsWithin : Named → List ℕ → Type 0
NoneEndsWithin p b = (a : Apdu) (n : ℕ) → Accepts (profile_of p) b a n → length b ≤ n

-- octets were taken after those, and no message ends there
abbrev pub TakesUnfinished : Named → Option (List ℕ) → Option (List ℕ) → List ℕ → Type 0
TakesUnfinished p left left' b = (octets : List ℕ) × Consumes left left' octets × IsUnfinishedIn (profile_of p) (b ++ octets)

-- the reader was fed these octets, within which no message ends
pub record HasLooked {D : Type 0} (p : Named) (holds : D → List Level → List ℕ → Type 0) (has : Named → D → Apdu → ℕ → Type 0) (d : Reader D) (octets : List ℕ) : Type 0 where
  pub fed : IsFed p holds has d octets
  pub exact : NoneEndsWithin p octets

-- it was fed a piece more, which is empty only where nothing is open or nothing is left
pub record HasPulled {D : Type 0} (p : Named) (holds : D → List Level → List ℕ → Type 0) (has : Named → D → Apdu → ℕ → Type 0) (after : Option (List ℕ)) (d : Reader D) (b piece : List ℕ) : Type 0 where
  pub fed : IsFed p holds has d (b ++ piece)
  pub exact : NoneEndsWithin p (b ++ piece)
  pub ended : piece ≡ [] → (d.state ≢ state.Open) ⊎ IsAtEnd after

-- n octets were taken, recorded, and fed to the reader
pub record HasTaken {D : Type 0} (holds : D → List Level → List ℕ → Type 0) (has : Named → D → Apdu → ℕ → Type 0) (left after held held' : Option (List ℕ)) (d d' : Reader D) (n : ℕ) : Type 0 where
  pub piece : List ℕ
  pub size : length piece ≡ n
  pub taken : Consumes left after piece
  pub recorded : Appends held held' piece
  pub fed : (p : Named) (b : List ℕ) → IsFed p holds has d b → NoneEndsWithin p b → HasPulled p holds has after d' b piece

-- it was fed just these octets, which the source gave up, until nothing was open or the source was at its end
pub record HasFilled {D : Type 0} (p : Named) (holds : D → List Level → List ℕ → Type 0) (has : Named → D → Apdu → ℕ → Type 0) (left after : Option (List ℕ)) (d : Reader D) : Type 0 where
  pub octets : List ℕ
  pub taken : Consumes left after octets
  pub fed : IsFed p holds has d octets
  pub exact : NoneEndsWithin p octets
  pub ended : (d.state ≢ state.Open) ⊎ IsAtEnd after

-- and these octets were recorded after those that were recorded before
pub record HasKept {D : Type 0} (p : Named) (holds : D → List Level → List ℕ → Type 0) (has : Named → D → Apdu → ℕ → Type 0) (left after : Option (List ℕ)) (d : Reader D) (old new : Option (List ℕ)) : Type 0 where
  pub filled : HasFilled p holds has left after d
  pub recorded : Appends old new filled.octets

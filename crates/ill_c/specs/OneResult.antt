-- What each call leaves in a profile, by what its octets are: one result, unless memory runs out (5).
use Rattle.std.specs.Prelude.{◌≡◌, ◌≢◌, ℕ, ◌≤◌, ◌<◌, List, ◌++◌, length}
use Rattle.ber_framing.specs.Framed.{IsFrame, IsPartOfFrame}
use Rattle.ber_leaf.specs.Profile.{Profile}
use Rattle.ill_schema.specs.Apdu.{Apdu, SpellsApdu, Accepts, normal_form_in}
use Rattle.ill_build.specs.Causes.{cause_name as build_cause_name, cause_number as build_cause_number}
use Rattle.ill_build.specs.Line.{IsFaultyLine, SaysApdu, line_limit, pointer_of}
use Rattle.ill_build.specs.Path.{Step}
use Rattle.ill_build.specs.declared.cause.BuildCause.{BuildCause}
use Rattle.ill_schema.specs.Causes.{cause_name, cause_number}
use Rattle.ill_schema.specs.Fits.{FitsApdu}
use Rattle.ill_schema.specs.declared.refusal.Cause.{Cause}
use Rattle.ill_refusals.specs.Fault.{Fault}
use Rattle.ill_refusals.specs.Outcome.{OnlyRefuses}
use Rattle.ill_read.specs.Answers.{IsPartIn, RefusesWholeIn}
use Rattle.ill_c.specs.declared.refusal.IllcanonRefusal.{IllcanonRefusal}
use Rattle.ill_c.specs.Calls.{IsNeverFramed}
use Rattle.ill_c.specs.Memory.{Change, Stays, Fills, IsTooShort, IsFlag}
use Rattle.ill_c.specs.Refusals.{reported}

-- a refusal was reported, by this status
abbrev pub IsRefusalReported : ℕ → Fault → Change IllcanonRefusal → ℕ → Type 0
IsRefusalReported status f refusal n = n ≢ 5 → (n ≡ status) × (refusal.after ≡ reported f)

-- of a call that writes what is made of a message
pub record WritesOnce (p : Profile) (make : Apdu → List ℕ) (s : List ℕ) (buffer : Change (List ℕ)) (size : Change ℕ) (refusal : Change IllcanonRefusal) (n : ℕ) : Type 0 where
  pub room : (a : Apdu) → SpellsApdu p a s → length (make a) ≤ length buffer.before → n ≢ 5 → (n ≡ 0) × Fills (make a) buffer size
  pub no_room : (a : Apdu) → SpellsApdu p a s → length buffer.before < length (make a) → n ≢ 5 → (n ≡ 4) × IsTooShort (make a) buffer size
  pub refused : (f : Fault) → RefusesWholeIn p s f → IsRefusalReported 1 f refusal n
  pub buffer_stays : n ≢ 0 → Stays buffer
  pub size_stays : n ≢ 0 → n ≢ 4 → Stays size
  pub refusal_stays : n ≢ 1 → Stays refusal

-- of the call that checks a message
pub record ChecksOnce (p : Profile) (s : List ℕ) (normal : Change ℕ) (refusal : Change IllcanonRefusal) (n : ℕ) : Type 0 where
  pub checked : (a : Apdu) → SpellsApdu p a s → n ≢ 5 → (n ≡ 0) × IsFlag normal.after (s ≡ normal_form_in p a)
  pub refused : (f : Fault) → RefusesWholeIn p s f → IsRefusalReported 1 f refusal n
  pub answer_stays : n ≢ 0 → Stays normal
  pub refusal_stays : n ≢ 1 → Stays refusal

-- of the call that compares two
pub record ComparesOnce (p : Profile) (s t : List ℕ) (same : Change ℕ) (refusal : Change IllcanonRefusal) (n : ℕ) : Type 0 where
  pub compared : (a b : Apdu) → SpellsApdu p a s → SpellsApdu p b t → n ≢ 5 → (n ≡ 0) × IsFlag same.after (a ≡ b)
  pub first : (f : Fault) → RefusesWholeIn p s f → IsRefusalReported 1 f refusal n
  pub second : (a : Apdu) (f : Fault) → SpellsApdu p a s → RefusesWholeIn p t f → IsRefusalReported 2 f refusal n
  pub answer_stays : n ≢ 0 → Stays same
  pub refusal_stays : n ≢ 1 → n ≢ 2 → Stays refusal

-- of the call that finds the message at the front
pub record FindsOnce (p : Profile) (s : List ℕ) (size : Change ℕ) (refusal : Change IllcanonRefusal) (n : ℕ) : Type 0 where
  pub found : (a : Apdu) (m : ℕ) → Accepts p s a m → n ≢ 5 → (n ≡ 0) × (size.after ≡ m)
  pub part : IsPartIn p s → n ≢ 5 → n ≡ 3
  pub refused : (f : Fault) → OnlyRefuses p s f → f.cause ≢ Cause.Truncated → IsRefusalReported 1 f refusal n
  pub size_stays : n ≢ 0 → Stays size
  pub refusal_stays : n ≢ 1 → Stays refusal

-- of the call that writes the normal form of the message at the front
pub record WritesFrontOnce (p : Profile) (s : List ℕ) (read : Change ℕ) (buffer : Change (List ℕ)) (size : Change ℕ) (refusal : Change IllcanonRefusal) (n : ℕ) : Type 0 where
  pub room : (a : Apdu) (m : ℕ) → Accepts p s a m → length (normal_form_in p a) ≤ length buffer.before → n ≢ 5
      → (n ≡ 0) × (read.after ≡ m) × Fills (normal_form_in p a) buffer size
  pub no_room : (a : Apdu) (m : ℕ) → Accepts p s a m → length buffer.before < length (normal_form_in p a) → n ≢ 5
      → (n ≡ 4) × (read.after ≡ m) × IsTooShort (normal_form_in p a) buffer size
  pub part : IsPartIn p s → n ≢ 5 → n ≡ 3
  pub refused : (f : Fault) → OnlyRefuses p s f → f.cause ≢ Cause.Truncated → IsRefusalReported 1 f refusal n
  pub buffer_stays : n ≢ 0 → Stays buffer
  pub read_stays : n ≢ 0 → n ≢ 4 → Stays read
  pub size_stays : n ≢ 0 → n ≢ 4 → Stays size
  pub refusal_stays : n ≢ 1 → Stays refusal

-- of the call that writes a message as it is spelled: nothing is said of the text
pub record DumpsOnce (p : Profile) (s : List ℕ) (buffer : Change (List ℕ)) (size : Change ℕ) (refusal : Change IllcanonRefusal) (n : ℕ) : Type 0 where
  pub read : (a : Apdu) → SpellsApdu p a s → n ≢ 4 → n ≢ 5 → n ≡ 0
  pub refused : (f : Fault) → RefusesWholeIn p s f → n ≢ 4 → IsRefusalReported 1 f refusal n
  pub buffer_stays : n ≢ 0 → n ≢ 1 → Stays buffer
  pub size_stays : n ≡ 5 → Stays size
  pub refusal_stays : n ≢ 1 → Stays refusal

-- of the call that finds where an element ends
pub record FramesOnce (s : List ℕ) (size : Change ℕ) (n : ℕ) : Type 0 where
  pub framed : (front rest : List ℕ) → IsFrame front → s ≡ front ++ rest → (n ≡ 0) × (size.after ≡ length front)
  pub part : IsPartOfFrame s → n ≡ 3
  pub unframed : IsNeverFramed s → n ≡ 1
  pub size_stays : n ≢ 0 → Stays size

-- of the calls that write what is said of a cause: its name, or its clause
pub record SaysOfCauseOnce (say : Cause → List ℕ) (number : ℕ) (buffer : Change (List ℕ)) (size : Change ℕ) (n : ℕ) : Type 0 where
  pub room : (c : Cause) → cause_number c ≡ number → length (say c) ≤ length buffer.before → (n ≡ 0) × Fills (say c) buffer size
  pub no_room : (c : Cause) → cause_number c ≡ number → length buffer.before < length (say c) → (n ≡ 4) × IsTooShort (say c) buffer size
  pub unknown : ((c : Cause) → cause_number c ≢ number) → n ≡ 7
  pub buffer_stays : n ≢ 0 → Stays buffer
  pub size_stays : n ≡ 7 → Stays size

-- of the call that writes the version: a text that is always the same
pub record PutsOnce (octets : List ℕ) (buffer : Change (List ℕ)) (size : Change ℕ) (n : ℕ) : Type 0 where
  pub room : length octets ≤ length buffer.before → (n ≡ 0) × Fills octets buffer size
  pub no_room : length buffer.before < length octets → (n ≡ 4) × IsTooShort octets buffer size
  pub buffer_stays : n ≢ 0 → Stays buffer

-- the normal form of the APDU that the line says can be built: line and normal form are within their limits
pub record IsBuildable (p : Profile) (line : List ℕ) (a : Apdu) : Type 0 where
  pub says : SaysApdu p line a
  pub fits : FitsApdu p a
  pub line_short : length line ≤ line_limit
  pub normal_short : length (normal_form_in p a) ≤ p.limit

-- of the call that is given a line of JSON, which is within its limit where it is refused
pub record BuildsOnce (p : Profile) (line : List ℕ) (buffer : Change (List ℕ)) (size cause : Change ℕ) (n : ℕ) : Type 0 where
  pub room : (a : Apdu) → IsBuildable p line a → length (normal_form_in p a) ≤ length buffer.before → n ≢ 5 → (n ≡ 0) × Fills (normal_form_in p a) buffer size
  pub no_room : (a : Apdu) → IsBuildable p line a → length buffer.before < length (normal_form_in p a) → n ≢ 5 → (n ≡ 4) × IsTooShort (normal_form_in p a) buffer size
  pub refused : (c : BuildCause) (path : List Step) → length line ≤ line_limit → IsFaultyLine p line c path → length (pointer_of path) ≤ length buffer.before → n ≢ 5
      → (n ≡ 1) × Fills (pointer_of path) buffer size × (cause.after ≡ build_cause_number c)
  pub refused_no_room : (c : BuildCause) (path : List Step) → length line ≤ line_limit → IsFaultyLine p line c path → length buffer.before < length (pointer_of path) → n ≢ 5
      → (n ≡ 4) × IsTooShort (pointer_of path) buffer size
  pub buffer_stays : n ≢ 0 → n ≢ 1 → Stays buffer
  pub size_stays : n ≡ 5 → Stays size
  pub cause_stays : n ≢ 1 → Stays cause

-- of the call that writes the name of a cause for which lines are refused
pub record NamesBuildCauseOnce (number : ℕ) (buffer : Change (List ℕ)) (size : Change ℕ) (n : ℕ) : Type 0 where
  pub room : (c : BuildCause) → build_cause_number c ≡ number → length (build_cause_name c) ≤ length buffer.before → (n ≡ 0) × Fills (build_cause_name c) buffer size
  pub no_room : (c : BuildCause) → build_cause_number c ≡ number → length buffer.before < length (build_cause_name c) → (n ≡ 4) × IsTooShort (build_cause_name c) buffer size
  pub unknown : ((c : BuildCause) → build_cause_number c ≢ number) → n ≡ 7
  pub buffer_stays : n ≢ 0 → Stays buffer
  pub size_stays : n ≡ 7 → Stays size

-- The output for the messages of an input, entry by entry.
use Rattle.std.specs.Prelude.{◌≡◌, ℕ, ◌+◌, ◌<◌, List, [], ◌∷◌, ◌++◌, length, take, Option, Some}
use Rattle.std.specs.Io.KnownBytes.{Appends, Keeps}
use Rattle.ill_normal.specs.Messages.{Spelling, after, counted}
use Rattle.ill_normal.specs.Items.{Item, good, bad, item_octets, report}
use Rattle.ill_normal.specs.declared.messages.MessagePlace.{MessagePlace}
use Rattle.ill_normal.specs.declared.report.RefusalReport.{RefusalReport}
use Rattle.ill_normal.specs.declared.write_items.PutError.{PutError}

-- an accepted message at its place, or the report on a refused one with the octets that it comes with
pub data Entry : Type 0 where
  accepted : MessagePlace → Spelling → Entry
  refused : RefusalReport → List ℕ → Entry

-- the entry for a message at this place; a refused one comes with its first 1,048,576 octets
abbrev pub entry_at : MessagePlace → Item → Entry
entry_at p (good m) = accepted p m
entry_at p (bad octets refusal) = refused (report p refusal (Some (counted (length octets)))) (take 1_048_576 octets)

-- these octets are the output for messages from this place on, one after another, and count as n: `writes` says which may be written of an entry
abbrev pub AreWritten : (Entry → ℕ → List ℕ → Type 0) → MessagePlace → List Item → ℕ → List ℕ → Type 0
AreWritten writes p [] n octets = (n ≡ 0) × (octets ≡ [])
AreWritten writes p (x ∷ items) n octets =
    (k : ℕ) × (l : ℕ) × (front : List ℕ) × (rest : List ℕ) × (n ≡ k + l) × (octets ≡ front ++ rest) × writes (entry_at p x) k front
    × AreWritten writes (after p (length (item_octets x))) items l rest

-- the output for an entry was put, which counts as n
abbrev pub Puts : (Entry → ℕ → List ℕ → Type 0) → Entry → ℕ → Option (List ℕ) → Option (List ℕ) → Type 0
Puts writes entry n held held' = (octets : List ℕ) × writes entry n octets × Appends held held' octets

-- the text of an accepted message is written, and counts as so many octets, and nothing of a refused one
abbrev pub WritesText : (MessagePlace → Spelling → List ℕ) → Entry → ℕ → List ℕ → Type 0
WritesText text (accepted p m) n octets = (octets ≡ text p m) × (n ≡ length octets)
WritesText text (refused r given) n octets = (octets ≡ []) × (n ≡ 0)

-- where it isn't written whole, nothing of it is for want of memory; or the sink has the first n octets, which are not all
abbrev pub BreaksText : (MessagePlace → Spelling → List ℕ) → Entry → PutError → Option (List ℕ) → Option (List ℕ) → Type 0
BreaksText text (accepted p m) PutError.OutOfMemory held held' = Keeps held held'
BreaksText text (accepted p m) (PutError.Broken n) held held' = Appends held held' (take n (text p m)) × (n < length (text p m))
BreaksText text (refused r given) error held held' = ⊥

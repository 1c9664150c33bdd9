-- How a call ends, as C sees it.
use Rattle.std.specs.Prelude.{◌≡◌, ℕ}
use Rattle.ill_c.specs.declared.status.Status.{Status}

-- the number of a status
abbrev pub status_number : Status → ℕ
status_number Status.Done = 0
status_number Status.Refused = 1
status_number Status.SecondRefused = 2
status_number Status.NeedsMore = 3
status_number Status.NoRoom = 4
status_number Status.OutOfMemory = 5
status_number Status.UnknownProfile = 6
status_number Status.UnknownCause = 7

-- the call returned the number of a status of which this holds
abbrev pub ReturnsStatus : ℕ → (Status → Type 0) → Type 0
ReturnsStatus n P = (status : Status) × (n ≡ status_number status) × P status

-- The exit status of one file, and that of several.
use Rattle.std.proofs.Common.{◌≡◌, ◌⊎◌, ℕ, List, [], ◌∷◌, Err, inl, inr}
use Rattle.ill_args.specs.declared.orders.LineResults.{LineResults}
use Rattle.ill_files.specs.Status.{status_is}
use Rattle.ill_files.specs.declared.error.ProgramError.{ProgramError}
use Rattle.ill_cli.specs.Ends.{IsCollectStatus, IsPrintStatus, IsStatusOfAll, IsStatusOfFiles, IsStatusOfLines}

pub all_collected : (names : List (List ℕ)) (status : ℕ) → IsStatusOfAll names status → IsCollectStatus names status
all_collected [] status h = h
all_collected (name ∷ []) status h = inr h
all_collected (name ∷ other ∷ names) status h = h

pub all_printed : (names : List (List ℕ)) (status : ℕ) → IsStatusOfFiles names status ⊎ (status ≡ 3) → IsPrintStatus names status
all_printed [] status h = h
all_printed (name ∷ []) status h = inr h
all_printed (name ∷ other ∷ names) status h = h

-- lines none of which is read
pub lines_failed : (results : LineResults) (error : ProgramError) (status : ℕ) → status ≡ status_is (Err error) → IsStatusOfLines results status
lines_failed (LineResults.Report report) error status e = inl (error, e)
lines_failed (LineResults.Write output) error status e = (Err error, inl e)
lines_failed (LineResults.Collect output) error status e = inl (error, e)

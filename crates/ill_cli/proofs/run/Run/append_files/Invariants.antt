use Rattle.std.proofs.Common.{◌≡◌, List, map, drop}
use Rattle.ill_cli.specs.Ends.{FileEnd, status_of_ends}
use Rattle.ill_cli.proofs.InTurn.{AreDone}
use Rattle.ill_cli.proofs.run.Run.append_files.Given as goal

abbrev pub invariant-loop-name : goal.invariant-loop-name
invariant-loop-name g l =
    (ends : List FileEnd) × AreDone (map (λ name. name.now) l.names) ends (drop l.name-index (map (λ name. name.now) l.names))
    × (l.status ≡ status_of_ends ends)

use Rattle.std.proofs.Common.{◌≡◌, List, map, drop}
use Rattle.ill_cli.specs.Ends.{AddsEnds, FileEnd, status_of_ends}
use Rattle.ill_cli.proofs.InTurn.{AreDone}
use Rattle.ill_cli.proofs.in_turn.do_in_turn.Given as goal

abbrev pub invariant-loop-name : goal.invariant-loop-name
invariant-loop-name g l =
    (ends : List FileEnd) × AddsEnds (g.T.DoFile.ends l.fn.work) (g.T.DoFile.ends l.work) ends
    × AreDone (map (λ name. name.now) l.names) ends (drop l.name-index (map (λ name. name.now) l.names)) × (l.status ≡ status_of_ends ends)

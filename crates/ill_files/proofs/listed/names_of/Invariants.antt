use Rattle.std.proofs.Common.{◌≡◌, ◌++◌, map, take, length}
use Rattle.ill_files.specs.code.Listed.{names_in}
use Rattle.ill_files.proofs.listed.names_of.Given as goal

abbrev pub invariant-loop-file : goal.invariant-loop-file
invariant-loop-file l = map (λ name. name.now) l.names.items ≡ map (λ word. word.now) (take l.file-index l.files)

abbrev pub invariant-loop-name : goal.invariant-loop-name
invariant-loop-name l = map (λ name. name.now) l.names.items ++ names_in l.rest ≡ map (λ word. word.now) l.files ++ names_in l.list

abbrev pub decreases-loop-name : goal.decreases-loop-name
decreases-loop-name l = length l.rest

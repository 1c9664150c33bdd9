use Rattle.std.proofs.Common.{◌≡◌, false, take}
use Rattle.std.specs.List.{list_any}
use Rattle.std.specs.Str.{bytes_eq}
use Rattle.ill_args.specs.CommandLine.{all_verbs, verb_name}
use Rattle.ill_args.proofs.matches.verb_of.Given as goal

abbrev pub invariant-loop-verb : goal.invariant-loop-verb
invariant-loop-verb l = list_any (λ verb. bytes_eq (verb_name verb) l.name) (take l.verb-index all_verbs) ≡ false

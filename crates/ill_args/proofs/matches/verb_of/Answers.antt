use Rattle.std.proofs.Common.{◌≡◌, ◌∙◌, true, false, true≢false, take, sym, ap, subst}
use Rattle.std.proofs.lemmas.List.{take_all}
use Rattle.std.specs.List.{list_any}
use Rattle.std.specs.Str.{bytes_eq}
use Rattle.ill_args.specs.CommandLine.{all_verbs, verb_name}
use Rattle.ill_args.proofs.Found.{is_command_name}
use Rattle.ill_args.proofs.matches.verb_of.Goals as goal

pub unreachable-requires : goal.unreachable-requires
unreachable-requires c =
    let known = subst (λ name. list_any (λ verb. bytes_eq (verb_name verb) name) all_verbs ≡ true) (sym c.requires.1) (is_command_name c.requires.0) in
    let none = ap (list_any (λ verb. bytes_eq (verb_name verb) c.args.name.now)) (sym (take_all c.loop-verb.verb-index all_verbs c.loop-verb-test.false)) ∙ c.loop-verb.invariant in
    true≢false (sym known ∙ none)

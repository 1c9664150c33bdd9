-- Arguments that are added to a command one after another, and commands that are added to a program.
use Rattle.std.proofs.Common.{◌≡◌, ◌∙◌, ℕ, ◌+◌, ◌<◌, List, [], ◌∷◌, ◌++◌, length, map, take, get_or, refl, sym, ap}
use Rattle.std.proofs.lemmas.List.{map-append, take_more}
use Rattle.clap.specs.Simple.{App, with_rule, with_subcommand}
use Rattle.clap.specs.Walk.{Rule}
use Rattle.ill_args.specs.CommandLine.{command_for, with_commands, with_rules, ProfileNames}
use Rattle.ill_args.specs.code.Arguments.{rule_for}
use Rattle.ill_args.specs.declared.argument.Argument.{Argument}
use Rattle.ill_args.specs.declared.orders.Verb.{Verb}

one_more : (a : App) (rs : List Rule) (r : Rule) → with_rules a (rs ++ r ∷ []) ≡ with_rule (with_rules a rs) r
one_more a [] r = refl
one_more a (s ∷ rs) r = one_more (with_rule a s) rs r

-- a command with the next argument, too
pub next_argument : (a b : App) (arguments : List Argument) (i : ℕ) (d : Argument) → i < length arguments → b ≡ with_rules a (map rule_for (take i arguments))
    → with_rule b (rule_for (get_or arguments i d)) ≡ with_rules a (map rule_for (take (i + 1) arguments))
next_argument a b arguments i d h e =
    let more = ap (map rule_for) (take_more arguments i d h) ∙ map-append rule_for (take i arguments) (get_or arguments i d ∷ []) in
    ap (λ (x : App). with_rule x (rule_for (get_or arguments i d))) e ∙ sym (ap (with_rules a) more ∙ one_more a (map rule_for (take i arguments)) (rule_for (get_or arguments i d)))

last_command : (names : ProfileNames) (a : App) (verbs : List Verb) (verb : Verb) → with_commands names a (verbs ++ verb ∷ []) ≡ with_subcommand (with_commands names a verbs) (command_for names verb).top
last_command names a [] verb = refl
last_command names a (first ∷ verbs) verb = last_command names (with_subcommand a (command_for names first).top) verbs verb

-- a program with the next command, too
pub next_command : (names : ProfileNames) (a b : App) (verbs : List Verb) (i : ℕ) (d : Verb) → i < length verbs → b ≡ with_commands names a (take i verbs)
    → with_subcommand b (command_for names (get_or verbs i d)).top ≡ with_commands names a (take (i + 1) verbs)
next_command names a b verbs i d h e =
    ap (λ (x : App). with_subcommand x (command_for names (get_or verbs i d)).top) e
    ∙ sym (ap (with_commands names a) (take_more verbs i d h) ∙ last_command names a (take i verbs) (get_or verbs i d))

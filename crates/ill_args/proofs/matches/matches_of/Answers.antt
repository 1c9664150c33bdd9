use Rattle.std.proofs.Common.{◌≡◌, ◌∙◌, true, [], Result, Ok, Err, IfOk, refl, ap, map, sym, subst}
use Rattle.std.proofs.lemmas.Result.{IfOk-weaker}
use Rattle.std.specs.String.{string_bytes}
use Rattle.clap.specs.Simple.{App}
use Rattle.clap.specs.Words.{FailsBy, Kinds, app_of, fault_of, is_simple, is_simple_and_free, subcommand_of}
use Rattle.clap.specs.declared.error.Error.{Error}
use Rattle.ill_args.specs.CommandLine.{program, program_of, ProfileNames}
use Rattle.ill_args.specs.code.Commands.{IsCommand}
use Rattle.ill_args.proofs.Command.{command}
use Rattle.ill_args.proofs.Placed.{same_command, same_faults}
use Rattle.ill_args.proofs.matches.matches_of.Goals as goal

-- no argument of the program has a rule on another
simple : (names : ProfileNames) → is_simple_and_free (program_of names) ≡ true
simple names = refl

-- only the last positional of a command has several values
plain : (names : ProfileNames) → is_simple (program_of names) ≡ true
plain names = refl

-- what comes without an error comes of words without a fault
no_fault : {T : Type 0} (kinds : Kinds) (r : Result T Error) (P : T → Type 0) → FailsBy kinds r → (kinds ≡ [] → IfOk r P) → IfOk r P
no_fault kinds (Ok m) P f h = h f
no_fault kinds (Err e) P f h = tt

pub returns-clause-found : goal.returns-clause-found
returns-clause-found c =
    let names = c.profiles.result in
    let same : app_of c.in_ok-program.field-0 ≡ program_of names = c.in_ok-program.ensures in
    let words = map string_bytes c.args.words.now in
    IfOk-weaker c.try_get_matches_from.result _ _
    (λ m h. (h (ap is_simple same ∙ plain names)).1 ∙ ap (λ (a : App). subcommand_of a words) same ∙ same_command names words c.profiles.ensures) c.try_get_matches_from.ensures.matches

pub returns-clause-command : goal.returns-clause-command
returns-clause-command c =
    let names = c.profiles.result in
    let same : app_of c.in_ok-program.field-0 ≡ program_of names = c.in_ok-program.ensures in
    let words = map string_bytes c.args.words.now in
    let kinds = ap (λ (a : App). fault_of a words) same ∙ same_faults names words c.profiles.ensures in
    let faults = subst (λ k. FailsBy k c.try_get_matches_from.result) kinds (c.try_get_matches_from.ensures.kinds (ap is_simple_and_free same ∙ simple names)) in
    no_fault (fault_of program words) c.try_get_matches_from.result _ faults (λ f. IfOk-weaker c.try_get_matches_from.result _ _
    (λ m h. subst IsCommand (sym ((h (ap is_simple same ∙ plain names)).1 ∙ ap (λ (a : App). subcommand_of a words) same ∙ same_command names words c.profiles.ensures)) (command words f))
    c.try_get_matches_from.ensures.matches)

pub returns-clause-faults : goal.returns-clause-faults
returns-clause-faults c =
    let names = c.profiles.result in
    let same : app_of c.in_ok-program.field-0 ≡ program_of names = c.in_ok-program.ensures in
    let words = map string_bytes c.args.words.now in
    let kinds = ap (λ (a : App). fault_of a words) same ∙ same_faults names words c.profiles.ensures in
    subst (λ k. FailsBy k c.try_get_matches_from.result) kinds (c.try_get_matches_from.ensures.kinds (ap is_simple_and_free same ∙ simple names))

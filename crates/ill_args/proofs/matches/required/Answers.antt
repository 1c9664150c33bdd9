use Rattle.std.proofs.Common.{◌≡◌, ◌∙◌, is_some, true, true≢false, option_map, sym, ap}
use Rattle.clap.proofs.CallerLemmas.{some_of_text}
use Rattle.ill_args.proofs.matches.required.Goals as goal

pub unreachable-requires : goal.unreachable-requires
unreachable-requires c =
    let given : is_some c.value_of.result ≡ true = some_of_text (λ s. s.now) c.value_of.result _ (sym c.value_of.ensures) c.requires in
    true≢false (sym given ∙ ap is_some c.in-None.is)

pub returns : goal.returns
returns c = c.value_of.ensures ∙ ap (option_map (λ s. s.now)) c.in-Some.is

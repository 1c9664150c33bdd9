use Rattle.std.proofs.Common.{◌≡◌, ◌∙◌, Bor, List, [], Option, Some, None, map, option_map, unwrap_or, sym, ap, codes}
use Rattle.std.specs.Option.{UnwrapsOrElse}
use Rattle.clap.specs.Walk.{Text}
use Rattle.clap.specs.Words.{found_of}
use Rattle.clap.proofs.WalkLemmas.{raw_values-rows}
use Rattle.ill_args.proofs.matches.files_of.Goals as goal

-- the values, or none
values_or_none : (found : Option (Bor (List (Bor Text)))) (values : Bor (List (Bor Text))) → UnwrapsOrElse found (λ none. none.now ≡ []) values
    → unwrap_or (option_map (λ s. map (λ v. v.now) s.now) found) [] ≡ map (λ v. v.now) values.now
values_or_none None values is = sym (ap (map (λ v. v.now)) is)
values_or_none (Some s) values is = ap (λ (b : Bor (List (Bor Text))). map (λ v. v.now) b.now) (sym is)

pub returns : goal.returns
returns c =
    let found = found_of c.args.words.now in
    ap (λ o. unwrap_or o []) (sym (raw_values-rows found (codes "file")) ∙ sym c.get_strs.ensures) ∙ values_or_none c.get_strs.result c.unwrap_or_default.result c.unwrap_or_default.ensures

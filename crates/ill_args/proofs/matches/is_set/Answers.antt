use Rattle.std.proofs.Common.{◌∙◌, ap, codes}
use Rattle.std.specs.Option.{option_map_or}
use Rattle.std.specs.Str.{bytes_eq}
use Rattle.std.proofs.Common.{false}
use Rattle.clap.specs.Words.{found_of}
use Rattle.clap.proofs.WalkLemmas.{one_text-rows}
use Rattle.ill_args.proofs.Found.{flag_is}
use Rattle.ill_args.proofs.matches.is_set.Goals as goal

pub returns : goal.returns
returns c =
    let found = found_of c.args.words.now in
    c.unwrap_or.ensures ∙ flag_is _ _ c.get_one.result c.get_one.ensures.none c.get_one.ensures.value
    ∙ ap (λ o. option_map_or (λ text. bytes_eq text (codes "true")) o false) (one_text-rows found c.args.name.now)

use Rattle.std.proofs.Common.{◌∙◌, sym}
use Rattle.clap.specs.Words.{found_of}
use Rattle.clap.proofs.WalkLemmas.{first_value-rows}
use Rattle.ill_args.proofs.matches.value_of.Goals as goal

pub returns : goal.returns
returns c = sym (first_value-rows (found_of c.args.words.now) c.args.id.now) ∙ sym c.get_str.ensures

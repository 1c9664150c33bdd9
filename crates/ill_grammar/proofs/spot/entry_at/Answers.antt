use Rattle.std.proofs.lemmas.Option.{slice_get-get_or}
use Rattle.ill_grammar.specs.declared.spot_entries.TheConstants.{ENTRIES}
use Rattle.ill_grammar.proofs.SpotEntries.{entry_low}
use Rattle.ill_grammar.proofs.spot.entry_at.Goals as goal

pub returns : goal.returns
returns c =
    let there = slice_get-get_or ENTRIES c.args.at _ c.requires in
    record { there = there; low = entry_low c.args.at _ there }

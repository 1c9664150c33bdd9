use Rattle.ill_grammar.specs.Due.{read_as}
use Rattle.ill_grammar.proofs.OfTwo.{read_two}
use Rattle.ill_read.proofs.ProfileOfPath.{found_two, no_module_element}
use Rattle.ill_read.proofs.value_draft.ValueDraftDraft.module_element.Goals as goal

pub unreachable-requires : goal.unreachable-requires
unreachable-requires c =
    let found = c.args._reading.found in
    no_module_element (read_as found) (read_two found (found_two c.args._profile found c.requires.takes c.requires.is_of)) c.requires.other

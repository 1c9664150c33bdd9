use Rattle.ill_grammar.specs.Due.{shape}
use Rattle.ill_grammar.proofs.OfTwo.{read_two}
use Rattle.ill_read.proofs.ProfileOfPath.{found_two}
use Rattle.ill_read.proofs.ValueDrafts.{values_opened}
use Rattle.ill_read.proofs.value_draft.ValueDraftDraft.open.Goals as goal

pub returns : goal.returns
returns c = values_opened c.args.self.now (shape c.args._place) c.args._opening c.len.result (read_two c.args._opening.found (found_two c.args._profile c.args._opening.found c.requires.takes c.requires.is_of)) c.len.ensures

use Rattle.ill_grammar.specs.Due.{shape}
use Rattle.ill_read.specs.declared.outline_draft.OutlineDraft.{OutlineDraft}
use Rattle.ill_read.proofs.Outlines.{outline_leaf}
use Rattle.ill_read.proofs.outline_draft.OutlineDraftDraft.leaf.Goals as goal

pub returns : goal.returns
returns c =
    let new : OutlineDraft = record { octets = c.leaf.new.self; marks = c.mark_content.new.marks } in
    outline_leaf c.args.profile c.args.self.now new (shape c.args.place) c.args.reading c.args.leaf c.args.content.now c.mark_preceding.new.marks.items c.requires.content c.in_ok-leaf.ensures c.in_ok-mark_preceding.ensures
    c.in_ok-mark_content.ensures

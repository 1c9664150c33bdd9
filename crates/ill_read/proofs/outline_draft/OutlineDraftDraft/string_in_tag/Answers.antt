use Rattle.ill_grammar.specs.Due.{shape}
use Rattle.ill_read.specs.declared.outline_draft.OutlineDraft.{OutlineDraft}
use Rattle.ill_read.proofs.Outlines.{outline_string}
use Rattle.ill_read.proofs.outline_draft.OutlineDraftDraft.string_in_tag.Goals as goal

pub returns-clause-added : goal.returns-clause-added
returns-clause-added c is =
    let new : OutlineDraft = record { octets = c.string_in_tag.new.self; marks = c.mark_content.new.marks } in
    let octets = c.in_ok-string_in_tag.ensures.added cc in
    outline_string c.args.profile c.args.self.now new (shape c.args.place) c.args.opening c.args.leaf c.args.content.now c.mark_preceding.new.marks.items c.requires.string c.requires.content octets
    c.in_ok-mark_preceding.ensures c.in_ok-mark_content.ensures

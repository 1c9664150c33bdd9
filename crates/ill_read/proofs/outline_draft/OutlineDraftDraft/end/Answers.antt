use Rattle.std.proofs.Common.{refl}
use Rattle.ill_read.specs.declared.outline_draft.OutlineDraft.{OutlineDraft}
use Rattle.ill_read.proofs.Outlines.{outline_ended}
use Rattle.ill_read.proofs.outline_draft.OutlineDraftDraft.end.Goals as goal

pub returns : goal.returns
returns c p a b takes h =
    let new : OutlineDraft = record c.args.self.now { octets = c.end.new.self } in
    outline_ended p c.args.self.now new a b c.args.octets c.end.result h refl (c.end.ensures p a b tt (h.0.octets, h.1, h.2))

use Rattle.std.proofs.lemmas.Result.{IfOk-weaker}
use Rattle.ill_read.proofs.Outlines.{outline_text}
use Rattle.ill_read.proofs.outline_draft.OutlineDraftDraft.text.Goals as goal

pub returns : goal.returns
returns c =
    IfOk-weaker c.mark_octets.result _ _
    (λ x h. outline_text c.args.self.now (record { octets = c.text.new.self; marks = c.mark_octets.new.marks }) c.args.octets.now c.in_ok-text.ensures h) c.mark_octets.ensures

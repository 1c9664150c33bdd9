use Rattle.std.proofs.Common.{refl}
use Rattle.std.proofs.lemmas.Result.{IfOk-weaker}
use Rattle.ill_read.proofs.Outlines.{outline_bits}
use Rattle.ill_read.proofs.outline_draft.OutlineDraftDraft.bits.Goals as goal

pub returns : goal.returns
returns c =
    IfOk-weaker c.bits.result _ _
    (λ x h. outline_bits c.args.self.now (record c.args.self.now { octets = c.bits.new.self }) c.args.content.now h refl) c.bits.ensures

use Rattle.std.proofs.Common.{◌-◌, sym, ap, ◌∙◌}
use Rattle.ber_core.specs.Der.{size}
use Rattle.ill_tables.specs.declared.node.NodeId.TheVariants.{IllApdu}
use Rattle.ill_schema.specs.Message.{apdu_of}
use Rattle.ill_write.proofs.Messages.{message_tree, message_small, length-normal_form}
use Rattle.ill_write.proofs.Tags.{row_valid}
use Rattle.ill_write.proofs.sizes.Sizes.measure.Goals as goal

pub measure_row-requires-clause-valid : goal.measure_row-requires-clause-valid
measure_row-requires-clause-valid c = row_valid IllApdu ((apdu_of c.args.message.now).number - 1) c.apdu_row.result (sym c.apdu_row.ensures)

pub measure_row-requires-clause-small : goal.measure_row-requires-clause-small
measure_row-requires-clause-small c = message_small c.args.message.now c.apdu_row.result _ c.apdu_row.ensures c.body.ensures.content c.body.ensures.within

pub returns-clause-total : goal.returns-clause-total
returns-clause-total c =
    c.in_ok-total.ensures.0 ∙ sym (ap size (message_tree c.args.message.now c.apdu_row.result _ c.apdu_row.ensures c.body.ensures.content)) ∙ sym (length-normal_form c.args.message.now)

use Rattle.ill_dump.proofs.WrittenLines.{head_made, on_ok}
use Rattle.ill_dump.proofs.put.put_head.Goals as goal

pub returns : goal.returns
returns c =
    on_ok c.text_in-2.result _ _
    (head_made c.args.dump c.args.message c.args.lines.now.octets.items _ _ _ _ _ c.in_ok-tags_in.ensures c.in_ok-put_label.ensures c.in_ok-text_in.ensures c.in_ok-count.ensures) c.text_in-2.ensures

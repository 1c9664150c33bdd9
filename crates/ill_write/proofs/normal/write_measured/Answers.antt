use Rattle.std.proofs.Common.{◌<◌, [], refl, append-nil, sym, ◌∙◌, arith, rules}
use Rattle.ill_schema.specs.Apdu.{normal_form}
use Rattle.ill_schema.specs.Message.{apdu_of}
use Rattle.ill_write.specs.ContentSizes.{content_sizes, tree_of}
use Rattle.ill_write.proofs.Putting.{all_in, first_in}
use Rattle.ill_write.proofs.normal.write_measured.Goals as goal

pub write_message-requires : goal.write_message-requires
write_message-requires g c =
    ([], [], c.deref.ensures.value ∙ c.requires.contents ∙ sym (append-nil (content_sizes (tree_of c.args.message.now))), sym c.new-progress.ensures.next)

pub returns-in-Ok-clause-written : goal.returns-in-Ok-clause-written
returns-in-Ok-clause-written g c = (
  all_in (normal_form (apdu_of c.args.message.now)) _ _ c.new-progress.result c.write_message.new.progress (c.new-progress.ensures.fresh _) c.in-Ok.ensures.puts c.in-Ok.ensures.empty,
  c.requires.total,
)

pub returns-in-Err-clause-part : goal.returns-in-Err-clause-part
returns-in-Err-clause-part g c =
    let E = normal_form (apdu_of c.args.message.now) in
    let fits : c.args.sizes.now.total < 4294967296 = search rules in
    let w = first_in c.in-Err.field-0 E _ _ c.new-progress.result c.write_message.new.progress (c.new-progress.ensures.fresh _) c.in-Err.ensures.puts (omega (arith, fits, c.requires.total)) in
    rw c.written.ensures (w.0, w.1, c.in-Err.ensures.breaks refl)

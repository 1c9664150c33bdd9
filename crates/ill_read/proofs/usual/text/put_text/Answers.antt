use Rattle.std.proofs.Common.{◌+◌, sym, refl}
use Rattle.std.specs.List.{between}
use Rattle.ber_tree.proofs.Octets.{octets_fit}
use Rattle.ill_read.proofs.UsualTexts.{graphic_text, right_in}
use Rattle.ill_read.proofs.UsualWrites.{between_less, between_octets, puts_as, puts_less}
use Rattle.ill_read.proofs.usual.text.put_text.Goals as goal

pub returns-then-is_graphic_front-clause-put : goal.returns-then-is_graphic_front-clause-put
returns-then-is_graphic_front-clause-put c =
    let a = c.args in
    puts_as a.out.now c.copy_block.new.out a.to (a.to + a.size) (a.to + a.size) _ _
    (puts_less a.out.now c.copy_block.new.out a.to a.size 16 _ c.if-size-le-BLOCK_LEN.true c.copy_block.ensures) refl (sym (between_less a.octets.now a.at a.size 16 c.if-size-le-BLOCK_LEN.true))

pub returns-then-is_graphic_front-clause-right : goal.returns-then-is_graphic_front-clause-right
returns-then-is_graphic_front-clause-right c good p =
    let text = between c.args.at (c.args.at + c.args.size) c.args.octets.now in
    (between_octets c.args.octets.now c.args.at (c.args.at + c.args.size) (octets_fit c.args.octets.now (λ k. (c.type_inv.octets k).fits)), right_in p c.args.leaf text (graphic_text c.args.leaf text c.requires.string (c.is_graphic_front.ensures c.if-is_graphic_front.true)))

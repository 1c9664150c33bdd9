use Rattle.ill_read.proofs.UsualWrites.{puts_block}
use Rattle.ill_read.proofs.usual.text.copy_block.Goals as goal

pub returns : goal.returns
returns c = puts_block c.args.octets.now c.args.out.now c.args.at c.args.to 16 c.requires.octets c.requires.room

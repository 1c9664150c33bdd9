use Rattle.ill_write.proofs.Putting.{puts_after}
use Rattle.ill_write.proofs.pieces.open_element.Goals as goal

pub returns-clause-puts : goal.returns-clause-puts
returns-clause-puts g c =
    let h = rw c.next.ensures at c.write_header.ensures.puts in
    puts_after c.write_header.result _ _ _ c.args.progress.now c.advance.new.self _ c.advance.ensures.puts h

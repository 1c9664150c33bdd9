use Rattle.std.proofs.Common.{◌≡◌, ◌+◌, ◌-◌, ◌++◌, length, take, drop, sym, ap, ◌∙◌, arith}
use Rattle.std.proofs.lemmas.List.{length-drop, take_all}
use Rattle.ber_tree.specs.Length.{shortest_length}
use Rattle.der_buffer.proofs.OpenElements.{length_set}
use Rattle.der_buffer.proofs.der_buffer.set_long_length.Goals as goal

pub returns : goal.returns
returns c =
    let old = c.args.octets.now.items in
    let contents_start = c.args.contents_start in
    let set = length_set old c.put_length-at.new.room contents_start c.put_length-at.result c.requires.opened c.requires.within (omega (arith, c.put_length-at.ensures.some, c.put_length-at.array_long)) in
    let size : c.len.result - contents_start ≡ length old - contents_start = omega (arith, c.len.ensures, c.args.octets.now.ok.0) in
    let at = c.put_length-at.result in
    let room = c.put_length-at.new.room in
    let rest = take_all (9 - (at + 1)) (drop (at + 1) room) (omega (arith, length-drop (at + 1) room, c.put_length-at.array_long)) in
    rw (sym (set ∙ ap (λ z. take (contents_start - 1) old ++ (z ++ drop contents_start old)) (c.put_length-at.ensures.octets ∙ ap shortest_length size))) (rw rest at c.insert_octets.ensures)

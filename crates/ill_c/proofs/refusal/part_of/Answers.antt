use Rattle.std.proofs.Common.{◌≡◌, ◌≤◌, ◌++◌, Some, codes, length, refl, ap, subst, sym, arith, length-append}
use Rattle.ill_c.specs.Refusals.{c_text, part_text}
use Rattle.ill_c.proofs.CTexts.{joined}
use Rattle.ill_c.proofs.Parts.{text_short}
use Rattle.ill_c.proofs.refusal.part_of.Goals as goal

pub copy_at-requires-in-Some-2 : goal.copy_at-requires-in-Some-2
copy_at-requires-in-Some-2 c =
    let node = c.in-Some.node.now in
    let row = c.in-Some.row.now in
    let short : length (part_text (Some (node, row))) ≤ 63 = subst (λ o. length (part_text o) ≤ 63) c.in-Some.ensures (text_short c.args.cause) in
    let outer = length-append (node ++ codes ".") row in
    let inner = length-append node (codes ".") in
    let octets = ap length c.as_bytes-in-Some.ensures.value in
    let first = c.copy_at.auto.buffer in
    let second = c.copy_at-in-Some.auto.buffer in
    omega (arith, short, outer, inner, octets, first, second)

pub returns-in-Some : goal.returns-in-Some
returns-in-Some c =
    let first = rw c.as_bytes.ensures.value at c.copy_at.ensures in
    let third = rw c.as_bytes-in-Some.ensures.value at c.copy_at-in-Some-2.ensures in
    subst (λ o. c.copy_at-in-Some-2.new.buffer ≡ c_text (part_text o)) (sym c.in-Some.ensures)
    (joined c.in-Some.node.now c.in-Some.row.now _ c.copy_at.new.buffer c.copy_at-in-Some.new.buffer c.copy_at-in-Some-2.new.buffer refl first c.copy_at-in-Some.ensures third)

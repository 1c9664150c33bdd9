use Rattle.std.proofs.Common.{◌≡◌, sym, ap, ◌∙◌, true≢false}
use Rattle.ber_leaf.specs.Leaf.{is_oid}
use Rattle.ill_schema.specs.Texts.{numbers_after}
use Rattle.oid_text.specs.Numbers.{are_short}
use Rattle.oid_text.proofs.HexDigits.{hexadecimal_once}
use Rattle.oid_text.proofs.identifier.read_great.Goals as goal
use Rattle.oid_text.proofs.identifier.read_great.Goals.{else-is_oid-via-then-is_oid+else-not-are_short, else-is_oid-via-else-is_oid}

pub returns-else-is_oid-clause-unsaid : goal.returns-else-is_oid-clause-unsaid
returns-else-is_oid-clause-unsaid c o ok oid great e =
    let said = rw c.in-Some.is at c.in_ok-octets.ensures.said in
    let same : c.in-Some.octets.items ≡ o = hexadecimal_once c.in-Some.octets.items o said.0 ok (sym said.1 ∙ e) in
    elim c.else-is_oid.branch [
      | else-is_oid-via-then-is_oid+else-not-are_short w ↦
          true≢false (w.if-not-are_short.ensures ∙ ap (λ z. are_short (numbers_after 0 z)) (w.deref-then-is_oid.ensures.value ∙ same) ∙ great)
      | else-is_oid-via-else-is_oid w ↦
          true≢false (sym oid ∙ ap is_oid (sym (c.deref.ensures.value ∙ same)) ∙ sym c.is_oid.ensures ∙ w.if-is_oid.false)
    ]

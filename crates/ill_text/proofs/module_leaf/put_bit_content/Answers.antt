use Rattle.std.proofs.Common.{◌≡◌, ◌∙◌, ◌++◌, ◌-◌, ◌*◌, IsTrue, ap, ap₂, sym, subst, arith, decimal, length, List, ℕ}
use Rattle.ber_leaf.specs.Leaf.{bit_count, bit_octets, cleared_last, is_bits}
use Rattle.ill_text.specs.code.Bits.{filled_text}
use Rattle.ill_text.proofs.FilledOctets.{unused_few}
use Rattle.ill_grammar.proofs.MarkedValues.{marks_length}
use Rattle.ill_text.proofs.OctetMarks.{first_octet}
use Rattle.ill_text.proofs.Sent.{adds_as, adds_then}
use Rattle.ill_text.proofs.module_leaf.put_bit_content.Goals as goal

pub returns-clause-adds : goal.returns-clause-adds
returns-clause-adds g c octets h e =
    let f = first_octet octets c.in-Some.first.now c.in-Some.filled.now (sym e ∙ c.in-Some.ensures.cases.0) in
    let u = c.in-Octet.unused in
    let same : f.0 ≡ u = let is = f.3 in cc in
    let few = unused_few f.0 f.1 (subst (λ o. IsTrue (is_bits o)) f.2 h) in
    let n : c.saturating_sub-number.result ≡ 8 * length f.1 - u = omega (arith, c.saturating_sub-number.ensures, ap length f.4, marks_length f.1) in
    let text = ap₂ (λ (k : ℕ) (t : List ℕ). decimal k ++ filled_text t) (ap (λ (x : ℕ). 8 * length f.1 - x) same) (ap (λ (x : ℕ). cleared_last x f.1) same) in
    adds_as _ _ _ _ (ap (λ d. d ++ filled_text (cleared_last u f.1)) (c.as_bytes.ensures.value ∙ c.format.ensures.text ∙ ap decimal n) ∙ sym (ap (λ o. decimal (bit_count o) ++ filled_text (bit_octets o)) f.2 ∙ text))
    (adds_then _ _ _ _ _ c.put.ensures.adds (c.put_filled.ensures.adds f.1 (omega (arith, few, same)) f.4))

use Rattle.std.proofs.Common.{◌≡◌, ◌^◌, ◌<◌, decimal, not, Some, None, sym, ap, ◌∙◌, arith, true≢false}
use Rattle.std.proofs.lemmas.Slice.Eq.{bytes_eq-Decides}
use Rattle.std.proofs.lemmas.Fmt.{parse-decimal}
use Rattle.std.specs.Result.{result_ok}
use Rattle.oid_text.proofs.Dots.{front_is_decimal}
use Rattle.oid_text.proofs.number.read_number.Goals as goal
use Rattle.oid_text.proofs.number.read_number.Goals.{then-number-ge-SHORT_END-via-then-number-ge-SHORT_END, then-number-ge-SHORT_END-via-else-number-ge-SHORT_END+then-ne}

pub returns-in_err-number : goal.returns-in_err-number
returns-in_err-number c = rw c.from_residual.ensures (λ n rest small dot e.
    let s = c.split_at_dot in
    let digits = front_is_decimal c.args.text.now s.result.0.now rest s.result.1.now n s.ensures.joined s.ensures.front s.ensures.rest small dot e in
    let wide : n < 2 ^ 64 = omega (arith, small) in
    let read = parse-decimal 64 n s.result.0.now c.parse_u64.result wide wide digits c.parse_u64.ensures in
    let wrong : None ≡ Some n = sym c.in_err-number.was ∙ c.ok.ensures.value ∙ ap result_ok read in
    cc)

pub returns-then-number-ge-SHORT_END : goal.returns-then-number-ge-SHORT_END
returns-then-number-ge-SHORT_END c n rest small dot e =
    let s = c.split_at_dot in
    let digits = front_is_decimal c.args.text.now s.result.0.now rest s.result.1.now n s.ensures.joined s.ensures.front s.ensures.rest small dot e in
    let wide : n < 2 ^ 64 = omega (arith, small) in
    let read = parse-decimal 64 n s.result.0.now c.parse_u64.result wide wide digits c.parse_u64.ensures in
    let known : Some c.in_ok-number.number ≡ Some n = sym c.in_ok-number.was ∙ c.ok.ensures.value ∙ ap result_ok read in
    let same : c.in_ok-number.number ≡ n = cc in
    elim c.then-number-ge-SHORT_END.branch [
      | then-number-ge-SHORT_END-via-then-number-ge-SHORT_END w ↦ omega arith
      | then-number-ge-SHORT_END-via-else-number-ge-SHORT_END+then-ne w ↦
          let bytes : w.as_bytes.result.now ≡ s.result.0.now = w.as_bytes.ensures.value ∙ w.format.ensures.text ∙ ap decimal same ∙ sym digits in
          let equal = (bytes_eq-Decides w.as_bytes.result.now s.result.0.now).1 bytes in
          true≢false (sym w.if-ne.true ∙ w.ne.ensures ∙ ap not equal)
    ]

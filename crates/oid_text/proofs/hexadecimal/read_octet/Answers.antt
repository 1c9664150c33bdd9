use Rattle.oid_text.proofs.HexDigits.{no_high, no_low, octet_digits}
use Rattle.oid_text.proofs.hexadecimal.read_octet.Goals as goal

pub returns-in_err-digit_value : goal.returns-in_err-digit_value
returns-in_err-digit_value c =
    rw c.from_residual-in_err-digit_value.ensures (λ n rest l e. no_high c.args.text.now c.in_ok-high.after_high.now rest c.in_ok-high.high.now n c.in_ok-high.ensures.cases.0 c.in_err-digit_value.ensures l e)

pub returns-in_err-octet : goal.returns-in_err-octet
returns-in_err-octet c =
    rw c.from_residual-in_err-octet.ensures (λ n rest l e. no_low c.args.text.now c.in_ok-high.after_high.now rest c.in_ok-low.rest.now c.in_ok-high.high.now c.in_ok-low.low.now n c.in_ok-high.ensures.cases.0 c.in_ok-low.ensures.cases.0 c.in_err-octet.ensures l e)

pub returns : goal.returns
returns c =
    octet_digits c.args.text.now c.in_ok-high.after_high.now c.in_ok-low.rest.now c.in_ok-high.high.now c.in_ok-low.low.now c.in_ok-digit_value.field-0 c.in_ok-octet.field-0
    c.in_ok-high.ensures.cases.0 c.in_ok-low.ensures.cases.0 c.in_ok-digit_value.ensures.0 c.in_ok-digit_value.ensures.1 c.in_ok-octet.ensures.0 c.in_ok-octet.ensures.1

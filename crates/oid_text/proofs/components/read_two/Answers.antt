use Rattle.std.proofs.Common.{◌-◌, ◌*◌, ◌/◌, min, sym, ◌∙◌, arith}
use Rattle.oid_text.proofs.Dots.{after_dot_once, two_parts}
use Rattle.oid_text.proofs.components.read_two.Goals as goal

pub returns-in_err-second : goal.returns-in_err-second
returns-in_err-second c = rw c.from_residual-in_err-second.ensures (λ n rest small dot e.
    let root = c.in_ok-root.ensures in
    let parts = two_parts c.args.text.now c.in_ok-root.after_root.now rest c.in_ok-root.root n root.0 root.1 root.2 small e in
    c.in_err-second.ensures (n - 40 * min 2 (n / 40)) rest (omega (arith, small)) dot parts.1)

pub returns-in_err-number : goal.returns-in_err-number
returns-in_err-number c = rw c.from_residual-in_err-number.ensures (λ n rest small dot e.
    let root = c.in_ok-root.ensures in
    let second = c.in_ok-second.ensures in
    let parts = two_parts c.args.text.now c.in_ok-root.after_root.now rest c.in_ok-root.root n root.0 root.1 root.2 small e in
    let same = after_dot_once c.in_ok-second.second (n - 40 * min 2 (n / 40)) c.in_ok-second.rest.now rest second.0 (omega (arith, small)) second.1 dot (sym second.2 ∙ parts.1) in
    c.in_err-number.ensures n small parts.0 same.0)

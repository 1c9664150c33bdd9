use Rattle.std.proofs.Common.{◌↔◌, ◌≤◌, ◌+◌, ◌*◌, ◌^◌, ◌∷◌, ◌-◌, sym, subst, ◌∙◌, arith, true≢false}
use Rattle.ber_framing.specs.Framer.{Finishes, IsLongThen}
use Rattle.ber_framing.proofs.LengthSteps.{long_small, long_next, long_end, too_long}
use Rattle.ber_framing.proofs.framer.Framer.after_long.Goals as goal

pub overflow_mul-value : goal.overflow_mul-value
overflow_mul-value c = omega (arith, long_small c.args.long.value c.args.long.missing_len c.args.long.some c.args.long.fits)

pub overflow_add-value : goal.overflow_add-value
overflow_add-value c = omega (arith, long_small c.args.long.value c.args.long.missing_len c.args.long.some c.args.long.fits)

pub returns-then-not-fits : goal.returns-then-not-fits
returns-then-not-fits c x =
    let deep = 18_446_744_073_709_551_615 - c.args.self.marks in
    let missing_len = c.args.long.missing_len - 1 in
    let value = c.args.long.value * 256 + c.from.result in
    let next = long_next c.args.self.marks deep c.args.octet x c.args.long.missing_len c.args.long.value missing_len value (omega arith) (omega arith) (omega (arith, c.from.ensures)) in
    let large : value * 256 ^ missing_len ≤ 4_294_967_294 → ⊥ = λ le. true≢false (sym (c.fits.ensures.1 le) ∙ c.if-not-fits.true) in
    subst (λ f. IsLongThen c.args.long.missing_len c.args.long.value c.args.self.marks deep (c.args.octet ∷ x) ↔ Finishes f x) (sym c.at.ensures)
    ((λ h. too_long missing_len value c.args.self.marks deep x large (next.0 h)), (λ h. absurd h))

pub returns-then-missing_len-eq0 : goal.returns-then-missing_len-eq0
returns-then-missing_len-eq0 c x =
    let deep = 18_446_744_073_709_551_615 - c.args.self.marks in
    let missing_len = c.args.long.missing_len - 1 in
    let value = c.args.long.value * 256 + c.from.result in
    let next = long_next c.args.self.marks deep c.args.octet x c.args.long.missing_len c.args.long.value missing_len value (omega arith) (omega arith) (omega (arith, c.from.ensures)) in
    let fits : value * 256 ^ missing_len ≤ 4_294_967_294 = c.fits.ensures.0 c.if-not-fits.false in
    let end = long_end missing_len value c.args.self.marks deep x c.if-missing_len-eq0.true
    (subst (λ n. value * 256 ^ n ≤ 4_294_967_294 → value ≤ 4_294_967_294) (sym c.if-missing_len-eq0.true) (λ le. omega (arith, le)) fits) in
    let then = c.contents.ensures x in
    ((λ h. then.0 (end.0 (next.0 h))), (λ h. next.1 (end.1 (then.1 h))))

pub returns-else-missing_len-eq0 : goal.returns-else-missing_len-eq0
returns-else-missing_len-eq0 c x =
    let deep = 18_446_744_073_709_551_615 - c.args.self.marks in
    subst (λ f. IsLongThen c.args.long.missing_len c.args.long.value c.args.self.marks deep (c.args.octet ∷ x) ↔ Finishes f x) (sym c.at-else-missing_len-eq0.ensures)
    (long_next c.args.self.marks deep c.args.octet x c.args.long.missing_len c.args.long.value _ _ (omega arith) (omega arith) (omega (arith, c.from.ensures)))

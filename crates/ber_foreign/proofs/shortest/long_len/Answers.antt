use Rattle.std.proofs.Common.{◌≡◌, ◌<◌, get_or, length, IsTrue, sym, ap, subst, ◌∙◌, arith, length-append}
use Rattle.std.specs.Int.Digits.{digits_of, number_from_digits}
use Rattle.ber_tree.specs.Octets.{are_octets}
use Rattle.ber_tree.proofs.Octets.{octets_fit}
use Rattle.ber_foreign.proofs.FewestOctets.{digits_first, digits_front, digits_read, digits_value, few_digits}
use Rattle.ber_foreign.proofs.shortest.long_len.Goals as goal
use Rattle.ber_foreign.proofs.shortest.long_len.Goals.{then-count-gt8-via-then-count-gt8, then-count-gt8-via-else-count-gt8+then-count-octets, then-len-lt-LONG_MIN-via-then-len-lt-LONG_MIN, then-len-lt-LONG_MIN-via-else-len-lt-LONG_MIN+then-digits-eq0}

pub returns-then-count-gt8 : goal.returns-then-count-gt8
returns-then-count-gt8 c n behind high small size joined = elim c.then-count-gt8.branch [
  | then-count-gt8-via-then-count-gt8 w ↦ omega (arith, few_digits n small)
  | then-count-gt8-via-else-count-gt8+then-count-octets w ↦ omega (arith, ap length joined, length-append (digits_of 256 n) behind)
]

pub returns-then-len-lt-LONG_MIN : goal.returns-then-len-lt-LONG_MIN
returns-then-len-lt-LONG_MIN c n behind high small size joined =
    let front = digits_read c.args.octets.now c.split_at.result.0.now behind c.args.count n c.split_at.ensures.front size joined in
    let value : c.number-len.result ≡ n = c.number-len.ensures ∙ ap (number_from_digits 256) front ∙ digits_value n in
    let first : 0 < get_or c.split_at.result.0.now 0 0 = subst (λ ds. 0 < get_or ds 0 0) (sym front) (digits_first n high) in
    elim c.then-len-lt-LONG_MIN.branch [
      | then-len-lt-LONG_MIN-via-then-len-lt-LONG_MIN w ↦ omega arith
      | then-len-lt-LONG_MIN-via-else-len-lt-LONG_MIN+then-digits-eq0 w ↦ omega arith
    ]

pub returns : goal.returns
returns c =
    let w = c.args.octets.now in
    let ok : IsTrue (are_octets w) = octets_fit w (λ k. let h : get_or w k 0 < 256 = omega (arith, c.type_inv.octets k) in h) in
    let d = digits_front w _ _ c.args.count c.number-len.result ok c.split_at.ensures.front c.split_at.ensures.back c.if-count-octets.false c.if-count-gt8.false c.number-len.ensures c.if-len-lt-LONG_MIN.false (omega (arith, c.if-digits-eq0.false)) in
    (c.if-len-lt-LONG_MIN.false, d.0, d.1)

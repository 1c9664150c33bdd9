use Rattle.std.proofs.Common.{◌≤◌, ◌^◌, ◌++◌, ◌∙◌, length, sym, ap, ap₂, arith}
use Rattle.ill_schema.specs.Profiles.{profile_of}
use Rattle.ill_text.specs.Shown.{shown_text_in}
use Rattle.ill_commands.proofs.piece.labelled_text.Goals as goal

pub returns-then-len-gt-MAX_LABEL_LEN : goal.returns-then-len-gt-MAX_LABEL_LEN
returns-then-len-gt-MAX_LABEL_LEN c = λ a octets spells h.
    let q = profile_of c.args.work.profile in
    let text = c.deref.ensures.value ∙ c.in_ok-octets.ensures (shown_text_in q c.args.number a) (c.new_as-text.ensures a octets spells h) in
    c.in_ok-extend_from_slice.ensures.items ∙ ap₂ (λ x y. x ++ y) c.in_ok-label.ensures text

pub returns : goal.returns
returns c = λ a octets spells h.
    let q = profile_of c.args.work.profile in
    let short : length c.in_ok-label.label.items ≤ 2 ^ 62 = omega (arith, c.if-len-gt-MAX_LABEL_LEN.false, c.len.ensures) in
    let shown = shown_text_in q c.args.number a in
    (shown, c.new_as-text.ensures a octets spells h, ap (λ l. l ++ shown) (sym c.in_ok-label.ensures), short)

use Rattle.std.proofs.Common.{◌≡◌, ◌-◌, ◌&&◌, false, length, sym, ap, ap₂, subst, ◌∙◌}
use Rattle.ill_grammar.specs.Need.{IsNeed, begins_zero, in_mark}
use Rattle.ill_grammar.proofs.PlaceNeeds.{need_to_end, need_in_mark, need_in_element}
use Rattle.ill_grammar.proofs.need.need_at.Goals as goal
use Rattle.ill_grammar.proofs.need.need_at.Goals.{else-awaits_end_mark-via-then-awaits_end_mark+else-begins_with_zero, else-awaits_end_mark-via-else-awaits_end_mark}

pub returns-in-Some : goal.returns-in-Some
returns-in-Some c s stands =
    let size = c.saturating_sub-in-Some.ensures ∙ ap (λ n. n - length c.args.octets.now) c.saturating_sub.ensures in
    subst (IsNeed stands.0.place c.args.at c.args.octets.now) (sym size)
    (need_to_end c.args.frames.now c.args.at s c.args.octets.now stands c.in-Some.end (sym c.outermost_end.ensures ∙ c.in-Some.is))

pub returns-then-begins_with_zero : goal.returns-then-begins_with_zero
returns-then-begins_with_zero c s stands =
    let awaits = sym (c.awaits_end_mark.ensures.exact stands.0.place stands.0.stands) ∙ c.if-awaits_end_mark.true in
    let zero = sym c.begins_with_zero.ensures ∙ c.if-begins_with_zero.true in
    need_in_mark c.args.frames.now c.args.at s c.args.octets.now stands (sym c.outermost_end.ensures ∙ c.in_default.is) (ap₂ ◌&&◌ awaits zero)

pub returns : goal.returns
returns c s stands =
    let marked : in_mark stands.0.place c.args.octets.now ≡ false = elim c.else-awaits_end_mark.branch [
      | else-awaits_end_mark-via-then-awaits_end_mark+else-begins_with_zero w ↦
          let awaits = sym (c.awaits_end_mark.ensures.exact stands.0.place stands.0.stands) ∙ w.if-awaits_end_mark.true in
          ap₂ ◌&&◌ awaits (sym w.begins_with_zero.ensures ∙ w.if-begins_with_zero.false)
      | else-awaits_end_mark-via-else-awaits_end_mark w ↦
          let shut = sym (c.awaits_end_mark.ensures.exact stands.0.place stands.0.stands) ∙ w.if-awaits_end_mark.false in
          ap (λ b. b && begins_zero c.args.octets.now) shut
    ] in
    subst (IsNeed stands.0.place c.args.at c.args.octets.now) (sym c.need_in_element.ensures)
    (need_in_element c.args.frames.now c.args.at s c.args.octets.now stands c.read_header.result (sym c.outermost_end.ensures ∙ c.in_default.is) marked c.read_header.ensures)

use Rattle.std.proofs.Common.{◌≡◌, ◌∙◌, ℕ, Some, ap, arith, inl, inr, refl, sym}
use Rattle.std.proofs.KnownBytes.{Consumes-nil}
use Rattle.ill_normal.specs.declared.counts.Counts.{Counts}
use Rattle.ill_normal.proofs.ReadItems.{ends_here, ends_past, has_read_none}
use Rattle.ill_normal.proofs.item_loop.read_items.Goals as goal

pub loop-before-init : goal.loop-before-init
loop-before-init g c = record {
  read = rw c.new-work.ensures.none (has_read_none _ _ _ _ _ _);
  reading = c.new-work.ensures.reading;
  options = refl;
  ready = c.requires;
  counted = rw c.new-work.ensures.none (record { sum = omega arith; size = omega arith });
  count = ap (λ (x : Counts). x.messages) c.new-work.ensures.none;
  source_stays = λ h. h;
  sink_stays = λ h. h;
}

pub returns-then-ends_after-clause-reads : goal.returns-then-ends_after-clause-reads
returns-then-ends_after-clause-reads g c =
    let only = c.if-ends_after.ensures.0 refl ∙ ap (λ (n : ℕ). Some n) (sym c.loop-before.invariant.count) in
    rw c.ended.ensures (ends_here _ _ _ _ _ _ _ _ _ c.loop-before.invariant.read (omega (arith, c.loop-before.invariant.count, c.loop-before-test.true)) (Consumes-nil _) (inr only) refl refl)

pub returns-in-Err-clause-reads : goal.returns-in-Err-clause-reads
returns-in-Err-clause-reads g c =
    let steps = rw (c.loop-before.invariant.reading, c.loop-before.invariant.options) at c.in-Err.ensures.steps in
    steps.ends _ c.loop-before.invariant.read

pub returns-then-ends_after-2-clause-reads : goal.returns-then-ends_after-2-clause-reads
returns-then-ends_after-2-clause-reads g c =
    let full : c.loop-before.work.counts.messages ≡ 1_000_000 = omega (arith, c.loop-before.invariant.count, c.loop-before-test.false, c.loop-before.auto.before-end) in
    let only = c.if-ends_after-2.ensures.0 refl ∙ ap (λ (n : ℕ). Some n) (sym full) in
    rw c.ended-then-ends_after-2.ensures (ends_here _ _ _ _ _ _ _ _ _ c.loop-before.invariant.read (omega (arith, full)) (Consumes-nil _) (inr only) refl refl)

pub returns-in-Ok-end_of_input-clause-reads : goal.returns-in-Ok-end_of_input-clause-reads
returns-in-Ok-end_of_input-clause-reads g c =
    let full : c.loop-before.work.counts.messages ≡ 1_000_000 = omega (arith, c.loop-before.invariant.count, c.loop-before-test.false, c.loop-before.auto.before-end) in
    let end = c.in-Ok-end_of_input.ensures.end in
    rw c.ended-in-Ok-end_of_input.ensures (ends_here _ _ _ _ _ _ _ _ _ c.loop-before.invariant.read (omega (arith, full)) end.0 (inl end.1) refl refl)

pub returns-clause-reads : goal.returns-clause-reads
returns-clause-reads g c =
    let full : c.loop-before.work.counts.messages ≡ 1_000_000 = omega (arith, c.loop-before.invariant.count, c.loop-before-test.false, c.loop-before.auto.before-end) in
    rw c.ended-in-Err-end_of_input.ensures (ends_past _ _ _ _ _ _ _ _ _ c.loop-before.invariant.read c.in-Err-end_of_input.fault full c.in-Err-end_of_input.ensures.more refl refl)

use Rattle.std.proofs.Common.{◌≡◌, ◌∙◌, ◌<◌, ℕ, Bool, true, false, List, [], ◌∷◌, length, refl, subst, arith}
use Rattle.ill_read.specs.code.Usual.{EndsAt}
use Rattle.ill_read.specs.code.UsualLevels.{IsReading, level_after}
use Rattle.ill_read.specs.declared.usual.level.Level.{Level}
use Rattle.ill_read.proofs.UsualLevels.{level_ended}
use Rattle.ill_read.proofs.usual.read_whole.Goals as goal

none_left : (xs : List Level) → (0 < length xs → false ≡ true) → xs ≡ []
none_left [] none = refl
none_left (x ∷ xs) none = let e = none (omega arith) in absurd cc

-- where contents end, in other words
ends_in : (d : Bool) (xs ys : List ℕ) (at n m : ℕ) → xs ≡ ys → n ≡ m → EndsAt d xs at n → EndsAt d ys at m
ends_in d xs ys at n m octets bound ends = subst (λ k. EndsAt d ys at k) bound (subst (λ zs. EndsAt d zs at n) octets ends)

pub overflow_cast-at : goal.overflow_cast-at
overflow_cast-at c =
    let r = c.loop-input.invariant.1 c.requires.reading.0 (c.in_ok-at.ensures.reading c.requires.reading.0 c.requires.reading.1) in
    record { fits = omega (arith, r.taken, c.args.input.few) }

pub up_to-inside-requires : goal.up_to-inside-requires
up_to-inside-requires c =
    let r = c.loop-input.invariant.1 c.requires.reading.0 (c.in_ok-at.ensures.reading c.requires.reading.0 c.requires.reading.1) in
    r.taken.2

pub ends_at-requires : goal.ends_at-requires
ends_at-requires c =
    let r = c.loop-input.invariant.1 c.requires.reading.0 (c.in_ok-at.ensures.reading c.requires.reading.0 c.requires.reading.1) in
    omega (arith, r.taken, c.up_to-inside.ensures.bound)

pub read_next-requires-clause-reading : goal.read_next-requires-clause-reading
read_next-requires-clause-reading c =
    let p = c.requires.reading.0 in
    (p, level_after c.args.top.level c.in_ok-at.after, c.loop-input.invariant.1 p (c.in_ok-at.ensures.reading p c.requires.reading.1))

pub loop-input-preserved-then-not-ends_at : goal.loop-input-preserved-then-not-ends_at
loop-input-preserved-then-not-ends_at c =
    (c.in_ok-read_next.ensures.room ∙ c.loop-input.invariant.0, λ p was. c.in_ok-read_next.ensures.reading p (level_after c.args.top.level c.in_ok-at.after) (c.loop-input.invariant.1 p was))

pub close_level-requires-clause-order : goal.close_level-requires-clause-order
close_level-requires-clause-order c =
    let r = c.loop-input.invariant.1 c.requires.reading.0 (c.in_ok-at.ensures.reading c.requires.reading.0 c.requires.reading.1) in
    (r.written.0, r.written.1)

pub close_level-requires-clause-free : goal.close_level-requires-clause-free
close_level-requires-clause-free c =
    let r = c.loop-input.invariant.1 c.requires.reading.0 (c.in_ok-at.ensures.reading c.requires.reading.0 c.requires.reading.1) in
    r.written.2

pub returns-in_default-clause-reading : goal.returns-in_default-clause-reading
returns-in_default-clause-reading c p was =
    let ok = c.in_ok-reach.ensures in
    let outer = level_after c.args.top.level c.in_ok-at.after in
    let inside = c.up_to-inside.ensures in
    let ends = ends_in c.loop-input.at.level.is_definite _ c.args.input.octets.now c.loop-input.at.reach.taken _ c.loop-input.at.level.bound inside.octets inside.bound (c.ends_at.ensures c.if-not-ends_at.false) in
    let none = none_left c.loop-input.levels.items c.in_default.ensures.variant.1 in
    let here = subst (λ xs. IsReading p c.args.input (outer ∷ xs) c.loop-input.at c.loop-input.out) none (c.loop-input.invariant.1 p (c.in_ok-at.ensures.reading p was)) in
    level_ended p c.args.input [] outer c.loop-input.at c.loop-input.out c.close_level.new.out c.in_ok-reach.reach ends ok.complete.0 ok.complete.1 ok.taken ok.put ok.free here

pub loop-input-preserved : goal.loop-input-preserved
loop-input-preserved c =
    let ok = c.in_ok-reach.ensures in
    let outer = level_after c.args.top.level c.in_ok-at.after in
    let inside = c.up_to-inside.ensures in
    let ends = ends_in c.loop-input.at.level.is_definite _ c.args.input.octets.now c.loop-input.at.reach.taken _ c.loop-input.at.level.bound inside.octets inside.bound (c.ends_at.ensures c.if-not-ends_at.false) in (
      ok.room ∙ c.loop-input.invariant.0,
      λ p was.
          level_ended p c.args.input (outer ∷ c.pop.new.self.items) c.in-Some.level c.loop-input.at c.loop-input.out c.close_level.new.out c.in_ok-reach.reach ends ok.complete.0 ok.complete.1 ok.taken ok.put ok.free
          (subst (λ xs. IsReading p c.args.input (outer ∷ xs) c.loop-input.at c.loop-input.out) c.in-Some.ensures.items (c.loop-input.invariant.1 p was)),
    )

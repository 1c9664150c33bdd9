use Rattle.std.proofs.Common.{◌≡◌, ◌∙◌, ◌≤◌, ◌<◌, ◌∷◌, ℕ, false, eqb, length, subst, sym, arith}
use Rattle.std.proofs.lemmas.Bool.{eqb-false}
use Rattle.ill_read.specs.code.UsualLevels.{IsReading}
use Rattle.ill_read.proofs.UsualLevels.{element_opened, element_read, element_taken}
use Rattle.ill_read.proofs.usual.read_next.Goals as goal

lt_from_ne : (a b : ℕ) → a ≤ b → (a ≡ b → ⊥) → a < b
lt_from_ne a b le ne = omega (arith, le, ne)

pub returns-in_ok-at-in-Constructed-clause-reading : goal.returns-in_ok-at-in-Constructed-clause-reading
returns-in_ok-at-in-Constructed-clause-reading c p top was =
    let h = c.in_ok-header.ensures in
    let inside = c.up_to-inside in
    let full : eqb (length c.args.levels.now.items) 10 ≡ false = sym c.is_full.ensures.value ∙ c.if-is_full.false in
    let few = lt_from_ne (length c.args.levels.now.items) 10 c.is_full.ensures.fits (eqb-false (length c.args.levels.now.items) 10 full) in
    subst (λ xs. IsReading p c.args.input (top ∷ xs) c.in_ok-at-in-Constructed.field-0 c.read_identifier.new.out) (sym c.push.ensures.items)
    (element_opened p c.args.input inside.result (top ∷ c.args.levels.now.items) c.args.at.now c.in_ok-at-in-Constructed.field-0 c.in_ok-header.header c.args.out.now c.read_identifier.new.out inside.ensures.octets inside.ensures.bound
    (omega (arith, few)) h.room h.before h.from h.headed (h.order.1.0, h.order.1.1) c.in-Constructed.is c.in_ok-at-in-Constructed.ensures was)

pub returns-in_ok-at-in-StringWrapper-clause-reading :
    goal.returns-in_ok-at-in-StringWrapper-clause-reading
returns-in_ok-at-in-StringWrapper-clause-reading c p top was =
    let h = c.in_ok-header.ensures in
    let inside = c.up_to-inside in
    element_read p c.args.input inside.result (top ∷ c.args.levels.now.items) c.args.at.now c.in_ok-header.header c.args.out.now c.read_identifier.new.out c.read_wrapped.new.out c.in_ok-at-in-StringWrapper.field-0 inside.ensures.octets
    inside.ensures.bound h.room h.before h.from h.headed c.in_ok-at-in-StringWrapper.ensures.read c.in_ok-at-in-StringWrapper.ensures.free was

pub returns-in_ok-at-in-StringWrapper-clause-less :
    goal.returns-in_ok-at-in-StringWrapper-clause-less
returns-in_ok-at-in-StringWrapper-clause-less c =
    let h = c.in_ok-header.ensures in
    let inside = c.up_to-inside in
    let taken = element_taken inside.result c.args.at.now c.in_ok-header.header c.read_identifier.new.out c.read_wrapped.new.out c.in_ok-at-in-StringWrapper.field-0 h.from h.headed c.in_ok-at-in-StringWrapper.ensures.read in
    omega (arith, taken, inside.ensures.bound, c.requires.reading.2.taken)

pub returns-in_ok-at-in_default : goal.returns-in_ok-at-in_default
returns-in_ok-at-in_default c =
    let h = c.in_ok-header.ensures in
    let inside = c.up_to-inside in
    let taken = element_taken inside.result c.args.at.now c.in_ok-header.header c.read_identifier.new.out c.read_leaf.new.out c.in_ok-at-in_default.field-0 h.from h.headed c.in_ok-at-in_default.ensures.read in
    record {
      room = c.in_ok-at-in_default.ensures.room ∙ h.room;
      reading = λ p top was.
          element_read p c.args.input inside.result (top ∷ c.args.levels.now.items) c.args.at.now c.in_ok-header.header c.args.out.now c.read_identifier.new.out c.read_leaf.new.out c.in_ok-at-in_default.field-0 inside.ensures.octets
          inside.ensures.bound h.room h.before h.from h.headed c.in_ok-at-in_default.ensures.read c.in_ok-at-in_default.ensures.free was;
      less = omega (arith, taken, inside.ensures.bound, c.requires.reading.2.taken);
    }

use Rattle.std.proofs.Common.{◌↔◌, ◌∷◌, ◌-◌, sym, subst, arith}
use Rattle.ber_framing.specs.Framer.{Finishes, IsLengthThen, IsContentsThen}
use Rattle.ber_framing.proofs.LengthSteps.{short_length, indefinite_length, long_length}
use Rattle.ber_framing.proofs.framer.Framer.after_length.Goals as goal

pub returns-in-0-to-127 : goal.returns-in-0-to-127
returns-in-0-to-127 c x =
    let rest = 18_446_744_073_709_551_615 - c.args.self.marks in
    let first = short_length c.args.constructed c.args.self.marks rest c.args.octet x (omega arith) in
    let then = subst (λ n. IsContentsThen n c.args.self.marks rest x ↔ Finishes c.contents.result x) c.from.ensures (c.contents.ensures x) in
    ((λ h. then.0 (first.0 h)), (λ h. first.1 (then.1 h)))

pub returns-in-128 : goal.returns-in-128
returns-in-128 c x = indefinite_length c.args.constructed c.args.self.marks (18_446_744_073_709_551_615 - c.args.self.marks) c.args.octet x _ _ c.in-128.is c.if-constructed.true (omega arith) (omega arith)

pub returns-in_default : goal.returns-in_default
returns-in_default c x =
    let rest = 18_446_744_073_709_551_615 - c.args.self.marks in
    subst (λ f. IsLengthThen c.args.constructed c.args.self.marks rest (c.args.octet ∷ x) ↔ Finishes f x) (sym c.at.ensures)
    (long_length c.args.constructed c.args.self.marks rest c.args.octet x (c.args.octet - 128) (omega arith) (omega arith) (omega arith))

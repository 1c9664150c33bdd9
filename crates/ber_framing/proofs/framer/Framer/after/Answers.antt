use Rattle.std.proofs.Common.{◌↔◌, [], ◌∷◌, ◌-◌, sym, subst}
use Rattle.ber_framing.specs.Framer.{Finishes, FinishesAt}
use Rattle.ber_framing.proofs.FrameSteps.{contents_more}
use Rattle.ber_framing.proofs.framer.Framer.after.Goals as goal

pub returns-in-Length : goal.returns-in-Length
returns-in-Length c x =
    subst (λ s. FinishesAt s c.args.self.marks (18_446_744_073_709_551_615 - c.args.self.marks) (c.args.octet ∷ x) ↔ Finishes c.after_length.result x) (sym c.in-Length.is)
    (c.after_length.ensures x)

pub returns-in-Contents : goal.returns-in-Contents
returns-in-Contents c x =
    let rest = 18_446_744_073_709_551_615 - c.args.self.marks in
    let first = contents_more c.in-Contents.contents.missing_len c.args.self.marks rest (c.args.octet ∷ []) x c.in-Contents.contents.some in
    let then = c.contents.ensures x in
    subst (λ s. FinishesAt s c.args.self.marks rest (c.args.octet ∷ x) ↔ Finishes c.contents.result x) (sym c.in-Contents.is)
    ((λ h. then.0 (first.0 h)), (λ h. first.1 (then.1 h)))

use Rattle.std.proofs.Common.{◌↔◌, ◌≡◌, ◌-◌, ℕ, List, ◌++◌, length, take, sym, subst, arith}
use Rattle.std.proofs.lemmas.List.{length-take-le}
use Rattle.ber_framing.specs.Framer.{Finishes, FinishesAt, IsContentsThen}
use Rattle.ber_framing.proofs.FrameSteps.{contents_more}
use Rattle.ber_framing.proofs.FrameEnds.{fed_all, within_contents}
use Rattle.ber_framing.proofs.framer.Framer.step.Goals as goal

pub returns-clause-fed : goal.returns-clause-fed
returns-clause-fed c =
    let self = c.args.self.now in
    let missing_len = c.in-Contents.contents.missing_len in
    let count = c.min-count.result in
    let deep = 18_446_744_073_709_551_615 - self.marks in
    let w = take count c.args.octets.now in
    let size : length w ≡ count = length-take-le count c.args.octets.now (omega (arith, c.min-count.ensures)) in
    let same = λ (x : List ℕ).
    let first = contents_more missing_len self.marks deep w x (omega (arith, size, c.min-count.ensures)) in
    let then = c.contents.ensures x in
    let one = subst (λ (n : ℕ). IsContentsThen missing_len self.marks deep (w ++ x) ↔ IsContentsThen (missing_len - n) self.marks deep x) size first in
    subst (λ s. FinishesAt s self.marks deep (w ++ x) ↔ Finishes c.contents.result x) (sym c.in-Contents.is)
    ((λ h. then.0 (one.0 h)), (λ h. one.1 (then.1 h))) in
    fed_all self c.contents.result w same

pub returns-clause-within : goal.returns-clause-within
returns-clause-within c = λ b n h _ lt.
    let size = length-take-le n c.args.octets.now (omega (arith, c.min-count.ensures)) in
    within_contents c.args.self.now c.in-Contents.contents b (take n c.args.octets.now) c.in-Contents.is (omega (arith, size, c.min-count.ensures)) h

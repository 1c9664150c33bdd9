use Rattle.std.proofs.Common.{◌≡◌, ◌++◌, sym, subst, ap, ◌∙◌}
use Rattle.ill_read.specs.code.ReaderCode.{HasStopped}
use Rattle.ill_read.proofs.reader.Reader.keep.Goals as goal

pub returns-in_default-extend_from_slice-clause-fed : goal.returns-in_default-extend_from_slice-clause-fed
returns-in_default-extend_from_slice-clause-fed g c p fed h =
    let d = c.args.self.now in
    let kept : c.extend_from_slice.new.self.items ≡ c.args.octets.now = c.in_default-extend_from_slice.ensures.items ∙ ap (λ z. z ++ c.args.octets.now) c.requires in
    subst (HasStopped p g.D.Draft.holds g.D.Draft.has d fed) (sym kept) h

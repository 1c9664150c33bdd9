use Rattle.std.proofs.Common.{refl, sym, ◌∙◌}
use Rattle.ill_grammar.specs.Due.{read_as}
use Rattle.ill_read.proofs.PrimitiveElements.{bit_segment_read, primitive_segment, segment_read}
use Rattle.ill_read.proofs.path.Path.take_other_out_of_line.Goals as goal

pub returns-in_ok-bits-in-BitSegment-clause-exact : goal.returns-in_ok-bits-in-BitSegment-clause-exact
returns-in_ok-bits-in-BitSegment-clause-exact g c p place header at rest stands begin =
    bit_segment_read p g.D.Draft.holds c.args.self.now (record { frames = c.args.self.now.frames; draft = c.bits.new.self }) place c.args.reading c.args.start c.args.content.now header at rest stands begin
    (sym c.element.ensures.element ∙ c.in-BitSegment.is) refl c.in_ok-bits-in-BitSegment.ensures

pub returns-in_ok-text-in_default-clause-exact : goal.returns-in_ok-text-in_default-clause-exact
returns-in_ok-text-in_default-clause-exact g c p place header at rest stands begin =
    let is = c.element.ensures.element in
    let other = c.in_default in
    segment_read p g.D.Draft.holds c.args.self.now (record { frames = c.args.self.now.frames; draft = c.text.new.self }) place c.args.reading c.args.start c.args.content.now header at rest stands begin
    (primitive_segment (read_as c.args.reading.found) begin.allowed c.requires.rest (λ l e. other.not-ModuleLeaf l (is ∙ e)) (λ e. other.not-BitString (is ∙ e)) (λ m e. other.not-Foreign m (is ∙ e)) (λ e. other.not-BitSegment (is ∙ e))) refl
    c.in_ok-text-in_default.ensures

use Rattle.std.proofs.Common.{Bool, is_some, sym, ap, ◌∙◌, if◌then◌else◌}
use Rattle.ill_schema.specs.declared.refusal.Cause.{Cause}
use Rattle.ill_grammar.proofs.OpenFrames.{ends_found}
use Rattle.ill_grammar.proofs.frames.Frames.past_end.Goals as goal

pub returns-in-Some : goal.returns-in-Some
returns-in-Some c place h =
    ap (λ (b : Bool). if b then Cause.Overrun else Cause.TooLong) (ap is_some (sym c.in-Some.is ∙ c.outermost_end.ensures) ∙ ends_found c.args.self.now.profile place _ _ h.1)

pub returns-in-None : goal.returns-in-None
returns-in-None c place h =
    ap (λ (b : Bool). if b then Cause.Overrun else Cause.TooLong) (ap is_some (sym c.in-None.is ∙ c.outermost_end.ensures) ∙ ends_found c.args.self.now.profile place _ _ h.1)

use Rattle.std.proofs.Common.{ℕ, ◌-◌, ◌≤◌, sym, ap, subst, ◌∙◌}
use Rattle.std.proofs.lemmas.List.{length-set}
use Rattle.ill_grammar.proofs.OpenFrames.{advanced, moved_of}
use Rattle.ill_grammar.proofs.frames.Frames.advance.Goals as goal

pub returns-in-Some-clause-frame : goal.returns-in-Some-clause-frame
returns-in-Some-clause-frame c outer f e =
    advanced outer f c.in-Some.frame.now c.args.self.now.open.items c.saturating_sub-last.result c.args.place _ e (c.saturating_sub-last.ensures ∙ ap (λ n. n - 1) c.depth.ensures) c.in-Some.ensures.value

pub invariant_of-self : goal.invariant_of-self
invariant_of-self c = record {
  few = subst (λ (n : ℕ). n ≤ 32) (sym (length-set c.args.self.now.open.items c.saturating_sub-last.result _)) c.args.self.now.few;
  are_of = moved_of c.args.self.now.profile c.args.self.now.open.items c.saturating_sub-last.result c.in-Some.frame.now c.args.place _ c.args.self.now.are_of c.in-Some.ensures.value c.requires.is_of;
}

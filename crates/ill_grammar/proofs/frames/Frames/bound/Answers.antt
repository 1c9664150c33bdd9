use Rattle.std.proofs.Common.{refl, sym, ap, ◌∙◌}
use Rattle.ill_schema.specs.Profiles.{profile_of}
use Rattle.ill_refusals.specs.Place.{bound}
use Rattle.ill_grammar.proofs.OpenFrames.{bound_last, none_open}
use Rattle.ill_grammar.proofs.frames.Frames.bound.Goals as goal

pub returns-in-Some-clause-exact : goal.returns-in-Some-clause-exact
returns-in-Some-clause-exact c place h = bound_last c.args.self.now.profile place _ _ c.in-Some.frame h.1 (sym c.innermost.ensures.last ∙ c.in-Some.is)

pub returns-in-None-clause-exact : goal.returns-in-None-clause-exact
returns-in-None-clause-exact c place h = let e = none_open c.args.self.now.profile place _ _ h.1 (c.in-None.ensures.none.0 refl) in sym (ap (bound (profile_of c.args.self.now.profile)) e)

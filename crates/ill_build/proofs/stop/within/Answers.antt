use Rattle.std.proofs.Common.{◌≡◌, ◌∙◌, ◌∷◌, ◌++◌, [], ap, map, reverse, rules}
use Rattle.ill_build.specs.Path.{refusal_of, step_of}
use Rattle.ill_build.proofs.Lists.{reversed_last}
use Rattle.ill_build.proofs.stop.within.Goals as goal

pub returns-in-Ok : goal.returns-in-Ok
returns-in-Ok c =
    let f = c.in-Refused.fault in
    let grown : c.push.new.self.items ≡ f.steps.items ++ c.args.step ∷ [] = search rules in
    (map step_of (reverse f.steps.items), ap refusal_of c.in-Refused.is, ap (λ xs. map step_of (reverse xs)) grown ∙ reversed_last step_of f.steps.items c.args.step)

use Rattle.std.proofs.Common.{[], refl, sym, inr, codes, rules}
use Rattle.json.specs.Value.{value_view}
use Rattle.ill_schema.specs.Profiles.{profile_of}
use Rattle.std.specs.Prelude.{◌≢◌, not}
use Rattle.ill_build.specs.declared.cause.BuildCause.{BuildCause}
use Rattle.ill_build.specs.Line.{HasProfileFault, profile_word}
use Rattle.ill_build.proofs.Refusals.{at_name}
use Rattle.ill_build.proofs.line.check_profile.Goals as goal

pub returns-else-eq-2-clause-refused : goal.returns-else-eq-2-clause-refused
returns-else-eq-2-clause-refused c =
    let p = profile_of c.args.context.profile in
    let word = c.in-Some-as_str.word.now in
    let other : word ≢ profile_word p.full = search rules in
    let another : word ≢ profile_word (not p.full) = search rules in
    at_name _ BuildCause.UnknownName (codes "profile") (HasProfileFault p (value_view c.args.value.now)) c.refused_at-else-eq-2.ensures
    (value_view c.in-Some.own.now, [], sym c.in-Some.ensures, refl, inr (word, sym c.in-Some-as_str.ensures, inr (other, another, refl), refl))

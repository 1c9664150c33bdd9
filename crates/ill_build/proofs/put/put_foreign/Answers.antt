use Rattle.std.proofs.Common.{◌≡◌, ◌++◌, rules}
use Rattle.json.specs.Value.{value_view}
use Rattle.ill_schema.specs.Profiles.{profile_of}
use Rattle.ill_build.proofs.Choices.{foreign_built}
use Rattle.ill_build.proofs.put.put_foreign.Goals as goal

pub returns-clause-said : goal.returns-clause-said
returns-clause-said c replaced =
    let grown : c.append.new.self ≡ c.args.out.now ++ c.in_ok-octets.octets.items = search rules in
    foreign_built (profile_of c.args.context.profile) c.args.name.now c.args.node replaced (value_view c.args.value.now) c.in_ok-octets.octets.items _ _ c.requires.open c.in_ok-octets.ensures.said grown

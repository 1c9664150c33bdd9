use Rattle.std.proofs.Common.{◌≡◌, ◌∙◌, true, sym}
use Rattle.json.specs.Find.{is_null}
use Rattle.json.specs.Value.{value_view}
use Rattle.ill_schema.specs.Profiles.{profile_of}
use Rattle.ill_build.proofs.LeafTexts.{null_read}
use Rattle.ill_build.proofs.leaf.read_null.Goals as goal

pub returns-clause-said : goal.returns-clause-said
returns-clause-said c row =
    let is : is_null (value_view c.args.value.now) ≡ true = sym c.is_null.ensures ∙ c.if-not-is_null.false in
    null_read (profile_of c.args.context.profile) row (value_view c.args.value.now) c.new.result.items is c.new.ensures.items

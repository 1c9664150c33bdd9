use Rattle.ill_build.proofs.Choices.{own_identified}
use Rattle.ill_build.proofs.defaults.Spelling.put_default.Goals as goal

pub put_primitive-requires : goal.put_primitive-requires
put_primitive-requires c =
    own_identified c.args.replaced c.default_number.result c.unwrap_or-tag.result c.requires.tagged c.default_number.ensures c.unwrap_or-tag.ensures

pub put_primitive-requires-else-is_boolean : goal.put_primitive-requires-else-is_boolean
put_primitive-requires-else-is_boolean c =
    own_identified c.args.replaced c.default_number.result c.unwrap_or-tag.result c.requires.tagged c.default_number.ensures c.unwrap_or-tag.ensures

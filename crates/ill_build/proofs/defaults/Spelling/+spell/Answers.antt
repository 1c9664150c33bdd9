use Rattle.std.proofs.Common.{◌∙◌, ◌<◌, length, sym, subst, rules}
use Rattle.ill_build.specs.code.Built.{HasTag}
use Rattle.ill_build.proofs.Choices.{own_identified, replacement_identified, sequence_identified, wrapper_identified}
use Rattle.ill_build.proofs.Spellings.{whatever}
use Rattle.ill_build.proofs.defaults.Spelling.+spell.Goals as goal

pub put_row-open-requires : goal.put_row-open-requires
put_row-open-requires t c =
    let r = c.requires.drawn in
    wrapper_identified r.0 r.1 c.args.row c.in-Some.tag r.2 (sym c.wrapper.ensures ∙ c.in-Some.is)

pub put_row-put_value-requires-in-None : goal.put_row-put_value-requires-in-None
put_row-put_value-requires-in-None t c =
    let r = c.requires.drawn in
    (search rules, subst HasTag (sym c.replacement.ensures) (replacement_identified r.0 r.1 c.args.row r.2))

pub put_row-returns-in_ok-put_value-in-Some-clause-shorter :
    goal.put_row-returns-in_ok-put_value-in-Some-clause-shorter
put_row-returns-in_ok-put_value-in-Some-clause-shorter t c =
    whatever c.close.result (0 < length c.args.self.now.marks.now → length c.put_value.new.self.marks.now < length c.args.self.now.marks.now)
    c.in_ok-put_value-in-Some.ensures.shorter

pub put_value-put_entries-requires : goal.put_value-put_entries-requires
put_value-put_entries-requires t c = (search rules, sequence_identified c.args.replaced c.unwrap_or.result c.requires.tagged c.unwrap_or.ensures)

pub put_value-put_items-requires : goal.put_value-put_items-requires
put_value-put_items-requires t c =
    (search rules, sequence_identified c.args.replaced c.unwrap_or-in-List.result c.requires.tagged c.unwrap_or-in-List.ensures)

pub put_value-put_leaf-requires : goal.put_value-put_leaf-requires
put_value-put_leaf-requires t c =
    record { tagged = own_identified c.args.replaced c.leaf_number.result c.unwrap_or-in-Leaf.result c.requires.tagged c.leaf_number.ensures c.unwrap_or-in-Leaf.ensures }

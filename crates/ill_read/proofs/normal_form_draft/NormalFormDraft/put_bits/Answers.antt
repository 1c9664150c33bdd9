use Rattle.std.proofs.Common.{subst, refl}
use Rattle.ber_leaf.specs.Leaf.{bit_string}
use Rattle.ber_leaf.proofs.Leaves.{content_holds}
use Rattle.ill_grammar.specs.declared.element.Element.TheVariants.{BitString}
use Rattle.ill_read.specs.code.Drafts.{IsRightText}
use Rattle.ill_read.proofs.normal_form_draft.NormalFormDraft.put_bits.Goals as goal

pub returns-clause-right : goal.returns-clause-right
returns-clause-right c p =
    let right = content_holds bit_string c.content.result.now (c.in_default.ensures.none.0 refl) in
    subst (IsRightText p BitString) c.content.ensures (right.0, right.1)

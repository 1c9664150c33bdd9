use Rattle.std.proofs.Common.{◌≡◌, ◌∙◌, ◌+◌, None, length, refl, sym}
use Rattle.ber_leaf.specs.Leaf.{content_fault}
use Rattle.ber_leaf.specs.Profile.{profile_two}
use Rattle.ill_grammar.specs.LeafTypes.{leaf_is}
use Rattle.ill_read.proofs.UsualLeaves.{other_written}
use Rattle.ill_read.proofs.UsualTexts.{nothing, right_in}
use Rattle.ill_read.proofs.UsualWrites.{puts_as, puts_then}
use Rattle.ill_read.proofs.usual.leaf.put_content.Goals as goal

pub returns-clause-right : goal.returns-clause-right
returns-clause-right c p =
    let right : content_fault profile_two (leaf_is c.args.leaf) c.args.content.now ≡ None = sym c.fault.ensures.fault ∙ nothing c.fault.result (sym c.is_some.ensures ∙ c.if-is_some.false) in
    (c.fault.ensures.octets, right_in p c.args.leaf c.args.content.now right)

pub returns-clause-put : goal.returns-clause-put
returns-clause-put c =
    let octets = c.args.content.now in
    let start = c.write_length-start.result in
    let end = start + length octets in
    let right : content_fault profile_two (leaf_is c.args.leaf) octets ≡ None = sym c.fault.ensures.fault ∙ nothing c.fault.result (sym c.is_some.ensures ∙ c.if-is_some.false) in
    let put = puts_then c.args.out.now c.write_length-start.new.out c.copy.new.out c.args.to start end _ _ c.write_length-start.ensures.put c.copy.ensures.put in
    puts_as _ _ c.args.to end end _ _ put refl (other_written c.args.leaf octets c.requires.other c.fault.ensures.octets right)

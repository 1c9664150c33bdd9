use Rattle.std.proofs.Common.{◌≡◌, ◌∙◌, IsTrue, Option, Some, None, false, is_some, refl, sym, subst, rules}
use Rattle.ber_tree.specs.Octets.{are_octets}
use Rattle.ber_leaf.specs.Leaf.{content_fault}
use Rattle.ill_schema.specs.Profiles.{profile_of}
use Rattle.ber_leaf.specs.declared.fault.LeafFault.{LeafFault}
use Rattle.ill_tables.specs.declared.profile.Profile.TheVariants.{Two}
use Rattle.ill_grammar.specs.LeafTypes.{leaf_is}
use Rattle.ill_read.proofs.ProfileOfPath.{content_two}
use Rattle.ill_walk.proofs.value.put_value.Goals as goal

none_of : (o : Option LeafFault) → is_some o ≡ false → o ≡ None
none_of None e = refl
none_of (Some f) e = absurd cc

pub value-value-requires : goal.value-value-requires
value-value-requires c =
    let none = none_of c.fault.result (sym c.is_some.ensures ∙ c.if-is_some.false) in
    let items : c.in_ok-to_vec.field-0.items ≡ c.args.content.now = search rules in
    let ok = subst (λ o. IsTrue (are_octets o)) (sym items) c.fault.ensures.octets in
    let right = sym c.fault.ensures.fault ∙ none in
    content_two Two _ c.in_ok-to_vec.field-0.items refl (ok, subst (λ o. content_fault (profile_of Two) (leaf_is c.args.leaf) o ≡ None) (sym items) right)

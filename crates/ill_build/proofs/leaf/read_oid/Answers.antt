use Rattle.std.proofs.Common.{◌≡◌, ◌∙◌, IfSome, IsTrue, Some, ap, subst}
use Rattle.json.specs.Value.{value_view}
use Rattle.ber_leaf.specs.Leaf.{is_oid}
use Rattle.ber_tree.specs.Octets.{are_octets}
use Rattle.ill_schema.specs.Profiles.{profile_of}
use Rattle.ill_schema.specs.Texts.{oid_text}
use Rattle.ill_build.proofs.LeafTexts.{oid_read}
use Rattle.ill_build.proofs.leaf.read_oid.Goals as goal

pub returns-in-Some-clause-said : goal.returns-in-Some-clause-said
returns-in-Some-clause-said c row =
    let text = c.in_ok-text.text.now in
    let octets = c.in-Some.octets.items in
    let h : IsTrue (are_octets octets) × IsTrue (is_oid octets) × (text ≡ oid_text octets) =
    subst (λ o. IfSome o (λ octets. IsTrue (are_octets octets.items) × IsTrue (is_oid octets.items) × (text ≡ oid_text octets.items))) c.in-Some.is c.in_ok-octets.ensures.said in
    oid_read (profile_of c.args.context.profile) row (value_view c.args.value.now) octets h.0 h.1 (c.in_ok-text.ensures.said ∙ ap (λ x. Some x) h.2)

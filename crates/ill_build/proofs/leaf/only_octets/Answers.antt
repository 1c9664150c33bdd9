use Rattle.std.proofs.Common.{◌≡◌, Some, IsTrue}
use Rattle.std.proofs.lemmas.Result.{IfOk-weaker}
use Rattle.json.specs.Find.{get}
use Rattle.json.specs.Json.{member, no_members, object, string}
use Rattle.json.specs.Value.{value_view}
use Rattle.ber_tree.specs.Octets.{are_octets}
use Rattle.ill_schema.specs.Texts.{hexadecimal}
use Rattle.ill_build.proofs.LeafTexts.{one_member}
use Rattle.ill_build.proofs.leaf.only_octets.Goals as goal

pub returns-clause-said : goal.returns-clause-said
returns-clause-said c =
    let j = value_view c.args.value.now in
    let name = c.args.name.now in
    IfOk-weaker c.octets_member.result (λ octets. IsTrue (are_octets octets.items) × (get name j ≡ Some (string (hexadecimal octets.items))))
    (λ octets. IsTrue (are_octets octets.items) × (j ≡ object (member name (string (hexadecimal octets.items)) no_members)))
    (λ octets h. (h.0, one_member name j (string (hexadecimal octets.items)) c.in_ok-check_members.ensures.said h.1)) c.octets_member.ensures.said

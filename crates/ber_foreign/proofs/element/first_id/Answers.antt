use Rattle.std.proofs.Common.{◌<◌, get_or, IsTrue, sym, arith}
use Rattle.ber_tree.specs.Octets.{are_octets}
use Rattle.ber_tree.proofs.Octets.{octets_fit}
use Rattle.ber_core.specs.Header.{BeginsWithId}
use Rattle.ber_core.specs.Id.{form_of_id, tag_of_id}
use Rattle.ber_foreign.proofs.Identifiers.{behind_id, front_begins, front_lacks, id_within}
use Rattle.ber_foreign.proofs.element.first_id.Goals as goal

pub split_at-requires : goal.split_at-requires
split_at-requires c =
    let w = c.args.octets.now in
    let id = c.in-Identified.id in
    let ok : IsTrue (are_octets w) = octets_fit w (λ k. let h : get_or w k 0 < 256 = omega (arith, c.type_inv.octets k) in h) in
    let begins : BeginsWithId id w = front_begins w _ _ id ok c.in-Identified.ensures.1 in
    id_within w id _ begins (c.identifier_size.ensures.value (tag_of_id id) (form_of_id id) (sym c.number.ensures))

pub returns-in-Identified : goal.returns-in-Identified
returns-in-Identified c =
    let w = c.args.octets.now in
    let id = c.in-Identified.id in
    let ok : IsTrue (are_octets w) = octets_fit w (λ k. let h : get_or w k 0 < 256 = omega (arith, c.type_inv.octets k) in h) in
    let begins : BeginsWithId id w = front_begins w _ _ id ok c.in-Identified.ensures.1 in
    behind_id w _ id _ begins (c.identifier_size.ensures.value (tag_of_id id) (form_of_id id) (sym c.number.ensures)) c.split_at.ensures.back

pub returns-in-NoIdentifier : goal.returns-in-NoIdentifier
returns-in-NoIdentifier c =
    front_lacks c.args.octets.now c.min.result c.read_header.result c.read_header.ensures c.in-NoIdentifier.is (λ n few le. omega (arith, c.min.ensures))

use Rattle.std.proofs.Common.{◌≡◌, ◌+◌, ◌*◌, ◌∷◌, ◌≤◌, Err, arith, codes, length, rules, subst, sym}
use Rattle.json.specs.Find.{as_str}
use Rattle.json.specs.Value.{value_view}
use Rattle.ber_leaf.specs.Leaf.{cleared_last}
use Rattle.ill_schema.specs.Profiles.{profile_of}
use Rattle.ill_build.specs.declared.cause.BuildCause.{BuildCause}
use Rattle.ill_build.specs.Faulty.{IsBitsFault, IsFaultOf, IsHexadecimalFault, IsMemberFault}
use Rattle.ill_build.proofs.LeafNumbers.{bits_read, bits_refused, octets_refused}
use Rattle.ill_build.proofs.LeafTexts.{exit_refused}
use Rattle.ill_build.proofs.Refusals.{here}
use Rattle.ill_build.proofs.leaf.read_bits.Goals as goal

pub returns-in_err-octets-clause-refused : goal.returns-in_err-octets-clause-refused
returns-in_err-octets-clause-refused c =
    let p = profile_of c.args.context.profile in
    let j = value_view c.args.value.now in
    let stop = c.in_err-octets.field-0.0 in
    let count = c.in_ok-count.ensures.said in
    let is : c.from_residual-in_err-octets.result ≡ Err stop = grind arith in
    exit_refused c.from_residual-in_err-octets.result stop (IsMemberFault (codes "octets") (λ k. IsFaultOf (as_str k) IsHexadecimalFault) j) (IsBitsFault p j) is
    (octets_refused p j c.in_ok-count.count c.in_ok-check_members.ensures.said count.0 count.1) c.in_err-octets.ensures.refused

pub returns-in_default-clause-refused : goal.returns-in_default-clause-refused
returns-in_default-clause-refused c =
    let p = profile_of c.args.context.profile in
    let j = value_view c.args.value.now in
    let o = c.in_ok-octets.octets.items in
    let count = c.in_ok-count.ensures.said in
    let octets = c.in_ok-octets.ensures.said in
    here c.refused.result BuildCause.BadBits (IsBitsFault p j) c.refused.ensures
    (bits_refused p j c.in_ok-count.count o c.in_ok-check_members.ensures.said count.0 count.1 octets.0 octets.1 (λ u e few clear.
    let back = sym c.deref.ensures.value in
    c.in_default.ensures.none u (subst (λ x. 8 * length x ≡ c.in_ok-count.count + u) back e) few (subst (λ x. cleared_last u x ≡ x) back clear)))

pub returns-clause-said : goal.returns-clause-said
returns-clause-said c row =
    let p = profile_of c.args.context.profile in
    let j = value_view c.args.value.now in
    let o = c.in_ok-octets.octets.items in
    let n = c.in_ok-count.count in
    let u = c.in-Some.unused in
    let count = c.in_ok-count.ensures.said in
    let octets = c.in_ok-octets.ensures.said in
    let fill : (8 * length o ≡ n + u) × (u ≤ 7) × (cleared_last u o ≡ o) = subst (λ x. (8 * length x ≡ n + u) × (u ≤ 7) × (cleared_last u x ≡ x)) c.deref.ensures.value c.in-Some.ensures.some in
    let contents : c.extend_from_slice.new.self.items ≡ u ∷ o = search rules in
    bits_read p row j n u o c.extend_from_slice.new.self.items c.in_ok-check_members.ensures.said count.0 count.1 octets.0 octets.1 fill.0 fill.1 fill.2 contents

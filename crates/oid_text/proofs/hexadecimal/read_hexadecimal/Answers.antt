use Rattle.std.proofs.Common.{◌<◌, length, arith}
use Rattle.std.proofs.lemmas.Bool.Decides.{nat_tests}
use Rattle.oid_text.proofs.HexDigits.{hexadecimal_more, no_octets, octets_behind, octets_more}
use Rattle.oid_text.proofs.hexadecimal.read_hexadecimal.Goals as goal

pub returns-in_default-clause-unsaid : goal.returns-in_default-clause-unsaid
returns-in_default-clause-unsaid c all ok e =
    let some : 0 < length c.octets.left.now = grind (arith, nat_tests) in
    let rest = c.octets.invariant.back all ok e in
    no_octets c.octets.left.now rest.0 some c.in_default.ensures rest.1 rest.2

pub octets-preserved : goal.octets-preserved
octets-preserved c =
    let now = c.in_ok-push.ensures.items in
    let small = c.in-Some.ensures.0 in
    record {
      ok = octets_more c.octets.octets.items c.push.new.self.items c.in-Some.octet c.octets.invariant.ok small now;
      joined = hexadecimal_more c.args.text.now c.octets.octets.items c.push.new.self.items c.octets.left.now c.in-Some.rest.now c.in-Some.octet c.octets.invariant.joined c.in-Some.ensures.1 now;
      back = λ all ok e. let rest = c.octets.invariant.back all ok e in octets_behind c.octets.left.now c.in-Some.rest.now c.in-Some.octet rest.0 small c.in-Some.ensures.1 rest.1 rest.2;
    }

use Rattle.std.proofs.Common.{◌≡◌, Err, IsTrue, arith, codes, subst}
use Rattle.json.specs.Value.{value_view}
use Rattle.ber_core.specs.Der.{encoding}
use Rattle.ber_core.specs.Foreign.{foreign_levels, is_foreign}
use Rattle.ber_tree.specs.Tree.{Tree}
use Rattle.ill_build.specs.declared.cause.BuildCause.{BuildCause}
use Rattle.ill_build.specs.Faulty.{IsForeignFault, IsHexadecimalFault, IsOctetsFault}
use Rattle.ill_build.specs.Path.{named}
use Rattle.ill_build.proofs.LeafTexts.{exit_refused, no_hexadecimal, no_tree}
use Rattle.ill_build.proofs.Refusals.{at_step}
use Rattle.ill_build.proofs.leaf.read_foreign.Goals as goal

pub returns-in_err-octets-clause-refused : goal.returns-in_err-octets-clause-refused
returns-in_err-octets-clause-refused c =
    let j = value_view c.args.value.now in
    let stop = c.in_err-octets.field-0.0 in
    let is : c.from_residual.result ≡ Err stop = grind arith in
    exit_refused c.from_residual.result stop (IsOctetsFault (codes "foreign") IsHexadecimalFault j) (IsOctetsFault (codes "foreign") IsForeignFault j) is (no_hexadecimal j) c.in_err-octets.ensures.refused

pub returns-clause-refused : goal.returns-clause-refused
returns-clause-refused c =
    let j = value_view c.args.value.now in
    let octets = c.in_ok-octets.octets.items in
    let h = c.in_ok-octets.ensures.said in
    let none : (T : Tree) → IsTrue (is_foreign foreign_levels T) → octets ≡ encoding T → ⊥ =
    subst (λ o. (T : Tree) → IsTrue (is_foreign foreign_levels T) → o ≡ encoding T → ⊥) c.deref.ensures.value (c.is_foreign_encoding.ensures.no c.if-is_foreign_encoding.false) in
    at_step c.refused.result c.within.result BuildCause.BadForeign (named (codes "foreign")) (IsOctetsFault (codes "foreign") IsForeignFault j) c.refused.ensures c.within.ensures (no_tree j octets h.0 h.1 none)

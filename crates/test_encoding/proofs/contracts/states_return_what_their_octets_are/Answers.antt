use Rattle.std.proofs.Common.{[], ◌∷◌, ◌++◌}
use Rattle.ber_core.proofs.Headers.{one_judgment}
use Rattle.test_encoding.proofs.contracts.states_return_what_their_octets_are.Goals as goal

-- src/tests/contracts.rt:52:1
pub returns : goal.returns
returns c =
    let b = c.requires.fed in
    one_judgment (b.0 ++ c.args.octet ∷ []) c.push.result c.push-2.result (c.push.ensures.judged b.0 b.1) (c.push-2.ensures.judged b.0 b.2)

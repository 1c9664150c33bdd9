use Rattle.std.proofs.Common.{[], subst}
use Rattle.ill_schema.specs.Apdu.{IsStream}
use Rattle.ill_schema.specs.Profiles.{profile_of}
use Rattle.test_commands.proofs.Dumped.{apdus_of, fails, reads, whole}
use Rattle.test_commands.proofs.dump.contracts.inputs_end_in_one_way.Goals as goal

pub returns : goal.returns
returns c e p q =
    let first = reads c.args.dump c.args.source.now.octets c.run_dump.new.source.octets _ _ _ c.run_dump.result c.requires.plain c.run_dump.ensures.reads in
    let second = reads c.args.dump c.args.other.now.octets c.run_dump-2.new.source.octets _ _ _ c.run_dump-2.result c.requires.plain c.run_dump-2.ensures.reads in
    let all = whole c.args.dump c.args.source.now.octets _ _ _ _ c.run_dump.result c.requires.ends first c.requires.all p in
    let same = subst (λ l. IsStream (profile_of c.args.dump.profile) l (apdus_of first.items) []) c.requires.same all.0 in
    fails c.args.dump c.args.other.now.octets _ _ _ _ c.run_dump-2.result c.requires.ends second (apdus_of first.items) same all.1 e q

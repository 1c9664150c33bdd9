use Rattle.std.proofs.Common.{◌≡◌, None, subst}
use Rattle.ber_leaf.specs.Leaf.{content_fault}
use Rattle.ber_leaf.specs.Profile.{profile_two}
use Rattle.ber_leaf.proofs.Integers.{integer_size}
use Rattle.ber_leaf.proofs.Leaves.{one_octet}
use Rattle.ill_schema.specs.Profiles.{profile_of}
use Rattle.ill_grammar.specs.LeafTypes.{leaf_is}
use Rattle.ill_grammar.proofs.leaf_type.LeafType.is_number.Goals as goal

pub read-requires : goal.read-requires
read-requires c =
    let o = c.args.octets.now in
    one_octet o (subst (λ l. content_fault (profile_of c.requires.0) (leaf_is l) o ≡ None) c.in-Boolean.is c.requires.1.1)

pub read-requires-in-Integer : goal.read-requires-in-Integer
read-requires-in-Integer c =
    let o = c.args.octets.now in
    let size = integer_size profile_two o (subst (λ l. content_fault (profile_of c.requires.0) (leaf_is l) o ≡ None) c.in-Integer.is c.requires.1.1) in
    record { some = size.0; few = size.1 }

pub read-requires-in-Enumerated : goal.read-requires-in-Enumerated
read-requires-in-Enumerated c =
    let o = c.args.octets.now in
    let size = integer_size profile_two o (subst (λ l. content_fault (profile_of c.requires.0) (leaf_is l) o ≡ None) c.in-Enumerated.is c.requires.1.1) in
    record { some = size.0; few = size.1 }

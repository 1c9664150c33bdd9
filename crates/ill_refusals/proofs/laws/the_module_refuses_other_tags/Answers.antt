use Rattle.ber_leaf.specs.Profile.{profile_two}
use Rattle.ill_refusals.proofs.laws.the_module_refuses_other_tags.Goals as goal
use Rattle.ill_refusals.proofs.MirrorRuns.{other_tags}
use Rattle.ill_refusals.proofs.SpelledOctets.{encoding_octets}

pub returns : goal.returns
returns c = λ a octets h plain. other_tags octets a (encoding_octets profile_two a octets h.encodes) h.encodes plain

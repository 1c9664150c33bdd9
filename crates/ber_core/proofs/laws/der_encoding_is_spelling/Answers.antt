use Rattle.ber_core.proofs.Encodings.{encoding_spells, length-encoding}
use Rattle.ber_core.proofs.laws.der_encoding_is_spelling.Goals as goal

pub returns-clause-spells : goal.returns-clause-spells
returns-clause-spells c = encoding_spells

pub returns-clause-size : goal.returns-clause-size
returns-clause-size c = length-encoding

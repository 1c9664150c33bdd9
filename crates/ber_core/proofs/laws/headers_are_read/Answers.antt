use Rattle.ber_core.proofs.ReadHeaders.{identifiers_are_read, lengths_are_read}
use Rattle.ber_core.proofs.laws.headers_are_read.Goals as goal

pub returns : goal.returns
returns c = record { identifiers = identifiers_are_read; lengths = lengths_are_read }

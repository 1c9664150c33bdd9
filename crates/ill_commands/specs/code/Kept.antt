-- The octets that are kept of a line that is a message in hexadecimal.
use Rattle.std.specs.Prelude.{◌<◌}
use Rattle.std.proofs.Common.{lit≤}

-- some of it is kept
pub kept_some : 0 < 4_194_305
kept_some = lit≤ tt

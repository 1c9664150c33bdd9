-- The octets that are kept of a line of JSON.
use Rattle.std.specs.Prelude.{◌<◌}
use Rattle.std.proofs.Common.{lit≤}

-- some of it is kept
pub kept_some : 0 < 16_777_217
kept_some = lit≤ tt

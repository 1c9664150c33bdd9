-- How many elements are open.
use Rattle.std.specs.Prelude.{ℕ, length}
use Rattle.ill_read.specs.declared.decoder.Decoder.{Decoder}
use Rattle.ill_read.specs.declared.reader.Reader.{Reader}

-- of a message that a reader goes through
abbrev pub open_count : {D : Type 0} → Reader D → ℕ
open_count reader = length reader.path.frames.open.items

-- of the message that a decoder is fed
abbrev pub open_in : Decoder → ℕ
open_in d = open_count d.reader

-- The version of the library.
use Rattle.std.specs.Prelude.{ℕ, List, codes}

-- its text, which is that of the program
abbrev pub version : List ℕ
version = codes "0.2.0"

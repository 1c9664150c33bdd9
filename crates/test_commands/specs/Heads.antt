-- Lines of messages that begin with their heads.
use Rattle.std.specs.Prelude.{◌≡◌, ℕ, zero, suc, ◌+◌, List, [], ◌++◌}
use Rattle.ill_dump.specs.Dumped.{head}
use Rattle.ill_dump.specs.declared.run.DumpOptions.{DumpOptions}

-- the lines of so many messages, of which the first is message i: for each its head, and more
abbrev pub AreHeaded : DumpOptions → ℕ → ℕ → List ℕ → Type 0
AreHeaded dump i zero lines = lines ≡ []
AreHeaded dump i (suc n) lines =
    (more : List ℕ) × (rest : List ℕ) × (lines ≡ head dump i ++ more ++ rest) × AreHeaded dump (i + 1) n rest

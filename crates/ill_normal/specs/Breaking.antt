-- What is said of a sink that didn't take all.
use Rattle.std.specs.Prelude.{Bool, IsTrue}
use Rattle.ill_normal.specs.declared.write_items.PutError.{PutError}

-- where the sink broke, it is broken
abbrev pub BreaksSink : Bool → PutError → Type 0
BreaksSink broken PutError.OutOfMemory = Unit {0}
BreaksSink broken (PutError.Broken n) = IsTrue broken

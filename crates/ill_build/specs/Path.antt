-- Places in a value of JSON, as a JSON pointer says them (RFC 6901), and what is refused there.
use Rattle.std.specs.Prelude.{ℕ, List, map, reverse, Option, Some, None, Result, Ok, Err}
use Rattle.ill_build.specs.declared.cause.BuildCause.{BuildCause}
use Rattle.ill_build.specs.declared.stop.Step.{Step as Taken}
use Rattle.ill_build.specs.declared.stop.Step.TheVariants.{Name, Item}
use Rattle.ill_build.specs.declared.stop.Stop.{Stop}
use Rattle.ill_build.specs.declared.stop.Stop.TheVariants.{OutOfMemory, Refused}

-- a step from a value to one inside it: to the member of this name, or to the item of this number, from 0
pub data Step : Type 0 where
  named : List ℕ → Step
  indexed : ℕ → Step

abbrev pub step_of : Taken → Step
step_of (Name name) = named name.now
step_of (Item i) = indexed i

-- the cause and the path of what is refused, None where memory ran out
abbrev pub refusal_of : Stop → Option (BuildCause × List Step)
refusal_of OutOfMemory = None
refusal_of (Refused fault) = Some (fault.cause, map step_of (reverse fault.steps.items))

-- what is refused is this cause at this path, unless memory ran out
abbrev pub OnRefused : Stop → (BuildCause → List Step → Type 0) → Type 0
OnRefused OutOfMemory P = Unit {0}
OnRefused (Refused fault) P = P fault.cause (map step_of (reverse fault.steps.items))

-- the same of a result, if it is no success
abbrev pub OnRefusal : {A : Type 0} → Result A Stop → (BuildCause → List Step → Type 0) → Type 0
OnRefusal (Ok x) P = Unit {0}
OnRefusal (Err stop) P = OnRefused stop P

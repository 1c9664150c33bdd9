-- What refuses one of two messages.
use Rattle.std.specs.Prelude.{ℕ, List}
use Rattle.ill_schema.specs.Apdu.{Apdu, SpellsApdu}
use Rattle.ill_refusals.specs.Fault.{Fault}
use Rattle.ber_leaf.specs.Profile.{Profile, profile_two}
use Rattle.ill_read.specs.Answers.{RefusesWholeIn}
use Rattle.ill_inputs.specs.declared.side.Side.{Side}

-- the second side is judged where the first is a spelling
abbrev pub RefusesSideIn : Profile → List ℕ → List ℕ → Side → Fault → Type 0
RefusesSideIn p s t Side.First f = RefusesWholeIn p s f
RefusesSideIn p s t Side.Second f = ((a : Apdu) × SpellsApdu p a s) × RefusesWholeIn p t f

abbrev pub RefusesSide : List ℕ → List ℕ → Side → Fault → Type 0
RefusesSide s t side f = RefusesSideIn profile_two s t side f

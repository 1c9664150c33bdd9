-- How much of a source is taken.
use Rattle.std.proofs.Common.{◌≡◌, ℕ, ◌+◌, ◌≤◌, List, ◌++◌, length, Option, None, Some, refl, arith, length-append}
use Rattle.std.specs.Io.KnownBytes.{Consumes}
use Rattle.std.proofs.KnownBytes.{Consumes-trans}
use Rattle.ill_inputs.specs.TakenOctets.{TakesAtMost}

-- some octets were taken, and then some more
pub takes_more : (n : ℕ) (left left' left'' : Option (List ℕ)) (bs cs : List ℕ) → Consumes left left' bs → Consumes left' left'' cs
    → length bs + length cs ≤ n → TakesAtMost n left left''
takes_more n left left' left'' bs cs h k le = (bs ++ cs, Consumes-trans left left' left'' bs cs h k, omega (arith, le, length-append bs cs))

-- what comes before what is left now
pub front : (s : List ℕ) (new : Option (List ℕ)) (b : List ℕ) → Consumes (Some s) new b → (t : List ℕ) × (s ≡ b ++ t) × (new ≡ Some t)
front s None b h = absurd h
front s (Some t) b h = (t, h, refl)

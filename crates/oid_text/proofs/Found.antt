-- What is found, or not.
use Rattle.std.proofs.Common.{◌≡◌, Bool, true, false, Option, Some, None, refl, sym, subst}
use Rattle.std.specs.Bool.{then_some}
use Rattle.std.specs.Prelude.{IfNone}

-- what holds where a test fails holds where nothing is found
pub none_unless : {A : Type 0} (o : Option A) (b : Bool) (v : A) (P : Type 0) → o ≡ then_some b v → (b ≡ false → P) → IfNone o P
none_unless o true v P e h = subst (λ z. IfNone z P) (sym e) tt
none_unless o false v P e h = subst (λ z. IfNone z P) (sym e) (h refl)

-- a weaker fact, where nothing is found
pub none_then : {A P Q : Type 0} (o : Option A) → (P → Q) → IfNone o P → IfNone o Q
none_then None f h = f h
none_then (Some v) f h = tt

-- The views of the builder's types.
use Rattle.std.specs.Prelude.{ℕ, List, map}
use Rattle.std.specs.Borrow.{Bor}
use Rattle.json.specs.declared.value.Value.{Value}
use Rattle.ill_build.specs.declared.members.Known.{Known as Taken}
use Rattle.ill_build.specs.declared.members.Known.TheVariants.{Rows, Names}
use Rattle.ill_build.specs.Members.{Known, of_type, of_names}

abbrev pub known_of : Taken → Known
known_of (Rows node) = of_type node
known_of (Names all) = of_names (map (λ name. name.now) all.now)

abbrev pub name_of_member : {A : Type 0} → Bor (List ℕ) × Value A → List ℕ
name_of_member m = m.0.now

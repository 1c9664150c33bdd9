-- A test whether octets are a normal form.
use Rattle.std.proofs.Common.{◌≡◌, ◌↔◌, ℕ, Bool, List, IsTrue}
use Rattle.std.specs.Str.{bytes_eq}
use Rattle.std.proofs.lemmas.Slice.Eq.{bytes_eq-Decides}
use Rattle.std.proofs.lemmas.Bool.Decides.{same_from_decides}

pub tests_equality : (r : Bool) (xs ys : List ℕ) → IsTrue r ↔ (xs ≡ ys) → r ≡ bytes_eq xs ys
tests_equality r xs ys h = same_from_decides r (bytes_eq xs ys) (h.0, h.1) (bytes_eq-Decides xs ys)

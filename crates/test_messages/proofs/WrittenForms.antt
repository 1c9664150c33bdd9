-- What is written of an input that accepts a message.
use Rattle.std.proofs.Common.{◌≡◌, ◌∙◌, ℕ, [], ◌++◌, length, List, Option, Some, None, Ok, Err, IfOk, IfSome, IfNone, Result, ap}
use Rattle.std.specs.Io.KnownBytes.{Appends, Consumes, IsAtEnd, Keeps}
use Rattle.ber_leaf.specs.Profile.{Profile}
use Rattle.ill_schema.specs.Apdu.{Apdu, Accepts, SpellsApdu, normal_form_in}
use Rattle.ill_schema.proofs.Streams.{accepts_some}
use Rattle.ill_normal.specs.declared.failure.NormalFailure.{NormalFailure}
use Rattle.test_messages.proofs.Accepted.{taken_once}

pub normalised : (p : Profile) (s t old new : List ℕ) (a : Apdu) (n : ℕ) (r : Result (Option ℕ) NormalFailure) → Accepts p s a n
    → IfOk r (λ found. IfSome found (λ m. (b : Apdu) × (o : List ℕ) × SpellsApdu p b o × Consumes (Some s) (Some t) o
    × Appends (Some old) (Some new) (normal_form_in p b) × (m ≡ length (normal_form_in p b))))
    → IfOk r (λ found. IfNone found (Consumes (Some s) (Some t) [] × IsAtEnd (Some t) × Keeps (Some old) (Some new)))
    → IfOk r (λ found. (found ≡ Some (length (normal_form_in p a))) × (new ≡ old ++ normal_form_in p a))
normalised p s t old new a n (Ok (Some m)) h some none =
    let one = taken_once p s t some.1 a some.0 n some.3 some.2 h in
    (ap Some (some.5 ∙ ap (λ z. length (normal_form_in p z)) one.0), some.4 ∙ ap (λ z. old ++ normal_form_in p z) one.0)
normalised p s t old new a n (Ok None) h some none = absurd (accepts_some p s a n (none.0 ∙ none.1) h)
normalised p s t old new a n (Err e) h some none = some

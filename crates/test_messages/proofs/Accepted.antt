-- What a known input accepts, of what a call says that it took.
use Rattle.std.proofs.Common.{◌≡◌, ℕ, List, length, take, Some, Result, Ok, Err, IfOk, sym, ap, ◌∙◌}
use Rattle.std.specs.Io.KnownBytes.{Consumes}
use Rattle.ber_leaf.specs.Profile.{Profile}
use Rattle.ill_schema.specs.Apdu.{Apdu, Accepts, SpellsApdu}
use Rattle.ill_schema.proofs.Streams.{accepts_once, parts_accept, take_front}

-- what holds of a good result holds of it with what follows
pub if_ok : {T E : Type 0} (r : Result T E) (P Q : T → Type 0) → ((x : T) → P x → Q x) → IfOk r P → IfOk r Q
if_ok (Ok x) P Q h p = h x p
if_ok (Err e) P Q h p = p

-- what was taken off the front of known octets, and spells an APDU, is what they accept
pub taken_once : (p : Profile) (s t b : List ℕ) (a c : Apdu) (n : ℕ) → Consumes (Some s) (Some t) b → SpellsApdu p c b → Accepts p s a n
    → (c ≡ a) × (length b ≡ n) × (b ≡ take n s)
taken_once p s t b a c n taken spells accepts =
    let one = accepts_once p s c a (length b) n (parts_accept p s c b t taken spells) accepts in
    (one.0, one.1, sym (take_front b t) ∙ ap (take (length b)) (sym taken) ∙ ap (λ k. take k s) one.1)

-- Messages with their defaults.
use Rattle.std.proofs.Common.{◌≡◌, ℕ, ◌<◌, ◌≤◌, ◌^◌, List, length, Result, Ok, Err, OnOk, arith, lit<, subst}
use Rattle.ill_schema.specs.Apdu.{Apdu, SpellsApdu, normal_form_in}
use Rattle.ill_schema.specs.Profiles.{profile_of}
use Rattle.ill_schema.proofs.Encodings.{normal_unique}
use Rattle.ill_schema.proofs.MeansFits.{means_apdu_fits}
use Rattle.ill_tables.specs.declared.profile.Profile.{Profile}

pub whatever : {T E : Type 0} (r : Result T E) (P : Type 0) → P → OnOk r P
whatever (Ok t) P p = p
whatever (Err e) P p = tt

few : (n : ℕ) → n ≤ 1_048_576 → n < 256 ^ 126
few n h = let k : 1_048_576 < 256 ^ 126 = lit< tt in le_lt n 1_048_576 (256 ^ 126) h k
  where
    le_lt : (a b c : ℕ) → a ≤ b → b < c → a < c
    le_lt a b c h k = omega arith

-- octets with the normal form of an APDU spell it
pub spelled_again : (q : Profile) (a b : Apdu) (x y : List ℕ) → SpellsApdu (profile_of q) a x → SpellsApdu (profile_of q) b y
    → normal_form_in (profile_of q) b ≡ normal_form_in (profile_of q) a → SpellsApdu (profile_of q) a y
spelled_again q a b x y h k e =
    let p = profile_of q in
    let one = normal_unique p b a (means_apdu_fits p b k.encodes.tree k.encodes.means) (means_apdu_fits p a h.encodes.tree h.encodes.means)
    (few (length (normal_form_in p b)) k.normal_short) (few (length (normal_form_in p a)) h.normal_short) e in
    subst (λ c. SpellsApdu p c y) one k

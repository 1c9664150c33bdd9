-- Normal forms are canonical.
use Rattle.std.proofs.Common.{◌≡◌, ◌↔◌, ℕ, ◌<◌, ◌≤◌, ◌^◌, List, [], length, Err, refl, sym, ap, ◌∙◌, inl, inr, arith, lit<}
use Rattle.ber_leaf.specs.Profile.{Profile}
use Rattle.ill_schema.specs.Profiles.{profile_of}
use Rattle.ill_tables.specs.declared.profile.Profile.{Profile as Named}
use Rattle.ill_tables.specs.declared.profile.Profile.TheVariants.{Two, Module}
use Rattle.ill_schema.specs.Apdu.{Apdu, SpellsApdu, Accepts, normal_form_in}
use Rattle.ill_schema.specs.declared.refusal.Cause.{Cause}
use Rattle.ill_schema.proofs.MeansFits.{means_apdu_fits}
use Rattle.ill_schema.proofs.Encodings.{normal_spells, normal_unique}
use Rattle.ill_schema.proofs.OneMeaning.{one_message}
use Rattle.ill_schema.proofs.Streams.{accepts_once}
use Rattle.ill_refusals.specs.Fault.{Fault, fault}
use Rattle.ill_read.proofs.Accepted.{whole_accepted}
use Rattle.ill_read.specs.declared.failure.Failure.{Failure}
use Rattle.ill_read.specs.Answers.{IfRefused, NormalAnswersIn, RefusesWholeIn}

short : (n : ℕ) → n ≤ 1_048_576 → n < 256 ^ 126
short n h = let k : 1_048_576 < 256 ^ 126 = lit< tt in le_lt n 1_048_576 (256 ^ 126) h k
  where
    le_lt : (a b c : ℕ) → a ≤ b → b < c → a < c
    le_lt a b c h k = omega arith

pub one_normal : (q : Named) (a b : Apdu) (x y : List ℕ) → SpellsApdu (profile_of q) a x → SpellsApdu (profile_of q) b y → normal_form_in (profile_of q) a ≡ normal_form_in (profile_of q) b → a ≡ b
one_normal q a b x y h k e =
    let p = profile_of q in
    normal_unique p a b (means_apdu_fits p a h.encodes.tree h.encodes.means) (means_apdu_fits p b k.encodes.tree k.encodes.means)
    (short (length (normal_form_in p a)) h.normal_short) (short (length (normal_form_in p b)) k.normal_short) e

small_limit : (q : Named) → (profile_of q).limit < 256 ^ 126
small_limit Two = lit< tt
small_limit Module = lit< tt

module _ (q : Named) where
  abbrev p : Profile
  p = profile_of q

  pub exactly : (a b : Apdu) (x y : List ℕ) → SpellsApdu p a x → SpellsApdu p b y → (normal_form_in p a ≡ normal_form_in p b) ↔ (a ≡ b)
  exactly a b x y h k = (one_normal q a b x y h k, ap (normal_form_in p))

  pub spells_normal : (a : Apdu) (x : List ℕ) → SpellsApdu p a x → SpellsApdu p a (normal_form_in p a)
  spells_normal a x h = normal_spells p a (means_apdu_fits p a h.encodes.tree h.encodes.means) (small_limit q) h.normal_short

  pub accepts_normal : (a : Apdu) (x : List ℕ) → SpellsApdu p a x → Accepts p (normal_form_in p a) a (length (normal_form_in p a))
  accepts_normal a x h = whole_accepted p a (normal_form_in p a) (spells_normal a x h)

-- octets spell one APDU
pub spells_once : {p : Profile} (a b : Apdu) (s : List ℕ) → SpellsApdu p a s → SpellsApdu p b s → a ≡ b
spells_once {p = p} a b s h k = (one_message p a b s s [] [] h.encodes k.encodes refl).0

pub own_normal : (q : Named) (a b : Apdu) (x : List ℕ) → SpellsApdu (profile_of q) a x → SpellsApdu (profile_of q) b (normal_form_in (profile_of q) a)
    → normal_form_in (profile_of q) b ≡ normal_form_in (profile_of q) a
own_normal q a b x h k =
    let p = profile_of q in
    ap (normal_form_in p) (spells_once b a (normal_form_in p a) k (spells_normal q a x h))

-- what refuses a slice
pub normal_refuses : (p : Profile) (s : List ℕ) (e : Failure) → NormalAnswersIn p s (Err e) → IfRefused e (RefusesWholeIn p s)
normal_refuses p s (Failure.Refused refusal) h = h
normal_refuses p s Failure.OutOfMemory h = tt

-- what compares normal forms compares APDUs
pub compared_forms : (q : Named) (a b : Apdu) (x y s t : List ℕ) (P : Type 0) → SpellsApdu (profile_of q) a s → SpellsApdu (profile_of q) b t → x ≡ normal_form_in (profile_of q) a → y ≡ normal_form_in (profile_of q) b
    → P ↔ (x ≡ y) → (P ↔ (a ≡ b)) × (P ↔ (normal_form_in (profile_of q) a ≡ normal_form_in (profile_of q) b))
compared_forms q a b x y s t P h k x_is y_is e =
    let form = normal_form_in (profile_of q) in
    let forward : P → form a ≡ form b = λ p. sym x_is ∙ e.0 p ∙ y_is in
    let back : form a ≡ form b → P = λ n. e.1 (x_is ∙ n ∙ sym y_is) in
    ((λ p. one_normal q a b s t h k (forward p), λ n. back (ap form n)), (forward, back))

-- octets are refused whole in one way
pub refuses_once : {p : Profile} (s : List ℕ) (f g : Fault) → RefusesWholeIn p s f → RefusesWholeIn p s g → f ≡ g
refuses_once {p = p} s f g (inl only) (inl other) = other.1 f only.0
refuses_once {p = p} s f g (inl only) (inr (b, n, accepts, lt, e)) = absurd (only.2 b n accepts)
refuses_once {p = p} s f g (inr (a, m, accepts, lt, e)) (inl other) = absurd (other.2 a m accepts)
refuses_once {p = p} s f g (inr (a, m, h, lt, e)) (inr (b, n, k, lt', e')) =
    let same = (accepts_once p s a b m n h k).1 in
    e ∙ ap (λ (x : ℕ). fault Cause.TrailingBytes x) same ∙ sym e'

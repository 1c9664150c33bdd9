-- What is read at the front of an input that accepts a message.
use Rattle.std.proofs.Common.{◌≡◌, ◌↔◌, ◌∙◌, ℕ, Bool, IsTrue, List, ◌++◌, Option, Some, None, Ok, Err, IfOk, Result, drop, length, take, sym, ap, subst}
use Rattle.ber_leaf.specs.Profile.{Profile, profile_two}
use Rattle.ill_schema.specs.Apdu.{Apdu, Accepts, SpellsApdu, normal_form, normal_form_in}
use Rattle.ill_schema.proofs.Streams.{accepts_some, drop_front}
use Rattle.ill_read.specs.Answers.{IsNormalOf, ReadsNext, ReadsNextIn}
use Rattle.ill_read.specs.declared.failure.ReadFailure.{ReadFailure}
use Rattle.ill_read.specs.declared.normal.NormalForm.{NormalForm}
use Rattle.ill_normal.specs.Checking.{DescribesIn}
use Rattle.ill_normal.specs.declared.check.Checked.{Checked}
use Rattle.ill_normal.proofs.Canonical.{spells_once}
use Rattle.test_messages.proofs.Accepted.{taken_once}

-- something was read, and this holds of it
abbrev pub IsFound : {T : Type 0} → (T → Type 0) → Option T → Type 0
IsFound P found = elim found as (λ _. Type 0) [ Some x ↦ P x | None ↦ ⊥ ]

-- what was read is of the message at the front, and no octet after that message was taken
pub front : {T : Type 0} (p : Profile) (Is : T → List ℕ → Type 0) (P : T → Type 0) (s t : List ℕ) (broken broken' : Bool) (a : Apdu) (n : ℕ) (r : Result (Option T) ReadFailure)
    → ((x : T) (b : List ℕ) → Is x b → (c : Apdu) × SpellsApdu p c b)
    → ((x : T) → Is x (take n s) → length (take n s) ≡ n → t ≡ drop n s → P x)
    → Accepts p s a n → ReadsNextIn p (Some s) (Some t) broken broken' Is r → IfOk r (IsFound P)
front p Is P s t broken broken' a n (Ok (Some x)) spells holds h next =
    let o = next.message.0 in let taken = next.message.1 in let is = next.message.2 in
    let one = taken_once p s t o a (spells x o is).0 n taken (spells x o is).1 h in
    holds x (subst (Is x) one.2 is) (ap length (sym one.2) ∙ one.1) (sym (drop_front o t) ∙ ap (drop (length o)) (sym taken) ∙ ap (λ k. drop k s) one.1)
front p Is P s t broken broken' a n (Ok None) spells holds h next = absurd (accepts_some p s a n (next.none.0 ∙ next.none.1) h)
front p Is P s t broken broken' a n (Err e) spells holds h next = tt

pub normal_front : (s t : List ℕ) (broken broken' : Bool) (a : Apdu) (n : ℕ) (r : Result (Option NormalForm) ReadFailure) → Accepts profile_two s a n
    → ReadsNext (Some s) (Some t) broken broken' IsNormalOf r → IfOk r (IsFound (λ x. (x.octets.items ≡ normal_form a) × (x.input_len ≡ n) × (t ≡ drop n s)))
normal_front s t broken broken' a n r h next = front profile_two IsNormalOf _ s t broken broken' a n r
    (λ x b is. (is.0, is.1))
    (λ x is size rest. (is.2 ∙ ap normal_form (spells_once is.0 a (take n s) is.1 h.1), is.3 ∙ size, rest)) h next

-- the octets of the message are kept besides
pub kept_front : (s t old new : List ℕ) (broken broken' : Bool) (a : Apdu) (n : ℕ) (r : Result (Option NormalForm) ReadFailure) → Accepts profile_two s a n
    → ReadsNext (Some s) (Some t) broken broken' (λ x b. IsNormalOf x b × (new ≡ old ++ b)) r
    → IfOk r (IsFound (λ x. (x.octets.items ≡ normal_form a) × (x.input_len ≡ n) × (t ≡ drop n s) × (new ≡ old ++ take n s)))
kept_front s t old new broken broken' a n r h next = front profile_two (λ x b. IsNormalOf x b × (new ≡ old ++ b)) _ s t broken broken' a n r
    (λ x b is. (is.0.0, is.0.1))
    (λ x is size rest. (is.0.2 ∙ ap normal_form (spells_once is.0.0 a (take n s) is.0.1 h.1), is.0.3 ∙ size, rest, is.1)) h next

-- what is said of the octets of an APDU
pub described : (p : Profile) (x : Checked) (a : Apdu) (b : List ℕ) (n : ℕ) → length b ≡ n → SpellsApdu p a b → DescribesIn p x b
    → (x.apdu ≡ a.number) × (x.octets ≡ n) × (x.normal ≡ length (normal_form_in p a)) × (IsTrue x.is_normal ↔ (b ≡ normal_form_in p a))
described p x a b n size h is =
    let one = spells_once is.0 a b is.1 h in
    (is.2 ∙ ap (λ z. z.number) one, is.3 ∙ size, is.4 ∙ ap (λ z. length (normal_form_in p z)) one, subst (λ z. IsTrue x.is_normal ↔ (b ≡ normal_form_in p z)) one is.5)

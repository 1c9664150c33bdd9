-- An input that is refused has one refusal.
use Rattle.std.proofs.Common.{◌≡◌, ◌<◌, ◌≤◌, ◌∙◌, ℕ, Bool, List, [], ◌∷◌, ◌++◌, Option, Some, None, Ok, Err, IfOk, Result, drop, length, refl, sym, ap, ap₂, subst, arith, append-nil}
use Rattle.std.specs.Prelude.{flat_map}
use Rattle.std.specs.Io.KnownBytes.{IsAtEnd}
use Rattle.ber_leaf.specs.Profile.{Profile}
use Rattle.ill_schema.specs.Apdu.{Apdu, IsStream, SpellsApdu, normal_form_in}
use Rattle.ill_schema.specs.declared.refusal.Refusal.{Refusal}
use Rattle.ill_schema.proofs.Streams.{accepts_once, accepts_some, drop_front, parts_accept}
use Rattle.ill_refusals.specs.Fault.{Fault, fault_of}
use Rattle.ill_refusals.specs.Outcome.{OnlyRefuses}
use Rattle.ill_read.proofs.Accepted.{refuses_whole}
use Rattle.ill_read.specs.Answers.{ReadsNextIn}
use Rattle.ill_read.specs.declared.failure.ReadFailure.{ReadFailure}
use Rattle.ill_normal.specs.Compared.{RefusesSideIn}
use Rattle.ill_normal.specs.Streamed.{PassesIn}
use Rattle.ill_inputs.specs.declared.side.Side.{Side}
use Rattle.ill_normal.specs.declared.failure.StreamFailure.{StreamFailure}
use Rattle.ill_normal.proofs.Canonical.{refuses_once}

-- What is refused is not read.
pub never_read : {T : Type 0} (p : Profile) (Is : T → List ℕ → Type 0) (s t : List ℕ) (broken broken' : Bool) (f : Fault) (r : Result (Option T) ReadFailure)
    → ((x : T) (b : List ℕ) → Is x b → (c : Apdu) × SpellsApdu p c b)
    → 0 < length s → OnlyRefuses p s f → ReadsNextIn p (Some s) (Some t) broken broken' Is r → IfOk r (λ _. ⊥)
never_read p Is s t broken broken' f (Ok (Some x)) spells some only next =
    let o = next.message.0 in
    let a = spells x o next.message.2 in
    only.2 a.0 (length o) (parts_accept p s a.0 o t next.message.1 a.1)
never_read p Is s t broken broken' f (Ok None) spells some only next = let empty : s ≡ [] = next.none.0 ∙ next.none.1 in absurd (omega (arith, some, ap length empty))
never_read p Is s t broken broken' f (Err e) spells some only next = tt

-- The fault that is read is the one.
pub one_fault : {T : Type 0} (p : Profile) (Is : T → List ℕ → Type 0) (s t : List ℕ) (broken broken' : Bool) (f : Fault) (x : Refusal) (r : Result (Option T) ReadFailure)
    → OnlyRefuses p s f → ReadsNextIn p (Some s) (Some t) broken broken' Is r → r ≡ Err (ReadFailure.Refused x) → fault_of x ≡ f
one_fault {T = T} p Is s t broken broken' f x r only next e =
    let read = subst (λ (q : Result (Option T) ReadFailure). ReadsNextIn p (Some s) (Some t) broken broken' Is q) e next in
    only.1 (fault_of x) read.refused.1.0

-- One side is refused, and with one fault.
pub one_side : (p : Profile) (s t : List ℕ) (a b : Side) (f g : Fault) → RefusesSideIn p s t a f → RefusesSideIn p s t b g → (a ≡ b) × (f ≡ g)
one_side p s t Side.First Side.First f g h k = (refl, refuses_once {p = p} s f g h k)
one_side p s t Side.First Side.Second f g h k = absurd (refuses_whole {p = p} s f k.0.0 h k.0.1)
one_side p s t Side.Second Side.First f g h k = absurd (refuses_whole {p = p} s g h.0.0 k h.0.1)
one_side p s t Side.Second Side.Second f g h k = (refl, refuses_once {p = p} t f g h.1 k.1)

-- Octets are one stream.
pub same_stream : (p : Profile) (s : List ℕ) (xs ys : List Apdu) → IsStream p s xs [] → IsStream p s ys [] → xs ≡ ys
same_stream p s [] [] h k = refl
same_stream p s [] (y ∷ ys) h k = absurd (accepts_some p s y (length k.0) h (parts_accept p s y k.0 k.1 k.2 k.3))
same_stream p s (x ∷ xs) [] h k = absurd (accepts_some p s x (length h.0) k (parts_accept p s x h.0 h.1 h.2 h.3))
same_stream p s (x ∷ xs) (y ∷ ys) h k =
    let one = accepts_once p s x y (length h.0) (length k.0) (parts_accept p s x h.0 h.1 h.2 h.3) (parts_accept p s y k.0 k.1 k.2 k.3) in
    let rest : h.1 ≡ k.1 = sym (drop_front h.0 h.1) ∙ ap (drop (length h.0)) (sym h.2) ∙ ap (λ n. drop n s) one.1 ∙ ap (drop (length k.0)) k.2 ∙ drop_front k.0 k.1 in
    ap₂ ◌∷◌ one.0 (same_stream p h.1 xs ys h.4 (subst (λ t. IsStream p t ys []) (sym rest) k.4))

-- What was written of a stream is the normal form of each of its messages.
pub written : (p : Profile) (s t held held' : List ℕ) (xs : List Apdu) (r : Result ℕ StreamFailure) → IsStream p s xs []
    → IfOk r (λ whole. (before : ℕ) × PassesIn p (Some s) (Some t) (Some held) (Some held') whole before × IsAtEnd (Some t) × (whole ≤ 1_000_000))
    → IfOk r (λ _. held' ≡ held ++ flat_map (normal_form_in p) xs)
written p s t held held' xs (Ok n) h is =
    let passes = is.1 in
    let all : s ≡ passes.octets = passes.taken ∙ ap (λ z. passes.octets ++ z) is.2 ∙ append-nil passes.octets in
    let same = same_stream p s passes.apdus xs (subst (λ z. IsStream p z passes.apdus []) (sym all) passes.stream) h in
    passes.written ∙ ap (λ z. held ++ flat_map (normal_form_in p) z) same
written p s t held held' xs (Err e) h is = tt

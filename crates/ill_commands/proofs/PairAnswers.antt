-- Which result two inputs have.
use Rattle.std.proofs.Common.{◌≡◌, ◌⊎◌, ◌↔◌, ℕ, Bool, true, false, List, [], ◌++◌, length, take, Option, Some, None, Result, Ok, Err, IfSome, refl, sym, ap, subst, ◌∙◌, inl, inr, arith, append-nil}
use Rattle.std.specs.Io.KnownBytes.{IsAtEnd}
use Rattle.std.proofs.lemmas.Bool.{cases_lt}
use Rattle.std.proofs.lemmas.List.{take_all, take_at}
use Rattle.ber_leaf.specs.Profile.{Profile}
use Rattle.ill_schema.specs.Apdu.{Apdu, SpellsApdu}
use Rattle.ill_refusals.specs.Fault.{Fault, fault_of}
use Rattle.ill_normal.specs.Compared.{RefusesSideIn}
use Rattle.ill_inputs.specs.declared.side.Side.{Side}
use Rattle.ill_inputs.proofs.TakenOctets.{front}
use Rattle.ill_normal.proofs.Canonical.{spells_once, refuses_once}
use Rattle.ill_inputs.specs.declared.verdict.Verdict.{Verdict}
use Rattle.ill_inputs.specs.declared.run_fault.RunFault.{RunFault}
use Rattle.ill_inputs.specs.Inputs.{NoHex, IsResourceFault}
use Rattle.ill_inputs.specs.Hexadecimal.{hex_octets}
use Rattle.ill_commands.specs.Compared.{ReadsSide, SideFails, AreCompared, NotCompared, side_octets, SaysSame, ComparesBoth, RefusesOne, RefusesTexts, IsRefusedSide, AnswersSide}
use Rattle.ill_inputs.proofs.HexAnswers.{same_octets, same_ok, same_err, not_both, is_fault}
use Rattle.ill_read.proofs.Accepted.{refuses_whole}

-- what was read of a side is what is compared of it
pub side_is : (hex : Bool) (s : List ℕ) (left' : Option (List ℕ)) (o : List ℕ) → ReadsSide hex (Some s) left' o → side_octets hex s ≡ Ok o
side_is true s left' o h = same_octets s left' h.text h.taken ∙ h.stands
side_is false s left' o h =
    let t = front s left' o h.0 in
    elim (cases_lt (length o) 1_048_577) [
      | inl lt ↦
          let none : t.0 ≡ [] = subst IsAtEnd t.2 (h.2 lt) in
          let same : s ≡ o = t.1 ∙ ap (λ l. o ++ l) none ∙ append-nil o in
          ap (λ l. Ok (take 1_048_577 l)) same ∙ ap (λ l. Ok l) (take_all 1_048_577 o (omega (arith, lt)))
      | inr ge ↦
          ap (λ l. Ok (take 1_048_577 l)) t.1 ∙ ap (λ l. Ok l) (take_at o t.0 1_048_577 (omega (arith, ge, h.1)))
    ]

-- what was not a text is not one
pub no_text : (s : List ℕ) (left' : Option (List ℕ)) (e : RunFault) → NoHex (Some s) left' e → hex_octets s ≡ Err e
no_text s left' e h = same_octets s left' h.text h.taken ∙ h.stands

-- the result where a side was not read
unread_fault : (hex x : Bool) (s : List ℕ) (left' : Option (List ℕ)) (e fault : RunFault) → SideFails hex (Some s) left' x e → side_octets hex s ≡ Err fault → (e ≡ fault) ⊎ IsResourceFault e
unread_fault true x s left' e fault (inl h) k = inl (same_err (hex_octets s) e fault (no_text s left' e h) k)
unread_fault true x s left' e fault (inr u) k = inr (is_fault 4_194_305 (Some s) left' x e u)
unread_fault false x s left' e fault u k = inr (is_fault 1_048_577 (Some s) left' x e u)

unread_octets : (hex x : Bool) (s : List ℕ) (left' : Option (List ℕ)) (e : RunFault) (o : List ℕ) → SideFails hex (Some s) left' x e → side_octets hex s ≡ Ok o → IsResourceFault e
unread_octets true x s left' e o (inl h) k = absurd (not_both (hex_octets s) o e k (no_text s left' e h))
unread_octets true x s left' e o (inr u) k = is_fault 4_194_305 (Some s) left' x e u
unread_octets false x s left' e o u k = is_fault 1_048_577 (Some s) left' x e u

pub first_unread : (hex x : Bool) (left left' other : Option (List ℕ)) (e : RunFault) → SideFails hex left left' x e
    → IfSome left (λ s. IfSome other (λ t. RefusesTexts hex s t (Err e)))
first_unread hex x None left' other e h = tt
first_unread hex x (Some s) left' None e h = tt
first_unread hex x (Some s) left' (Some t) e h = (λ fault k. unread_fault hex x s left' e fault h k, λ o fault k l. inr (unread_octets hex x s left' e o h k))

pub second_unread : (hex x : Bool) (left left' other other' : Option (List ℕ)) (o : List ℕ) (e : RunFault) → ReadsSide hex left left' o → SideFails hex other other' x e
    → IfSome left (λ s. IfSome other (λ t. RefusesTexts hex s t (Err e)))
second_unread hex x None left' other other' o e r h = tt
second_unread hex x (Some s) left' None other' o e r h = tt
second_unread hex x (Some s) left' (Some t) other' o e r h =
    (λ fault k. absurd (not_both (side_octets hex s) o fault (side_is hex s left' o r) k), λ o' fault k l. unread_fault hex x t other' e fault h l)

-- a side that was not read is compared with nothing, and refuses nothing
refuses_nothing : (e : RunFault) (side : Side) (f : Fault) → IsResourceFault e → IsRefusedSide e side f
refuses_nothing (RunFault.RefusedSide which refusal) side f h = absurd h
refuses_nothing RunFault.OutOfMemory side f h = h
refuses_nothing RunFault.ReadFault side f h = h
refuses_nothing (RunFault.WriteFault i) side f h = h
refuses_nothing (RunFault.Refused message refusal) side f h = absurd h
refuses_nothing RunFault.OddHex side f h = absurd h
refuses_nothing (RunFault.BadHex i) side f h = absurd h
refuses_nothing RunFault.HexTooLong side f h = absurd h
refuses_nothing RunFault.NotReported side f h = absurd h
refuses_nothing RunFault.TooManyMessages side f h = absurd h

module _ (p : Profile) (hex x : Bool) (e : RunFault) where
  pub first_compares : (left left' other : Option (List ℕ)) → SideFails hex left left' x e → IfSome left (λ s. IfSome other (λ t. ComparesBoth p hex s t (Err e)))
  first_compares None left' other h = tt
  first_compares (Some s) left' None h = tt
  first_compares (Some s) left' (Some t) h = λ o u a b k l sa sb. unread_octets hex x s left' e o h k

  pub first_refuses : (left left' other : Option (List ℕ)) → SideFails hex left left' x e → IfSome left (λ s. IfSome other (λ t. RefusesOne p hex s t (Err e)))
  first_refuses None left' other h = tt
  first_refuses (Some s) left' None h = tt
  first_refuses (Some s) left' (Some t) h = λ o u side f k l r. refuses_nothing e side f (unread_octets hex x s left' e o h k)

  pub second_compares : (left other other' : Option (List ℕ)) → SideFails hex other other' x e → IfSome left (λ s. IfSome other (λ t. ComparesBoth p hex s t (Err e)))
  second_compares None other other' h = tt
  second_compares (Some s) None other' h = tt
  second_compares (Some s) (Some t) other' h = λ o u a b k l sa sb. unread_octets hex x t other' e u h l

  pub second_refuses : (left other other' : Option (List ℕ)) → SideFails hex other other' x e → IfSome left (λ s. IfSome other (λ t. RefusesOne p hex s t (Err e)))
  second_refuses None other other' h = tt
  second_refuses (Some s) None other' h = tt
  second_refuses (Some s) (Some t) other' h = λ o u side f k l r. refuses_nothing e side f (unread_octets hex x t other' e u h l)

module _ (p : Profile) (x y : List ℕ) where
  refused_apart : (side : Side) (f : Fault) (a b : Apdu) → SpellsApdu p a x → SpellsApdu p b y → RefusesSideIn p x y side f → ⊥
  refused_apart Side.First f a b h k r = refuses_whole x f a r h
  refused_apart Side.Second f a b h k r = refuses_whole y f b r.1 k

  refused_once : (side other : Side) (f g : Fault) → RefusesSideIn p x y side f → RefusesSideIn p x y other g → (side ≡ other) × (f ≡ g)
  refused_once Side.First Side.First f g r q = (refl, refuses_once x f g r q)
  refused_once Side.First Side.Second f g r q = absurd (refuses_whole x f q.0.0 r q.0.1)
  refused_once Side.Second Side.First f g r q = absurd (refuses_whole x g r.0.0 q r.0.1)
  refused_once Side.Second Side.Second f g r q = (refl, refuses_once y f g r.1 q.1)

  says_same : (v : Verdict) → AreCompared p x y v → (a b : Apdu) → SpellsApdu p a x → SpellsApdu p b y → (v ≡ Verdict.Good) ↔ (a ≡ b)
  says_same v c a b h k =
      let e = spells_once a c.0 x h c.2 in
      let f = spells_once b c.1 y k c.3 in
      (λ g. e ∙ c.4.0 g ∙ sym f, λ same. c.4.1 (sym e ∙ same ∙ f))

  not_compared : (e : RunFault) → NotCompared p x y e → (a b : Apdu) → SpellsApdu p a x → SpellsApdu p b y → IsResourceFault e
  not_compared (RunFault.RefusedSide side refusal) n a b h k = absurd (refused_apart side (fault_of refusal) a b h k n)
  not_compared RunFault.OutOfMemory n a b h k = tt
  not_compared RunFault.ReadFault n a b h k = tt
  not_compared (RunFault.Refused message refusal) n a b h k = absurd n
  not_compared RunFault.OddHex n a b h k = absurd n
  not_compared (RunFault.BadHex i) n a b h k = absurd n
  not_compared RunFault.HexTooLong n a b h k = absurd n
  not_compared RunFault.NotReported n a b h k = absurd n
  not_compared RunFault.TooManyMessages n a b h k = absurd n
  not_compared (RunFault.WriteFault i) n a b h k = absurd n

  not_refused : (e : RunFault) → NotCompared p x y e → (side : Side) (f : Fault) → RefusesSideIn p x y side f → IsRefusedSide e side f
  not_refused (RunFault.RefusedSide which refusal) n side f r = refused_once which side (fault_of refusal) f n r
  not_refused RunFault.OutOfMemory n side f r = tt
  not_refused RunFault.ReadFault n side f r = tt
  not_refused (RunFault.Refused message refusal) n side f r = absurd n
  not_refused RunFault.OddHex n side f r = absurd n
  not_refused (RunFault.BadHex i) n side f r = absurd n
  not_refused RunFault.HexTooLong n side f r = absurd n
  not_refused RunFault.NotReported n side f r = absurd n
  not_refused RunFault.TooManyMessages n side f r = absurd n
  not_refused (RunFault.WriteFault i) n side f r = absurd n

-- what is said of the octets that were read is said of the inputs
both_same : (p : Profile) (hex : Bool) (left left' other other' : Option (List ℕ)) (x y : List ℕ) → ReadsSide hex left left' x → ReadsSide hex other other' y → (answer : Result Verdict RunFault)
    → ((a b : Apdu) → SpellsApdu p a x → SpellsApdu p b y → SaysSame answer (a ≡ b))
    → IfSome left (λ s. IfSome other (λ t. ComparesBoth p hex s t answer))
both_same p hex None left' other other' x y rx ry answer h = tt
both_same p hex (Some s) left' None other' x y rx ry answer h = tt
both_same p hex (Some s) left' (Some t) other' x y rx ry answer h = λ x' y' a b ex ey ha hb.
    let e = same_ok (side_octets hex s) x' x ex (side_is hex s left' x rx) in
    let f = same_ok (side_octets hex t) y' y ey (side_is hex t other' y ry) in
    h a b (subst (SpellsApdu p a) e ha) (subst (SpellsApdu p b) f hb)

one_refused : (p : Profile) (hex : Bool) (left left' other other' : Option (List ℕ)) (x y : List ℕ) → ReadsSide hex left left' x → ReadsSide hex other other' y → (answer : Result Verdict RunFault)
    → ((side : Side) (f : Fault) → RefusesSideIn p x y side f → AnswersSide answer side f)
    → IfSome left (λ s. IfSome other (λ t. RefusesOne p hex s t answer))
one_refused p hex None left' other other' x y rx ry answer h = tt
one_refused p hex (Some s) left' None other' x y rx ry answer h = tt
one_refused p hex (Some s) left' (Some t) other' x y rx ry answer h = λ x' y' side f ex ey r.
    let e = same_ok (side_octets hex s) x' x ex (side_is hex s left' x rx) in
    let g = same_ok (side_octets hex t) y' y ey (side_is hex t other' y ry) in
    h side f (subst (λ z. RefusesSideIn p x z side f) g (subst (λ z. RefusesSideIn p z y' side f) e r))

-- sides that were read are no texts that stand for nothing
both_read : (hex : Bool) (left left' other other' : Option (List ℕ)) (x y : List ℕ) → ReadsSide hex left left' x → ReadsSide hex other other' y → (answer : Result Verdict RunFault)
    → IfSome left (λ s. IfSome other (λ t. RefusesTexts hex s t answer))
both_read hex None left' other other' x y rx ry answer = tt
both_read hex (Some s) left' None other' x y rx ry answer = tt
both_read hex (Some s) left' (Some t) other' x y rx ry answer = (
  λ fault k. absurd (not_both (side_octets hex s) x fault (side_is hex s left' x rx) k),
  λ o fault k l. absurd (not_both (side_octets hex t) y fault (side_is hex t other' y ry) l),
)

module _ (p : Profile) (hex : Bool) (left left' other other' : Option (List ℕ)) (x y : List ℕ) (rx : ReadsSide hex left left' x) (ry : ReadsSide hex other other' y) where
  pub ok_compares : (v : Verdict) → AreCompared p x y v → IfSome left (λ s. IfSome other (λ t. ComparesBoth p hex s t (Ok v)))
  ok_compares v c = both_same p hex left left' other other' x y rx ry (Ok v) (λ a b h k. says_same p x y v c a b h k)

  pub ok_refuses : (v : Verdict) → AreCompared p x y v → IfSome left (λ s. IfSome other (λ t. RefusesOne p hex s t (Ok v)))
  ok_refuses v c = one_refused p hex left left' other other' x y rx ry (Ok v) (λ side f r. refused_apart p x y side f c.0 c.1 c.2 c.3 r)

  pub err_compares : (e : RunFault) → NotCompared p x y e → IfSome left (λ s. IfSome other (λ t. ComparesBoth p hex s t (Err e)))
  err_compares e n = both_same p hex left left' other other' x y rx ry (Err e) (λ a b h k. not_compared p x y e n a b h k)

  pub err_refuses : (e : RunFault) → NotCompared p x y e → IfSome left (λ s. IfSome other (λ t. RefusesOne p hex s t (Err e)))
  err_refuses e n = one_refused p hex left left' other other' x y rx ry (Err e) (λ side f r. not_refused p x y e n side f r)

  pub write_compares : (n : ℕ) → IfSome left (λ s. IfSome other (λ t. ComparesBoth p hex s t (Err (RunFault.WriteFault n))))
  write_compares n = both_same p hex left left' other other' x y rx ry (Err (RunFault.WriteFault n)) (λ a b h k. tt)

  pub write_refuses : (n : ℕ) → IfSome left (λ s. IfSome other (λ t. RefusesOne p hex s t (Err (RunFault.WriteFault n))))
  write_refuses n = one_refused p hex left left' other other' x y rx ry (Err (RunFault.WriteFault n)) (λ side f r. tt)

  pub texts_read : (answer : Result Verdict RunFault) → IfSome left (λ s. IfSome other (λ t. RefusesTexts hex s t answer))
  texts_read answer = both_read hex left left' other other' x y rx ry answer

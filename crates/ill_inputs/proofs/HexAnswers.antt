-- Which octets a text that was read stands for.
use Rattle.std.proofs.Common.{◌≡◌, ℕ, ◌<◌, Bool, List, [], ◌++◌, length, Option, Some, Result, Ok, Err, sym, ap, subst, ◌∙◌, inl, inr, arith, append-nil, length-append}
use Rattle.std.specs.Prelude.{if◌then◌else◌}
use Rattle.std.specs.Io.KnownBytes.{IsAtEnd}
use Rattle.std.proofs.lemmas.Bool.{cases_lt, lt-ltb}
use Rattle.hex.specs.Hex.{decode_of}
use Rattle.ill_inputs.proofs.TakenOctets.{front}
use Rattle.ill_inputs.specs.declared.run_fault.RunFault.{RunFault}
use Rattle.ill_inputs.specs.Hexadecimal.{hex_octets, with_fault, without_blanks, TakesText}
use Rattle.ill_inputs.specs.Inputs.{IsResourceFault, IsUnread}

too_long : (text : List ℕ) → 4_194_304 < length text → hex_octets text ≡ Err RunFault.HexTooLong
too_long text h = ap (λ (b : Bool). if b then Err RunFault.HexTooLong else with_fault (decode_of (without_blanks text))) (lt-ltb 4_194_304 (length text) h)

-- the text that was taken stands for what the whole does
pub same_octets : (s : List ℕ) (left' : Option (List ℕ)) (text : List ℕ) → TakesText (Some s) left' text → hex_octets s ≡ hex_octets text
same_octets s left' text h = elim (cases_lt 4_194_304 (length text)) [
  | inl lt ↦
      let t = front s left' text h.0 in
      let more : 4_194_304 < length s = omega (arith, lt, ap length t.1, length-append text t.0) in
      too_long s more ∙ sym (too_long text lt)
  | inr le ↦
      let t = front s left' text h.0 in
      let none : t.0 ≡ [] = subst IsAtEnd t.2 (h.2 le) in
      ap hex_octets (t.1 ∙ ap (λ l. text ++ l) none ∙ append-nil text)
]

pub same_ok : (r : Result (List ℕ) RunFault) (a b : List ℕ) → r ≡ Ok a → r ≡ Ok b → a ≡ b
same_ok r a b e f = cc

pub same_err : (r : Result (List ℕ) RunFault) (e f : RunFault) → r ≡ Err e → r ≡ Err f → e ≡ f
same_err r e f h k = cc

pub not_both : (r : Result (List ℕ) RunFault) (a : List ℕ) (e : RunFault) → r ≡ Ok a → r ≡ Err e → ⊥
not_both r a e h k = cc

pub is_fault : (n : ℕ) (left left' : Option (List ℕ)) (x : Bool) (e : RunFault) → IsUnread n left left' x e → IsResourceFault e
is_fault n left left' x RunFault.OutOfMemory h = tt
is_fault n left left' x RunFault.ReadFault h = tt
is_fault n left left' x (RunFault.Refused message refusal) h = absurd h
is_fault n left left' x (RunFault.RefusedSide side refusal) h = absurd h
is_fault n left left' x RunFault.OddHex h = absurd h
is_fault n left left' x (RunFault.BadHex i) h = absurd h
is_fault n left left' x RunFault.HexTooLong h = absurd h
is_fault n left left' x RunFault.NotReported h = absurd h
is_fault n left left' x RunFault.TooManyMessages h = absurd h
is_fault n left left' x (RunFault.WriteFault i) h = absurd h

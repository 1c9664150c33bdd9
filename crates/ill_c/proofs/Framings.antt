-- Framed elements at the front of octets.
use Rattle.std.proofs.Common.{◌≡◌, ◌∙◌, ℕ, ◌<◌, ◌≤◌, List, [], ◌++◌, length, take, drop, sym, ap, subst, arith, inl, inr, append_assoc, append-nil, length-append}
use Rattle.std.proofs.lemmas.Bool.{cases_lt}
use Rattle.std.proofs.lemmas.List.{length-take-le, nil_from_length, take-append-drop, take-append-le}
use Rattle.std.proofs.Math.Seq.{take-append_seam}
use Rattle.ber_framing.specs.Framed.{IsFrame, IsPartOfFrame, IsUnframed}
use Rattle.ber_framing.proofs.Frames.{one_frame, part_and_whole}
use Rattle.ill_c.specs.Calls.{IsNeverFramed}

-- a part of a framed element has none at its front
pub part_has_no_front : {A : Type 0} (s : List ℕ) → IsPartOfFrame s → (front rest : List ℕ) → IsFrame front → s ≡ front ++ rest → A
part_has_no_front s part front rest h e =
    let more = part.0 in
    let joined : front ++ (rest ++ more) ≡ (s ++ more) ++ [] =
    sym (append_assoc front rest more) ∙ ap (λ x. x ++ more) (sym e) ∙ sym (append-nil (s ++ more)) in
    let whole = ap length (one_frame front (s ++ more) (rest ++ more) [] h part.2 joined) ∙ length-append s more in
    let split = ap length e ∙ length-append front rest in
    absurd (part.1 (nil_from_length more (omega (arith, whole, split))))

-- what is framed at the front is the one framed element there
pub frame_at_front : (s front rest : List ℕ) (m : ℕ) → m ≤ length s → IsFrame (take m s) → IsFrame front → s ≡ front ++ rest → m ≡ length front
frame_at_front s front rest m le frame h e =
    sym (length-take-le m s le) ∙ ap length (one_frame (take m s) front (drop m s) rest frame h (take-append-drop m s ∙ e))

-- where the first n octets begin no framed element, and fewer are a part of one, none is at the front
pub never_framed : (s : List ℕ) (n : ℕ) → n ≤ length s → IsUnframed (take n s) → ((m : ℕ) → m < n → IsPartOfFrame (take m s)) → IsNeverFramed s
never_framed s n le unframed parts more front rest e h = elim (cases_lt (length front) n) [
  | inl lt ↦
      let same : take (length front) s ≡ front =
      sym (take-append-le (length front) s more (omega (arith, lt, le))) ∙ ap (take (length front)) e ∙ take-append_seam front rest in
      part_and_whole front (subst IsPartOfFrame same (parts (length front) lt)) h
  | inr ge ↦
      let same : take n front ≡ take n s =
      sym (take-append-le n front rest ge) ∙ ap (take n) (sym e) ∙ take-append-le n s more le in
      unframed (drop n front) (subst (λ x. IsFrame (x ++ drop n front)) same (subst IsFrame (sym (take-append-drop n front)) h))
]

-- An input is messages in one way.
use Rattle.std.proofs.Common.{◌≡◌, ◌≢◌, ℕ, ◌<◌, ◌≤◌, List, [], ◌∷◌, ◌++◌, length, take, drop, Some, refl, sym, ap, ap₂, subst, ◌∙◌, arith, inl, inr, append_assoc, append-nil, length-append}
use Rattle.std.proofs.lemmas.List.{append_cancel_left, take_all, take-append-drop}
use Rattle.ill_schema.specs.Profiles.{profile_of}
use Rattle.ill_tables.specs.declared.profile.Profile.{Profile as Named}
use Rattle.ber_framing.specs.Framed.{IsFrame}
use Rattle.ber_framing.proofs.Frames.{one_frame}
use Rattle.ill_normal.specs.Next.{HasNoEnd}
use Rattle.ill_normal.specs.Entries.{AreWritten, WritesText}
use Rattle.ill_schema.specs.declared.refusal.Refusal.{Refusal}
use Rattle.ill_schema.specs.Apdu.{Apdu, SpellsApdu}
use Rattle.ill_refusals.specs.Fault.{Fault, fault_of, Refuses}
use Rattle.ill_schema.specs.declared.refusal.Cause.{Cause}
use Rattle.ill_refusals.proofs.Prefixes.{refusal_stays}
use Rattle.ill_refusals.specs.Outcome.{OnlyRefuses}
use Rattle.ill_normal.specs.Messages.{Spelling, after, output_from}
use Rattle.ill_normal.specs.declared.messages.MessagePlace.{MessagePlace}
use Rattle.ill_normal.proofs.Canonical.{spells_once}
use Rattle.ill_normal.specs.Items.{Item, good, bad, AreItems, good_ones, HasNoMore, IsRefusedFor}
use Rattle.ill_normal.proofs.TakenElements.{spelling_framed, none_begins}
use Rattle.ill_read.proofs.Accepted.{refuses_whole}

module _ (text : MessagePlace → Spelling → List ℕ) (same : (p q : MessagePlace) (m : Spelling) → text p m ≡ text q m) where
  pub good_written : (p q : MessagePlace) (items : List Item) (n : ℕ) (octets : List ℕ) → AreWritten (WritesText text) p items n octets → octets ≡ output_from text q (good_ones items)
  good_written p q [] n octets h = h.1
  good_written p q (good m ∷ items) n octets h =
      h.5 ∙ ap₂ (λ (a b : List ℕ). a ++ b) (h.6.0 ∙ same p q m) (good_written (after p (length m.octets)) (after q (length m.octets)) items h.1 h.3 h.7)
  good_written p q (bad given refusal ∷ items) n octets h = h.5 ∙ ap (λ z. z ++ h.3) h.6.0 ∙ good_written (after p (length given)) q items h.1 h.3 h.7

-- where no end can be known no message ends
pub no_end_no_more : (octets rest : List ℕ) → HasNoEnd octets (Some rest) → length octets < 18_446_744_073_709_551_615 → HasNoMore (octets ++ rest)
no_end_no_more octets rest (inl h) lt x y frame e =
    none_begins h.front (h.more ++ rest) h.unframed h.within x y frame (sym (append_assoc h.front h.more rest) ∙ ap (λ z. z ++ rest) (sym h.joined) ∙ e)
no_end_no_more octets rest (inr (p, inl end)) lt x y frame e =
    let all : octets ≡ x ++ y = sym (append-nil octets) ∙ ap (λ z. octets ++ z) (sym end) ∙ e in
    let whole : x ≡ octets ++ p.0 =
    one_frame x (octets ++ p.0) (y ++ p.0) [] frame p.2 (sym (append_assoc x y p.0) ∙ ap (λ z. z ++ p.0) (sym all) ∙ sym (append-nil (octets ++ p.0))) in
    p.1 (none p.0 (omega (arith, ap length all, length-append x y, ap length whole, length-append octets p.0)))
  where
    none : (z : List ℕ) → length z ≡ 0 → z ≡ []
    none [] h = refl
    none (o ∷ z) h = absurd (omega (arith, h))
no_end_no_more octets rest (inr (p, inr le)) lt x y frame e = omega (arith, le, lt)

module _ (q : Named) where
  -- a message that is spelled isn't refused
  not_both : {A : Type 0} (a : Apdu) (b octets : List ℕ) (refusal : Refusal) → SpellsApdu (profile_of q) a b → b ≡ octets → IsRefusedFor (profile_of q) octets refusal → A
  not_both a b octets refusal h e is =
      let short : length b ≤ 1_048_576 = h.encodes.short in
      let all : take 1_048_576 octets ≡ b = ap (λ z. take 1_048_576 z) (sym e) ∙ take_all 1_048_576 b short in
      absurd (refuses_whole {p = (profile_of q)} b (fault_of refusal) a (inl (subst (λ z. OnlyRefuses (profile_of q) z (fault_of refusal)) all is)) h)

  same_refusal : (r x : Refusal) → fault_of r ≡ fault_of x → r ≡ x
  same_refusal r x e = ap (λ (f : Fault). let z : Refusal = record { at = f.at; cause = f.cause } in z) e

  refused_once : (r x : Refusal) (a b : List ℕ) → a ≡ b → IsRefusedFor (profile_of q) a r → IsRefusedFor (profile_of q) b x → r ≡ x
  refused_once r x a b e h k = same_refusal r x (sym (h.1 (fault_of x) (subst (λ z. Refuses (profile_of q) (take 1_048_576 z) (fault_of x)) (sym e) k.0)))

  same_good : (m n : Spelling) → m.octets ≡ n.octets → SpellsApdu (profile_of q) m.apdu m.octets → SpellsApdu (profile_of q) n.apdu n.octets → m ≡ n
  same_good m n e h k =
      let a : m.apdu ≡ n.apdu = spells_once {p = (profile_of q)} m.apdu n.apdu n.octets (subst (SpellsApdu (profile_of q) m.apdu) e h) k in
      ap₂ (λ (x : Apdu) (y : List ℕ). let z : Spelling = record { apdu = x; octets = y } in z) a e

  -- a front of both, and what is left of each
  heads : (s a b t u : List ℕ) → s ≡ a ++ t → s ≡ b ++ u → IsFrame a → IsFrame b → (a ≡ b) × (t ≡ u)
  heads s a b t u p q h k =
      let e = one_frame a b t u h k (sym p ∙ q) in (e, append_cancel_left a t u (sym p ∙ q ∙ ap (λ z. z ++ u) (sym e)))

  pub one_reading_of_an_input : (s rest over : List ℕ) (items others : List Item) → AreItems (profile_of q) s items rest → HasNoMore rest → AreItems (profile_of q) s others over → HasNoMore over
      → (items ≡ others) × (rest ≡ over)
  one_reading_of_an_input s rest over [] [] h n k m = (refl, sym h ∙ k)
  one_reading_of_an_input s rest over [] (good y ∷ ys) h n k m = absurd (n y.octets k.0 (spelling_framed q y.apdu y.octets k.2) (sym h ∙ k.1))
  one_reading_of_an_input s rest over [] (bad o r ∷ ys) h n k m = absurd (n o k.0 k.2 (sym h ∙ k.1))
  one_reading_of_an_input s rest over (good x ∷ xs) [] h n k m = absurd (m x.octets h.0 (spelling_framed q x.apdu x.octets h.2) (sym k ∙ h.1))
  one_reading_of_an_input s rest over (bad o r ∷ xs) [] h n k m = absurd (m o h.0 h.2 (sym k ∙ h.1))
  one_reading_of_an_input s rest over (good x ∷ xs) (good y ∷ ys) h n k m =
      let e = heads s x.octets y.octets h.0 k.0 h.1 k.1 (spelling_framed q x.apdu x.octets h.2) (spelling_framed q y.apdu y.octets k.2) in
      let next = one_reading_of_an_input h.0 rest over xs ys h.3 n (subst (λ z. AreItems (profile_of q) z ys over) (sym e.1) k.3) m in
      (ap₂ (λ (a : Spelling) (b : List Item). good a ∷ b) (same_good x y e.0 h.2 k.2) next.0, next.1)
  one_reading_of_an_input s rest over (good x ∷ xs) (bad o r ∷ ys) h n k m =
      let e = heads s x.octets o h.0 k.0 h.1 k.1 (spelling_framed q x.apdu x.octets h.2) k.2 in not_both x.apdu x.octets o r h.2 e.0 k.3
  one_reading_of_an_input s rest over (bad o r ∷ xs) (good y ∷ ys) h n k m =
      let e = heads s o y.octets h.0 k.0 h.1 k.1 h.2 (spelling_framed q y.apdu y.octets k.2) in not_both y.apdu y.octets o r k.2 (sym e.0) h.3
  one_reading_of_an_input s rest over (bad o r ∷ xs) (bad p x ∷ ys) h n k m =
      let e = heads s o p h.0 k.0 h.1 k.1 h.2 k.2 in
      let next = one_reading_of_an_input h.0 rest over xs ys h.4 n (subst (λ z. AreItems (profile_of q) z ys over) (sym e.1) k.4) m in
      (ap₂ (λ (a : Item) (b : List Item). a ∷ b) (ap₂ (λ (a : List ℕ) (b : Refusal). bad a b) e.0 (refused_once r x o p e.0 h.3 k.3)) next.0, next.1)

  pub still_refused : (octets rest : List ℕ) (refusal : Refusal) → refusal.cause ≢ Cause.Truncated → IsRefusedFor (profile_of q) octets refusal → Refuses (profile_of q) (octets ++ rest) (fault_of refusal)
  still_refused octets rest refusal more h =
      let all : take 1_048_576 octets ++ (drop 1_048_576 octets ++ rest) ≡ octets ++ rest =
      sym (append_assoc (take 1_048_576 octets) (drop 1_048_576 octets) rest) ∙ ap (λ z. z ++ rest) (take-append-drop 1_048_576 octets) in
      subst (λ z. Refuses (profile_of q) z (fault_of refusal)) all (refusal_stays (profile_of q) (take 1_048_576 octets) (drop 1_048_576 octets ++ rest) (fault_of refusal) more h.0)

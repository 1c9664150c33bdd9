use Rattle.std.proofs.Common.{◌≡◌, ℕ, ◌-◌, ◌<◌, ◌≤◌, length, List, [], ◌∷◌, ◌++◌, refl, replicate, ap, sym, get_or, ◌∙◌, arith, length-take, length-drop}
use borrow.Rule.Slice.PartMut.{put_mid}
use Rattle.ber_leaf.specs.code.Sign.{sign_octet}
use Rattle.ber_leaf.proofs.integer.sign_extended.Goals as goal
use Rattle.ber_leaf.proofs.integer.sign_extended.Goals.{then-octets-lt128, else-octets-lt128}

put_behind : (s : ℕ) (o : List ℕ) → 0 < length o → length o ≤ 8
    → put_mid (8 - length o) (8 - (8 - length o)) (s ∷ s ∷ s ∷ s ∷ s ∷ s ∷ s ∷ s ∷ []) o ≡ replicate (8 - length o) s ++ o
put_behind s [] lt le = absurd (omega (arith, lt))
put_behind s (a ∷ []) lt le = refl
put_behind s (a ∷ b ∷ []) lt le = refl
put_behind s (a ∷ b ∷ c ∷ []) lt le = refl
put_behind s (a ∷ b ∷ c ∷ d ∷ []) lt le = refl
put_behind s (a ∷ b ∷ c ∷ d ∷ e ∷ []) lt le = refl
put_behind s (a ∷ b ∷ c ∷ d ∷ e ∷ f ∷ []) lt le = refl
put_behind s (a ∷ b ∷ c ∷ d ∷ e ∷ f ∷ g ∷ []) lt le = refl
put_behind s (a ∷ b ∷ c ∷ d ∷ e ∷ f ∷ g ∷ h ∷ []) lt le = refl
put_behind s (a ∷ b ∷ c ∷ d ∷ e ∷ f ∷ g ∷ h ∷ i ∷ o) lt le = absurd (omega (arith, le))

low_sign : (o : List ℕ) → 0 < length o → get_or o 0 0 < 128 → sign_octet o ≡ 0
low_sign [] lt l = absurd (omega (arith, lt))
low_sign (a ∷ r) lt l = grind arith

high_sign : (o : List ℕ) → 0 < length o → 128 ≤ get_or o 0 0 → sign_octet o ≡ 255
high_sign [] lt l = absurd (omega (arith, lt))
high_sign (a ∷ r) lt l = grind arith

pub returns : goal.returns
returns c =
    let sign : c.if-octets-lt128.sign ≡ sign_octet c.args.octets.now =
    elim c.if-octets-lt128.branch [
      | then-octets-lt128 w ↦ w.sign-is ∙ sym (low_sign c.args.octets.now c.requires.some w.if-octets-lt128.true)
      | else-octets-lt128 w ↦ w.sign-is ∙ sym (high_sign c.args.octets.now c.requires.some w.if-octets-lt128.false)
    ] in
    rw c.copy_from_slice.ensures.after (put_behind c.if-octets-lt128.sign c.args.octets.now c.requires.some c.requires.few ∙ ap (λ (s : ℕ). replicate (8 - length c.args.octets.now) s ++ c.args.octets.now) sign)

pub copy_from_slice-requires : goal.copy_from_slice-requires
copy_from_slice-requires c = simp (length-take, length-drop) (omega arith)

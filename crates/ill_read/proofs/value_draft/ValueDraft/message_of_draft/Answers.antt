use Rattle.std.proofs.Common.{◌≡◌, ◌+◌, ◌-◌, ◌≤◌, ℕ, refl, sym, ap₂, subst, arith}
use Rattle.ber_leaf.specs.Profile.{profile_two}
use Rattle.ill_schema.specs.Apdu.{Apdu, Encodes, choice_of}
use Rattle.ill_schema.specs.Content.{Content, alternative}
use Rattle.ill_schema.specs.Value.{content_of}
use Rattle.ill_read.specs.code.OpenValues.{IsBodyOf}
use Rattle.ill_read.specs.code.ReaderCode.{IsMessageOf, body_apdu}
use Rattle.ill_read.proofs.value_draft.ValueDraft.message_of_draft.Goals as goal

pub returns-in_err-body : goal.returns-in_err-body
returns-in_err-body c a b h = absurd ((subst (λ x. IsBodyOf x (choice_of a)) c.in_err-body.was (c.body.ensures (choice_of a) h.0)) (a.number - 1) a.body refl)

-- An APDU by its alternative.
same_apdu : (a : Apdu) (n : ℕ) (d : Content) → choice_of a ≡ alternative n d → 1 ≤ a.number → (let x : Apdu = record { number = n + 1; body = d } in x) ≡ a
same_apdu a n d e some =
    let number : a.number - 1 ≡ n = cc in
    let body : a.body ≡ d = cc in
    let all : n + 1 ≡ a.number = omega (arith, number, some) in
    ap₂ (λ (m : ℕ) (x : Content). let y : Apdu = record { number = m; body = x } in y) all (sym body)

pub returns : goal.returns
returns c a b h =
    let body = c.in_ok-body.field-0 in
    let is = subst (λ x. IsBodyOf x (choice_of a)) c.in_ok-body.was (c.body.ensures (choice_of a) h.0) in
    let same : body_apdu body ≡ a = same_apdu a body.row (content_of body.value) is h.1 in
    subst (λ x. IsMessageOf x c.args.octets c.message_of.result) same (c.message_of.ensures b (subst (λ x. Encodes profile_two x b) (sym same) h.2))

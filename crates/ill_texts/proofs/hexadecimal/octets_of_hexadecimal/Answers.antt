use Rattle.std.proofs.Common.{◌≡◌, ◌∙◌, true, false, Ok, Err, inl, inr, sym, ap}
use Rattle.std.specs.Char.{is_ascii_uppercase}
use Rattle.std.specs.List.{list_any}
use Rattle.hex.specs.Hex.{decode_of}
use Rattle.ill_texts.proofs.HexadecimalTexts.{decode_of-hexadecimal, hexadecimal-decode_of, no_capitals, octets-decode_of}
use Rattle.ill_texts.proofs.hexadecimal.octets_of_hexadecimal.Goals as goal

-- the text of octets has no capital letter
pub returns-then-has_capitals-clause-unsaid : goal.returns-then-has_capitals-clause-unsaid
returns-then-has_capitals-clause-unsaid c octets are same =
    let e : true ≡ false = sym c.if-has_capitals.true ∙ c.has_capitals.ensures ∙ ap (list_any is_ascii_uppercase) same ∙ no_capitals octets in
    absurd cc

pub returns-in-Ok-clause-said : goal.returns-in-Ok-clause-said
returns-in-Ok-clause-said c =
    let text = c.args.text.now in
    let octets = c.in-Ok.octets.items in
    let decoded = c.in-Ok.ensures.ok in
    (octets-decode_of text octets decoded, hexadecimal-decode_of text octets decoded (sym c.has_capitals.ensures ∙ c.if-has_capitals.false))

-- the text of octets is decoded
pub returns-in_default-clause-unsaid : goal.returns-in_default-clause-unsaid
returns-in_default-clause-unsaid c octets are same =
    elim c.in-Err.ensures.err [
      | inl e ↦ c.in_default.not-OutOfMemory e
      | inr e ↦
          let both : Ok octets ≡ Err c.in-Err.fault = sym (ap decode_of same ∙ decode_of-hexadecimal octets are) ∙ e in
          absurd cc
    ]

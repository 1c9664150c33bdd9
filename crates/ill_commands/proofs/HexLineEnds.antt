-- The octets that are kept of a line that is a message in hexadecimal.
use Rattle.std.proofs.Common.{◌≡◌, ◌≤◌, ℕ, List, length, take, drop, sym, arith, length-take, Some}
use Rattle.std.proofs.lemmas.List.{take-append-drop}
use Rattle.std.proofs.Math.ListN.{drop_of_length-le}
use Rattle.ill_inputs.specs.Hexadecimal.{hex_octets}
use Rattle.ill_inputs.proofs.HexAnswers.{same_octets}

-- a text that is too long has one result, however much too long it is
pub kept_stands : (text : List ℕ) → hex_octets (take 4_194_305 text) ≡ hex_octets text
kept_stands text =
    let few : length (take 4_194_305 text) ≤ 4_194_305 = omega (arith, length-take 4_194_305 text) in
    sym (same_octets text (Some (drop 4_194_305 text)) (take 4_194_305 text) (
      sym (take-append-drop 4_194_305 text),
      few,
      λ le. drop_of_length-le text {i = 4_194_305} (omega (arith, le, length-take 4_194_305 text)),
    ))

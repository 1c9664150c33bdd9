use Rattle.std.proofs.Common.{◌≡◌, ◌∙◌, sym, ap, subst}
use Rattle.std.specs.Prelude.{IsTrue}
use Rattle.ber_tree.specs.Octets.{are_octets}
use Rattle.ill_schema.specs.Texts.{characters}
use Rattle.ill_texts.proofs.CharacterTexts.{characters-IsAscii, octets-IsAscii}
use Rattle.ill_texts.proofs.characters.octets_of_characters.Goals as goal

pub returns-then-is_ascii-clause-said : goal.returns-then-is_ascii-clause-said
returns-then-is_ascii-clause-said c =
    let text = c.args.text.now in
    let copied : c.in_ok-from_slice.field-0.items ≡ text = c.in_ok-from_slice.ensures.items ∙ c.as_bytes.ensures.value in
    let ascii = c.if-is_ascii.ensures.cases in
    (subst (λ octets. IsTrue (are_octets octets)) (sym copied) (octets-IsAscii text ascii), characters-IsAscii text ascii ∙ ap characters (sym copied))

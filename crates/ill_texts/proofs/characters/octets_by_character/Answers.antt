use Rattle.std.proofs.Common.{◌≡◌, ◌∙◌, ◌<◌, List, ℕ, length, get_or, map-id, sym, ap, subst}
use Rattle.std.specs.Prelude.{IsTrue}
use Rattle.std.specs.Str.{chars}
use Rattle.std.proofs.lemmas.Iterator.{YieldsList-from_chars}
use Rattle.std.proofs.lemmas.Iterator.Consumers.{YieldsList-end, YieldsList-turn}
use Rattle.ber_tree.specs.Octets.{are_octets}
use Rattle.ill_schema.specs.Texts.{characters}
use Rattle.ill_schema.proofs.CharacterTexts.{characters-chars, chars-characters}
use Rattle.ill_texts.proofs.OctetLists.{octet_within}
use Rattle.ill_texts.proofs.characters.octets_by_character.Goals as goal

-- a character of the text of octets is below 256
pub returns-in_default-clause-unsaid : goal.returns-in_default-clause-unsaid
returns-in_default-clause-unsaid c octets are same =
    let turn = YieldsList-turn (YieldsList-from_chars c.args.text.now c.utf8.text cc) c.loop-character.yielded _ c.loop-character.yielded_by _ _ c.in-Some.character c.in-Some.is c.next.ensures.steps in
    let are_chars : chars c.args.text.now ≡ octets = ap chars same ∙ chars-characters octets are in
    let P : List ℕ → Type 0 = λ cs. (length c.loop-character.yielded < length cs) × (c.in-Some.character ≡ get_or cs (length c.loop-character.yielded) c.in-Some.character) in
    let at : P octets = subst P are_chars turn in
    let small = octet_within octets (length c.loop-character.yielded) c.in-Some.character are at.0 in
    c.in_default.ensures (subst (λ n. n < 256) (sym at.1) small)

pub returns-clause-said : goal.returns-clause-said
returns-clause-said c =
    let text = c.args.text.now in
    let end = YieldsList-end (YieldsList-from_chars text c.utf8.text cc) c.loop-character.yielded _ c.loop-character.yielded_by _ _ c.in-None.is c.next.ensures.steps in
    let read : c.loop-character.octets.items ≡ chars text = c.loop-character.invariant.same ∙ sym (map-id c.loop-character.yielded) ∙ end.0 in
    (subst (λ octets. IsTrue (are_octets octets)) (sym c.loop-character.invariant.same) c.loop-character.invariant.are, characters-chars text c.utf8.text ∙ ap characters (sym read))

-- The header that was read at the front of octets.
use Rattle.std.proofs.Common.{◌≡◌, ◌+◌, ◌-◌, ◌≤◌, [], ◌∷◌, refl, ◌++◌, ◌∙◌, ℕ, IsTrue, List, append_assoc, drop, length, length-append, take, sym, ap, subst, arith}
use Rattle.std.proofs.lemmas.List.{length-drop}
use Rattle.ber_tree.specs.Identifier.{identifier}
use Rattle.ber_tree.specs.Octets.{are_octets}
use Rattle.ber_core.specs.Header.{IsHeader}
use Rattle.ber_core.specs.HeaderRead.{IsHeaderRead}
use Rattle.ber_core.specs.Id.{form_of_id, tag_of_id}
use Rattle.ber_core.specs.declared.header.Len.{Len}
use Rattle.ber_core.specs.declared.header.Len.TheVariants.{Definite, Indefinite}
use Rattle.ber_core.specs.declared.header_read.HeaderRead.TheVariants.{Identified}
use Rattle.ber_core.specs.declared.header_read.LengthRead.TheVariants.{Whole}
use Rattle.ber_core.specs.declared.id.Id.{Id}
use Rattle.ber_core.proofs.ReadOctets.{octets_right, read_is_identifier, read_is_indefinite, read_is_length, take-all}

-- what comes before the octets after a size is as long
front_of : (size : ℕ) (w a : List ℕ) → size ≤ length w → w ≡ a ++ drop size w → take size w ≡ a
front_of size w a h e =
    let n : length w ≡ length a + (length w - size) = ap length e ∙ length-append a (drop size w) ∙ ap (λ (k : ℕ). length a + k) (length-drop size w) in
    let same : size ≡ length a = omega (arith, n, h) in
    ap (λ (k : ℕ). take k w) same ∙ ap (take (length a)) e ∙ take-all a (drop size w)

-- the octets up to the end of a header that was read are one
pub header_taken : (id : Id) (len : Len) (size : ℕ) (w : List ℕ) → IsTrue (are_octets w) → IsHeaderRead (Identified id (Whole len size)) w
    → IsHeader (record { id = id; len = len }) (take size w)
header_taken id (Definite held) size w ok read =
    let front = identifier (tag_of_id id) (form_of_id id) in
    let spelled : w ≡ front ++ read.0 = (read_is_identifier w (tag_of_id id) (form_of_id id) read.0 ok read.1).1 in
    let right : IsTrue (are_octets read.0) = octets_right front read.0 (subst (λ x. IsTrue (are_octets x)) spelled ok) in
    let whole = read.2.2 in
    let long = read_is_length (form_of_id id) read.0 whole.0 (drop size w) right whole.1 in
    record {
      octets = long.0;
      spell_len = (whole.0, long.1, whole.2);
      joined = front_of size w (front ++ long.0) read.2.1 (spelled ∙ ap (λ x. front ++ x) long.2 ∙ sym (append_assoc front long.0 (drop size w)));
    }
header_taken id Indefinite size w ok read =
    let front = identifier (tag_of_id id) (form_of_id id) in
    let spelled : w ≡ front ++ read.0 = (read_is_identifier w (tag_of_id id) (form_of_id id) read.0 ok read.1).1 in
    let right : IsTrue (are_octets read.0) = octets_right front read.0 (subst (λ x. IsTrue (are_octets x)) spelled ok) in
    let mark = read_is_indefinite (form_of_id id) read.0 (drop size w) right read.2.2 in
    record {
      octets = 128 ∷ [];
      spell_len = (mark.0, refl);
      joined = front_of size w (front ++ 128 ∷ []) read.2.1 (spelled ∙ ap (λ x. front ++ x) mark.1 ∙ sym (append_assoc front (128 ∷ []) (drop size w)));
    }

-- What is read of headers is what identifiers and lengths are.
use Rattle.std.proofs.Common.{◌≡◌, ℕ, Bool, true, List, [], ◌∷◌, IsTrue, refl, sym, ap, ◌∙◌, append-nil}
use Rattle.ber_tree.specs.Octets.{are_octets}
use Rattle.ber_core.specs.ReadHeaders.{IdentifiersAreRead, MatchesIdentifier, MatchesLength, LengthsAreRead}
use Rattle.ber_core.specs.Reading.{IdentifierRead, identified, part_identifier, no_identifier, read_identifier, LengthRead, definite, indefinite, part_length, no_length, read_length}
use Rattle.ber_core.proofs.ReadOctets.{indefinite_read, read_is_identifier, read_is_indefinite, read_is_length}
use Rattle.ber_core.proofs.PartHeaders.{completing, none_begins, no_length_begins, part_begins, part_begins_length, part_begins_no_length, part_begins_none}

identifier_is : (w : List ℕ) (r : IdentifierRead) → IsTrue (are_octets w) → read_identifier w ≡ r → MatchesIdentifier w r
identifier_is w (identified tag constructed rest) ok e = read_is_identifier w tag constructed rest ok e
identifier_is w part_identifier ok e =
    let p = part_begins w ok e in
    ((completing w ∷ [], (p.0, p.1, [], p.2, p.3)), λ b. part_begins_none w b.0 b.1 b.2 e b.3 b.4)
identifier_is w no_identifier ok e = λ m. none_begins w m.1.0 m.1.1 m.1.2 m.0 e m.1.3 m.1.4

not_both : (rest : List ℕ) → no_length ≡ indefinite rest → ⊥
not_both rest e = absurd cc

length_is : (f : Bool) (w : List ℕ) (r : LengthRead) → IsTrue (are_octets w) → read_length f w ≡ r → MatchesLength f w r
length_is f w (definite n rest) ok e = read_is_length f w n rest ok e
length_is f w (indefinite rest) ok e = read_is_indefinite f w rest ok e
length_is f w part_length ok e =
    let p = part_begins_length f w ok e in
    ((p.2, (p.0, p.1, [], p.3, p.4 ∙ sym (append-nil p.1))), λ b. part_begins_no_length f w b.0 b.1 b.2 e b.3 b.4)
length_is f w no_length ok e = (
  λ m. no_length_begins f w m.1.0 m.1.1 m.1.2 m.0 e m.1.3 m.1.4,
  λ i. not_both i.0 (sym e ∙ ap (λ b. read_length b w) i.1 ∙ ap (read_length true) i.2 ∙ indefinite_read i.0),
)

pub identifiers_are_read : IdentifiersAreRead
identifiers_are_read w ok = identifier_is w (read_identifier w) ok refl

pub lengths_are_read : LengthsAreRead
lengths_are_read f w ok = length_is f w (read_length f w) ok refl

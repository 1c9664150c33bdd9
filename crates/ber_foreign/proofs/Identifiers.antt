-- Identifiers at the front of octets.
use Rattle.std.proofs.Common.{◌≡◌, ◌⊎◌, inl, inr, ℕ, ◌+◌, ◌-◌, ◌<◌, ◌≤◌, Bool, List, ◌++◌, length, take, drop, IsTrue, sym, ap, subst, ◌∙◌, arith, length-append, append_assoc, take-append-drop}
use Rattle.std.proofs.Math.Seq.{take-append-add}
use Rattle.std.proofs.lemmas.List.{drop_at}
use Rattle.ber_tree.specs.Identifier.{Tag, identifier, HasIdentifier}
use Rattle.ber_tree.specs.Octets.{are_octets}
use Rattle.ber_core.specs.declared.id.Id.{Id}
use Rattle.ber_core.specs.declared.header_read.HeaderRead.{HeaderRead}
use Rattle.ber_core.specs.declared.header_read.HeaderRead.TheVariants.{NoIdentifier, PartIdentifier}
use Rattle.ber_core.specs.Header.{BeginsWithId}
use Rattle.ber_core.specs.HeaderRead.{IsHeaderRead}
use Rattle.ber_core.specs.Id.{form_of_id, id_octets, tag_of_id}
use Rattle.ber_core.specs.Reading.{IdentifierRead, read_identifier, identified, no_identifier, part_identifier}
use Rattle.ber_core.specs.ReadHeaders.{BeginsWithIdentifier}
use Rattle.ber_core.proofs.Identifiers.{Digits, one, two, three, four, Identified, low, high, identified as is_identified}
use Rattle.ber_core.proofs.ReadOctets.{identifier_read, octets_left, read_is_identifier}

-- number octets after the first octet are at most four
digits_count : (n : ℕ) (ds : List ℕ) → Digits n ds → length ds ≤ 4
digits_count n ds (one h) = omega arith
digits_count n ds (two a b p q r e) = omega arith
digits_count n ds (three a b c p q r s e) = omega arith
digits_count n ds (four a b c d p q r s t e) = omega arith

-- so identifier octets are one to five
octets_count : (t : Tag) (f : Bool) (a : List ℕ) → Identified t f a → (0 < length a) × (length a ≤ 5)
octets_count t f a (low h) = (omega arith, omega arith)
octets_count t f a (high {octets = ds} h d) = (omega arith, omega (arith, digits_count t.number ds d))

pub identifier_count : (t : Tag) (f : Bool) → HasIdentifier t f → (0 < length (identifier t f)) × (length (identifier t f) ≤ 5)
identifier_count t f h = octets_count t f (identifier t f) (is_identified t f h)

-- what is read of a front of at least five octets is what octets begin with
pub front_read : (octets rest : List ℕ) (k : ℕ) (t : Tag) (f : Bool) → HasIdentifier t f → octets ≡ identifier t f ++ rest → length (identifier t f) ≤ k → (more : List ℕ) × (read_identifier (take k octets) ≡ identified t f more)
front_read octets rest k t f h e le =
    let n = k - length (identifier t f) in
    let size : k ≡ length (identifier t f) + n = omega (arith, le) in
    let front : take k octets ≡ identifier t f ++ take n rest = ap (take k) e ∙ ap (λ m. take m (identifier t f ++ rest)) size ∙ take-append-add (identifier t f) rest n in
    (take n rest, ap read_identifier front ∙ identifier_read t f (take n rest) h)

-- where none is read of the front, octets begin with none
none_read : (octets : List ℕ) (k : ℕ) (r : IdentifierRead) → read_identifier (take k octets) ≡ r → ((t : Tag) (f : Bool) (rest : List ℕ) → r ≡ identified t f rest → ⊥)
    → ((n : ℕ) → n ≤ 5 → n ≤ length octets → n ≤ k) → BeginsWithIdentifier octets → ⊥
none_read octets k r e lacks reaches b =
    let size : length octets ≡ length (identifier b.0 b.1) + length b.2 = ap length b.4 ∙ length-append (identifier b.0 b.1) b.2 in
    let le : length (identifier b.0 b.1) ≤ k = reaches (length (identifier b.0 b.1)) (identifier_count b.0 b.1 b.3).1 (omega (arith, size)) in
    let f = front_read octets b.2 k b.0 b.1 b.3 b.4 le in
    lacks b.0 b.1 f.0 (sym e ∙ f.1)

-- what is read where no identifier is whole
no_is_none : (t : Tag) (f : Bool) (rest : List ℕ) → no_identifier ≡ identified t f rest → ⊥
no_is_none t f rest e = cc

part_is_none : (t : Tag) (f : Bool) (rest : List ℕ) → part_identifier ≡ identified t f rest → ⊥
part_is_none t f rest e = cc

-- the same of what `read_header` returns
pub front_lacks : (octets : List ℕ) (k : ℕ) (read : HeaderRead) → IsHeaderRead read (take k octets) → (read ≡ NoIdentifier) ⊎ (read ≡ PartIdentifier)
    → ((n : ℕ) → n ≤ 5 → n ≤ length octets → n ≤ k) → BeginsWithIdentifier octets → ⊥
front_lacks octets k read is (inl e) reaches b = none_read octets k no_identifier (subst (λ r. IsHeaderRead r (take k octets)) e is) no_is_none reaches b
front_lacks octets k read is (inr e) reaches b = none_read octets k part_identifier (subst (λ r. IsHeaderRead r (take k octets)) e is) part_is_none reaches b

-- an identifier that is read of a front
pub front_begins : (octets rest : List ℕ) (k : ℕ) (id : Id) → IsTrue (are_octets octets) → read_identifier (take k octets) ≡ identified (tag_of_id id) (form_of_id id) rest → BeginsWithId id octets
front_begins octets rest k id ok e =
    let all : take k octets ++ drop k octets ≡ octets = take-append-drop k octets in
    let front : IsTrue (are_octets (take k octets)) = octets_left (take k octets) (drop k octets) (subst (λ z. IsTrue (are_octets z)) (sym all) ok) in
    let is = read_is_identifier (take k octets) (tag_of_id id) (form_of_id id) rest front e in
    (rest ++ drop k octets, sym all ∙ ap (λ z. z ++ drop k octets) is.1 ∙ append_assoc (id_octets id) rest (drop k octets))

-- the octets behind an identifier that octets begin with
pub behind_id : (octets behind : List ℕ) (id : Id) (k : ℕ) → BeginsWithId id octets → length (id_octets id) ≡ k → behind ≡ drop k octets → octets ≡ id_octets id ++ behind
behind_id octets behind id k b size e =
    let rest : behind ≡ b.0 = e ∙ ap (drop k) b.1 ∙ drop_at (id_octets id) b.0 k size in
    b.1 ∙ ap (λ z. id_octets id ++ z) (sym rest)

-- which takes no more octets than there are
pub id_within : (octets : List ℕ) (id : Id) (k : ℕ) → BeginsWithId id octets → length (id_octets id) ≡ k → k ≤ length octets
id_within octets id k b size = omega (arith, ap length b.1, length-append (id_octets id) b.0, size)

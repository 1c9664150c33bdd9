-- What is read of a header at the front of octets.
use Rattle.std.specs.Prelude.{◌≡◌, ℕ, ◌<◌, ◌≤◌, min, List, ◌++◌, length, drop}
use Rattle.ber_core.specs.declared.header.Header.{Header}
use Rattle.ber_core.specs.declared.header.Len.{Len}
use Rattle.ber_core.specs.declared.header.Len.TheVariants.{Definite, Indefinite}
use Rattle.ber_core.specs.Header.{IsHeader}
use Rattle.ber_core.specs.Id.{tag_of_id, form_of_id}
use Rattle.ber_core.specs.Reading.{LengthRead, read_identifier, read_length, identified, no_identifier, part_identifier, definite, indefinite, no_length, part_length}
use Rattle.ber_core.specs.declared.header_read.HeaderRead.{HeaderRead}
use Rattle.ber_core.specs.declared.header_read.HeaderRead.TheVariants.{NoIdentifier, PartIdentifier, Identified}
use Rattle.ber_core.specs.declared.header_read.LengthRead.{LengthRead as Length}
use Rattle.ber_core.specs.declared.header_read.LengthRead.TheVariants.{NoLength, PartLength, Whole}

-- where the octets of a length end
abbrev pub IsWholeLength : LengthRead → Len → List ℕ → Type 0
IsWholeLength read (Definite held) behind = (n : ℕ) × (read ≡ definite n behind) × (held ≡ min n 4_294_967_295)
IsWholeLength read Indefinite behind = read ≡ indefinite behind

-- the least number of octets by which octets become a header
abbrev pub Lacks : List ℕ → ℕ → Type 0
Lacks octets n =
    ((header : Header) (rest : List ℕ) → IsHeader header (octets ++ rest) → n ≤ length rest)
    × ((header : Header) × (rest : List ℕ) × IsHeader header (octets ++ rest) × (length rest ≡ n))

abbrev pub IsLengthRead : Length → LengthRead → List ℕ → Type 0
IsLengthRead NoLength read octets = read ≡ no_length
IsLengthRead (PartLength due) read octets = (read ≡ part_length) × Lacks octets due
IsLengthRead (Whole len size) read octets = (0 < size) × (size ≤ length octets) × IsWholeLength read len (drop size octets)

abbrev pub IsHeaderRead : HeaderRead → List ℕ → Type 0
IsHeaderRead NoIdentifier octets = read_identifier octets ≡ no_identifier
IsHeaderRead PartIdentifier octets = read_identifier octets ≡ part_identifier
IsHeaderRead (Identified id length) octets =
    (rest : List ℕ) × (read_identifier octets ≡ identified (tag_of_id id) (form_of_id id) rest) × IsLengthRead length (read_length (form_of_id id) rest) octets

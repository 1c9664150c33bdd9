-- The outline of a message's normal form is the message's.
use Rattle.std.proofs.Common.{◌≡◌, ◌∙◌, ◌++◌, ◌≤◌, [], length, List, ℕ, Some, None, Option, sym, subst, append-nil, arith}
use Rattle.std.specs.Io.KnownBytes.{Consumes, IsAtEnd}
use Rattle.ber_leaf.specs.Profile.{Profile, profile_two}
use Rattle.ill_schema.specs.Apdu.{Apdu, Accepts, SpellsApdu, normal_form}
use Rattle.ill_schema.specs.Fits.{FitsApdu}
use Rattle.ill_schema.proofs.Encodings.{normal_spells}
use Rattle.ill_schema.proofs.OneMeaning.{one_message}
use Rattle.ill_schema.proofs.Streams.{parts_accept, spells_some}
use Rattle.ill_grammar.specs.Outline.{IsOutlineOf}
use Rattle.ill_read.specs.Outlined.{IsOutlinedIn}
use Rattle.ill_read.specs.declared.outlined.OutlinedMessage.{OutlinedMessage}

-- the octets spell an APDU in the profile
abbrev pub IsSpelling : Profile → List ℕ → Type 0
IsSpelling p octets = (a : Apdu) × SpellsApdu p a octets

front_of : (s b : List ℕ) (left : Option (List ℕ)) → Consumes (Some s) left b → (rest : List ℕ) × (s ≡ b ++ rest)
front_of s b (Some rest) h = (rest, h)
front_of s b None h = absurd h

pub one_outline : (p : Profile) (s : List ℕ) (left : Option (List ℕ)) (a : Apdu) (read : OutlinedMessage) → SpellsApdu p a s
    → (b : List ℕ) → Consumes (Some s) left b → IsOutlinedIn p read b → IsOutlineOf read.outline a
one_outline p s left a read h b taken is =
    let front = front_of s b left taken in
    let one = one_message p a is.0 s b [] front.0 h.encodes is.1.encodes (append-nil s ∙ front.1) in
    subst (IsOutlineOf read.outline) (sym one.0) is.2

pub message_spells : (a : Apdu) → FitsApdu profile_two a → length (normal_form a) ≤ profile_two.limit → SpellsApdu profile_two a (normal_form a)
message_spells a fit le = normal_spells profile_two a fit (omega arith) le

-- octets that spell an APDU are some
pub spelling_is_some : (p : Profile) (s left : List ℕ) → IsSpelling p s → Consumes (Some s) (Some left) [] → IsAtEnd (Some left) → ⊥
spelling_is_some p s left spelling taken end = spells_some p spelling.0 s spelling.1.encodes (taken ∙ end)

-- and they are accepted
pub spelling_is_accepted : (p : Profile) (s : List ℕ) → (spelling : IsSpelling p s) → Accepts p s spelling.0 (length s)
spelling_is_accepted p s spelling = parts_accept p s spelling.0 s [] (sym (append-nil s)) spelling.1

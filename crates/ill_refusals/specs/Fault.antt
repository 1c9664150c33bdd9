-- The fault at a place: the conditions in their order, of which the first that holds counts.
use Rattle.std.specs.Prelude.{◌≡◌, ◌⊎◌, ℕ, ◌+◌, ◌-◌, ◌<◌, ◌≤◌, Bool, true, false, ◌&&◌, ◌||◌, nat_eq, nat_lt, nat_le, List, [], ◌∷◌, length, take, drop, Option, Some, None, is_some, if◌then◌else◌}
use Rattle.ber_tree.specs.Tree.{Trees}
use Rattle.ill_schema.specs.declared.refusal.Cause.{Cause}
use Rattle.ill_schema.specs.declared.refusal.Refusal.{Refusal}
use Rattle.ber_leaf.specs.declared.fault.LeafFault.{LeafFault}
use Rattle.ber_leaf.specs.Leaf.{content_fault}
use Rattle.ber_leaf.specs.Segments.{segments_content}
use Rattle.ill_tables.specs.declared.part.PartId.{PartId}
use Rattle.ill_schema.specs.Causes.{cause_of}
use Rattle.ber_leaf.specs.Profile.{Profile}
use Rattle.ill_refusals.specs.Element.{Element, leaf, left_out}
use Rattle.ill_refusals.specs.Next.{Due, element_of, due, missing, is_last}
use Rattle.ill_refusals.specs.Place.{Open, next_in, innermost_end, bound, allows, IsDue}
use Rattle.ill_schema.specs.Apdu.{Apdu, Encodes, normal_form_in}
use Rattle.ber_core.specs.Reading.{IdentifierRead, read_identifier, identified, part_identifier, no_identifier, LengthRead, read_length, definite, part_length, no_length}

-- a cause and an offset
pub record Fault : Type 0 where
  pub cause : Cause
  pub at : ℕ

abbrev pub fault : Cause → ℕ → Fault
fault cause at = record { cause = cause; at = at }

-- the fault that a refusal names
abbrev pub fault_of : Refusal → Fault
fault_of r = fault r.cause r.at

-- whether the innermost element is definite and ends there
abbrev pub ends_at : List Open → ℕ → Bool
ends_at [] k = false
ends_at (o ∷ path) k = elim o.end as (λ _. Bool) [ Some e ↦ nat_eq e k | None ↦ false ]

abbrev pub is_indefinite : List Open → Bool
is_indefinite [] = false
is_indefinite (o ∷ path) = elim o.end as (λ _. Bool) [ Some e ↦ false | None ↦ true ]

-- an octet past the innermost definite end, or past the limit
abbrev pub past_end : List Open → Cause
past_end path = if is_some (innermost_end path) then Cause.Overrun else Cause.TooLong

-- the fault where an octet is missing: that end or the limit comes first, or the input's end
abbrev pub cut_fault : Profile → List Open → ℕ → List ℕ → Fault
cut_fault p path k rest =
    if nat_le (bound p path - k) (length rest) then fault (past_end path) k
    else fault Cause.Truncated (k + length rest)

-- the fault of a primitive element's content
abbrev pub element_fault : Profile → Element → List ℕ → Option LeafFault
element_fault p e octets = elim e as (λ _. Option LeafFault) [ leaf l ↦ content_fault p l octets | _ ↦ None ]

-- the fault of a string in segments
abbrev pub string_fault : Profile → Element → Trees → Option LeafFault
string_fault p e trees = elim e as (λ _. Option LeafFault) [ leaf l ↦ content_fault p l (segments_content l trees) | _ ↦ None ]

-- what a condition finds at a place
pub data Finding : Type 0 where
  -- it does not hold
  passes : Finding
  -- it holds, and this is the fault
  finds : Fault → Finding
  -- it holds, and the place has no fault
  sound : Finding

-- the first condition that holds gives the fault
abbrev pub first_fault : List Finding → Option Fault
first_fault [] = None
first_fault (passes ∷ findings) = first_fault findings
first_fault (finds f ∷ findings) = Some f
first_fault (sound ∷ findings) = None

-- an element ends at offset k: a mandatory part is missing, or the text of a string is at fault, at the string's first octet
abbrev pub end_finding : Option PartId → ℕ → Option LeafFault → ℕ → Finding
end_finding (Some part) k text start = finds (fault (Cause.Missing part) k)
end_finding None k (Some c) start = finds (fault (cause_of c) start)
end_finding None k None start = sound

-- the innermost element ends at offset k
abbrev pub innermost_ends : Profile → List Open → ℕ → Finding
innermost_ends p [] k = sound
innermost_ends p (o ∷ path) k = end_finding (missing p (next_in p (o ∷ path))) k (string_fault p o.element o.trees) o.start

-- 1. the innermost element is definite, and its end is here
abbrev pub definite_end : Profile → List Open → ℕ → Finding
definite_end p path k = if ends_at path k then innermost_ends p path k else passes

-- 2. no octet is here
abbrev pub no_octet : Fault → List ℕ → Finding
no_octet cut [] = finds cut
no_octet cut (octet ∷ w) = passes

-- the second octet of an end mark
abbrev pub second_zero : Profile → List Open → ℕ → Fault → List ℕ → Finding
second_zero p path k cut [] = finds cut
second_zero p path k cut (octet ∷ w) = if nat_eq octet 0 then innermost_ends p path k else finds (fault Cause.BadEnd k)

-- 3. the innermost element is indefinite, and 00 is here (X.690, 8.1.5)
abbrev pub end_mark : Profile → List Open → ℕ → Fault → List ℕ → Finding
end_mark p path k cut [] = passes
end_mark p path k cut (octet ∷ w) = if is_indefinite path && nat_eq octet 0 then second_zero p path k cut w else passes

-- 4. the identifier ends too early, or none begins so (8.1.2)
abbrev pub bad_identifier : ℕ → Fault → IdentifierRead → Finding
bad_identifier k cut part_identifier = finds cut
bad_identifier k cut no_identifier = finds (fault Cause.BadTag k)
bad_identifier k cut (identified tag form w) = passes

-- 32 elements are open, or all the levels that a foreign tree may have
abbrev pub is_deep : Profile → List Open → Bool
is_deep p path = nat_le 32 (length path) || is_last (next_in p path)

-- 5. no further element may open
abbrev pub too_deep : Profile → List Open → ℕ → Finding
too_deep p path k = if is_deep p path then finds (fault Cause.TooDeep k) else passes

-- 6. the tag is that of a row that is left out, or is not due; or the element may not have the form
abbrev pub bad_form : ℕ → Bool → Element → Finding
bad_form k form (left_out part) = finds (fault (Cause.LeftOut part) k)
bad_form k form e = if allows e form then passes else finds (fault Cause.WrongForm k)

abbrev pub bad_tag : ℕ → Bool → Option Due → Finding
bad_tag k form None = finds (fault Cause.UnexpectedTag k)
bad_tag k form (Some d) = bad_form k form (element_of d)

-- 7. the length ends too early, or none begins so (8.1.3)
abbrev pub bad_length : ℕ → Fault → LengthRead → Finding
bad_length k cut part_length = finds cut
bad_length k cut no_length = finds (fault Cause.BadLength k)
bad_length k cut l = passes

-- 8. a definite length reaches past the innermost definite end, or past the limit; the identifier has i octets, and `size` follow it
abbrev pub too_long : Profile → List Open → ℕ → ℕ → ℕ → LengthRead → Finding
too_long p path k i size (definite n w) = if nat_lt (bound p path) (k + (i + (size - length w)) + n) then finds (fault (past_end path) k) else passes
too_long p path k i size l = passes

-- 9. the content of a primitive element ends too early, or is at fault
abbrev pub at_fault : Option LeafFault → ℕ → Finding
at_fault (Some c) k = finds (fault (cause_of c) k)
at_fault None k = passes

abbrev pub bad_content : Profile → ℕ → Fault → Bool → Option Due → LengthRead → Finding
bad_content p k cut false (Some d) (definite n w) = if nat_lt (length w) n then finds cut else at_fault (element_fault p (element_of d) (take n w)) k
bad_content p k cut form d l = passes

-- the conditions after an identifier of i octets, of the element that is due and the length that is read
abbrev pub after_identifier : Profile → List Open → ℕ → Fault → Bool → ℕ → ℕ → Option Due → LengthRead → List Finding
after_identifier p path k cut form i size d l = bad_tag k form d ∷ bad_length k cut l ∷ too_long p path k i size l ∷ bad_content p k cut form d l ∷ []

abbrev pub of_element : Profile → List Open → ℕ → Fault → ℕ → IdentifierRead → List Finding
of_element p path k cut size (identified tag form w) =
    after_identifier p path k cut form (size - length w) (length w) (due p tag (next_in p path)) (read_length form w)
of_element p path k cut size i = []

-- the conditions in their order, of the octets that may be read at offset k
abbrev pub conditions : Profile → List Open → ℕ → Fault → List ℕ → List Finding
conditions p path k cut w =
    definite_end p path k
    ∷ no_octet cut w
    ∷ end_mark p path k cut w
    ∷ bad_identifier k cut (read_identifier w)
    ∷ too_deep p path k
    ∷ of_element p path k cut (length w) (read_identifier w)

-- the fault at offset k, where these elements are open and the rest of the input follows
abbrev pub fault_at : Profile → List Open → ℕ → List ℕ → Option Fault
fault_at p path k rest = first_fault (conditions p path k (cut_fault p path k rest) (take (bound p path - k) rest))

-- the normal form of what is encoded passes the limit
abbrev pub HasLongNormal : Profile → List ℕ → Type 0
HasLongNormal p s = (a : Apdu) × (n : ℕ) × (n ≤ length s) × Encodes p a (take n s) × (p.limit < length (normal_form_in p a))

-- the input is refused with this fault
abbrev pub Refuses : Profile → List ℕ → Fault → Type 0
Refuses p s f =
    ((path : List Open) × (k : ℕ) × IsDue p s k path × (fault_at p path k (drop k s) ≡ Some f))
    ⊎ ((f ≡ fault Cause.NormalTooLong 0) × HasLongNormal p s)

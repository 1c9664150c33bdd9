-- What is done at a place: a machine that the decoder follows, and that proofs run through.
use Rattle.std.specs.Prelude.{ℕ, ◌+◌, ◌-◌, Bool, true, false, ◌&&◌, nat_eq, nat_lt, List, [], ◌∷◌, length, take, Option, Some, None, if◌then◌else◌}
use Rattle.ber_tree.specs.Identifier.{Tag}
use Rattle.ill_schema.specs.declared.refusal.Cause.{Cause}
use Rattle.ber_leaf.specs.declared.fault.LeafFault.{LeafFault}
use Rattle.ill_schema.specs.Causes.{cause_of}
use Rattle.ber_leaf.specs.Profile.{Profile}
use Rattle.ill_refusals.specs.Element.{Element, left_out}
use Rattle.ill_refusals.specs.Next.{element_of, due, missing}
use Rattle.ill_refusals.specs.Place.{Open, next_in, bound, allows}
use Rattle.ill_refusals.specs.Fault.{Fault, fault, ends_at, is_indefinite, past_end, cut_fault, element_fault, string_fault, is_deep}
use Rattle.ber_core.specs.Reading.{read_identifier, identified, part_identifier, no_identifier, read_length, definite, indefinite, part_length, no_length}

-- what is done at a place
pub data Judgement : Type 0 where
  faulty : Fault → Judgement
  -- the innermost element ends, after this many octets
  closes : ℕ → Judgement
  -- a constructed element opens: its header's size, and its end
  opens : Tag → Element → ℕ → Option ℕ → Judgement
  -- a primitive element is read: its header's size, and its content
  reads : Tag → ℕ → List ℕ → Judgement

abbrev pub or_faulty : Option LeafFault → ℕ → Judgement → Judgement
or_faulty f at j = elim f as (λ _. Judgement) [ Some c ↦ faulty (fault (cause_of c) at) | None ↦ j ]

-- the innermost element ends: a part is missing, or a string's text is at fault
abbrev pub judge_end : Profile → List Open → ℕ → ℕ → Judgement
judge_end p [] k marks = closes marks
judge_end p (o ∷ path) k marks = elim (missing p (next_in p (o ∷ path))) as (λ _. Judgement) [
  | Some part ↦ faulty (fault (Cause.Missing part) k)
  | None ↦ or_faulty (string_fault p o.element o.trees) o.start (closes marks)
]

-- the contents of a primitive element
abbrev pub judge_content : Profile → Element → Tag → ℕ → ℕ → Fault → ℕ → List ℕ → Judgement
judge_content p e tag k h cut n w =
    if nat_lt (length w) n then faulty cut
    else or_faulty (element_fault p e (take n w)) k (reads tag h (take n w))

abbrev pub judge_size : Profile → List Open → Element → Tag → Bool → ℕ → ℕ → Fault → ℕ → List ℕ → Judgement
judge_size p path e tag constructed k h cut n w =
    if nat_lt (bound p path) (k + h + n) then faulty (fault (past_end path) k)
    else elim constructed as (λ _. Judgement) [ true ↦ opens tag e h (Some (k + h + n)) | false ↦ judge_content p e tag k h cut n w ]

-- the length, after an identifier of i octets
abbrev pub judge_length : Profile → List Open → Element → Tag → Bool → ℕ → ℕ → Fault → List ℕ → Judgement
judge_length p path e tag constructed k i cut w = elim (read_length constructed w) as (λ _. Judgement) [
  | part_length ↦ faulty cut
  | no_length ↦ faulty (fault Cause.BadLength k)
  | indefinite rest ↦ opens tag e (i + (length w - length rest)) None
  | definite n rest ↦ judge_size p path e tag constructed k (i + (length w - length rest)) cut n rest
]

abbrev pub judge_form : Profile → List Open → Element → Tag → Bool → ℕ → ℕ → Fault → List ℕ → Judgement
judge_form p path e tag constructed k i cut w = elim e as (λ _. Judgement) [
  | left_out part ↦ faulty (fault (Cause.LeftOut part) k)
  | _ ↦ elim (allows e constructed) as (λ _. Judgement) [ true ↦ judge_length p path e tag constructed k i cut w | false ↦ faulty (fault Cause.WrongForm k) ]
]

-- the tag and the form of an element
abbrev pub judge_tag : Profile → List Open → Tag → Bool → ℕ → ℕ → Fault → List ℕ → Judgement
judge_tag p path tag constructed k i cut w = elim (due p tag (next_in p path)) as (λ _. Judgement) [
  | None ↦ faulty (fault Cause.UnexpectedTag k)
  | Some d ↦ judge_form p path (element_of d) tag constructed k i cut w
]

-- an element from its first octet on
abbrev pub judge_element : Profile → List Open → ℕ → Fault → List ℕ → Judgement
judge_element p path k cut w = elim (read_identifier w) as (λ _. Judgement) [
  | part_identifier ↦ faulty cut
  | no_identifier ↦ faulty (fault Cause.BadTag k)
  | identified tag constructed rest ↦
      if is_deep p path then faulty (fault Cause.TooDeep k)
      else judge_tag p path tag constructed k (length w - length rest) cut rest
]

-- after the first octet of an end mark
abbrev pub judge_mark : Profile → List Open → ℕ → Fault → List ℕ → Judgement
judge_mark p path k cut [] = faulty cut
judge_mark p path k cut (octet ∷ w) = elim (nat_eq octet 0) as (λ _. Judgement) [ true ↦ judge_end p path k 2 | false ↦ faulty (fault Cause.BadEnd k) ]

-- an end mark or an element, in the octets that may be read
abbrev pub judge_octets : Profile → List Open → ℕ → Fault → List ℕ → Judgement
judge_octets p path k cut [] = faulty cut
judge_octets p path k cut (octet ∷ w) =
    elim (is_indefinite path && nat_eq octet 0) as (λ _. Judgement) [ true ↦ judge_mark p path k cut w | false ↦ judge_element p path k cut (octet ∷ w) ]

-- what is done at offset k, where these elements are open and the rest of the input follows
abbrev pub judge : Profile → List Open → ℕ → List ℕ → Judgement
judge p path k rest = elim (ends_at path k) as (λ _. Judgement) [
  | true ↦ judge_end p path k 0
  | false ↦ judge_octets p path k (cut_fault p path k rest) (take (bound p path - k) rest)
]

abbrev pub fault_in : Judgement → Option Fault
fault_in (faulty f) = Some f
fault_in _ = None

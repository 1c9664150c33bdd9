-- What is judged of an element at a place where elements are open, in the words of the definitions.
use Rattle.ill_schema.specs.Profiles.{profile_of}
use Rattle.ill_tables.specs.declared.profile.Profile.{Profile as Named}
use Rattle.std.specs.Option.{ForSome}
use Rattle.std.specs.Prelude.{◌≡◌, ℕ, zero, ◌+◌, ◌-◌, ◌<◌, ◌≤◌, Bool, true, false, not, ◌||◌, is_some, nat_eq, List, [], ◌∷◌, length, Option, Some, None, Result, Ok, Err, if◌then◌else◌, take, drop}
use Rattle.ber_core.specs.Id.{tag_of_id, form_of_id}
use Rattle.ber_tree.specs.Identifier.{Tag}
use Rattle.ber_core.specs.declared.id.Id.{Id}
use Rattle.ber_leaf.specs.Profile.{Profile, profile_two}
use Rattle.ill_schema.specs.declared.refusal.Cause.{Cause}
use Rattle.ill_schema.specs.declared.refusal.Refusal.{Refusal}
use Rattle.ber_leaf.specs.Leaf.{is_string}
use Rattle.ill_grammar.specs.LeafTypes.{leaf_is, module_leaf_is}
use Rattle.ill_grammar.specs.Elements.{element_is, found_is}
use Rattle.ill_refusals.specs.Fault.{Fault, element_fault, string_fault, fault, fault_of, is_deep}
use Rattle.ill_refusals.specs.code.Judge.{Judgement, faulty, opens, or_faulty, reads, judge_end, judge_form, judge_tag, closes}
use Rattle.ill_grammar.specs.declared.place.Found.{Found}
use Rattle.ill_grammar.specs.declared.cell.ElementType.{ElementType}
use Rattle.ill_grammar.specs.declared.cell.ElementType.TheVariants as element_type
use Rattle.ill_grammar.specs.Due.{found_in, read_as, IsDueIn, behind, next_is, first_of, shape_at, read_due, slot_in, next_place}
use Rattle.ill_refusals.specs.Place.{Open, bound, allows, next_in}
use Rattle.ill_grammar.specs.Standing.{StandsAt, next_at}
use Rattle.ill_grammar.specs.Begun as begun
use Rattle.ill_grammar.specs.declared.due.Next.{Next}
use Rattle.ill_grammar.specs.declared.due.Next.TheVariants.{Foreigns}
use Rattle.ill_grammar.specs.declared.element.Element.{Element as CodeElement}
use Rattle.ill_grammar.specs.declared.element.Element.TheVariants as code
use Rattle.ill_grammar.specs.declared.frame.Frame.{Frame}
use Rattle.ill_grammar.specs.declared.judge.Extent.{Extent}
use Rattle.ill_grammar.specs.declared.judge.Extent.TheVariants.{Opens, Reads}
use Rattle.ill_grammar.specs.declared.frames.Frames.{Frames}
use Rattle.ill_refusals.specs.Next.{missing}
use Rattle.ill_grammar.specs.Places.{first_place}
use Rattle.ber_core.specs.declared.header_read.LengthRead.{LengthRead}
use Rattle.ber_core.specs.declared.header_read.LengthRead.TheVariants.{Whole}

-- the innermost element ends, and no part of it is missing
pub record IsEnd (p : Named) (place : List Open) (marks : ℕ) (j : Judgement) : Type 0 where
  pub innermost : Open
  pub outer : List Open
  pub is_path : place ≡ innermost ∷ outer
  pub complete : missing profile_two (next_in (profile_of p) place) ≡ None
  pub is : j ≡ or_faulty (string_fault (profile_of p) innermost.element innermost.trees) innermost.start (closes marks)

-- an element is due there and may have the form
pub record IsBegin (frames : Frames) (place : List Open) (tag : Tag) (f : Found) (constructed : Bool) : Type 0 where
  pub is_due : IsDueIn tag (next_at frames.profile frames.open.items) (read_due f)
  pub begins : shape_at (first_place f) ≡ first_of (read_as f)
  pub goes_on : shape_at (next_place f) ≡ behind (next_at frames.profile frames.open.items) (slot_in f)
  pub allowed : allows (element_is (read_as f)) constructed ≡ true
  pub shallow : length place < 32

-- the octets after a header
abbrev pub content_in : ℕ → ℕ → List ℕ → List ℕ
content_in header size rest = take size (drop header rest)

-- a fact of the place that the path is at
abbrev pub WhereItStands : Frames → (List Open → Type 0) → Type 0
WhereItStands frames P = (place : List Open) → StandsAt frames place → P place

-- the end of the outermost element of definite length
abbrev pub outermost_end : List Frame → Option ℕ
outermost_end [] = None
outermost_end (f ∷ fs) = elim f.end as (λ _. Option ℕ) [ Some e ↦ Some e | None ↦ outermost_end fs ]

-- whether an end is there
abbrev pub end_at : Option ℕ → ℕ → Bool
end_at end at = elim end as (λ _. Bool) [ Some e ↦ nat_eq e at | None ↦ false ]

-- the innermost element ends there, or a part of it is missing
abbrev pub EndsAs : Named → List Open → ℕ → Option Refusal → Type 0
EndsAs p place at None = (marks : ℕ) → IsEnd p place marks (judge_end (profile_of p) place at marks)
EndsAs p place at (Some refusal) = (marks : ℕ) → judge_end (profile_of p) place at marks ≡ faulty (fault_of refusal)

-- whether a part of the innermost element is missing
abbrev pub lacks_part : Frames → Bool
lacks_part frames = is_some (missing profile_two (next_is (next_at frames.profile frames.open.items)))

-- the octets lie before the bound, up to which there is this room
abbrev pub IsRoom : ℕ → ℕ → List ℕ → Type 0
IsRoom at room octets = (at + room ≤ 1_048_576) × (length octets ≤ room)

-- what is read so may have the form; what is left out has none
abbrev pub has_form : ElementType → Bool → Bool
has_form (element_type.Leaf l) constructed = not constructed || is_string (leaf_is l)
has_form (element_type.ModuleLeaf l) constructed = not constructed || is_string (module_leaf_is l)
has_form element_type.BitString constructed = true
has_form element_type.Segment constructed = true
has_form element_type.BitSegment constructed = true
has_form element_type.Foreign constructed = true
has_form element_type.LeftOut constructed = false
has_form _ constructed = constructed

-- an element is usual in this form: constructed, a SEQUENCE, a SEQUENCE OF, an explicit tag or one of a foreign tree; primitive, a leaf of profile 2
abbrev pub is_usual : CodeElement → Bool → Bool
is_usual (code.Leaf l) constructed = not constructed
is_usual (code.Sequence node) constructed = constructed
is_usual (code.List node) constructed = constructed
is_usual (code.Wrapper w) constructed = constructed
is_usual (code.LooseWrapper w) constructed = constructed
is_usual (code.Foreign levels) constructed = constructed
is_usual _ constructed = false

-- what is found may have the form, or is at fault
abbrev pub IsFormed : Found → Bool → Option Cause → Type 0
IsFormed f constructed None = (found_in f ≡ begun.Element (read_as f)) × (allows (element_is (read_as f)) constructed ≡ true)
IsFormed f constructed (Some cause) =
    (p : Profile) (place : List Open) (tag : Tag) (at i : ℕ) (cut : Fault) (w : List ℕ) → judge_form p place (found_is (found_in f)) tag constructed at i cut w ≡ faulty (fault cause at)

-- why nothing is due where this may come next
abbrev pub unexpected : Next → Cause
unexpected (Foreigns zero) = Cause.TooDeep
unexpected _ = Cause.UnexpectedTag

-- what is judged after an identifier of i octets
abbrev pub judge_identified : Named → List Open → Tag → Bool → ℕ → ℕ → Fault → List ℕ → Judgement
judge_identified p place tag constructed at i cut w =
    if is_deep (profile_of p) place then faulty (fault Cause.TooDeep at) else judge_tag (profile_of p) place tag constructed at i cut w

-- an element with the identifier may begin there, or is at fault
abbrev pub IsIdentified : Frames → List Open → ℕ → Id → Result Found Refusal → Type 0
IsIdentified frames place at id (Ok f) = IsBegin frames place (tag_of_id id) f (form_of_id id)
IsIdentified frames place at id (Err refusal) =
    (i : ℕ) (cut : Fault) (w : List ℕ) → judge_identified frames.profile place (tag_of_id id) (form_of_id id) at i cut w ≡ faulty (fault_of refusal)

-- what is judged of an element of this extent, in these octets
abbrev pub IsExtent : Named → Found → Id → ℕ → List ℕ → Result Extent Refusal → Judgement → Type 0
IsExtent p f id at octets (Ok (Opens header end)) j = j ≡ opens (tag_of_id id) (element_is (read_as f)) header end
IsExtent p f id at octets (Ok (Reads header size)) j =
    j ≡ or_faulty (element_fault (profile_of p) (element_is (read_as f)) (content_in header size octets)) at (reads (tag_of_id id) header (content_in header size octets))
IsExtent p f id at octets (Err refusal) j = j ≡ faulty (fault_of refusal)

-- the judgement is the definitions', of whatever element begins there, where there is this room before the bound
abbrev pub Reaches : Frames → Id → ℕ → ℕ → List ℕ → Result Extent Refusal → (Found → List Open → Judgement) → Type 0
Reaches frames id at room octets result judged =
    (f : Found) (place : List Open) → StandsAt frames place → room ≡ bound profile_two place - at → IsExtent frames.profile f id at octets result (judged f place)

-- the extent opens exactly where the identifier is a constructed element's, and what it takes lies within `size` octets
abbrev pub Fits : Id → ℕ → Extent → Type 0
Fits id size (Opens header end) = (form_of_id id ≡ true) × (0 < header) × (header ≤ size) × ForSome end (λ e. e ≤ 1_048_576)
Fits id size (Reads header content) = (form_of_id id ≡ false) × (0 < header) × (header + content ≤ size)

-- a header that was read whole lies within `room` octets
abbrev pub HeaderIsIn : LengthRead → ℕ → Type 0
HeaderIsIn (Whole len header) room = (0 < header) × (header ≤ room)
HeaderIsIn _ room = Unit {0}

-- What is due at a spot.
use Rattle.std.specs.Prelude.{◌≡◌, ℕ, ℤ, pos, ◌+◌, ◌*◌, ◌/◌, ◌%◌, Bool, true, false, IsTrue, List, [], ◌∷◌, Option, Some, None, nat_eq, nat_lt, if◌then◌else◌}
use Rattle.ber_core.specs.Id.{form_of_id, id_octets, tag_of_id}
use Rattle.ber_core.specs.declared.id.Id.{Id}
use Rattle.ber_leaf.specs.Leaf.{Leaf, value}
use Rattle.ill_schema.specs.Content.{simple}
use Rattle.ill_tables.specs.declared.node.NodeId.{NodeId}
use Rattle.ill_grammar.specs.Contents.{with_alternative}
use Rattle.ill_grammar.specs.Due.{IsDueIn, behind, due_with, first_of}
use Rattle.ill_grammar.specs.LeafTypes.{leaf_is}
use Rattle.ill_grammar.specs.Written.{is_number, left_away}
use Rattle.ill_grammar.specs.code.Judging.{is_usual}
use Rattle.ill_grammar.specs.code.SpotTable.{next_at_offset}
use Rattle.ill_grammar.specs.declared.due.Next.{Next}
use Rattle.ill_grammar.specs.declared.due.Next.TheVariants.{Either, Nothing}
use Rattle.ill_grammar.specs.declared.due.Slot.{Slot}
use Rattle.ill_grammar.specs.declared.due.Slot.TheVariants.{Row as AtRow}
use Rattle.ill_grammar.specs.declared.element.Element.{Element as CodeElement}
use Rattle.ill_grammar.specs.declared.element.Element.TheVariants.{Leaf as LeafElement, LooseWrapper, Wrapper}
use Rattle.ill_grammar.specs.declared.element.Wrapped.{Wrapped}
use Rattle.ill_grammar.specs.declared.leaf_type.LeafType.{LeafType}
use Rattle.ill_grammar.specs.declared.leaf_type.LeafType.TheVariants as leaf
use Rattle.ill_grammar.specs.declared.spot.Spot.{Spot}
use Rattle.ill_grammar.specs.declared.spot.UsualElement.{UsualElement}
use Rattle.ill_grammar.specs.declared.spot.UsualKind.{UsualKind}
use Rattle.ill_grammar.specs.declared.spot.UsualKind.TheVariants as kind

-- what may come next at a spot
abbrev pub spot_next : Spot → Next
spot_next s = next_at_offset s.offset

-- what an element of the kind is, in which this comes first
abbrev pub IsOfKind : UsualKind → Next → CodeElement → Type 0
IsOfKind kind.Boolean first e = e ≡ LeafElement leaf.Boolean
IsOfKind kind.Integer first e = e ≡ LeafElement leaf.Integer
IsOfKind kind.Enumerated first e = e ≡ LeafElement leaf.Enumerated
IsOfKind kind.Printable first e = e ≡ LeafElement leaf.Printable
IsOfKind kind.Date first e = e ≡ LeafElement leaf.Date
IsOfKind kind.Time first e = e ≡ LeafElement leaf.Time
IsOfKind kind.StringWrapper first e = (w : Wrapped) × (e ≡ Wrapper w) × (w.node ≡ NodeId.IllString)
IsOfKind kind.Constructed first e = first ≡ first_of e

abbrev pub is_constructed : UsualKind → Bool
is_constructed kind.StringWrapper = true
is_constructed kind.Constructed = true
is_constructed _ = false

-- the number of a default
abbrev pub default_number : ℕ → Option ℤ
default_number n = if nat_eq n 255 then None else Some (pos n)

-- the octets hold the value of the default
abbrev pub is_default_octets : Option ℤ → Leaf → List ℕ → Bool
is_default_octets default l octets = elim default as (λ _. Bool) [ Some d ↦ is_number l d octets | None ↦ false ]

-- a component in a loose wrapper that has no SEQUENCE: no usual message has one
abbrev pub is_bare : Next → Slot → Bool
is_bare (Either w) (AtRow r) = true
is_bare _ _ = false

-- nothing is in a loose wrapper yet
abbrev pub is_either : Next → Bool
is_either (Either w) = true
is_either _ = false

-- what may come next in the element: in a loose wrapper its SEQUENCE, or nothing after that
abbrev pub IsInSequence : CodeElement → Next → Type 0
IsInSequence (LooseWrapper w) (Either v) = Unit {0}
IsInSequence (LooseWrapper w) Nothing = Unit {0}
IsInSequence (LooseWrapper w) _ = ⊥
IsInSequence _ _ = Unit {0}

-- the identifier octets that a key stands for: one; or two, context-specific, for a number from 31 on
abbrev pub key_octets : ℕ → List ℕ
key_octets key = if nat_lt key 256 then key ∷ [] else (0x9F + 32 * (key / 32 % 2)) ∷ (31 + key % 32) ∷ []

-- with these identifier octets the usual element is due
pub record IsUsualDue (octets : List ℕ) (n : Next) (u : UsualElement) : Type 0 where
  pub id : Id
  pub identified : id_octets id ≡ octets
  pub slot : Slot
  pub alternative : Option ℕ
  pub element : CodeElement
  pub is_due : IsDueIn (tag_of_id id) n (due_with slot alternative element)
  pub after : spot_next u.after ≡ behind n slot
  pub form : form_of_id id ≡ is_constructed u.kind
  pub usual : IsTrue (is_usual element (is_constructed u.kind))
  pub kind : IsOfKind u.kind (spot_next u.first) element
  pub default : (l : LeafType) (octets : List ℕ) → element ≡ LeafElement l
      → left_away n slot (with_alternative alternative (simple (value (leaf_is l) octets))) ≡ is_default_octets (default_number u.default) (leaf_is l) octets
  pub in_sequence : is_bare n slot ≡ false

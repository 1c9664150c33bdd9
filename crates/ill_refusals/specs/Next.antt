-- What may come next in an open element (X.690, 8.6.4, 8.7.3, 8.9, 8.10 and 8.15).
use Rattle.std.specs.Prelude.{◌≡◌, ℕ, zero, suc, ◌-◌, Bool, true, false, IsTrue, List, [], ◌∷◌, Option, Some, None, if◌then◌else◌, find}
use Rattle.ber_tree.specs.Identifier.{Tag}
use Rattle.ber_core.specs.Foreign.{is_foreign, foreign_levels}
use Rattle.ill_tables.specs.declared.node.Kind.{Kind}
use Rattle.ill_tables.specs.Table.{kind_of}
use Rattle.ber_tree.specs.Tree.{Tree, Trees, none, more, tag_of, IsString}
use Rattle.ber_leaf.specs.Segments.{segment_tag}
use Rattle.ill_tables.specs.declared.part.PartId.{PartId}
use Rattle.ill_tables.specs.declared.part.Presence.{Presence}
use Rattle.ill_schema.specs.Content.{Content}
use Rattle.ber_leaf.specs.Profile.{Profile}
use Rattle.ill_schema.specs.Tagging.{same_tag, sequence_tag}
use Rattle.ill_schema.specs.Presence.{IsCarried}
use Rattle.ill_schema.specs.Meaning.{Means}
use Rattle.ill_refusals.specs.Element.{Component, node_components, Element, leaf, sequence, list, wrapper, loose_wrapper, segment, foreign, left_out, Start, starts_by}

-- what may come next
pub data Next : Type 0 where
  -- the components from a position on
  rows : List Component → Next
  -- any number of items
  items : Component → Next
  -- in a loose wrapper without elements: the component that is wrapped, or the components of its node
  either : Component → Next
  -- segments of this tag
  segments : Tag → Next
  -- the root of a foreign tree, in an explicit tag
  anything : Component → Next
  -- elements of a foreign tree, of which so many levels may follow
  foreigns : ℕ → Next

-- an element that is due: of which component, and what may come after it
pub data Due : Type 0 where
  part : Component → Element → Next → Due
  -- a segment of this tag
  octets : Tag → Due
  -- an element of a foreign tree, in which so many levels may stand
  any : ℕ → Next → Due

abbrev pub element_of : Due → Element
element_of (part c e n) = e
element_of (octets tag) = segment tag
element_of (any n next) = foreign n

abbrev pub next_of : Due → Next
next_of (part c e n) = n
next_of (octets tag) = segments tag
next_of (any n next) = next

-- the start of a component that has the tag
abbrev pub start_by : Bool → Tag → Component → Option Start
start_by bare tag c = find (λ s. same_tag s.tag tag) (starts_by bare c)

abbrev pub start_of : Profile → Tag → Component → Option Start
start_of p tag c = start_by p.bare tag c

-- a component is due if each before it may be absent (8.9.2, 8.9.3)
abbrev pub due_by : Bool → Tag → List Component → Option Due
due_by bare tag [] = None
due_by bare tag (c ∷ cs) = elim (start_by bare tag c) as (λ _. Option Due) [
  | Some s ↦ Some (part c s.element (rows cs))
  | None ↦ elim c.presence as (λ _. Option Due) [ Presence.Must ↦ None | _ ↦ due_by bare tag cs ]
]

abbrev pub due_in : Profile → Tag → List Component → Option Due
due_in p tag cs = due_by p.bare tag cs

-- the element that is due with this tag. Of the profile only this counts: whether tags may be bare. Where the type is open, any
-- element is due, and so it is in that element, down to the last of the levels that a foreign tree may have; its root is the first.
abbrev pub next_due : Bool → Tag → Next → Option Due
next_due bare tag (rows cs) = due_by bare tag cs
next_due bare tag (items c) = elim (start_by bare tag c) as (λ _. Option Due) [ Some s ↦ Some (part c s.element (items c)) | None ↦ None ]
next_due bare tag (either c) = elim (same_tag tag sequence_tag) as (λ _. Option Due) [ true ↦ due_by bare tag (c ∷ []) | false ↦ due_by bare tag (node_components bare c.node) ]
next_due bare tag (segments t) = if same_tag tag t then Some (octets t) else None
next_due bare tag (anything c) = Some (any (foreign_levels - 1) (rows []))
next_due bare tag (foreigns zero) = None
next_due bare tag (foreigns (suc n)) = Some (any n (foreigns (suc n)))

abbrev pub due : Profile → Tag → Next → Option Due
due p tag n = next_due p.bare tag n

-- the first component that may not be absent
abbrev pub first_mandatory : List Component → Option PartId
first_mandatory [] = None
first_mandatory (c ∷ cs) = elim c.presence as (λ _. Option PartId) [ Presence.Must ↦ Some c.part | _ ↦ first_mandatory cs ]

-- the first mandatory part that is still to come
abbrev pub next_missing : Bool → Next → Option PartId
next_missing bare (rows cs) = first_mandatory cs
next_missing bare (items c) = None
next_missing bare (either c) = first_mandatory (node_components bare c.node)
next_missing bare (segments t) = None
next_missing bare (anything c) = Some c.part
next_missing bare (foreigns n) = None

abbrev pub missing : Profile → Next → Option PartId
missing p n = next_missing p.bare n

-- what may come in an element when it opens
abbrev pub opening_by : Bool → Element → Next
opening_by bare (leaf l) = segments (segment_tag l)
opening_by bare (sequence node) = rows (node_components bare node)
opening_by bare (list node) = elim (node_components bare node) as (λ _. Next) [ [] ↦ rows [] | c ∷ _ ↦ items c ]
opening_by bare (wrapper c) = elim (kind_of c.node) as (λ _. Next) [ Kind.Any ↦ anything c | _ ↦ rows (c ∷ []) ]
opening_by bare (loose_wrapper c) = either c
opening_by bare (segment tag) = segments tag
opening_by bare (foreign n) = foreigns n
opening_by bare (left_out _) = rows []

abbrev pub opening : Profile → Element → Next
opening p e = opening_by p.bare e

-- no further level may open
abbrev pub is_last : Next → Bool
is_last (foreigns zero) = true
is_last _ = false

-- what may come after the trees
abbrev pub after_by : Bool → Next → Trees → Next
after_by bare n none = n
after_by bare n (more T ts) = elim (next_due bare (tag_of T) n) as (λ _. Next) [ Some d ↦ after_by bare (next_of d) ts | None ↦ n ]

abbrev pub next_after : Profile → Next → Trees → Next
next_after p n ts = after_by p.bare n ts

-- a whole tree of the element that is due
abbrev pub IsWhole : Profile → Due → Tree → Type 0
IsWhole p (part c e n) T = IsCarried c.presence × ((v : Content) × Means p v c.node c.tagging T)
IsWhole p (octets tag) T = IsString tag T
IsWhole p (any n next) T = IsTrue (is_foreign (suc n) T)

-- the trees may be there, one after another
abbrev pub AreWhole : Profile → Next → Trees → Type 0
AreWhole p n none = Unit {0}
AreWhole p n (more T ts) = (d : Due) × (due p (tag_of T) n ≡ Some d) × IsWhole p d T × AreWhole p (next_of d) ts

-- What is read in an open element, and written of it.
use Rattle.std.specs.Prelude.{◌≡◌, ◌⊎◌, ℕ, ◌+◌, ◌≤◌, ◌<◌, Bool, true, false, List, [], ◌∷◌, ◌++◌, length, take, Option, Some, None}
use Rattle.std.specs.List.{between}
use Rattle.ber_leaf.specs.Leaf.{normal_content, value}
use Rattle.ber_leaf.specs.Profile.{Profile, profile_two}
use Rattle.ber_tree.specs.Identifier.{Tag}
use Rattle.ber_tree.specs.Length.{IsLength, shortest_length}
use Rattle.ber_tree.specs.Tree.{Tree, Trees, Spells, SpellsAll, depth, depth_all, tag_of}
use Rattle.ill_tables.specs.declared.profile.Profile.{Profile as Named}
use Rattle.ill_schema.specs.Apdu.{Apdu, SpellsApdu, normal_form_in}
use Rattle.ill_schema.specs.Content.{Content}
use Rattle.ill_tables.specs.declared.node.NodeId.{NodeId}
use Rattle.ill_refusals.specs.Next.{missing}
use Rattle.ill_grammar.specs.Contents.{IsValueOf}
use Rattle.ill_grammar.specs.Due.{next_is}
use Rattle.ill_grammar.specs.Elements.{element_is}
use Rattle.ill_grammar.specs.LeafTypes.{IsContentIn, leaf_is}
use Rattle.ill_grammar.specs.Standing.{IsHeld}
use Rattle.ill_grammar.specs.code.Spots.{IsInSequence, IsUsualDue, default_number, is_default_octets, spot_next}
use Rattle.ill_grammar.specs.declared.due.Next.{Next}
use Rattle.ill_grammar.specs.declared.element.Element.{Element as CodeElement}
use Rattle.ill_grammar.specs.declared.element.Element.TheVariants.{Wrapper}
use Rattle.ill_grammar.specs.declared.element.Wrapped.{Wrapped}
use Rattle.ill_grammar.specs.declared.leaf_type.LeafType.{LeafType}
use Rattle.ill_grammar.specs.declared.leaf_type.LeafType.TheVariants as leaf_type
use Rattle.ill_grammar.specs.declared.spot.UsualKind.{UsualKind}
use Rattle.ill_grammar.specs.declared.spot.UsualKind.TheVariants as kind
use Rattle.ill_read.specs.code.OctetDrafts.{enclosed, written}
use Rattle.ill_read.specs.declared.usual.header.Header.{Header}
use Rattle.ill_read.specs.declared.usual.input.Input.{Input}
use Rattle.ill_read.specs.declared.usual.input.Reach.{Reach}

-- the octets spell what an open element has in it so far, in at most k levels, and these are written of that
pub record HasRead (p : Named) (e : CodeElement) (n : Next) (k : ℕ) (b w : List ℕ) : Type 0 where
  pub entries : List (Option Content)
  pub trees : Trees
  pub held : IsHeld p e n entries trees
  pub spelled : SpellsAll trees b
  pub shallow : depth_all trees ≤ k
  pub is : w ≡ written e n entries
  pub in_sequence : IsInSequence e n

-- the octets spell an element of this content, in at most k levels
pub record IsElement (p : Named) (e : CodeElement) (tag : Tag) (k : ℕ) (b : List ℕ) (c : Content) : Type 0 where
  pub tree : Tree
  pub has_tag : tag_of tree ≡ tag
  pub value : IsValueOf p (element_is e) c tree
  pub spelled : Spells tree b
  pub shallow : depth tree ≤ k

-- more octets in an open element, and what is written of them
abbrev pub Adds : Named → Next → Next → ℕ → List ℕ → List ℕ → Type 0
Adds p n after k b w = (e : CodeElement) (b0 w0 : List ℕ) → HasRead p e n k b0 w0 → HasRead p e after k (b0 ++ b) (w0 ++ w)

-- the octets are all that an open element has in it
abbrev pub HasAll : Named → CodeElement → ℕ → List ℕ → List ℕ → Type 0
HasAll p e k b w = (n : Next) × HasRead p e n k b w × (missing profile_two (next_is n) ≡ None) × (enclosed e n w ≡ w)

-- the element is the explicit tag of an ILL-String
abbrev pub IsStringTag : CodeElement → Type 0
IsStringTag e = (w : Wrapped) × (e ≡ Wrapper w) × (w.node ≡ NodeId.IllString)

-- contents end there: at the bound, or at an end mark before it
abbrev pub EndsAt : Bool → List ℕ → ℕ → ℕ → Type 0
EndsAt true octets at bound = at ≡ bound
EndsAt false octets at bound = (at + 2 ≤ bound) × (between at (at + 2) octets ≡ 0 ∷ 0 ∷ [])

-- these octets were written from one offset to another, and before that none changed
pub record Puts (old new : List ℕ) (from to : ℕ) (w : List ℕ) : Type 0 where
  pub room : length new ≡ length old
  pub forward : (from ≤ to) × (to ≤ length new)
  pub before : take from new ≡ take from old
  pub put : between from to new ≡ w

-- an ILL-String is a leaf of this type
abbrev pub IsStringType : LeafType → Type 0
IsStringType l = (l ≡ leaf_type.General) ⊎ (l ≡ leaf_type.Visible)

-- an INTEGER or ENUMERATED is a leaf of this type
abbrev pub IsNumberType : LeafType → Type 0
IsNumberType l = (l ≡ leaf_type.Integer) ⊎ (l ≡ leaf_type.Enumerated)

-- the leaf that an element of the kind is
abbrev pub kind_leaf : UsualKind → Option LeafType
kind_leaf kind.Boolean = Some leaf_type.Boolean
kind_leaf kind.Integer = Some leaf_type.Integer
kind_leaf kind.Enumerated = Some leaf_type.Enumerated
kind_leaf kind.Printable = Some leaf_type.Printable
kind_leaf kind.Date = Some leaf_type.Date
kind_leaf kind.Time = Some leaf_type.Time
kind_leaf _ = None

-- what is written of a leaf with these identifier octets: nothing of a default
abbrev pub leaf_octets : ℕ → LeafType → List ℕ → List ℕ → List ℕ
leaf_octets default l id octets =
    let content = normal_content (value (leaf_is l) octets) in
    elim (is_default_octets (default_number default) (leaf_is l) octets) as (λ _. List ℕ) [ true ↦ [] | false ↦ id ++ (shortest_length (length content) ++ content) ]

-- the identifier ends behind the offsets where the element begins, and there is room for n octets of contents and what comes with them
abbrev pub IsOrdered : Header → ℕ → List ℕ → Type 0
IsOrdered h n out = (h.from.taken < h.length.taken) × (h.from.written < h.length.written) × (h.length.written + n + 38 ≤ length out)

-- the identifier is that of a usual element that is due, and was written
abbrev pub IsHeaded : Next → Input → Header → List ℕ → Type 0
IsHeaded n input h out = IsUsualDue (between h.from.taken h.length.taken input.octets.now) n h.element
    × (between h.from.written h.length.written out ≡ between h.from.taken h.length.taken input.octets.now)

-- a leaf was written, from its identifier on
pub record IsLeafPut (l : LeafType) (h : Header) (octets old new : List ℕ) (end : ℕ) : Type 0 where
  pub right : (p : Named) → IsContentIn p (leaf_is l) octets
  pub put : Puts old new h.from.written end (leaf_octets h.element.default l (between h.from.written h.length.written old) octets)

-- the contents of an open element were read and written, up to its end
pub record IsContentsRead (input : Input) (is_definite : Bool) (from : Reach) (old new : List ℕ) (to : Reach) : Type 0 where
  pub taken : (from.taken ≤ to.taken) × (to.taken ≤ input.bound)
  pub put : Puts old new from.written to.written (between from.written to.written new)
  pub ends : EndsAt is_definite input.octets.now to.taken input.bound

-- an element was read, and what is to be written of it was
pub record IsStep (p : Named) (n after : Next) (k : ℕ) (octets old new : List ℕ) (from to : Reach) : Type 0 where
  pub taken : from.taken < to.taken
  pub put : Puts old new from.written to.written (between from.written to.written new)
  pub adds : Adds p n after k (between from.taken to.taken octets) (between from.written to.written new)

-- the element behind a header was read up to there, in two levels at most
abbrev pub IsElementRead : Input → Header → List ℕ → List ℕ → Reach → Type 0
IsElementRead input h old new to = (n : Next) → IsHeaded n input h old
    → (to.taken ≤ input.bound) × ((p : Named) (k : ℕ) → 1 < k → IsStep p n (spot_next h.element.after) k input.octets.now old new h.from to)

-- these length octets stand before contents of n octets
abbrev pub IsSized : Bool → ℕ → List ℕ → Type 0
IsSized true n os = IsLength n os
IsSized false n os = os ≡ 128 ∷ []

-- what stands behind contents
abbrev pub mark_of : Bool → List ℕ
mark_of true = []
mark_of false = 0 ∷ 0 ∷ []

-- the octets spell an APDU, and these are its normal form
abbrev pub IsNormalFormOf : Profile → List ℕ → List ℕ → Type 0
IsNormalFormOf p w b = (a : Apdu) × SpellsApdu p a b × (w ≡ normal_form_in p a)

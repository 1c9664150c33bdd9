-- The elements of profile 2 whose tags the module profile has in another way: the first component of each Units-Per-Medium and of each
-- Will-Supply, the tag of which is implicit in profile 2 and explicit in the module.
use Rattle.std.specs.Prelude.{◌≡◌, ℕ, ◌≤◌, Bool, false, List, ◌∷◌, Some, IsTrue, slice_get}
use Rattle.ber_tree.specs.Tree.{none}
use Rattle.ber_leaf.specs.Profile.{profile_two}
use Rattle.ill_schema.specs.Lift.{is_retagged}
use Rattle.ill_refusals.specs.Element.{Element, sequence, loose_wrapper}
use Rattle.ill_refusals.specs.Place.{Open, IsDue}

-- the components of one of these types are in the element: in its SEQUENCE, or in the tag round them where that is bare
abbrev pub holds_retagged : Element → Bool
holds_retagged (sequence node) = is_retagged node
holds_retagged (loose_wrapper c) = is_retagged c.node
holds_retagged e = false

-- at offset k, in profile 2, such an element has just opened, and the octet there is that of a primitive element with the tag [0]
abbrev pub IsRetaggedAt : List ℕ → ℕ → Type 0
IsRetaggedAt s k = (o : Open) × (outer : List Open) × IsDue profile_two s k (o ∷ outer) × IsTrue (holds_retagged o.element) × (o.trees ≡ none)
    × (slice_get s k ≡ Some 0x80)

-- and at no offset before
abbrev pub IsFirstRetagged : List ℕ → ℕ → Type 0
IsFirstRetagged s k = IsRetaggedAt s k × ((l : ℕ) → IsRetaggedAt s l → k ≤ l)

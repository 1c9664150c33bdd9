-- The one outcome of an input, and what stays of it as the input grows or is cut short.
use Rattle.std.specs.Prelude.{◌≡◌, ◌≢◌, ◌⊎◌, ℕ, ◌+◌, ◌-◌, ◌<◌, ◌≤◌, Bool, true, false, List, ◌∷◌, ◌++◌, length, take, drop, IsTrue, Option, Some, None}
use Rattle.ill_schema.specs.declared.refusal.Cause.{Cause}
use Rattle.ill_schema.specs.Apdu.{Apdu, Accepts}
use Rattle.ill_refusals.specs.Fault.{Fault, fault, fault_at, Refuses}
use Rattle.ber_tree.specs.Octets.{are_octets}
use Rattle.ill_refusals.specs.Element.{Element, leaf, segment, foreign}
use Rattle.ill_refusals.specs.Next.{Due, element_of, due}
use Rattle.ill_refusals.specs.Place.{Open, next_in, bound, IsDue}
use Rattle.ill_schema.specs.Causes.{cause_of}
use Rattle.ber_leaf.specs.Leaf.{Leaf, boolean, iso_date, iso_time, null_type, object_identifier, bit_string}
use Rattle.ber_leaf.specs.declared.fault.LeafFault.{LeafFault}
use Rattle.ber_leaf.specs.Profile.{Profile}
use Rattle.ber_tree.specs.Identifier.{Tag}
use Rattle.ber_core.specs.Reading.{read_identifier, identified}

-- one APDU is accepted, and nothing refused
abbrev pub OnlyAccepts : Profile → List ℕ → Apdu → ℕ → Type 0
OnlyAccepts p s a n = Accepts p s a n × ((b : Apdu) (m : ℕ) → Accepts p s b m → (b ≡ a) × (m ≡ n)) × ((f : Fault) → Refuses p s f → ⊥)

-- one fault refuses the input, and nothing is accepted
abbrev pub OnlyRefuses : Profile → List ℕ → Fault → Type 0
OnlyRefuses p s f = Refuses p s f × ((g : Fault) → Refuses p s g → g ≡ f) × ((a : Apdu) (n : ℕ) → Accepts p s a n → ⊥)

-- the input has one outcome
abbrev pub HasOneOutcome : Profile → List ℕ → Type 0
HasOneOutcome p s = ((a : Apdu) × (n : ℕ) × OnlyAccepts p s a n) ⊎ ((f : Fault) × OnlyRefuses p s f)

-- each input of octets has one
abbrev pub OutcomesAreExact : Profile → Type 0
OutcomesAreExact p = (s : List ℕ) → IsTrue (are_octets s) → HasOneOutcome p s

-- a refusal that says more than that the input ended stays where octets are appended
abbrev pub RefusalsStay : Profile → Type 0
RefusalsStay p = (s x : List ℕ) (f : Fault) → f.cause ≢ Cause.Truncated → Refuses p s f → Refuses p (s ++ x) f

-- a message that is cut short is refused as ending there
abbrev pub PrefixesAreTruncated : Profile → Type 0
PrefixesAreTruncated p = (s : List ℕ) (a : Apdu) (m n : ℕ) → IsTrue (are_octets s) → Accepts p s a n → m < n → Refuses p (take m s) (fault Cause.Truncated m)

-- an input that is refused as ending too early is refused at its end
abbrev pub TruncatedIsAtTheEnd : Profile → Type 0
TruncatedIsAtTheEnd p = (s : List ℕ) (f : Fault) → f.cause ≡ Cause.Truncated → Refuses p s f → f.at ≡ length s

-- an offset and a number of open elements say one place
abbrev pub PlacesAreApart : Profile → Type 0
PlacesAreApart p = (s : List ℕ) (a b : List Open) (k : ℕ) → IsTrue (are_octets s) → IsDue p s k a → IsDue p s k b → length a ≡ length b → a ≡ b

-- only the last place, which is the one with the fewest open elements at its offset, can have a fault
abbrev pub FaultsAreLast : Profile → Type 0
FaultsAreLast p = (s : List ℕ) (a b : List Open) (k l : ℕ) (f : Fault) → IsTrue (are_octets s) → IsDue p s k a → fault_at p a k (drop k s) ≡ Some f → IsDue p s l b
    → (l < k) ⊎ ((l ≡ k) × (length a ≤ length b))

-- the innermost open element is this leaf, in segments; or the element is that begins here
abbrev pub HasLeaf : Profile → List Open → List ℕ → Leaf → Type 0
HasLeaf p path here l =
    ((o : Open) × (outer : List Open) × (path ≡ o ∷ outer) × (o.element ≡ leaf l))
    ⊎ ((tag : Tag) × (form : Bool) × (w : List ℕ) × (d : Due) × (read_identifier here ≡ identified tag form w) × (due p tag (next_in p path) ≡ Some d) × (element_of d ≡ leaf l))

-- the cause is only of faults of this leaf: at the place that has the fault
abbrev pub IsOfLeaf : Profile → Cause → Leaf → Type 0
IsOfLeaf p c l = (s : List ℕ) (f : Fault) → f.cause ≡ c → Refuses p s f
    → (path : List Open) × (k : ℕ) × IsDue p s k path × (fault_at p path k (drop k s) ≡ Some f) × HasLeaf p path (take (bound p path - k) (drop k s)) l

-- the leaf whose contents alone have the fault
abbrev pub leaf_with : LeafFault → Option Leaf
leaf_with LeafFault.BadBoolean = Some boolean
leaf_with LeafFault.BadDate = Some iso_date
leaf_with LeafFault.BadTime = Some iso_time
leaf_with LeafFault.BadNull = Some null_type
leaf_with LeafFault.BadOid = Some object_identifier
leaf_with LeafFault.BadBits = Some bit_string
leaf_with LeafFault.BadInteger = None
leaf_with LeafFault.IntegerTooLong = None
leaf_with LeafFault.BadText = None

-- the cause of such a fault is only of elements of that leaf
abbrev pub CausesAreOfLeaves : Profile → Type 0
CausesAreOfLeaves p = (x : LeafFault) (l : Leaf) → leaf_with x ≡ Some l → IsOfLeaf p (cause_of x) l

-- at each place at most 32 elements are open
abbrev pub FewAreOpen : Profile → Type 0
FewAreOpen p = (s : List ℕ) (k : ℕ) (path : List Open) → IsDue p s k path → length path ≤ 32

-- an element of a type of the tables: not a segment, and not in a foreign tree
abbrev pub is_component : Element → Bool
is_component (segment tag) = false
is_component (foreign n) = false
is_component e = true

-- such an element is due only where at most 11 elements are open, so that these have at most 12 levels
abbrev pub ComponentsAreShallow : Profile → Type 0
ComponentsAreShallow p = (s : List ℕ) (k : ℕ) (path : List Open) (tag : Tag) (d : Due)
    → IsDue p s k path → due p tag (next_in p path) ≡ Some d → IsTrue (is_component (element_of d)) → length path ≤ 11

-- where an element of a foreign tree is open in which n levels more may stand, there are at most 29 with these: 32 is never reached there
abbrev pub ForeignTreesFit : Profile → Type 0
ForeignTreesFit p = (s : List ℕ) (k n : ℕ) (o : Open) (path : List Open) → IsDue p s k (o ∷ path) → o.element ≡ foreign n → length (o ∷ path) + n ≤ 29

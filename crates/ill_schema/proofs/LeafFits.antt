-- Which leaves fit a node: those of its kind.
use Rattle.std.proofs.Common.{◌≡◌, ◌↔◌, ◌<◌, ℕ, ℤ, pos, negsuc, arith, FitsSigned, w64, Bool, List, Some, refl, ap}
use Rattle.std.proofs.lemmas.Int.{ints}
use Rattle.ber_leaf.specs.Content.{IsContent}
use Rattle.ber_leaf.specs.declared.text.ill_string.IllString.{IllString}
use Rattle.ber_leaf.specs.declared.text.ill_string.IllString.TheVariants.{General, Visible}
use Rattle.ber_leaf.specs.Leaf.{Leaf, boolean, integer, enumerated, general_string, visible_string, printable_string, iso_date, iso_time, Holds, normal_content}
use Rattle.ber_leaf.specs.code.Sign.{magnitude}
use Rattle.ber_leaf.specs.Profile.{profile_two}
use Rattle.ber_leaf.specs.Simple.{flag, whole, date, time, printable, general, visible}
use Rattle.ber_leaf.proofs.Integers.{whole_held}
use Rattle.ber_leaf.proofs.Leaves.{flag_holds, content_holds}
use Rattle.ber_leaf.specs.Strings.{string_leaf, string_octets, string_value}
use Rattle.ill_tables.specs.declared.node.Kind.{Kind}
use Rattle.ill_tables.specs.declared.node.LeafKind.{LeafKind}
use Rattle.ill_tables.specs.declared.node.NodeId.{NodeId}
use Rattle.ill_schema.specs.Fits.{FitsSimple}
use Rattle.ill_tables.specs.Table.{kind_of}
use Rattle.ill_schema.specs.Tagging.{leaf_of}
use Rattle.ill_schema.specs.code.ValueFits.{IsNumeric}

pub through : {A B C : Type 0} → (A ↔ B) → (B ↔ C) → (A ↔ C)
through f g = (λ a. g.0 (f.0 a), λ c. f.1 (g.1 c))

flag_kind : (k : Kind) (b : Bool) (leaf : Leaf) → leaf_of k (flag b) ≡ Some leaf → k ≡ Kind.Leaf LeafKind.Boolean
flag_kind (Kind.Leaf LeafKind.Boolean) b leaf e = refl
flag_kind _ b leaf e = cc

date_kind : (k : Kind) (text : List ℕ) (leaf : Leaf) → leaf_of k (date text) ≡ Some leaf → k ≡ Kind.Leaf LeafKind.Date
date_kind (Kind.Leaf LeafKind.Date) text leaf e = refl
date_kind _ text leaf e = cc

time_kind : (k : Kind) (text : List ℕ) (leaf : Leaf) → leaf_of k (time text) ≡ Some leaf → k ≡ Kind.Leaf LeafKind.Time
time_kind (Kind.Leaf LeafKind.Time) text leaf e = refl
time_kind _ text leaf e = cc

printable_kind : (k : Kind) (text : List ℕ) (leaf : Leaf) → leaf_of k (printable text) ≡ Some leaf → k ≡ Kind.Leaf LeafKind.Printable
printable_kind (Kind.Leaf LeafKind.Printable) text leaf e = refl
printable_kind _ text leaf e = cc

string_kind : (k : Kind) (string : IllString) (leaf : Leaf) → leaf_of k (string_value string) ≡ Some leaf → k ≡ Kind.IllString
string_kind Kind.IllString string leaf e = refl
string_kind (Kind.Leaf LeafKind.Boolean) (General text) leaf e = cc
string_kind _ (General text) leaf e = cc
string_kind (Kind.Leaf LeafKind.Boolean) (Visible text) leaf e = cc
string_kind _ (Visible text) leaf e = cc

pub flag_fits : (node : NodeId) (b : Bool) → (kind_of node ≡ Kind.Leaf LeafKind.Boolean) ↔ FitsSimple profile_two (flag b) node
flag_fits node b = (λ e. (boolean, ap (λ (k : Kind). leaf_of k (flag b)) e, flag_holds profile_two b), λ f. flag_kind (kind_of node) b f.0 f.1)

pub date_fits : (node : NodeId) (text : List ℕ) → IsContent iso_date text → (kind_of node ≡ Kind.Leaf LeafKind.Date) ↔ FitsSimple profile_two (date text) node
date_fits node text h = (λ e. (iso_date, ap (λ (k : Kind). leaf_of k (date text)) e, content_holds iso_date text h), λ f. date_kind (kind_of node) text f.0 f.1)

pub time_fits : (node : NodeId) (text : List ℕ) → IsContent iso_time text → (kind_of node ≡ Kind.Leaf LeafKind.Time) ↔ FitsSimple profile_two (time text) node
time_fits node text h = (λ e. (iso_time, ap (λ (k : Kind). leaf_of k (time text)) e, content_holds iso_time text h), λ f. time_kind (kind_of node) text f.0 f.1)

pub printable_fits : (node : NodeId) (text : List ℕ) → IsContent printable_string text → (kind_of node ≡ Kind.Leaf LeafKind.Printable) ↔ FitsSimple profile_two (printable text) node
printable_fits node text h = (λ e. (printable_string, ap (λ (k : Kind). leaf_of k (printable text)) e, content_holds printable_string text h), λ f. printable_kind (kind_of node) text f.0 f.1)

pub string_fits : (node : NodeId) (string : IllString) → IsContent (string_leaf string) (string_octets string) → (kind_of node ≡ Kind.IllString) ↔ FitsSimple profile_two (string_value string) node
string_fits node (General text) h =
    (λ e. (general_string, ap (λ (k : Kind). leaf_of k (general text)) e, content_holds general_string text h), λ f. string_kind (kind_of node) (General text) f.0 f.1)
string_fits node (Visible text) h =
    (λ e. (visible_string, ap (λ (k : Kind). leaf_of k (visible text)) e, content_holds visible_string text h), λ f. string_kind (kind_of node) (Visible text) f.0 f.1)

-- the numbers of 64 bits have contents
whole_holds : (n : ℤ) → FitsSigned w64 n → Holds profile_two integer (whole n) (normal_content (whole n))
whole_holds n h = whole_held profile_two n (within n h)
  where
    within : (n : ℤ) → FitsSigned w64 n → magnitude n < 9_223_372_036_854_775_808
    within (pos n) h = omega (arith, ints, h)
    within (negsuc n) h = omega (arith, ints, h)

abbrev HasWhole : Kind → ℤ → Type 0
HasWhole k n = (leaf : Leaf) × (leaf_of k (whole n) ≡ Some leaf) × Holds profile_two leaf (whole n) (normal_content (whole n))

whole_leaf : (k : Kind) (n : ℤ) → FitsSigned w64 n → IsNumeric k → HasWhole k n
whole_leaf (Kind.Leaf LeafKind.Integer) n h i = (integer, refl, whole_holds n h)
whole_leaf (Kind.Leaf LeafKind.Enumerated) n h i = let held = whole_holds n h in (enumerated, refl, (held.0, held.1, held.2))
whole_leaf _ n h i = absurd i

whole_kind : (k : Kind) (n : ℤ) (leaf : Leaf) → leaf_of k (whole n) ≡ Some leaf → IsNumeric k
whole_kind (Kind.Leaf LeafKind.Integer) n leaf e = tt
whole_kind (Kind.Leaf LeafKind.Enumerated) n leaf e = tt
whole_kind _ n leaf e = absurd cc

pub whole_fits : (node : NodeId) (n : ℤ) → FitsSigned w64 n → IsNumeric (kind_of node) ↔ FitsSimple profile_two (whole n) node
whole_fits node n h = (whole_leaf (kind_of node) n h, λ f. whole_kind (kind_of node) n f.0 f.1)

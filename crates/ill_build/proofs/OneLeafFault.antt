-- A leaf has at most one fault.
use Rattle.std.proofs.Common.{◌≡◌, ◌≢◌, ◌⊎◌, inl, inr, ◌∷◌, ◌∙◌, ◌<◌, ◌^◌, ℕ, ℤ, true, false, IsTrue, List, [], Option, Some, None, refl, sym, ap, subst, codes, FitsSigned, w64}
use Rattle.std.specs.Fmt.{signed_decimal}
use Rattle.std.specs.Prelude.{decimal}
use Rattle.json.specs.Find.{as_bool, as_number, as_str, get}
use Rattle.json.specs.Json.{Json}
use Rattle.json.specs.Json as json
use Rattle.ber_tree.specs.Octets.{are_octets}
use Rattle.ber_leaf.specs.Leaf.{Leaf, Holds, bit_string, general_string, iso_date, iso_time, normal_content, object_descriptor, printable_string, visible_string}
use Rattle.ber_leaf.specs.Profile.{Profile}
use Rattle.ber_leaf.specs.Simple.{bits}
use Rattle.ill_schema.specs.Texts.{hexadecimal}
use Rattle.ill_tables.specs.Numbers.{number_name}
use Rattle.ill_tables.specs.declared.node.Kind.{Kind}
use Rattle.ill_tables.specs.declared.node.LeafKind.{LeafKind}
use Rattle.ill_tables.specs.declared.part.Presence.{Presence}
use Rattle.ill_build.specs.declared.cause.BuildCause.{BuildCause}
use Rattle.ill_build.specs.Faulty.{IsAlternativeFault, IsBadMember, IsBitsFault, IsCountFault, IsFaultOf, IsForeignFault, IsFoundFault, IsHexadecimalFault, IsLeafFault, IsMemberFault, IsNotOne, IsNumberFault, IsNumberNameFault, IsObjectFault, IsOctetsFault, IsOidFault, IsStringFault, IsTextFault, IsWholeFault, IsWrongType}
use Rattle.ill_build.specs.Members.{Known, first_fault, of_names}
use Rattle.ill_build.specs.Path.{Step, named}
use Rattle.ill_build.proofs.LeavesUnsaid.{count_clean, hexadecimal_clean, member_clean, number_clean, other_names, text_clean}
use Rattle.ill_build.proofs.Unsaid.{one_member}

-- one cause at one place
abbrev pub Same : BuildCause → BuildCause → List Step → List Step → Type 0
Same c d path place = (c ≡ d) × (path ≡ place)

-- two faults that are both this cause at this place
pub both_are : {c d x : BuildCause} {path place y : List Step} → c ≡ x → d ≡ x → path ≡ y → place ≡ y → Same c d path place
both_are c_is d_is path_is place_is = (c_is ∙ sym d_is, path_is ∙ sym place_is)

-- two faults at the rest of a path, behind one step
pub behind : {c d : BuildCause} {path place rest steps : List Step} {step : Step} → path ≡ step ∷ rest → place ≡ step ∷ steps → Same c d rest steps → Same c d path place
behind {step = step} path_is place_is s = (s.0, path_is ∙ ap (λ r. step ∷ r) s.1 ∙ sym place_is)

-- ---- what is found

-- a value of another type
wrong_once : {A : Type 0} (found : Option A) (c d : BuildCause) (path place : List Step) → IsWrongType found c path → IsWrongType found d place → Same c d path place
wrong_once found c d path place f g = both_are f.1 g.1 f.2 g.2

-- a text whose faults have one cause
pub text_once : (found : Option (List ℕ)) (faulty other : List ℕ → BuildCause → Type 0) (c d : BuildCause) (path place : List Step) → ((text : List ℕ) → faulty text c → other text d → c ≡ d)
    → IsFaultOf found faulty c path → IsFaultOf found other d place → Same c d path place
text_once found faulty other c d path place one (inl f) (inl g) = both_are f.1 g.1 f.2 g.2
text_once found faulty other c d path place one (inl f) (inr (text, is, g, e)) = absurd (let q : None ≡ Some text = sym f.0 ∙ is in cc)
text_once found faulty other c d path place one (inr (text, is, f, e)) (inl g) = absurd (let q : None ≡ Some text = sym g.0 ∙ is in cc)
text_once found faulty other c d path place one (inr (x, is, f, e)) (inr (y, at, g, h)) =
    let q : Some x ≡ Some y = sym is ∙ at in
    let same : x ≡ y = cc in
    (one y (subst (λ t. faulty t c) same f) g, e ∙ sym h)

-- what is found for a row, where a value of the row has one fault
pub found_once : (o : Option Json) (presence : Presence) (faulty other : Json → Type 0) (c d : BuildCause) (path place : List Step) → ((k : Json) → faulty k → other k → Same c d path place)
    → IsFoundFault o presence faulty c path → IsFoundFault o presence other d place → Same c d path place
found_once (Some j) presence faulty other c d path place one f g = one j f g
found_once None Presence.Must faulty other c d path place one f g = both_are f.0 g.0 f.1 g.1
found_once None Presence.May faulty other c d path place one f g = absurd f
found_once None Presence.LeftOut faulty other c d path place one f g = absurd f
found_once None (Presence.Default x) faulty other c d path place one f g = absurd f

-- a member that has to be there, where its value has one fault
pub member_once : (name : List ℕ) (faulty other : Json → BuildCause → List Step → Type 0) (j : Json) (c d : BuildCause) (path place : List Step)
    → ((k : Json) (rest steps : List Step) → faulty k c rest → other k d steps → Same c d rest steps)
    → IsMemberFault name faulty j c path → IsMemberFault name other j d place → Same c d path place
member_once name faulty other j c d path place one f g =
    behind f.1 g.1 (found_once (get name j) Presence.Must (λ k. faulty k c f.0) (λ k. other k d g.0) c d f.0 g.0 (λ k x y. one k f.0 g.0 x y) f.2 g.2)

abbrev cause_in : Option (List ℕ × BuildCause) → BuildCause
cause_in None = BuildCause.NotJson
cause_in (Some fault) = fault.1

abbrev name_in : Option (List ℕ × BuildCause) → List ℕ
name_in None = []
name_in (Some fault) = fault.0

-- an object, where one whose members may be there has one fault
pub object_once : (known : Known) (j : Json) (c d : BuildCause) (path place : List Step) (later other : Type 0) → (later → other → Same c d path place)
    → IsObjectFault known j c path later → IsObjectFault known j d place other → Same c d path place
object_once known j c d path place later other one (inl f) (inl g) = both_are f.1 g.1 f.2 g.2
object_once known j c d path place later other one (inl f) (inr (ms, is, g)) = absurd (let q : None ≡ Some ms = sym f.0 ∙ is in cc)
object_once known j c d path place later other one (inr (ms, is, f)) (inl g) = absurd (let q : None ≡ Some ms = sym g.0 ∙ is in cc)
object_once known j c d path place later other one (inr (ms, is, f)) (inr (ns, at, g)) = by f g
  where
    same : ms ≡ ns
    same = let q : Some ms ≡ Some ns = sym is ∙ at in cc

    faults : first_fault known [] ms ≡ first_fault known [] ns
    faults = ap (first_fault known []) same

    by : IsBadMember known ms c path ⊎ ((first_fault known [] ms ≡ None) × later) → IsBadMember known ns d place ⊎ ((first_fault known [] ns ≡ None) × other) → Same c d path place
    by (inl x) (inl y) =
        let e : first_fault known [] ns ≡ Some (x.0, c) = sym faults ∙ x.1 in
        let cause : c ≡ d = ap cause_in (sym e ∙ y.1) in
        let name : x.0 ≡ y.0 = ap name_in (sym e ∙ y.1) in
        (cause, x.2 ∙ ap (λ n. named n ∷ []) name ∙ sym y.2)
    by (inl x) (inr y) = absurd (let q : Some (x.0, c) ≡ None = sym x.1 ∙ faults ∙ y.0 in cc)
    by (inr x) (inl y) = absurd (let q : Some (y.0, d) ≡ None = sym y.1 ∙ sym faults ∙ x.0 in cc)
    by (inr x) (inr y) = one x.1 y.1

-- an object of one member, in hexadecimal
octets_once : (name : List ℕ) (faulty : List ℕ → BuildCause → Type 0) (j : Json) (c d : BuildCause) (path place : List Step) → ((text : List ℕ) → faulty text c → faulty text d → c ≡ d)
    → IsOctetsFault name faulty j c path → IsOctetsFault name faulty j d place → Same c d path place
octets_once name faulty j c d path place one f g =
    object_once (of_names (name ∷ [])) j c d path place _ _
    (λ x y. member_once name (λ k. IsFaultOf (as_str k) faulty) (λ k. IsFaultOf (as_str k) faulty) j c d path place
    (λ k rest steps v w. text_once (as_str k) faulty faulty c d rest steps one v w) x y) f g

-- ---- texts

-- a number has one cause
number_one : (text : List ℕ) (c d : BuildCause) → IsNumberFault text c → IsNumberFault text d → c ≡ d
number_one text c d (inl f) (inl g) = f.0 ∙ sym g.0
number_one text c d (inl f) (inr g) = absurd (let q : true ≡ false = sym g.1 ∙ f.1 in cc)
number_one text c d (inr f) (inl g) = absurd (let q : true ≡ false = sym f.1 ∙ g.1 in cc)
number_one text c d (inr f) (inr g) = f.0 ∙ sym g.0

-- a number of bits has one cause
count_one : (text : List ℕ) (c d : BuildCause) → IsCountFault text c → IsCountFault text d → c ≡ d
count_one text c d (inl f) (inl g) = f.0 ∙ sym g.0
count_one text c d (inl f) (inr g) = absurd (let q : true ≡ false = sym g.1 ∙ f.1 in cc)
count_one text c d (inr f) (inl g) = absurd (let q : true ≡ false = sym f.1 ∙ g.1 in cc)
count_one text c d (inr f) (inr g) = f.0 ∙ sym g.0

-- a text of a leaf has one cause
text_one : (p : Profile) (leaf : Leaf) (text : List ℕ) (c d : BuildCause) → IsTextFault p leaf text c → IsTextFault p leaf text d → c ≡ d
text_one p leaf text c d (inl f) (inl g) = f.0 ∙ sym g.0
text_one p leaf text c d (inl f) (inr g) = absurd (f.1 g.0 g.1 g.2)
text_one p leaf text c d (inr f) (inl g) = absurd (g.1 f.0 f.1 f.2)
text_one p leaf text c d (inr f) (inr g) = f.4 ∙ sym g.4

-- an open type's text has one cause
foreign_one : (text : List ℕ) (c d : BuildCause) → IsForeignFault text c → IsForeignFault text d → c ≡ d
foreign_one text c d (inl f) (inl g) = f.0 ∙ sym g.0
foreign_one text c d (inl f) (inr g) = absurd (f.1 g.0 g.1 g.2)
foreign_one text c d (inr f) (inl g) = absurd (g.1 f.0 f.1 f.2)
foreign_one text c d (inr f) (inr g) = f.3 ∙ sym g.3

-- the name of a number has one cause
name_one : (row text : List ℕ) (c d : BuildCause) → IsNumberNameFault row text c → IsNumberNameFault row text d → c ≡ d
name_one row text c d (inl f) (inl g) = f.1 ∙ sym g.1
name_one row text c d (inl f) (inr g) = absurd (g.0 f.0)
name_one row text c d (inr f) (inl g) = absurd (f.0 g.0)
name_one row text c d (inr f) (inr g) = f.1 ∙ sym g.1

-- a string of a leaf has one fault
string_once : (p : Profile) (leaf : Leaf) (j : Json) (c d : BuildCause) (path place : List Step) → IsFaultOf (as_str j) (IsTextFault p leaf) c path → IsFaultOf (as_str j) (IsTextFault p leaf) d place → Same c d path place
string_once p leaf j c d path place f g = text_once (as_str j) (IsTextFault p leaf) (IsTextFault p leaf) c d path place (λ text x y. text_one p leaf text c d x y) f g

-- ---- numbers

-- a member that says a number has no fault
number_said : (j : Json) (n : ℤ) (cause : BuildCause) (path : List Step) → FitsSigned w64 n → get (codes "number") j ≡ Some (json.number (signed_decimal n))
    → IsMemberFault (codes "number") (λ k. IsFaultOf (as_number k) IsNumberFault) j cause path → ⊥
number_said j n cause path fits got f =
    member_clean (codes "number") (λ k. IsFaultOf (as_number k) IsNumberFault) j (json.number (signed_decimal n)) cause path got
    (λ steps. text_clean (Some (signed_decimal n)) (signed_decimal n) IsNumberFault cause steps refl (number_clean n cause fits)) f

-- a name that isn't the number's
abbrev IsOtherName : List ℕ → ℤ → List ℕ → BuildCause → Type 0
IsOtherName row n text cause = (number_name row n ≢ Some text) × (cause ≡ BuildCause.OtherName)

-- the fault of a number, or else of its name
abbrev IsPairFault : List ℕ → Json → BuildCause → List Step → Type 0
IsPairFault row j cause path =
    IsMemberFault (codes "number") (λ k. IsFaultOf (as_number k) IsNumberFault) j cause path
    ⊎ ((n : ℤ) × FitsSigned w64 n × (get (codes "number") j ≡ Some (json.number (signed_decimal n)))
    × IsMemberFault (codes "name") (λ k. IsFaultOf (as_str k) (IsOtherName row n)) j cause path)

pair_once : (row : List ℕ) (j : Json) (c d : BuildCause) (path place : List Step) → IsPairFault row j c path → IsPairFault row j d place → Same c d path place
pair_once row j c d path place (inl f) (inl g) =
    member_once (codes "number") (λ k. IsFaultOf (as_number k) IsNumberFault) (λ k. IsFaultOf (as_number k) IsNumberFault) j c d path place
    (λ k rest steps x y. text_once (as_number k) IsNumberFault IsNumberFault c d rest steps (λ text v w. number_one text c d v w) x y) f g
pair_once row j c d path place (inl f) (inr g) = absurd (number_said j g.0 c path g.1 g.2 f)
pair_once row j c d path place (inr f) (inl g) = absurd (number_said j f.0 d place f.1 f.2 g)
pair_once row j c d path place (inr f) (inr g) =
    member_once (codes "name") (λ k. IsFaultOf (as_str k) (IsOtherName row f.0)) (λ k. IsFaultOf (as_str k) (IsOtherName row g.0)) j c d path place
    (λ k rest steps x y. text_once (as_str k) (IsOtherName row f.0) (IsOtherName row g.0) c d rest steps (λ text v w. v.1 ∙ sym w.1) x y) f.3 g.3

-- a number by itself, by its name, or by both
whole_once : (row : List ℕ) (j : Json) (c d : BuildCause) (path place : List Step) → IsWholeFault row j c path → IsWholeFault row j d place → Same c d path place
whole_once row (json.number text) c d path place f g = (number_one text c d f.0 g.0, f.1 ∙ sym g.1)
whole_once row (json.string text) c d path place f g = (name_one row text c d f.0 g.0, f.1 ∙ sym g.1)
whole_once row (json.object ms) c d path place (inl f) (inl g) = both_are f.1 g.1 f.2 g.2
whole_once row (json.object ms) c d path place (inl f) (inr g) = absurd (g.0 f.0)
whole_once row (json.object ms) c d path place (inr f) (inl g) = absurd (f.0 g.0)
whole_once row (json.object ms) c d path place (inr f) (inr g) =
    object_once (of_names (codes "number" ∷ codes "name" ∷ [])) (json.object ms) c d path place _ _ (λ x y. pair_once row (json.object ms) c d path place x y) f.1 g.1
whole_once row json.null c d path place f g = both_are f.0 g.0 f.1 g.1
whole_once row (json.boolean b) c d path place f g = both_are f.0 g.0 f.1 g.1
whole_once row (json.array js) c d path place f g = both_are f.0 g.0 f.1 g.1

-- ---- bits

-- a member that says a number of bits has no fault
count_said : (j : Json) (n : ℕ) (cause : BuildCause) (path : List Step) → n < 2 ^ 63 → get (codes "bits") j ≡ Some (json.number (decimal n))
    → IsMemberFault (codes "bits") (λ k. IsFaultOf (as_number k) IsCountFault) j cause path → ⊥
count_said j n cause path small got f =
    member_clean (codes "bits") (λ k. IsFaultOf (as_number k) IsCountFault) j (json.number (decimal n)) cause path got
    (λ steps. text_clean (Some (decimal n)) (decimal n) IsCountFault cause steps refl (count_clean n cause small)) f

-- a member that says octets has no fault
octets_said : (j : Json) (o : List ℕ) (cause : BuildCause) (path : List Step) → IsTrue (are_octets o) → get (codes "octets") j ≡ Some (json.string (hexadecimal o))
    → IsMemberFault (codes "octets") (λ k. IsFaultOf (as_str k) IsHexadecimalFault) j cause path → ⊥
octets_said j o cause path octets got f =
    member_clean (codes "octets") (λ k. IsFaultOf (as_str k) IsHexadecimalFault) j (json.string (hexadecimal o)) cause path got
    (λ steps. text_clean (Some (hexadecimal o)) (hexadecimal o) IsHexadecimalFault cause steps refl (hexadecimal_clean o cause octets)) f

-- the fault of the octets of so many bits
abbrev IsBitOctetsFault : Profile → ℕ → Json → BuildCause → List Step → Type 0
IsBitOctetsFault p n j cause path =
    IsMemberFault (codes "octets") (λ k. IsFaultOf (as_str k) IsHexadecimalFault) j cause path
    ⊎ ((o : List ℕ) × IsTrue (are_octets o) × (get (codes "octets") j ≡ Some (json.string (hexadecimal o)))
    × (Holds p bit_string (bits n o) (normal_content (bits n o)) → ⊥) × (cause ≡ BuildCause.BadBits) × (path ≡ []))

bit_octets_once : (p : Profile) (m n : ℕ) (j : Json) (c d : BuildCause) (path place : List Step) → IsBitOctetsFault p m j c path → IsBitOctetsFault p n j d place → Same c d path place
bit_octets_once p m n j c d path place (inl f) (inl g) =
    member_once (codes "octets") (λ k. IsFaultOf (as_str k) IsHexadecimalFault) (λ k. IsFaultOf (as_str k) IsHexadecimalFault) j c d path place
    (λ k rest steps x y. text_once (as_str k) IsHexadecimalFault IsHexadecimalFault c d rest steps (λ text v w. v.0 ∙ sym w.0) x y) f g
bit_octets_once p m n j c d path place (inl f) (inr g) = absurd (octets_said j g.0 c path g.1 g.2 f)
bit_octets_once p m n j c d path place (inr f) (inl g) = absurd (octets_said j f.0 d place f.1 f.2 g)
bit_octets_once p m n j c d path place (inr f) (inr g) = both_are f.4 g.4 f.5 g.5

-- the fault of a number of bits, or else of their octets
abbrev IsBitMembersFault : Profile → Json → BuildCause → List Step → Type 0
IsBitMembersFault p j cause path =
    IsMemberFault (codes "bits") (λ k. IsFaultOf (as_number k) IsCountFault) j cause path
    ⊎ ((n : ℕ) × (n < 2 ^ 63) × (get (codes "bits") j ≡ Some (json.number (decimal n))) × IsBitOctetsFault p n j cause path)

bit_members_once : (p : Profile) (j : Json) (c d : BuildCause) (path place : List Step) → IsBitMembersFault p j c path → IsBitMembersFault p j d place → Same c d path place
bit_members_once p j c d path place (inl f) (inl g) =
    member_once (codes "bits") (λ k. IsFaultOf (as_number k) IsCountFault) (λ k. IsFaultOf (as_number k) IsCountFault) j c d path place
    (λ k rest steps x y. text_once (as_number k) IsCountFault IsCountFault c d rest steps (λ text v w. count_one text c d v w) x y) f g
bit_members_once p j c d path place (inl f) (inr g) = absurd (count_said j g.0 c path g.1 g.2 f)
bit_members_once p j c d path place (inr f) (inl g) = absurd (count_said j f.0 d place f.1 f.2 g)
bit_members_once p j c d path place (inr f) (inr g) = bit_octets_once p f.0 g.0 j c d path place f.3 g.3

bits_once : (p : Profile) (j : Json) (c d : BuildCause) (path place : List Step) → IsBitsFault p j c path → IsBitsFault p j d place → Same c d path place
bits_once p j c d path place f g =
    object_once (of_names (codes "bits" ∷ codes "octets" ∷ [])) j c d path place _ _ (λ x y. bit_members_once p j c d path place x y) f g

-- ---- strings

alternative_once : (p : Profile) (name : List ℕ) (leaf : Leaf) (j : Json) (c d : BuildCause) (path place : List Step) → IsAlternativeFault p name leaf j c path → IsAlternativeFault p name leaf j d place → Same c d path place
alternative_once p name leaf j c d path place f g =
    let same : f.0 ≡ g.0 = (one_member name name f.0 g.0 (sym f.2 ∙ g.2)).1 in
    behind f.3 g.3 (string_once p leaf g.0 c d f.1 g.1 (subst (λ x. IsFaultOf (as_str x) (IsTextFault p leaf) c f.1) same f.4) g.4)

-- an object of one member isn't of both alternatives
one_alternative : (p : Profile) (leaf other : Leaf) (j : Json) (c d : BuildCause) (path place : List Step) → IsAlternativeFault p (codes "general") leaf j c path → IsAlternativeFault p (codes "visible") other j d place → ⊥
one_alternative p leaf other j c d path place f g = other_names (one_member (codes "general") (codes "visible") f.0 g.0 (sym f.2 ∙ g.2)).0

-- the fault of an object of other than one member, or else of the one
abbrev IsStringMemberFault : Profile → Json → BuildCause → List Step → Type 0
IsStringMemberFault p j cause path =
    (IsNotOne j × (cause ≡ BuildCause.NotOneMember) × (path ≡ []))
    ⊎ IsAlternativeFault p (codes "general") general_string j cause path
    ⊎ IsAlternativeFault p (codes "visible") visible_string j cause path

string_member_once : (p : Profile) (j : Json) (c d : BuildCause) (path place : List Step) → IsStringMemberFault p j c path → IsStringMemberFault p j d place → Same c d path place
string_member_once p j c d path place (inl f) (inl g) = both_are f.1 g.1 f.2 g.2
string_member_once p j c d path place (inl f) (inr (inl g)) = absurd (f.0 (codes "general") g.0 g.2)
string_member_once p j c d path place (inl f) (inr (inr g)) = absurd (f.0 (codes "visible") g.0 g.2)
string_member_once p j c d path place (inr (inl f)) (inl g) = absurd (g.0 (codes "general") f.0 f.2)
string_member_once p j c d path place (inr (inr f)) (inl g) = absurd (g.0 (codes "visible") f.0 f.2)
string_member_once p j c d path place (inr (inl f)) (inr (inl g)) = alternative_once p (codes "general") general_string j c d path place f g
string_member_once p j c d path place (inr (inr f)) (inr (inr g)) = alternative_once p (codes "visible") visible_string j c d path place f g
string_member_once p j c d path place (inr (inl f)) (inr (inr g)) = absurd (one_alternative p general_string visible_string j c d path place f g)
string_member_once p j c d path place (inr (inr f)) (inr (inl g)) = absurd (one_alternative p general_string visible_string j d c place path g f)

ill_string_once : (p : Profile) (j : Json) (c d : BuildCause) (path place : List Step) → IsStringFault p j c path → IsStringFault p j d place → Same c d path place
ill_string_once p j c d path place f g =
    object_once (of_names (codes "general" ∷ codes "visible" ∷ [])) j c d path place _ _ (λ x y. string_member_once p j c d path place x y) f g

-- ---- leaves

-- a leaf or an open type has one fault
pub leaf_once : (p : Profile) (k : Kind) (row : List ℕ) (j : Json) (c d : BuildCause) (path place : List Step) → IsLeafFault p k row j c path → IsLeafFault p k row j d place → Same c d path place
leaf_once p (Kind.Leaf LeafKind.Boolean) row j c d path place f g = wrong_once (as_bool j) c d path place f g
leaf_once p (Kind.Leaf LeafKind.Integer) row j c d path place f g = whole_once row j c d path place f g
leaf_once p (Kind.Leaf LeafKind.Enumerated) row j c d path place f g = whole_once row j c d path place f g
leaf_once p (Kind.Leaf LeafKind.Date) row j c d path place f g = string_once p iso_date j c d path place f g
leaf_once p (Kind.Leaf LeafKind.Time) row j c d path place f g = string_once p iso_time j c d path place f g
leaf_once p (Kind.Leaf LeafKind.Printable) row j c d path place f g = string_once p printable_string j c d path place f g
leaf_once p (Kind.Leaf LeafKind.ObjectDescriptor) row j c d path place f g = string_once p object_descriptor j c d path place f g
leaf_once p (Kind.Leaf LeafKind.ObjectIdentifier) row j c d path place f g = text_once (as_str j) IsOidFault IsOidFault c d path place (λ text x y. x.0 ∙ sym y.0) f g
leaf_once p (Kind.Leaf LeafKind.OctetString) row j c d path place f g = octets_once (codes "octets") IsHexadecimalFault j c d path place (λ text x y. x.0 ∙ sym y.0) f g
leaf_once p (Kind.Leaf LeafKind.BitString) row j c d path place f g = bits_once p j c d path place f g
leaf_once p (Kind.Leaf LeafKind.Null) row j c d path place f g = both_are f.1 g.1 f.2 g.2
leaf_once p Kind.IllString row j c d path place f g = ill_string_once p j c d path place f g
leaf_once p Kind.Any row j c d path place f g = octets_once (codes "foreign") IsForeignFault j c d path place (λ text x y. foreign_one text c d x y) f g
leaf_once p Kind.Seq row j c d path place f g = absurd f
leaf_once p Kind.SeqOf row j c d path place f g = absurd f
leaf_once p Kind.Choice row j c d path place f g = absurd f

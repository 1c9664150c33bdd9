-- Leaves that are no numbers: which contents a value says, and what is refused inside an object.
use Rattle.std.proofs.Common.{◌≡◌, inl, inr, ℕ, Bool, true, false, ◌||◌, IsTrue, List, [], ◌∷◌, codes, cond, IfOk, Option, Some, None, Result, Ok, Err, refl, sym, ap, subst, ◌∙◌}
use Rattle.std.specs.List.{list_all, list_any}
use Rattle.std.specs.Prelude.{if◌then◌else◌}
use Rattle.std.specs.Str.{bytes_eq}
use Rattle.std.proofs.lemmas.Result.{IfOk-weaker}
use Rattle.std.proofs.lemmas.Slice.Eq.{bytes_eq-Decides}
use Rattle.json.specs.Find.{as_bool, as_object, as_str, get, get_member, is_null}
use Rattle.json.specs.Json.{Json, Members, boolean, member, no_members, object, string}
use Rattle.json.specs.Json as json
use Rattle.ber_leaf.specs.Leaf.{Leaf, boolean as flag_leaf, content_fault, general_string, is_oid, iso_date, iso_time, normal_content, null_type, object_identifier, object_descriptor, octet_string, printable_string, visible_string}
use Rattle.ber_leaf.specs.declared.fault.LeafFault.{LeafFault}
use Rattle.ber_leaf.specs.Profile.{Profile}
use Rattle.ber_leaf.specs.Simple.{binary, date, descriptor, flag, general, null, oid, printable, time, visible}
use Rattle.ber_leaf.proofs.Leaves.{flag_holds}
use Rattle.ber_tree.specs.Octets.{are_octets}
use Rattle.ber_tree.specs.Tree.{Tree}
use Rattle.ber_core.specs.Der.{encoding}
use Rattle.ber_core.specs.Foreign.{foreign_levels, is_foreign}
use Rattle.ill_schema.specs.Profiles.{general_of, profile_of}
use Rattle.ill_schema.specs.Texts.{characters, hexadecimal, oid_text}
use Rattle.ill_tables.specs.declared.node.Kind.{Kind}
use Rattle.ill_tables.specs.declared.node.LeafKind.{LeafKind}
use Rattle.ill_tables.specs.declared.part.Presence.{Presence}
use Rattle.ill_tables.specs.declared.profile.Profile.TheVariants.{Module}
use Rattle.ill_build.specs.declared.cause.BuildCause.{BuildCause}
use Rattle.ill_build.specs.declared.leaf.LeafContents.{LeafContents}
use Rattle.ill_build.specs.declared.stop.Stop.{Stop}
use Rattle.ill_build.specs.Faulty.{IsAlternativeFault, IsFaultOf, IsForeignFault, IsFoundFault, IsHexadecimalFault, IsMemberFault, IsObjectFault, IsOctetsFault, IsStringFault, IsTextFault}
use Rattle.ill_build.specs.Members.{IsObjectOf, Known, first_fault, member_fault, name_fault, of_names}
use Rattle.ill_build.specs.Path.{OnRefusal, OnRefused, Step, named}
use Rattle.ill_json.specs.Json.{text_json}
use Rattle.ill_build.specs.code.Built.{ReadsLeaf}
use Rattle.ill_build.proofs.FirstFault.{one_known}
use Rattle.ill_build.proofs.Refusals.{IsWithin, found_fault, one_step, weaker}

-- ---- results

-- what is read of a leaf of this kind
pub of_kind : (p : Profile) (k own : Kind) (row : List ℕ) (j : Json) (r : Result LeafContents Stop) (P : LeafContents → Type 0) → k ≡ own → ((read : LeafContents) → P read → ReadsLeaf p own row j read.number read.octets.items) → IfOk r P
    → IfOk r (λ read. ReadsLeaf p k row j read.number read.octets.items)
of_kind p k own row j r P e reads h =
    subst (λ x. IfOk r (λ read. ReadsLeaf p x row j read.number read.octets.items)) (sym e) (IfOk-weaker r P (λ read. ReadsLeaf p own row j read.number read.octets.items) reads h)

-- what is refused at the exit of a `?`
pub exit_refused : {A : Type 0} (r : Result A Stop) (stop : Stop) (P Q : BuildCause → List Step → Type 0) → r ≡ Err stop → ((cause : BuildCause) (path : List Step) → P cause path → Q cause path) → OnRefused stop P → OnRefusal r Q
exit_refused {A = A} r stop P Q e more h = subst (λ x. OnRefusal x Q) (sym e) (weaker {A = A} (Err stop) P Q more h)

-- what is refused of an error
pub on_error : {A : Type 0} (r : Result A Stop) (stop : Stop) (P : BuildCause → List Step → Type 0) → r ≡ Err stop → OnRefusal r P → OnRefused stop P
on_error r stop P e h = subst (λ x. OnRefusal x P) e h

-- ---- objects

-- an object has members, none of which has a fault
object_of : (known : Known) (j : Json) → IsObjectOf known j → (ms : Members) × (as_object j ≡ Some ms) × (first_fault known [] ms ≡ None)
object_of known (object ms) h = (ms, refl, h)
object_of known _ h = absurd h

-- a fault behind the members
pub later_fault : (known : Known) (j : Json) (cause : BuildCause) (path : List Step) (later : Type 0) → IsObjectOf known j → later → IsObjectFault known j cause path later
later_fault known j cause path later h f = let o = object_of known j h in inr (o.0, o.1, inr (o.2, f))

-- a member that is found is refused
pub member_refused : (inner outer : Stop) (name : List ℕ) (j k : Json) (faulty : Json → BuildCause → List Step → Type 0) → IsWithin inner (named name) outer → get name j ≡ Some k → OnRefused inner (faulty k)
    → OnRefused outer (IsMemberFault name faulty j)
member_refused inner outer name j k faulty w at h =
    one_step inner outer (named name) (faulty k) (IsMemberFault name faulty j) w h (λ cause rest f. (rest, refl, found_fault Presence.Must (λ x. faulty x cause rest) (get name j) k cause rest at f))

-- ---- the only member of an object

-- what is known is one of the names
passes : (b : Bool) → (if b then None else Some BuildCause.UnknownMember) ≡ None → b ≡ true
passes true e = refl
passes false e = absurd cc

or_nothing : (b : Bool) → (b || false) ≡ true → b ≡ true
or_nothing true e = refl
or_nothing false e = absurd cc

-- of one name it is this one
known_name : (name k : List ℕ) → name_fault (of_names (name ∷ [])) k ≡ None → k ≡ name
known_name name k h = (bytes_eq-Decides k name).0 (or_nothing (bytes_eq k name) (passes (list_any (bytes_eq k) (name ∷ [])) h))

-- a member without a fault has a name of its own, and a known one
new_name : (b : Bool) (o : Option BuildCause) → (if b then Some BuildCause.RepeatedMember else o) ≡ None → (b ≡ false) × (o ≡ None)
new_name true o e = absurd cc
new_name false o e = (refl, e)

-- where no member has a fault, the first has none, nor has one behind it
none_first : (o : Option BuildCause) (name : List ℕ) (rest : Option (List ℕ × BuildCause)) → elim o as (λ _. Option (List ℕ × BuildCause)) [ None ↦ rest | Some cause ↦ Some (name, cause) ] ≡ None → (o ≡ None) × (rest ≡ None)
none_first None name rest e = (refl, e)
none_first (Some cause) name rest e = absurd cc

-- two members aren't both of the one name
no_second : (name k l : List ℕ) (i : Json) (ms : Members) → k ≡ name → first_fault (of_names (name ∷ [])) (k ∷ []) (member l i ms) ≡ None → ⊥
no_second name k l i ms is h =
    let known = of_names (name ∷ []) in
    let own = (none_first (member_fault known (k ∷ []) l) l _ h).0 in
    let parts = new_name (list_any (bytes_eq l) (k ∷ [])) (name_fault known l) own in
    let same : bytes_eq l k ≡ true = (bytes_eq-Decides l k).1 (known_name name l parts.1 ∙ sym is) in
    let twice : (true || false) ≡ false = ap (λ b. b || false) (sym same) ∙ parts.0 in
    cc

-- members of one name, of which one is found, are that one
one_of : (name : List ℕ) (ms : Members) (v : Json) → first_fault (of_names (name ∷ [])) [] ms ≡ None → get_member name ms ≡ Some v → ms ≡ member name v no_members
one_of name no_members v h at = absurd cc
one_of name (member k j no_members) v h at =
    let is = known_name name k (one_known (of_names (name ∷ [])) k j h) in
    let found : Some j ≡ Some v = sym (ap (λ b. cond b (Some j) None) ((bytes_eq-Decides k name).1 is)) ∙ at in
    let same : j ≡ v = cc in
    ap (λ x. member x j no_members) is ∙ ap (λ x. member name x no_members) same
one_of name (member k j (member l i ms)) v h at =
    let known = of_names (name ∷ []) in
    let parts = none_first (member_fault known [] k) k _ h in
    absurd (no_second name k l i ms (known_name name k parts.0) parts.1)

-- an object of one name has one member
pub one_member : (name : List ℕ) (j v : Json) → IsObjectOf (of_names (name ∷ [])) j → get name j ≡ Some v → j ≡ object (member name v no_members)
one_member name (object ms) v h at = ap object (one_of name ms v h at)
one_member name _ v h at = absurd h

-- ---- BOOLEAN, NULL, OCTET STRING and OBJECT IDENTIFIER

-- what a value is, by what is read of it
bool_is : (j : Json) (b : Bool) → as_bool j ≡ Some b → j ≡ boolean b
bool_is (boolean a) b e = let q : a ≡ b = cc in ap boolean q
bool_is json.null b e = absurd cc
bool_is (json.number t) b e = absurd cc
bool_is (string t) b e = absurd cc
bool_is (json.array js) b e = absurd cc
bool_is (object ms) b e = absurd cc

-- a truth value says a BOOLEAN
pub flag_read : (p : Profile) (row : List ℕ) (j : Json) (b : Bool) (octets : List ℕ) → as_bool j ≡ Some b → octets ≡ normal_content (flag b) → ReadsLeaf p (Kind.Leaf LeafKind.Boolean) row j 1 octets
flag_read p row j b octets is e = (flag b, flag_leaf, refl, flag_holds p b, bool_is j b is, e, refl)

string_is : (j : Json) (text : List ℕ) → as_str j ≡ Some text → j ≡ string text
string_is (string t) text e = let q : t ≡ text = cc in ap string q
string_is json.null text e = absurd cc
string_is (boolean b) text e = absurd cc
string_is (json.number t) text e = absurd cc
string_is (json.array js) text e = absurd cc
string_is (object ms) text e = absurd cc

null_is : (j : Json) → is_null j ≡ true → j ≡ json.null
null_is json.null e = refl
null_is (boolean b) e = absurd cc
null_is (json.number t) e = absurd cc
null_is (string t) e = absurd cc
null_is (json.array js) e = absurd cc
null_is (object ms) e = absurd cc

-- null says a NULL
pub null_read : (p : Profile) (row : List ℕ) (j : Json) (octets : List ℕ) → is_null j ≡ true → octets ≡ [] → ReadsLeaf p (Kind.Leaf LeafKind.Null) row j 5 octets
null_read p row j octets is e = (null, null_type, refl, (refl, refl, refl), null_is j is, e, refl)

-- hexadecimal says an OCTET STRING
pub octets_read : (p : Profile) (row : List ℕ) (j : Json) (octets : List ℕ) → IsTrue (are_octets octets) → j ≡ object (member (codes "octets") (string (hexadecimal octets)) no_members)
    → ReadsLeaf p (Kind.Leaf LeafKind.OctetString) row j 4 octets
octets_read p row j octets are is = (binary octets, octet_string, refl, (are, refl, refl), is, refl, refl)

-- a text says an OBJECT IDENTIFIER
pub oid_read : (p : Profile) (row : List ℕ) (j : Json) (octets : List ℕ) → IsTrue (are_octets octets) → IsTrue (is_oid octets) → as_str j ≡ Some (oid_text octets) → ReadsLeaf p (Kind.Leaf LeafKind.ObjectIdentifier) row j 6 octets
oid_read p row j octets are is says =
    (oid octets, object_identifier, refl, (are, ap (λ (b : Bool). if b then None else Some LeafFault.BadOid) is, refl), string_is j (oid_text octets) says, refl, refl)

-- ---- open types

-- of a fault of a text follows another of it
found_weaker : (o : Option Json) (F G : List ℕ → BuildCause → Type 0) (cause : BuildCause) (rest : List Step) → ((text : List ℕ) → F text cause → G text cause)
    → IsFoundFault o Presence.Must (λ k. IsFaultOf (as_str k) F cause rest) cause rest → IsFoundFault o Presence.Must (λ k. IsFaultOf (as_str k) G cause rest) cause rest
found_weaker None F G cause rest more h = h
found_weaker (Some k) F G cause rest more (inl w) = inl w
found_weaker (Some k) F G cause rest more (inr f) = inr (f.0, f.1, more f.0 f.2, f.3)

octets_weaker : (name : List ℕ) (F G : List ℕ → BuildCause → Type 0) (j : Json) (cause : BuildCause) (path : List Step) → ((text : List ℕ) → F text cause → G text cause) → IsOctetsFault name F j cause path → IsOctetsFault name G j cause path
octets_weaker name F G j cause path more (inl w) = inl w
octets_weaker name F G j cause path more (inr (ms, is, inl bad)) = inr (ms, is, inl bad)
octets_weaker name F G j cause path more (inr (ms, is, inr (none, f))) = inr (ms, is, inr (none, (f.0, f.1, found_weaker (get name j) F G cause f.0 more f.2)))

-- what is refused of hexadecimal is refused of a foreign tree
pub no_hexadecimal : (j : Json) (cause : BuildCause) (path : List Step) → IsOctetsFault (codes "foreign") IsHexadecimalFault j cause path → IsOctetsFault (codes "foreign") IsForeignFault j cause path
no_hexadecimal j cause path h = octets_weaker (codes "foreign") IsHexadecimalFault IsForeignFault j cause path (λ text f. inl f) h

-- and so are octets of no foreign tree
pub no_tree : (j : Json) (octets : List ℕ) → IsTrue (are_octets octets) → j ≡ object (member (codes "foreign") (string (hexadecimal octets)) no_members) → ((T : Tree) → IsTrue (is_foreign foreign_levels T) → octets ≡ encoding T → ⊥)
    → IsOctetsFault (codes "foreign") IsForeignFault j BuildCause.BadForeign (named (codes "foreign") ∷ [])
no_tree j octets are is none =
    let v = string (hexadecimal octets) in
    let fault : IsForeignFault (hexadecimal octets) BuildCause.BadForeign = inr (octets, are, refl, refl, none) in
    subst (λ x. IsOctetsFault (codes "foreign") IsForeignFault x BuildCause.BadForeign (named (codes "foreign") ∷ [])) (sym is)
    (inr (member (codes "foreign") v no_members, refl, inr (refl, ([], refl, inr (hexadecimal octets, refl, fault, refl)))))

-- ---- ILL-String

all_true : (octets : List ℕ) → list_all (general_of Module) octets ≡ true
all_true [] = refl
all_true (octet ∷ octets) = all_true octets

-- in the module profile a GeneralString has any octets
pub any_general : (octets : List ℕ) → content_fault (profile_of Module) general_string octets ≡ None
any_general octets = ap (λ (b : Bool). if b then None else Some LeafFault.BadText) (all_true octets)

or_else : (a b : Bool) → (a || (b || false)) ≡ true → a ≡ false → b ≡ true
or_else true b h e = absurd cc
or_else false b h e = or_nothing b h

-- an alternative that isn't `general` is `visible`
pub other_alternative : (j : Json) (name : List ℕ) (inner : Json) → IsObjectOf (of_names (codes "general" ∷ codes "visible" ∷ [])) j → j ≡ object (member name inner no_members) → bytes_eq name (codes "general") ≡ false
    → name ≡ codes "visible"
other_alternative j name inner h is other =
    let known = of_names (codes "general" ∷ codes "visible" ∷ []) in
    let fine : name_fault known name ≡ None = one_known known name inner (subst (IsObjectOf known) is h) in
    (bytes_eq-Decides name (codes "visible")).0
    (or_else (bytes_eq name (codes "general")) (bytes_eq name (codes "visible")) (passes (list_any (bytes_eq name) (codes "general" ∷ codes "visible" ∷ [])) fine) other)

-- the object of a string's alternative, by its parts
text_is : (j inner : Json) (name own octets : List ℕ) → j ≡ object (member name inner no_members) → name ≡ own → inner ≡ string (characters octets) → j ≡ text_json own octets
text_is j inner name own octets is same says = is ∙ ap (λ x. object (member x inner no_members)) same ∙ ap (λ x. object (member own x no_members)) says

-- what is read of a string: octets of this leaf, with this number
abbrev pub IsTextRead : Profile → Leaf → ℕ → Json → LeafContents → Type 0
IsTextRead p leaf number j read = IsTrue (are_octets read.octets.items) × (content_fault p leaf read.octets.items ≡ None) × (j ≡ string (characters read.octets.items)) × (read.number ≡ number)

-- the alternative `general` says a GeneralString
pub general_read : (p : Profile) (row : List ℕ) (j inner : Json) (name : List ℕ) (r : Result LeafContents Stop) (read : LeafContents) → j ≡ object (member name inner no_members) → name ≡ codes "general" → r ≡ Ok read
    → IfOk r (IsTextRead p general_string 27 inner) → ReadsLeaf p Kind.IllString row j read.number read.octets.items
general_read p row j inner name r read is same e f =
    let h : IsTextRead p general_string 27 inner read = subst (λ x. IfOk x (IsTextRead p general_string 27 inner)) e f in
    (general read.octets.items, general_string, refl, (h.0, h.1, refl), text_is j inner name (codes "general") read.octets.items is same h.2, refl, h.3)

-- the alternative `visible` says a VisibleString
pub visible_read : (p : Profile) (row : List ℕ) (j inner : Json) (name : List ℕ) (r : Result LeafContents Stop) (read : LeafContents) → j ≡ object (member name inner no_members) → name ≡ codes "visible" → r ≡ Ok read
    → IfOk r (IsTextRead p visible_string 26 inner) → ReadsLeaf p Kind.IllString row j read.number read.octets.items
visible_read p row j inner name r read is same e f =
    let h : IsTextRead p visible_string 26 inner read = subst (λ x. IfOk x (IsTextRead p visible_string 26 inner)) e f in
    (visible read.octets.items, visible_string, refl, (h.0, h.1, refl), text_is j inner name (codes "visible") read.octets.items is same h.2, refl, h.3)

-- a string says a day
pub date_read : (p : Profile) (row : List ℕ) (j : Json) (read : LeafContents) → IsTextRead p iso_date 26 j read → ReadsLeaf p (Kind.Leaf LeafKind.Date) row j read.number read.octets.items
date_read p row j read h = (date read.octets.items, iso_date, refl, (h.0, h.1, refl), h.2, refl, h.3)

-- a string says a time of a day
pub time_read : (p : Profile) (row : List ℕ) (j : Json) (read : LeafContents) → IsTextRead p iso_time 26 j read → ReadsLeaf p (Kind.Leaf LeafKind.Time) row j read.number read.octets.items
time_read p row j read h = (time read.octets.items, iso_time, refl, (h.0, h.1, refl), h.2, refl, h.3)

-- a string says a PrintableString
pub printable_read : (p : Profile) (row : List ℕ) (j : Json) (read : LeafContents) → IsTextRead p printable_string 19 j read → ReadsLeaf p (Kind.Leaf LeafKind.Printable) row j read.number read.octets.items
printable_read p row j read h = (printable read.octets.items, printable_string, refl, (h.0, h.1, refl), h.2, refl, h.3)

-- a string says an ObjectDescriptor
pub descriptor_read : (p : Profile) (row : List ℕ) (j : Json) (read : LeafContents) → IsTextRead p object_descriptor 7 j read → ReadsLeaf p (Kind.Leaf LeafKind.ObjectDescriptor) row j read.number read.octets.items
descriptor_read p row j read h = (descriptor read.octets.items, object_descriptor, refl, (h.0, h.1, refl), h.2, refl, h.3)

alternative_refused : (p : Profile) (own : List ℕ) (leaf : Leaf) (inner outer : Stop) (j k : Json) (name : List ℕ) → j ≡ object (member name k no_members) → name ≡ own → IsWithin inner (named name) outer
    → ((cause : BuildCause) (path : List Step) → IsAlternativeFault p own leaf j cause path → IsStringFault p j cause path) → OnRefused inner (IsFaultOf (as_str k) (IsTextFault p leaf)) → OnRefused outer (IsStringFault p j)
alternative_refused p own leaf inner outer j k name is same w more f =
    one_step inner outer (named name) (IsFaultOf (as_str k) (IsTextFault p leaf)) (IsStringFault p j) w f
    (λ cause rest g. more cause (named name ∷ rest) (k, rest, is ∙ ap (λ x. object (member x k no_members)) same, ap (λ x. named x ∷ rest) same, g))

-- what is refused of the alternative `general`
pub general_refused : (p : Profile) (inner outer : Stop) (j k : Json) (name : List ℕ) → IsObjectOf (of_names (codes "general" ∷ codes "visible" ∷ [])) j → j ≡ object (member name k no_members) → name ≡ codes "general"
    → IsWithin inner (named name) outer → OnRefused inner (IsFaultOf (as_str k) (IsTextFault p general_string)) → OnRefused outer (IsStringFault p j)
general_refused p inner outer j k name h is same w f =
    alternative_refused p (codes "general") general_string inner outer j k name is same w
    (λ cause path g. later_fault (of_names (codes "general" ∷ codes "visible" ∷ [])) j cause path _ h (inr (inl g))) f

-- what is refused of the alternative `visible`
pub visible_refused : (p : Profile) (inner outer : Stop) (j k : Json) (name : List ℕ) → IsObjectOf (of_names (codes "general" ∷ codes "visible" ∷ [])) j → j ≡ object (member name k no_members) → name ≡ codes "visible"
    → IsWithin inner (named name) outer → OnRefused inner (IsFaultOf (as_str k) (IsTextFault p visible_string)) → OnRefused outer (IsStringFault p j)
visible_refused p inner outer j k name h is same w f =
    alternative_refused p (codes "visible") visible_string inner outer j k name is same w
    (λ cause path g. later_fault (of_names (codes "general" ∷ codes "visible" ∷ [])) j cause path _ h (inr (inr g))) f

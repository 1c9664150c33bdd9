-- A leaf that has a fault says nothing.
use Rattle.std.proofs.Common.{◌≡◌, ◌≢◌, ◌⊎◌, inl, inr, ◌∷◌, ◌∙◌, ◌<◌, ◌^◌, ℕ, ℤ, pos, negsuc, Bool, true, false, IsTrue, List, [], Option, Some, None, refl, sym, ap, subst, arith, codes, slice_get, FitsSigned, w64}
use Rattle.std.proofs.lemmas.Fmt.{decimal_injective}
use Rattle.std.proofs.lemmas.Int.{ints}
use Rattle.std.specs.Fmt.{signed_decimal}
use Rattle.std.specs.Str.{bytes_eq}
use Rattle.std.specs.Prelude.{decimal, if◌then◌else◌, neg_ℤ, ◌≤ℤ◌}
use Rattle.json.specs.Find.{as_bool, as_number, as_object, as_str, get, is_null}
use Rattle.json.specs.Json.{Json, Members}
use Rattle.json.specs.Json as json
use Rattle.ber_tree.specs.Octets.{are_octets}
use Rattle.ber_tree.specs.Tree.{Tree}
use Rattle.ber_core.specs.Der.{encoding}
use Rattle.ber_core.specs.Foreign.{is_foreign, foreign_levels}
use Rattle.ber_leaf.specs.declared.fault.LeafFault.{LeafFault}
use Rattle.std.proofs.lemmas.Bool.{and_parts}
use Rattle.ber_leaf.specs.Leaf.{Leaf, Holds, bit_string, content_fault, enumerated, general_string, integer, is_oid, iso_date, iso_time, normal_content, object_descriptor, object_identifier, printable_string, visible_string}
use Rattle.ber_leaf.specs.Profile.{Profile}
use Rattle.ber_leaf.specs.Simple.{Simple, flag, whole, date, time, printable, general, visible, null, oid, binary, bits, descriptor}
use Rattle.ber_leaf.proofs.Integers.{whole_bounds}
use Rattle.ill_schema.specs.Tagging.{leaf_of}
use Rattle.ill_schema.specs.Texts.{characters, hexadecimal, oid_text}
use Rattle.ill_tables.specs.Numbers.{Named, number_name, number_names}
use Rattle.ill_tables.proofs.NumberNames.{number_there}
use Rattle.ill_tables.specs.declared.node.Kind.{Kind}
use Rattle.ill_tables.specs.declared.node.LeafKind.{LeafKind}
use Rattle.ill_tables.specs.declared.part.Presence.{Presence}
use Rattle.ill_schema.proofs.CharacterTexts.{characters_once}
use Rattle.ill_texts.proofs.HexadecimalTexts.{hexadecimal_once}
use Rattle.ill_texts.proofs.NumberTexts.{decimal_is_whole, number_is_whole, number_once}
use Rattle.ill_build.specs.declared.cause.BuildCause.{BuildCause}
use Rattle.ill_build.specs.Faulty.{IsAlternativeFault, IsBitsFault, IsCountFault, IsFaultOf, IsFoundFault, IsHexadecimalFault, IsLeafFault, IsMemberFault, IsNumberFault, IsNumberNameFault, IsObjectFault, IsForeignFault, IsOidFault, IsOctetsFault, IsStringFault, IsTextFault, IsWholeFault}
use Rattle.ill_build.specs.Members.{IsObjectOf, Known, first_fault, of_names}
use Rattle.ill_build.specs.Path.{Step}
use Rattle.ill_build.specs.Said.{IsPair, LeafSays, NameSays}

oid_there : (p : Profile) (o : List ℕ) → content_fault p object_identifier o ≡ None → IsTrue (is_oid o)
oid_there p o h = by (is_oid o) refl
  where
    by : (b : Bool) → is_oid o ≡ b → is_oid o ≡ true
    by true e = e
    by false e = absurd (let q : Some LeafFault.BadOid ≡ None = sym (ap (λ b. if b then None else Some LeafFault.BadOid) e) ∙ h in cc)

bit_octets_there : (n : ℕ) (o : List ℕ) → IsTrue (are_octets (normal_content (bits n o))) → IsTrue (are_octets o)
bit_octets_there n o h = (and_parts _ _ h).1

-- ---- what is found

-- a text that has no fault
pub text_clean : (found : Option (List ℕ)) (x : List ℕ) (faulty : List ℕ → BuildCause → Type 0) (cause : BuildCause) (path : List Step) → found ≡ Some x → (faulty x cause → ⊥) → IsFaultOf found faulty cause path → ⊥
text_clean found x faulty cause path e clean (inl w) = absurd (let q : None ≡ Some x = sym w.0 ∙ e in cc)
text_clean found x faulty cause path e clean (inr (text, is, f, r)) = let q : Some text ≡ Some x = sym is ∙ e in let same : text ≡ x = cc in clean (subst (λ t. faulty t cause) same f)

-- a member that is there, and has no fault
pub member_clean : (name : List ℕ) (faulty : Json → BuildCause → List Step → Type 0) (j k : Json) (cause : BuildCause) (path : List Step) → get name j ≡ Some k → ((rest : List Step) → faulty k cause rest → ⊥)
    → IsMemberFault name faulty j cause path → ⊥
member_clean name faulty j k cause path e clean f = clean f.0 (subst (λ o. IsFoundFault o Presence.Must (λ x. faulty x cause f.0) cause f.0) e f.2)

-- an object whose members have no fault
pub object_clean : (known : Known) (j : Json) (ms : Members) (cause : BuildCause) (path : List Step) (later : Type 0) → j ≡ json.object ms → first_fault known [] ms ≡ None → (later → ⊥) → IsObjectFault known j cause path later → ⊥
object_clean known j ms cause path later e none clean (inl w) = absurd (let q : None ≡ Some ms = sym w.0 ∙ ap as_object e in cc)
object_clean known j ms cause path later e none clean (inr (ns, is, inl bad)) =
    let q : Some ns ≡ Some ms = sym is ∙ ap as_object e in
    let same : ns ≡ ms = cc in
    absurd (let r : Some (bad.0, cause) ≡ None = sym bad.1 ∙ ap (first_fault known []) same ∙ none in cc)
object_clean known j ms cause path later e none clean (inr (ns, is, inr (clear, l))) = clean l

-- an object of these names
pub object_there : (known : Known) (j : Json) → IsObjectOf known j → (ms : Members) × (j ≡ json.object ms) × (first_fault known [] ms ≡ None)
object_there known (json.object ms) h = (ms, refl, h)
object_there known json.null h = absurd h
object_there known (json.boolean b) h = absurd h
object_there known (json.number t) h = absurd h
object_there known (json.string t) h = absurd h
object_there known (json.array js) h = absurd h

-- ---- texts

text_holds : (p : Profile) (leaf : Leaf) (o : List ℕ) (cause : BuildCause) → IsTrue (are_octets o) → content_fault p leaf o ≡ None → IsTextFault p leaf (characters o) cause → ⊥
text_holds p leaf o cause octets good (inl f) = f.1 o octets refl
text_holds p leaf o cause octets good (inr (q, r, e, bad, c)) = let same : o ≡ q = characters_once o q octets r e in bad (subst (λ x. content_fault p leaf x ≡ None) same good)

string_clean : (p : Profile) (leaf : Leaf) (j : Json) (o : List ℕ) (cause : BuildCause) (path : List Step) → j ≡ json.string (characters o) → IsTrue (are_octets o) → content_fault p leaf o ≡ None
    → IsFaultOf (as_str j) (IsTextFault p leaf) cause path → ⊥
string_clean p leaf j o cause path e octets good f = text_clean (as_str j) (characters o) (IsTextFault p leaf) cause path (ap as_str e) (text_holds p leaf o cause octets good) f

-- the one member of an object
octets_clean : (name x : List ℕ) (faulty : List ℕ → BuildCause → Type 0) (j : Json) (cause : BuildCause) (path : List Step) → j ≡ json.object (json.member name (json.string x) json.no_members)
    → first_fault (of_names (name ∷ [])) [] (json.member name (json.string x) json.no_members) ≡ None → get name (json.object (json.member name (json.string x) json.no_members)) ≡ Some (json.string x)
    → (faulty x cause → ⊥) → IsOctetsFault name faulty j cause path → ⊥
octets_clean name x faulty j cause path e none got clean f =
    object_clean (of_names (name ∷ [])) j (json.member name (json.string x) json.no_members) cause path _ e none
    (λ m. member_clean name (λ k. IsFaultOf (as_str k) faulty) j (json.string x) cause path (ap (get name) e ∙ got) (λ rest. text_clean (Some x) x faulty cause rest refl clean) m) f

pub hexadecimal_clean : (o : List ℕ) (cause : BuildCause) → IsTrue (are_octets o) → IsHexadecimalFault (hexadecimal o) cause → ⊥
hexadecimal_clean o cause octets f = f.1 o octets refl

-- ---- numbers

pub number_clean : (n : ℤ) (cause : BuildCause) → FitsSigned w64 n → IsNumberFault (signed_decimal n) cause → ⊥
number_clean n cause fits (inl f) = absurd (let q : true ≡ false = sym (number_is_whole n fits) ∙ f.1 in cc)
number_clean n cause fits (inr f) = f.2 n fits refl

nowhere : (ns : Named) (k : ℕ) (n : ℤ) (name : List ℕ) → ns ≡ [] → slice_get ns k ≡ Some (n, name) → ⊥
nowhere [] k n name e at = absurd cc
nowhere (x ∷ ns) k n name e at = absurd cc

named_number : (row : List ℕ) (n : ℤ) (name : List ℕ) → number_name row n ≡ Some name → number_names row ≡ [] → ⊥
named_number row n name e none = let there = number_there row n name e in nowhere (number_names row) there.0 n name none there.1

name_clean : (row : List ℕ) (n : ℤ) (name : List ℕ) (cause : BuildCause) → number_name row n ≡ Some name → IsNumberNameFault row name cause → ⊥
name_clean row n name cause e (inl f) = named_number row n name e f.0
name_clean row n name cause e (inr f) = f.2 n e

abbrev pair : List (List ℕ)
pair = codes "number" ∷ codes "name" ∷ []

pair_clean : (row : List ℕ) (n : ℤ) (j : Json) (name : List ℕ) (cause : BuildCause) (path : List Step) → FitsSigned w64 n → number_name row n ≡ Some name
    → IsPair (codes "number") (json.number (signed_decimal n)) (codes "name") (json.string name) j → (ms : Members) × (j ≡ json.object ms) × (first_fault (of_names pair) [] ms ≡ None)
    → IsWholeFault row j cause path → ⊥
pair_clean row n j name cause path fits e s o f = by o.0 o.1 o.2 (subst (λ x. IsWholeFault row x cause path) o.1 f)
  where
    by : (ms : Members) → j ≡ json.object ms → first_fault (of_names pair) [] ms ≡ None → IsWholeFault row (json.object ms) cause path → ⊥
    by ms is none (inl g) = named_number row n name e g.0
    by ms is none (inr g) = object_clean (of_names pair) (json.object ms) ms cause path _ refl none rest g.1
      where
        rest : IsMemberFault (codes "number") (λ k. IsFaultOf (as_number k) IsNumberFault) (json.object ms) cause path
            ⊎ ((m : ℤ) × FitsSigned w64 m × (get (codes "number") (json.object ms) ≡ Some (json.number (signed_decimal m)))
            × IsMemberFault (codes "name") (λ k. IsFaultOf (as_str k) (λ text c. (number_name row m ≢ Some text) × (c ≡ BuildCause.OtherName))) (json.object ms) cause path) → ⊥
        rest (inl m) =
            member_clean (codes "number") (λ k. IsFaultOf (as_number k) IsNumberFault) (json.object ms) (json.number (signed_decimal n)) cause path (sym (ap (get (codes "number")) is) ∙ s.1)
            (λ steps. text_clean (Some (signed_decimal n)) (signed_decimal n) IsNumberFault cause steps refl (number_clean n cause fits)) m
        rest (inr (m, small, got, other)) =
            let q : Some (json.number (signed_decimal m)) ≡ Some (json.number (signed_decimal n)) = sym got ∙ sym (ap (get (codes "number")) is) ∙ s.1 in
            let text : signed_decimal m ≡ signed_decimal n = cc in
            let same : m ≡ n = number_once m n small fits text in
            member_clean (codes "name") (λ k. IsFaultOf (as_str k) (λ text c. (number_name row m ≢ Some text) × (c ≡ BuildCause.OtherName))) (json.object ms) (json.string name) cause path
            (sym (ap (get (codes "name")) is) ∙ s.2)
            (λ steps. text_clean (Some name) name (λ text c. (number_name row m ≢ Some text) × (c ≡ BuildCause.OtherName)) cause steps refl (λ x. x.0 (ap (number_name row) same ∙ e))) other

whole_by : (row : List ℕ) (n : ℤ) (j : Json) (cause : BuildCause) (path : List Step) → FitsSigned w64 n → (o : Option (List ℕ)) → number_name row n ≡ o → NameSays o n j → IsWholeFault row j cause path → ⊥
whole_by row n j cause path fits None e s f = absurd s
whole_by row n j cause path fits (Some name) e (inl is) f = name_clean row n name cause e (subst (λ x. IsWholeFault row x cause path) is f).0
whole_by row n j cause path fits (Some name) e (inr s) f = pair_clean row n j name cause path fits e s (object_there (of_names pair) j s.0) f

whole_clean : (row : List ℕ) (n : ℤ) (j : Json) (cause : BuildCause) (path : List Step) → FitsSigned w64 n → LeafSays row j (whole n) → IsWholeFault row j cause path → ⊥
whole_clean row n j cause path fits (inl e) f = number_clean n cause fits (subst (λ x. IsWholeFault row x cause path) e f).0
whole_clean row n j cause path fits (inr s) f = whole_by row n j cause path fits (number_name row n) refl s f

bounded_fits : (z : ℤ) → (neg_ℤ (pos 9_223_372_036_854_775_808) ≤ℤ z) × (z ≤ℤ pos 9_223_372_036_854_775_807) → FitsSigned w64 z
bounded_fits (pos n) h = let top = h.1 in omega (arith, ints)
bounded_fits (negsuc n) h = let low = h.0 in omega (arith, ints)

integer_fits : (p : Profile) (n : ℤ) → Holds p integer (whole n) (normal_content (whole n)) → FitsSigned w64 n
integer_fits p n h = bounded_fits n ((whole_bounds p n).0 (normal_content (whole n), h))

enumerated_fits : (p : Profile) (n : ℤ) → Holds p enumerated (whole n) (normal_content (whole n)) → FitsSigned w64 n
enumerated_fits p n h = bounded_fits n ((whole_bounds p n).0 (normal_content (whole n), h))

-- ---- bits

abbrev bit_names : List (List ℕ)
bit_names = codes "bits" ∷ codes "octets" ∷ []

pub count_clean : (n : ℕ) (cause : BuildCause) → n < 2 ^ 63 → IsCountFault (decimal n) cause → ⊥
count_clean n cause small (inl f) = absurd (let q : true ≡ false = sym (decimal_is_whole n (omega (arith, small))) ∙ f.1 in cc)
count_clean n cause small (inr f) = f.2 n small refl

bits_clean : (p : Profile) (n : ℕ) (o : List ℕ) (row : List ℕ) (j : Json) (cause : BuildCause) (path : List Step) → IsTrue (are_octets o) → Holds p bit_string (bits n o) (normal_content (bits n o)) → LeafSays row j (bits n o) → IsBitsFault p j cause path → ⊥
bits_clean p n o row j cause path octets h s f = by (object_there (of_names bit_names) j s.1.0)
  where
    by : (ms : Members) × (j ≡ json.object ms) × (first_fault (of_names bit_names) [] ms ≡ None) → ⊥
    by (ms, is, none) = object_clean (of_names bit_names) j ms cause path _ is none rest f
      where
        rest : IsMemberFault (codes "bits") (λ k. IsFaultOf (as_number k) IsCountFault) j cause path
            ⊎ ((m : ℕ) × (m < 2 ^ 63) × (get (codes "bits") j ≡ Some (json.number (decimal m))) × (
            IsMemberFault (codes "octets") (λ k. IsFaultOf (as_str k) IsHexadecimalFault) j cause path
            ⊎ ((q : List ℕ) × IsTrue (are_octets q) × (get (codes "octets") j ≡ Some (json.string (hexadecimal q)))
            × (Holds p bit_string (bits m q) (normal_content (bits m q)) → ⊥) × (cause ≡ BuildCause.BadBits) × (path ≡ [])))) → ⊥
        rest (inl m) =
            member_clean (codes "bits") (λ k. IsFaultOf (as_number k) IsCountFault) j (json.number (decimal n)) cause path s.1.1
            (λ steps. text_clean (Some (decimal n)) (decimal n) IsCountFault cause steps refl (count_clean n cause s.0)) m
        rest (inr (m, small, got, inl bad)) =
            member_clean (codes "octets") (λ k. IsFaultOf (as_str k) IsHexadecimalFault) j (json.string (hexadecimal o)) cause path s.1.2
            (λ steps. text_clean (Some (hexadecimal o)) (hexadecimal o) IsHexadecimalFault cause steps refl (hexadecimal_clean o cause octets)) bad
        rest (inr (m, small, got, inr (q, valid, there, not, c, e))) =
            let a : Some (json.number (decimal m)) ≡ Some (json.number (decimal n)) = sym got ∙ s.1.1 in
            let b : Some (json.string (hexadecimal q)) ≡ Some (json.string (hexadecimal o)) = sym there ∙ s.1.2 in
            let count : decimal m ≡ decimal n = cc in
            let text : hexadecimal q ≡ hexadecimal o = cc in
            let same : m ≡ n = decimal_injective m n (omega (arith, small)) (omega (arith, s.0)) count in
            let same_octets : q ≡ o = hexadecimal_once q o valid octets text in
            not (subst (λ x. Holds p bit_string (bits x q) (normal_content (bits x q))) (sym same) (subst (λ x. Holds p bit_string (bits n x) (normal_content (bits n x))) (sym same_octets) h))

-- ---- strings

alternative_clean : (p : Profile) (name other : List ℕ) (leaf : Leaf) (j : Json) (o : List ℕ) (cause : BuildCause) (path : List Step) → j ≡ json.object (json.member other (json.string (characters o)) json.no_members)
    → IsTrue (are_octets o) → (name ≡ other → content_fault p leaf o ≡ None) → IsAlternativeFault p name leaf j cause path → ⊥
alternative_clean p name other leaf j o cause path e octets good f =
    let q : json.object (json.member name f.0 json.no_members) ≡ json.object (json.member other (json.string (characters o)) json.no_members) = sym f.2 ∙ e in
    let same : name ≡ other = cc in
    let inner : f.0 ≡ json.string (characters o) = cc in
    string_clean p leaf f.0 o cause f.1 inner octets (good same) f.4

pub other_names : codes "general" ≡ codes "visible" → ⊥
other_names e = absurd (let q : true ≡ false = ap (λ (x : List ℕ). bytes_eq (codes "general") x) e in cc)

abbrev string_names : List (List ℕ)
string_names = codes "general" ∷ codes "visible" ∷ []

choice_clean : (p : Profile) (name : List ℕ) (j : Json) (o : List ℕ) (cause : BuildCause) (path : List Step) → j ≡ json.object (json.member name (json.string (characters o)) json.no_members)
    → first_fault (of_names string_names) [] (json.member name (json.string (characters o)) json.no_members) ≡ None → IsTrue (are_octets o)
    → (codes "general" ≡ name → content_fault p general_string o ≡ None) → (codes "visible" ≡ name → content_fault p visible_string o ≡ None) → IsStringFault p j cause path → ⊥
choice_clean p name j o cause path e none octets general_good visible_good f =
    object_clean (of_names string_names) j (json.member name (json.string (characters o)) json.no_members) cause path _ e none rest f
  where
    rest : (((n : List ℕ) (inner : Json) → j ≡ json.object (json.member n inner json.no_members) → ⊥) × (cause ≡ BuildCause.NotOneMember) × (path ≡ []))
        ⊎ IsAlternativeFault p (codes "general") general_string j cause path ⊎ IsAlternativeFault p (codes "visible") visible_string j cause path → ⊥
    rest (inl m) = m.0 name (json.string (characters o)) e
    rest (inr (inl m)) = alternative_clean p (codes "general") name general_string j o cause path e octets general_good m
    rest (inr (inr m)) = alternative_clean p (codes "visible") name visible_string j o cause path e octets visible_good m

-- ---- leaves

-- a leaf that is said has no fault
pub leaf_clean : (p : Profile) (k : Kind) (row : List ℕ) (j : Json) (cause : BuildCause) (path : List Step) (v : Simple) (leaf : Leaf) → leaf_of k v ≡ Some leaf → Holds p leaf v (normal_content v) → LeafSays row j v
    → IsLeafFault p k row j cause path → ⊥
leaf_clean p (Kind.Leaf LeafKind.Boolean) row j cause path (flag b) leaf l h s f = absurd (let q : None ≡ Some b = sym f.0 ∙ ap as_bool s in cc)
leaf_clean p (Kind.Leaf LeafKind.Integer) row j cause path (whole n) leaf l h s f =
    let same : leaf ≡ integer = cc in whole_clean row n j cause path (integer_fits p n (subst (λ x. Holds p x (whole n) (normal_content (whole n))) same h)) s f
leaf_clean p (Kind.Leaf LeafKind.Enumerated) row j cause path (whole n) leaf l h s f =
    let same : leaf ≡ enumerated = cc in whole_clean row n j cause path (enumerated_fits p n (subst (λ x. Holds p x (whole n) (normal_content (whole n))) same h)) s f
leaf_clean p (Kind.Leaf LeafKind.Date) row j cause path (date o) leaf l h s f =
    let same : leaf ≡ iso_date = cc in string_clean p iso_date j o cause path s h.0 (subst (λ x. content_fault p x o ≡ None) same h.1) f
leaf_clean p (Kind.Leaf LeafKind.Time) row j cause path (time o) leaf l h s f =
    let same : leaf ≡ iso_time = cc in string_clean p iso_time j o cause path s h.0 (subst (λ x. content_fault p x o ≡ None) same h.1) f
leaf_clean p (Kind.Leaf LeafKind.Printable) row j cause path (printable o) leaf l h s f =
    let same : leaf ≡ printable_string = cc in string_clean p printable_string j o cause path s h.0 (subst (λ x. content_fault p x o ≡ None) same h.1) f
leaf_clean p (Kind.Leaf LeafKind.ObjectDescriptor) row j cause path (descriptor o) leaf l h s f =
    let same : leaf ≡ object_descriptor = cc in string_clean p object_descriptor j o cause path s h.0 (subst (λ x. content_fault p x o ≡ None) same h.1) f
leaf_clean p (Kind.Leaf LeafKind.Null) row j cause path null leaf l h s f = absurd (let q : true ≡ false = sym (ap is_null s) ∙ f.0 in cc)
leaf_clean p (Kind.Leaf LeafKind.ObjectIdentifier) row j cause path (oid o) leaf l h s f =
    let same : leaf ≡ object_identifier = cc in
    text_clean (as_str j) (oid_text o) IsOidFault cause path (ap as_str s) (λ x. x.1 o h.0 (oid_there p o (subst (λ y. content_fault p y o ≡ None) same h.1)) refl) f
leaf_clean p (Kind.Leaf LeafKind.OctetString) row j cause path (binary o) leaf l h s f = octets_clean (codes "octets") (hexadecimal o) IsHexadecimalFault j cause path s refl refl (hexadecimal_clean o cause h.0) f
leaf_clean p (Kind.Leaf LeafKind.BitString) row j cause path (bits n o) leaf l h s f =
    let same : leaf ≡ bit_string = cc in
    bits_clean p n o row j cause path (bit_octets_there n o h.0) (subst (λ x. Holds p x (bits n o) (normal_content (bits n o))) same h) s f
leaf_clean p Kind.IllString row j cause path (general o) leaf l h s f =
    let same : leaf ≡ general_string = cc in
    choice_clean p (codes "general") j o cause path s refl h.0 (λ e. subst (λ x. content_fault p x o ≡ None) same h.1) (λ e. absurd (other_names (sym e))) f
leaf_clean p Kind.IllString row j cause path (visible o) leaf l h s f =
    let same : leaf ≡ visible_string = cc in
    choice_clean p (codes "visible") j o cause path s refl h.0 (λ e. absurd (other_names e)) (λ e. subst (λ x. content_fault p x o ≡ None) same h.1) f
leaf_clean p _ row j cause path v leaf l h s f = absurd cc

-- a value of an open type
pub foreign_clean : (p : Profile) (row : List ℕ) (j : Json) (cause : BuildCause) (path : List Step) (T : Tree) → IsTrue (is_foreign foreign_levels T) → IsTrue (are_octets (encoding T))
    → j ≡ json.object (json.member (codes "foreign") (json.string (hexadecimal (encoding T))) json.no_members) → IsLeafFault p Kind.Any row j cause path → ⊥
foreign_clean p row j cause path T h octets e f = octets_clean (codes "foreign") (hexadecimal (encoding T)) IsForeignFault j cause path e refl refl by f
  where
    by : IsForeignFault (hexadecimal (encoding T)) cause → ⊥
    by (inl x) = hexadecimal_clean (encoding T) cause octets x
    by (inr (o, valid, text, c, none)) = none T h (sym (hexadecimal_once (encoding T) o octets valid text))

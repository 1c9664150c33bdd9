-- A value of JSON says at most one value of a type, and a line at most one APDU.
use Rattle.std.proofs.Common.{◌≡◌, ◌⊎◌, inl, inr, ℕ, suc, ◌-◌, ◌*◌, ◌^◌, ◌<◌, ◌≤◌, Bool, true, false, ◌||◌, IsTrue, List, [], ◌∷◌, length, Option, Some, None, refl, sym, ap, subst, ◌∙◌, arith, codes, slice_get, ℤ, decimal, if◌then◌else◌}
use Rattle.std.specs.Prelude.{nat_le}
use Rattle.std.specs.Fmt.{signed_decimal}
use Rattle.std.specs.List.{list_all}
use Rattle.std.proofs.lemmas.Bool.Decides.{nat_tests}
use Rattle.std.proofs.lemmas.Fmt.{decimal_injective, signed_decimal_injective}
use Rattle.std.proofs.lemmas.Option.{slice_get_within}
use Rattle.json.specs.Find.{get}
use Rattle.json.specs.Json.{Json, document}
use Rattle.json.specs.Json as json
use Rattle.ber_core.specs.Der.{encoding}
use Rattle.ber_core.specs.Foreign.{foreign_levels, is_foreign}
use Rattle.ber_foreign.proofs.Once.{encoding_once}
use Rattle.ber_leaf.specs.Leaf.{Leaf, Holds, content_fault, is_oid, normal_content, object_identifier}
use Rattle.ber_leaf.specs.Profile.{Profile}
use Rattle.ber_leaf.specs.Simple.{Simple, flag, whole, date, time, printable, general, visible, null, oid, binary, bits, descriptor}
use Rattle.ber_leaf.specs.declared.fault.LeafFault.{LeafFault}
use Rattle.ber_tree.specs.Octets.{are_octets}
use Rattle.ber_tree.specs.Tree.{Tree}
use Rattle.ill_json.proofs.OneToOne.{leaf_sort, other, row_fits, small_sort, sort_of, whole_size}
use Rattle.ill_schema.specs.Apdu.{Apdu, root}
use Rattle.ill_schema.specs.Content.{Content, simple, sequence, list, alternative, foreign, Entries, no_entries, absent, present, Items, no_items, item}
use Rattle.ill_schema.specs.Fits.{Fits, FitItems, FitRows, FitsApdu}
use Rattle.ill_schema.specs.Presence.{MayLack}
use Rattle.ill_schema.specs.Tagging.{leaf_of}
use Rattle.ill_schema.specs.Texts.{hexadecimal}
use Rattle.ill_tables.specs.Names.{names_of, row_name, row_node}
use Rattle.ill_tables.specs.Numbers.{number_name}
use Rattle.ill_tables.specs.Table.{kind_of, rows_of}
use Rattle.ill_tables.specs.declared.node.Kind.{Kind}
use Rattle.ill_tables.specs.declared.node.LeafKind.{LeafKind}
use Rattle.ill_tables.specs.declared.node.NodeId.{NodeId}
use Rattle.ill_tables.specs.declared.node.NodeId.TheVariants.{Boolean}
use Rattle.ill_tables.specs.declared.part.Presence.{Presence}
use Rattle.ill_tables.specs.declared.part.Row.{Row}
use Rattle.ill_schema.proofs.CharacterTexts.{characters_once}
use Rattle.ill_texts.proofs.HexadecimalTexts.{hexadecimal_once}
use Rattle.ill_texts.proofs.OctetLists.{octet_first}
use Rattle.oid_text.proofs.OidTexts.{oid_text_once}
use Rattle.ill_build.specs.Line.{SaysApdu, SaysLine}
use Rattle.ill_build.specs.Said.{EntriesSay, Given, IsDefaultAt, IsDefaultOf, ItemsSay, LeafSays, NameSays, Says, Under}
use Rattle.ill_tables.proofs.DistinctNames.{name_at, names_enough, row_once}
use Rattle.ill_tables.proofs.NumberNames.{number_once}
use Rattle.ill_build.proofs.Unsaid.{one_member}
use Rattle.ill_build.proofs.Names.{all_named, is_named}

-- ---- texts of JSON

same_number : (x y : List ℕ) → Some (json.number x) ≡ Some (json.number y) → x ≡ y
same_number x y e = cc

same_string : (x y : List ℕ) → Some (json.string x) ≡ Some (json.string y) → x ≡ y
same_string x y e = cc

-- ---- numbers

-- a name is of one number
number_named : (row name : List ℕ) (y z : ℤ) → number_name row y ≡ Some name → number_name row z ≡ Some name → y ≡ z
number_named row name y z e f = number_once row y z name e f

-- the digits of a value that says a number, or its name
abbrev SaysDigits : List ℕ → ℤ → Json → Type 0
SaysDigits row n j = (j ≡ json.number (signed_decimal n)) ⊎ (get (codes "number") j ≡ Some (json.number (signed_decimal n))) ⊎ ((name : List ℕ) × (number_name row n ≡ Some name) × (j ≡ json.string name))

-- a value that says a number has its digits, or its name
digits_said : (row : List ℕ) (n : ℤ) (j : Json) → LeafSays row j (whole n) → SaysDigits row n j
digits_said row n j (inl e) = inl e
digits_said row n j (inr h) = by (number_name row n) refl h
  where
    by : (o : Option (List ℕ)) → number_name row n ≡ o → NameSays o n j → SaysDigits row n j
    by None e h = absurd h
    by (Some name) e (inl f) = inr (inr (name, e, f))
    by (Some name) e (inr f) = inr (inl f.1)

-- a value says at most one number
whole_once : (p : Profile) (row : List ℕ) (j : Json) (k : Kind) (y z : ℤ) (l m : Leaf) → leaf_of k (whole y) ≡ Some l → leaf_of k (whole z) ≡ Some m
    → Holds p l (whole y) (normal_content (whole y)) → Holds p m (whole z) (normal_content (whole z)) → SaysDigits row y j → SaysDigits row z j → y ≡ z
whole_once p row j k y z l m e f h i s t = by s t
  where
    once : Some (json.number (signed_decimal y)) ≡ Some (json.number (signed_decimal z)) → y ≡ z
    once q = signed_decimal_injective y z (whole_size p k l y e h) (whole_size p k m z f i) (same_number (signed_decimal y) (signed_decimal z) q)

    by : SaysDigits row y j → SaysDigits row z j → y ≡ z
    by (inl a) (inl b) = once (ap Some (sym a ∙ b))
    by (inl a) (inr (inl b)) = absurd (let q : None ≡ Some (json.number (signed_decimal z)) = sym (ap (get (codes "number")) a) ∙ b in cc)
    by (inl a) (inr (inr b)) = absurd (let q : json.number (signed_decimal y) ≡ json.string b.0 = sym a ∙ b.2 in cc)
    by (inr (inl a)) (inl b) = absurd (let q : None ≡ Some (json.number (signed_decimal y)) = sym (ap (get (codes "number")) b) ∙ a in cc)
    by (inr (inl a)) (inr (inl b)) = once (sym a ∙ b)
    by (inr (inl a)) (inr (inr b)) = absurd (let q : None ≡ Some (json.number (signed_decimal y)) = sym (ap (get (codes "number")) b.2) ∙ a in cc)
    by (inr (inr a)) (inl b) = absurd (let q : json.string a.0 ≡ json.number (signed_decimal z) = sym a.2 ∙ b in cc)
    by (inr (inr a)) (inr (inl b)) = absurd (let q : None ≡ Some (json.number (signed_decimal z)) = sym (ap (get (codes "number")) a.2) ∙ b in cc)
    by (inr (inr a)) (inr (inr b)) =
        let q : json.string a.0 ≡ json.string b.0 = sym a.2 ∙ b.2 in
        let same : a.0 ≡ b.0 = cc in
        number_named row b.0 y z (subst (λ x. number_name row y ≡ Some x) same a.1) b.1

-- ---- other leaves

-- a value says at most one number of bits, and octets
bits_once : (p : Profile) (row : List ℕ) (j : Json) (n m : ℕ) (o q : List ℕ) (k l : Leaf) → Holds p k (bits n o) (normal_content (bits n o)) → Holds p l (bits m q) (normal_content (bits m q))
    → LeafSays row j (bits n o) → LeafSays row j (bits m q) → bits n o ≡ bits m q
bits_once p row j n m o q k l h i s t =
    let few : n < 2 ^ 63 = s.0 in
    let short : m < 2 ^ 63 = t.0 in
    let count : n ≡ m = decimal_injective n m (omega (arith, few)) (omega (arith, short)) (same_number (decimal n) (decimal m) (sym s.1.1 ∙ t.1.1)) in
    let octets : o ≡ q =
    hexadecimal_once o q (octet_first (8 * length o - n) o h.0).1 (octet_first (8 * length q - m) q i.0).1 (same_string (hexadecimal o) (hexadecimal q) (sym s.1.2 ∙ t.1.2)) in
    ap (λ x. bits x o) count ∙ ap (bits m) octets

-- the octets of an OBJECT IDENTIFIER
are_oid : (p : Profile) (k : Kind) (l : Leaf) (o : List ℕ) → leaf_of k (oid o) ≡ Some l → Holds p l (oid o) o → IsTrue (is_oid o)
are_oid p (Kind.Leaf LeafKind.ObjectIdentifier) l o e h =
    let same : l ≡ object_identifier = cc in no_fault (subst (λ x. content_fault p x o ≡ None) same h.1)
  where
    no_fault : content_fault p object_identifier o ≡ None → IsTrue (is_oid o)
    no_fault f = by (is_oid o) refl
      where
        by : (b : Bool) → is_oid o ≡ b → IsTrue (is_oid o)
        by true g = g
        by false g = absurd (let q : Some LeafFault.BadOid ≡ None = sym (ap (λ (b : Bool). if b then None else Some LeafFault.BadOid) g) ∙ f in cc)
are_oid p k l o e h = absurd cc

-- the first letter of the first key
abbrev first_letter : Json → ℕ
first_letter (json.object (json.member (letter ∷ letters) j ms)) = letter
first_letter _ = 0

-- a value says at most one leaf of a kind
leaf_once : (p : Profile) (row : List ℕ) (j : Json) (k : Kind) (v w : Simple) (l m : Leaf) → leaf_of k v ≡ Some l → leaf_of k w ≡ Some m → Holds p l v (normal_content v) → Holds p m w (normal_content w)
    → LeafSays row j v → LeafSays row j w → v ≡ w
leaf_once p row j k (flag a) (flag b) l m f g h i s t = let q : json.boolean a ≡ json.boolean b = sym s ∙ t in let same : a ≡ b = cc in ap flag same
leaf_once p row j k (whole y) (whole z) l m f g h i s t = ap whole (whole_once p row j k y z l m f g h i (digits_said row y j s) (digits_said row z j t))
leaf_once p row j k (date o) (date q) l m f g h i s t = ap date (characters_once o q h.0 i.0 (same_string _ _ (ap Some (sym s ∙ t))))
leaf_once p row j k (time o) (time q) l m f g h i s t = ap time (characters_once o q h.0 i.0 (same_string _ _ (ap Some (sym s ∙ t))))
leaf_once p row j k (printable o) (printable q) l m f g h i s t = ap printable (characters_once o q h.0 i.0 (same_string _ _ (ap Some (sym s ∙ t))))
leaf_once p row j k (general o) (general q) l m f g h i s t = ap general (characters_once o q h.0 i.0 (same_string _ _ (sym (ap (get (codes "general")) s) ∙ ap (get (codes "general")) t)))
leaf_once p row j k (visible o) (visible q) l m f g h i s t = ap visible (characters_once o q h.0 i.0 (same_string _ _ (sym (ap (get (codes "visible")) s) ∙ ap (get (codes "visible")) t)))
leaf_once p row j k (general o) (visible q) l m f g h i s t = absurd (let letter : 103 ≡ 118 = ap first_letter (sym s ∙ t) in omega (arith, letter))
leaf_once p row j k (visible o) (general q) l m f g h i s t = absurd (let letter : 118 ≡ 103 = ap first_letter (sym s ∙ t) in omega (arith, letter))
leaf_once p row j k null null l m f g h i s t = refl
leaf_once p row j k (oid o) (oid q) l m f g h i s t =
    ap oid (oid_text_once o q h.0 (are_oid p k l o f h) i.0 (are_oid p k m q g i) (same_string _ _ (ap Some (sym s ∙ t))))
leaf_once p row j k (binary o) (binary q) l m f g h i s t = ap binary (hexadecimal_once o q h.0 i.0 (same_string _ _ (sym (ap (get (codes "octets")) s) ∙ ap (get (codes "octets")) t)))
leaf_once p row j k (bits n o) (bits c q) l m f g h i s t = bits_once p row j n c o q l m h i s t
leaf_once p row j k (descriptor o) (descriptor q) l m f g h i s t = ap descriptor (characters_once o q h.0 i.0 (same_string _ _ (ap Some (sym s ∙ t))))
leaf_once p row j k v w l m f g h i s t = absurd (let q : leaf_sort v ≡ leaf_sort w = sym (sort_of k v l f) ∙ sort_of k w m g in cc)

-- ---- foreign trees

-- the text of a foreign tree
foreign_text : (x y : List ℕ) → json.object (json.member (codes "foreign") (json.string x) json.no_members) ≡ json.object (json.member (codes "foreign") (json.string y) json.no_members) → x ≡ y
foreign_text x y e = cc

-- it is of one tree
tree_once : (T U : Tree) → IsTrue (are_octets (encoding T)) → IsTrue (are_octets (encoding U)) → IsTrue (is_foreign foreign_levels T) → IsTrue (is_foreign foreign_levels U) → hexadecimal (encoding T) ≡ hexadecimal (encoding U)
    → T ≡ U
tree_once T U some other h k e = encoding_once T U h k (hexadecimal_once (encoding T) (encoding U) some other e)

-- ---- rows

array_same : (js ks : json.Items) → json.array js ≡ json.array ks → js ≡ ks
array_same js ks e = cc

-- where a row has the empty name, it is the only one
lone : (node : NodeId) → IsTrue (list_all is_named (names_of node).1 || nat_le (length (rows_of node)) 1)
lone Boolean = refl
lone _ = refl

-- a row has one default
default_once : (presence : Presence) (node : NodeId) (c d : Content) → IsDefaultAt presence node c → IsDefaultAt presence node d → c ≡ d
default_once (Presence.Default n) node c d h k = h ∙ sym k
default_once Presence.Must node c d h k = absurd h
default_once Presence.May node c d h k = absurd h
default_once Presence.LeftOut node c d h k = absurd h

-- a row that may lack an entry has none
no_default : (presence : Presence) (node : NodeId) (c : Content) → MayLack presence → IsDefaultAt presence node c → ⊥
no_default (Presence.Default n) node c h k = h
no_default Presence.Must node c h k = h
no_default Presence.May node c h k = k
no_default Presence.LeftOut node c h k = k

-- a member says one thing, or both are the default
given_once : (o : Option Json) (row : Row) (c d : Content) (says : Json → Content → Type 0) → Given o (λ j. says j c) (IsDefaultOf row c) → Given o (λ j. says j d) (IsDefaultOf row d)
    → ((j : Json) → says j c → says j d → c ≡ d) → c ≡ d
given_once (Some j) row c d says h k once = once j h k
given_once None row c d says h k once = default_once row.presence row.node c d h k

-- where there is no member, such a row says nothing
not_given : (o : Option Json) (row : Row) (d : Content) (says : Json → Type 0) → o ≡ None → MayLack row.presence → Given o says (IsDefaultOf row d) → ⊥
not_given (Some j) row d says e may h = absurd cc
not_given None row d says e may h = no_default row.presence row.node d may h

-- an alternative is known by its name
under_one : (name : List ℕ) (j : Json) (says : Json → Content → Type 0) (c d : Content) → Under name j (λ x. says x c) → Under name j (λ x. says x d) → ((x : Json) → says x c → says x d → c ≡ d) → c ≡ d
under_one [] j says c d h k once = once j h k
under_one (letter ∷ name) j says c d h k once =
    let same = (one_member (letter ∷ name) (letter ∷ name) h.0 k.0 (sym h.1 ∙ k.1)).1 in
    once h.0 h.2 (subst (λ x. says x d) (sym same) k.2)

-- the name of the one member
name_same : (m n : List ℕ) (j : Json) (a b : Json → Type 0) → (m ≡ [] → ⊥) → (n ≡ [] → ⊥) → Under m j a → Under n j b → m ≡ n
name_same [] n j a b f g h k = absurd (f refl)
name_same (x ∷ m) [] j a b f g h k = absurd (g refl)
name_same (x ∷ m) (y ∷ n) j a b f g h k = (one_member (x ∷ m) (y ∷ n) h.0 k.0 (sym h.1 ∙ k.1)).0

-- a choice has one alternative of a name
alternatives_one : (node : NodeId) (n m : ℕ) (r s : Row) → slice_get (rows_of node) n ≡ Some r → slice_get (rows_of node) m ≡ Some s → (j : Json) (a b : Json → Type 0)
    → Under (row_name node n) j a → Under (row_name node m) j b → n ≡ m
alternatives_one node n m r s at bt j a b h k = by (list_all is_named (names_of node).1) refl (lone node)
  where
    by : (x : Bool) → list_all is_named (names_of node).1 ≡ x → IsTrue (list_all is_named (names_of node).1 || nat_le (length (rows_of node)) 1) → n ≡ m
    by true e l =
        let some = λ (i : ℕ) (row : Row) (it : slice_get (rows_of node) i ≡ Some row) (empty : row_name node i ≡ []).
        all_named (names_of node).1 i e (name_at (names_of node).1 (rows_of node) i row (names_enough node) it ∙ ap (λ (x : List ℕ). Some x) empty) in
        row_once node n m r s at bt (name_same (row_name node n) (row_name node m) j a b (some n r at) (some m s bt) h k)
    by false e l =
        let few : IsTrue (nat_le (length (rows_of node)) 1) = subst (λ x. IsTrue (x || nat_le (length (rows_of node)) 1)) e l in
        let le : length (rows_of node) ≤ 1 = grind (arith, nat_tests) in
        omega (arith, le, slice_get_within (rows_of node) n r at, slice_get_within (rows_of node) m s bt)

-- ---- values

mutual
  -- entries of one object are the same
  entries_one : (p : Profile) (node : NodeId) (i : ℕ) (rows : List Row) (j : Json) (es fs : Entries) → FitRows p es rows → FitRows p fs rows → EntriesSay node i rows j es → EntriesSay node i rows j fs → es ≡ fs
  entries_one p node i [] j no_entries no_entries h k s t = refl
  entries_one p node i [] j no_entries (absent fs) h k s t = absurd k
  entries_one p node i [] j no_entries (present d fs) h k s t = absurd k
  entries_one p node i [] j (absent es) fs h k s t = absurd h
  entries_one p node i [] j (present c es) fs h k s t = absurd h
  entries_one p node i (row ∷ rows) j no_entries fs h k s t = absurd h
  entries_one p node i (row ∷ rows) j (absent es) no_entries h k s t = absurd k
  entries_one p node i (row ∷ rows) j (present c es) no_entries h k s t = absurd k
  entries_one p node i (row ∷ rows) j (absent es) (absent fs) h k s t = ap absent (entries_one p node (suc i) rows j es fs h.1 k.1 s.1 t.1)
  entries_one p node i (row ∷ rows) j (absent es) (present d fs) h k s t = absurd (not_given (get (row_name node i) j) row d _ s.0 h.0 t.0)
  entries_one p node i (row ∷ rows) j (present c es) (absent fs) h k s t = absurd (not_given (get (row_name node i) j) row c _ t.0 k.0 s.0)
  entries_one p node i (row ∷ rows) j (present c es) (present d fs) h k s t =
      let first = given_once (get (row_name node i) j) row c d (λ x y. Says (row_name node i) row.node x y) s.0 t.0 (λ x a b. value_one p (row_name node i) row.node x c d h.1 k.1 a b) in
      ap (λ x. present x es) first ∙ ap (present d) (entries_one p node (suc i) rows j es fs h.2 k.2 s.1 t.1)

  items_one : (p : Profile) (row : List ℕ) (node : NodeId) (js : json.Items) (is ks : Items) → FitItems p is (rows_of node) → FitItems p ks (rows_of node)
      → ItemsSay row (row_node node 0) js is → ItemsSay row (row_node node 0) js ks → is ≡ ks
  items_one p row node json.no_items no_items no_items h k s t = refl
  items_one p row node json.no_items no_items (item d ks) h k s t = absurd t
  items_one p row node json.no_items (item c is) ks h k s t = absurd s
  items_one p row node (json.item j js) no_items ks h k s t = absurd s
  items_one p row node (json.item j js) (item c is) no_items h k s t = absurd t
  items_one p row node (json.item j js) (item c is) (item d ks) h k s t =
      ap (λ x. item x is) (value_one p row (row_node node 0) j c d (row_fits p node 0 c h.0 h.1 h.2) (row_fits p node 0 d k.0 k.1 k.2) s.0 t.0) ∙ ap (item d) (items_one p row node js is ks h.3 k.3 s.1 t.1)

  -- a value of JSON says at most one value of a type
  pub value_one : (p : Profile) (row : List ℕ) (node : NodeId) (j : Json) (c d : Content) → Fits p c node → Fits p d node → Says row node j c → Says row node j d → c ≡ d
  value_one p row node j (simple v) (simple w) h k s t = ap simple (leaf_once p row j (kind_of node) v w h.0 k.0 h.1 k.1 h.2 k.2 s t)
  value_one p row node j (sequence es) (sequence fs) h k s t = ap sequence (entries_one p node 0 (rows_of node) j es fs h.1 k.1 s.1 t.1)
  value_one p row node j (list is) (list ks) h k s t =
      let same = array_same s.0 t.0 (sym s.1 ∙ t.1) in
      ap list (items_one p row node s.0 is ks h.1 k.1 s.2 (subst (λ x. ItemsSay row (row_node node 0) x ks) (sym same) t.2))
  value_one p row node j (alternative n c) (alternative m d) h k s t =
      let same = alternatives_one node n m h.0 k.0 h.1.1 k.1.1 j _ _ s t in
      let t' = subst (λ x. Under (row_name node x) j (λ y. Says (row_name node x) (row_node node x) y d)) (sym same) t in
      let fits : Fits p d (row_node node n) = subst (λ x. Fits p d (row_node node x)) (sym same) (row_fits p node m d k.0 k.1.1 k.2) in
      ap (alternative n)
      (under_one (row_name node n) j (λ y x. Says (row_name node n) (row_node node n) y x) c d s t' (λ y a b. value_one p (row_name node n) (row_node node n) y c d (row_fits p node n c h.0 h.1.1 h.2) fits a b))
      ∙ ap (λ x. alternative x d) same
  value_one p row node j (foreign T) (foreign U) h k s t = ap foreign (tree_once T U s.0 t.0 h.1 k.1 (foreign_text _ _ (sym s.1 ∙ t.1)))
  value_one p row node j (simple v) (sequence fs) h k s t = absurd (omega (arith, small_sort v, other p (simple v) (sequence fs) node h k))
  value_one p row node j (simple v) (list js) h k s t = absurd (omega (arith, small_sort v, other p (simple v) (list js) node h k))
  value_one p row node j (simple v) (alternative m d) h k s t = absurd (omega (arith, small_sort v, other p (simple v) (alternative m d) node h k))
  value_one p row node j (simple v) (foreign U) h k s t = absurd (omega (arith, small_sort v, other p (simple v) (foreign U) node h k))
  value_one p row node j (sequence es) (simple w) h k s t = absurd (omega (arith, small_sort w, other p (sequence es) (simple w) node h k))
  value_one p row node j (list is) (simple w) h k s t = absurd (omega (arith, small_sort w, other p (list is) (simple w) node h k))
  value_one p row node j (alternative n c) (simple w) h k s t = absurd (omega (arith, small_sort w, other p (alternative n c) (simple w) node h k))
  value_one p row node j (foreign T) (simple w) h k s t = absurd (omega (arith, small_sort w, other p (foreign T) (simple w) node h k))
  value_one p row node j (sequence es) (list js) h k s t = absurd (omega (arith, other p (sequence es) (list js) node h k))
  value_one p row node j (sequence es) (alternative m d) h k s t = absurd (omega (arith, other p (sequence es) (alternative m d) node h k))
  value_one p row node j (sequence es) (foreign U) h k s t = absurd (omega (arith, other p (sequence es) (foreign U) node h k))
  value_one p row node j (list is) (sequence fs) h k s t = absurd (omega (arith, other p (list is) (sequence fs) node h k))
  value_one p row node j (list is) (alternative m d) h k s t = absurd (omega (arith, other p (list is) (alternative m d) node h k))
  value_one p row node j (list is) (foreign U) h k s t = absurd (omega (arith, other p (list is) (foreign U) node h k))
  value_one p row node j (alternative n c) (sequence fs) h k s t = absurd (omega (arith, other p (alternative n c) (sequence fs) node h k))
  value_one p row node j (alternative n c) (list js) h k s t = absurd (omega (arith, other p (alternative n c) (list js) node h k))
  value_one p row node j (alternative n c) (foreign U) h k s t = absurd (omega (arith, other p (alternative n c) (foreign U) node h k))
  value_one p row node j (foreign T) (sequence fs) h k s t = absurd (omega (arith, other p (foreign T) (sequence fs) node h k))
  value_one p row node j (foreign T) (list js) h k s t = absurd (omega (arith, other p (foreign T) (list js) node h k))
  value_one p row node j (foreign T) (alternative m d) h k s t = absurd (omega (arith, other p (foreign T) (alternative m d) node h k))

-- ---- lines

one_value : (x y : Json) → Some x ≡ Some y → x ≡ y
one_value x y e = cc

-- one name of an APDU is of one number
same_row : (p : Profile) (a b : Apdu) → FitsApdu p a → FitsApdu p b → row_name (root p) (a.number - 1) ≡ row_name (root p) (b.number - 1) → a.number ≡ b.number
same_row p a b h k e =
    let same = row_once (root p) (a.number - 1) (b.number - 1) h.1.0 k.1.0 h.1.1.1 k.1.1.1 e in
    let some = h.0 in
    let other_some = k.0 in
    omega (arith, same, some, other_some)

-- the value of a line says at most one APDU
pub line_once : (p : Profile) (j : Json) (a b : Apdu) → SaysLine p j a → SaysLine p j b → FitsApdu p a → FitsApdu p b → a ≡ b
line_once p j a b s t h k =
    let name : row_name (root p) (a.number - 1) ≡ row_name (root p) (b.number - 1) = same_string _ _ (sym s.apdu ∙ t.apdu) in
    let number : a.number ≡ b.number = same_row p a b h k name in
    let n = a.number - 1 in
    let there : Says [] (row_node (root p) (b.number - 1)) s.said.0 b.body = subst (λ x. Says [] (row_node (root p) (b.number - 1)) x b.body) (one_value t.said.0 s.said.0 (sym t.said.1 ∙ s.said.1)) t.said.2 in
    let body : a.body ≡ b.body =
    value_one p [] (row_node (root p) n) s.said.0 a.body b.body (row_fits p (root p) n a.body h.1.0 h.1.1.1 h.1.2)
    (subst (λ m. Fits p b.body (row_node (root p) (m - 1))) (sym number) (row_fits p (root p) (b.number - 1) b.body k.1.0 k.1.1.1 k.1.2)) s.said.2 (subst (λ m. Says [] (row_node (root p) (m - 1)) s.said.0 b.body) (sym number) there) in
    ap (λ m. record { number = m; body = a.body }) number ∙ ap (λ c. record { number = b.number; body = c }) body

-- a line says at most one APDU
pub apdu_said_once : (p : Profile) (text : List ℕ) (a b : Apdu) → SaysApdu p text a → SaysApdu p text b → FitsApdu p a → FitsApdu p b → a ≡ b
apdu_said_once p text a b s t h k =
    let j = s.1.0 in
    let same : t.1.0 ≡ j = one_value t.1.0 j (sym t.1.1 ∙ s.1.1) in
    line_once p j a b s.1.2 (subst (λ x. SaysLine p x b) same t.1.2) h k

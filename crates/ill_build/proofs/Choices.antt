-- The alternatives of choices, and leaves.
use Rattle.std.proofs.Common.{◌≡◌, ◌++◌, ◌∷◌, ℕ, Bool, true, false, IsTrue, List, [], Option, Some, None, refl, sym, ap, subst, ◌∙◌, lit≤, slice_get}
use Rattle.std.specs.Prelude.{nat_lt, unwrap_or}
use Rattle.ber_core.specs.Der.{encoding}
use Rattle.ber_leaf.specs.Leaf.{Leaf, boolean}
use Rattle.ber_leaf.specs.Profile.{Profile}
use Rattle.ber_leaf.specs.Simple.{Simple}
use Rattle.ber_tree.specs.Identifier.{HasIdentifier}
use Rattle.ber_tree.specs.Tree.{Tree, primitive}
use Rattle.ber_tree.specs.declared.class.Class.{Class}
use Rattle.json.specs.Json.{Json}
use Rattle.json.specs.Json as json
use Rattle.json.specs.Find.{as_array, as_object, as_str}
use Rattle.ill_schema.specs.Content.{Content, simple, alternative, foreign}
use Rattle.ill_schema.specs.Elements.{element_tag, element_tree, replacement, replacement_at, row_tree, tag_at, wrapper, wrapper_at}
use Rattle.ill_schema.specs.Presence.{IsCarried}
use Rattle.ill_schema.specs.TableFacts.{rank}
use Rattle.ill_schema.specs.Tagging.{leaf_of, leaf_tag}
use Rattle.ill_schema.proofs.Encodings.{all_valid, class_id, is_valid, leaf_id, universal_id}
use Rattle.ill_schema.proofs.Tags.{at_row, rows_name_below}
use Rattle.ill_schema.proofs.Trees.{chosen_tree, simple_tree}
use Rattle.ill_tables.specs.Names.{node_or_left_out, row_name, row_node}
use Rattle.ill_tables.specs.Table.{kind_of, rows_of}
use Rattle.ill_tables.specs.declared.node.Kind.{Kind}
use Rattle.ill_tables.specs.declared.node.NodeId.{NodeId}
use Rattle.ill_tables.specs.declared.node.NodeId.TheVariants.{External, TaggedExternal}
use Rattle.ill_tables.specs.declared.part.Mode.{Mode}
use Rattle.ill_tables.specs.declared.part.Presence.{Presence}
use Rattle.ill_tables.specs.declared.part.Row.{Row}
use Rattle.ill_build.specs.Faulty.{IsNotOne}
use Rattle.ill_build.specs.Members.{IsObjectOf, Known, first_fault}
use Rattle.ill_build.specs.Said.{Says, Under}
use Rattle.ill_build.specs.code.Built.{Built, BuiltRow, HasTag, ReadsForeign, ReadsLeaf}
use Rattle.ill_build.proofs.Names.{row_named}

pub row_below : (node : NodeId) (n : ℕ) (row : Row) → slice_get (rows_of node) n ≡ Some row → IsTrue (nat_lt (rank row.node) (rank node))
row_below node n row at = at_row (λ r. nat_lt (rank r.node) (rank node)) (rows_of node) n row (rows_name_below node) at

-- ---- tags

tag_identified : (row : Row) (tag : Class × ℕ) → row.tag ≡ Some tag → IsTrue (is_valid row) → (f : Bool) → HasIdentifier (tag_at tag) f
tag_identified row tag e h f =
    class_id tag.0 tag.1 f (subst (λ o. IsTrue (is_valid (record { tag = o; mode = row.mode; presence = row.presence; node = row.node }))) e h)

wrapper_tag : (m : Mode) (o : Option (Class × ℕ)) (tag : Class × ℕ) → wrapper_at m o ≡ Some tag → o ≡ Some tag
wrapper_tag Mode.Explicit o tag h = h
wrapper_tag Mode.ExplicitOrBare o tag h = h
wrapper_tag Mode.Implicit o tag h = absurd cc
wrapper_tag Mode.Untagged o tag h = absurd cc

replacement_tag : (m : Mode) (o : Option (Class × ℕ)) (tag : Class × ℕ) → replacement_at m o ≡ Some tag → o ≡ Some tag
replacement_tag Mode.Implicit o tag h = h
replacement_tag Mode.Explicit o tag h = absurd cc
replacement_tag Mode.ExplicitOrBare o tag h = absurd cc
replacement_tag Mode.Untagged o tag h = absurd cc

row_valid : (node : NodeId) (i : ℕ) (row : Row) → slice_get (rows_of node) i ≡ Some row → IsTrue (is_valid row)
row_valid node i row at = at_row is_valid (rows_of node) i row (all_valid node) at

-- the tags of the tables' rows have identifiers
pub wrapper_identified : (node : NodeId) (i : ℕ) (row : Row) (tag : Class × ℕ) → slice_get (rows_of node) i ≡ Some row → wrapper row ≡ Some tag → HasIdentifier (tag_at tag) true
wrapper_identified node i row tag at e = tag_identified row tag (wrapper_tag row.mode row.tag tag e) (row_valid node i row at) true

pub replacement_identified : (node : NodeId) (i : ℕ) (row : Row) → slice_get (rows_of node) i ≡ Some row → HasTag (replacement row)
replacement_identified node i row at = by (replacement row) refl
  where
    by : (o : Option (Class × ℕ)) → replacement row ≡ o → HasTag o
    by None e = tt
    by (Some tag) e = λ f. tag_identified row tag (replacement_tag row.mode row.tag tag e) (row_valid node i row at) f

-- a tag in place of SEQUENCE's
pub sequence_identified : (r : Option (Class × ℕ)) (tag : Class × ℕ) → HasTag r → tag ≡ unwrap_or r (Class.Universal, 16) → HasIdentifier (tag_at tag) true
sequence_identified (Some t) tag h e = subst (λ x. HasIdentifier (tag_at x) true) (sym e) (h true)
sequence_identified None tag h e = subst (λ x. HasIdentifier (tag_at x) true) (sym e) (universal_id 16 true (lit≤ tt) (λ q. cc))

-- a tag in place of a universal one
pub own_identified : (r : Option (Class × ℕ)) (n : ℕ) (tag : Class × ℕ) → HasTag r → ((f : Bool) → HasIdentifier (tag_at (Class.Universal, n)) f)
    → tag ≡ unwrap_or r (Class.Universal, n) → HasIdentifier (tag_at tag) false
own_identified (Some t) n tag h own e = subst (λ x. HasIdentifier (tag_at x) false) (sym e) (h false)
own_identified None n tag h own e = subst (λ x. HasIdentifier (tag_at x) false) (sym e) (own false)

bare_at : (m : Mode) (o : Option (Class × ℕ)) (presence : Presence) (node : NodeId) (c : Content) → wrapper_at m o ≡ None
    → row_tree (record { tag = o; mode = m; presence = presence; node = node }) c ≡ element_tree (replacement_at m o) node c
bare_at Mode.Implicit None presence node c e = refl
bare_at Mode.Implicit (Some t) presence node c e = refl
bare_at Mode.Untagged None presence node c e = refl
bare_at Mode.Untagged (Some t) presence node c e = refl
bare_at Mode.Explicit None presence node c e = refl
bare_at Mode.Explicit (Some t) presence node c e = absurd cc
bare_at Mode.ExplicitOrBare None presence node c e = refl
bare_at Mode.ExplicitOrBare (Some t) presence node c e = absurd cc

-- the element of a row without a wrapper
pub bare_tree : (row : Row) (c : Content) → wrapper row ≡ None → row_tree row c ≡ element_tree (replacement row) row.node c
bare_tree row c e = bare_at row.mode row.tag row.presence row.node c e

-- ---- choices

under_of : (name : List ℕ) (j : Json) (says : Json → Type 0) (inner : Json) → (name ≡ [] → ⊥) → j ≡ json.object (json.member name inner json.no_members) → says inner → Under name j says
under_of [] j says inner named e h = absurd (named refl)
under_of (x ∷ name) j says inner named e h = (inner, e, h)

-- an alternative that is built under its name
pub choice_built : (p : Profile) (name : List ℕ) (node : NodeId) (r : Option (Class × ℕ)) (n : ℕ) (row : Row) (j inner : Json) (old new : List ℕ) → (node ≡ TaggedExternal → ⊥) → kind_of node ≡ Kind.Choice
    → slice_get (rows_of node) n ≡ Some row → IsCarried row.presence → j ≡ json.object (json.member (row_name node n) inner json.no_members)
    → BuiltRow p (row_name node n) row inner old new → Built p name node r j old new
choice_built p name node r n row j inner old new other k at carried is m =
    let c = m.0 in
    let same : row_node node n ≡ row.node = ap node_or_left_out at in (
      alternative n c,
      under_of (row_name node n) j (λ x. Says (row_name node n) (row_node node n) x c) inner (row_named node n row other at) is (subst (λ x. Says (row_name node n) x inner c) (sym same) m.1),
      (row, (k, at, carried), m.2),
      m.3 ∙ ap (λ T. old ++ encoding T) (sym (chosen_tree r node n c row at)),
    )

abbrev carried_place : Option Row → Type 0
carried_place None = Unit {0}
carried_place (Some row) = IsCarried row.presence

own_built : (p : Profile) (name : List ℕ) (r : Option (Class × ℕ)) (row : Row) (j : Json) (old new : List ℕ) → slice_get (rows_of TaggedExternal) 0 ≡ Some row → BuiltRow p [] row j old new → Built p name TaggedExternal r j old new
own_built p name r row j old new at m =
    let same : row_node TaggedExternal 0 ≡ row.node = ap node_or_left_out at in (
      alternative 0 m.0,
      subst (λ x. Says [] x j m.0) (sym same) m.1,
      (row, (refl, at, subst carried_place at tt), m.2),
      m.3 ∙ ap (λ T. old ++ encoding T) (sym (chosen_tree r TaggedExternal 0 m.0 row at)),
    )

-- an EXTERNAL under its tag
pub tagged_built : (p : Profile) (name : List ℕ) (node : NodeId) (r : Option (Class × ℕ)) (row : Row) (j : Json) (old new : List ℕ) → node ≡ TaggedExternal
    → slice_get (rows_of node) 0 ≡ Some row → BuiltRow p [] row j old new → Built p name node r j old new
tagged_built p name node r row j old new e at m =
    subst (λ x. Built p name x r j old new) (sym e) (own_built p name r row j old new (subst (λ x. slice_get (rows_of x) 0 ≡ Some row) e at) m)

pub tagged_node : (node : NodeId) (row : Row) → node ≡ TaggedExternal → slice_get (rows_of node) 0 ≡ Some row → row.node ≡ External
tagged_node node row e at = ap node_or_left_out (sym at ∙ ap (λ x. slice_get (rows_of x) 0) e)

-- an object that has other than one member
pub not_one : (j : Json) (ms : json.Members) → as_object j ≡ Some ms → ((name : List ℕ) (inner : Json) → ms ≡ json.member name inner json.no_members → ⊥) → IsNotOne j
not_one j ms is none name inner e = none name inner (let q : Some ms ≡ Some (json.member name inner json.no_members) = sym is ∙ ap as_object e in cc)

pub object_is : (j : Json) (ms : json.Members) → as_object j ≡ Some ms → j ≡ json.object ms
object_is (json.object ns) ms e = let q : ns ≡ ms = cc in ap json.object q
object_is json.null ms e = absurd cc
object_is (json.boolean b) ms e = absurd cc
object_is (json.number t) ms e = absurd cc
object_is (json.string t) ms e = absurd cc
object_is (json.array js) ms e = absurd cc

pub array_is : (j : Json) (js : json.Items) → as_array j ≡ Some js → j ≡ json.array js
array_is (json.array ks) js e = let q : ks ≡ js = cc in ap json.array q
array_is json.null js e = absurd cc
array_is (json.boolean b) js e = absurd cc
array_is (json.number t) js e = absurd cc
array_is (json.string t) js e = absurd cc
array_is (json.object ms) js e = absurd cc

pub string_is : (j : Json) (text : List ℕ) → as_str j ≡ Some text → j ≡ json.string text
string_is (json.string s) text e = let q : s ≡ text = cc in ap json.string q
string_is json.null text e = absurd cc
string_is (json.boolean b) text e = absurd cc
string_is (json.number t) text e = absurd cc
string_is (json.array js) text e = absurd cc
string_is (json.object ms) text e = absurd cc

pub is_object_of : (known : Known) (j : Json) (ms : json.Members) → as_object j ≡ Some ms → first_fault known [] ms ≡ None → IsObjectOf known j
is_object_of known j ms is none = subst (IsObjectOf known) (sym (object_is j ms is)) none

-- ---- leaves

own_tag : (r : Option (Class × ℕ)) (k : Kind) (v : Simple) (leaf : Leaf) (number : ℕ) → leaf_of k v ≡ Some leaf → number ≡ (leaf_tag leaf).number → tag_at (unwrap_or r (Class.Universal, number)) ≡ element_tag r k (simple v)
own_tag (Some t) k v leaf number l e = refl
own_tag None k v leaf number l e =
    ap (λ n. tag_at (Class.Universal, n)) (e ∙ sym (ap (λ o. elim o as (λ _. ℕ) [ Some x ↦ (leaf_tag x).number | None ↦ 16 ]) l))

pub leaf_built : (p : Profile) (name : List ℕ) (node : NodeId) (r : Option (Class × ℕ)) (j : Json) (number : ℕ) (octets old new : List ℕ) (tag : Class × ℕ) → ReadsLeaf p (kind_of node) name j number octets
    → tag ≡ unwrap_or r (Class.Universal, number) → new ≡ old ++ encoding (primitive (tag_at tag) octets) → Built p name node r j old new
leaf_built p name node r j number octets old new tag m t e =
    let v = m.0 in (
      simple v,
      m.4,
      (m.1, m.2, m.3),
      e ∙ ap (λ x. old ++ encoding (primitive x octets)) (ap tag_at t ∙ own_tag r (kind_of node) v m.1 number m.2 m.6) ∙ ap (λ o. old ++ encoding (primitive (element_tag r (kind_of node) (simple v)) o)) m.5
          ∙ ap (λ T. old ++ encoding T) (sym (simple_tree r node v)),
    )

same_leaf_tag : (leaf : Leaf) → tag_at (Class.Universal, (leaf_tag leaf).number) ≡ leaf_tag leaf
same_leaf_tag boolean = refl
same_leaf_tag _ = refl

universal_leaf : (leaf : Leaf) (f : Bool) → HasIdentifier (tag_at (Class.Universal, (leaf_tag leaf).number)) f
universal_leaf leaf f = subst (λ t. HasIdentifier t f) (sym (same_leaf_tag leaf)) (leaf_id leaf f)

pub leaf_identified : (p : Profile) (k : Kind) (name : List ℕ) (r : Option (Class × ℕ)) (j : Json) (number : ℕ) (octets : List ℕ) (tag : Class × ℕ) → HasTag r → ReadsLeaf p k name j number octets
    → tag ≡ unwrap_or r (Class.Universal, number) → HasIdentifier (tag_at tag) false
leaf_identified p k name (Some t) j number octets tag h m e = subst (λ x. HasIdentifier (tag_at x) false) (sym e) (h false)
leaf_identified p k name None j number octets tag h m e =
    subst (λ x. HasIdentifier (tag_at x) false) (sym (e ∙ ap (λ n. (Class.Universal, n)) m.6)) (universal_leaf m.1 false)

foreign_tree : (r : Option (Class × ℕ)) (node : NodeId) (T : Tree) → element_tree r node (foreign T) ≡ T
foreign_tree None node T = refl
foreign_tree (Some t) node T = refl

pub foreign_built : (p : Profile) (name : List ℕ) (node : NodeId) (r : Option (Class × ℕ)) (j : Json) (octets old new : List ℕ) → kind_of node ≡ Kind.Any → ReadsForeign j octets → new ≡ old ++ octets → Built p name node r j old new
foreign_built p name node r j octets old new k m e =
    (foreign m.0, m.2, (k, m.1), e ∙ ap (λ o. old ++ o) m.3 ∙ ap (λ T. old ++ encoding T) (sym (foreign_tree r node m.0)))

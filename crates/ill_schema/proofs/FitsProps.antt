-- That a value fits its node is a proposition: it has one proof at most.
use Rattle.std.specs.Prelude.{◌≡◌, ℕ, Bool, IsTrue, List, [], ◌∷◌, Option, Some, slice_get}
use Rattle.std.specs.Coded.{Coded, Coded-set, codes, coded_option, ×_prop, Unit-prop, le_prop}
use mathlib.Core.HLevel.{is_prop→PathP, ×₃_prop}
use Rattle.ber_leaf.specs.{Simple.Simple, Profile.Profile}
use Rattle.ber_leaf.specs.Leaf.{Leaf, Holds, normal_content}
use Rattle.ill_tables.specs.declared.{node.NodeId.NodeId, node.Kind.Kind, part.Presence.Presence, part.Row.Row}
use Rattle.ill_schema.specs.Apdu.{Apdu, choice_of, root}
use Rattle.ill_schema.specs.Content.{Content, simple, sequence, list, alternative, foreign, Entries, no_entries, absent, present, Items, no_items, item}
use Rattle.ill_schema.specs.Fits.{FitsSimple, Fits, FitRows, FitItems, FitsApdu}
use Rattle.ill_schema.specs.{Meaning.IsAlternative, Tagging.leaf_of}
use Rattle.ber_core.specs.Foreign.{is_foreign, foreign_levels}
use Rattle.ill_schema.specs.Presence.{IsCarried, MayLack}
use Rattle.ill_tables.specs.Table.{kind_of, rows_of}

kind_set : IsSet Kind
kind_set = Coded-set (hlevel codes)

leaf_coded : Coded Leaf
leaf_coded = hlevel codes

bool_prop : (b : Bool) → IsProp (IsTrue b)
bool_prop b = hlevel codes

row_coded : Coded Row
row_coded = hlevel codes

simple_set : IsSet Simple
simple_set = Coded-set (hlevel codes)

Holds-prop : (p : Profile) (leaf : Leaf) (v : Simple) (octets : List ℕ) → IsProp (Holds p leaf v octets)
Holds-prop p leaf v octets = hlevel (codes, simple_set)

-- a part with facts of it, where the first fact names the part
named_prop : {A : Type 0} (B C : A → Type 0) → ((x : A) → IsProp (B x)) → ((x : A) → IsProp (C x)) → ((x y : A) → B x → B y → x ≡ y)
    → IsProp ((x : A) × B x × C x)
named_prop B C b c same p q =
    let e = same p.0 q.0 p.1 q.1 in
    λ i. (e i, is_prop→PathP (λ j. B (e j)) (λ j. b (e j)) p.1 q.1 i, is_prop→PathP (λ j. C (e j)) (λ j. c (e j)) p.2 q.2 i)

Some-one : {A : Type 0} (o : Option A) (x y : A) → o ≡ Some x → o ≡ Some y → x ≡ y
Some-one o x y d e = cc

IsCarried-prop : (presence : Presence) → IsProp (IsCarried presence)
IsCarried-prop Presence.LeftOut = λ p q. absurd p
IsCarried-prop _ = Unit-prop

MayLack-prop : (presence : Presence) → IsProp (MayLack presence)
MayLack-prop Presence.May = Unit-prop
MayLack-prop Presence.LeftOut = Unit-prop
MayLack-prop _ = λ p q. absurd p

row_prop : (o : Option Row) (row : Row) → IsProp (o ≡ Some row)
row_prop o row = Coded-set (coded_option row_coded) o (Some row)

IsAlternative-prop : (node : NodeId) (n : ℕ) (row : Row) → IsProp (IsAlternative node n row)
IsAlternative-prop node n row = ×₃_prop (kind_set (kind_of node) Kind.Choice) (row_prop (slice_get (rows_of node) n) row) (IsCarried-prop row.presence)

FitsSimple-prop : (p : Profile) (v : Simple) (node : NodeId) → IsProp (FitsSimple p v node)
FitsSimple-prop p v node =
    let o = leaf_of (kind_of node) v in
    named_prop (λ leaf. o ≡ Some leaf) (λ leaf. Holds p leaf v (normal_content v)) (λ leaf. Coded-set (coded_option leaf_coded) o (Some leaf)) (λ leaf. Holds-prop p leaf v (normal_content v)) (Some-one o)

mutual
  pub Fits-prop : (p : Profile) (c : Content) (node : NodeId) → IsProp (Fits p c node)
  Fits-prop p (simple v) node = FitsSimple-prop p v node
  Fits-prop p (sequence es) node = ×_prop (kind_set (kind_of node) Kind.Seq) (FitRows-prop p es (rows_of node))
  Fits-prop p (list is) node = ×_prop (kind_set (kind_of node) Kind.SeqOf) (FitItems-prop p is (rows_of node))
  Fits-prop p (alternative n c) node =
      named_prop (λ row. IsAlternative node n row) (λ row. Fits p c row.node) (λ row. IsAlternative-prop node n row) (λ row. Fits-prop p c row.node)
      (λ x y a b. Some-one (slice_get (rows_of node) n) x y a.1 b.1)
  Fits-prop p (foreign V) node = ×_prop (kind_set (kind_of node) Kind.Any) (bool_prop (is_foreign foreign_levels V))

  FitRows-prop : (p : Profile) (es : Entries) (rows : List Row) → IsProp (FitRows p es rows)
  FitRows-prop p no_entries [] = Unit-prop
  FitRows-prop p no_entries (row ∷ rows) = λ x y. absurd x
  FitRows-prop p (absent es) [] = λ x y. absurd x
  FitRows-prop p (absent es) (row ∷ rows) = ×_prop (MayLack-prop row.presence) (FitRows-prop p es rows)
  FitRows-prop p (present c es) [] = λ x y. absurd x
  FitRows-prop p (present c es) (row ∷ rows) = ×₃_prop (IsCarried-prop row.presence) (Fits-prop p c row.node) (FitRows-prop p es rows)

  FitItems-prop : (p : Profile) (is : Items) (rows : List Row) → IsProp (FitItems p is rows)
  FitItems-prop p no_items rows = Unit-prop
  FitItems-prop p (item c is) rows = λ x y.
      let e = Some-one (slice_get rows 0) x.0 y.0 x.1 y.1 in
      λ i. (
        e i,
        is_prop→PathP (λ j. slice_get rows 0 ≡ Some (e j)) (λ j. row_prop (slice_get rows 0) (e j)) x.1 y.1 i,
        is_prop→PathP (λ j. Fits p c (e j).node) (λ j. Fits-prop p c (e j).node) x.2 y.2 i,
        FitItems-prop p is rows x.3 y.3 i,
      )

pub FitsApdu-prop : (p : Profile) (a : Apdu) → IsProp (FitsApdu p a)
FitsApdu-prop p a = ×_prop le_prop (Fits-prop p (choice_of a) (root p))

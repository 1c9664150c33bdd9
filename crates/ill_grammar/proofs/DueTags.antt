-- What is due outside strings is no segment, and its tag no end mark's; rows with a default hold leaves that are no strings.
use Rattle.std.proofs.Common.{◌≡◌, ◌-◌, ℕ, zero, suc, Bool, true, false, List, [], ◌∷◌, Option, Some, None, IsTrue, true≢false, nat_eq, refl, sym, ap, subst, ◌∙◌, inl, inr, slice_get, not, ◌||◌, nat_lt}
use Rattle.std.specs.List.{list_all}
use Rattle.ber_tree.specs.Identifier.{Tag}
use Rattle.ber_tree.specs.declared.class.Class.{Class}
use Rattle.ber_tree.specs.declared.class.Class.TheVariants.{Universal}
use Rattle.ber_core.specs.Foreign.{foreign_levels}
use Rattle.ber_tree.specs.Tree.{octet_string}
use Rattle.ber_leaf.specs.Leaf.{bit_string, boolean, enumerated, integer}
use Rattle.ber_leaf.specs.Profile.{profile_two}
use Rattle.ber_leaf.specs.Segments.{segment_tag}
use Rattle.ill_schema.specs.Content.{Content}
use Rattle.ill_schema.specs.Presence.{is_default, is_default_of}
use Rattle.ill_tables.specs.Table.{kind_of, rows_of}
use Rattle.ill_schema.specs.Tagging.{Tagging, untagged, implicit, explicit, explicit_or_bare, tagging, same_tag}
use Rattle.ill_tables.specs.declared.node.Kind.{Kind}
use Rattle.ill_tables.specs.declared.node.LeafKind.{LeafKind}
use Rattle.ill_tables.specs.declared.node.NodeId.{NodeId}
use Rattle.ill_tables.specs.declared.node.NodeId.TheVariants.{Boolean}
use Rattle.ill_tables.specs.declared.part.Mode.{Mode}
use Rattle.ill_tables.specs.declared.part.PartId.{PartId}
use Rattle.ill_tables.specs.declared.part.Presence.{Presence}
use Rattle.ill_tables.specs.declared.part.Row.{Row}
use Rattle.ill_schema.proofs.Tags.{at_row}
use Rattle.ill_refusals.specs.Element.{Component, Element, foreign, leaf, segment, Start, own_starts, retag, leave_out, tagged_starts, component_starts}
use Rattle.ill_refusals.proofs.Rows.{same_tag-is}
use Rattle.ber_tree.proofs.Lists.{two_cases}
use Rattle.ill_grammar.specs.Elements.{component_of, component_at, element_is, element_with, found_is}
use Rattle.ill_grammar.specs.Cells.{Begins}
use Rattle.ill_grammar.specs.Due.{DueEntry, IsDueIn, IsDueInRows, IsRowDue}
use Rattle.ill_grammar.specs.Contents.{with_alternative}
use Rattle.ill_grammar.specs.Due.{due_with}
use Rattle.ill_grammar.specs.Written.{left_away}
use Rattle.ill_grammar.specs.declared.due.Next.{Next}
use Rattle.ill_grammar.specs.declared.due.Next.TheVariants.{Rows, Inner, Items, Either, Segments, BitSegments, Root, Foreigns, Nothing}
use Rattle.ill_grammar.specs.declared.due.Slot.{Slot}
use Rattle.ill_grammar.specs.declared.due.Slot.TheVariants.{Row as AtRow, Inner as Inside}
use Rattle.ill_grammar.specs.declared.element.Element.{Element as CodeElement}
use Rattle.ill_grammar.proofs.NormalLeaves.{alternative_kept}
use Rattle.ill_grammar.proofs.RowStarts.{row-start}

-- what holds of a start where this holds of its tag and its element
abbrev AllStarts : (Tag → Element → Type 0) → List Start → Type 0
AllStarts P [] = Unit {0}
AllStarts P (s ∷ ss) = P s.tag s.element × AllStarts P ss

found_start : (P : Tag → Element → Type 0) (t : Tag) (ss : List Start) (e : Element) → AllStarts P ss → element_with t ss ≡ Some e → P t e
found_start P t [] e h k = absurd cc
found_start P t (s ∷ ss) e h k = elim (two_cases (same_tag s.tag t)) [
  | inl y ↦
      let is : s.element ≡ e = (let q : element_with t (s ∷ ss) ≡ Some s.element = rw y refl in let r : Some s.element ≡ Some e = sym q ∙ k in cc) in
      let tag : s.tag ≡ t = same_tag-is s.tag t y in
      subst (P t) is (subst (λ x. P x s.element) tag h.0)
  | inr n ↦ found_start P t ss e h.1 (let q : element_with t (s ∷ ss) ≡ element_with t ss = rw n refl in sym q ∙ k)
]

retag_all : (P Q : Tag → Element → Type 0) (t : Tag) (ss : List Start) → ((u : Tag) (e : Element) → P u e → Q t e) → AllStarts P ss → AllStarts Q (retag t ss)
retag_all P Q t [] f h = tt
retag_all P Q t (s ∷ ss) f h = (f s.tag s.element h.0, retag_all P Q t ss f h.1)

abbrev IsSegment : Element → Type 0
IsSegment e = (u : Tag) × (e ≡ segment u)

abbrev pub IsForeign : Element → Type 0
IsForeign e = (k : ℕ) × (e ≡ foreign k)

-- no segment and no foreign element, and its tag is no end mark's
record IsStart (t : Tag) (e : Element) : Type 0 where
  no_segment : IsSegment e → ⊥
  not_foreign : IsForeign e → ⊥
  not_end : t.class ≡ Universal → t.number ≡ 0 → ⊥

own_apart : (k : Kind) (node : NodeId) → AllStarts IsStart (own_starts k node)
own_apart Kind.Choice node = tt
own_apart Kind.Any node = tt
own_apart Kind.IllString node = (
  record { no_segment = λ s. let q = s.1 in cc; not_foreign = λ s. let q = s.1 in cc; not_end = λ c n. cc },
  (record { no_segment = λ s. let q = s.1 in cc; not_foreign = λ s. let q = s.1 in cc; not_end = λ c n. cc }, tt),
)
own_apart (Kind.Leaf LeafKind.Boolean) node = (record { no_segment = λ s. let q = s.1 in cc; not_foreign = λ s. let q = s.1 in cc; not_end = λ c n. cc }, tt)
own_apart _ node = (record { no_segment = λ s. let q = s.1 in cc; not_foreign = λ s. let q = s.1 in cc; not_end = λ c n. cc }, tt)

left_apart : (part : PartId) (ss : List Start) → AllStarts IsStart ss → AllStarts IsStart (leave_out part ss)
left_apart part [] h = tt
left_apart part (s ∷ ss) h = (record { no_segment = λ e. let q = e.1 in cc; not_foreign = λ e. let q = e.1 in cc; not_end = h.0.not_end }, left_apart part ss h.1)

abbrev TaggingApart : Tagging → Type 0
TaggingApart untagged = Unit {0}
TaggingApart (implicit t) = t.class ≡ Universal → t.number ≡ 0 → ⊥
TaggingApart (explicit t) = t.class ≡ Universal → t.number ≡ 0 → ⊥
TaggingApart (explicit_or_bare t) = t.class ≡ Universal → t.number ≡ 0 → ⊥

tagged_apart : (g : Tagging) (c : Component) → TaggingApart g → AllStarts IsStart (tagged_starts g c)
tagged_apart untagged c h = own_apart (kind_of c.node) c.node
tagged_apart (implicit t) c h = retag_all IsStart IsStart t _ (λ u e k. record { no_segment = k.no_segment; not_foreign = k.not_foreign; not_end = h }) (own_apart (kind_of c.node) c.node)
tagged_apart _ c h = (record { no_segment = λ s. let q = s.1 in cc; not_foreign = λ s. let q = s.1 in cc; not_end = h }, tt)

component_apart : (c : Component) → TaggingApart c.tagging → AllStarts IsStart (component_starts c)
component_apart c h = go c.presence
  where
    go : (pr : Presence) → AllStarts IsStart (elim pr as (λ _. List Start) [ Presence.LeftOut ↦ leave_out c.part (tagged_starts c.tagging c) | _ ↦ tagged_starts c.tagging c ])
    go Presence.LeftOut = left_apart c.part _ (tagged_apart c.tagging c h)
    go _ = tagged_apart c.tagging c h

abbrev is_universal : Class → Bool
is_universal Class.Universal = true
is_universal _ = false

-- no row's tag is that of the end mark, and a row with a default has an implicit tag on what is no string
abbrev is_plain_kind : Kind → Bool
is_plain_kind (Kind.Leaf LeafKind.Boolean) = true
is_plain_kind (Kind.Leaf LeafKind.Integer) = true
is_plain_kind (Kind.Leaf LeafKind.Enumerated) = true
is_plain_kind _ = false

abbrev is_plain : Presence → Mode → Kind → Bool
is_plain (Presence.Default d) Mode.Implicit k = is_plain_kind k
is_plain (Presence.Default d) _ k = false
is_plain _ _ _ = true

abbrev is_apart : Row → Bool
is_apart row = elim row.tag as (λ _. Bool) [ None ↦ true | Some t ↦ not (is_universal t.0) || nat_lt 0 t.1 ]

abbrev has_plain_default : Row → Bool
has_plain_default row = elim row.tag as (λ _. Bool) [ None ↦ elim row.presence as (λ _. Bool) [ Presence.Default d ↦ false | _ ↦ true ] | Some t ↦ is_plain row.presence row.mode (kind_of row.node) ]

all_apart : (node : NodeId) → IsTrue (list_all is_apart (rows_of node))
all_apart Boolean = refl
all_apart _ = refl

all_plain : (node : NodeId) → IsTrue (list_all has_plain_default (rows_of node))
all_plain Boolean = refl
all_plain _ = refl

apart : (c : Class) (n : ℕ) → IsTrue (not (is_universal c) || nat_lt 0 n) → c ≡ Universal → n ≡ 0 → ⊥
apart c n h e z = let q : IsTrue (not (is_universal Universal) || nat_lt 0 0) = subst (λ (m : ℕ). IsTrue (not (is_universal Universal) || nat_lt 0 m)) z (subst (λ x. IsTrue (not (is_universal x) || nat_lt 0 n)) e h) in cc

row_apart : (tag : Option (Class × ℕ)) (m : Mode) (pr : Presence) (node : NodeId) → IsTrue (is_apart (record { tag = tag; mode = m; presence = pr; node = node }))
    → TaggingApart (tagging profile_two (record { tag = tag; mode = m; presence = pr; node = node }))
row_apart None m pr node h = tt
row_apart (Some t) Mode.Untagged pr node h = tt
row_apart (Some t) _ pr node h = λ c n. apart t.0 t.1 h c n

at_apart : (node : NodeId) (n : ℕ) (row : Row) → slice_get (rows_of node) n ≡ Some row → TaggingApart (tagging profile_two row)
at_apart node n row e = row_apart row.tag row.mode row.presence row.node (at_row is_apart (rows_of node) n row (all_apart node) e)

begins_apart : (t : Tag) (c : Component) (alt : Option ℕ) (e : Element) → TaggingApart c.tagging → Begins t c alt e → IsStart t e
begins_apart t c None e h b = found_start IsStart t (component_starts c) e (component_apart c h) b
begins_apart t c (Some n) e h b =
    let s = row-start t c.node n e b.2 in
    found_start IsStart t _ e (component_apart (component_at (record { node = c.node; row = n }) s.0) (at_apart c.node n s.0 s.1)) s.2

rows_start : (t : Tag) (node : NodeId) (n : ℕ) (d : DueEntry) → IsDueInRows t node n d → IsStart t (found_is d.found)
rows_start t node n d h = go d.slot h
  where
    go : (x : Slot) → (elim x as (λ _. Type 0) [ AtRow r ↦ IsRowDue t node n r d.alternative d.found | _ ↦ ⊥ ]) → IsStart t (found_is d.found)
    go (AtRow r) k = begins_apart t _ d.alternative (found_is d.found) (at_apart node r k.row k.is_row) k.begins
    go _ k = absurd k

-- an element of a foreign tree may come next
abbrev pub AwaitsForeign : Next → Type 0
AwaitsForeign (Root w) = kind_of w.node ≡ Kind.Any
AwaitsForeign (Foreigns n) = Unit {0}
AwaitsForeign _ = ⊥

-- what is due in a string, in an open type, or elsewhere
data Place (t : Tag) (n : Next) (e : Element) : Type 0 where
  in_string : n ≡ Segments → Place t n e
  in_bits : n ≡ BitSegments → Place t n e
  in_open : (k : ℕ) → e ≡ foreign k → AwaitsForeign n → Place t n e
  elsewhere : IsStart t e → Place t n e

due_start : (t : Tag) (n : Next) (d : DueEntry) → IsDueIn t n d → Place t n (found_is d.found)
due_start t (Rows node n) d h = elsewhere (rows_start t node n d h)
due_start t (Inner w) d h = elsewhere (begins_apart t (component_of w) d.alternative (found_is d.found) tt h.begun.begins)
due_start t (Items node) d h = elsewhere (begins_apart t _ d.alternative (found_is d.found) (at_apart node 0 h.row h.is_row) h.begun.begins)
due_start t (Either w) d (inl h) = elsewhere (begins_apart t (component_of w) d.alternative (found_is d.found) tt h.1.begun.begins)
due_start t (Either w) d (inr h) = elsewhere (rows_start t w.node 0 d h.1)
due_start t Segments d h = in_string refl
due_start t BitSegments d h = in_bits refl
due_start t (Root w) d h = in_open (foreign_levels - 1) h.1.found h.0
due_start t (Foreigns zero) d h = absurd h
due_start t (Foreigns (suc n)) d h = in_open n h.found tt
due_start t Nothing d h = absurd h

-- and what is due in a string is a segment
pub due_segment : (t : Tag) (n : Next) (d : DueEntry) → IsDueIn t n d → n ≡ Segments → found_is d.found ≡ segment octet_string
due_segment t n d h e = (let k : IsDueIn t Segments d = subst (λ x. IsDueIn t x d) e h in k.found)

pub due_bit_segment : (t : Tag) (n : Next) (d : DueEntry) → IsDueIn t n d → n ≡ BitSegments → found_is d.found ≡ segment (segment_tag bit_string)
due_bit_segment t n d h e = (let k : IsDueIn t BitSegments d = subst (λ x. IsDueIn t x d) e h in k.found)

-- the segments of bits are no OCTET STRINGs
pub bits_apart : segment octet_string ≡ segment (segment_tag bit_string) → ⊥
bits_apart e = let q : octet_string ≡ segment_tag bit_string = cc in true≢false (ap (λ (t : Tag). nat_eq t.number 4) q)

-- a segment is due in strings alone
pub segment_due : (t : Tag) (n : Next) (d : DueEntry) → IsDueIn t n d → found_is d.found ≡ segment octet_string → n ≡ Segments
segment_due t n d h s = elim (due_start t n d h) [
  | in_string e ↦ e
  | in_bits e ↦ absurd (bits_apart (sym s ∙ due_bit_segment t n d h e))
  | in_open k e _ ↦ absurd (let q : segment octet_string ≡ foreign k = sym s ∙ e in cc)
  | elsewhere k ↦ absurd (k.no_segment (octet_string, s))
]

pub bit_segment_due : (t : Tag) (n : Next) (d : DueEntry) → IsDueIn t n d → found_is d.found ≡ segment (segment_tag bit_string) → n ≡ BitSegments
bit_segment_due t n d h s = elim (due_start t n d h) [
  | in_string e ↦ absurd (bits_apart (sym (due_segment t n d h e) ∙ s))
  | in_bits e ↦ e
  | in_open k e _ ↦ absurd (let q : segment (segment_tag bit_string) ≡ foreign k = sym s ∙ e in cc)
  | elsewhere k ↦ absurd (k.no_segment (segment_tag bit_string, s))
]

-- a foreign element is due where one is awaited, and nothing else is due there
pub foreign_due : (t : Tag) (n : Next) (d : DueEntry) (m : ℕ) → IsDueIn t n d → found_is d.found ≡ foreign m → AwaitsForeign n
foreign_due t n d m h f = elim (due_start t n d h) [
  | in_string e ↦ absurd (let q : segment octet_string ≡ foreign m = sym (due_segment t n d h e) ∙ f in cc)
  | in_bits e ↦ absurd (let q : segment (segment_tag bit_string) ≡ foreign m = sym (due_bit_segment t n d h e) ∙ f in cc)
  | in_open k e o ↦ o
  | elsewhere k ↦ absurd (k.not_foreign (m, f))
]

pub awaited : (t : Tag) (n : Next) (d : DueEntry) → IsDueIn t n d → AwaitsForeign n → IsForeign (found_is d.found) × (d.alternative ≡ None)
awaited t (Root w) d h o = ((foreign_levels - 1, h.1.found), h.1.alternative)
awaited t (Foreigns zero) d h o = absurd h
awaited t (Foreigns (suc n)) d h o = ((n, h.found), h.alternative)
awaited t _ d h o = absurd o

-- of what is due, but of a segment, only an element of a foreign tree may have the tag of an end mark
pub due_apart : (t : Tag) (n : Next) (d : DueEntry) → IsDueIn t n d → ((u : Tag) → found_is d.found ≡ segment u → ⊥) → t.class ≡ Universal → t.number ≡ 0 → (k : ℕ) × (found_is d.found ≡ foreign k)
due_apart t n d h s c z = elim (due_start t n d h) [
  | in_string e ↦ absurd (s octet_string (due_segment t n d h e))
  | in_bits e ↦ absurd (s (segment_tag bit_string) (due_bit_segment t n d h e))
  | in_open k e _ ↦ (k, e)
  | elsewhere k ↦ absurd (k.not_end c z)
]

-- an element whose value isn't a boolean or a number
abbrev pub IsNoNumber : Element → Type 0
IsNoNumber (leaf boolean) = ⊥
IsNoNumber (leaf integer) = ⊥
IsNoNumber (leaf enumerated) = ⊥
IsNoNumber _ = Unit {0}

-- is the leaf of the kind, which is one of those that have defaults
abbrev pub PlainLeaf : Kind → Element → Type 0
PlainLeaf (Kind.Leaf LeafKind.Boolean) e = e ≡ leaf boolean
PlainLeaf (Kind.Leaf LeafKind.Integer) e = e ≡ leaf integer
PlainLeaf (Kind.Leaf LeafKind.Enumerated) e = e ≡ leaf enumerated
PlainLeaf _ e = ⊥

plain_own : (k : Kind) (node : NodeId) → IsTrue (is_plain_kind k) → AllStarts (λ t e. PlainLeaf k e) (own_starts k node)
plain_own (Kind.Leaf LeafKind.Boolean) node h = (refl, tt)
plain_own (Kind.Leaf LeafKind.Integer) node h = (refl, tt)
plain_own (Kind.Leaf LeafKind.Enumerated) node h = (refl, tt)
plain_own _ node h = absurd cc

-- it is a boolean or a number
plain_stays : (k : Kind) (e : Element) → PlainLeaf k e → IsNoNumber e → ⊥
plain_stays (Kind.Leaf LeafKind.Boolean) e h m = subst IsNoNumber h m
plain_stays (Kind.Leaf LeafKind.Integer) e h m = subst IsNoNumber h m
plain_stays (Kind.Leaf LeafKind.Enumerated) e h m = subst IsNoNumber h m
plain_stays _ e h m = absurd h

plain_row : (tag : Option (Class × ℕ)) (m : Mode) (d : _) (node : NodeId) (part : PartId) → IsTrue (has_plain_default (record { tag = tag; mode = m; presence = Presence.Default d; node = node }))
    → AllStarts (λ t e. PlainLeaf (kind_of node) e) (component_starts (component_at part (record { tag = tag; mode = m; presence = Presence.Default d; node = node })))
plain_row None m d node part h = absurd cc
plain_row (Some t) Mode.Implicit d node part h = retag_all _ (λ u e. PlainLeaf (kind_of node) e) _ _ (λ u e k. k) (plain_own (kind_of node) node h)
plain_row (Some t) _ d node part h = absurd cc

-- what begins a row with a default is the leaf of its kind
pub default_leaf : (node : NodeId) (r : ℕ) (row : Row) (t : Tag) (d : _) (e : Element) → slice_get (rows_of node) r ≡ Some row → row.presence ≡ Presence.Default d
    → element_with t (component_starts (component_at (record { node = node; row = r }) row)) ≡ Some e → PlainLeaf (kind_of row.node) e
default_leaf node r row t d e is q b =
    let same : row ≡ record { tag = row.tag; mode = row.mode; presence = Presence.Default d; node = row.node } =
    ap (λ x. let y : Row = record { tag = row.tag; mode = row.mode; presence = x; node = row.node } in y) q in
    let plain = subst (λ x. IsTrue (has_plain_default x)) same (at_row has_plain_default (rows_of node) r row (all_plain node) is) in
    let starts = plain_row row.tag row.mode d row.node (record { node = node; row = r }) plain in
    let here = subst (λ x. element_with t (component_starts (component_at (record { node = node; row = r }) x)) ≡ Some e) same b in
    found_start (λ u x. PlainLeaf (kind_of row.node) x) t _ e starts here

-- what is no number is no default
row_kept : (node : NodeId) (r : ℕ) (row : Row) (t : Tag) (alt : Option ℕ) (e : Element) (c : Content) → slice_get (rows_of node) r ≡ Some row → Begins t (component_at (record { node = node; row = r }) row) alt e → IsNoNumber e
    → (elim (slice_get (rows_of node) r) as (λ _. Bool) [ Some x ↦ is_default x (with_alternative alt c) | None ↦ false ]) ≡ false
row_kept node r row t alt e c is b m = ap (λ o. elim o as (λ _. Bool) [ Some x ↦ is_default x (with_alternative alt c) | None ↦ false ]) is ∙ at alt b
  where
    go : (pr : Presence) → row.presence ≡ pr → Begins t (component_at (record { node = node; row = r }) row) None e → is_default row c ≡ false
    go (Presence.Default d) q k = absurd (plain_stays (kind_of row.node) e (default_leaf node r row t d e is q k) m)
    go _ q k = ap (λ x. is_default_of x (kind_of row.node) c) q

    at : (o : Option ℕ) → Begins t (component_at (record { node = node; row = r }) row) o e → is_default row (with_alternative o c) ≡ false
    at (Some n) k = alternative_kept row.presence (kind_of row.node) n c
    at None k = go row.presence refl k

-- and has octets
pub kept : (t : Tag) (n : Next) (slot : Slot) (alt : Option ℕ) (el : CodeElement) (c : Content) → IsDueIn t n (due_with slot alt el) → IsNoNumber (element_is el) → left_away n slot (with_alternative alt c) ≡ false
kept t (Rows node k) (AtRow r) alt el c d m = row_kept node r d.row t alt (element_is el) c d.is_row d.begins m
kept t (Rows node k) _ alt el c d m = absurd d
kept t (Either w) (AtRow r) alt el c (inr d) m = row_kept w.node r d.1.row t alt (element_is el) c d.1.is_row d.1.begins m
kept t (Either w) (AtRow r) alt el c (inl d) m = absurd (let q : AtRow r ≡ Inside = d.1.slot in cc)
kept t (Either w) _ alt el c d m = refl
kept t _ slot alt el c d m = refl

-- The entries of the comb say what is due.
use Rattle.std.proofs.Common.{◌≡◌, ◌<◌, IsTrue, subst, arith, ℕ, zero, suc, ◌+◌, ◌-◌, ◌/◌, ◌%◌, ℤ, Bool, true, false, ◌&&◌, not, nat_lt, nat_eq, List, [], ◌∷◌, drop, Option, Some, None, refl, slice_get}
use Rattle.std.specs.Prelude.{if◌then◌else◌}
use Rattle.std.specs.List.{list_all}
use Rattle.std.proofs.lemmas.Bool.{and_parts}
use Rattle.std.proofs.lemmas.Bool.Decides.{nat_tests}
use Rattle.ill_schema.proofs.Tags.{at_row}
use Rattle.ber_tree.specs.Identifier.{Tag, identifier}
use Rattle.ber_core.specs.Foreign.{is_identified}
use Rattle.ber_tree.specs.declared.class.Class.{Class}
use Rattle.ber_leaf.specs.Profile.{profile_two}
use Rattle.ill_schema.specs.Tagging.{untagged, same_tag, sequence_tag}
use Rattle.ill_tables.specs.declared.node.Kind.{Kind}
use Rattle.ill_tables.specs.declared.node.NodeId.{NodeId}
use Rattle.ill_tables.specs.Table.{kind_of}
use Rattle.ber_leaf.specs.Leaf as leaf
use Rattle.ill_refusals.specs.Element.{Component, Element, component_starts, components}
use Rattle.ill_refusals.specs.Element as element
use Rattle.ill_refusals.specs.Next as next
use Rattle.ill_refusals.specs.Next.{Due, due, items, part, rows}
use Rattle.ill_grammar.specs.Cells.{presence_default}
use Rattle.ill_grammar.specs.Due.{behind, first_of, next_is}
use Rattle.ill_grammar.specs.Elements.{component_of, element_is, element_with}
use Rattle.ill_grammar.specs.Written.{row_slot}
use Rattle.ill_grammar.specs.code.Judging.{is_usual}
use Rattle.ill_grammar.specs.code.Spots.{default_number, is_constructed, key_octets}
use Rattle.ill_grammar.specs.code.SpotTable.{next_at_offset, offset_end, spots}
use Rattle.ill_grammar.specs.declared.due.Next.{Next}
use Rattle.ill_grammar.specs.declared.due.Next.TheVariants.{Rows, Inner, Items, Either, Nothing}
use Rattle.ill_grammar.specs.declared.due.Slot.{Slot}
use Rattle.ill_grammar.specs.declared.due.Slot.TheVariants.{Row as AtRow, Item, Inner as Inside}
use Rattle.ill_grammar.specs.declared.element.Element.{Element as CodeElement}
use Rattle.ill_grammar.specs.declared.element.Element.TheVariants as code
use Rattle.ill_grammar.specs.declared.leaf_type.LeafType.{LeafType}
use Rattle.ill_grammar.specs.declared.leaf_type.LeafType.TheVariants as leaf_type
use Rattle.ill_grammar.specs.declared.spot.SpotEntry.{SpotEntry}
use Rattle.ill_grammar.specs.declared.spot.UsualKind.{UsualKind}
use Rattle.ill_grammar.specs.declared.spot_entries.TheConstants.{ENTRIES}

-- the form and the tag that a key stands for
abbrev pub key_form : ℕ → Bool
key_form key = nat_eq (key / 32 % 2) 1

abbrev pub class_at : ℕ → Class
class_at n = if nat_eq n 0 then Class.Universal else (if nat_eq n 1 then Class.Application else (if nat_eq n 2 then Class.Context else Class.Private))

abbrev pub key_tag : ℕ → Tag
key_tag key = if nat_lt key 256 then record { class = class_at (key / 64); number = key % 32 } else record { class = Class.Context; number = 31 + key % 32 }

-- the slot between what may come next and what may come after it
abbrev pub slot_to : Next → Next → Slot
slot_to (Rows node k) (Rows _ (suc r)) = AtRow r
slot_to (Items node) after = Item
slot_to n after = Inside

-- a leaf as the code names it
abbrev pub leaf_code : leaf.Leaf → CodeElement
leaf_code leaf.boolean = code.Leaf leaf_type.Boolean
leaf_code leaf.integer = code.Leaf leaf_type.Integer
leaf_code leaf.enumerated = code.Leaf leaf_type.Enumerated
leaf_code leaf.printable_string = code.Leaf leaf_type.Printable
leaf_code leaf.iso_date = code.Leaf leaf_type.Date
leaf_code leaf.iso_time = code.Leaf leaf_type.Time
leaf_code l = code.BitString

-- an element as the code names it
abbrev pub code_of : Element → CodeElement
code_of (element.leaf l) = leaf_code l
code_of (element.sequence node) = code.Sequence node
code_of (element.list node) = code.List node
code_of (element.wrapper c) = code.Wrapper (record { part = c.part; node = c.node })
code_of (element.loose_wrapper c) = code.LooseWrapper (record { part = c.part; node = c.node })
code_of e = code.BitString

abbrev pub due_code : Option Due → CodeElement
due_code (Some (part c e n)) = code_of e
due_code d = code.BitString

-- the first component that begins with the tag
abbrev pub number_with : Tag → List Component → ℕ
number_with t [] = 0
number_with t (c ∷ cs) = elim (element_with t (component_starts c)) as (λ _. ℕ) [ Some e ↦ 0 | None ↦ suc (number_with t cs) ]

-- the alternative by which a component begins
abbrev pub alternative_by : Tag → Component → Option ℕ
alternative_by t c = elim (element_with t (component_starts c)) as (λ _. Option ℕ) [ Some e ↦ None | None ↦ Some (number_with t (components profile_two c.node)) ]

abbrev pub due_alternative : Tag → Option Due → Option ℕ
due_alternative t (Some (part c e n)) = alternative_by t c
due_alternative t d = None

-- a choice without a tag
abbrev pub is_open : Component → Bool
is_open c = elim c.tagging as (λ _. Bool) [ untagged ↦ elim (kind_of c.node) as (λ _. Bool) [ Kind.Choice ↦ true | _ ↦ false ] | _ ↦ false ]

abbrev pub component_begins : Tag → Option Component → Option Element
component_begins t (Some c) = element_with t (component_starts c)
component_begins t None = None

-- what begins a component, itself or by its alternative
abbrev pub begins_by : Tag → Component → Option ℕ → Option Element
begins_by t c None = element_with t (component_starts c)
begins_by t c (Some n) = if is_open c then component_begins t (slice_get (components profile_two c.node) n) else None

abbrev pub due_begins : Tag → Option Due → Option ℕ → Option Element
due_begins t (Some (part c e n)) alternative = begins_by t c alternative
due_begins t d alternative = None

abbrev pub first_due : List Component → Element → (Component → List Component → next.Next) → Option Due
first_due [] e after = None
first_due (c ∷ cs) e after = Some (part c e (after c cs))

-- what is said to be due
abbrev pub said_due : Next → Slot → Element → Option Due
said_due (Rows node k) (AtRow r) e = first_due (drop r (components profile_two node)) e (λ c cs. rows cs)
said_due (Items node) Item e = first_due (components profile_two node) e (λ c cs. items c)
said_due (Inner w) Inside e = Some (part (component_of w) e (rows []))
said_due (Either w) Inside e = Some (part (component_of w) e (rows []))
said_due n slot e = None

-- what has the tag may be in this slot
abbrev pub fits : Tag → Next → Slot → Bool
fits t (Rows node k) (AtRow r) = not (nat_lt r k)
fits t (Either w) Inside = same_tag t sequence_tag
fits t (Either w) slot = false
fits t n slot = true

abbrev pub kind_of_leaf : LeafType → Option UsualKind
kind_of_leaf leaf_type.Boolean = Some UsualKind.Boolean
kind_of_leaf leaf_type.Integer = Some UsualKind.Integer
kind_of_leaf leaf_type.Enumerated = Some UsualKind.Enumerated
kind_of_leaf leaf_type.Printable = Some UsualKind.Printable
kind_of_leaf leaf_type.Date = Some UsualKind.Date
kind_of_leaf leaf_type.Time = Some UsualKind.Time
kind_of_leaf l = None

abbrev pub usual_kind : CodeElement → Option UsualKind
usual_kind (code.Leaf l) = kind_of_leaf l
usual_kind (code.Wrapper w) = elim w.node as (λ _. Option UsualKind) [ NodeId.IllString ↦ Some UsualKind.StringWrapper | _ ↦ Some UsualKind.Constructed ]
usual_kind e = Some UsualKind.Constructed

-- what comes first in what opens
abbrev pub opened : UsualKind → Next → Next
opened UsualKind.Constructed n = n
opened k n = Nothing

-- the default of the row of a slot
abbrev pub slot_default : Next → Slot → Option ℕ → Option ℤ
slot_default n slot (Some m) = None
slot_default n slot None = elim (row_slot n slot) as (λ _. Option ℤ) [ Some row ↦ presence_default row.presence | None ↦ None ]

-- what is due by an entry
pub record Seen : Type 0 where
  pub is_due : Option Due
  pub begins : Option Element
  pub after : Next
  pub is_right : Bool
  pub octets : List ℕ
  pub form : Bool
  pub kind : Option UsualKind
  pub first : Next
  pub default : Option ℤ

abbrev pub nobody : Seen
nobody = record { is_due = None; begins = None; after = Nothing; is_right = true; octets = []; form = false; kind = None; first = Nothing; default = None }

-- by the definitions
abbrev pub seen_as : Next → ℕ → SpotEntry → Option Due → Seen
seen_as n key x d =
    let after = next_at_offset x.after in
    let slot = slot_to n after in
    let e = due_code d in
    let a = due_alternative (key_tag key) d in
    record {
      is_due = d;
      begins = due_begins (key_tag key) d a;
      after = after;
      is_right = fits (key_tag key) n slot && (is_usual e (key_form key) && is_identified (key_tag key) (key_form key));
      octets = identifier (key_tag key) (key_form key);
      form = key_form key;
      kind = usual_kind e;
      first = opened x.kind (next_at_offset x.first);
      default = slot_default n slot a;
    }

abbrev pub said_as : Next → ℕ → SpotEntry → Option Due → Seen
said_as n key x d =
    let slot = slot_to n (next_at_offset x.after) in
    let e = due_code d in
    record {
      is_due = said_due n slot (element_is e);
      begins = Some (element_is e);
      after = behind n slot;
      is_right = true;
      octets = key_octets key;
      form = is_constructed x.kind;
      kind = Some x.kind;
      first = opened x.kind (first_of e);
      default = default_number x.default;
    }

abbrev pub due_by : Next → ℕ → Option Due
due_by n key = due profile_two (key_tag key) (next_is n)

abbrev pub seen : ℕ → SpotEntry → Seen
seen i x = if nat_lt x.spot offset_end then seen_as (next_at_offset x.spot) (i - x.spot) x (due_by (next_at_offset x.spot) (i - x.spot)) else nobody

abbrev pub said : ℕ → SpotEntry → Seen
said i x = if nat_lt x.spot offset_end then said_as (next_at_offset x.spot) (i - x.spot) x (due_by (next_at_offset x.spot) (i - x.spot)) else nobody

abbrev pub each : (ℕ → SpotEntry → Seen) → ℕ → List SpotEntry → List Seen
each f i [] = []
each f i (x ∷ xs) = f i x ∷ each f (suc i) xs

-- each entry says what is due
entries_said : each seen 0 ENTRIES ≡ each said 0 ENTRIES
unfolding next_at_offset spots
entries_said = refl

at_entry : (f g : ℕ → SpotEntry → Seen) (i k : ℕ) (xs : List SpotEntry) (x : SpotEntry) → each f i xs ≡ each g i xs → slice_get xs k ≡ Some x → f (i + k) x ≡ g (i + k) x
at_entry f g i k [] x h e = absurd cc
at_entry f g i zero (y ∷ xs) x h e =
    let q : y ≡ x = cc in
    let z : i ≡ i + zero = omega arith in
    let s : f i y ≡ g i y = cc in
    subst (λ j. f j x ≡ g j x) z (subst (λ y. f i y ≡ g i y) q s)
at_entry f g i (suc k) (y ∷ xs) x h e =
    let z : suc i + k ≡ i + suc k = omega arith in
    let s : each f (suc i) xs ≡ each g (suc i) xs = cc in
    subst (λ j. f j x ≡ g j x) z (at_entry f g (suc i) k xs x s e)

-- the entry at an offset and a key says what is due there
pub entry_said : (offset key : ℕ) (x : SpotEntry) → offset < offset_end → slice_get ENTRIES (offset + key) ≡ Some x → x.spot ≡ offset
    → seen_as (next_at_offset offset) key x (due_by (next_at_offset offset) key) ≡ said_as (next_at_offset offset) key x (due_by (next_at_offset offset) key)
entry_said offset key x low e spot =
    let z : 0 + (offset + key) ≡ offset + key = omega arith in
    let s : seen (offset + key) x ≡ said (offset + key) x = subst (λ (i : ℕ). seen i x ≡ said i x) z (at_entry seen said 0 (offset + key) ENTRIES x entries_said e) in
    let used : nat_lt x.spot offset_end ≡ true = grind (arith, nat_tests) in
    let k : offset + key - x.spot ≡ key = omega (arith, spot) in
    let both : seen_as (next_at_offset x.spot) (offset + key - x.spot) x (due_by (next_at_offset x.spot) (offset + key - x.spot)) ≡ said_as (next_at_offset x.spot) (offset + key - x.spot) x (due_by (next_at_offset x.spot) (offset + key - x.spot)) =
    rw used at s in
    subst (λ o. seen_as (next_at_offset o) key x (due_by (next_at_offset o) key) ≡ said_as (next_at_offset o) key x (due_by (next_at_offset o) key)) spot
    (subst (λ k. seen_as (next_at_offset x.spot) k x (due_by (next_at_offset x.spot) k) ≡ said_as (next_at_offset x.spot) k x (due_by (next_at_offset x.spot) k)) k both)

abbrev is_low : SpotEntry → Bool
is_low x = nat_lt x.after offset_end && nat_lt x.first offset_end

-- and leads to spots
entries_low : IsTrue (list_all is_low ENTRIES)
entries_low = refl

pub entry_low : (at : ℕ) (x : SpotEntry) → slice_get ENTRIES at ≡ Some x → (x.after < offset_end) × (x.first < offset_end)
entry_low at x e =
    let both = and_parts (nat_lt x.after offset_end) (nat_lt x.first offset_end) (at_row is_low ENTRIES at x entries_low e) in
    (grind (arith, nat_tests, both.0), grind (arith, nat_tests, both.1))

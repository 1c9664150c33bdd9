-- A typed part and the content that it is written as.
use Rattle.std.specs.Prelude.{◌≡◌, ◌⊎◌, ℕ, suc, ℤ, Bool, List, [], ◌∷◌, map, take, drop, Option, Some, None, option_map, slice_get, Result, IfOk}
use Rattle.std.specs.Global.{Vec}
use Rattle.std.specs.declared.alloc.AllocError.{AllocError}
use Rattle.ber_leaf.specs.declared.text.ill_string.IllString.{IllString}
use Rattle.ber_leaf.specs.Profile.{profile_two}
use Rattle.ber_leaf.specs.Simple.{flag, whole, date, time, printable}
use Rattle.ber_leaf.specs.Strings.{string_value}
use Rattle.ill_tables.specs.declared.{node.Kind.Kind, node.LeafKind.LeafKind, node.NodeId.NodeId, part.Presence.Presence, part.Row.Row}
use Rattle.ill_schema.specs.declared.{value.Value.Value}
use Rattle.ill_tables.specs.declared.node.NodeId.TheVariants.{Integer, Expired}
use Rattle.ill_schema.specs.Content.{Content, simple, sequence, list, alternative, Items, no_items, item}
use Rattle.ill_schema.specs.Fits.{Fits}
use Rattle.ill_tables.specs.Table.{kind_of, rows_of}
use Rattle.ill_schema.specs.Value.{content_of, entries_of, items_of}

-- the contents of leaves

abbrev pub flag_content : Bool → Content
flag_content b = simple (flag b)

abbrev pub number_content : ℤ → Content
number_content n = simple (whole n)

abbrev pub date_content : List ℕ → Content
date_content octets = simple (date octets)

abbrev pub time_content : List ℕ → Content
time_content octets = simple (time octets)

abbrev pub printable_content : List ℕ → Content
printable_content octets = simple (printable octets)

abbrev pub string_content : IllString → Content
string_content s = simple (string_value s)

-- the content of a sequence, of a list and of a choice

unfoldable pub record_of : List (Option Content) → Content
record_of os = sequence (entries_of os)

unfoldable pub list_of : List Content → Content
list_of cs = list (items_of cs)

abbrev pub listed : {P : Type 0} → (P → Content) → Vec P → Content
listed content parts = list_of (map content parts.items)

unfoldable pub option_of : ℕ → Content → Content
option_of n c = alternative n c

-- the content fits the node
unfoldable pub Is : NodeId → Content → Type 0
Is node c = Fits profile_two c node

abbrev pub EachItem : (Content → Type 0) → Items → Type 0
EachItem P no_items = Unit {0}
EachItem P (item c is) = P c × EachItem P is

-- a list of items that meet the test
unfoldable pub IsListOf : (Content → Type 0) → Content → Type 0
IsListOf P (list is) = EachItem P is
IsListOf P _ = ⊥

-- what is at a node that is no list; both kinds of numbers are alike
abbrev pub Single : NodeId → Content → Type 0
Single node = elim (kind_of node) as (λ _. Content → Type 0) [ Kind.Leaf k ↦ elim k as (λ _. Content → Type 0) [ LeafKind.Enumerated ↦ Is Integer | LeafKind.Integer ↦ Is Integer | _ ↦ Is node ] | _ ↦ Is node ]

abbrev pub ItemHolds : List Row → Content → Type 0
ItemHolds [] = λ _. ⊥
ItemHolds (row ∷ _) = Single row.node

abbrev pub HasShape : NodeId → Content → Type 0
HasShape node = elim (kind_of node) as (λ _. Content → Type 0) [ Kind.SeqOf ↦ IsListOf (ItemHolds (rows_of node)) | _ ↦ Single node ]

-- an entry that is there, and one that may be
unfoldable pub Must : (Content → Type 0) → Option Content → Type 0
Must P None = ⊥
Must P (Some c) = P c

unfoldable pub May : (Content → Type 0) → Option Content → Type 0
May P None = Unit {0}
May P (Some c) = P c

abbrev pub PresenceHolds : Presence → (Content → Type 0) → Option Content → Type 0
PresenceHolds Presence.Must P = Must P
PresenceHolds Presence.May P = May P
PresenceHolds (Presence.Default _) P = Must P
PresenceHolds Presence.LeftOut P = λ o. o ≡ None

abbrev pub RowHolds : Row → Option Content → Type 0
RowHolds row = PresenceHolds row.presence (HasShape row.node)

-- each entry fits its row
abbrev pub RowsHold : List Row → List (Option Content) → Type 0
RowsHold [] [] = Unit {0}
RowsHold (row ∷ rows) (o ∷ os) = RowHolds row o × RowsHold rows os
RowsHold _ _ = ⊥

abbrev opt : Option (Option Value) → Option Content
opt None = None
opt (Some e) = option_map content_of e

-- the entry of row i
unfoldable pub entry_at : List (Option Value) → ℕ → Option Content
entry_at es i = opt (slice_get es i)

abbrev pub entries_seen : List (Option Value) → List (Option Content)
entries_seen = map (option_map content_of)

-- entries that may have failed: where one is there, it is the content
abbrev pub AreBuilt : List (Result (Option Value) AllocError) → List (Option Content) → Type 0
AreBuilt [] [] = Unit {0}
AreBuilt (r ∷ rs) (o ∷ os) = IfOk r (λ e. option_map content_of e ≡ o) × AreBuilt rs os
AreBuilt _ _ = ⊥

-- and it fits its row
abbrev pub AreReady : List Row → List (Result (Option Value) AllocError) → Type 0
AreReady [] [] = Unit {0}
AreReady (row ∷ rows) (r ∷ rs) = IfOk r (λ e. RowHolds row (option_map content_of e)) × AreReady rows rs
AreReady _ _ = ⊥

-- the rows that each APDU begins with, which are those of EXPIRED
abbrev pub head_rows : List Row
head_rows = take 5 (rows_of Expired)

-- the rows of an APDU after these
abbrev pub other_rows : NodeId → List Row
other_rows node = drop 5 (rows_of node)

-- the entries of the rows, from row k on
abbrev pub entries_from : List Row → (ℕ → Option Content) → ℕ → List (Option Content)
entries_from [] f k = []
entries_from (_ ∷ rows) f k = f k ∷ entries_from rows f (suc k)

-- a row that is left out is no alternative
abbrev pub AltAt : Presence → Type 0 → Type 0 → Type 0
AltAt Presence.LeftOut here later = later
AltAt _ here later = here ⊎ later

-- alternative n of the rows, which are numbered from k on, with the content c
abbrev pub AltHolds : List Row → ℕ → ℕ → Content → Type 0
AltHolds [] k n c = ⊥
AltHolds (row ∷ rows) k n c = AltAt row.presence ((n ≡ k) × HasShape row.node c) (AltHolds rows (suc k) n c)

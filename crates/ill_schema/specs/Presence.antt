-- Which rows may hold an entry, which may lack one, and what a default stands for (X.690, 8.9.3 and 11.5).
use Rattle.std.specs.Prelude.{ℤ, pos, Bool, false, not, if◌then◌else◌}
use Rattle.std.specs.Ordering.{int_eq}
use Rattle.ber_leaf.specs.Simple.{Simple, flag, whole}
use Rattle.ill_tables.specs.declared.{node.Kind.Kind, node.LeafKind.LeafKind, part.Presence.Presence, part.Row.Row}
use Rattle.ill_schema.specs.Content.{Content, simple}
use Rattle.ill_tables.specs.Table.{kind_of}

-- a row may hold an entry
abbrev pub IsCarried : Presence → Type 0
IsCarried Presence.LeftOut = ⊥
IsCarried _ = Unit {0}

-- a row's entry may be missing
abbrev pub MayLack : Presence → Type 0
MayLack Presence.May = Unit {0}
MayLack Presence.LeftOut = Unit {0}
MayLack _ = ⊥

-- the value that a default's number stands for: for a BOOLEAN 1 is TRUE
abbrev pub default_value : Kind → ℤ → Simple
default_value (Kind.Leaf LeafKind.Boolean) d = flag (int_eq d (pos 1))
default_value _ d = whole d

abbrev pub same_value : Simple → Simple → Bool
same_value (flag a) (flag b) = if a then b else not b
same_value (whole m) (whole n) = int_eq m n
same_value _ _ = false

abbrev pub is_default_of : Presence → Kind → Content → Bool
is_default_of (Presence.Default d) kind (simple v) = same_value v (default_value kind d)
is_default_of _ _ _ = false

-- the entry is the row's default
abbrev pub is_default : Row → Content → Bool
is_default row c = is_default_of row.presence (kind_of row.node) c

-- What the content of an element is.
use Rattle.ill_schema.specs.Profiles.{profile_of}
use Rattle.ill_tables.specs.declared.profile.Profile.{Profile as Named}
use Rattle.std.specs.Prelude.{◌≡◌, ◌⊎◌, ℕ, suc, Option, Some, None, IsTrue}
use Rattle.ber_core.specs.Foreign.{is_foreign}
use Rattle.ber_tree.specs.Identifier.{Tag}
use Rattle.ber_tree.specs.Octets.{are_octets}
use Rattle.ber_tree.specs.Tree.{Tree, Trees, constructed, none, more}
use Rattle.ber_leaf.specs.Leaf.{value, content_fault}
use Rattle.ber_leaf.specs.Segments.{leaf_content}
use Rattle.ill_schema.specs.Content.{Content, simple, alternative, Entries, Items}
use Rattle.ill_schema.specs.Content as content
use Rattle.ill_schema.specs.Meaning.{Means, Matches, MatchItems, IsLeaf}
use Rattle.ill_schema.specs.Presence.{default_value}
use Rattle.ill_tables.specs.Table.{kind_of, rows_of}
use Rattle.ill_schema.specs.Tagging.{untagged}
use Rattle.ill_tables.specs.declared.part.Presence.{Presence}
use Rattle.ill_tables.specs.declared.part.Row.{Row}
use Rattle.ill_refusals.specs.Element.{Element, leaf, sequence, list, wrapper, loose_wrapper, segment, foreign, left_out}

-- the content is what the tree means as a whole element
abbrev pub IsValueOf : Named → Element → Content → Tree → Type 0
IsValueOf p (leaf l) c T = IsLeaf l T × IsTrue (are_octets (leaf_content l T)) × (content_fault (profile_of p) l (leaf_content l T) ≡ None) × (c ≡ simple (value l (leaf_content l T)))
IsValueOf p (sequence node) c T = (tag : Tag) × (ts : Trees) × (es : Entries) × (T ≡ constructed tag ts) × (c ≡ content.sequence es) × Matches (profile_of p) es (rows_of node) ts
IsValueOf p (list node) c T = (tag : Tag) × (ts : Trees) × (is : Items) × (T ≡ constructed tag ts) × (c ≡ content.list is) × MatchItems (profile_of p) is (rows_of node) ts
IsValueOf p (wrapper w) c T = (tag : Tag) × (U : Tree) × (T ≡ constructed tag (more U none)) × Means (profile_of p) c w.node untagged U
IsValueOf p (loose_wrapper w) c T =
    ((tag : Tag) × (U : Tree) × (T ≡ constructed tag (more U none)) × Means (profile_of p) c w.node untagged U)
    ⊎ ((tag : Tag) × (ts : Trees) × (es : Entries) × (T ≡ constructed tag ts) × (c ≡ content.sequence es) × Matches (profile_of p) es (rows_of w.node) ts)
IsValueOf p (segment tag) c T = ⊥
IsValueOf p (foreign n) c T = IsTrue (is_foreign (suc n) T) × (c ≡ content.foreign T)
IsValueOf p (left_out part) c T = ⊥

-- a value with the number of the alternative that it is
abbrev pub with_alternative : Option ℕ → Content → Content
with_alternative None c = c
with_alternative (Some n) c = alternative n c

-- the entry of a row that has no element
abbrev pub absent_content : Row → Option Content
absent_content row = elim row.presence as (λ _. Option Content) [ Presence.Default d ↦ Some (simple (default_value (kind_of row.node) d)) | _ ↦ None ]

-- The names of causes' parts, and of APDUs in a profile.
use Rattle.std.specs.Prelude.{ℕ, ◌-◌, nat_eq, List, ◌++◌, codes, Option, Some, None, option_map, slice_get, if◌then◌else◌}
use Rattle.ber_leaf.specs.Profile.{Profile}
use Rattle.ill_tables.specs.declared.{node.NodeId.NodeId, part.Presence.Presence, part.Row.Row}
use Rattle.ill_tables.specs.declared.node.NodeId.TheVariants.{IllApdu}
use Rattle.ill_tables.specs.Names.{names_of, part_name_of}
use Rattle.ill_tables.specs.Table.{rows_of, twin_in}
use Rattle.ill_schema.specs.declared.refusal.Cause.{Cause}
use Rattle.ill_schema.specs.Apdu.{root}

-- the names of the part that a cause is about
abbrev pub cause_part_name_of : Cause → Option (List ℕ × List ℕ)
cause_part_name_of (Cause.LeftOut part) = part_name_of part
cause_part_name_of (Cause.Missing part) = part_name_of part
cause_part_name_of _ = None

-- both names, with a dot between them
abbrev pub dotted_name : List ℕ × List ℕ → List ℕ
dotted_name names = names.0 ++ codes "." ++ names.1

abbrev pub carried : Presence → NodeId → Option NodeId
carried Presence.LeftOut node = None
carried _ node = Some node

abbrev pub carried_node : Option Row → Option NodeId
carried_node None = None
carried_node (Some row) = carried row.presence row.node

-- the node of a carried APDU's body; the rows of ILL-APDU are numbered from 1
abbrev pub apdu_node_of : ℕ → Option NodeId
apdu_node_of number = if nat_eq number 0 then None else carried_node (slice_get (rows_of IllApdu) (number - 1))

abbrev pub apdu_name_of : ℕ → Option (List ℕ)
apdu_name_of number = option_map (λ node. (names_of node).0) (apdu_node_of number)

-- the same in a profile
abbrev pub node_in : Profile → NodeId → NodeId
node_in p node = twin_in p.full node

abbrev pub apdu_node_in : Profile → ℕ → Option NodeId
apdu_node_in p number = if nat_eq number 0 then None else carried_node (slice_get (rows_of (root p)) (number - 1))

abbrev pub apdu_name_in : Profile → ℕ → Option (List ℕ)
apdu_name_in p number = option_map (λ node. (names_of node).0) (apdu_node_in p number)

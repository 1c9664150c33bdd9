-- The size of a value's normal form as a node.
use Rattle.std.specs.Prelude.{◌≡◌, ℕ, ◌+◌, ◌<◌, ◌≤◌, Bool, List, Option, Some, None, option_and_then, slice_get, ◌-◌}
use Rattle.ber_tree.specs.declared.class.Class.{Class}
use Rattle.ber_core.specs.Der.{encoding, header_size}
use Rattle.ber_tree.specs.Tree.{Tree}
use Rattle.ber_leaf.specs.Profile.{profile_two}
use Rattle.ill_tables.specs.declared.{node.Kind.Kind, node.NodeId.NodeId, part.Row.Row}
use Rattle.ill_tables.specs.declared.node.NodeId.TheVariants.{IllApdu, IllRequest, Shipped, IllAnswer, ConditionalReply, Cancel, CancelReply, Received, Recall, Returned, CheckedIn, Overdue, Renew, RenewAnswer, Lost, Damaged, MessageApdu, StatusQuery, Expired}
use Rattle.ill_tables.specs.{Table.rows_of}
use Rattle.ill_schema.specs.{Apdu.normal_form, Content.Content, Normal.normal_tree, Tagging.untagged}
use Rattle.ill_schema.specs.Elements.{element_tag, element_tree, row_tree}

-- the number of the APDU whose body the node is
abbrev pub apdu_number_of : NodeId → Option ℕ
apdu_number_of IllRequest = Some 1
apdu_number_of Shipped = Some 3
apdu_number_of IllAnswer = Some 4
apdu_number_of ConditionalReply = Some 5
apdu_number_of Cancel = Some 6
apdu_number_of CancelReply = Some 7
apdu_number_of Received = Some 8
apdu_number_of Recall = Some 9
apdu_number_of Returned = Some 10
apdu_number_of CheckedIn = Some 11
apdu_number_of Overdue = Some 12
apdu_number_of Renew = Some 13
apdu_number_of RenewAnswer = Some 14
apdu_number_of Lost = Some 15
apdu_number_of Damaged = Some 16
apdu_number_of MessageApdu = Some 17
apdu_number_of StatusQuery = Some 18
apdu_number_of Expired = Some 20
apdu_number_of _ = None

-- the row of ILL-APDU whose alternative's body the node is
abbrev pub apdu_row_of : NodeId → Option Row
apdu_row_of node = option_and_then (λ number. slice_get (rows_of IllApdu) (number - 1)) (apdu_number_of node)

-- the tree that is a value's normal form as a node
abbrev pub node_tree : Option Row → NodeId → Content → Tree
node_tree None node c = element_tree None node c
node_tree (Some row) node c = row_tree row c

-- DER's octets of a value as a node: for an APDU's node those of the APDU, elsewhere those of the untagged element
abbrev pub node_form : Content → NodeId → List ℕ
node_form c node = elim (apdu_number_of node) as (λ _. List ℕ) [
  | Some number ↦ normal_form (record { number = number; body = c })
  | None ↦ encoding (normal_tree c node untagged)
]

-- the size, or None exactly where it passes the limit
abbrev pub IsSizeWithin : Option ℕ → ℕ → Type 0
IsSizeWithin None size = profile_two.limit < size
IsSizeWithin (Some n) size = (n ≡ size) × (n ≤ profile_two.limit)

-- the size of an element with contents of n octets, where this tag replaces its own
abbrev pub IsElementSize : Option (Class × ℕ) → ℕ → Option ℕ → Type 0
IsElementSize replaced n result = (kind : Kind) (c : Content) (form : Bool) → IsSizeWithin result (header_size (element_tag replaced kind c) form n + n)

-- Facts about the tables as a whole.
use Rattle.std.specs.Prelude.{ℕ, zero, suc, ◌+◌, max, Bool, true, false, ◌&&◌, not, nat_lt, List, [], ◌∷◌, flat_map}
use Rattle.std.specs.List.{fold, list_all, list_any}
use Rattle.ber_tree.specs.Identifier.{Tag}
use Rattle.ber_leaf.specs.Profile.{Profile}
use Rattle.ill_tables.specs.declared.{node.Kind.Kind, node.LeafKind.LeafKind, node.NodeId.NodeId, part.Presence.Presence, part.Row.Row}
use Rattle.ill_tables.specs.declared.node.NodeId.TheVariants.{Null, ObjectIdentifier, OctetString, BitString, ObjectDescriptor, Encoding, External, TaggedExternal, Externals, Extension, Extensions, EDeliveryService, DocumentType, EDeliveryDetails, ElectronicDelivery, ElectronicDeliveries, SpecificUnits, DamagedPortion, DamagedDetails, HistoryReport, StatusReport, AlreadyForwarded, UserErrorReport, StateTransition, ProviderErrorReport, ErrorReport, ForwardNotification, StatusOrErrorReport, ModuleDeliveryService, ModuleShippedVia, ModuleItemId, ModuleUnitsPerMedium, ModuleUnitsPerMediumList, ModuleSupplyDetails, ModuleIllRequest, ModuleShipped, ModuleConditional, ModuleWillSupply, ModuleResults, ModuleIllAnswer, ModuleConditionalReply, ModuleCancel, ModuleCancelReply, ModuleReceived, ModuleRecall, ModuleReturned, ModuleCheckedIn, ModuleOverdue, ModuleRenew, ModuleRenewAnswer, ModuleLost, ModuleDamaged, ModuleMessageApdu, ModuleStatusQuery, ModuleExpired, ModuleIllApdu, Any}
use Rattle.ill_tables.specs.Table.{kind_of, rows_of, twin}
use Rattle.ill_schema.specs.Tagging.{Tagging, untagged, implicit, explicit, explicit_or_bare, tagging, universal, sequence_tag, same_tag}

-- the tags by which elements of this kind begin, where no other is in their place; an open type is never known by a tag
abbrev pub own_tags : Kind → List Tag
own_tags Kind.Seq = sequence_tag ∷ []
own_tags Kind.SeqOf = sequence_tag ∷ []
own_tags Kind.Choice = []
own_tags Kind.Any = []
own_tags Kind.IllString = universal 27 ∷ universal 26 ∷ []
own_tags (Kind.Leaf LeafKind.Boolean) = universal 1 ∷ []
own_tags (Kind.Leaf LeafKind.Integer) = universal 2 ∷ []
own_tags (Kind.Leaf LeafKind.Enumerated) = universal 10 ∷ []
own_tags (Kind.Leaf LeafKind.Printable) = universal 19 ∷ []
own_tags (Kind.Leaf LeafKind.Null) = universal 5 ∷ []
own_tags (Kind.Leaf LeafKind.ObjectIdentifier) = universal 6 ∷ []
own_tags (Kind.Leaf LeafKind.OctetString) = universal 4 ∷ []
own_tags (Kind.Leaf LeafKind.BitString) = universal 3 ∷ []
own_tags (Kind.Leaf LeafKind.ObjectDescriptor) = universal 7 ∷ []
own_tags (Kind.Leaf _) = universal 26 ∷ []

-- the tags by which elements under a tagging begin
abbrev pub tagging_tags : Tagging → List Tag → List Tag
tagging_tags untagged own = own
tagging_tags (implicit tag) own = tag ∷ []
tagging_tags (explicit tag) own = tag ∷ []
tagging_tags (explicit_or_bare tag) own = tag ∷ []

-- the tag of an alternative
abbrev pub alternative_tags : Profile → Row → List Tag
alternative_tags p row = tagging_tags (tagging p row) []

abbrev pub kind_tags : Kind → List Tag → List Tag
kind_tags Kind.Choice alternatives = alternatives
kind_tags kind alternatives = own_tags kind

-- a choice begins by the tags of its alternatives (X.690, 8.13)
abbrev pub node_tags : Profile → NodeId → List Tag
node_tags p node = kind_tags (kind_of node) (flat_map (alternative_tags p) (rows_of node))

-- the tags by which elements of a row begin
abbrev pub row_tags : Profile → Row → List Tag
row_tags p row = tagging_tags (tagging p row) (node_tags p row.node)

abbrev pub are_distinct : List Tag → Bool
are_distinct [] = true
are_distinct (t ∷ ts) = not (list_any (same_tag t) ts) && are_distinct ts

-- the rows of a sequence or choice begin by different tags
abbrev pub has_different_tags : Profile → NodeId → Bool
has_different_tags p node = are_distinct (flat_map (row_tags p) (rows_of node))

-- how many levels of nodes are below a node, up to n
abbrev levels : ℕ → NodeId → ℕ
levels zero node = 0
levels (suc n) node = fold (λ most row. max most (1 + levels n row.node)) 0 (rows_of node)

-- a node's level, which is at most 10
abbrev pub rank : NodeId → ℕ
rank = levels 10

-- the node's rows name only nodes of lower levels
abbrev pub names_below : NodeId → Bool
names_below node = list_all (λ row. nat_lt (rank row.node) (rank node)) (rows_of node)

-- the depth of a message's normal tree, at most: in profile 2, and with all rows of the module
abbrev pub deepest : Bool → ℕ
deepest false = 11
deepest true = 29

-- a node of profile 2's tables
abbrev pub is_of_two : NodeId → Bool
is_of_two Null = false
is_of_two ObjectIdentifier = false
is_of_two OctetString = false
is_of_two BitString = false
is_of_two ObjectDescriptor = false
is_of_two Encoding = false
is_of_two External = false
is_of_two TaggedExternal = false
is_of_two Externals = false
is_of_two Extension = false
is_of_two Extensions = false
is_of_two EDeliveryService = false
is_of_two DocumentType = false
is_of_two EDeliveryDetails = false
is_of_two ElectronicDelivery = false
is_of_two ElectronicDeliveries = false
is_of_two SpecificUnits = false
is_of_two DamagedPortion = false
is_of_two DamagedDetails = false
is_of_two HistoryReport = false
is_of_two StatusReport = false
is_of_two AlreadyForwarded = false
is_of_two UserErrorReport = false
is_of_two StateTransition = false
is_of_two ProviderErrorReport = false
is_of_two ErrorReport = false
is_of_two ForwardNotification = false
is_of_two StatusOrErrorReport = false
is_of_two ModuleDeliveryService = false
is_of_two ModuleShippedVia = false
is_of_two ModuleItemId = false
is_of_two ModuleUnitsPerMedium = false
is_of_two ModuleUnitsPerMediumList = false
is_of_two ModuleSupplyDetails = false
is_of_two ModuleIllRequest = false
is_of_two ModuleShipped = false
is_of_two ModuleConditional = false
is_of_two ModuleWillSupply = false
is_of_two ModuleResults = false
is_of_two ModuleIllAnswer = false
is_of_two ModuleConditionalReply = false
is_of_two ModuleCancel = false
is_of_two ModuleCancelReply = false
is_of_two ModuleReceived = false
is_of_two ModuleRecall = false
is_of_two ModuleReturned = false
is_of_two ModuleCheckedIn = false
is_of_two ModuleOverdue = false
is_of_two ModuleRenew = false
is_of_two ModuleRenewAnswer = false
is_of_two ModuleLost = false
is_of_two ModuleDamaged = false
is_of_two ModuleMessageApdu = false
is_of_two ModuleStatusQuery = false
is_of_two ModuleExpired = false
is_of_two ModuleIllApdu = false
is_of_two Any = false
is_of_two node = true

abbrev pub are_of_two : List Row → Bool
are_of_two rows = list_all (λ row. is_of_two row.node) rows

-- the row of the module that stands for a row of profile 2 with this presence: any row where that one is left out
abbrev pub standing : Presence → Row → Row → Row
standing Presence.LeftOut r s = s
standing presence r s = record { tag = r.tag; mode = s.mode; presence = presence; node = twin r.node }

-- the rows of the module that stand for rows of profile 2, and those that it has more
abbrev pub stand : List Row → List Row → List Row
stand [] ss = ss
stand (r ∷ rs) [] = standing r.presence r r ∷ stand rs []
stand (r ∷ rs) (s ∷ ss) = standing r.presence r s ∷ stand rs ss

-- How deep normal trees are.
use Rattle.std.proofs.Common.{◌≡◌, ℕ, ◌+◌, ◌-◌, ◌≤◌, Bool, true, false, ◌&&◌, List, [], ◌∷◌, Some, None, IsTrue, refl, sym, subst, arith}
use Rattle.std.specs.Prelude.{nat_le}
use Rattle.std.specs.List.{list_all}
use Rattle.ber_tree.specs.Identifier.{Tag}
use Rattle.ber_tree.specs.Tree.{Tree, Trees, constructed, depth, depth_all, none, more}
use Rattle.ill_tables.specs.declared.node.Kind.{Kind}
use Rattle.ill_tables.specs.declared.node.NodeId.{NodeId}
use Rattle.ill_tables.specs.declared.node.NodeId.TheVariants.{Boolean, Integer, Enumerated, IsoDate, IsoTime, PrintableString, IllString, LeftOut, Symbol, Name, SystemId, TransactionId, DateTime, ServiceDateTime, PostalAddress, SystemAddress, DeliveryAddress, ClientId, DeliveryService, RequesterOptionalMessages, ResponderOptionalMessages, SearchType, SupplyMediumInfo, ItemId, Amount, CostInfo, SendTo, SendToList, AlreadyTriedList, ThirdPartyInfo, UnitsPerMedium, UnitsPerMediumList, DateDue, ShippedVia, SupplyDetails, IllServiceTypes, SupplyMediumInfos, IllRequest, LocationInfo, Locs, Conditional, Retry, Unfilled, Locations, WillSupply, HoldPlaced, Estimate, Results, IllAnswer, IllApdu, Any, Null, ObjectIdentifier, OctetString, BitString, ObjectDescriptor, Encoding, External, TaggedExternal, Externals, Extension, Extensions, EDeliveryService, DocumentType, EDeliveryDetails, ElectronicDelivery, ElectronicDeliveries, SpecificUnits, DamagedPortion, DamagedDetails, HistoryReport, AlreadyForwarded, UserErrorReport, StateTransition, ProviderErrorReport, ErrorReport, ForwardNotification, StatusOrErrorReport, ModuleDeliveryService, ModuleShippedVia, ModuleItemId, ModuleUnitsPerMedium, ModuleUnitsPerMediumList, ModuleSupplyDetails, ModuleIllRequest, ModuleShipped, ModuleConditional, ModuleWillSupply, ModuleResults, ModuleIllAnswer, ModuleConditionalReply, ModuleCancel, ModuleCancelReply, ModuleReceived, ModuleRecall, ModuleReturned, ModuleCheckedIn, ModuleOverdue, ModuleRenew, ModuleRenewAnswer, ModuleLost, ModuleDamaged, ModuleMessageApdu, ModuleStatusQuery, ModuleExpired, ModuleIllApdu}
use Rattle.ill_tables.specs.declared.part.Row.{Row}
use Rattle.ill_schema.specs.Apdu.{Apdu, choice_of, root, root_of}
use Rattle.ill_schema.specs.Content.{Content, simple, sequence, list, alternative, foreign, Entries, no_entries, absent, present, Items, no_items, item}
use Rattle.ill_schema.specs.Fits.{Fits, FitRows, FitItems, FitsApdu}
use Rattle.ber_leaf.specs.Profile.{Profile, profile_two}
use Rattle.ill_schema.specs.Tagging.{Tagging, untagged, implicit, explicit, explicit_or_bare, tagging, tag_tree, sequence_tag}
use Rattle.ber_core.specs.Foreign.{foreign_levels}
use Rattle.ber_core.proofs.Foreign.{foreign_depth}
use Rattle.ill_schema.specs.Presence.{is_default}
use Rattle.ill_schema.specs.Normal.{normal_tree, normal_trees, normal_items}
use Rattle.ill_tables.specs.Table.{kind_of, rows_of}
use Rattle.ill_schema.specs.TableFacts.{deepest}
use Rattle.std.proofs.lemmas.Bool.{and_parts}
use Rattle.ill_schema.proofs.Tags.{at_row}

-- the depth of a node's normal elements, at most
abbrev height : NodeId → ℕ
height Boolean = 1
height Integer = 1
height Enumerated = 1
height IsoDate = 1
height IsoTime = 1
height PrintableString = 1
height IllString = 1
height LeftOut = 1
height Symbol = 2
height Name = 2
height SystemId = 4
height TransactionId = 5
height DateTime = 2
height ServiceDateTime = 3
height PostalAddress = 4
height SystemAddress = 3
height DeliveryAddress = 5
height ClientId = 3
height DeliveryService = 2
height RequesterOptionalMessages = 2
height ResponderOptionalMessages = 2
height SearchType = 3
height SupplyMediumInfo = 3
height ItemId = 3
height Amount = 2
height CostInfo = 3
height SendTo = 5
height SendToList = 6
height AlreadyTriedList = 5
height ThirdPartyInfo = 7
height UnitsPerMedium = 2
height UnitsPerMediumList = 3
height DateDue = 2
height ShippedVia = 2
height SupplyDetails = 4
height IllServiceTypes = 2
height SupplyMediumInfos = 4
height IllRequest = 8
height LocationInfo = 5
height Locs = 6
height Conditional = 7
height Retry = 7
height Unfilled = 7
height Locations = 7
height WillSupply = 7
height HoldPlaced = 7
height Estimate = 7
height Results = 8
height IllAnswer = 10
height IllApdu = 11
height Any = 20
height Null = 1
height ObjectIdentifier = 1
height OctetString = 1
height BitString = 1
height ObjectDescriptor = 1
height Encoding = 21
height External = 22
height TaggedExternal = 22
height Externals = 23
height Extension = 22
height Extensions = 23
height EDeliveryService = 22
height DocumentType = 22
height EDeliveryDetails = 4
height ElectronicDelivery = 23
height ElectronicDeliveries = 24
height SpecificUnits = 2
height DamagedPortion = 2
height DamagedDetails = 3
height HistoryReport = 5
height AlreadyForwarded = 5
height UserErrorReport = 5
height StateTransition = 2
height ProviderErrorReport = 2
height ErrorReport = 7
height ForwardNotification = 24
height StatusOrErrorReport = 24
height ModuleDeliveryService = 24
height ModuleShippedVia = 23
height ModuleItemId = 24
height ModuleUnitsPerMedium = 3
height ModuleUnitsPerMediumList = 4
height ModuleSupplyDetails = 24
height ModuleIllRequest = 25
height ModuleShipped = 25
height ModuleConditional = 25
height ModuleWillSupply = 25
height ModuleResults = 26
height ModuleIllAnswer = 28
height ModuleConditionalReply = 24
height ModuleCancel = 24
height ModuleCancelReply = 24
height ModuleReceived = 24
height ModuleRecall = 24
height ModuleReturned = 24
height ModuleCheckedIn = 24
height ModuleOverdue = 25
height ModuleRenew = 24
height ModuleRenewAnswer = 24
height ModuleLost = 24
height ModuleDamaged = 24
height ModuleMessageApdu = 24
height ModuleStatusQuery = 24
height ModuleExpired = 24
height ModuleIllApdu = 29
height _ = 6

abbrev wrap : Tagging → ℕ
wrap untagged = 0
wrap (implicit t) = 0
wrap (explicit t) = 1
wrap (explicit_or_bare t) = 1

-- the elements that a node of the kind adds round its rows
abbrev own : Kind → ℕ
own Kind.Choice = 0
own _ = 1

abbrev is_below : ℕ → Row → Bool
is_below n row = nat_le (wrap (tagging profile_two row) + height row.node) n

abbrev is_tall : NodeId → Bool
is_tall node = nat_le 1 (height node) && list_all (is_below (height node - own (kind_of node))) (rows_of node)

all_tall : (node : NodeId) → IsTrue (is_tall node)
all_tall Boolean = refl
all_tall _ = refl

le_of : (m n : ℕ) → IsTrue (nat_le m n) → m ≤ n
le_of m n h = grind arith

tall : (node : NodeId) → 1 ≤ height node
tall node = le_of 1 (height node) ((and_parts _ _ (all_tall node)).0)

tall_rows : (node : NodeId) (k : Kind) → kind_of node ≡ k → IsTrue (list_all (is_below (height node - own k)) (rows_of node))
tall_rows node k e = subst (λ x. IsTrue (list_all (is_below (height node - own x)) (rows_of node))) e ((and_parts _ _ (all_tall node)).1)

tag_depth : (g : Tagging) (t : Tag) (f : Tag → Tree) (n : ℕ) → ((s : Tag) → depth (f s) ≤ n) → depth (tag_tree g t f) ≤ wrap g + n
tag_depth untagged t f n h = let q = h t in omega arith
tag_depth (implicit s) t f n h = let q = h s in omega arith
tag_depth (explicit s) t f n h = let q = h t in omega arith
tag_depth (explicit_or_bare s) t f n h = let q = h t in omega arith

first_below : (n : ℕ) (row : Row) (rows : List Row) → IsTrue (list_all (is_below n) (row ∷ rows)) → wrap (tagging profile_two row) + height row.node ≤ n
first_below n row rows h = le_of _ _ ((and_parts _ _ h).0)

-- the depth of an element of open type
abbrev is_any_high : Kind → ℕ → Bool
is_any_high Kind.Any n = nat_le 20 n
is_any_high _ n = true

all_any_high : (node : NodeId) → IsTrue (is_any_high (kind_of node) (height node))
all_any_high Boolean = refl
all_any_high _ = refl

any_height : (node : NodeId) → kind_of node ≡ Kind.Any → 20 ≤ height node
any_height node e = le_of 20 (height node) (subst (λ k. IsTrue (is_any_high k (height node))) e (all_any_high node))

mutual
  tree_depth : (p : Profile) (c : Content) (node : NodeId) (g : Tagging) → Fits p c node → depth (normal_tree c node g) ≤ wrap g + height node
  tree_depth p (simple v) node g fit = tag_depth g _ _ (height node) (λ t. tall node)
  tree_depth p (sequence es) node g fit = tag_depth g sequence_tag _ (height node) (λ t.
      let q = trees_depth p es (rows_of node) (height node - 1) (tall_rows node Kind.Seq fit.0) fit.1 in let r = tall node in omega arith)
  tree_depth p (list is) node g fit = tag_depth g sequence_tag _ (height node) (λ t.
      let q = items_depth p is (rows_of node) (height node - 1) (tall_rows node Kind.SeqOf fit.0) fit.1 in let r = tall node in omega arith)
  tree_depth p (alternative n c) node g fit =
      let row = fit.0 in
      let b : wrap (tagging profile_two row) + height row.node ≤ height node - 0 = le_of _ _ (at_row (is_below (height node - 0)) (rows_of node) n row (tall_rows node Kind.Choice fit.1.0) fit.1.1) in
      let q = tree_depth p c row.node (tagging profile_two row) fit.2 in
      let r : depth (normal_tree c row.node (tagging profile_two row)) ≤ height node = omega arith in
      tag_depth g sequence_tag _ (height node) (λ t.
      subst (λ o. depth (elim o as (λ _. Tree) [ Some x ↦ normal_tree c x.node (tagging profile_two x) | None ↦ constructed t none ]) ≤ height node) (sym fit.1.1) r)
  tree_depth p (foreign V) node g fit = tag_depth g sequence_tag (λ _. V) (height node) (λ t.
      let q = foreign_depth foreign_levels V fit.1 in let r : 20 ≤ height node = any_height node fit.0 in omega arith)

  trees_depth : (p : Profile) (es : Entries) (rows : List Row) (n : ℕ) → IsTrue (list_all (is_below n) rows) → FitRows p es rows → depth_all (normal_trees es rows) ≤ n
  trees_depth p no_entries rows n h fit = omega arith
  trees_depth p (absent es) [] n h fit = omega arith
  trees_depth p (absent es) (row ∷ rows) n h fit = trees_depth p es rows n ((and_parts _ _ h).1) fit.1
  trees_depth p (present c es) [] n h fit = omega arith
  trees_depth p (present c es) (row ∷ rows) n h fit =
      let parts = and_parts _ _ h in
      let q : depth (normal_tree c row.node (tagging profile_two row)) ≤ wrap (tagging profile_two row) + height row.node = tree_depth p c row.node (tagging profile_two row) fit.1 in
      let b : wrap (tagging profile_two row) + height row.node ≤ n = first_below n row rows h in
      either c row es rows n (omega arith) (trees_depth p es rows n parts.1 fit.2) (is_default row c)
    where
      either : (c : Content) (row : Row) (es : Entries) (rows : List Row) (n : ℕ) → depth (normal_tree c row.node (tagging profile_two row)) ≤ n → depth_all (normal_trees es rows) ≤ n → (b : Bool)
          → depth_all (elim b as (λ _. Trees) [ true ↦ normal_trees es rows | false ↦ more (normal_tree c row.node (tagging profile_two row)) (normal_trees es rows) ]) ≤ n
      either c row es rows n q r true = r
      either c row es rows n q r false = omega arith

  items_depth : (p : Profile) (is : Items) (rows : List Row) (n : ℕ) → IsTrue (list_all (is_below n) rows) → FitItems p is rows → depth_all (normal_items is rows) ≤ n
  items_depth p no_items rows n h fit = omega arith
  items_depth p (item c is) [] n h fit = omega arith
  items_depth p (item c is) (row ∷ rows) n h fit =
      let e : Some row ≡ Some fit.0 = fit.1 in
      let r : fit.0 ≡ row = cc in
      let q : depth (normal_tree c row.node (tagging profile_two row)) ≤ wrap (tagging profile_two row) + height row.node = tree_depth p c row.node (tagging profile_two row) (subst (λ x. Fits p c x.node) r fit.2) in
      let b : wrap (tagging profile_two row) + height row.node ≤ n = first_below n row rows h in
      let s = items_depth p is (row ∷ rows) n h fit.3 in
      omega arith

root_height : (full : Bool) → height (root_of full) ≡ deepest full
root_height false = refl
root_height true = refl

pub normal_depth : (p : Profile) (a : Apdu) → FitsApdu p a → depth (normal_tree (choice_of a) (root p) untagged) ≤ deepest p.full
normal_depth p a fit = let q = tree_depth p (choice_of a) (root p) untagged fit.1 in let e = root_height p.full in omega arith

-- What is due at a place: rows and leaves of the profile, at most 11 levels deep; and foreign trees, at most 29.
use Rattle.std.proofs.Common.{◌≡◌, ℕ, zero, suc, ◌+◌, ◌≤◌, Bool, true, false, ◌&&◌, ◌||◌, List, [], ◌∷◌, ◌++◌, length, Option, Some, None, IsTrue, refl, ap, subst, arith, if◌then◌else◌}
use Rattle.std.specs.Prelude.{flat_map, find, not, nat_le}
use Rattle.std.specs.List.{list_all}
use Rattle.std.proofs.lemmas.Bool.{and_parts}
use Rattle.ber_tree.specs.Identifier.{Tag}
use Rattle.ber_tree.specs.Tree.{Trees, none, more, tag_of}
use Rattle.ber_leaf.specs.Leaf.{Leaf, null_type, object_identifier, bit_string}
use Rattle.ber_leaf.specs.Profile.{Profile}
use Rattle.ill_tables.specs.declared.node.Kind.{Kind}
use Rattle.ill_tables.specs.declared.node.LeafKind.{LeafKind}
use Rattle.ill_tables.specs.declared.node.NodeId.{NodeId}
use Rattle.ill_tables.specs.declared.node.NodeId.TheVariants.{Boolean, AlreadyForwarded, AlreadyTriedList, Amount, Any, BitString, Cancel, CancelReply, CheckedIn, ClientId, Conditional, ConditionalReply, CostInfo, Damaged, DamagedDetails, DamagedPortion, DateDue, DateTime, DeliveryAddress, DeliveryService, DocumentType, EDeliveryDetails, EDeliveryService, ElectronicDeliveries, ElectronicDelivery, Encoding, Enumerated, ErrorReport, Estimate, Expired, Extension, Extensions, External, Externals, HistoryReport, HoldPlaced, IllAnswer, IllApdu, IllRequest, IllServiceTypes, IllString, Integer, IsoDate, IsoTime, ItemId, LeftOut, LocationInfo, Locations, Locs, Lost, MessageApdu, ModuleConditional, ModuleDeliveryService, ModuleIllApdu, ModuleItemId, ModuleResults, ModuleShippedVia, ModuleSupplyDetails, ModuleUnitsPerMedium, ModuleUnitsPerMediumList, ModuleWillSupply, Name, Null, ObjectDescriptor, ObjectIdentifier, OctetString, Overdue, PostalAddress, PrintableString, ProviderErrorReport, Recall, Received, Renew, RenewAnswer, RequesterOptionalMessages, ResponderOptionalMessages, Results, Retry, Returned, SearchType, SendTo, SendToList, ServiceDateTime, Shipped, ShippedVia, SpecificUnits, StateTransition, StatusQuery, StatusReport, SupplyDetails, SupplyMediumInfo, SupplyMediumInfos, Symbol, SystemAddress, SystemId, TaggedExternal, ThirdPartyInfo, TransactionId, Unfilled, UnitsPerMedium, UnitsPerMediumList, UserErrorReport, WillSupply}
use Rattle.ill_tables.specs.declared.part.PartId.{PartId}
use Rattle.ill_tables.specs.declared.part.Presence.{Presence}
use Rattle.ill_tables.specs.declared.part.Row.{Row}
use Rattle.ill_tables.specs.Table.{kind_of, rows_of}
use Rattle.ill_schema.specs.Apdu.{root_of}
use Rattle.ill_schema.specs.TableFacts.{is_of_two}
use Rattle.ill_schema.specs.Tagging.{Tagging, untagged, implicit, explicit, explicit_or_bare, same_tag, sequence_tag, row_tagging}
use Rattle.ill_refusals.specs.Element.{Component, components_by, node_components, Element, leaf, sequence, list, wrapper, loose_wrapper, segment, foreign, left_out, Start, own_starts, retag, tagged_starts, leave_out, component_starts, starts_by}
use Rattle.ill_refusals.specs.Next.{Next, rows, items, either, segments, anything, foreigns, Due, element_of, next_of, start_by, due_by, next_due, due, missing, opening_by, opening, after_by, next_after}
use Rattle.ill_refusals.specs.Next as next
use Rattle.ill_refusals.specs.Place.{Open, next_in, IsPlace}
use Rattle.ill_refusals.specs.Outcome.{is_component}

-- ---- nodes, kinds and presences of profile 2, or of the module profile

-- a node of the module's tables
abbrev is_of_module : NodeId → Bool
is_of_module LeftOut = false
is_of_module DeliveryService = false
is_of_module ShippedVia = false
is_of_module ItemId = false
is_of_module UnitsPerMedium = false
is_of_module UnitsPerMediumList = false
is_of_module SupplyDetails = false
is_of_module IllRequest = false
is_of_module Shipped = false
is_of_module Conditional = false
is_of_module WillSupply = false
is_of_module Results = false
is_of_module IllAnswer = false
is_of_module ConditionalReply = false
is_of_module Cancel = false
is_of_module CancelReply = false
is_of_module Received = false
is_of_module Recall = false
is_of_module Returned = false
is_of_module CheckedIn = false
is_of_module Overdue = false
is_of_module Renew = false
is_of_module RenewAnswer = false
is_of_module Lost = false
is_of_module Damaged = false
is_of_module MessageApdu = false
is_of_module StatusQuery = false
is_of_module Expired = false
is_of_module IllApdu = false
is_of_module node = true

abbrev is_of : Bool → NodeId → Bool
is_of false node = is_of_two node
is_of true node = is_of_module node

abbrev pub has_leaf : Bool → Leaf → Bool
has_leaf full null_type = full
has_leaf full object_identifier = full
has_leaf full bit_string = full
has_leaf full l = true

abbrev has_kind : Bool → Kind → Bool
has_kind full (Kind.Leaf LeafKind.Null) = full
has_kind full (Kind.Leaf LeafKind.ObjectIdentifier) = full
has_kind full (Kind.Leaf LeafKind.BitString) = full
has_kind full kind = true

abbrev has_presence : Bool → Presence → Bool
has_presence full Presence.LeftOut = not full
has_presence full presence = true

abbrev has_row : Bool → Row → Bool
has_row full row = has_presence full row.presence && is_of full row.node

-- the tables are closed: rows of such nodes name such nodes
closed : (full : Bool) (node : NodeId) → IsTrue (not (is_of full node) || (has_kind full (kind_of node) && list_all (has_row full) (rows_of node)))
closed false Boolean = refl
closed false _ = refl
closed true Boolean = refl
closed true _ = refl

node_has : (full : Bool) (node : NodeId) → IsTrue (is_of full node) → IsTrue (has_kind full (kind_of node) && list_all (has_row full) (rows_of node))
node_has full node h = subst (λ (b : Bool). IsTrue (not b || (has_kind full (kind_of node) && list_all (has_row full) (rows_of node)))) h (closed full node)

-- the most elements that are open where an element of the node is due
abbrev level : NodeId → ℕ
level IllApdu = 0
level ModuleIllApdu = 0
level ClientId = 2
level CostInfo = 2
level DamagedDetails = 2
level DeliveryAddress = 2
level DeliveryService = 2
level ErrorReport = 2
level Externals = 2
level IllServiceTypes = 2
level ItemId = 2
level ModuleItemId = 2
level ModuleSupplyDetails = 2
level RequesterOptionalMessages = 2
level ResponderOptionalMessages = 2
level SearchType = 2
level ServiceDateTime = 2
level StatusReport = 2
level SupplyDetails = 2
level SupplyMediumInfos = 2
level ThirdPartyInfo = 2
level TransactionId = 2
level AlreadyTriedList = 3
level Amount = 3
level DamagedPortion = 3
level DateDue = 3
level DateTime = 3
level Extensions = 3
level HistoryReport = 3
level ModuleResults = 3
level ModuleShippedVia = 3
level ModuleUnitsPerMediumList = 3
level Null = 3
level Results = 3
level SendToList = 3
level ShippedVia = 3
level SpecificUnits = 3
level SupplyMediumInfo = 3
level UnitsPerMediumList = 3
level AlreadyForwarded = 4
level Conditional = 4
level Estimate = 4
level Extension = 4
level External = 4
level HoldPlaced = 4
level Locations = 4
level ModuleConditional = 4
level ModuleUnitsPerMedium = 4
level ModuleWillSupply = 4
level PrintableString = 4
level ProviderErrorReport = 4
level Retry = 4
level SendTo = 4
level StateTransition = 4
level TaggedExternal = 4
level Unfilled = 4
level UnitsPerMedium = 4
level UserErrorReport = 4
level WillSupply = 4
level BitString = 5
level Boolean = 5
level ElectronicDeliveries = 5
level Encoding = 5
level LeftOut = 5
level Locs = 5
level ModuleDeliveryService = 5
level ObjectDescriptor = 5
level OctetString = 5
level ElectronicDelivery = 6
level Enumerated = 6
level Integer = 6
level IsoDate = 6
level LocationInfo = 6
level PostalAddress = 6
level DocumentType = 7
level EDeliveryService = 7
level IsoTime = 7
level EDeliveryDetails = 8
level ObjectIdentifier = 8
level SystemAddress = 8
level SystemId = 8
level Any = 9
level Name = 10
level Symbol = 10
level IllString = 11
level node = 1

abbrev wrap : Tagging → ℕ
wrap untagged = 0
wrap (implicit tag) = 0
wrap (explicit tag) = 1
wrap (explicit_or_bare tag) = 1

-- the elements that a node of the kind adds round its rows
abbrev own : Kind → ℕ
own Kind.Choice = 0
own kind = 1

abbrev is_above : Bool → ℕ → Row → Bool
is_above bare n row = nat_le (n + wrap (row_tagging bare row)) (level row.node)

abbrev is_any_shallow : Kind → ℕ → Bool
is_any_shallow Kind.Any n = nat_le n 9
is_any_shallow kind n = true

levels_closed : (bare : Bool) (node : NodeId) → IsTrue (nat_le (level node) 11 && (is_any_shallow (kind_of node) (level node) && list_all (is_above bare (level node + own (kind_of node))) (rows_of node)))
levels_closed true Boolean = refl
levels_closed true _ = refl
levels_closed false Boolean = refl
levels_closed false _ = refl

own_small : (kind : Kind) → own kind ≤ 1
own_small Kind.Choice = omega arith
own_small Kind.Seq = omega arith
own_small Kind.SeqOf = omega arith
own_small Kind.Any = omega arith
own_small Kind.IllString = omega arith
own_small (Kind.Leaf l) = omega arith

le_of : (m n : ℕ) → IsTrue (nat_le m n) → m ≤ n
le_of m n h = grind arith

levels_end : (node : NodeId) → level node ≤ 11
levels_end node = le_of (level node) 11 ((and_parts (nat_le (level node) 11) _ (levels_closed true node)).0)

any_level : (node : NodeId) → kind_of node ≡ Kind.Any → level node ≤ 9
any_level node e =
    let a = and_parts (nat_le (level node) 11) _ (levels_closed true node) in
    let b = and_parts (is_any_shallow (kind_of node) (level node)) _ a.1 in
    le_of (level node) 9 (subst (λ k. IsTrue (is_any_shallow k (level node))) e b.0)

rows_above : (bare : Bool) (node : NodeId) → IsTrue (list_all (is_above bare (level node + own (kind_of node))) (rows_of node))
rows_above bare node =
    let a = and_parts (nat_le (level node) 11) _ (levels_closed bare node) in
    (and_parts (is_any_shallow (kind_of node) (level node)) _ a.1).1

module _ (full bare : Bool) where
  -- ---- what is due where n elements are open

  abbrev Has : ℕ → Component → Type 0
  Has n c = IsTrue (has_presence full c.presence) × IsTrue (is_of full c.node) × (n + wrap c.tagging ≤ level c.node)

  abbrev AllHave : ℕ → List Component → Type 0
  AllHave n [] = Unit {0}
  AllHave n (c ∷ cs) = Has n c × AllHave n cs

  abbrev pub IsElementOf : ℕ → Element → Type 0
  IsElementOf n (leaf l) = IsTrue (has_leaf full l) × (n ≤ 11)
  IsElementOf n (sequence node) = IsTrue (is_of full node) × (n + 1 ≤ level node + own (kind_of node))
  IsElementOf n (list node) = IsTrue (is_of full node) × (n + 1 ≤ level node + own (kind_of node))
  IsElementOf n (wrapper c) = Has (n + 1) c
  IsElementOf n (loose_wrapper c) = Has (n + 1) c
  IsElementOf n (segment tag) = Unit {0}
  IsElementOf n (foreign m) = n + 1 + m ≤ 29
  IsElementOf n (left_out row) = IsTrue (not full) × (n ≤ 11)

  abbrev IsNextOf : ℕ → Next → Type 0
  IsNextOf n (rows cs) = AllHave n cs
  IsNextOf n (items c) = Has n c
  IsNextOf n (either c) = Has n c
  IsNextOf n (segments tag) = Unit {0}
  IsNextOf n (anything c) = n ≤ 9
  IsNextOf n (foreigns m) = n + m ≤ 29

  abbrev IsDueOf : ℕ → Option Due → Type 0
  IsDueOf n None = Unit {0}
  IsDueOf n (Some d) = IsElementOf n (element_of d) × IsNextOf n (next_of d)

  rows_have : (n : ℕ) (node : NodeId) (i m : ℕ) (rs : List Row) → n ≤ m → IsTrue (list_all (has_row full) rs) → IsTrue (list_all (is_above bare m) rs) → AllHave n (components_by bare node i rs)
  rows_have n node i m [] le h k = tt
  rows_have n node i m (row ∷ rs) le h k =
      let a = and_parts (has_row full row) (list_all (has_row full) rs) h in
      let b = and_parts (has_presence full row.presence) (is_of full row.node) a.0 in
      let c = and_parts (is_above bare m row) (list_all (is_above bare m) rs) k in
      let d : m + wrap (row_tagging bare row) ≤ level row.node = le_of _ _ c.0 in
      ((b.0, b.1, omega (arith, le, d)), rows_have n node (i + 1) m rs le a.1 c.1)

  node_rows : (n : ℕ) (node : NodeId) → n ≤ level node + own (kind_of node) → IsTrue (is_of full node) → AllHave n (node_components bare node)
  node_rows n node le h =
      rows_have n node 0 (level node + own (kind_of node)) (rows_of node) le ((and_parts (has_kind full (kind_of node)) (list_all (has_row full) (rows_of node)) (node_has full node h)).1) (rows_above bare node)

  abbrev AllStarts : ℕ → List Start → Type 0
  AllStarts n [] = Unit {0}
  AllStarts n (s ∷ ss) = IsElementOf n s.element × AllStarts n ss

  joined_starts : (n : ℕ) (ss ts : List Start) → AllStarts n ss → AllStarts n ts → AllStarts n (ss ++ ts)
  joined_starts n [] ts h k = k
  joined_starts n (s ∷ ss) ts h k = (h.0, joined_starts n ss ts h.1 k)

  own_have : (n : ℕ) (kind : Kind) (node : NodeId) → kind_of node ≡ kind → IsTrue (has_kind full kind) → IsTrue (is_of full node) → n ≤ level node → AllStarts n (own_starts kind node)
  own_have n Kind.Seq node e k h le = let o : own (kind_of node) ≡ 1 = ap own e in ((h, omega (arith, o, le)), tt)
  own_have n Kind.SeqOf node e k h le = let o : own (kind_of node) ≡ 1 = ap own e in ((h, omega (arith, o, le)), tt)
  own_have n Kind.Choice node e k h le = tt
  own_have n Kind.Any node e k h le = tt
  own_have n Kind.IllString node e k h le = let end = levels_end node in ((refl, omega (arith, le, end)), ((refl, omega (arith, le, end)), tt))
  own_have n (Kind.Leaf l) node e k h le = go l k (let end = levels_end node in omega (arith, le, end))
    where
      go : (l : LeafKind) → IsTrue (has_kind full (Kind.Leaf l)) → n ≤ 11 → AllStarts n (own_starts (Kind.Leaf l) node)
      go LeafKind.Boolean k m = ((refl, m), tt)
      go LeafKind.Integer k m = ((refl, m), tt)
      go LeafKind.Enumerated k m = ((refl, m), tt)
      go LeafKind.Date k m = ((refl, m), tt)
      go LeafKind.Time k m = ((refl, m), tt)
      go LeafKind.Printable k m = ((refl, m), tt)
      go LeafKind.Null k m = ((k, m), tt)
      go LeafKind.ObjectIdentifier k m = ((k, m), tt)
      go LeafKind.OctetString k m = ((refl, m), tt)
      go LeafKind.BitString k m = ((k, m), tt)
      go LeafKind.ObjectDescriptor k m = ((refl, m), tt)

  retagged : (n : ℕ) (tag : Tag) (ss : List Start) → AllStarts n ss → AllStarts n (retag tag ss)
  retagged n tag [] h = tt
  retagged n tag (s ∷ ss) h = (h.0, retagged n tag ss h.1)

  left : (n : ℕ) (row : PartId) (ss : List Start) → IsTrue (not full) → n ≤ 11 → AllStarts n (leave_out row ss)
  left n row [] h le = tt
  left n row (s ∷ ss) h le = ((h, le), left n row ss h le)

  node_own : (n : ℕ) (node : NodeId) → IsTrue (is_of full node) → n ≤ level node → AllStarts n (own_starts (kind_of node) node)
  node_own n node h le = own_have n (kind_of node) node refl ((and_parts (has_kind full (kind_of node)) _ (node_has full node h)).0) h le

  tagged_have : (n : ℕ) (g : Tagging) (c : Component) → IsTrue (is_of full c.node) → n + wrap g ≤ level c.node → AllStarts n (tagged_starts g c)
  tagged_have n untagged c h le = node_own n c.node h (omega (arith, le))
  tagged_have n (implicit tag) c h le = retagged n tag (own_starts (kind_of c.node) c.node) (node_own n c.node h (omega (arith, le)))
  tagged_have n (explicit tag) c h le = ((refl, h, omega (arith, le)), tt)
  tagged_have n (explicit_or_bare tag) c h le = ((refl, h, omega (arith, le)), tt)

  component_have : (n : ℕ) (c : Component) → Has n c → AllStarts n (component_starts c)
  component_have n c h = go c.presence h.0
    where
      go : (presence : Presence) → IsTrue (has_presence full presence)
          → AllStarts n (elim presence as (λ _. List Start) [ Presence.LeftOut ↦ leave_out c.part (tagged_starts c.tagging c) | _ ↦ tagged_starts c.tagging c ])
      go Presence.LeftOut k = left n c.part (tagged_starts c.tagging c) k (let end = levels_end c.node in let le = h.2 in omega (arith, le, end))
      go Presence.Must k = tagged_have n c.tagging c h.1 h.2
      go Presence.May k = tagged_have n c.tagging c h.1 h.2
      go (Presence.Default d) k = tagged_have n c.tagging c h.1 h.2

  all_have : (n : ℕ) (cs : List Component) → AllHave n cs → AllStarts n (flat_map component_starts cs)
  all_have n [] h = tt
  all_have n (c ∷ cs) h = joined_starts n (component_starts c) (flat_map component_starts cs) (component_have n c h.0) (all_have n cs h.1)

  starts_have : (n : ℕ) (c : Component) → Has n c → AllStarts n (starts_by bare c)
  starts_have n c h = go c.tagging
    where
      kinds : (kind : Kind) → AllStarts n (elim kind as (λ _. List Start) [ Kind.Choice ↦ flat_map component_starts (node_components bare c.node) | _ ↦ [] ])
      kinds Kind.Choice = all_have n (node_components bare c.node) (node_rows n c.node (let le = h.2 in omega (arith, le)) h.1)
      kinds Kind.Seq = tt
      kinds Kind.SeqOf = tt
      kinds Kind.Any = tt
      kinds Kind.IllString = tt
      kinds (Kind.Leaf l) = tt

      go : (g : Tagging) → AllStarts n (elim g as (λ _. List Start) [
        | untagged ↦ component_starts c ++ elim (kind_of c.node) as (λ _. List Start) [ Kind.Choice ↦ flat_map component_starts (node_components bare c.node) | _ ↦ [] ]
        | _ ↦ component_starts c
      ])
      go untagged = joined_starts n (component_starts c) _ (component_have n c h) (kinds (kind_of c.node))
      go (implicit tag) = component_have n c h
      go (explicit tag) = component_have n c h
      go (explicit_or_bare tag) = component_have n c h

  abbrev IsStartOf : ℕ → Option Start → Type 0
  IsStartOf n None = Unit {0}
  IsStartOf n (Some s) = IsElementOf n s.element

  found : (n : ℕ) (tag : Tag) (ss : List Start) → AllStarts n ss → IsStartOf n (find (λ s. same_tag s.tag tag) ss)
  found n tag [] h = tt
  found n tag (s ∷ ss) h = go (found n tag ss h.1) (same_tag s.tag tag)
    where
      go : IsStartOf n (find (λ s. same_tag s.tag tag) ss) → (b : Bool) → IsStartOf n (if b then Some s else find (λ s. same_tag s.tag tag) ss)
      go later true = h.0
      go later false = later

  due_have : (n : ℕ) (tag : Tag) (cs : List Component) → AllHave n cs → IsDueOf n (due_by bare tag cs)
  due_have n tag [] h = tt
  due_have n tag (c ∷ cs) h = go (due_have n tag cs h.1) (start_by bare tag c) (found n tag (starts_by bare c) (starts_have n c h.0))
    where
      passed : IsDueOf n (due_by bare tag cs) → (presence : Presence) → IsDueOf n (elim presence as (λ _. Option Due) [ Presence.Must ↦ None | _ ↦ due_by bare tag cs ])
      passed later Presence.Must = tt
      passed later Presence.May = later
      passed later (Presence.Default d) = later
      passed later Presence.LeftOut = later

      go : IsDueOf n (due_by bare tag cs) → (o : Option Start) → IsStartOf n o → IsDueOf n (elim o as (λ _. Option Due) [
        | Some s ↦ Some (next.part c s.element (rows cs))
        | None ↦ elim c.presence as (λ _. Option Due) [ Presence.Must ↦ None | _ ↦ due_by bare tag cs ]
      ])
      go later (Some s) k = (k, h.1)
      go later None k = passed later c.presence

  next_have : (n : ℕ) (tag : Tag) (nx : Next) → IsNextOf n nx → IsDueOf n (next_due bare tag nx)
  next_have n tag (rows cs) h = due_have n tag cs h
  next_have n tag (items c) h = go (start_by bare tag c) (found n tag (starts_by bare c) (starts_have n c h))
    where
      go : (o : Option Start) → IsStartOf n o → IsDueOf n (elim o as (λ _. Option Due) [ Some s ↦ Some (next.part c s.element (items c)) | None ↦ None ])
      go (Some s) k = (k, h)
      go None k = tt
  next_have n tag (either c) h = go (same_tag tag sequence_tag)
    where
      go : (b : Bool) → IsDueOf n (elim b as (λ _. Option Due) [ true ↦ due_by bare tag (c ∷ []) | false ↦ due_by bare tag (node_components bare c.node) ])
      go true = due_have n tag (c ∷ []) (h, tt)
      go false = due_have n tag (node_components bare c.node) (node_rows n c.node (let le = h.2 in omega (arith, le)) h.1)
  next_have n tag (segments t) h = go (same_tag tag t)
    where
      go : (b : Bool) → IsDueOf n (if b then Some (next.octets t) else None)
      go true = (tt, tt)
      go false = tt
  next_have n tag (anything c) h = (omega (arith, h), tt)
  next_have n tag (foreigns zero) h = tt
  next_have n tag (foreigns (suc m)) h = (omega (arith, h), h)

  opening_have : (n : ℕ) (e : Element) → IsElementOf n e → IsNextOf (n + 1) (opening_by bare e)
  opening_have n (leaf l) h = tt
  opening_have n (sequence node) h = node_rows (n + 1) node h.1 h.0
  opening_have n (list node) h = go (node_components bare node) (node_rows (n + 1) node h.1 h.0)
    where
      go : (cs : List Component) → AllHave (n + 1) cs → IsNextOf (n + 1) (elim cs as (λ _. Next) [ [] ↦ rows [] | c ∷ _ ↦ items c ])
      go [] k = tt
      go (c ∷ cs) k = k.0
  opening_have n (wrapper c) h = go (kind_of c.node) refl
    where
      go : (kind : Kind) → kind_of c.node ≡ kind → IsNextOf (n + 1) (elim kind as (λ _. Next) [ Kind.Any ↦ anything c | _ ↦ rows (c ∷ []) ])
      go Kind.Any e = let end = any_level c.node e in let le = h.2 in omega (arith, le, end)
      go Kind.Seq e = (h, tt)
      go Kind.SeqOf e = (h, tt)
      go Kind.Choice e = (h, tt)
      go Kind.IllString e = (h, tt)
      go (Kind.Leaf l) e = (h, tt)
  opening_have n (loose_wrapper c) h = h
  opening_have n (segment tag) h = tt
  opening_have n (foreign m) h = omega (arith, h)
  opening_have n (left_out row) h = tt

  after_have : (n : ℕ) (nx : Next) (ts : Trees) → IsNextOf n nx → IsNextOf n (after_by bare nx ts)
  after_have n nx none h = h
  after_have n nx (more T ts) h = go (λ d k. after_have n (next_of d) ts k) (next_due bare (tag_of T) nx) (next_have n (tag_of T) nx h)
    where
      go : ((d : Due) → IsNextOf n (next_of d) → IsNextOf n (after_by bare (next_of d) ts)) → (o : Option Due) → IsDueOf n o
          → IsNextOf n (elim o as (λ _. Next) [ Some d ↦ after_by bare (next_of d) ts | None ↦ nx ])
      go later (Some d) k = later d k.1
      go later None k = h

root_is : (full : Bool) → IsTrue (is_of full (root_of full))
root_is false = refl
root_is true = refl

module _ (p : Profile) where
  -- what is due at a place, and the elements that are open there, are of the profile
  pub next_of_profile : (path : List Open) (u : List ℕ) → IsPlace p u path → IsNextOf p.full p.bare (length path) (next_in p path)
  next_of_profile [] u h = ((refl, root_is p.full, omega arith), tt)
  next_of_profile (o ∷ path) u h =
      let d = h.4.is_due in
      let e = subst (IsDueOf p.full p.bare (length path)) d.1 (next_have p.full p.bare (length path) o.tag (next_in p path) (next_of_profile path h.0 h.3)) in
      let one : length path + 1 ≡ suc (length path) = omega arith in
      subst (λ (n : ℕ). IsNextOf p.full p.bare n (next_in p (o ∷ path))) one
      (after_have p.full p.bare (length path + 1) (opening p o.element) o.trees (opening_have p.full p.bare (length path) o.element (subst (IsElementOf p.full p.bare (length path)) d.2 e.0)))

  pub due_of_profile : (path : List Open) (u : List ℕ) (tag : Tag) (d : Due) → IsPlace p u path → due p tag (next_in p path) ≡ Some d → IsElementOf p.full p.bare (length path) (element_of d)
  due_of_profile path u tag d h e = (subst (IsDueOf p.full p.bare (length path)) e (next_have p.full p.bare (length path) tag (next_in p path) (next_of_profile path u h))).0

  pub open_of_profile : (o : Open) (path : List Open) (u : List ℕ) → IsPlace p u (o ∷ path) → IsElementOf p.full p.bare (length path) o.element
  open_of_profile o path u h = let d = h.4.is_due in subst (IsElementOf p.full p.bare (length path)) d.2 (due_of_profile path h.0 o.tag d.0 h.3 d.1)

  -- how many elements are open where an element of the tables is due, and in a foreign tree
  pub due_shallow : (path : List Open) (u : List ℕ) (tag : Tag) (d : Due) → IsPlace p u path → due p tag (next_in p path) ≡ Some d → IsTrue (is_component (element_of d)) → length path ≤ 11
  due_shallow path u tag d h q c = go (element_of d) c (due_of_profile path u tag d h q)
    where
      go : (e : Element) → IsTrue (is_component e) → IsElementOf p.full p.bare (length path) e → length path ≤ 11
      go (leaf l) c k = k.1
      go (sequence node) c k = let le = k.1 in let end = levels_end node in let o = own_small (kind_of node) in omega (arith, le, end, o)
      go (list node) c k = let le = k.1 in let end = levels_end node in let o = own_small (kind_of node) in omega (arith, le, end, o)
      go (wrapper w) c k = let le = k.2 in let end = levels_end w.node in omega (arith, le, end)
      go (loose_wrapper w) c k = let le = k.2 in let end = levels_end w.node in omega (arith, le, end)
      go (segment t) c k = cc
      go (foreign m) c k = cc
      go (left_out row) c k = k.1

  pub foreign_shallow : (o : Open) (path : List Open) (u : List ℕ) (m : ℕ) → IsPlace p u (o ∷ path) → o.element ≡ foreign m → length (o ∷ path) + m ≤ 29
  foreign_shallow o path u m h e = let k : length path + 1 + m ≤ 29 = subst (IsElementOf p.full p.bare (length path)) e (open_of_profile o path u h) in omega (arith, k)

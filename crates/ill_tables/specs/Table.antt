-- The nodes of the schema, and the rows of each: the types of ISO 10161-1 and their components in order. Where the module profile
-- reads a type in another way than profile 2, the type has a node for each, and its table says in which rows they differ.
use Rattle.std.specs.Prelude.{ℕ, Bool, true, false, List, [], ◌∷◌, Some, None, pos, ℤ}
use Rattle.ber_tree.specs.declared.class.Class.{Class}
use Rattle.ill_tables.specs.declared.{node.NodeId.NodeId, node.Kind.Kind, node.LeafKind.LeafKind, part.Mode.Mode, part.Presence.Presence, part.Row.Row}
use Rattle.ill_tables.specs.declared.node.NodeId.TheVariants.{Boolean, Integer, Enumerated, IsoDate, IsoTime, PrintableString, IllString, LeftOut, Symbol, Name, SystemId, TransactionId, DateTime, ServiceDateTime, PostalAddress, SystemAddress, DeliveryAddress, ClientId, DeliveryService, RequesterOptionalMessages, ResponderOptionalMessages, SearchType, SupplyMediumInfo, ItemId, Amount, CostInfo, SendTo, SendToList, AlreadyTriedList, ThirdPartyInfo, UnitsPerMedium, UnitsPerMediumList, DateDue, ShippedVia, SupplyDetails, IllServiceTypes, SupplyMediumInfos, IllRequest, Shipped, LocationInfo, Locs, Conditional, Retry, Unfilled, Locations, WillSupply, HoldPlaced, Estimate, Results, IllAnswer, ConditionalReply, Cancel, CancelReply, Received, Recall, Returned, CheckedIn, Overdue, Renew, RenewAnswer, Lost, Damaged, MessageApdu, StatusQuery, Expired, IllApdu, Any, Null, ObjectIdentifier, OctetString, BitString, ObjectDescriptor, Encoding, External, TaggedExternal, Externals, Extension, Extensions, EDeliveryService, DocumentType, EDeliveryDetails, ElectronicDelivery, ElectronicDeliveries, SpecificUnits, DamagedPortion, DamagedDetails, HistoryReport, StatusReport, AlreadyForwarded, UserErrorReport, StateTransition, ProviderErrorReport, ErrorReport, ForwardNotification, StatusOrErrorReport, ModuleDeliveryService, ModuleShippedVia, ModuleItemId, ModuleUnitsPerMedium, ModuleUnitsPerMediumList, ModuleSupplyDetails, ModuleIllRequest, ModuleShipped, ModuleConditional, ModuleWillSupply, ModuleResults, ModuleIllAnswer, ModuleConditionalReply, ModuleCancel, ModuleCancelReply, ModuleReceived, ModuleRecall, ModuleReturned, ModuleCheckedIn, ModuleOverdue, ModuleRenew, ModuleRenewAnswer, ModuleLost, ModuleDamaged, ModuleMessageApdu, ModuleStatusQuery, ModuleExpired, ModuleIllApdu}

abbrev pub kind_of : NodeId → Kind
kind_of Boolean = Kind.Leaf LeafKind.Boolean
kind_of Integer = Kind.Leaf LeafKind.Integer
kind_of Enumerated = Kind.Leaf LeafKind.Enumerated
kind_of IsoDate = Kind.Leaf LeafKind.Date
kind_of IsoTime = Kind.Leaf LeafKind.Time
kind_of PrintableString = Kind.Leaf LeafKind.Printable
kind_of IllString = Kind.IllString
kind_of Symbol = Kind.Choice
kind_of Name = Kind.Choice
kind_of DeliveryService = Kind.Choice
kind_of SendToList = Kind.SeqOf
kind_of AlreadyTriedList = Kind.SeqOf
kind_of UnitsPerMediumList = Kind.SeqOf
kind_of ShippedVia = Kind.Choice
kind_of IllServiceTypes = Kind.SeqOf
kind_of SupplyMediumInfos = Kind.SeqOf
kind_of Locs = Kind.SeqOf
kind_of Results = Kind.Choice
kind_of IllApdu = Kind.Choice
kind_of Any = Kind.Any
kind_of Null = Kind.Leaf LeafKind.Null
kind_of ObjectIdentifier = Kind.Leaf LeafKind.ObjectIdentifier
kind_of OctetString = Kind.Leaf LeafKind.OctetString
kind_of BitString = Kind.Leaf LeafKind.BitString
kind_of ObjectDescriptor = Kind.Leaf LeafKind.ObjectDescriptor
kind_of Encoding = Kind.Choice
kind_of TaggedExternal = Kind.Choice
kind_of EDeliveryDetails = Kind.Choice
kind_of DamagedPortion = Kind.Choice
kind_of UserErrorReport = Kind.Choice
kind_of ProviderErrorReport = Kind.Choice
kind_of ModuleDeliveryService = Kind.Choice
kind_of ModuleShippedVia = Kind.Choice
kind_of ModuleResults = Kind.Choice
kind_of ModuleIllApdu = Kind.Choice
kind_of Externals = Kind.SeqOf
kind_of Extensions = Kind.SeqOf
kind_of ElectronicDeliveries = Kind.SeqOf
kind_of SpecificUnits = Kind.SeqOf
kind_of ModuleUnitsPerMediumList = Kind.SeqOf
kind_of _ = Kind.Seq

-- a tag is explicit on a choice, and so on an ILL-String, and on an open type, and implicit elsewhere (X.680, 31.2.7)
abbrev pub tag_mode : Kind → Mode
tag_mode Kind.Choice = Mode.Explicit
tag_mode Kind.IllString = Mode.Explicit
tag_mode Kind.Any = Mode.Explicit
tag_mode _ = Mode.Implicit

abbrev tagged : Class → Mode → Presence → ℕ → NodeId → Row
tagged class mode presence number node = record { tag = Some (class, number); mode = mode; presence = presence; node = node }

abbrev component : Presence → ℕ → NodeId → Row
component presence number node = tagged Class.Context (tag_mode (kind_of node)) presence number node

abbrev mandatory : ℕ → NodeId → Row
mandatory = component Presence.Must

abbrev optional : ℕ → NodeId → Row
optional = component Presence.May

abbrev default : ℤ → ℕ → NodeId → Row
default d = component (Presence.Default d)

abbrev explicit : Presence → ℕ → NodeId → Row
explicit = tagged Class.Context Mode.Explicit

abbrev untagged : Presence → NodeId → Row
untagged presence node = record { tag = None; mode = Mode.Untagged; presence = presence; node = node }

-- a result, which may be bare where the profile allows it
abbrev result : ℕ → NodeId → Row
result = tagged Class.Context Mode.ExplicitOrBare Presence.Must

-- an APDU, which may be bare, too
abbrev apdu : ℕ → NodeId → Row
apdu = tagged Class.Application Mode.ExplicitOrBare Presence.Must

-- a row of the module that profile 2 leaves out
abbrev only : Bool → Row → Row
only true row = row
only false row = record { tag = row.tag; mode = Mode.Implicit; presence = Presence.LeftOut; node = LeftOut }

-- a row of the module that profile 2 doesn't have at all
abbrev added : Bool → Row → List Row
added true row = row ∷ []
added false row = []

-- a row whose tag is explicit in the module alone
abbrev strict : Bool → Presence → ℕ → NodeId → Row
strict true presence number node = explicit presence number node
strict false presence number node = component presence number node

-- the node of the module profile for the type of a node of profile 2
abbrev pub twin : NodeId → NodeId
twin DeliveryService = ModuleDeliveryService
twin ShippedVia = ModuleShippedVia
twin ItemId = ModuleItemId
twin UnitsPerMedium = ModuleUnitsPerMedium
twin UnitsPerMediumList = ModuleUnitsPerMediumList
twin SupplyDetails = ModuleSupplyDetails
twin IllRequest = ModuleIllRequest
twin Shipped = ModuleShipped
twin Conditional = ModuleConditional
twin WillSupply = ModuleWillSupply
twin Results = ModuleResults
twin IllAnswer = ModuleIllAnswer
twin ConditionalReply = ModuleConditionalReply
twin Cancel = ModuleCancel
twin CancelReply = ModuleCancelReply
twin Received = ModuleReceived
twin Recall = ModuleRecall
twin Returned = ModuleReturned
twin CheckedIn = ModuleCheckedIn
twin Overdue = ModuleOverdue
twin Renew = ModuleRenew
twin RenewAnswer = ModuleRenewAnswer
twin Lost = ModuleLost
twin Damaged = ModuleDamaged
twin MessageApdu = ModuleMessageApdu
twin StatusQuery = ModuleStatusQuery
twin Expired = ModuleExpired
twin IllApdu = ModuleIllApdu
twin node = node

-- the node that a profile has for a node of profile 2
abbrev pub twin_in : Bool → NodeId → NodeId
twin_in true node = twin node
twin_in false node = node

abbrev extensions : Bool → Row
extensions full = only full (optional 49 Extensions)

abbrev supplements : Bool → Row
supplements full = only full (optional 17 Externals)

-- the rows that each APDU begins with
abbrev head : List Row → List Row
head rows =
    mandatory 0 Integer ∷ mandatory 1 TransactionId ∷ mandatory 2 ServiceDateTime
    ∷ optional 3 SystemId ∷ optional 4 SystemId ∷ rows

-- the rows of a node in profile 2, and with `full` those of its twin in the module profile. EXTERNAL is a SEQUENCE under the tag of
-- class universal with number 8 (X.690, 8.18.1): `TaggedExternal` is that tag, round the components of `External`.
abbrev rows : Bool → NodeId → List Row
rows full Symbol = mandatory 0 IllString ∷ mandatory 1 IllString ∷ []
rows full Name = mandatory 0 IllString ∷ mandatory 1 IllString ∷ []
rows full SystemId = optional 0 Symbol ∷ optional 1 Name ∷ []
rows full TransactionId = optional 0 SystemId ∷ mandatory 1 IllString ∷ mandatory 2 IllString ∷ optional 3 IllString ∷ []
rows full DateTime = mandatory 0 IsoDate ∷ optional 1 IsoTime ∷ []
rows full ServiceDateTime = mandatory 0 DateTime ∷ optional 1 DateTime ∷ []
rows full PostalAddress =
    optional 0 Name ∷ optional 1 IllString ∷ optional 2 IllString ∷ optional 3 IllString
    ∷ optional 4 IllString ∷ optional 5 IllString ∷ optional 6 IllString ∷ optional 7 IllString ∷ []
rows full SystemAddress = optional 0 IllString ∷ optional 1 IllString ∷ []
rows full DeliveryAddress = optional 0 PostalAddress ∷ optional 1 SystemAddress ∷ []
rows full ClientId = optional 0 IllString ∷ optional 1 IllString ∷ optional 2 IllString ∷ []
rows full DeliveryService = mandatory 7 IllString ∷ only full (mandatory 50 ElectronicDeliveries) ∷ []
rows full RequesterOptionalMessages =
    mandatory 0 Boolean ∷ mandatory 1 Boolean ∷ mandatory 2 Enumerated ∷ mandatory 3 Enumerated ∷ []
rows full ResponderOptionalMessages =
    mandatory 0 Boolean ∷ mandatory 1 Boolean ∷ mandatory 2 Enumerated ∷ mandatory 3 Enumerated ∷ []
rows full SearchType = optional 0 IllString ∷ optional 1 IsoDate ∷ default (pos 3) 2 Enumerated ∷ optional 3 IsoDate ∷ []
rows full SupplyMediumInfo = mandatory 0 Enumerated ∷ optional 1 IllString ∷ []
rows full ItemId =
    optional 0 Enumerated ∷ optional 1 Enumerated ∷ optional 2 IllString ∷ optional 3 IllString ∷ optional 4 IllString
    ∷ optional 5 IllString ∷ optional 6 IllString ∷ optional 7 IllString ∷ optional 8 IllString ∷ optional 9 IllString
    ∷ optional 10 IllString ∷ optional 11 IllString ∷ optional 12 IllString ∷ optional 13 IllString
    ∷ optional 14 IllString ∷ optional 15 IllString ∷ optional 16 IllString ∷ only full (optional 17 TaggedExternal)
    ∷ optional 18 IllString
    ∷ optional 19 IllString ∷ only full (optional 20 TaggedExternal) ∷ optional 21 IllString ∷ optional 22 IllString ∷ []
rows full Amount = optional 0 PrintableString ∷ mandatory 1 PrintableString ∷ []
rows full CostInfo =
    optional 0 IllString ∷ optional 1 Amount ∷ default (pos 0) 2 Boolean
    ∷ default (pos 0) 3 Boolean ∷ default (pos 0) 4 Boolean ∷ []
rows full SendTo = mandatory 0 SystemId ∷ optional 1 IllString ∷ optional 2 SystemAddress ∷ []
rows full SendToList = untagged Presence.Must SendTo ∷ []
rows full AlreadyTriedList = untagged Presence.Must SystemId ∷ []
rows full ThirdPartyInfo =
    default (pos 0) 0 Boolean ∷ default (pos 0) 1 Boolean ∷ default (pos 0) 2 Boolean ∷ default (pos 0) 3 Boolean
    ∷ optional 4 SystemAddress ∷ default (pos 2) 5 Enumerated ∷ optional 6 SendToList ∷ optional 7 AlreadyTriedList ∷ []
rows full UnitsPerMedium = strict full Presence.Must 0 Enumerated ∷ strict full Presence.Must 1 Integer ∷ []
rows full UnitsPerMediumList = untagged Presence.Must (twin_in full UnitsPerMedium) ∷ []
rows full DateDue = mandatory 0 IsoDate ∷ default (pos 1) 1 Boolean ∷ []
rows full ShippedVia = mandatory 5 IllString ∷ only full (mandatory 50 ElectronicDelivery) ∷ []
rows full SupplyDetails =
    optional 0 IsoDate ∷ optional 1 DateDue ∷ optional 2 Integer ∷ optional 3 Amount ∷ optional 4 Enumerated
    ∷ untagged Presence.May (twin_in full ShippedVia) ∷ optional 6 Amount ∷ optional 7 Amount
    ∷ optional 8 (twin_in full UnitsPerMediumList) ∷ []
rows full IllServiceTypes = untagged Presence.Must Enumerated ∷ []
rows full SupplyMediumInfos = untagged Presence.Must SupplyMediumInfo ∷ []
rows full IllRequest =
    head (default (pos 1) 5 Enumerated ∷ optional 6 DeliveryAddress ∷ untagged Presence.May (twin_in full DeliveryService)
    ∷ optional 8 DeliveryAddress ∷ mandatory 9 IllServiceTypes ∷ only full (optional 10 TaggedExternal)
    ∷ mandatory 11 RequesterOptionalMessages ∷ optional 12 SearchType ∷ optional 13 SupplyMediumInfos
    ∷ default (pos 3) 14 Enumerated ∷ optional 15 ClientId ∷ mandatory 16 (twin_in full ItemId) ∷ supplements full
    ∷ optional 18 CostInfo ∷ optional 19 IllString ∷ optional 20 ThirdPartyInfo ∷ default (pos 0) 21 Boolean
    ∷ default (pos 0) 22 Boolean ∷ optional 46 IllString ∷ optional 47 IllString ∷ extensions full ∷ [])
rows full Shipped =
    head (optional 24 SystemAddress ∷ optional 25 SystemId ∷ optional 26 SystemId ∷ optional 15 ClientId
    ∷ default (pos 1) 5 Enumerated ∷ supplements full ∷ mandatory 27 Enumerated ∷ optional 28 ResponderOptionalMessages
    ∷ mandatory 29 (twin_in full SupplyDetails) ∷ optional 30 PostalAddress ∷ optional 46 IllString ∷ extensions full ∷ [])
rows full LocationInfo = mandatory 0 SystemId ∷ optional 1 SystemAddress ∷ optional 2 IllString ∷ []
rows full Locs = untagged Presence.Must LocationInfo ∷ []
rows full Conditional =
    mandatory 0 Enumerated ∷ optional 1 IsoDate ∷ optional 2 Locs
    ∷ added full (untagged Presence.May (twin_in full DeliveryService))
rows full Retry = optional 0 Enumerated ∷ optional 1 IsoDate ∷ optional 2 Locs ∷ []
rows full Unfilled = mandatory 0 Enumerated ∷ optional 1 Locs ∷ []
rows full Locations = optional 0 Enumerated ∷ mandatory 1 Locs ∷ []
rows full WillSupply =
    strict full Presence.Must 0 Enumerated ∷ strict full Presence.May 1 IsoDate ∷ strict full Presence.May 2 PostalAddress
    ∷ optional 3 Locs ∷ only full (explicit Presence.May 4 ElectronicDelivery) ∷ []
rows full HoldPlaced = mandatory 0 IsoDate ∷ optional 1 Enumerated ∷ optional 2 Locs ∷ []
rows full Estimate = mandatory 0 IllString ∷ optional 1 Locs ∷ []
rows full Results =
    result 1 (twin_in full Conditional) ∷ result 2 Retry ∷ result 3 Unfilled ∷ result 4 Locations
    ∷ result 5 (twin_in full WillSupply) ∷ result 6 HoldPlaced ∷ result 7 Estimate ∷ []
rows full IllAnswer =
    head (mandatory 31 Enumerated ∷ optional 32 (twin_in full Results) ∷ only full (optional 33 TaggedExternal)
    ∷ supplements full ∷ optional 23 SendToList
    ∷ optional 34 AlreadyTriedList ∷ optional 28 ResponderOptionalMessages ∷ optional 46 IllString ∷ extensions full ∷ [])
rows full ConditionalReply = head (mandatory 35 Boolean ∷ optional 46 IllString ∷ extensions full ∷ [])
rows full Cancel = head (optional 46 IllString ∷ extensions full ∷ [])
rows full CancelReply = head (mandatory 35 Boolean ∷ optional 46 IllString ∷ extensions full ∷ [])
rows full Received =
    head (optional 26 SystemId ∷ supplements full ∷ mandatory 36 IsoDate
    ∷ mandatory 27 Enumerated ∷ optional 46 IllString ∷ extensions full ∷ [])
rows full Recall = head (optional 46 IllString ∷ extensions full ∷ [])
rows full Returned =
    head (supplements full ∷ mandatory 37 IsoDate ∷ optional 38 IllString
    ∷ optional 39 Amount ∷ optional 46 IllString ∷ extensions full ∷ [])
rows full CheckedIn = head (mandatory 40 IsoDate ∷ optional 46 IllString ∷ extensions full ∷ [])
rows full Overdue = head (mandatory 41 DateDue ∷ optional 46 IllString
    ∷ only full (explicit Presence.May 49 Extensions) ∷ [])
rows full Renew = head (optional 42 IsoDate ∷ optional 46 IllString ∷ extensions full ∷ [])
rows full RenewAnswer = head (mandatory 35 Boolean ∷ optional 41 DateDue ∷ optional 46 IllString ∷ extensions full ∷ [])
rows full Lost = head (optional 46 IllString ∷ extensions full ∷ [])
rows full Damaged = head (only full (optional 5 DamagedDetails) ∷ optional 46 IllString ∷ extensions full ∷ [])
rows full MessageApdu = head (mandatory 46 IllString ∷ extensions full ∷ [])
rows full StatusQuery = head (optional 46 IllString ∷ extensions full ∷ [])
rows full Expired = head (extensions full ∷ [])
rows full IllApdu =
    apdu 1 (twin_in full IllRequest) ∷ only full (apdu 2 ForwardNotification) ∷ apdu 3 (twin_in full Shipped)
    ∷ apdu 4 (twin_in full IllAnswer)
    ∷ apdu 5 (twin_in full ConditionalReply) ∷ apdu 6 (twin_in full Cancel) ∷ apdu 7 (twin_in full CancelReply)
    ∷ apdu 8 (twin_in full Received)
    ∷ apdu 9 (twin_in full Recall) ∷ apdu 10 (twin_in full Returned) ∷ apdu 11 (twin_in full CheckedIn)
    ∷ apdu 12 (twin_in full Overdue)
    ∷ apdu 13 (twin_in full Renew) ∷ apdu 14 (twin_in full RenewAnswer) ∷ apdu 15 (twin_in full Lost)
    ∷ apdu 16 (twin_in full Damaged)
    ∷ apdu 17 (twin_in full MessageApdu) ∷ apdu 18 (twin_in full StatusQuery)
    ∷ only full (apdu 19 StatusOrErrorReport) ∷ apdu 20 (twin_in full Expired) ∷ []
rows full Encoding = mandatory 0 Any ∷ mandatory 1 OctetString ∷ mandatory 2 BitString ∷ []
rows full External =
    untagged Presence.May ObjectIdentifier ∷ untagged Presence.May Integer ∷ untagged Presence.May ObjectDescriptor
    ∷ untagged Presence.Must Encoding ∷ []
rows full TaggedExternal = tagged Class.Universal Mode.Implicit Presence.Must 8 External ∷ []
rows full Externals = untagged Presence.Must TaggedExternal ∷ []
rows full Extension = mandatory 0 Integer ∷ default (pos 0) 1 Boolean ∷ mandatory 2 Any ∷ []
rows full Extensions = untagged Presence.Must Extension ∷ []
rows full EDeliveryService = mandatory 0 ObjectIdentifier ∷ mandatory 1 Any ∷ []
rows full DocumentType = mandatory 2 ObjectIdentifier ∷ mandatory 3 Any ∷ []
rows full EDeliveryDetails = mandatory 0 SystemAddress ∷ mandatory 1 SystemId ∷ []
rows full ElectronicDelivery =
    optional 0 EDeliveryService ∷ optional 1 DocumentType ∷ optional 4 IllString ∷ mandatory 5 EDeliveryDetails
    ∷ optional 6 IllString ∷ optional 7 IsoTime ∷ []
rows full ElectronicDeliveries = untagged Presence.Must ElectronicDelivery ∷ []
rows full SpecificUnits = untagged Presence.Must Integer ∷ []
rows full DamagedPortion = mandatory 1 Null ∷ mandatory 2 SpecificUnits ∷ []
rows full DamagedDetails = optional 0 ObjectIdentifier ∷ untagged Presence.Must DamagedPortion ∷ []
rows full HistoryReport =
    optional 0 IsoDate ∷ optional 1 IllString ∷ optional 2 IllString ∷ optional 3 IllString ∷ optional 4 IllString
    ∷ mandatory 5 IsoDate ∷ mandatory 6 Enumerated ∷ mandatory 7 IsoDate ∷ mandatory 8 SystemId
    ∷ optional 9 Enumerated ∷ optional 10 Enumerated ∷ optional 11 IllString ∷ []
rows full StatusReport = mandatory 0 HistoryReport ∷ mandatory 1 Enumerated ∷ []
rows full AlreadyForwarded = mandatory 0 SystemId ∷ optional 1 SystemAddress ∷ []
rows full UserErrorReport =
    mandatory 0 AlreadyForwarded ∷ mandatory 1 Enumerated ∷ mandatory 2 IllString ∷ mandatory 3 Enumerated ∷ []
rows full StateTransition = mandatory 0 Enumerated ∷ mandatory 1 Enumerated ∷ []
rows full ProviderErrorReport = mandatory 0 Enumerated ∷ mandatory 1 Enumerated ∷ mandatory 2 StateTransition ∷ []
rows full ErrorReport =
    mandatory 0 IllString ∷ mandatory 1 Enumerated ∷ optional 2 UserErrorReport ∷ optional 3 ProviderErrorReport ∷ []
rows full ForwardNotification =
    mandatory 0 Integer ∷ mandatory 1 TransactionId ∷ mandatory 2 ServiceDateTime ∷ optional 3 SystemId
    ∷ mandatory 4 SystemId ∷ optional 24 SystemAddress ∷ mandatory 25 SystemId ∷ optional 48 IllString
    ∷ optional 49 Extensions ∷ []
rows full StatusOrErrorReport =
    head (optional 43 Enumerated ∷ optional 44 StatusReport ∷ optional 45 ErrorReport ∷ optional 46 IllString
    ∷ optional 49 Extensions ∷ [])
rows full _ = []

abbrev pub rows_of : NodeId → List Row
rows_of ModuleDeliveryService = rows true DeliveryService
rows_of ModuleShippedVia = rows true ShippedVia
rows_of ModuleItemId = rows true ItemId
rows_of ModuleUnitsPerMedium = rows true UnitsPerMedium
rows_of ModuleUnitsPerMediumList = rows true UnitsPerMediumList
rows_of ModuleSupplyDetails = rows true SupplyDetails
rows_of ModuleIllRequest = rows true IllRequest
rows_of ModuleShipped = rows true Shipped
rows_of ModuleConditional = rows true Conditional
rows_of ModuleWillSupply = rows true WillSupply
rows_of ModuleResults = rows true Results
rows_of ModuleIllAnswer = rows true IllAnswer
rows_of ModuleConditionalReply = rows true ConditionalReply
rows_of ModuleCancel = rows true Cancel
rows_of ModuleCancelReply = rows true CancelReply
rows_of ModuleReceived = rows true Received
rows_of ModuleRecall = rows true Recall
rows_of ModuleReturned = rows true Returned
rows_of ModuleCheckedIn = rows true CheckedIn
rows_of ModuleOverdue = rows true Overdue
rows_of ModuleRenew = rows true Renew
rows_of ModuleRenewAnswer = rows true RenewAnswer
rows_of ModuleLost = rows true Lost
rows_of ModuleDamaged = rows true Damaged
rows_of ModuleMessageApdu = rows true MessageApdu
rows_of ModuleStatusQuery = rows true StatusQuery
rows_of ModuleExpired = rows true Expired
rows_of ModuleIllApdu = rows true IllApdu
rows_of node = rows false node

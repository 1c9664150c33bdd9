-- What may come next at each spot. `tests/model/comb.py` writes this file.
use Rattle.std.specs.Prelude.{ℕ, ◌/◌, ◌%◌, List, [], ◌∷◌, get_or}
use Rattle.ill_tables.specs.declared.node.NodeId.{NodeId}
use Rattle.ill_tables.specs.declared.node.NodeId.TheVariants.{AlreadyForwarded, AlreadyTriedList, Amount, Cancel, CancelReply, CheckedIn, ClientId, Conditional, ConditionalReply, CostInfo, Damaged, DamagedDetails, DateDue, DateTime, DeliveryAddress, DocumentType, EDeliveryDetails, EDeliveryService, ElectronicDeliveries, ElectronicDelivery, Enumerated, ErrorReport, Estimate, Expired, Extension, Extensions, External, Externals, ForwardNotification, HistoryReport, HoldPlaced, IllAnswer, IllApdu, IllRequest, IllServiceTypes, Integer, IsoDate, ItemId, LocationInfo, Locations, Locs, Lost, MessageApdu, ModuleCancel, ModuleCancelReply, ModuleCheckedIn, ModuleConditional, ModuleConditionalReply, ModuleDamaged, ModuleExpired, ModuleIllAnswer, ModuleIllApdu, ModuleIllRequest, ModuleItemId, ModuleLost, ModuleMessageApdu, ModuleOverdue, ModuleRecall, ModuleReceived, ModuleRenew, ModuleRenewAnswer, ModuleResults, ModuleReturned, ModuleShipped, ModuleStatusQuery, ModuleSupplyDetails, ModuleUnitsPerMedium, ModuleUnitsPerMediumList, ModuleWillSupply, Name, Overdue, PostalAddress, ProviderErrorReport, Recall, Received, Renew, RenewAnswer, RequesterOptionalMessages, ResponderOptionalMessages, Results, Retry, Returned, SearchType, SendTo, SendToList, ServiceDateTime, Shipped, SpecificUnits, StateTransition, StatusOrErrorReport, StatusQuery, StatusReport, SupplyDetails, SupplyMediumInfo, SupplyMediumInfos, Symbol, SystemAddress, SystemId, TaggedExternal, ThirdPartyInfo, TransactionId, Unfilled, UnitsPerMedium, UnitsPerMediumList, UserErrorReport, WillSupply}
use Rattle.ill_grammar.specs.declared.due.Next.{Next}
use Rattle.ill_grammar.specs.declared.due.Next.TheVariants.{Rows, Inner, Items, Either, Nothing}
use Rattle.ill_grammar.specs.declared.element.Wrapped.{Wrapped}

abbrev wrapped : NodeId → ℕ → NodeId → Wrapped
wrapped parent row node = record { part = record { node = parent; row = row }; node = node }

abbrev inner : NodeId → ℕ → NodeId → Next
inner parent row node = Inner (wrapped parent row node)

abbrev either : NodeId → ℕ → NodeId → Next
either parent row node = Either (wrapped parent row node)

-- by 16 spots
unfoldable pub spots : List (List Next)
spots =
    (inner ModuleIllApdu 0 ModuleIllApdu ∷ Rows TransactionId 0 ∷ Rows ModuleShipped 3 ∷ either IllApdu 0 IllRequest ∷ Rows Shipped 9 ∷ Rows Shipped 3 ∷ either IllApdu 2 Shipped ∷ Rows ModuleIllRequest 3 ∷ Rows ModuleShipped 4 ∷ Rows Shipped 7 ∷ either IllApdu 3 IllAnswer ∷ either IllApdu 4 ConditionalReply ∷ either IllApdu 5 Cancel ∷ either IllApdu 6 CancelReply ∷ either IllApdu 7 Received ∷ either IllApdu 8 Recall ∷ [])
    ∷ (inner ErrorReport 3 ProviderErrorReport ∷ either IllApdu 9 Returned ∷ Rows Amount 0 ∷ either IllApdu 10 CheckedIn ∷ inner IllApdu 0 IllApdu ∷ either IllApdu 11 Overdue ∷ either IllApdu 12 Renew ∷ either IllApdu 13 RenewAnswer ∷ either IllApdu 14 Lost ∷ either IllApdu 15 Damaged ∷ either IllApdu 16 MessageApdu ∷ either IllApdu 17 StatusQuery ∷ either IllApdu 19 Expired ∷ either ModuleIllApdu 0 ModuleIllRequest ∷ either ModuleIllApdu 1 ForwardNotification ∷ either ModuleIllApdu 2 ModuleShipped ∷ [])
    ∷ (either ModuleIllApdu 3 ModuleIllAnswer ∷ either ModuleIllApdu 4 ModuleConditionalReply ∷ Rows IllRequest 3 ∷ either ModuleIllApdu 5 ModuleCancel ∷ either ModuleIllApdu 6 ModuleCancelReply ∷ either ModuleIllApdu 7 ModuleReceived ∷ either ModuleIllApdu 8 ModuleRecall ∷ either ModuleIllApdu 9 ModuleReturned ∷ either ModuleIllApdu 10 ModuleCheckedIn ∷ either ModuleIllApdu 11 ModuleOverdue ∷ either ModuleIllApdu 12 ModuleRenew ∷ either ModuleIllApdu 13 ModuleRenewAnswer ∷ inner IllAnswer 6 Results ∷ either ModuleIllApdu 14 ModuleLost ∷ either ModuleIllApdu 15 ModuleDamaged ∷ either ModuleIllApdu 16 ModuleMessageApdu ∷ [])
    ∷ (Rows ModuleIllRequest 4 ∷ Rows Shipped 4 ∷ Rows External 0 ∷ inner ModuleUnitsPerMedium 1 Integer ∷ inner ModuleIllRequest 10 TaggedExternal ∷ Rows EDeliveryService 0 ∷ inner ModuleUnitsPerMedium 0 Enumerated ∷ Rows DocumentType 0 ∷ inner ModuleIllAnswer 7 TaggedExternal ∷ Rows External 2 ∷ inner ModuleWillSupply 0 Enumerated ∷ Rows Extension 2 ∷ Nothing ∷ Nothing ∷ Nothing ∷ Rows ModuleShipped 5 ∷ [])
    ∷ (inner ModuleIllAnswer 6 ModuleResults ∷ Nothing ∷ Rows ModuleShipped 8 ∷ Nothing ∷ Nothing ∷ Nothing ∷ either ModuleIllApdu 17 ModuleStatusQuery ∷ Nothing ∷ Nothing ∷ Rows Overdue 3 ∷ Nothing ∷ Rows IllAnswer 4 ∷ Nothing ∷ Nothing ∷ Nothing ∷ Nothing ∷ [])
    ∷ (Nothing ∷ Nothing ∷ Nothing ∷ Nothing ∷ Nothing ∷ Nothing ∷ Rows IllRequest 4 ∷ Rows Shipped 5 ∷ Nothing ∷ Rows ModuleShipped 6 ∷ Rows ModuleIllRequest 5 ∷ either ModuleIllApdu 18 StatusOrErrorReport ∷ Nothing ∷ Nothing ∷ Nothing ∷ either ModuleIllApdu 19 ModuleExpired ∷ [])
    ∷ (Nothing ∷ Nothing ∷ Nothing ∷ Nothing ∷ inner ModuleOverdue 7 Extensions ∷ either Results 0 Conditional ∷ either Results 1 Retry ∷ either Results 2 Unfilled ∷ Rows Locations 0 ∷ either Results 3 Locations ∷ Rows ModuleReceived 3 ∷ Rows IllRequest 1 ∷ either Results 4 WillSupply ∷ Nothing ∷ either Results 5 HoldPlaced ∷ Nothing ∷ [])
    ∷ (Rows Shipped 6 ∷ Rows IllAnswer 3 ∷ inner ModuleItemId 17 TaggedExternal ∷ inner ModuleItemId 20 TaggedExternal ∷ Nothing ∷ Nothing ∷ Rows HistoryReport 0 ∷ Nothing ∷ Nothing ∷ Nothing ∷ Rows ModuleIllRequest 6 ∷ Nothing ∷ Nothing ∷ Rows Shipped 1 ∷ inner ModuleWillSupply 1 IsoDate ∷ Rows IllRequest 5 ∷ [])
    ∷ (Nothing ∷ Nothing ∷ Rows ModuleShipped 7 ∷ Nothing ∷ Nothing ∷ Rows IllRequest 0 ∷ Nothing ∷ Nothing ∷ Rows IllRequest 12 ∷ Rows Received 3 ∷ Rows ModuleReceived 4 ∷ Nothing ∷ Rows ModuleReturned 3 ∷ Nothing ∷ Nothing ∷ Nothing ∷ [])
    ∷ (Nothing ∷ Nothing ∷ Rows ConditionalReply 4 ∷ Nothing ∷ Nothing ∷ Nothing ∷ Nothing ∷ Nothing ∷ Rows IllRequest 6 ∷ Nothing ∷ Nothing ∷ Nothing ∷ Rows Shipped 0 ∷ Rows ModuleIllRequest 12 ∷ Rows ModuleIllRequest 7 ∷ Nothing ∷ [])
    ∷ (Nothing ∷ Nothing ∷ Nothing ∷ Nothing ∷ Nothing ∷ Nothing ∷ Nothing ∷ Nothing ∷ Nothing ∷ Nothing ∷ Nothing ∷ Rows IllRequest 13 ∷ Nothing ∷ Rows HistoryReport 1 ∷ Rows Received 5 ∷ Nothing ∷ [])
    ∷ (Nothing ∷ Rows ConditionalReply 3 ∷ Rows ElectronicDelivery 0 ∷ Nothing ∷ Nothing ∷ Rows CheckedIn 4 ∷ Nothing ∷ Nothing ∷ Nothing ∷ Rows CancelReply 4 ∷ Rows ModuleIllRequest 13 ∷ Nothing ∷ Nothing ∷ Rows HistoryReport 2 ∷ Nothing ∷ Nothing ∷ [])
    ∷ (Nothing ∷ Rows CancelReply 3 ∷ Rows Received 4 ∷ Nothing ∷ Nothing ∷ Nothing ∷ Nothing ∷ Nothing ∷ Rows Returned 3 ∷ Nothing ∷ Rows CheckedIn 3 ∷ Nothing ∷ Rows Returned 4 ∷ Nothing ∷ Rows Overdue 4 ∷ Nothing ∷ [])
    ∷ (Nothing ∷ Rows RenewAnswer 3 ∷ Nothing ∷ Rows MessageApdu 3 ∷ Nothing ∷ Nothing ∷ Rows ModuleIllAnswer 3 ∷ Nothing ∷ Nothing ∷ Nothing ∷ Nothing ∷ inner ErrorReport 2 UserErrorReport ∷ Rows ModuleConditionalReply 3 ∷ Rows Shipped 8 ∷ Rows ModuleCancelReply 3 ∷ Rows ModuleReceived 5 ∷ [])
    ∷ (Rows ModuleCheckedIn 3 ∷ Nothing ∷ Rows ModuleOverdue 3 ∷ Nothing ∷ Rows ModuleRenewAnswer 3 ∷ Nothing ∷ Rows ModuleMessageApdu 3 ∷ Nothing ∷ Nothing ∷ Nothing ∷ Nothing ∷ Rows MessageApdu 5 ∷ Rows IllRequest 7 ∷ Rows ModuleReturned 4 ∷ Nothing ∷ Rows Shipped 12 ∷ [])
    ∷ (Rows IllRequest 14 ∷ Nothing ∷ Nothing ∷ Nothing ∷ Nothing ∷ Nothing ∷ Rows ElectronicDelivery 1 ∷ Rows Overdue 5 ∷ Rows RenewAnswer 4 ∷ Nothing ∷ Nothing ∷ Nothing ∷ Nothing ∷ Nothing ∷ Rows ModuleOverdue 5 ∷ Rows ForwardNotification 3 ∷ [])
    ∷ (Nothing ∷ Rows IllRequest 8 ∷ Rows MessageApdu 4 ∷ Nothing ∷ inner SystemId 0 Symbol ∷ Rows ModuleReceived 6 ∷ Rows ModuleShipped 9 ∷ inner SystemId 1 Name ∷ Rows ModuleIllRequest 8 ∷ Rows ForwardNotification 5 ∷ Rows ModuleIllRequest 14 ∷ Rows ModuleIllAnswer 4 ∷ Rows ModuleShipped 12 ∷ Nothing ∷ Rows ModuleConditionalReply 4 ∷ Nothing ∷ [])
    ∷ (Rows ModuleCancelReply 4 ∷ Rows Returned 5 ∷ Rows ModuleReturned 5 ∷ Rows ModuleShipped 10 ∷ Rows ModuleCheckedIn 4 ∷ Rows ModuleIllRequest 10 ∷ Rows IllAnswer 5 ∷ Rows Received 6 ∷ Rows HistoryReport 3 ∷ Rows CheckedIn 5 ∷ Nothing ∷ Rows ConditionalReply 5 ∷ Rows CancelReply 5 ∷ Rows ModuleCheckedIn 5 ∷ Nothing ∷ Nothing ∷ [])
    ∷ (Rows IllRequest 15 ∷ Rows RenewAnswer 5 ∷ Rows ModuleOverdue 4 ∷ Rows ModuleConditionalReply 5 ∷ Rows ModuleIllAnswer 5 ∷ Rows ModuleCancelReply 5 ∷ Rows ModuleRenewAnswer 4 ∷ Rows ModuleMessageApdu 4 ∷ Nothing ∷ Rows ModuleReceived 7 ∷ Nothing ∷ Nothing ∷ inner PostalAddress 0 Name ∷ Rows ModuleIllRequest 15 ∷ Nothing ∷ Nothing ∷ [])
    ∷ (Nothing ∷ Nothing ∷ Nothing ∷ Rows ElectronicDelivery 2 ∷ Nothing ∷ Nothing ∷ Nothing ∷ Nothing ∷ Nothing ∷ inner ElectronicDelivery 3 EDeliveryDetails ∷ Nothing ∷ Nothing ∷ Nothing ∷ Nothing ∷ Nothing ∷ Nothing ∷ [])
    ∷ (Nothing ∷ Nothing ∷ Nothing ∷ Nothing ∷ Nothing ∷ Nothing ∷ Nothing ∷ Nothing ∷ Nothing ∷ Nothing ∷ Nothing ∷ Nothing ∷ Nothing ∷ Nothing ∷ Nothing ∷ Rows ModuleMessageApdu 5 ∷ [])
    ∷ (Nothing ∷ Rows Shipped 13 ∷ Nothing ∷ Nothing ∷ Rows IllAnswer 0 ∷ Nothing ∷ Rows HistoryReport 4 ∷ Nothing ∷ Nothing ∷ Nothing ∷ Nothing ∷ Nothing ∷ Nothing ∷ Nothing ∷ Rows ConditionalReply 0 ∷ Rows Cancel 0 ∷ [])
    ∷ (Nothing ∷ Rows CancelReply 0 ∷ Nothing ∷ Rows Received 0 ∷ Rows IllRequest 10 ∷ Rows Recall 0 ∷ Rows Returned 0 ∷ Rows CheckedIn 0 ∷ Rows IllRequest 9 ∷ Nothing ∷ Rows Overdue 0 ∷ Rows Renew 0 ∷ Rows RenewAnswer 0 ∷ Rows Lost 0 ∷ Rows Damaged 0 ∷ Rows MessageApdu 0 ∷ [])
    ∷ (Rows StatusQuery 0 ∷ Rows Expired 0 ∷ Rows ModuleIllRequest 0 ∷ Rows ServiceDateTime 0 ∷ Rows ForwardNotification 0 ∷ Rows ModuleShipped 0 ∷ Rows ModuleIllAnswer 0 ∷ Rows ModuleConditionalReply 0 ∷ Rows IllAnswer 1 ∷ Rows ModuleCancel 0 ∷ Rows ConditionalReply 1 ∷ Rows ModuleCancelReply 0 ∷ Rows IllRequest 2 ∷ Rows ModuleReceived 0 ∷ Rows ModuleRecall 0 ∷ Rows ModuleReturned 0 ∷ [])
    ∷ (Rows ModuleCheckedIn 0 ∷ Rows ModuleOverdue 0 ∷ Rows Cancel 1 ∷ Rows ModuleRenew 0 ∷ Rows ModuleRenewAnswer 0 ∷ Rows ModuleLost 0 ∷ Rows ModuleDamaged 0 ∷ Rows ModuleMessageApdu 0 ∷ Rows ModuleStatusQuery 0 ∷ Rows StatusOrErrorReport 0 ∷ Rows CancelReply 1 ∷ Rows Received 1 ∷ Rows Recall 1 ∷ Rows ModuleExpired 0 ∷ Rows Returned 1 ∷ Rows CheckedIn 1 ∷ [])
    ∷ (Rows DateTime 0 ∷ Rows Overdue 1 ∷ Rows Renew 1 ∷ Rows RenewAnswer 1 ∷ Rows Lost 1 ∷ Rows Damaged 1 ∷ Rows MessageApdu 1 ∷ Rows StatusQuery 1 ∷ Rows Expired 1 ∷ Rows ModuleIllRequest 1 ∷ Rows ForwardNotification 1 ∷ Rows ModuleShipped 1 ∷ Rows ModuleIllAnswer 1 ∷ Rows ModuleConditionalReply 1 ∷ Rows ModuleCancel 1 ∷ Rows ModuleCancelReply 1 ∷ [])
    ∷ (Rows ModuleReceived 1 ∷ Rows ModuleRecall 1 ∷ Rows ModuleReturned 1 ∷ Rows ModuleCheckedIn 1 ∷ Rows ModuleOverdue 1 ∷ Rows ModuleRenew 1 ∷ Rows ModuleRenewAnswer 1 ∷ Rows ModuleLost 1 ∷ Rows ModuleDamaged 1 ∷ Rows ModuleMessageApdu 1 ∷ Rows ModuleStatusQuery 1 ∷ Rows ModuleReturned 6 ∷ Rows StatusOrErrorReport 1 ∷ Rows ModuleExpired 1 ∷ Rows Shipped 2 ∷ Rows IllAnswer 2 ∷ [])
    ∷ (Rows ConditionalReply 2 ∷ Rows Cancel 2 ∷ Rows CancelReply 2 ∷ Rows Received 2 ∷ Rows Shipped 10 ∷ Rows Recall 2 ∷ Rows Returned 2 ∷ Rows CheckedIn 2 ∷ Rows Overdue 2 ∷ Rows Renew 2 ∷ Rows RenewAnswer 2 ∷ Rows Lost 2 ∷ Rows Damaged 2 ∷ Rows MessageApdu 2 ∷ Rows StatusQuery 2 ∷ Rows Expired 2 ∷ [])
    ∷ (Rows ModuleIllRequest 2 ∷ Rows ForwardNotification 2 ∷ Rows ModuleShipped 2 ∷ Rows ModuleIllAnswer 2 ∷ Rows ModuleConditionalReply 2 ∷ Rows ModuleCancel 2 ∷ Rows ModuleCancelReply 2 ∷ Rows ModuleReceived 2 ∷ Rows ModuleRecall 2 ∷ Rows ModuleReturned 2 ∷ Rows ModuleCheckedIn 2 ∷ Rows ModuleOverdue 2 ∷ Rows ModuleRenew 2 ∷ Rows ModuleRenewAnswer 2 ∷ Rows ModuleLost 2 ∷ Rows ModuleDamaged 2 ∷ [])
    ∷ (Rows ModuleMessageApdu 2 ∷ Rows ModuleStatusQuery 2 ∷ Rows StatusOrErrorReport 2 ∷ Rows ModuleExpired 2 ∷ Rows ModuleIllRequest 9 ∷ Rows TransactionId 1 ∷ Rows TransactionId 2 ∷ Rows ForwardNotification 4 ∷ Rows ModuleRenewAnswer 5 ∷ Rows ModuleIllRequest 11 ∷ Rows ForwardNotification 6 ∷ Rows ModuleShipped 13 ∷ Rows Received 8 ∷ Rows DamagedDetails 0 ∷ Rows IllRequest 16 ∷ Rows ModuleShipped 11 ∷ [])
    ∷ (Rows StatusReport 0 ∷ Rows ModuleReceived 8 ∷ Rows ErrorReport 0 ∷ Nothing ∷ Rows ModuleIllRequest 16 ∷ Nothing ∷ Nothing ∷ Nothing ∷ Rows ElectronicDelivery 3 ∷ Nothing ∷ Nothing ∷ Rows SendTo 0 ∷ Nothing ∷ Nothing ∷ Nothing ∷ Nothing ∷ [])
    ∷ (Nothing ∷ Nothing ∷ Nothing ∷ Nothing ∷ Nothing ∷ Nothing ∷ Nothing ∷ Nothing ∷ Nothing ∷ Rows DateDue 0 ∷ Nothing ∷ Nothing ∷ Nothing ∷ Nothing ∷ Rows HistoryReport 8 ∷ Nothing ∷ [])
    ∷ (Nothing ∷ Rows RequesterOptionalMessages 0 ∷ Nothing ∷ Rows ResponderOptionalMessages 0 ∷ Rows Estimate 0 ∷ Rows Extension 0 ∷ Rows StatusReport 1 ∷ Rows ErrorReport 1 ∷ Rows RequesterOptionalMessages 1 ∷ Rows ResponderOptionalMessages 1 ∷ Rows ModuleUnitsPerMedium 0 ∷ Rows Amount 1 ∷ Rows ModuleWillSupply 0 ∷ Rows Locations 1 ∷ Rows ModuleUnitsPerMedium 1 ∷ Nothing ∷ [])
    ∷ (Rows AlreadyForwarded 0 ∷ Nothing ∷ Nothing ∷ Rows LocationInfo 0 ∷ Nothing ∷ Rows HistoryReport 5 ∷ Rows HistoryReport 6 ∷ Nothing ∷ Rows Extension 1 ∷ Rows RequesterOptionalMessages 2 ∷ Nothing ∷ Nothing ∷ Rows ResponderOptionalMessages 2 ∷ Rows SupplyMediumInfo 0 ∷ Nothing ∷ Rows UnitsPerMedium 0 ∷ [])
    ∷ (Rows Conditional 0 ∷ Rows Unfilled 0 ∷ Rows WillSupply 0 ∷ Rows HoldPlaced 0 ∷ Rows HistoryReport 7 ∷ Rows ModuleConditional 0 ∷ Rows RequesterOptionalMessages 3 ∷ Rows UnitsPerMedium 1 ∷ Nothing ∷ Nothing ∷ Rows ResponderOptionalMessages 3 ∷ Nothing ∷ Nothing ∷ Nothing ∷ Nothing ∷ Nothing ∷ [])
    ∷ (Nothing ∷ Nothing ∷ Rows StateTransition 0 ∷ Nothing ∷ Rows StateTransition 1 ∷ Nothing ∷ Nothing ∷ Nothing ∷ Nothing ∷ Nothing ∷ Nothing ∷ Nothing ∷ Nothing ∷ Nothing ∷ Nothing ∷ Nothing ∷ [])
    ∷ (Nothing ∷ Nothing ∷ Nothing ∷ Nothing ∷ Nothing ∷ Nothing ∷ Nothing ∷ Nothing ∷ Nothing ∷ Nothing ∷ Nothing ∷ Nothing ∷ Nothing ∷ Nothing ∷ Nothing ∷ Nothing ∷ [])
    ∷ (Nothing ∷ Nothing ∷ Nothing ∷ Nothing ∷ Nothing ∷ Nothing ∷ either Results 6 Estimate ∷ Nothing ∷ Nothing ∷ Nothing ∷ Nothing ∷ Nothing ∷ Nothing ∷ Nothing ∷ Nothing ∷ either ModuleResults 0 ModuleConditional ∷ [])
    ∷ (either ModuleResults 1 Retry ∷ either ModuleResults 2 Unfilled ∷ either ModuleResults 3 Locations ∷ Nothing ∷ Nothing ∷ either ModuleResults 4 ModuleWillSupply ∷ either ModuleResults 5 HoldPlaced ∷ either ModuleResults 6 Estimate ∷ Nothing ∷ Nothing ∷ Nothing ∷ Nothing ∷ Nothing ∷ Nothing ∷ Nothing ∷ Nothing ∷ [])
    ∷ (Nothing ∷ Nothing ∷ Nothing ∷ Nothing ∷ Nothing ∷ Nothing ∷ Nothing ∷ inner ModuleWillSupply 2 PostalAddress ∷ Nothing ∷ Nothing ∷ Nothing ∷ Nothing ∷ Nothing ∷ Nothing ∷ Nothing ∷ Nothing ∷ [])
    ∷ (Nothing ∷ Nothing ∷ Nothing ∷ Nothing ∷ inner ModuleWillSupply 4 ElectronicDelivery ∷ Nothing ∷ Nothing ∷ Nothing ∷ Nothing ∷ Nothing ∷ Nothing ∷ Nothing ∷ Nothing ∷ Nothing ∷ Nothing ∷ Nothing ∷ [])
    ∷ (Rows ModuleItemId 0 ∷ Rows SearchType 0 ∷ Items ElectronicDeliveries ∷ Items Externals ∷ Rows SearchType 1 ∷ Items Extensions ∷ Rows CostInfo 2 ∷ Items SendToList ∷ Items AlreadyTriedList ∷ Rows SearchType 2 ∷ Rows CostInfo 3 ∷ Items SupplyMediumInfos ∷ Items UnitsPerMediumList ∷ Rows ConditionalReply 6 ∷ Rows DateTime 1 ∷ Rows DateDue 1 ∷ [])
    ∷ (Items ModuleUnitsPerMediumList ∷ Rows SearchType 3 ∷ Rows ElectronicDelivery 5 ∷ Rows CostInfo 4 ∷ Items Locs ∷ Rows ModuleItemId 1 ∷ Nothing ∷ Rows SystemId 2 ∷ Rows Cancel 6 ∷ Rows Recall 6 ∷ Rows Renew 7 ∷ Rows Lost 6 ∷ Items IllServiceTypes ∷ Rows Damaged 7 ∷ Rows MessageApdu 6 ∷ Rows StatusQuery 6 ∷ [])
    ∷ (Rows Expired 5 ∷ Rows ModuleCancel 7 ∷ Rows ModuleRecall 7 ∷ Rows ModuleRenew 8 ∷ Rows ModuleLost 7 ∷ Items SpecificUnits ∷ Rows ModuleDamaged 8 ∷ Rows ModuleStatusQuery 7 ∷ Rows StatusOrErrorReport 10 ∷ Rows ModuleExpired 6 ∷ Rows TransactionId 4 ∷ Rows ServiceDateTime 2 ∷ Rows ModuleItemId 2 ∷ Rows DeliveryAddress 2 ∷ Rows SystemAddress 2 ∷ Rows ClientId 3 ∷ [])
    ∷ (Rows IllAnswer 13 ∷ Rows ConditionalReply 7 ∷ Rows CancelReply 7 ∷ Rows Returned 10 ∷ Rows ModuleRenew 5 ∷ Rows CheckedIn 7 ∷ Rows Overdue 7 ∷ Rows ModuleItemId 13 ∷ Rows RenewAnswer 8 ∷ Rows ModuleIllAnswer 14 ∷ Rows ModuleConditionalReply 8 ∷ Rows ModuleCancelReply 8 ∷ Rows ModuleReturned 11 ∷ Rows ModuleCheckedIn 8 ∷ Rows ModuleOverdue 8 ∷ Rows ModuleRenewAnswer 9 ∷ [])
    ∷ (Rows DamagedDetails 2 ∷ Rows ModuleMessageApdu 7 ∷ Rows DateTime 2 ∷ Rows PostalAddress 8 ∷ Rows SupplyDetails 9 ∷ Rows Shipped 16 ∷ Rows Received 10 ∷ Rows Amount 2 ∷ Rows DateDue 2 ∷ Rows ForwardNotification 9 ∷ Rows ModuleSupplyDetails 9 ∷ Rows ModuleShipped 17 ∷ Rows ItemId 0 ∷ Rows ModuleReceived 11 ∷ Rows StatusReport 2 ∷ Rows SearchType 4 ∷ [])
    ∷ (Rows ItemId 23 ∷ Rows IllRequest 25 ∷ Rows ElectronicDelivery 6 ∷ Rows ModuleItemId 23 ∷ Rows ModuleIllRequest 26 ∷ Rows ErrorReport 4 ∷ Rows CostInfo 5 ∷ Rows ThirdPartyInfo 8 ∷ Rows Retry 3 ∷ Rows ModuleCancel 4 ∷ Rows Locations 2 ∷ Rows SendTo 3 ∷ Rows RequesterOptionalMessages 4 ∷ Rows SupplyMediumInfo 2 ∷ Rows ResponderOptionalMessages 4 ∷ Rows SystemId 1 ∷ [])
    ∷ (Rows TransactionId 3 ∷ Rows UnitsPerMedium 2 ∷ Rows ItemId 1 ∷ Rows Conditional 3 ∷ Rows Unfilled 2 ∷ Rows WillSupply 4 ∷ Rows HoldPlaced 3 ∷ Rows Estimate 2 ∷ Rows ModuleUnitsPerMedium 2 ∷ Rows ModuleConditional 4 ∷ Rows ModuleWillSupply 5 ∷ Rows HistoryReport 12 ∷ Rows AlreadyForwarded 2 ∷ Rows StateTransition 2 ∷ Rows LocationInfo 3 ∷ Nothing ∷ [])
    ∷ (Nothing ∷ Nothing ∷ Rows ServiceDateTime 1 ∷ Nothing ∷ Nothing ∷ Rows DeliveryAddress 1 ∷ Rows ModuleItemId 3 ∷ Nothing ∷ Nothing ∷ Nothing ∷ Nothing ∷ Nothing ∷ Nothing ∷ Nothing ∷ Nothing ∷ Rows Cancel 5 ∷ [])
    ∷ (Nothing ∷ Nothing ∷ Nothing ∷ Nothing ∷ Nothing ∷ Nothing ∷ Nothing ∷ Nothing ∷ Nothing ∷ Nothing ∷ Nothing ∷ Rows ItemId 2 ∷ Nothing ∷ Nothing ∷ Nothing ∷ Nothing ∷ [])
    ∷ (Nothing ∷ Nothing ∷ Nothing ∷ Nothing ∷ Nothing ∷ Nothing ∷ Nothing ∷ Nothing ∷ Nothing ∷ Nothing ∷ Nothing ∷ Nothing ∷ Nothing ∷ Rows CancelReply 6 ∷ Rows ModuleItemId 4 ∷ Nothing ∷ [])
    ∷ (Rows Renew 5 ∷ Nothing ∷ Nothing ∷ Nothing ∷ Nothing ∷ Nothing ∷ Nothing ∷ Nothing ∷ Nothing ∷ Nothing ∷ Nothing ∷ Nothing ∷ Nothing ∷ Nothing ∷ Nothing ∷ Nothing ∷ [])
    ∷ (Nothing ∷ Nothing ∷ Rows ItemId 3 ∷ Nothing ∷ Nothing ∷ Nothing ∷ Nothing ∷ Nothing ∷ Nothing ∷ Nothing ∷ Nothing ∷ Nothing ∷ Rows ModuleConditionalReply 6 ∷ Nothing ∷ Nothing ∷ Nothing ∷ [])
    ∷ (Nothing ∷ Nothing ∷ Nothing ∷ Nothing ∷ Rows ModuleItemId 5 ∷ Nothing ∷ Nothing ∷ Nothing ∷ Nothing ∷ Nothing ∷ Nothing ∷ Nothing ∷ Nothing ∷ Nothing ∷ Nothing ∷ Nothing ∷ [])
    ∷ (Nothing ∷ Nothing ∷ Nothing ∷ Nothing ∷ Nothing ∷ Nothing ∷ Nothing ∷ Rows ItemId 4 ∷ Nothing ∷ Rows ModuleCancel 5 ∷ Nothing ∷ Nothing ∷ Nothing ∷ Nothing ∷ Nothing ∷ Nothing ∷ [])
    ∷ (Nothing ∷ Nothing ∷ Nothing ∷ Nothing ∷ Nothing ∷ Nothing ∷ Nothing ∷ Nothing ∷ Rows ModuleItemId 6 ∷ Nothing ∷ Nothing ∷ Nothing ∷ Nothing ∷ Nothing ∷ Nothing ∷ Nothing ∷ [])
    ∷ (Nothing ∷ Nothing ∷ Nothing ∷ Nothing ∷ Rows Recall 5 ∷ Nothing ∷ Nothing ∷ Nothing ∷ Nothing ∷ Nothing ∷ Rows ItemId 5 ∷ Nothing ∷ Nothing ∷ Nothing ∷ Nothing ∷ Nothing ∷ [])
    ∷ (Nothing ∷ Nothing ∷ Nothing ∷ Nothing ∷ Nothing ∷ Nothing ∷ Nothing ∷ Nothing ∷ Nothing ∷ Nothing ∷ Rows ModuleItemId 7 ∷ Nothing ∷ Nothing ∷ Rows CheckedIn 6 ∷ Nothing ∷ Nothing ∷ [])
    ∷ (Nothing ∷ Nothing ∷ Nothing ∷ Nothing ∷ Nothing ∷ Nothing ∷ Nothing ∷ Nothing ∷ Nothing ∷ Nothing ∷ Nothing ∷ Rows ItemId 6 ∷ Nothing ∷ Nothing ∷ Rows ModuleIllRequest 24 ∷ Nothing ∷ [])
    ∷ (Nothing ∷ Nothing ∷ Nothing ∷ Nothing ∷ Nothing ∷ Nothing ∷ Nothing ∷ Nothing ∷ Nothing ∷ Nothing ∷ Rows ModuleItemId 8 ∷ Nothing ∷ Nothing ∷ Nothing ∷ Nothing ∷ Nothing ∷ [])
    ∷ (Rows Returned 8 ∷ Nothing ∷ Nothing ∷ Nothing ∷ Nothing ∷ Nothing ∷ Nothing ∷ Nothing ∷ Nothing ∷ Nothing ∷ Rows ItemId 7 ∷ Nothing ∷ Nothing ∷ Nothing ∷ Nothing ∷ Nothing ∷ [])
    ∷ (Nothing ∷ Nothing ∷ Rows Overdue 6 ∷ Nothing ∷ Nothing ∷ Nothing ∷ Nothing ∷ Nothing ∷ Rows ModuleItemId 9 ∷ Nothing ∷ Nothing ∷ Nothing ∷ Nothing ∷ Nothing ∷ Nothing ∷ Nothing ∷ [])
    ∷ (Nothing ∷ Nothing ∷ Nothing ∷ Nothing ∷ Nothing ∷ Nothing ∷ Nothing ∷ Rows ItemId 8 ∷ Nothing ∷ Nothing ∷ Nothing ∷ Nothing ∷ Nothing ∷ Nothing ∷ Nothing ∷ Nothing ∷ [])
    ∷ (Rows Renew 6 ∷ Nothing ∷ Nothing ∷ Nothing ∷ Rows ModuleItemId 10 ∷ Nothing ∷ Nothing ∷ Nothing ∷ Nothing ∷ Nothing ∷ Rows ModuleIllAnswer 11 ∷ Nothing ∷ Nothing ∷ Nothing ∷ Nothing ∷ Nothing ∷ [])
    ∷ (Nothing ∷ Nothing ∷ Rows ItemId 9 ∷ Nothing ∷ Nothing ∷ Nothing ∷ Nothing ∷ Nothing ∷ Rows Lost 5 ∷ Nothing ∷ Nothing ∷ Rows ModuleCancel 6 ∷ Nothing ∷ Nothing ∷ Rows ModuleItemId 11 ∷ Nothing ∷ [])
    ∷ (Nothing ∷ Nothing ∷ Nothing ∷ Nothing ∷ Nothing ∷ Nothing ∷ Nothing ∷ Nothing ∷ Nothing ∷ Nothing ∷ Rows ModuleCancelReply 6 ∷ Rows ItemId 10 ∷ Nothing ∷ Nothing ∷ Nothing ∷ Nothing ∷ [])
    ∷ (Nothing ∷ Nothing ∷ Nothing ∷ Nothing ∷ Nothing ∷ Nothing ∷ Rows ModuleItemId 12 ∷ Nothing ∷ Nothing ∷ Nothing ∷ Nothing ∷ Rows Cancel 4 ∷ Nothing ∷ Nothing ∷ Nothing ∷ Nothing ∷ [])
    ∷ (Nothing ∷ Nothing ∷ Nothing ∷ Nothing ∷ Nothing ∷ Rows Damaged 5 ∷ Nothing ∷ Rows ItemId 11 ∷ Nothing ∷ Nothing ∷ Rows ModuleIllAnswer 6 ∷ Nothing ∷ Nothing ∷ Nothing ∷ Nothing ∷ Nothing ∷ [])
    ∷ (Nothing ∷ Nothing ∷ Rows StatusQuery 5 ∷ Rows Returned 7 ∷ Nothing ∷ Rows RenewAnswer 6 ∷ Nothing ∷ Nothing ∷ Nothing ∷ Nothing ∷ Nothing ∷ Nothing ∷ Nothing ∷ Nothing ∷ Nothing ∷ Nothing ∷ [])
    ∷ (Nothing ∷ Nothing ∷ Nothing ∷ Nothing ∷ Rows StatusOrErrorReport 3 ∷ Nothing ∷ Rows Renew 3 ∷ Nothing ∷ Rows ModuleItemId 14 ∷ Nothing ∷ Nothing ∷ Nothing ∷ Nothing ∷ Rows ModuleSupplyDetails 0 ∷ Nothing ∷ Nothing ∷ [])
    ∷ (Nothing ∷ Nothing ∷ Nothing ∷ Nothing ∷ Nothing ∷ Nothing ∷ Rows ModuleIllRequest 17 ∷ Nothing ∷ Nothing ∷ Nothing ∷ Nothing ∷ Nothing ∷ Rows Recall 4 ∷ Nothing ∷ Rows SupplyDetails 0 ∷ Nothing ∷ [])
    ∷ (Nothing ∷ Rows CostInfo 1 ∷ Rows ModuleReturned 7 ∷ Nothing ∷ Nothing ∷ Nothing ∷ Nothing ∷ Nothing ∷ Rows ItemId 12 ∷ Nothing ∷ Nothing ∷ Rows ModuleSupplyDetails 1 ∷ Nothing ∷ Nothing ∷ Nothing ∷ Rows ModuleRecall 6 ∷ [])
    ∷ (Nothing ∷ Nothing ∷ Nothing ∷ Nothing ∷ Nothing ∷ Nothing ∷ Nothing ∷ Nothing ∷ Nothing ∷ Rows ModuleRenew 7 ∷ Nothing ∷ Nothing ∷ Nothing ∷ Nothing ∷ Nothing ∷ Rows PostalAddress 0 ∷ [])
    ∷ (Nothing ∷ Nothing ∷ Nothing ∷ Nothing ∷ Nothing ∷ Nothing ∷ Nothing ∷ Rows Renew 4 ∷ Rows ItemId 13 ∷ Rows SupplyDetails 1 ∷ Rows ModuleLost 6 ∷ Nothing ∷ Nothing ∷ Nothing ∷ Nothing ∷ Rows Lost 4 ∷ [])
    ∷ (Nothing ∷ Nothing ∷ Rows ModuleIllAnswer 7 ∷ Rows ModuleIllRequest 18 ∷ Nothing ∷ Nothing ∷ Nothing ∷ Nothing ∷ Nothing ∷ Nothing ∷ Nothing ∷ Nothing ∷ Nothing ∷ Nothing ∷ Nothing ∷ Rows ModuleDamaged 7 ∷ [])
    ∷ (Nothing ∷ Nothing ∷ Nothing ∷ Nothing ∷ Rows Damaged 4 ∷ Nothing ∷ Nothing ∷ Nothing ∷ Nothing ∷ Nothing ∷ Nothing ∷ Rows StatusOrErrorReport 4 ∷ Nothing ∷ Nothing ∷ Rows ModuleExpired 4 ∷ Nothing ∷ [])
    ∷ (Rows ModuleSupplyDetails 2 ∷ Nothing ∷ Nothing ∷ Nothing ∷ Nothing ∷ Nothing ∷ Nothing ∷ Nothing ∷ Rows ModuleItemId 15 ∷ Nothing ∷ Nothing ∷ Nothing ∷ Nothing ∷ Nothing ∷ Nothing ∷ Rows ThirdPartyInfo 0 ∷ [])
    ∷ (Nothing ∷ Nothing ∷ Nothing ∷ Nothing ∷ Nothing ∷ Nothing ∷ Nothing ∷ Nothing ∷ Nothing ∷ Nothing ∷ Nothing ∷ Nothing ∷ Rows ModuleMessageApdu 6 ∷ Nothing ∷ Nothing ∷ Nothing ∷ [])
    ∷ (Nothing ∷ Nothing ∷ Nothing ∷ Rows HistoryReport 10 ∷ Nothing ∷ Nothing ∷ Rows PostalAddress 1 ∷ Nothing ∷ Nothing ∷ Nothing ∷ Rows IllRequest 17 ∷ Nothing ∷ Rows SupplyDetails 2 ∷ Nothing ∷ Nothing ∷ Nothing ∷ [])
    ∷ (Rows StatusOrErrorReport 5 ∷ Nothing ∷ Nothing ∷ Rows Expired 4 ∷ Nothing ∷ Rows ModuleStatusQuery 6 ∷ Nothing ∷ Rows StatusOrErrorReport 9 ∷ Nothing ∷ Nothing ∷ Nothing ∷ Nothing ∷ Nothing ∷ Rows ItemId 14 ∷ Nothing ∷ Nothing ∷ [])
    ∷ (Rows ModuleSupplyDetails 3 ∷ Nothing ∷ Nothing ∷ Nothing ∷ Rows ModuleItemId 16 ∷ Nothing ∷ Rows ModuleRenew 3 ∷ Nothing ∷ Nothing ∷ Nothing ∷ Rows ModuleIllRequest 19 ∷ Nothing ∷ Nothing ∷ Nothing ∷ Nothing ∷ Nothing ∷ [])
    ∷ (Nothing ∷ Rows ModuleIllAnswer 8 ∷ Nothing ∷ Nothing ∷ Nothing ∷ Nothing ∷ Nothing ∷ Nothing ∷ Nothing ∷ Nothing ∷ Nothing ∷ Rows ModuleExpired 5 ∷ Nothing ∷ Nothing ∷ Nothing ∷ Nothing ∷ [])
    ∷ (Nothing ∷ Nothing ∷ Nothing ∷ Nothing ∷ Nothing ∷ Nothing ∷ Rows ModuleDamaged 3 ∷ Nothing ∷ Nothing ∷ Nothing ∷ Nothing ∷ Nothing ∷ Rows StatusOrErrorReport 6 ∷ Nothing ∷ Nothing ∷ Nothing ∷ [])
    ∷ (Nothing ∷ Nothing ∷ Nothing ∷ Nothing ∷ Rows PostalAddress 2 ∷ Nothing ∷ Nothing ∷ Nothing ∷ Rows ModuleSupplyDetails 4 ∷ Nothing ∷ Rows ModuleIllRequest 21 ∷ Nothing ∷ Rows ItemId 15 ∷ Nothing ∷ Rows ThirdPartyInfo 1 ∷ Nothing ∷ [])
    ∷ (Nothing ∷ Nothing ∷ Nothing ∷ Rows ModuleItemId 17 ∷ Nothing ∷ Nothing ∷ Rows ModuleRenewAnswer 6 ∷ Nothing ∷ Nothing ∷ Nothing ∷ Nothing ∷ Nothing ∷ Rows IllAnswer 6 ∷ Nothing ∷ Nothing ∷ Nothing ∷ [])
    ∷ (Nothing ∷ Rows IllRequest 19 ∷ Nothing ∷ Rows ModuleIllAnswer 9 ∷ Rows ModuleIllAnswer 10 ∷ Nothing ∷ Nothing ∷ Nothing ∷ Rows SupplyDetails 3 ∷ Nothing ∷ Nothing ∷ Nothing ∷ Nothing ∷ Nothing ∷ Nothing ∷ Nothing ∷ [])
    ∷ (Nothing ∷ Nothing ∷ Nothing ∷ Nothing ∷ Rows ModuleIllRequest 22 ∷ Nothing ∷ Nothing ∷ Nothing ∷ Rows ModuleDamaged 4 ∷ Nothing ∷ Nothing ∷ Nothing ∷ Rows ModuleIllRequest 20 ∷ Nothing ∷ Rows ModuleRecall 5 ∷ Rows PostalAddress 3 ∷ [])
    ∷ (Nothing ∷ Nothing ∷ Nothing ∷ Nothing ∷ Rows ModuleCancel 3 ∷ Nothing ∷ Nothing ∷ Nothing ∷ Rows ModuleRecall 3 ∷ Nothing ∷ Nothing ∷ Nothing ∷ Nothing ∷ Rows ModuleRenew 4 ∷ Rows ModuleSupplyDetails 5 ∷ Nothing ∷ [])
    ∷ (Nothing ∷ Nothing ∷ Nothing ∷ Nothing ∷ Rows ThirdPartyInfo 2 ∷ Nothing ∷ Nothing ∷ Rows SupplyDetails 4 ∷ Nothing ∷ Nothing ∷ Nothing ∷ Nothing ∷ Nothing ∷ Nothing ∷ Rows StatusOrErrorReport 7 ∷ Rows ItemId 16 ∷ [])
    ∷ (Nothing ∷ Nothing ∷ Nothing ∷ Rows ModuleLost 3 ∷ Rows ModuleItemId 18 ∷ Rows IllAnswer 7 ∷ Nothing ∷ Rows ModuleRecall 4 ∷ Rows ModuleCheckedIn 6 ∷ Rows ModuleReturned 8 ∷ Nothing ∷ Nothing ∷ Nothing ∷ Nothing ∷ Nothing ∷ Nothing ∷ [])
    ∷ (Nothing ∷ Nothing ∷ Nothing ∷ Nothing ∷ Nothing ∷ Nothing ∷ Nothing ∷ Rows ModuleLost 4 ∷ Rows IllRequest 20 ∷ Nothing ∷ Nothing ∷ Nothing ∷ Nothing ∷ Nothing ∷ Rows CostInfo 0 ∷ Nothing ∷ [])
    ∷ (Rows ModuleStatusQuery 3 ∷ Nothing ∷ Nothing ∷ Nothing ∷ Nothing ∷ Nothing ∷ Nothing ∷ Nothing ∷ Rows ModuleDamaged 5 ∷ Rows ModuleIllRequest 23 ∷ Nothing ∷ Rows PostalAddress 4 ∷ Nothing ∷ Nothing ∷ Rows SupplyDetails 5 ∷ Nothing ∷ [])
    ∷ (Rows IllAnswer 12 ∷ Rows IllRequest 21 ∷ Nothing ∷ Rows IllAnswer 10 ∷ Rows Cancel 3 ∷ Rows Received 9 ∷ Rows ModuleShipped 14 ∷ Rows ItemId 17 ∷ Nothing ∷ Nothing ∷ Nothing ∷ Nothing ∷ Nothing ∷ Rows ThirdPartyInfo 3 ∷ Rows ModuleStatusQuery 4 ∷ Nothing ∷ [])
    ∷ (Nothing ∷ Nothing ∷ Nothing ∷ Nothing ∷ Nothing ∷ Nothing ∷ Rows ModuleItemId 19 ∷ Nothing ∷ Rows ModuleOverdue 6 ∷ Rows ModuleRenew 6 ∷ Rows ModuleLost 5 ∷ Nothing ∷ Nothing ∷ Nothing ∷ Rows ModuleDamaged 6 ∷ Rows ModuleStatusQuery 5 ∷ [])
    ∷ (Rows StatusOrErrorReport 8 ∷ Nothing ∷ Rows ForwardNotification 7 ∷ Nothing ∷ Nothing ∷ Nothing ∷ Rows ModuleIllAnswer 12 ∷ Rows Shipped 14 ∷ Rows ModuleReceived 9 ∷ Rows ThirdPartyInfo 4 ∷ Rows StatusQuery 4 ∷ Nothing ∷ Nothing ∷ Rows ModuleReturned 9 ∷ Rows Recall 3 ∷ Rows IllAnswer 11 ∷ [])
    ∷ (Nothing ∷ Rows IllRequest 22 ∷ Nothing ∷ Rows ModuleRenewAnswer 7 ∷ Nothing ∷ Rows Lost 3 ∷ Nothing ∷ Nothing ∷ Nothing ∷ Nothing ∷ Nothing ∷ Nothing ∷ Nothing ∷ Rows ModuleConditional 1 ∷ Rows Damaged 3 ∷ Rows ModuleShipped 15 ∷ [])
    ∷ (Nothing ∷ Nothing ∷ Nothing ∷ Nothing ∷ Nothing ∷ Rows StatusQuery 3 ∷ Rows IllRequest 23 ∷ Nothing ∷ Nothing ∷ Nothing ∷ Rows ModuleExpired 3 ∷ Nothing ∷ Nothing ∷ Nothing ∷ Nothing ∷ Rows SystemAddress 1 ∷ [])
    ∷ (Rows ThirdPartyInfo 5 ∷ Rows ModuleWillSupply 1 ∷ Rows Returned 9 ∷ Nothing ∷ Nothing ∷ Nothing ∷ Nothing ∷ Nothing ∷ Rows ModuleIllAnswer 13 ∷ Rows ClientId 0 ∷ Rows RenewAnswer 7 ∷ Nothing ∷ Rows ModuleConditional 3 ∷ Rows Shipped 15 ∷ Rows IllRequest 24 ∷ Rows ModuleConditionalReply 7 ∷ [])
    ∷ (Rows ModuleCancelReply 7 ∷ Rows ModuleReturned 10 ∷ Rows ModuleCheckedIn 7 ∷ Rows ModuleOverdue 7 ∷ Rows ModuleRenewAnswer 8 ∷ Nothing ∷ Rows ForwardNotification 8 ∷ Rows PostalAddress 5 ∷ Rows ItemId 19 ∷ Rows SupplyDetails 6 ∷ Nothing ∷ Rows ModuleShipped 16 ∷ Rows ModuleSupplyDetails 6 ∷ Rows ModuleReceived 10 ∷ Rows ModuleIllRequest 25 ∷ Rows ModuleItemId 20 ∷ [])
    ∷ (Nothing ∷ Nothing ∷ Nothing ∷ Nothing ∷ Nothing ∷ Nothing ∷ Nothing ∷ Nothing ∷ Rows ClientId 2 ∷ Nothing ∷ Rows ModuleConditional 2 ∷ Nothing ∷ Nothing ∷ Nothing ∷ Rows Retry 0 ∷ Nothing ∷ [])
    ∷ (Nothing ∷ Nothing ∷ Nothing ∷ Nothing ∷ Nothing ∷ Nothing ∷ Nothing ∷ Nothing ∷ Nothing ∷ Nothing ∷ Rows ModuleWillSupply 2 ∷ Nothing ∷ Nothing ∷ Nothing ∷ Nothing ∷ Nothing ∷ [])
    ∷ (Nothing ∷ Nothing ∷ Nothing ∷ Nothing ∷ Rows WillSupply 1 ∷ Nothing ∷ Nothing ∷ Nothing ∷ Nothing ∷ Nothing ∷ Nothing ∷ Rows SystemId 0 ∷ Nothing ∷ Rows ClientId 1 ∷ Rows Expired 3 ∷ Nothing ∷ [])
    ∷ (Nothing ∷ Nothing ∷ Nothing ∷ Rows DeliveryAddress 0 ∷ Nothing ∷ Rows SystemAddress 0 ∷ Nothing ∷ Nothing ∷ Nothing ∷ Nothing ∷ Nothing ∷ Nothing ∷ Nothing ∷ Nothing ∷ Nothing ∷ Nothing ∷ [])
    ∷ (Rows HistoryReport 9 ∷ Nothing ∷ Nothing ∷ Nothing ∷ Nothing ∷ Nothing ∷ Nothing ∷ Nothing ∷ Nothing ∷ Nothing ∷ Nothing ∷ Nothing ∷ Nothing ∷ Nothing ∷ Nothing ∷ Nothing ∷ [])
    ∷ (Rows PostalAddress 6 ∷ Rows SupplyDetails 7 ∷ Rows ItemId 20 ∷ Rows ModuleSupplyDetails 7 ∷ Nothing ∷ Nothing ∷ Nothing ∷ Nothing ∷ Rows ModuleItemId 21 ∷ Nothing ∷ Nothing ∷ Nothing ∷ Nothing ∷ Nothing ∷ Nothing ∷ Nothing ∷ [])
    ∷ (Rows ErrorReport 2 ∷ Nothing ∷ Nothing ∷ Nothing ∷ Nothing ∷ Nothing ∷ Nothing ∷ Nothing ∷ Rows SendTo 1 ∷ Rows ThirdPartyInfo 6 ∷ Nothing ∷ Nothing ∷ Rows ElectronicDelivery 4 ∷ Nothing ∷ Nothing ∷ Nothing ∷ [])
    ∷ (Nothing ∷ Rows WillSupply 2 ∷ Rows ModuleWillSupply 3 ∷ Nothing ∷ Rows PostalAddress 7 ∷ Rows ItemId 22 ∷ Rows LocationInfo 1 ∷ Nothing ∷ Rows ModuleItemId 22 ∷ Nothing ∷ Nothing ∷ Rows Conditional 1 ∷ Nothing ∷ Nothing ∷ Rows Retry 1 ∷ Rows SupplyDetails 8 ∷ [])
    ∷ (Nothing ∷ Rows ModuleSupplyDetails 8 ∷ Nothing ∷ Nothing ∷ Nothing ∷ Nothing ∷ Nothing ∷ Rows ErrorReport 3 ∷ Nothing ∷ Nothing ∷ Rows HoldPlaced 1 ∷ Rows ThirdPartyInfo 7 ∷ Nothing ∷ Nothing ∷ Nothing ∷ Nothing ∷ [])
    ∷ (Rows SupplyMediumInfo 1 ∷ Rows Retry 2 ∷ Rows ModuleWillSupply 4 ∷ Rows Unfilled 1 ∷ Rows Estimate 1 ∷ Rows SendTo 2 ∷ Rows Conditional 2 ∷ Rows WillSupply 3 ∷ Rows AlreadyForwarded 1 ∷ Rows HoldPlaced 2 ∷ Rows HistoryReport 11 ∷ Nothing ∷ Rows LocationInfo 2 ∷ [])
    ∷ []

-- the end of the offsets
abbrev pub offset_end : ℕ
offset_end = 1741

-- the first of the spots where an element may end
abbrev pub complete_start : ℕ
complete_start = 656

-- what may come next at the spot of this offset
unfoldable pub next_at_offset : ℕ → Next
next_at_offset offset = get_or (get_or spots (offset / 16) []) (offset % 16) Nothing

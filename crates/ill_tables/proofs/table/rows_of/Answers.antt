use Rattle.std.proofs.Common.{ap, sym}
use Rattle.ill_tables.specs.Table.{rows_of}
use Rattle.ill_tables.proofs.table.rows_of.Goals as goal

pub returns-in-Symbol-clause-rows : goal.returns-in-Symbol-clause-rows
returns-in-Symbol-clause-rows c = sym (ap rows_of c.in-Symbol.is)

pub returns-in-Name-clause-rows : goal.returns-in-Name-clause-rows
returns-in-Name-clause-rows c = sym (ap rows_of c.in-Name.is)

pub returns-in-SystemId-clause-rows : goal.returns-in-SystemId-clause-rows
returns-in-SystemId-clause-rows c = sym (ap rows_of c.in-SystemId.is)

pub returns-in-TransactionId-clause-rows : goal.returns-in-TransactionId-clause-rows
returns-in-TransactionId-clause-rows c = sym (ap rows_of c.in-TransactionId.is)

pub returns-in-DateTime-clause-rows : goal.returns-in-DateTime-clause-rows
returns-in-DateTime-clause-rows c = sym (ap rows_of c.in-DateTime.is)

pub returns-in-ServiceDateTime-clause-rows : goal.returns-in-ServiceDateTime-clause-rows
returns-in-ServiceDateTime-clause-rows c = sym (ap rows_of c.in-ServiceDateTime.is)

pub returns-in-PostalAddress-clause-rows : goal.returns-in-PostalAddress-clause-rows
returns-in-PostalAddress-clause-rows c = sym (ap rows_of c.in-PostalAddress.is)

pub returns-in-SystemAddress-clause-rows : goal.returns-in-SystemAddress-clause-rows
returns-in-SystemAddress-clause-rows c = sym (ap rows_of c.in-SystemAddress.is)

pub returns-in-DeliveryAddress-clause-rows : goal.returns-in-DeliveryAddress-clause-rows
returns-in-DeliveryAddress-clause-rows c = sym (ap rows_of c.in-DeliveryAddress.is)

pub returns-in-ClientId-clause-rows : goal.returns-in-ClientId-clause-rows
returns-in-ClientId-clause-rows c = sym (ap rows_of c.in-ClientId.is)

pub returns-in-DeliveryService-clause-rows : goal.returns-in-DeliveryService-clause-rows
returns-in-DeliveryService-clause-rows c = sym (ap rows_of c.in-DeliveryService.is)

pub returns-in-SearchType-clause-rows : goal.returns-in-SearchType-clause-rows
returns-in-SearchType-clause-rows c = sym (ap rows_of c.in-SearchType.is)

pub returns-in-SupplyMediumInfo-clause-rows : goal.returns-in-SupplyMediumInfo-clause-rows
returns-in-SupplyMediumInfo-clause-rows c = sym (ap rows_of c.in-SupplyMediumInfo.is)

pub returns-in-ItemId-clause-rows : goal.returns-in-ItemId-clause-rows
returns-in-ItemId-clause-rows c = sym (ap rows_of c.in-ItemId.is)

pub returns-in-Amount-clause-rows : goal.returns-in-Amount-clause-rows
returns-in-Amount-clause-rows c = sym (ap rows_of c.in-Amount.is)

pub returns-in-CostInfo-clause-rows : goal.returns-in-CostInfo-clause-rows
returns-in-CostInfo-clause-rows c = sym (ap rows_of c.in-CostInfo.is)

pub returns-in-SendTo-clause-rows : goal.returns-in-SendTo-clause-rows
returns-in-SendTo-clause-rows c = sym (ap rows_of c.in-SendTo.is)

pub returns-in-SendToList-clause-rows : goal.returns-in-SendToList-clause-rows
returns-in-SendToList-clause-rows c = sym (ap rows_of c.in-SendToList.is)

pub returns-in-AlreadyTriedList-clause-rows : goal.returns-in-AlreadyTriedList-clause-rows
returns-in-AlreadyTriedList-clause-rows c = sym (ap rows_of c.in-AlreadyTriedList.is)

pub returns-in-ThirdPartyInfo-clause-rows : goal.returns-in-ThirdPartyInfo-clause-rows
returns-in-ThirdPartyInfo-clause-rows c = sym (ap rows_of c.in-ThirdPartyInfo.is)

pub returns-in-UnitsPerMedium-clause-rows : goal.returns-in-UnitsPerMedium-clause-rows
returns-in-UnitsPerMedium-clause-rows c = sym (ap rows_of c.in-UnitsPerMedium.is)

pub returns-in-UnitsPerMediumList-clause-rows : goal.returns-in-UnitsPerMediumList-clause-rows
returns-in-UnitsPerMediumList-clause-rows c = sym (ap rows_of c.in-UnitsPerMediumList.is)

pub returns-in-DateDue-clause-rows : goal.returns-in-DateDue-clause-rows
returns-in-DateDue-clause-rows c = sym (ap rows_of c.in-DateDue.is)

pub returns-in-ShippedVia-clause-rows : goal.returns-in-ShippedVia-clause-rows
returns-in-ShippedVia-clause-rows c = sym (ap rows_of c.in-ShippedVia.is)

pub returns-in-SupplyDetails-clause-rows : goal.returns-in-SupplyDetails-clause-rows
returns-in-SupplyDetails-clause-rows c = sym (ap rows_of c.in-SupplyDetails.is)

pub returns-in-IllServiceTypes-clause-rows : goal.returns-in-IllServiceTypes-clause-rows
returns-in-IllServiceTypes-clause-rows c = sym (ap rows_of c.in-IllServiceTypes.is)

pub returns-in-SupplyMediumInfos-clause-rows : goal.returns-in-SupplyMediumInfos-clause-rows
returns-in-SupplyMediumInfos-clause-rows c = sym (ap rows_of c.in-SupplyMediumInfos.is)

pub returns-in-IllRequest-clause-rows : goal.returns-in-IllRequest-clause-rows
returns-in-IllRequest-clause-rows c = sym (ap rows_of c.in-IllRequest.is)

pub returns-in-Shipped-clause-rows : goal.returns-in-Shipped-clause-rows
returns-in-Shipped-clause-rows c = sym (ap rows_of c.in-Shipped.is)

pub returns-in-LocationInfo-clause-rows : goal.returns-in-LocationInfo-clause-rows
returns-in-LocationInfo-clause-rows c = sym (ap rows_of c.in-LocationInfo.is)

pub returns-in-Locs-clause-rows : goal.returns-in-Locs-clause-rows
returns-in-Locs-clause-rows c = sym (ap rows_of c.in-Locs.is)

pub returns-in-Conditional-clause-rows : goal.returns-in-Conditional-clause-rows
returns-in-Conditional-clause-rows c = sym (ap rows_of c.in-Conditional.is)

pub returns-in-Retry-clause-rows : goal.returns-in-Retry-clause-rows
returns-in-Retry-clause-rows c = sym (ap rows_of c.in-Retry.is)

pub returns-in-Unfilled-clause-rows : goal.returns-in-Unfilled-clause-rows
returns-in-Unfilled-clause-rows c = sym (ap rows_of c.in-Unfilled.is)

pub returns-in-Locations-clause-rows : goal.returns-in-Locations-clause-rows
returns-in-Locations-clause-rows c = sym (ap rows_of c.in-Locations.is)

pub returns-in-WillSupply-clause-rows : goal.returns-in-WillSupply-clause-rows
returns-in-WillSupply-clause-rows c = sym (ap rows_of c.in-WillSupply.is)

pub returns-in-HoldPlaced-clause-rows : goal.returns-in-HoldPlaced-clause-rows
returns-in-HoldPlaced-clause-rows c = sym (ap rows_of c.in-HoldPlaced.is)

pub returns-in-Estimate-clause-rows : goal.returns-in-Estimate-clause-rows
returns-in-Estimate-clause-rows c = sym (ap rows_of c.in-Estimate.is)

pub returns-in-Results-clause-rows : goal.returns-in-Results-clause-rows
returns-in-Results-clause-rows c = sym (ap rows_of c.in-Results.is)

pub returns-in-IllAnswer-clause-rows : goal.returns-in-IllAnswer-clause-rows
returns-in-IllAnswer-clause-rows c = sym (ap rows_of c.in-IllAnswer.is)

pub returns-in-ConditionalReply-clause-rows : goal.returns-in-ConditionalReply-clause-rows
returns-in-ConditionalReply-clause-rows c = sym (ap rows_of c.in-ConditionalReply.is)

pub returns-in-Cancel-clause-rows : goal.returns-in-Cancel-clause-rows
returns-in-Cancel-clause-rows c = sym (ap rows_of c.in-Cancel.is)

pub returns-in-CancelReply-clause-rows : goal.returns-in-CancelReply-clause-rows
returns-in-CancelReply-clause-rows c = sym (ap rows_of c.in-CancelReply.is)

pub returns-in-Received-clause-rows : goal.returns-in-Received-clause-rows
returns-in-Received-clause-rows c = sym (ap rows_of c.in-Received.is)

pub returns-in-Recall-clause-rows : goal.returns-in-Recall-clause-rows
returns-in-Recall-clause-rows c = sym (ap rows_of c.in-Recall.is)

pub returns-in-Returned-clause-rows : goal.returns-in-Returned-clause-rows
returns-in-Returned-clause-rows c = sym (ap rows_of c.in-Returned.is)

pub returns-in-CheckedIn-clause-rows : goal.returns-in-CheckedIn-clause-rows
returns-in-CheckedIn-clause-rows c = sym (ap rows_of c.in-CheckedIn.is)

pub returns-in-Overdue-clause-rows : goal.returns-in-Overdue-clause-rows
returns-in-Overdue-clause-rows c = sym (ap rows_of c.in-Overdue.is)

pub returns-in-Renew-clause-rows : goal.returns-in-Renew-clause-rows
returns-in-Renew-clause-rows c = sym (ap rows_of c.in-Renew.is)

pub returns-in-RenewAnswer-clause-rows : goal.returns-in-RenewAnswer-clause-rows
returns-in-RenewAnswer-clause-rows c = sym (ap rows_of c.in-RenewAnswer.is)

pub returns-in-Lost-clause-rows : goal.returns-in-Lost-clause-rows
returns-in-Lost-clause-rows c = sym (ap rows_of c.in-Lost.is)

pub returns-in-Damaged-clause-rows : goal.returns-in-Damaged-clause-rows
returns-in-Damaged-clause-rows c = sym (ap rows_of c.in-Damaged.is)

pub returns-in-MessageApdu-clause-rows : goal.returns-in-MessageApdu-clause-rows
returns-in-MessageApdu-clause-rows c = sym (ap rows_of c.in-MessageApdu.is)

pub returns-in-StatusQuery-clause-rows : goal.returns-in-StatusQuery-clause-rows
returns-in-StatusQuery-clause-rows c = sym (ap rows_of c.in-StatusQuery.is)

pub returns-in-Expired-clause-rows : goal.returns-in-Expired-clause-rows
returns-in-Expired-clause-rows c = sym (ap rows_of c.in-Expired.is)

pub returns-in-IllApdu-clause-rows : goal.returns-in-IllApdu-clause-rows
returns-in-IllApdu-clause-rows c = sym (ap rows_of c.in-IllApdu.is)

pub returns-in-Encoding-clause-rows : goal.returns-in-Encoding-clause-rows
returns-in-Encoding-clause-rows c = sym (ap rows_of c.in-Encoding.is)

pub returns-in-External-clause-rows : goal.returns-in-External-clause-rows
returns-in-External-clause-rows c = sym (ap rows_of c.in-External.is)

pub returns-in-TaggedExternal-clause-rows : goal.returns-in-TaggedExternal-clause-rows
returns-in-TaggedExternal-clause-rows c = sym (ap rows_of c.in-TaggedExternal.is)

pub returns-in-Externals-clause-rows : goal.returns-in-Externals-clause-rows
returns-in-Externals-clause-rows c = sym (ap rows_of c.in-Externals.is)

pub returns-in-Extension-clause-rows : goal.returns-in-Extension-clause-rows
returns-in-Extension-clause-rows c = sym (ap rows_of c.in-Extension.is)

pub returns-in-Extensions-clause-rows : goal.returns-in-Extensions-clause-rows
returns-in-Extensions-clause-rows c = sym (ap rows_of c.in-Extensions.is)

pub returns-in-EDeliveryService-clause-rows : goal.returns-in-EDeliveryService-clause-rows
returns-in-EDeliveryService-clause-rows c = sym (ap rows_of c.in-EDeliveryService.is)

pub returns-in-DocumentType-clause-rows : goal.returns-in-DocumentType-clause-rows
returns-in-DocumentType-clause-rows c = sym (ap rows_of c.in-DocumentType.is)

pub returns-in-EDeliveryDetails-clause-rows : goal.returns-in-EDeliveryDetails-clause-rows
returns-in-EDeliveryDetails-clause-rows c = sym (ap rows_of c.in-EDeliveryDetails.is)

pub returns-in-ElectronicDelivery-clause-rows : goal.returns-in-ElectronicDelivery-clause-rows
returns-in-ElectronicDelivery-clause-rows c = sym (ap rows_of c.in-ElectronicDelivery.is)

pub returns-in-ElectronicDeliveries-clause-rows : goal.returns-in-ElectronicDeliveries-clause-rows
returns-in-ElectronicDeliveries-clause-rows c = sym (ap rows_of c.in-ElectronicDeliveries.is)

pub returns-in-SpecificUnits-clause-rows : goal.returns-in-SpecificUnits-clause-rows
returns-in-SpecificUnits-clause-rows c = sym (ap rows_of c.in-SpecificUnits.is)

pub returns-in-DamagedPortion-clause-rows : goal.returns-in-DamagedPortion-clause-rows
returns-in-DamagedPortion-clause-rows c = sym (ap rows_of c.in-DamagedPortion.is)

pub returns-in-DamagedDetails-clause-rows : goal.returns-in-DamagedDetails-clause-rows
returns-in-DamagedDetails-clause-rows c = sym (ap rows_of c.in-DamagedDetails.is)

pub returns-in-HistoryReport-clause-rows : goal.returns-in-HistoryReport-clause-rows
returns-in-HistoryReport-clause-rows c = sym (ap rows_of c.in-HistoryReport.is)

pub returns-in-StatusReport-clause-rows : goal.returns-in-StatusReport-clause-rows
returns-in-StatusReport-clause-rows c = sym (ap rows_of c.in-StatusReport.is)

pub returns-in-AlreadyForwarded-clause-rows : goal.returns-in-AlreadyForwarded-clause-rows
returns-in-AlreadyForwarded-clause-rows c = sym (ap rows_of c.in-AlreadyForwarded.is)

pub returns-in-UserErrorReport-clause-rows : goal.returns-in-UserErrorReport-clause-rows
returns-in-UserErrorReport-clause-rows c = sym (ap rows_of c.in-UserErrorReport.is)

pub returns-in-StateTransition-clause-rows : goal.returns-in-StateTransition-clause-rows
returns-in-StateTransition-clause-rows c = sym (ap rows_of c.in-StateTransition.is)

pub returns-in-ProviderErrorReport-clause-rows : goal.returns-in-ProviderErrorReport-clause-rows
returns-in-ProviderErrorReport-clause-rows c = sym (ap rows_of c.in-ProviderErrorReport.is)

pub returns-in-ErrorReport-clause-rows : goal.returns-in-ErrorReport-clause-rows
returns-in-ErrorReport-clause-rows c = sym (ap rows_of c.in-ErrorReport.is)

pub returns-in-ForwardNotification-clause-rows : goal.returns-in-ForwardNotification-clause-rows
returns-in-ForwardNotification-clause-rows c = sym (ap rows_of c.in-ForwardNotification.is)

pub returns-in-StatusOrErrorReport-clause-rows : goal.returns-in-StatusOrErrorReport-clause-rows
returns-in-StatusOrErrorReport-clause-rows c = sym (ap rows_of c.in-StatusOrErrorReport.is)

pub returns-in-ModuleShippedVia-clause-rows : goal.returns-in-ModuleShippedVia-clause-rows
returns-in-ModuleShippedVia-clause-rows c = sym (ap rows_of c.in-ModuleShippedVia.is)

pub returns-in-ModuleItemId-clause-rows : goal.returns-in-ModuleItemId-clause-rows
returns-in-ModuleItemId-clause-rows c = sym (ap rows_of c.in-ModuleItemId.is)

pub returns-in-ModuleUnitsPerMedium-clause-rows : goal.returns-in-ModuleUnitsPerMedium-clause-rows
returns-in-ModuleUnitsPerMedium-clause-rows c = sym (ap rows_of c.in-ModuleUnitsPerMedium.is)

pub returns-in-ModuleSupplyDetails-clause-rows : goal.returns-in-ModuleSupplyDetails-clause-rows
returns-in-ModuleSupplyDetails-clause-rows c = sym (ap rows_of c.in-ModuleSupplyDetails.is)

pub returns-in-ModuleIllRequest-clause-rows : goal.returns-in-ModuleIllRequest-clause-rows
returns-in-ModuleIllRequest-clause-rows c = sym (ap rows_of c.in-ModuleIllRequest.is)

pub returns-in-ModuleShipped-clause-rows : goal.returns-in-ModuleShipped-clause-rows
returns-in-ModuleShipped-clause-rows c = sym (ap rows_of c.in-ModuleShipped.is)

pub returns-in-ModuleConditional-clause-rows : goal.returns-in-ModuleConditional-clause-rows
returns-in-ModuleConditional-clause-rows c = sym (ap rows_of c.in-ModuleConditional.is)

pub returns-in-ModuleWillSupply-clause-rows : goal.returns-in-ModuleWillSupply-clause-rows
returns-in-ModuleWillSupply-clause-rows c = sym (ap rows_of c.in-ModuleWillSupply.is)

pub returns-in-ModuleResults-clause-rows : goal.returns-in-ModuleResults-clause-rows
returns-in-ModuleResults-clause-rows c = sym (ap rows_of c.in-ModuleResults.is)

pub returns-in-ModuleIllAnswer-clause-rows : goal.returns-in-ModuleIllAnswer-clause-rows
returns-in-ModuleIllAnswer-clause-rows c = sym (ap rows_of c.in-ModuleIllAnswer.is)

pub returns-in-ModuleCancel-clause-rows : goal.returns-in-ModuleCancel-clause-rows
returns-in-ModuleCancel-clause-rows c = sym (ap rows_of c.in-ModuleCancel.is)

pub returns-in-ModuleCancelReply-clause-rows : goal.returns-in-ModuleCancelReply-clause-rows
returns-in-ModuleCancelReply-clause-rows c = sym (ap rows_of c.in-ModuleCancelReply.is)

pub returns-in-ModuleReceived-clause-rows : goal.returns-in-ModuleReceived-clause-rows
returns-in-ModuleReceived-clause-rows c = sym (ap rows_of c.in-ModuleReceived.is)

pub returns-in-ModuleRecall-clause-rows : goal.returns-in-ModuleRecall-clause-rows
returns-in-ModuleRecall-clause-rows c = sym (ap rows_of c.in-ModuleRecall.is)

pub returns-in-ModuleReturned-clause-rows : goal.returns-in-ModuleReturned-clause-rows
returns-in-ModuleReturned-clause-rows c = sym (ap rows_of c.in-ModuleReturned.is)

pub returns-in-ModuleCheckedIn-clause-rows : goal.returns-in-ModuleCheckedIn-clause-rows
returns-in-ModuleCheckedIn-clause-rows c = sym (ap rows_of c.in-ModuleCheckedIn.is)

pub returns-in-ModuleOverdue-clause-rows : goal.returns-in-ModuleOverdue-clause-rows
returns-in-ModuleOverdue-clause-rows c = sym (ap rows_of c.in-ModuleOverdue.is)

pub returns-in-ModuleRenew-clause-rows : goal.returns-in-ModuleRenew-clause-rows
returns-in-ModuleRenew-clause-rows c = sym (ap rows_of c.in-ModuleRenew.is)

pub returns-in-ModuleRenewAnswer-clause-rows : goal.returns-in-ModuleRenewAnswer-clause-rows
returns-in-ModuleRenewAnswer-clause-rows c = sym (ap rows_of c.in-ModuleRenewAnswer.is)

pub returns-in-ModuleLost-clause-rows : goal.returns-in-ModuleLost-clause-rows
returns-in-ModuleLost-clause-rows c = sym (ap rows_of c.in-ModuleLost.is)

pub returns-in-ModuleDamaged-clause-rows : goal.returns-in-ModuleDamaged-clause-rows
returns-in-ModuleDamaged-clause-rows c = sym (ap rows_of c.in-ModuleDamaged.is)

pub returns-in-ModuleMessageApdu-clause-rows : goal.returns-in-ModuleMessageApdu-clause-rows
returns-in-ModuleMessageApdu-clause-rows c = sym (ap rows_of c.in-ModuleMessageApdu.is)

pub returns-in-ModuleStatusQuery-clause-rows : goal.returns-in-ModuleStatusQuery-clause-rows
returns-in-ModuleStatusQuery-clause-rows c = sym (ap rows_of c.in-ModuleStatusQuery.is)

pub returns-in-ModuleExpired-clause-rows : goal.returns-in-ModuleExpired-clause-rows
returns-in-ModuleExpired-clause-rows c = sym (ap rows_of c.in-ModuleExpired.is)

pub returns-in-ModuleIllApdu-clause-rows : goal.returns-in-ModuleIllApdu-clause-rows
returns-in-ModuleIllApdu-clause-rows c = sym (ap rows_of c.in-ModuleIllApdu.is)

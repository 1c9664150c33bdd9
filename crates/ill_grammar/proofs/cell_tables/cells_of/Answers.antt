use Rattle.std.proofs.Common.{ap, sym}
use Rattle.ill_grammar.specs.code.Meant.{node_meant}
use Rattle.ill_grammar.proofs.cell_tables.cells_of.Goals as goal

pub returns-in-Boolean-clause-meant : goal.returns-in-Boolean-clause-meant
returns-in-Boolean-clause-meant c = sym (ap node_meant c.in-Boolean.is)

pub returns-in-Integer-clause-meant : goal.returns-in-Integer-clause-meant
returns-in-Integer-clause-meant c = sym (ap node_meant c.in-Integer.is)

pub returns-in-Enumerated-clause-meant : goal.returns-in-Enumerated-clause-meant
returns-in-Enumerated-clause-meant c = sym (ap node_meant c.in-Enumerated.is)

pub returns-in-IsoDate-clause-meant : goal.returns-in-IsoDate-clause-meant
returns-in-IsoDate-clause-meant c = sym (ap node_meant c.in-IsoDate.is)

pub returns-in-IsoTime-clause-meant : goal.returns-in-IsoTime-clause-meant
returns-in-IsoTime-clause-meant c = sym (ap node_meant c.in-IsoTime.is)

pub returns-in-PrintableString-clause-meant : goal.returns-in-PrintableString-clause-meant
returns-in-PrintableString-clause-meant c = sym (ap node_meant c.in-PrintableString.is)

pub returns-in-IllString-clause-meant : goal.returns-in-IllString-clause-meant
returns-in-IllString-clause-meant c = sym (ap node_meant c.in-IllString.is)

pub returns-in-LeftOut-clause-meant : goal.returns-in-LeftOut-clause-meant
returns-in-LeftOut-clause-meant c = sym (ap node_meant c.in-LeftOut.is)

pub returns-in-Symbol-clause-meant : goal.returns-in-Symbol-clause-meant
returns-in-Symbol-clause-meant c = sym (ap node_meant c.in-Symbol.is)

pub returns-in-Name-clause-meant : goal.returns-in-Name-clause-meant
returns-in-Name-clause-meant c = sym (ap node_meant c.in-Name.is)

pub returns-in-SystemId-clause-meant : goal.returns-in-SystemId-clause-meant
returns-in-SystemId-clause-meant c = sym (ap node_meant c.in-SystemId.is)

pub returns-in-TransactionId-clause-meant : goal.returns-in-TransactionId-clause-meant
returns-in-TransactionId-clause-meant c = sym (ap node_meant c.in-TransactionId.is)

pub returns-in-DateTime-clause-meant : goal.returns-in-DateTime-clause-meant
returns-in-DateTime-clause-meant c = sym (ap node_meant c.in-DateTime.is)

pub returns-in-ServiceDateTime-clause-meant : goal.returns-in-ServiceDateTime-clause-meant
returns-in-ServiceDateTime-clause-meant c = sym (ap node_meant c.in-ServiceDateTime.is)

pub returns-in-PostalAddress-clause-meant : goal.returns-in-PostalAddress-clause-meant
returns-in-PostalAddress-clause-meant c = sym (ap node_meant c.in-PostalAddress.is)

pub returns-in-SystemAddress-clause-meant : goal.returns-in-SystemAddress-clause-meant
returns-in-SystemAddress-clause-meant c = sym (ap node_meant c.in-SystemAddress.is)

pub returns-in-DeliveryAddress-clause-meant : goal.returns-in-DeliveryAddress-clause-meant
returns-in-DeliveryAddress-clause-meant c = sym (ap node_meant c.in-DeliveryAddress.is)

pub returns-in-ClientId-clause-meant : goal.returns-in-ClientId-clause-meant
returns-in-ClientId-clause-meant c = sym (ap node_meant c.in-ClientId.is)

pub returns-in-DeliveryService-clause-meant : goal.returns-in-DeliveryService-clause-meant
returns-in-DeliveryService-clause-meant c = sym (ap node_meant c.in-DeliveryService.is)

pub returns-in-SearchType-clause-meant : goal.returns-in-SearchType-clause-meant
returns-in-SearchType-clause-meant c = sym (ap node_meant c.in-SearchType.is)

pub returns-in-SupplyMediumInfo-clause-meant : goal.returns-in-SupplyMediumInfo-clause-meant
returns-in-SupplyMediumInfo-clause-meant c = sym (ap node_meant c.in-SupplyMediumInfo.is)

pub returns-in-ItemId-clause-meant : goal.returns-in-ItemId-clause-meant
returns-in-ItemId-clause-meant c = sym (ap node_meant c.in-ItemId.is)

pub returns-in-Amount-clause-meant : goal.returns-in-Amount-clause-meant
returns-in-Amount-clause-meant c = sym (ap node_meant c.in-Amount.is)

pub returns-in-CostInfo-clause-meant : goal.returns-in-CostInfo-clause-meant
returns-in-CostInfo-clause-meant c = sym (ap node_meant c.in-CostInfo.is)

pub returns-in-SendTo-clause-meant : goal.returns-in-SendTo-clause-meant
returns-in-SendTo-clause-meant c = sym (ap node_meant c.in-SendTo.is)

pub returns-in-SendToList-clause-meant : goal.returns-in-SendToList-clause-meant
returns-in-SendToList-clause-meant c = sym (ap node_meant c.in-SendToList.is)

pub returns-in-AlreadyTriedList-clause-meant : goal.returns-in-AlreadyTriedList-clause-meant
returns-in-AlreadyTriedList-clause-meant c = sym (ap node_meant c.in-AlreadyTriedList.is)

pub returns-in-ThirdPartyInfo-clause-meant : goal.returns-in-ThirdPartyInfo-clause-meant
returns-in-ThirdPartyInfo-clause-meant c = sym (ap node_meant c.in-ThirdPartyInfo.is)

pub returns-in-UnitsPerMedium-clause-meant : goal.returns-in-UnitsPerMedium-clause-meant
returns-in-UnitsPerMedium-clause-meant c = sym (ap node_meant c.in-UnitsPerMedium.is)

pub returns-in-UnitsPerMediumList-clause-meant : goal.returns-in-UnitsPerMediumList-clause-meant
returns-in-UnitsPerMediumList-clause-meant c = sym (ap node_meant c.in-UnitsPerMediumList.is)

pub returns-in-DateDue-clause-meant : goal.returns-in-DateDue-clause-meant
returns-in-DateDue-clause-meant c = sym (ap node_meant c.in-DateDue.is)

pub returns-in-ShippedVia-clause-meant : goal.returns-in-ShippedVia-clause-meant
returns-in-ShippedVia-clause-meant c = sym (ap node_meant c.in-ShippedVia.is)

pub returns-in-SupplyDetails-clause-meant : goal.returns-in-SupplyDetails-clause-meant
returns-in-SupplyDetails-clause-meant c = sym (ap node_meant c.in-SupplyDetails.is)

pub returns-in-IllServiceTypes-clause-meant : goal.returns-in-IllServiceTypes-clause-meant
returns-in-IllServiceTypes-clause-meant c = sym (ap node_meant c.in-IllServiceTypes.is)

pub returns-in-SupplyMediumInfos-clause-meant : goal.returns-in-SupplyMediumInfos-clause-meant
returns-in-SupplyMediumInfos-clause-meant c = sym (ap node_meant c.in-SupplyMediumInfos.is)

pub returns-in-IllRequest-clause-meant : goal.returns-in-IllRequest-clause-meant
returns-in-IllRequest-clause-meant c = sym (ap node_meant c.in-IllRequest.is)

pub returns-in-Shipped-clause-meant : goal.returns-in-Shipped-clause-meant
returns-in-Shipped-clause-meant c = sym (ap node_meant c.in-Shipped.is)

pub returns-in-LocationInfo-clause-meant : goal.returns-in-LocationInfo-clause-meant
returns-in-LocationInfo-clause-meant c = sym (ap node_meant c.in-LocationInfo.is)

pub returns-in-Locs-clause-meant : goal.returns-in-Locs-clause-meant
returns-in-Locs-clause-meant c = sym (ap node_meant c.in-Locs.is)

pub returns-in-Conditional-clause-meant : goal.returns-in-Conditional-clause-meant
returns-in-Conditional-clause-meant c = sym (ap node_meant c.in-Conditional.is)

pub returns-in-Retry-clause-meant : goal.returns-in-Retry-clause-meant
returns-in-Retry-clause-meant c = sym (ap node_meant c.in-Retry.is)

pub returns-in-Unfilled-clause-meant : goal.returns-in-Unfilled-clause-meant
returns-in-Unfilled-clause-meant c = sym (ap node_meant c.in-Unfilled.is)

pub returns-in-Locations-clause-meant : goal.returns-in-Locations-clause-meant
returns-in-Locations-clause-meant c = sym (ap node_meant c.in-Locations.is)

pub returns-in-WillSupply-clause-meant : goal.returns-in-WillSupply-clause-meant
returns-in-WillSupply-clause-meant c = sym (ap node_meant c.in-WillSupply.is)

pub returns-in-HoldPlaced-clause-meant : goal.returns-in-HoldPlaced-clause-meant
returns-in-HoldPlaced-clause-meant c = sym (ap node_meant c.in-HoldPlaced.is)

pub returns-in-Estimate-clause-meant : goal.returns-in-Estimate-clause-meant
returns-in-Estimate-clause-meant c = sym (ap node_meant c.in-Estimate.is)

pub returns-in-Results-clause-meant : goal.returns-in-Results-clause-meant
returns-in-Results-clause-meant c = sym (ap node_meant c.in-Results.is)

pub returns-in-IllAnswer-clause-meant : goal.returns-in-IllAnswer-clause-meant
returns-in-IllAnswer-clause-meant c = sym (ap node_meant c.in-IllAnswer.is)

pub returns-in-ConditionalReply-clause-meant : goal.returns-in-ConditionalReply-clause-meant
returns-in-ConditionalReply-clause-meant c = sym (ap node_meant c.in-ConditionalReply.is)

pub returns-in-Cancel-clause-meant : goal.returns-in-Cancel-clause-meant
returns-in-Cancel-clause-meant c = sym (ap node_meant c.in-Cancel.is)

pub returns-in-CancelReply-clause-meant : goal.returns-in-CancelReply-clause-meant
returns-in-CancelReply-clause-meant c = sym (ap node_meant c.in-CancelReply.is)

pub returns-in-Received-clause-meant : goal.returns-in-Received-clause-meant
returns-in-Received-clause-meant c = sym (ap node_meant c.in-Received.is)

pub returns-in-Recall-clause-meant : goal.returns-in-Recall-clause-meant
returns-in-Recall-clause-meant c = sym (ap node_meant c.in-Recall.is)

pub returns-in-Returned-clause-meant : goal.returns-in-Returned-clause-meant
returns-in-Returned-clause-meant c = sym (ap node_meant c.in-Returned.is)

pub returns-in-CheckedIn-clause-meant : goal.returns-in-CheckedIn-clause-meant
returns-in-CheckedIn-clause-meant c = sym (ap node_meant c.in-CheckedIn.is)

pub returns-in-Overdue-clause-meant : goal.returns-in-Overdue-clause-meant
returns-in-Overdue-clause-meant c = sym (ap node_meant c.in-Overdue.is)

pub returns-in-Renew-clause-meant : goal.returns-in-Renew-clause-meant
returns-in-Renew-clause-meant c = sym (ap node_meant c.in-Renew.is)

pub returns-in-RenewAnswer-clause-meant : goal.returns-in-RenewAnswer-clause-meant
returns-in-RenewAnswer-clause-meant c = sym (ap node_meant c.in-RenewAnswer.is)

pub returns-in-Lost-clause-meant : goal.returns-in-Lost-clause-meant
returns-in-Lost-clause-meant c = sym (ap node_meant c.in-Lost.is)

pub returns-in-Damaged-clause-meant : goal.returns-in-Damaged-clause-meant
returns-in-Damaged-clause-meant c = sym (ap node_meant c.in-Damaged.is)

pub returns-in-MessageApdu-clause-meant : goal.returns-in-MessageApdu-clause-meant
returns-in-MessageApdu-clause-meant c = sym (ap node_meant c.in-MessageApdu.is)

pub returns-in-StatusQuery-clause-meant : goal.returns-in-StatusQuery-clause-meant
returns-in-StatusQuery-clause-meant c = sym (ap node_meant c.in-StatusQuery.is)

pub returns-in-Expired-clause-meant : goal.returns-in-Expired-clause-meant
returns-in-Expired-clause-meant c = sym (ap node_meant c.in-Expired.is)

pub returns-in-IllApdu-clause-meant : goal.returns-in-IllApdu-clause-meant
returns-in-IllApdu-clause-meant c = sym (ap node_meant c.in-IllApdu.is)

pub returns-in-Null-clause-meant : goal.returns-in-Null-clause-meant
returns-in-Null-clause-meant c = sym (ap node_meant c.in-Null.is)

pub returns-in-ObjectIdentifier-clause-meant : goal.returns-in-ObjectIdentifier-clause-meant
returns-in-ObjectIdentifier-clause-meant c = sym (ap node_meant c.in-ObjectIdentifier.is)

pub returns-in-OctetString-clause-meant : goal.returns-in-OctetString-clause-meant
returns-in-OctetString-clause-meant c = sym (ap node_meant c.in-OctetString.is)

pub returns-in-BitString-clause-meant : goal.returns-in-BitString-clause-meant
returns-in-BitString-clause-meant c = sym (ap node_meant c.in-BitString.is)

pub returns-in-ObjectDescriptor-clause-meant : goal.returns-in-ObjectDescriptor-clause-meant
returns-in-ObjectDescriptor-clause-meant c = sym (ap node_meant c.in-ObjectDescriptor.is)

pub returns-in-Any-clause-meant : goal.returns-in-Any-clause-meant
returns-in-Any-clause-meant c = sym (ap node_meant c.in-Any.is)

pub returns-in-Encoding-clause-meant : goal.returns-in-Encoding-clause-meant
returns-in-Encoding-clause-meant c = sym (ap node_meant c.in-Encoding.is)

pub returns-in-External-clause-meant : goal.returns-in-External-clause-meant
returns-in-External-clause-meant c = sym (ap node_meant c.in-External.is)

pub returns-in-TaggedExternal-clause-meant : goal.returns-in-TaggedExternal-clause-meant
returns-in-TaggedExternal-clause-meant c = sym (ap node_meant c.in-TaggedExternal.is)

pub returns-in-Externals-clause-meant : goal.returns-in-Externals-clause-meant
returns-in-Externals-clause-meant c = sym (ap node_meant c.in-Externals.is)

pub returns-in-Extension-clause-meant : goal.returns-in-Extension-clause-meant
returns-in-Extension-clause-meant c = sym (ap node_meant c.in-Extension.is)

pub returns-in-Extensions-clause-meant : goal.returns-in-Extensions-clause-meant
returns-in-Extensions-clause-meant c = sym (ap node_meant c.in-Extensions.is)

pub returns-in-EDeliveryService-clause-meant : goal.returns-in-EDeliveryService-clause-meant
returns-in-EDeliveryService-clause-meant c = sym (ap node_meant c.in-EDeliveryService.is)

pub returns-in-DocumentType-clause-meant : goal.returns-in-DocumentType-clause-meant
returns-in-DocumentType-clause-meant c = sym (ap node_meant c.in-DocumentType.is)

pub returns-in-EDeliveryDetails-clause-meant : goal.returns-in-EDeliveryDetails-clause-meant
returns-in-EDeliveryDetails-clause-meant c = sym (ap node_meant c.in-EDeliveryDetails.is)

pub returns-in-ElectronicDelivery-clause-meant : goal.returns-in-ElectronicDelivery-clause-meant
returns-in-ElectronicDelivery-clause-meant c = sym (ap node_meant c.in-ElectronicDelivery.is)

pub returns-in-SpecificUnits-clause-meant : goal.returns-in-SpecificUnits-clause-meant
returns-in-SpecificUnits-clause-meant c = sym (ap node_meant c.in-SpecificUnits.is)

pub returns-in-DamagedPortion-clause-meant : goal.returns-in-DamagedPortion-clause-meant
returns-in-DamagedPortion-clause-meant c = sym (ap node_meant c.in-DamagedPortion.is)

pub returns-in-DamagedDetails-clause-meant : goal.returns-in-DamagedDetails-clause-meant
returns-in-DamagedDetails-clause-meant c = sym (ap node_meant c.in-DamagedDetails.is)

pub returns-in-HistoryReport-clause-meant : goal.returns-in-HistoryReport-clause-meant
returns-in-HistoryReport-clause-meant c = sym (ap node_meant c.in-HistoryReport.is)

pub returns-in-StatusReport-clause-meant : goal.returns-in-StatusReport-clause-meant
returns-in-StatusReport-clause-meant c = sym (ap node_meant c.in-StatusReport.is)

pub returns-in-AlreadyForwarded-clause-meant : goal.returns-in-AlreadyForwarded-clause-meant
returns-in-AlreadyForwarded-clause-meant c = sym (ap node_meant c.in-AlreadyForwarded.is)

pub returns-in-UserErrorReport-clause-meant : goal.returns-in-UserErrorReport-clause-meant
returns-in-UserErrorReport-clause-meant c = sym (ap node_meant c.in-UserErrorReport.is)

pub returns-in-StateTransition-clause-meant : goal.returns-in-StateTransition-clause-meant
returns-in-StateTransition-clause-meant c = sym (ap node_meant c.in-StateTransition.is)

pub returns-in-ProviderErrorReport-clause-meant : goal.returns-in-ProviderErrorReport-clause-meant
returns-in-ProviderErrorReport-clause-meant c = sym (ap node_meant c.in-ProviderErrorReport.is)

pub returns-in-ErrorReport-clause-meant : goal.returns-in-ErrorReport-clause-meant
returns-in-ErrorReport-clause-meant c = sym (ap node_meant c.in-ErrorReport.is)

pub returns-in-ForwardNotification-clause-meant : goal.returns-in-ForwardNotification-clause-meant
returns-in-ForwardNotification-clause-meant c = sym (ap node_meant c.in-ForwardNotification.is)

pub returns-in-StatusOrErrorReport-clause-meant : goal.returns-in-StatusOrErrorReport-clause-meant
returns-in-StatusOrErrorReport-clause-meant c = sym (ap node_meant c.in-StatusOrErrorReport.is)

pub returns-in-ModuleShippedVia-clause-meant : goal.returns-in-ModuleShippedVia-clause-meant
returns-in-ModuleShippedVia-clause-meant c = sym (ap node_meant c.in-ModuleShippedVia.is)

pub returns-in-ModuleItemId-clause-meant : goal.returns-in-ModuleItemId-clause-meant
returns-in-ModuleItemId-clause-meant c = sym (ap node_meant c.in-ModuleItemId.is)

pub returns-in-ModuleSupplyDetails-clause-meant : goal.returns-in-ModuleSupplyDetails-clause-meant
returns-in-ModuleSupplyDetails-clause-meant c = sym (ap node_meant c.in-ModuleSupplyDetails.is)

pub returns-in-ModuleIllRequest-clause-meant : goal.returns-in-ModuleIllRequest-clause-meant
returns-in-ModuleIllRequest-clause-meant c = sym (ap node_meant c.in-ModuleIllRequest.is)

pub returns-in-ModuleShipped-clause-meant : goal.returns-in-ModuleShipped-clause-meant
returns-in-ModuleShipped-clause-meant c = sym (ap node_meant c.in-ModuleShipped.is)

pub returns-in-ModuleConditional-clause-meant : goal.returns-in-ModuleConditional-clause-meant
returns-in-ModuleConditional-clause-meant c = sym (ap node_meant c.in-ModuleConditional.is)

pub returns-in-ModuleWillSupply-clause-meant : goal.returns-in-ModuleWillSupply-clause-meant
returns-in-ModuleWillSupply-clause-meant c = sym (ap node_meant c.in-ModuleWillSupply.is)

pub returns-in-ModuleResults-clause-meant : goal.returns-in-ModuleResults-clause-meant
returns-in-ModuleResults-clause-meant c = sym (ap node_meant c.in-ModuleResults.is)

pub returns-in-ModuleIllAnswer-clause-meant : goal.returns-in-ModuleIllAnswer-clause-meant
returns-in-ModuleIllAnswer-clause-meant c = sym (ap node_meant c.in-ModuleIllAnswer.is)

pub returns-in-ModuleCancel-clause-meant : goal.returns-in-ModuleCancel-clause-meant
returns-in-ModuleCancel-clause-meant c = sym (ap node_meant c.in-ModuleCancel.is)

pub returns-in-ModuleCancelReply-clause-meant : goal.returns-in-ModuleCancelReply-clause-meant
returns-in-ModuleCancelReply-clause-meant c = sym (ap node_meant c.in-ModuleCancelReply.is)

pub returns-in-ModuleReceived-clause-meant : goal.returns-in-ModuleReceived-clause-meant
returns-in-ModuleReceived-clause-meant c = sym (ap node_meant c.in-ModuleReceived.is)

pub returns-in-ModuleRecall-clause-meant : goal.returns-in-ModuleRecall-clause-meant
returns-in-ModuleRecall-clause-meant c = sym (ap node_meant c.in-ModuleRecall.is)

pub returns-in-ModuleReturned-clause-meant : goal.returns-in-ModuleReturned-clause-meant
returns-in-ModuleReturned-clause-meant c = sym (ap node_meant c.in-ModuleReturned.is)

pub returns-in-ModuleCheckedIn-clause-meant : goal.returns-in-ModuleCheckedIn-clause-meant
returns-in-ModuleCheckedIn-clause-meant c = sym (ap node_meant c.in-ModuleCheckedIn.is)

pub returns-in-ModuleOverdue-clause-meant : goal.returns-in-ModuleOverdue-clause-meant
returns-in-ModuleOverdue-clause-meant c = sym (ap node_meant c.in-ModuleOverdue.is)

pub returns-in-ModuleRenew-clause-meant : goal.returns-in-ModuleRenew-clause-meant
returns-in-ModuleRenew-clause-meant c = sym (ap node_meant c.in-ModuleRenew.is)

pub returns-in-ModuleRenewAnswer-clause-meant : goal.returns-in-ModuleRenewAnswer-clause-meant
returns-in-ModuleRenewAnswer-clause-meant c = sym (ap node_meant c.in-ModuleRenewAnswer.is)

pub returns-in-ModuleLost-clause-meant : goal.returns-in-ModuleLost-clause-meant
returns-in-ModuleLost-clause-meant c = sym (ap node_meant c.in-ModuleLost.is)

pub returns-in-ModuleDamaged-clause-meant : goal.returns-in-ModuleDamaged-clause-meant
returns-in-ModuleDamaged-clause-meant c = sym (ap node_meant c.in-ModuleDamaged.is)

pub returns-in-ModuleMessageApdu-clause-meant : goal.returns-in-ModuleMessageApdu-clause-meant
returns-in-ModuleMessageApdu-clause-meant c = sym (ap node_meant c.in-ModuleMessageApdu.is)

pub returns-in-ModuleStatusQuery-clause-meant : goal.returns-in-ModuleStatusQuery-clause-meant
returns-in-ModuleStatusQuery-clause-meant c = sym (ap node_meant c.in-ModuleStatusQuery.is)

pub returns-in-ModuleExpired-clause-meant : goal.returns-in-ModuleExpired-clause-meant
returns-in-ModuleExpired-clause-meant c = sym (ap node_meant c.in-ModuleExpired.is)

pub returns-in-ModuleIllApdu-clause-meant : goal.returns-in-ModuleIllApdu-clause-meant
returns-in-ModuleIllApdu-clause-meant c = sym (ap node_meant c.in-ModuleIllApdu.is)

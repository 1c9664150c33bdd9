-- The names of the nodes, and of each node's rows.
use Rattle.std.specs.Prelude.{ℕ, nat_eq, List, [], ◌∷◌, ◌++◌, codes, Option, Some, None, option_map, slice_get, if◌then◌else◌}
use Rattle.ill_tables.specs.declared.{node.NodeId.NodeId, part.PartId.PartId, part.Row.Row}
use Rattle.ill_tables.specs.declared.node.NodeId.TheVariants.{LeftOut, Symbol, Name, SystemId, TransactionId, DateTime, ServiceDateTime, PostalAddress, SystemAddress, DeliveryAddress, ClientId, DeliveryService, RequesterOptionalMessages, ResponderOptionalMessages, SearchType, SupplyMediumInfo, ItemId, Amount, CostInfo, SendTo, SendToList, AlreadyTriedList, ThirdPartyInfo, UnitsPerMedium, UnitsPerMediumList, DateDue, ShippedVia, SupplyDetails, IllServiceTypes, SupplyMediumInfos, IllRequest, Shipped, LocationInfo, Locs, Conditional, Retry, Unfilled, Locations, WillSupply, HoldPlaced, Estimate, Results, IllAnswer, ConditionalReply, Cancel, CancelReply, Received, Recall, Returned, CheckedIn, Overdue, Renew, RenewAnswer, Lost, Damaged, MessageApdu, StatusQuery, Expired, IllApdu, Encoding, External, TaggedExternal, Externals, Extension, Extensions, EDeliveryService, DocumentType, EDeliveryDetails, ElectronicDelivery, ElectronicDeliveries, SpecificUnits, DamagedPortion, DamagedDetails, HistoryReport, StatusReport, AlreadyForwarded, UserErrorReport, StateTransition, ProviderErrorReport, ErrorReport, ForwardNotification, StatusOrErrorReport, ModuleDeliveryService, ModuleShippedVia, ModuleItemId, ModuleUnitsPerMedium, ModuleUnitsPerMediumList, ModuleSupplyDetails, ModuleIllRequest, ModuleShipped, ModuleConditional, ModuleWillSupply, ModuleResults, ModuleIllAnswer, ModuleConditionalReply, ModuleCancel, ModuleCancelReply, ModuleReceived, ModuleRecall, ModuleReturned, ModuleCheckedIn, ModuleOverdue, ModuleRenew, ModuleRenewAnswer, ModuleLost, ModuleDamaged, ModuleMessageApdu, ModuleStatusQuery, ModuleExpired, ModuleIllApdu}
use Rattle.ill_tables.specs.Table.{rows_of}

-- the letter comes before the first word
abbrev before_first : ℕ → List (List ℕ) → List (List ℕ)
before_first letter [] = (letter ∷ []) ∷ []
before_first letter (word ∷ words) = (letter ∷ word) ∷ words

-- the words between blanks
abbrev pub words_of : List ℕ → List (List ℕ)
words_of [] = [] ∷ []
words_of (letter ∷ text) = if nat_eq letter 0x20 then [] ∷ words_of text else before_first letter (words_of text)

abbrev named : List ℕ → List ℕ → List ℕ × List (List ℕ)
named node rows = (node, words_of rows)

-- an APDU, with the names of the rows that each begins with
abbrev headed : List ℕ → List ℕ → List ℕ × List (List ℕ)
headed node rows = named node (codes "protocol-version-num transaction-id service-date-time requester-id responder-id " ++ rows)

abbrev conditional : List ℕ
conditional = codes "conditions date-for-reply location-list"

-- a list inside a row has the empty name
abbrev names : NodeId → List ℕ × List (List ℕ)
names Symbol = named (codes "Symbol") (codes "person-symbol institution-symbol")
names Name = named (codes "Name") (codes "name-of-person name-of-institution")
names SystemId = named (codes "System-Id") (codes "person-or-institution-symbol name-of-person-or-institution")
names TransactionId = named (codes "Transaction-Id") (codes "initial-requester-id transaction-group-qualifier transaction-qualifier "
    ++ codes "sub-transaction-qualifier")
names DateTime = named (codes "Date-Time") (codes "date time")
names ServiceDateTime = named (codes "Service-Date-Time") (codes "date-time-of-this-service date-time-of-original-service")
names PostalAddress = named (codes "Postal-Address") (codes "name-of-person-or-institution extended-postal-delivery-address street-and-number "
    ++ codes "post-office-box city region country postal-code")
names SystemAddress = named (codes "System-Address") (codes "telecom-service-identifier telecom-service-address")
names DeliveryAddress = named (codes "Delivery-Address") (codes "postal-address electronic-address")
names ClientId = named (codes "Client-Id") (codes "client-name client-status client-identifier")
names DeliveryService = named (codes "Delivery-Service") (codes "physical-delivery electronic-delivery")
names RequesterOptionalMessages = named (codes "Requester-Optional-Messages") (codes "can-send-received can-send-returned requester-shipped "
    ++ codes "requester-checked-in")
names ResponderOptionalMessages = named (codes "Responder-Optional-Messages") (codes "can-send-shipped can-send-checked-in responder-received "
    ++ codes "responder-returned")
names SearchType = named (codes "Search-Type") (codes "level-of-service need-before-date expiry-flag expiry-date")
names SupplyMediumInfo = named (codes "Supply-Medium-Info") (codes "supply-medium-type medium-characteristics")
names ItemId = named (codes "Item-Id") (codes "item-type held-medium-type call-number author title sub-title sponsoring-body "
    ++ codes "place-of-publication publisher series-title-number volume-issue edition publication-date publication-date-of-component "
    ++ codes "author-of-article title-of-article pagination national-bibliography-no isbn issn system-no additional-no-letters "
    ++ codes "verification-reference-source")
names Amount = named (codes "Amount") (codes "currency-code monetary-value")
names CostInfo = named (codes "Cost-Info") (codes "account-number maximum-cost reciprocal-agreement will-pay-fee payment-provided")
names SendTo = named (codes "Send-To") (codes "system-id account-number system-address")
names SendToList = named (codes "Send-To-List") (codes "item")
names AlreadyTriedList = named (codes "Already-Tried-List") (codes "item")
names ThirdPartyInfo = named (codes "Third-Party-Info") (codes "permission-to-forward permission-to-chain permission-to-partition "
    ++ codes "permission-to-change-send-to-list initial-requester-address preference send-to-list already-tried-list")
names UnitsPerMedium = named (codes "Units-Per-Medium") (codes "medium no-of-units")
names UnitsPerMediumList = named (codes "") (codes "item")
names DateDue = named (codes "Date-Due") (codes "date-due-field renewable")
names ShippedVia = named (codes "Shipped-Via") (codes "physical-delivery electronic-delivery")
names SupplyDetails = named (codes "Supply-Details") (codes "date-shipped date-due chargeable-units cost shipped-conditions shipped-via "
    ++ codes "insured-for return-insurance-require no-of-units-per-medium")
names IllServiceTypes = named (codes "") (codes "item")
names SupplyMediumInfos = named (codes "") (codes "item")
names IllRequest = headed (codes "ILL-Request") (codes "transaction-type delivery-address delivery-service billing-address ill-service-type "
    ++ codes "responder-specific-service requester-optional-messages search-type supply-medium-info-type place-on-hold client-id item-id "
    ++ codes "supplemental-item-description cost-info-type copyright-compliance third-party-info-type retry-flag forward-flag requester-note "
    ++ codes "forward-note ill-request-extensions")
names Shipped = headed (codes "Shipped") (codes "responder-address intermediary-id supplier-id client-id transaction-type "
    ++ codes "supplemental-item-description shipped-service-type responder-optional-messages supply-details return-to-address responder-note "
    ++ codes "shipped-extensions")
names LocationInfo = named (codes "Location-Info") (codes "location-id location-address location-note")
names Locs = named (codes "Locs") (codes "item")
names Conditional = named (codes "Conditional") conditional
names Retry = named (codes "Retry") (codes "reason-not-available retry-date location-list")
names Unfilled = named (codes "Unfilled") (codes "reason-unfilled location-list")
names Locations = named (codes "Locations") (codes "reason-locs-provided location-list")
names WillSupply = named (codes "Will-Supply") (codes "reason-will-supply supply-date return-to-address location-list "
    ++ codes "electronic-delivery-service")
names HoldPlaced = named (codes "Hold-Placed") (codes "estimated-date-available hold-placed-medium-type location-list")
names Estimate = named (codes "Estimate") (codes "cost-estimate location-list")
names Results = named (codes "Results") (codes "conditional-results retry-results unfilled-results locations-results will-supply-results "
    ++ codes "hold-placed-results estimate-results")
names IllAnswer = headed (codes "ILL-Answer") (codes "transaction-results results-explanation responder-specific-results "
    ++ codes "supplemental-item-description send-to-list already-tried-list responder-optional-messages responder-note ill-answer-extensions")
names ConditionalReply = headed (codes "Conditional-Reply") (codes "answer requester-note conditional-reply-extensions")
names Cancel = headed (codes "Cancel") (codes "requester-note cancel-extensions")
names CancelReply = headed (codes "Cancel-Reply") (codes "answer responder-note cancel-reply-extensions")
names Received = headed (codes "Received") (codes "supplier-id supplemental-item-description date-received shipped-service-type requester-note "
    ++ codes "received-extensions")
names Recall = headed (codes "Recall") (codes "responder-note recall-extensions")
names Returned = headed (codes "Returned") (codes "supplemental-item-description date-returned returned-via insured-for requester-note "
    ++ codes "returned-extensions")
names CheckedIn = headed (codes "Checked-In") (codes "date-checked-in responder-note checked-in-extensions")
names Overdue = headed (codes "Overdue") (codes "date-due responder-note overdue-extensions")
names Renew = headed (codes "Renew") (codes "desired-due-date requester-note renew-extensions")
names RenewAnswer = headed (codes "Renew-Answer") (codes "answer date-due responder-note renew-answer-extensions")
names Lost = headed (codes "Lost") (codes "note lost-extensions")
names Damaged = headed (codes "Damaged") (codes "damaged-details note damaged-extensions")
names MessageApdu = headed (codes "Message") (codes "note message-extensions")
names StatusQuery = headed (codes "Status-Query") (codes "note status-query-extensions")
names Expired = headed (codes "Expired") (codes "expired-extensions")
names IllApdu = named (codes "ILL-APDU") (codes "ILL-Request Forward-Notification Shipped ILL-Answer Conditional-Reply Cancel Cancel-Reply "
    ++ codes "Received Recall Returned Checked-In Overdue Renew Renew-Answer Lost Damaged Message Status-Query Status-Or-Error-Report Expired")
names Encoding = named (codes "Encoding") (codes "single-asn1-type octet-aligned arbitrary")
names External = named (codes "External") (codes "direct-reference indirect-reference data-value-descriptor encoding")
names TaggedExternal = named (codes "External") (codes "")
names Externals = named (codes "") (codes "item")
names Extension = named (codes "Extension") (codes "identifier critical item")
names Extensions = named (codes "") (codes "item")
names EDeliveryService = named (codes "E-Delivery-Service") (codes "e-delivery-mode e-delivery-parameters")
names DocumentType = named (codes "Document-Type") (codes "document-type-id document-type-parameters")
names EDeliveryDetails = named (codes "E-Delivery-Details") (codes "e-delivery-address e-delivery-id")
names ElectronicDelivery = named (codes "Electronic-Delivery") (codes "e-delivery-service document-type e-delivery-description "
    ++ codes "e-delivery-details name-or-code delivery-time")
names ElectronicDeliveries = named (codes "") (codes "item")
names SpecificUnits = named (codes "") (codes "item")
names DamagedPortion = named (codes "Damaged-Portion") (codes "complete-document specific-units")
names DamagedDetails = named (codes "Damaged-Details") (codes "document-type-id damaged-portion")
names HistoryReport = named (codes "History-Report") (codes "date-requested author title author-of-article title-of-article "
    ++ codes "date-of-last-transition most-recent-service date-of-most-recent-service initiator-of-most-recent-service shipped-service-type transaction-results most-recent-service-note")
names StatusReport = named (codes "Status-Report") (codes "user-status-report provider-status-report")
names AlreadyForwarded = named (codes "Already-Forwarded") (codes "responder-id responder-address")
names UserErrorReport = named (codes "User-Error-Report") (codes "already-forwarded intermediary-problem security-problem "
    ++ codes "unable-to-perform")
names StateTransition = named (codes "State-Transition") (codes "apdu-type current-state")
names ProviderErrorReport = named (codes "Provider-Error-Report") (codes "general-problem transaction-id-problem "
    ++ codes "state-transition-prohibited")
names ErrorReport = named (codes "Error-Report") (codes "correlation-information report-source user-error-report provider-error-report")
names ForwardNotification = headed (codes "Forward-Notification") (codes "responder-address intermediary-id notification-note "
    ++ codes "forward-notification-extensions")
names StatusOrErrorReport = headed (codes "Status-Or-Error-Report") (codes "reason-no-report status-report error-report note "
    ++ codes "status-or-error-report-extensions")
names _ = ([], [])

-- what the module reads in another way has the same names
abbrev pub names_of : NodeId → List ℕ × List (List ℕ)
names_of ModuleDeliveryService = names DeliveryService
names_of ModuleShippedVia = names ShippedVia
names_of ModuleItemId = names ItemId
names_of ModuleUnitsPerMedium = names UnitsPerMedium
names_of ModuleUnitsPerMediumList = names UnitsPerMediumList
names_of ModuleSupplyDetails = names SupplyDetails
names_of ModuleIllRequest = names IllRequest
names_of ModuleShipped = names Shipped
names_of ModuleConditional = named (codes "Conditional") (conditional ++ codes " proposed-delivery-service")
names_of ModuleWillSupply = names WillSupply
names_of ModuleResults = names Results
names_of ModuleIllAnswer = names IllAnswer
names_of ModuleConditionalReply = names ConditionalReply
names_of ModuleCancel = names Cancel
names_of ModuleCancelReply = names CancelReply
names_of ModuleReceived = names Received
names_of ModuleRecall = names Recall
names_of ModuleReturned = names Returned
names_of ModuleCheckedIn = names CheckedIn
names_of ModuleOverdue = names Overdue
names_of ModuleRenew = names Renew
names_of ModuleRenewAnswer = names RenewAnswer
names_of ModuleLost = names Lost
names_of ModuleDamaged = names Damaged
names_of ModuleMessageApdu = names MessageApdu
names_of ModuleStatusQuery = names StatusQuery
names_of ModuleExpired = names Expired
names_of ModuleIllApdu = names IllApdu
names_of node = names node

-- the names of a part: its node's and its row's
abbrev pub part_name_of : PartId → Option (List ℕ × List ℕ)
part_name_of part = let names = names_of part.node in option_map (λ row. (names.0, row)) (slice_get names.1 part.row)

abbrev pub name_or_none : Option (List ℕ) → List ℕ
name_or_none None = []
name_or_none (Some name) = name

abbrev pub node_or_left_out : Option Row → NodeId
node_or_left_out None = LeftOut
node_or_left_out (Some row) = row.node

-- the name and the type of a node's row
abbrev pub row_name : NodeId → ℕ → List ℕ
row_name node i = name_or_none (slice_get (names_of node).1 i)

abbrev pub row_node : NodeId → ℕ → NodeId
row_node node i = node_or_left_out (slice_get (rows_of node) i)

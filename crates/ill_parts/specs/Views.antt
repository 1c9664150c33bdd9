-- The content that each part stands for: field by field the entry of the same row.
use Rattle.std.specs.Prelude.{List, [], ◌∷◌, Option, Some, None, option_map}
use Rattle.ill_schema.specs.Content.{Content}
use Rattle.ill_parts.specs.Shape.{record_of, listed, option_of, flag_content, number_content, date_content, time_content, printable_content, string_content}
use Rattle.ill_parts.specs.declared.party.Symbol.{Symbol}
use Rattle.ill_parts.specs.declared.party.Name.{Name}
use Rattle.ill_parts.specs.declared.party.SystemId.{SystemId}
use Rattle.ill_parts.specs.declared.head.Head.{Head}
use Rattle.ill_parts.specs.declared.transaction.TransactionId.{TransactionId}
use Rattle.ill_parts.specs.declared.transaction.DateTime.{DateTime}
use Rattle.ill_parts.specs.declared.transaction.ServiceDateTime.{ServiceDateTime}
use Rattle.ill_parts.specs.declared.address.PostalAddress.{PostalAddress}
use Rattle.ill_parts.specs.declared.address.SystemAddress.{SystemAddress}
use Rattle.ill_parts.specs.declared.address.DeliveryAddress.{DeliveryAddress}
use Rattle.ill_parts.specs.declared.client.ClientId.{ClientId}
use Rattle.ill_parts.specs.declared.delivery.DeliveryService.{DeliveryService}
use Rattle.ill_parts.specs.declared.optional_messages.RequesterOptionalMessages.{RequesterOptionalMessages}
use Rattle.ill_parts.specs.declared.optional_messages.ResponderOptionalMessages.{ResponderOptionalMessages}
use Rattle.ill_parts.specs.declared.search_type.SearchType.{SearchType}
use Rattle.ill_parts.specs.declared.medium.SupplyMediumInfo.{SupplyMediumInfo}
use Rattle.ill_parts.specs.declared.item.ItemId.{ItemId}
use Rattle.ill_parts.specs.declared.cost.Amount.{Amount}
use Rattle.ill_parts.specs.declared.cost.CostInfo.{CostInfo}
use Rattle.ill_parts.specs.declared.third_party.SendTo.{SendTo}
use Rattle.ill_parts.specs.declared.third_party.ThirdPartyInfo.{ThirdPartyInfo}
use Rattle.ill_parts.specs.declared.supply.DateDue.{DateDue}
use Rattle.ill_parts.specs.declared.delivery.ShippedVia.{ShippedVia}
use Rattle.ill_parts.specs.declared.medium.UnitsPerMedium.{UnitsPerMedium}
use Rattle.ill_parts.specs.declared.supply.SupplyDetails.{SupplyDetails}

unfoldable pub symbol : Symbol → Content
symbol (Symbol.PersonSymbol p) = option_of 0 (string_content p)
symbol (Symbol.InstitutionSymbol p) = option_of 1 (string_content p)

unfoldable pub name : Name → Content
name (Name.NameOfPerson p) = option_of 0 (string_content p)
name (Name.NameOfInstitution p) = option_of 1 (string_content p)

abbrev pub system_id_rows : SystemId → List (Option Content)
system_id_rows p =
    option_map symbol p.person_or_institution_symbol
    ∷ option_map name p.name_of_person_or_institution
    ∷ []

unfoldable pub system_id : SystemId → Content
system_id p = record_of (system_id_rows p)

abbrev pub transaction_id_rows : TransactionId → List (Option Content)
transaction_id_rows p =
    option_map system_id p.initial_requester_id
    ∷ Some (string_content p.transaction_group_qualifier)
    ∷ Some (string_content p.transaction_qualifier)
    ∷ option_map string_content p.sub_transaction_qualifier
    ∷ []

unfoldable pub transaction_id : TransactionId → Content
transaction_id p = record_of (transaction_id_rows p)

abbrev pub date_time_rows : DateTime → List (Option Content)
date_time_rows p =
    Some (date_content p.date)
    ∷ option_map time_content p.time
    ∷ []

unfoldable pub date_time : DateTime → Content
date_time p = record_of (date_time_rows p)

abbrev pub service_date_time_rows : ServiceDateTime → List (Option Content)
service_date_time_rows p =
    Some (date_time p.date_time_of_this_service)
    ∷ option_map date_time p.date_time_of_original_service
    ∷ []

unfoldable pub service_date_time : ServiceDateTime → Content
service_date_time p = record_of (service_date_time_rows p)

abbrev pub postal_address_rows : PostalAddress → List (Option Content)
postal_address_rows p =
    option_map name p.name_of_person_or_institution
    ∷ option_map string_content p.extended_postal_delivery_address
    ∷ option_map string_content p.street_and_number
    ∷ option_map string_content p.post_office_box
    ∷ option_map string_content p.city
    ∷ option_map string_content p.region
    ∷ option_map string_content p.country
    ∷ option_map string_content p.postal_code
    ∷ []

unfoldable pub postal_address : PostalAddress → Content
postal_address p = record_of (postal_address_rows p)

abbrev pub system_address_rows : SystemAddress → List (Option Content)
system_address_rows p =
    option_map string_content p.telecom_service_identifier
    ∷ option_map string_content p.telecom_service_address
    ∷ []

unfoldable pub system_address : SystemAddress → Content
system_address p = record_of (system_address_rows p)

abbrev pub delivery_address_rows : DeliveryAddress → List (Option Content)
delivery_address_rows p =
    option_map postal_address p.postal_address
    ∷ option_map system_address p.electronic_address
    ∷ []

unfoldable pub delivery_address : DeliveryAddress → Content
delivery_address p = record_of (delivery_address_rows p)

abbrev pub client_id_rows : ClientId → List (Option Content)
client_id_rows p =
    option_map string_content p.client_name
    ∷ option_map string_content p.client_status
    ∷ option_map string_content p.client_identifier
    ∷ []

unfoldable pub client_id : ClientId → Content
client_id p = record_of (client_id_rows p)

unfoldable pub delivery_service : DeliveryService → Content
delivery_service (DeliveryService.PhysicalDelivery p) = option_of 0 (string_content p)

abbrev pub requester_optional_messages_rows : RequesterOptionalMessages → List (Option Content)
requester_optional_messages_rows p =
    Some (flag_content p.can_send_received)
    ∷ Some (flag_content p.can_send_returned)
    ∷ Some (number_content p.requester_shipped)
    ∷ Some (number_content p.requester_checked_in)
    ∷ []

unfoldable pub requester_optional_messages : RequesterOptionalMessages → Content
requester_optional_messages p = record_of (requester_optional_messages_rows p)

abbrev pub responder_optional_messages_rows : ResponderOptionalMessages → List (Option Content)
responder_optional_messages_rows p =
    Some (flag_content p.can_send_shipped)
    ∷ Some (flag_content p.can_send_checked_in)
    ∷ Some (number_content p.responder_received)
    ∷ Some (number_content p.responder_returned)
    ∷ []

unfoldable pub responder_optional_messages : ResponderOptionalMessages → Content
responder_optional_messages p = record_of (responder_optional_messages_rows p)

abbrev pub search_type_rows : SearchType → List (Option Content)
search_type_rows p =
    option_map string_content p.level_of_service
    ∷ option_map date_content p.need_before_date
    ∷ Some (number_content p.expiry_flag)
    ∷ option_map date_content p.expiry_date
    ∷ []

unfoldable pub search_type : SearchType → Content
search_type p = record_of (search_type_rows p)

abbrev pub supply_medium_info_rows : SupplyMediumInfo → List (Option Content)
supply_medium_info_rows p =
    Some (number_content p.supply_medium_type)
    ∷ option_map string_content p.medium_characteristics
    ∷ []

unfoldable pub supply_medium_info : SupplyMediumInfo → Content
supply_medium_info p = record_of (supply_medium_info_rows p)

abbrev pub item_id_rows : ItemId → List (Option Content)
item_id_rows p =
    option_map number_content p.item_type
    ∷ option_map number_content p.held_medium_type
    ∷ option_map string_content p.call_number
    ∷ option_map string_content p.author
    ∷ option_map string_content p.title
    ∷ option_map string_content p.sub_title
    ∷ option_map string_content p.sponsoring_body
    ∷ option_map string_content p.place_of_publication
    ∷ option_map string_content p.publisher
    ∷ option_map string_content p.series_title_number
    ∷ option_map string_content p.volume_issue
    ∷ option_map string_content p.edition
    ∷ option_map string_content p.publication_date
    ∷ option_map string_content p.publication_date_of_component
    ∷ option_map string_content p.author_of_article
    ∷ option_map string_content p.title_of_article
    ∷ option_map string_content p.pagination
    ∷ None
    ∷ option_map string_content p.isbn
    ∷ option_map string_content p.issn
    ∷ None
    ∷ option_map string_content p.additional_no_letters
    ∷ option_map string_content p.verification_reference_source
    ∷ []

unfoldable pub item_id : ItemId → Content
item_id p = record_of (item_id_rows p)

abbrev pub amount_rows : Amount → List (Option Content)
amount_rows p =
    option_map printable_content p.currency_code
    ∷ Some (printable_content p.monetary_value)
    ∷ []

unfoldable pub amount : Amount → Content
amount p = record_of (amount_rows p)

abbrev pub cost_info_rows : CostInfo → List (Option Content)
cost_info_rows p =
    option_map string_content p.account_number
    ∷ option_map amount p.maximum_cost
    ∷ Some (flag_content p.reciprocal_agreement)
    ∷ Some (flag_content p.will_pay_fee)
    ∷ Some (flag_content p.payment_provided)
    ∷ []

unfoldable pub cost_info : CostInfo → Content
cost_info p = record_of (cost_info_rows p)

abbrev pub send_to_rows : SendTo → List (Option Content)
send_to_rows p =
    Some (system_id p.system_id)
    ∷ option_map string_content p.account_number
    ∷ option_map system_address p.system_address
    ∷ []

unfoldable pub send_to : SendTo → Content
send_to p = record_of (send_to_rows p)

abbrev pub third_party_info_rows : ThirdPartyInfo → List (Option Content)
third_party_info_rows p =
    Some (flag_content p.permission_to_forward)
    ∷ Some (flag_content p.permission_to_chain)
    ∷ Some (flag_content p.permission_to_partition)
    ∷ Some (flag_content p.permission_to_change_send_to_list)
    ∷ option_map system_address p.initial_requester_address
    ∷ Some (number_content p.preference)
    ∷ option_map (listed send_to) p.send_to_list
    ∷ option_map (listed system_id) p.already_tried_list
    ∷ []

unfoldable pub third_party_info : ThirdPartyInfo → Content
third_party_info p = record_of (third_party_info_rows p)

abbrev pub date_due_rows : DateDue → List (Option Content)
date_due_rows p =
    Some (date_content p.date_due_field)
    ∷ Some (flag_content p.renewable)
    ∷ []

unfoldable pub date_due : DateDue → Content
date_due p = record_of (date_due_rows p)

unfoldable pub shipped_via : ShippedVia → Content
shipped_via (ShippedVia.PhysicalDelivery p) = option_of 0 (string_content p)

abbrev pub units_per_medium_rows : UnitsPerMedium → List (Option Content)
units_per_medium_rows p =
    Some (number_content p.medium)
    ∷ Some (number_content p.no_of_units)
    ∷ []

unfoldable pub units_per_medium : UnitsPerMedium → Content
units_per_medium p = record_of (units_per_medium_rows p)

abbrev pub supply_details_rows : SupplyDetails → List (Option Content)
supply_details_rows p =
    option_map date_content p.date_shipped
    ∷ option_map date_due p.date_due
    ∷ option_map number_content p.chargeable_units
    ∷ option_map amount p.cost
    ∷ option_map number_content p.shipped_conditions
    ∷ option_map shipped_via p.shipped_via
    ∷ option_map amount p.insured_for
    ∷ option_map amount p.return_insurance_require
    ∷ option_map (listed units_per_medium) p.no_of_units_per_medium
    ∷ []

unfoldable pub supply_details : SupplyDetails → Content
supply_details p = record_of (supply_details_rows p)

-- the entries of an APDU: those of its head, and then the others
abbrev pub headed : Head → List (Option Content) → List (Option Content)
headed h others =
    Some (number_content h.protocol_version_num)
    ∷ Some (transaction_id h.transaction_id)
    ∷ Some (service_date_time h.service_date_time)
    ∷ option_map system_id h.requester_id
    ∷ option_map system_id h.responder_id
    ∷ others

-- `==` of each part says exactly that the contents are equal.
use Rattle.std.proofs.Common.{◌≡◌, [], ◌∷◌, refl}
use Rattle.std.specs.Bool.{Decides}
use Rattle.ill_parts.specs.Shape.{option_of}
use Rattle.ill_parts.specs.code.Exact.{Exact, Segment, no_truth, flag_exact, number_exact, date_exact, time_exact, printable_exact, string_exact, listed_exact, must, may, gap_after, segments_exact, record_exact}
use Rattle.ill_parts.specs.declared.party.Symbol.{Symbol}
use Rattle.ill_parts.specs.declared.party.Name.{Name}
use Rattle.ill_parts.specs.declared.head.Head.{Head}
use Rattle.ill_parts.specs.declared.delivery.DeliveryService.{DeliveryService}
use Rattle.ill_parts.specs.declared.delivery.ShippedVia.{ShippedVia}
use Rattle.ill_parts.specs.contracts.party.SymbolPartialEq.TheImpl.{eq-value as symbol_eq}
use Rattle.ill_parts.specs.contracts.party.NamePartialEq.TheImpl.{eq-value as name_eq}
use Rattle.ill_parts.specs.contracts.party.SystemIdPartialEq.TheImpl.{eq-value as system_id_eq}
use Rattle.ill_parts.specs.contracts.transaction.TransactionIdPartialEq.TheImpl.{eq-value as transaction_id_eq}
use Rattle.ill_parts.specs.contracts.transaction.DateTimePartialEq.TheImpl.{eq-value as date_time_eq}
use Rattle.ill_parts.specs.contracts.transaction.ServiceDateTimePartialEq.TheImpl.{eq-value as service_date_time_eq}
use Rattle.ill_parts.specs.contracts.head.HeadPartialEq.TheImpl.{eq-value as head_eq}
use Rattle.ill_parts.specs.contracts.address.PostalAddressPartialEq.TheImpl.{eq-value as postal_address_eq}
use Rattle.ill_parts.specs.contracts.address.SystemAddressPartialEq.TheImpl.{eq-value as system_address_eq}
use Rattle.ill_parts.specs.contracts.address.DeliveryAddressPartialEq.TheImpl.{eq-value as delivery_address_eq}
use Rattle.ill_parts.specs.contracts.client.ClientIdPartialEq.TheImpl.{eq-value as client_id_eq}
use Rattle.ill_parts.specs.contracts.delivery.DeliveryServicePartialEq.TheImpl.{eq-value as delivery_service_eq}
use Rattle.ill_parts.specs.contracts.optional_messages.RequesterOptionalMessagesPartialEq.TheImpl.{eq-value as requester_optional_messages_eq}
use Rattle.ill_parts.specs.contracts.optional_messages.ResponderOptionalMessagesPartialEq.TheImpl.{eq-value as responder_optional_messages_eq}
use Rattle.ill_parts.specs.contracts.search_type.SearchTypePartialEq.TheImpl.{eq-value as search_type_eq}
use Rattle.ill_parts.specs.contracts.medium.SupplyMediumInfoPartialEq.TheImpl.{eq-value as supply_medium_info_eq}
use Rattle.ill_parts.specs.contracts.item.ItemIdPartialEq.TheImpl.{eq-value as item_id_eq}
use Rattle.ill_parts.specs.contracts.cost.AmountPartialEq.TheImpl.{eq-value as amount_eq}
use Rattle.ill_parts.specs.contracts.cost.CostInfoPartialEq.TheImpl.{eq-value as cost_info_eq}
use Rattle.ill_parts.specs.contracts.third_party.SendToPartialEq.TheImpl.{eq-value as send_to_eq}
use Rattle.ill_parts.specs.contracts.third_party.ThirdPartyInfoPartialEq.TheImpl.{eq-value as third_party_info_eq}
use Rattle.ill_parts.specs.contracts.supply.DateDuePartialEq.TheImpl.{eq-value as date_due_eq}
use Rattle.ill_parts.specs.contracts.delivery.ShippedViaPartialEq.TheImpl.{eq-value as shipped_via_eq}
use Rattle.ill_parts.specs.contracts.medium.UnitsPerMediumPartialEq.TheImpl.{eq-value as units_per_medium_eq}
use Rattle.ill_parts.specs.contracts.supply.SupplyDetailsPartialEq.TheImpl.{eq-value as supply_details_eq}
use Rattle.ill_parts.specs.Views.{symbol, name, system_id, transaction_id, date_time, service_date_time, postal_address, system_address, delivery_address, client_id, delivery_service, requester_optional_messages, responder_optional_messages, search_type, supply_medium_info, item_id, amount, cost_info, send_to, third_party_info, date_due, shipped_via, units_per_medium, supply_details, headed}

pub symbol_exact : Exact symbol symbol_eq.it
unfolding symbol option_of
symbol_exact (Symbol.PersonSymbol x) (Symbol.PersonSymbol y) = let h = string_exact x y in (λ b. let e = h.0 b in cc, λ e. h.1 (cc))
symbol_exact (Symbol.InstitutionSymbol x) (Symbol.InstitutionSymbol y) = let h = string_exact x y in (λ b. let e = h.0 b in cc, λ e. h.1 (cc))
symbol_exact _ _ = (λ b. absurd (no_truth b), λ e. absurd (cc))

pub name_exact : Exact name name_eq.it
unfolding name option_of
name_exact (Name.NameOfPerson x) (Name.NameOfPerson y) = let h = string_exact x y in (λ b. let e = h.0 b in cc, λ e. h.1 (cc))
name_exact (Name.NameOfInstitution x) (Name.NameOfInstitution y) = let h = string_exact x y in (λ b. let e = h.0 b in cc, λ e. h.1 (cc))
name_exact _ _ = (λ b. absurd (no_truth b), λ e. absurd (cc))

pub system_id_exact : Exact system_id system_id_eq.it
unfolding system_id
system_id_exact p q = record_exact (
    may symbol_exact p.person_or_institution_symbol q.person_or_institution_symbol
    ∷ may name_exact p.name_of_person_or_institution q.name_of_person_or_institution
    ∷ [])

pub transaction_id_exact : Exact transaction_id transaction_id_eq.it
unfolding transaction_id
transaction_id_exact p q = record_exact (
    may system_id_exact p.initial_requester_id q.initial_requester_id
    ∷ must string_exact p.transaction_group_qualifier q.transaction_group_qualifier
    ∷ must string_exact p.transaction_qualifier q.transaction_qualifier
    ∷ may string_exact p.sub_transaction_qualifier q.sub_transaction_qualifier
    ∷ [])

pub date_time_exact : Exact date_time date_time_eq.it
unfolding date_time
date_time_exact p q = record_exact (
    must date_exact p.date q.date
    ∷ may time_exact p.time q.time
    ∷ [])

pub service_date_time_exact : Exact service_date_time service_date_time_eq.it
unfolding service_date_time
service_date_time_exact p q = record_exact (
    must date_time_exact p.date_time_of_this_service q.date_time_of_this_service
    ∷ may date_time_exact p.date_time_of_original_service q.date_time_of_original_service
    ∷ [])

pub postal_address_exact : Exact postal_address postal_address_eq.it
unfolding postal_address
postal_address_exact p q = record_exact (
    may name_exact p.name_of_person_or_institution q.name_of_person_or_institution
    ∷ may string_exact p.extended_postal_delivery_address q.extended_postal_delivery_address
    ∷ may string_exact p.street_and_number q.street_and_number
    ∷ may string_exact p.post_office_box q.post_office_box
    ∷ may string_exact p.city q.city
    ∷ may string_exact p.region q.region
    ∷ may string_exact p.country q.country
    ∷ may string_exact p.postal_code q.postal_code
    ∷ [])

pub system_address_exact : Exact system_address system_address_eq.it
unfolding system_address
system_address_exact p q = record_exact (
    may string_exact p.telecom_service_identifier q.telecom_service_identifier
    ∷ may string_exact p.telecom_service_address q.telecom_service_address
    ∷ [])

pub delivery_address_exact : Exact delivery_address delivery_address_eq.it
unfolding delivery_address
delivery_address_exact p q = record_exact (
    may postal_address_exact p.postal_address q.postal_address
    ∷ may system_address_exact p.electronic_address q.electronic_address
    ∷ [])

pub client_id_exact : Exact client_id client_id_eq.it
unfolding client_id
client_id_exact p q = record_exact (
    may string_exact p.client_name q.client_name
    ∷ may string_exact p.client_status q.client_status
    ∷ may string_exact p.client_identifier q.client_identifier
    ∷ [])

pub delivery_service_exact : Exact delivery_service delivery_service_eq.it
unfolding delivery_service option_of
delivery_service_exact (DeliveryService.PhysicalDelivery x) (DeliveryService.PhysicalDelivery y) = let h = string_exact x y in (λ b. let e = h.0 b in cc, λ e. h.1 (cc))

pub requester_optional_messages_exact : Exact requester_optional_messages requester_optional_messages_eq.it
unfolding requester_optional_messages
requester_optional_messages_exact p q = record_exact (
    must flag_exact p.can_send_received q.can_send_received
    ∷ must flag_exact p.can_send_returned q.can_send_returned
    ∷ must number_exact p.requester_shipped q.requester_shipped
    ∷ must number_exact p.requester_checked_in q.requester_checked_in
    ∷ [])

pub responder_optional_messages_exact : Exact responder_optional_messages responder_optional_messages_eq.it
unfolding responder_optional_messages
responder_optional_messages_exact p q = record_exact (
    must flag_exact p.can_send_shipped q.can_send_shipped
    ∷ must flag_exact p.can_send_checked_in q.can_send_checked_in
    ∷ must number_exact p.responder_received q.responder_received
    ∷ must number_exact p.responder_returned q.responder_returned
    ∷ [])

pub search_type_exact : Exact search_type search_type_eq.it
unfolding search_type
search_type_exact p q = record_exact (
    may string_exact p.level_of_service q.level_of_service
    ∷ may date_exact p.need_before_date q.need_before_date
    ∷ must number_exact p.expiry_flag q.expiry_flag
    ∷ may date_exact p.expiry_date q.expiry_date
    ∷ [])

pub supply_medium_info_exact : Exact supply_medium_info supply_medium_info_eq.it
unfolding supply_medium_info
supply_medium_info_exact p q = record_exact (
    must number_exact p.supply_medium_type q.supply_medium_type
    ∷ may string_exact p.medium_characteristics q.medium_characteristics
    ∷ [])

pub item_id_exact : Exact item_id item_id_eq.it
unfolding item_id
item_id_exact p q = record_exact (
    may number_exact p.item_type q.item_type
    ∷ may number_exact p.held_medium_type q.held_medium_type
    ∷ may string_exact p.call_number q.call_number
    ∷ may string_exact p.author q.author
    ∷ may string_exact p.title q.title
    ∷ may string_exact p.sub_title q.sub_title
    ∷ may string_exact p.sponsoring_body q.sponsoring_body
    ∷ may string_exact p.place_of_publication q.place_of_publication
    ∷ may string_exact p.publisher q.publisher
    ∷ may string_exact p.series_title_number q.series_title_number
    ∷ may string_exact p.volume_issue q.volume_issue
    ∷ may string_exact p.edition q.edition
    ∷ may string_exact p.publication_date q.publication_date
    ∷ may string_exact p.publication_date_of_component q.publication_date_of_component
    ∷ may string_exact p.author_of_article q.author_of_article
    ∷ may string_exact p.title_of_article q.title_of_article
    ∷ gap_after (may string_exact p.pagination q.pagination)
    ∷ may string_exact p.isbn q.isbn
    ∷ gap_after (may string_exact p.issn q.issn)
    ∷ may string_exact p.additional_no_letters q.additional_no_letters
    ∷ may string_exact p.verification_reference_source q.verification_reference_source
    ∷ [])

pub amount_exact : Exact amount amount_eq.it
unfolding amount
amount_exact p q = record_exact (
    may printable_exact p.currency_code q.currency_code
    ∷ must printable_exact p.monetary_value q.monetary_value
    ∷ [])

pub cost_info_exact : Exact cost_info cost_info_eq.it
unfolding cost_info
cost_info_exact p q = record_exact (
    may string_exact p.account_number q.account_number
    ∷ may amount_exact p.maximum_cost q.maximum_cost
    ∷ must flag_exact p.reciprocal_agreement q.reciprocal_agreement
    ∷ must flag_exact p.will_pay_fee q.will_pay_fee
    ∷ must flag_exact p.payment_provided q.payment_provided
    ∷ [])

pub send_to_exact : Exact send_to send_to_eq.it
unfolding send_to
send_to_exact p q = record_exact (
    must system_id_exact p.system_id q.system_id
    ∷ may string_exact p.account_number q.account_number
    ∷ may system_address_exact p.system_address q.system_address
    ∷ [])

pub third_party_info_exact : Exact third_party_info third_party_info_eq.it
unfolding third_party_info
third_party_info_exact p q = record_exact (
    must flag_exact p.permission_to_forward q.permission_to_forward
    ∷ must flag_exact p.permission_to_chain q.permission_to_chain
    ∷ must flag_exact p.permission_to_partition q.permission_to_partition
    ∷ must flag_exact p.permission_to_change_send_to_list q.permission_to_change_send_to_list
    ∷ may system_address_exact p.initial_requester_address q.initial_requester_address
    ∷ must number_exact p.preference q.preference
    ∷ may (listed_exact send_to_exact) p.send_to_list q.send_to_list
    ∷ may (listed_exact system_id_exact) p.already_tried_list q.already_tried_list
    ∷ [])

pub date_due_exact : Exact date_due date_due_eq.it
unfolding date_due
date_due_exact p q = record_exact (
    must date_exact p.date_due_field q.date_due_field
    ∷ must flag_exact p.renewable q.renewable
    ∷ [])

pub shipped_via_exact : Exact shipped_via shipped_via_eq.it
unfolding shipped_via option_of
shipped_via_exact (ShippedVia.PhysicalDelivery x) (ShippedVia.PhysicalDelivery y) = let h = string_exact x y in (λ b. let e = h.0 b in cc, λ e. h.1 (cc))

pub units_per_medium_exact : Exact units_per_medium units_per_medium_eq.it
unfolding units_per_medium
units_per_medium_exact p q = record_exact (
    must number_exact p.medium q.medium
    ∷ must number_exact p.no_of_units q.no_of_units
    ∷ [])

pub supply_details_exact : Exact supply_details supply_details_eq.it
unfolding supply_details
supply_details_exact p q = record_exact (
    may date_exact p.date_shipped q.date_shipped
    ∷ may date_due_exact p.date_due q.date_due
    ∷ may number_exact p.chargeable_units q.chargeable_units
    ∷ may amount_exact p.cost q.cost
    ∷ may number_exact p.shipped_conditions q.shipped_conditions
    ∷ may shipped_via_exact p.shipped_via q.shipped_via
    ∷ may amount_exact p.insured_for q.insured_for
    ∷ may amount_exact p.return_insurance_require q.return_insurance_require
    ∷ may (listed_exact units_per_medium_exact) p.no_of_units_per_medium q.no_of_units_per_medium
    ∷ [])

pub heads_exact : (p q : Head) → Decides (head_eq.it p q) (headed p [] ≡ headed q [])
heads_exact p q = segments_exact (
    must number_exact p.protocol_version_num q.protocol_version_num
    ∷ must transaction_id_exact p.transaction_id q.transaction_id
    ∷ must service_date_time_exact p.service_date_time q.service_date_time
    ∷ may system_id_exact p.requester_id q.requester_id
    ∷ may system_id_exact p.responder_id q.responder_id
    ∷ [])

-- the head's fields
abbrev pub head_segment : Head → Head → Segment
head_segment p q = record { test = head_eq.it p q; left = headed p []; right = headed q []; even = refl; exact = heads_exact p q }

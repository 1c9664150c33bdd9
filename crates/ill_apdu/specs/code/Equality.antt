-- `==` of each result, and of each APDU's body, says exactly that the contents are equal.
use Rattle.std.proofs.Common.{[], ◌∷◌}
use Rattle.ill_parts.specs.Shape.{option_of}
use Rattle.ill_parts.specs.code.Exact.{Exact, no_truth, number_exact, date_exact, string_exact, listed_exact, must, may, gap_after, record_exact, flag_exact}
use Rattle.ill_parts.specs.code.Equality.{system_id_exact, postal_address_exact, system_address_exact, head_segment, delivery_address_exact, client_id_exact, delivery_service_exact, requester_optional_messages_exact, responder_optional_messages_exact, search_type_exact, supply_medium_info_exact, item_id_exact, cost_info_exact, third_party_info_exact, send_to_exact, amount_exact, supply_details_exact, date_due_exact}
use Rattle.ill_apdu.specs.declared.results.Results.{Results}
use Rattle.ill_apdu.specs.contracts.location.LocationInfoPartialEq.TheImpl.{eq-value as location_info_eq}
use Rattle.ill_apdu.specs.contracts.results.ConditionalPartialEq.TheImpl.{eq-value as conditional_eq}
use Rattle.ill_apdu.specs.contracts.results.RetryPartialEq.TheImpl.{eq-value as retry_eq}
use Rattle.ill_apdu.specs.contracts.results.UnfilledPartialEq.TheImpl.{eq-value as unfilled_eq}
use Rattle.ill_apdu.specs.contracts.location.LocationsPartialEq.TheImpl.{eq-value as locations_eq}
use Rattle.ill_apdu.specs.contracts.results.WillSupplyPartialEq.TheImpl.{eq-value as will_supply_eq}
use Rattle.ill_apdu.specs.contracts.results.HoldPlacedPartialEq.TheImpl.{eq-value as hold_placed_eq}
use Rattle.ill_apdu.specs.contracts.results.EstimatePartialEq.TheImpl.{eq-value as estimate_eq}
use Rattle.ill_apdu.specs.contracts.results.ResultsPartialEq.TheImpl.{eq-value as results_eq}
use Rattle.ill_apdu.specs.Views.{location_info, conditional, retry, unfilled, locations, will_supply, hold_placed, estimate, results, ill_request, ill_answer, conditional_reply, cancel, cancel_reply, expired, shipped, received, recall, returned, checked_in, overdue, renew, renew_answer, lost, damaged, message_apdu, status_query}
use Rattle.ill_apdu.specs.contracts.request.IllRequestPartialEq.TheImpl.{eq-value as ill_request_eq}
use Rattle.ill_apdu.specs.contracts.answer.IllAnswerPartialEq.TheImpl.{eq-value as ill_answer_eq}
use Rattle.ill_apdu.specs.contracts.conditional_reply.ConditionalReplyPartialEq.TheImpl.{eq-value as conditional_reply_eq}
use Rattle.ill_apdu.specs.contracts.cancel.CancelPartialEq.TheImpl.{eq-value as cancel_eq}
use Rattle.ill_apdu.specs.contracts.cancel.CancelReplyPartialEq.TheImpl.{eq-value as cancel_reply_eq}
use Rattle.ill_apdu.specs.contracts.expired.ExpiredPartialEq.TheImpl.{eq-value as expired_eq}
use Rattle.ill_apdu.specs.contracts.shipped.ShippedPartialEq.TheImpl.{eq-value as shipped_eq}
use Rattle.ill_apdu.specs.contracts.received.ReceivedPartialEq.TheImpl.{eq-value as received_eq}
use Rattle.ill_apdu.specs.contracts.recall.RecallPartialEq.TheImpl.{eq-value as recall_eq}
use Rattle.ill_apdu.specs.contracts.returned.ReturnedPartialEq.TheImpl.{eq-value as returned_eq}
use Rattle.ill_apdu.specs.contracts.returned.CheckedInPartialEq.TheImpl.{eq-value as checked_in_eq}
use Rattle.ill_apdu.specs.contracts.overdue.OverduePartialEq.TheImpl.{eq-value as overdue_eq}
use Rattle.ill_apdu.specs.contracts.renew.RenewPartialEq.TheImpl.{eq-value as renew_eq}
use Rattle.ill_apdu.specs.contracts.renew.RenewAnswerPartialEq.TheImpl.{eq-value as renew_answer_eq}
use Rattle.ill_apdu.specs.contracts.lost.LostPartialEq.TheImpl.{eq-value as lost_eq}
use Rattle.ill_apdu.specs.contracts.lost.DamagedPartialEq.TheImpl.{eq-value as damaged_eq}
use Rattle.ill_apdu.specs.contracts.text.MessageApduPartialEq.TheImpl.{eq-value as message_apdu_eq}
use Rattle.ill_apdu.specs.contracts.status_query.StatusQueryPartialEq.TheImpl.{eq-value as status_query_eq}

pub location_info_exact : Exact location_info location_info_eq.it
unfolding location_info
location_info_exact p q = record_exact (
    must system_id_exact p.location_id q.location_id
    ∷ may system_address_exact p.location_address q.location_address
    ∷ may string_exact p.location_note q.location_note
    ∷ [])

pub conditional_exact : Exact conditional conditional_eq.it
unfolding conditional
conditional_exact p q = record_exact (
    must number_exact p.conditions q.conditions
    ∷ may date_exact p.date_for_reply q.date_for_reply
    ∷ may (listed_exact location_info_exact) p.location_list q.location_list
    ∷ [])

pub retry_exact : Exact retry retry_eq.it
unfolding retry
retry_exact p q = record_exact (
    may number_exact p.reason_not_available q.reason_not_available
    ∷ may date_exact p.retry_date q.retry_date
    ∷ may (listed_exact location_info_exact) p.location_list q.location_list
    ∷ [])

pub unfilled_exact : Exact unfilled unfilled_eq.it
unfolding unfilled
unfilled_exact p q = record_exact (
    must number_exact p.reason_unfilled q.reason_unfilled
    ∷ may (listed_exact location_info_exact) p.location_list q.location_list
    ∷ [])

pub locations_exact : Exact locations locations_eq.it
unfolding locations
locations_exact p q = record_exact (
    may number_exact p.reason_locs_provided q.reason_locs_provided
    ∷ must (listed_exact location_info_exact) p.location_list q.location_list
    ∷ [])

pub will_supply_exact : Exact will_supply will_supply_eq.it
unfolding will_supply
will_supply_exact p q = record_exact (
    must number_exact p.reason_will_supply q.reason_will_supply
    ∷ may date_exact p.supply_date q.supply_date
    ∷ may postal_address_exact p.return_to_address q.return_to_address
    ∷ gap_after (may (listed_exact location_info_exact) p.location_list q.location_list)
    ∷ [])

pub hold_placed_exact : Exact hold_placed hold_placed_eq.it
unfolding hold_placed
hold_placed_exact p q = record_exact (
    must date_exact p.estimated_date_available q.estimated_date_available
    ∷ may number_exact p.hold_placed_medium_type q.hold_placed_medium_type
    ∷ may (listed_exact location_info_exact) p.location_list q.location_list
    ∷ [])

pub estimate_exact : Exact estimate estimate_eq.it
unfolding estimate
estimate_exact p q = record_exact (
    must string_exact p.cost_estimate q.cost_estimate
    ∷ may (listed_exact location_info_exact) p.location_list q.location_list
    ∷ [])

pub results_exact : Exact results results_eq.it
unfolding results option_of
results_exact (Results.ConditionalResults x) (Results.ConditionalResults y) = let h = conditional_exact x y in (λ b. let e = h.0 b in cc, λ e. h.1 (cc))
results_exact (Results.RetryResults x) (Results.RetryResults y) = let h = retry_exact x y in (λ b. let e = h.0 b in cc, λ e. h.1 (cc))
results_exact (Results.UnfilledResults x) (Results.UnfilledResults y) = let h = unfilled_exact x y in (λ b. let e = h.0 b in cc, λ e. h.1 (cc))
results_exact (Results.LocationsResults x) (Results.LocationsResults y) = let h = locations_exact x y in (λ b. let e = h.0 b in cc, λ e. h.1 (cc))
results_exact (Results.WillSupplyResults x) (Results.WillSupplyResults y) = let h = will_supply_exact x y in (λ b. let e = h.0 b in cc, λ e. h.1 (cc))
results_exact (Results.HoldPlacedResults x) (Results.HoldPlacedResults y) = let h = hold_placed_exact x y in (λ b. let e = h.0 b in cc, λ e. h.1 (cc))
results_exact (Results.EstimateResults x) (Results.EstimateResults y) = let h = estimate_exact x y in (λ b. let e = h.0 b in cc, λ e. h.1 (cc))
results_exact _ _ = (λ b. absurd (no_truth b), λ e. absurd (cc))

pub ill_request_exact : Exact ill_request ill_request_eq.it
unfolding ill_request
ill_request_exact p q = record_exact (
    head_segment p.head q.head
    ∷ must number_exact p.transaction_type q.transaction_type
    ∷ may delivery_address_exact p.delivery_address q.delivery_address
    ∷ may delivery_service_exact p.delivery_service q.delivery_service
    ∷ may delivery_address_exact p.billing_address q.billing_address
    ∷ gap_after (must (listed_exact number_exact) p.ill_service_type q.ill_service_type)
    ∷ must requester_optional_messages_exact p.requester_optional_messages q.requester_optional_messages
    ∷ may search_type_exact p.search_type q.search_type
    ∷ may (listed_exact supply_medium_info_exact) p.supply_medium_info_type q.supply_medium_info_type
    ∷ must number_exact p.place_on_hold q.place_on_hold
    ∷ may client_id_exact p.client_id q.client_id
    ∷ gap_after (must item_id_exact p.item_id q.item_id)
    ∷ may cost_info_exact p.cost_info_type q.cost_info_type
    ∷ may string_exact p.copyright_compliance q.copyright_compliance
    ∷ may third_party_info_exact p.third_party_info_type q.third_party_info_type
    ∷ must flag_exact p.retry_flag q.retry_flag
    ∷ must flag_exact p.forward_flag q.forward_flag
    ∷ may string_exact p.requester_note q.requester_note
    ∷ gap_after (may string_exact p.forward_note q.forward_note)
    ∷ [])

pub ill_answer_exact : Exact ill_answer ill_answer_eq.it
unfolding ill_answer
ill_answer_exact p q = record_exact (
    head_segment p.head q.head
    ∷ must number_exact p.transaction_results q.transaction_results
    ∷ gap_after (gap_after (may results_exact p.results_explanation q.results_explanation))
    ∷ may (listed_exact send_to_exact) p.send_to_list q.send_to_list
    ∷ may (listed_exact system_id_exact) p.already_tried_list q.already_tried_list
    ∷ may responder_optional_messages_exact p.responder_optional_messages q.responder_optional_messages
    ∷ gap_after (may string_exact p.responder_note q.responder_note)
    ∷ [])

pub conditional_reply_exact : Exact conditional_reply conditional_reply_eq.it
unfolding conditional_reply
conditional_reply_exact p q = record_exact (
    head_segment p.head q.head
    ∷ must flag_exact p.answer q.answer
    ∷ gap_after (may string_exact p.requester_note q.requester_note)
    ∷ [])

pub cancel_exact : Exact cancel cancel_eq.it
unfolding cancel
cancel_exact p q = record_exact (
    head_segment p.head q.head
    ∷ gap_after (may string_exact p.requester_note q.requester_note)
    ∷ [])

pub cancel_reply_exact : Exact cancel_reply cancel_reply_eq.it
unfolding cancel_reply
cancel_reply_exact p q = record_exact (
    head_segment p.head q.head
    ∷ must flag_exact p.answer q.answer
    ∷ gap_after (may string_exact p.responder_note q.responder_note)
    ∷ [])

pub expired_exact : Exact expired expired_eq.it
unfolding expired
expired_exact p q = record_exact (
    gap_after (head_segment p.head q.head)
    ∷ [])

pub shipped_exact : Exact shipped shipped_eq.it
unfolding shipped
shipped_exact p q = record_exact (
    head_segment p.head q.head
    ∷ may system_address_exact p.responder_address q.responder_address
    ∷ may system_id_exact p.intermediary_id q.intermediary_id
    ∷ may system_id_exact p.supplier_id q.supplier_id
    ∷ may client_id_exact p.client_id q.client_id
    ∷ gap_after (must number_exact p.transaction_type q.transaction_type)
    ∷ must number_exact p.shipped_service_type q.shipped_service_type
    ∷ may responder_optional_messages_exact p.responder_optional_messages q.responder_optional_messages
    ∷ must supply_details_exact p.supply_details q.supply_details
    ∷ may postal_address_exact p.return_to_address q.return_to_address
    ∷ gap_after (may string_exact p.responder_note q.responder_note)
    ∷ [])

pub received_exact : Exact received received_eq.it
unfolding received
received_exact p q = record_exact (
    head_segment p.head q.head
    ∷ gap_after (may system_id_exact p.supplier_id q.supplier_id)
    ∷ must date_exact p.date_received q.date_received
    ∷ must number_exact p.shipped_service_type q.shipped_service_type
    ∷ gap_after (may string_exact p.requester_note q.requester_note)
    ∷ [])

pub recall_exact : Exact recall recall_eq.it
unfolding recall
recall_exact p q = record_exact (
    head_segment p.head q.head
    ∷ gap_after (may string_exact p.responder_note q.responder_note)
    ∷ [])

pub returned_exact : Exact returned returned_eq.it
unfolding returned
returned_exact p q = record_exact (
    gap_after (head_segment p.head q.head)
    ∷ must date_exact p.date_returned q.date_returned
    ∷ may string_exact p.returned_via q.returned_via
    ∷ may amount_exact p.insured_for q.insured_for
    ∷ gap_after (may string_exact p.requester_note q.requester_note)
    ∷ [])

pub checked_in_exact : Exact checked_in checked_in_eq.it
unfolding checked_in
checked_in_exact p q = record_exact (
    head_segment p.head q.head
    ∷ must date_exact p.date_checked_in q.date_checked_in
    ∷ gap_after (may string_exact p.responder_note q.responder_note)
    ∷ [])

pub overdue_exact : Exact overdue overdue_eq.it
unfolding overdue
overdue_exact p q = record_exact (
    head_segment p.head q.head
    ∷ must date_due_exact p.date_due q.date_due
    ∷ gap_after (may string_exact p.responder_note q.responder_note)
    ∷ [])

pub renew_exact : Exact renew renew_eq.it
unfolding renew
renew_exact p q = record_exact (
    head_segment p.head q.head
    ∷ may date_exact p.desired_due_date q.desired_due_date
    ∷ gap_after (may string_exact p.requester_note q.requester_note)
    ∷ [])

pub renew_answer_exact : Exact renew_answer renew_answer_eq.it
unfolding renew_answer
renew_answer_exact p q = record_exact (
    head_segment p.head q.head
    ∷ must flag_exact p.answer q.answer
    ∷ may date_due_exact p.date_due q.date_due
    ∷ gap_after (may string_exact p.responder_note q.responder_note)
    ∷ [])

pub lost_exact : Exact lost lost_eq.it
unfolding lost
lost_exact p q = record_exact (
    head_segment p.head q.head
    ∷ gap_after (may string_exact p.note q.note)
    ∷ [])

pub damaged_exact : Exact damaged damaged_eq.it
unfolding damaged
damaged_exact p q = record_exact (
    gap_after (head_segment p.head q.head)
    ∷ gap_after (may string_exact p.note q.note)
    ∷ [])

pub message_apdu_exact : Exact message_apdu message_apdu_eq.it
unfolding message_apdu
message_apdu_exact p q = record_exact (
    head_segment p.head q.head
    ∷ gap_after (must string_exact p.note q.note)
    ∷ [])

pub status_query_exact : Exact status_query status_query_eq.it
unfolding status_query
status_query_exact p q = record_exact (
    head_segment p.head q.head
    ∷ gap_after (may string_exact p.note q.note)
    ∷ [])

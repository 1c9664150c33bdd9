-- The content that each result and each APDU stands for: field by field the entry of the same row.
use Rattle.std.specs.Prelude.{List, [], ◌∷◌, Option, Some, None, option_map}
use Rattle.ill_schema.specs.Content.{Content}
use Rattle.ill_parts.specs.Shape.{record_of, listed, option_of, number_content, date_content, string_content, flag_content}
use Rattle.ill_parts.specs.Views.{system_id, postal_address, system_address, headed, delivery_address, client_id, delivery_service, requester_optional_messages, responder_optional_messages, search_type, supply_medium_info, item_id, cost_info, third_party_info, send_to, amount, supply_details, date_due}
use Rattle.ill_apdu.specs.declared.location.LocationInfo.{LocationInfo}
use Rattle.ill_apdu.specs.declared.results.Conditional.{Conditional}
use Rattle.ill_apdu.specs.declared.results.Retry.{Retry}
use Rattle.ill_apdu.specs.declared.results.Unfilled.{Unfilled}
use Rattle.ill_apdu.specs.declared.location.Locations.{Locations}
use Rattle.ill_apdu.specs.declared.results.WillSupply.{WillSupply}
use Rattle.ill_apdu.specs.declared.results.HoldPlaced.{HoldPlaced}
use Rattle.ill_apdu.specs.declared.results.Estimate.{Estimate}
use Rattle.ill_apdu.specs.declared.results.Results.{Results}
use Rattle.ill_apdu.specs.declared.request.IllRequest.{IllRequest}
use Rattle.ill_apdu.specs.declared.answer.IllAnswer.{IllAnswer}
use Rattle.ill_apdu.specs.declared.conditional_reply.ConditionalReply.{ConditionalReply}
use Rattle.ill_apdu.specs.declared.cancel.Cancel.{Cancel}
use Rattle.ill_apdu.specs.declared.cancel.CancelReply.{CancelReply}
use Rattle.ill_apdu.specs.declared.expired.Expired.{Expired}
use Rattle.ill_apdu.specs.declared.shipped.Shipped.{Shipped}
use Rattle.ill_apdu.specs.declared.received.Received.{Received}
use Rattle.ill_apdu.specs.declared.recall.Recall.{Recall}
use Rattle.ill_apdu.specs.declared.returned.Returned.{Returned}
use Rattle.ill_apdu.specs.declared.returned.CheckedIn.{CheckedIn}
use Rattle.ill_apdu.specs.declared.overdue.Overdue.{Overdue}
use Rattle.ill_apdu.specs.declared.renew.Renew.{Renew}
use Rattle.ill_apdu.specs.declared.renew.RenewAnswer.{RenewAnswer}
use Rattle.ill_apdu.specs.declared.lost.Lost.{Lost}
use Rattle.ill_apdu.specs.declared.lost.Damaged.{Damaged}
use Rattle.ill_apdu.specs.declared.text.MessageApdu.{MessageApdu}
use Rattle.ill_apdu.specs.declared.status_query.StatusQuery.{StatusQuery}

abbrev pub location_info_rows : LocationInfo → List (Option Content)
location_info_rows p =
    Some (system_id p.location_id)
    ∷ option_map system_address p.location_address
    ∷ option_map string_content p.location_note
    ∷ []

unfoldable pub location_info : LocationInfo → Content
location_info p = record_of (location_info_rows p)

abbrev pub conditional_rows : Conditional → List (Option Content)
conditional_rows p =
    Some (number_content p.conditions)
    ∷ option_map date_content p.date_for_reply
    ∷ option_map (listed location_info) p.location_list
    ∷ []

unfoldable pub conditional : Conditional → Content
conditional p = record_of (conditional_rows p)

abbrev pub retry_rows : Retry → List (Option Content)
retry_rows p =
    option_map number_content p.reason_not_available
    ∷ option_map date_content p.retry_date
    ∷ option_map (listed location_info) p.location_list
    ∷ []

unfoldable pub retry : Retry → Content
retry p = record_of (retry_rows p)

abbrev pub unfilled_rows : Unfilled → List (Option Content)
unfilled_rows p =
    Some (number_content p.reason_unfilled)
    ∷ option_map (listed location_info) p.location_list
    ∷ []

unfoldable pub unfilled : Unfilled → Content
unfilled p = record_of (unfilled_rows p)

abbrev pub locations_rows : Locations → List (Option Content)
locations_rows p =
    option_map number_content p.reason_locs_provided
    ∷ Some (listed location_info p.location_list)
    ∷ []

unfoldable pub locations : Locations → Content
locations p = record_of (locations_rows p)

abbrev pub will_supply_rows : WillSupply → List (Option Content)
will_supply_rows p =
    Some (number_content p.reason_will_supply)
    ∷ option_map date_content p.supply_date
    ∷ option_map postal_address p.return_to_address
    ∷ option_map (listed location_info) p.location_list
    ∷ None
    ∷ []

unfoldable pub will_supply : WillSupply → Content
will_supply p = record_of (will_supply_rows p)

abbrev pub hold_placed_rows : HoldPlaced → List (Option Content)
hold_placed_rows p =
    Some (date_content p.estimated_date_available)
    ∷ option_map number_content p.hold_placed_medium_type
    ∷ option_map (listed location_info) p.location_list
    ∷ []

unfoldable pub hold_placed : HoldPlaced → Content
hold_placed p = record_of (hold_placed_rows p)

abbrev pub estimate_rows : Estimate → List (Option Content)
estimate_rows p =
    Some (string_content p.cost_estimate)
    ∷ option_map (listed location_info) p.location_list
    ∷ []

unfoldable pub estimate : Estimate → Content
estimate p = record_of (estimate_rows p)

unfoldable pub results : Results → Content
results (Results.ConditionalResults p) = option_of 0 (conditional p)
results (Results.RetryResults p) = option_of 1 (retry p)
results (Results.UnfilledResults p) = option_of 2 (unfilled p)
results (Results.LocationsResults p) = option_of 3 (locations p)
results (Results.WillSupplyResults p) = option_of 4 (will_supply p)
results (Results.HoldPlacedResults p) = option_of 5 (hold_placed p)
results (Results.EstimateResults p) = option_of 6 (estimate p)

abbrev pub ill_request_rows : IllRequest → List (Option Content)
ill_request_rows p =
    headed p.head (
    Some (number_content p.transaction_type)
    ∷ option_map delivery_address p.delivery_address
    ∷ option_map delivery_service p.delivery_service
    ∷ option_map delivery_address p.billing_address
    ∷ Some (listed number_content p.ill_service_type)
    ∷ None
    ∷ Some (requester_optional_messages p.requester_optional_messages)
    ∷ option_map search_type p.search_type
    ∷ option_map (listed supply_medium_info) p.supply_medium_info_type
    ∷ Some (number_content p.place_on_hold)
    ∷ option_map client_id p.client_id
    ∷ Some (item_id p.item_id)
    ∷ None
    ∷ option_map cost_info p.cost_info_type
    ∷ option_map string_content p.copyright_compliance
    ∷ option_map third_party_info p.third_party_info_type
    ∷ Some (flag_content p.retry_flag)
    ∷ Some (flag_content p.forward_flag)
    ∷ option_map string_content p.requester_note
    ∷ option_map string_content p.forward_note
    ∷ None
    ∷ [])

unfoldable pub ill_request : IllRequest → Content
ill_request p = record_of (ill_request_rows p)

abbrev pub ill_answer_rows : IllAnswer → List (Option Content)
ill_answer_rows p =
    headed p.head (
    Some (number_content p.transaction_results)
    ∷ option_map results p.results_explanation
    ∷ None
    ∷ None
    ∷ option_map (listed send_to) p.send_to_list
    ∷ option_map (listed system_id) p.already_tried_list
    ∷ option_map responder_optional_messages p.responder_optional_messages
    ∷ option_map string_content p.responder_note
    ∷ None
    ∷ [])

unfoldable pub ill_answer : IllAnswer → Content
ill_answer p = record_of (ill_answer_rows p)

abbrev pub conditional_reply_rows : ConditionalReply → List (Option Content)
conditional_reply_rows p =
    headed p.head (
    Some (flag_content p.answer)
    ∷ option_map string_content p.requester_note
    ∷ None
    ∷ [])

unfoldable pub conditional_reply : ConditionalReply → Content
conditional_reply p = record_of (conditional_reply_rows p)

abbrev pub cancel_rows : Cancel → List (Option Content)
cancel_rows p =
    headed p.head (
    option_map string_content p.requester_note
    ∷ None
    ∷ [])

unfoldable pub cancel : Cancel → Content
cancel p = record_of (cancel_rows p)

abbrev pub cancel_reply_rows : CancelReply → List (Option Content)
cancel_reply_rows p =
    headed p.head (
    Some (flag_content p.answer)
    ∷ option_map string_content p.responder_note
    ∷ None
    ∷ [])

unfoldable pub cancel_reply : CancelReply → Content
cancel_reply p = record_of (cancel_reply_rows p)

abbrev pub expired_rows : Expired → List (Option Content)
expired_rows p =
    headed p.head (
    None
    ∷ [])

unfoldable pub expired : Expired → Content
expired p = record_of (expired_rows p)

abbrev pub shipped_rows : Shipped → List (Option Content)
shipped_rows p =
    headed p.head (
    option_map system_address p.responder_address
    ∷ option_map system_id p.intermediary_id
    ∷ option_map system_id p.supplier_id
    ∷ option_map client_id p.client_id
    ∷ Some (number_content p.transaction_type)
    ∷ None
    ∷ Some (number_content p.shipped_service_type)
    ∷ option_map responder_optional_messages p.responder_optional_messages
    ∷ Some (supply_details p.supply_details)
    ∷ option_map postal_address p.return_to_address
    ∷ option_map string_content p.responder_note
    ∷ None
    ∷ [])

unfoldable pub shipped : Shipped → Content
shipped p = record_of (shipped_rows p)

abbrev pub received_rows : Received → List (Option Content)
received_rows p =
    headed p.head (
    option_map system_id p.supplier_id
    ∷ None
    ∷ Some (date_content p.date_received)
    ∷ Some (number_content p.shipped_service_type)
    ∷ option_map string_content p.requester_note
    ∷ None
    ∷ [])

unfoldable pub received : Received → Content
received p = record_of (received_rows p)

abbrev pub recall_rows : Recall → List (Option Content)
recall_rows p =
    headed p.head (
    option_map string_content p.responder_note
    ∷ None
    ∷ [])

unfoldable pub recall : Recall → Content
recall p = record_of (recall_rows p)

abbrev pub returned_rows : Returned → List (Option Content)
returned_rows p =
    headed p.head (
    None
    ∷ Some (date_content p.date_returned)
    ∷ option_map string_content p.returned_via
    ∷ option_map amount p.insured_for
    ∷ option_map string_content p.requester_note
    ∷ None
    ∷ [])

unfoldable pub returned : Returned → Content
returned p = record_of (returned_rows p)

abbrev pub checked_in_rows : CheckedIn → List (Option Content)
checked_in_rows p =
    headed p.head (
    Some (date_content p.date_checked_in)
    ∷ option_map string_content p.responder_note
    ∷ None
    ∷ [])

unfoldable pub checked_in : CheckedIn → Content
checked_in p = record_of (checked_in_rows p)

abbrev pub overdue_rows : Overdue → List (Option Content)
overdue_rows p =
    headed p.head (
    Some (date_due p.date_due)
    ∷ option_map string_content p.responder_note
    ∷ None
    ∷ [])

unfoldable pub overdue : Overdue → Content
overdue p = record_of (overdue_rows p)

abbrev pub renew_rows : Renew → List (Option Content)
renew_rows p =
    headed p.head (
    option_map date_content p.desired_due_date
    ∷ option_map string_content p.requester_note
    ∷ None
    ∷ [])

unfoldable pub renew : Renew → Content
renew p = record_of (renew_rows p)

abbrev pub renew_answer_rows : RenewAnswer → List (Option Content)
renew_answer_rows p =
    headed p.head (
    Some (flag_content p.answer)
    ∷ option_map date_due p.date_due
    ∷ option_map string_content p.responder_note
    ∷ None
    ∷ [])

unfoldable pub renew_answer : RenewAnswer → Content
renew_answer p = record_of (renew_answer_rows p)

abbrev pub lost_rows : Lost → List (Option Content)
lost_rows p =
    headed p.head (
    option_map string_content p.note
    ∷ None
    ∷ [])

unfoldable pub lost : Lost → Content
lost p = record_of (lost_rows p)

abbrev pub damaged_rows : Damaged → List (Option Content)
damaged_rows p =
    headed p.head (
    None
    ∷ option_map string_content p.note
    ∷ None
    ∷ [])

unfoldable pub damaged : Damaged → Content
damaged p = record_of (damaged_rows p)

abbrev pub message_apdu_rows : MessageApdu → List (Option Content)
message_apdu_rows p =
    headed p.head (
    Some (string_content p.note)
    ∷ None
    ∷ [])

unfoldable pub message_apdu : MessageApdu → Content
message_apdu p = record_of (message_apdu_rows p)

abbrev pub status_query_rows : StatusQuery → List (Option Content)
status_query_rows p =
    headed p.head (
    option_map string_content p.note
    ∷ None
    ∷ [])

unfoldable pub status_query : StatusQuery → Content
status_query p = record_of (status_query_rows p)

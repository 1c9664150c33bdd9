-- A request that is read row by row has the content of its value.
use Rattle.std.proofs.Common.{◌≡◌, ℕ, List, ◌∷◌, Option, Some, None, option_map, refl, sym, ap, ◌∙◌}
use Rattle.ill_schema.specs.Content.{Content}
use Rattle.ill_tables.specs.declared.node.NodeId.TheVariants.{IllRequest as RequestNode}
use Rattle.ill_tables.specs.Table.{rows_of}
use Rattle.ill_parts.specs.Shape.{record_of, listed, RowsHold, entries_from, flag_content, number_content, string_content}
use Rattle.ill_parts.specs.Views.{client_id, cost_info, delivery_address, delivery_service, item_id, requester_optional_messages, search_type, service_date_time, supply_medium_info, system_id, third_party_info, transaction_id}
use Rattle.ill_apdu.specs.declared.request.IllRequest.{IllRequest}
use Rattle.ill_apdu.specs.Views.{ill_request}

pub row_is : (o u : Option Content) (os us : List (Option Content)) → o ≡ u → os ≡ us → (o ∷ os) ≡ (u ∷ us)
row_is o u os us e f = cc

-- the rows of a request that are left out
left_out : (f : ℕ → Option Content) → RowsHold (rows_of RequestNode) (entries_from (rows_of RequestNode) f 0)
    → (f 10 ≡ None) × (f 17 ≡ None) × (f 25 ≡ None)
left_out f h =
    (h.1.1.1.1.1.1.1.1.1.1.0, h.1.1.1.1.1.1.1.1.1.1.1.1.1.1.1.1.1.0, h.1.1.1.1.1.1.1.1.1.1.1.1.1.1.1.1.1.1.1.1.1.1.1.1.1.0)

pub request_is : (p : IllRequest) (v : Content) (f : ℕ → Option Content)
    → v ≡ record_of (entries_from (rows_of RequestNode) f 0)
    → RowsHold (rows_of RequestNode) (entries_from (rows_of RequestNode) f 0)
    → Some (number_content p.head.protocol_version_num) ≡ f 0
    → Some (transaction_id p.head.transaction_id) ≡ f 1
    → Some (service_date_time p.head.service_date_time) ≡ f 2
    → option_map system_id p.head.requester_id ≡ f 3
    → option_map system_id p.head.responder_id ≡ f 4
    → Some (number_content p.transaction_type) ≡ f 5
    → option_map delivery_address p.delivery_address ≡ f 6
    → option_map delivery_service p.delivery_service ≡ f 7
    → option_map delivery_address p.billing_address ≡ f 8
    → Some (listed number_content p.ill_service_type) ≡ f 9
    → Some (requester_optional_messages p.requester_optional_messages) ≡ f 11
    → option_map search_type p.search_type ≡ f 12
    → option_map (listed supply_medium_info) p.supply_medium_info_type ≡ f 13
    → Some (number_content p.place_on_hold) ≡ f 14
    → option_map client_id p.client_id ≡ f 15
    → Some (item_id p.item_id) ≡ f 16
    → option_map cost_info p.cost_info_type ≡ f 18
    → option_map string_content p.copyright_compliance ≡ f 19
    → option_map third_party_info p.third_party_info_type ≡ f 20
    → Some (flag_content p.retry_flag) ≡ f 21
    → Some (flag_content p.forward_flag) ≡ f 22
    → option_map string_content p.requester_note ≡ f 23
    → option_map string_content p.forward_note ≡ f 24
    → ill_request p ≡ v
unfolding ill_request
request_is p v f value rows e0 e1 e2 e3 e4 e5 e6 e7 e8 e9 e11 e12 e13 e14 e15 e16 e18 e19 e20 e21 e22 e23 e24 =
    let out = left_out f rows in
    ap record_of (row_is _ _ _ _ e0 (row_is _ _ _ _ e1 (row_is _ _ _ _ e2 (row_is _ _ _ _ e3 (row_is _ _ _ _ e4 (row_is _ _ _ _ e5 (row_is _ _ _ _ e6 (row_is _ _ _ _ e7 (row_is _ _ _ _ e8 (row_is _ _ _ _ e9 (row_is _ _ _ _ (sym out.0) (row_is _ _ _ _ e11 (row_is _ _ _ _ e12 (row_is _ _ _ _ e13 (row_is _ _ _ _ e14 (row_is _ _ _ _ e15 (row_is _ _ _ _ e16 (row_is _ _ _ _ (sym out.1) (row_is _ _ _ _ e18 (row_is _ _ _ _ e19 (row_is _ _ _ _ e20 (row_is _ _ _ _ e21 (row_is _ _ _ _ e22 (row_is _ _ _ _ e23 (row_is _ _ _ _ e24 (row_is _ _ _ _ (sym out.2) refl)))))))))))))))))))))))))) ∙ sym value

-- What an APDU stands for: its number, and the content of its body.
use Rattle.std.specs.Prelude.{ℕ}
use Rattle.ill_schema.specs.Apdu.{Apdu as NumberedBody}
use Rattle.ill_schema.specs.Content.{Content}
use Rattle.ill_tables.specs.declared.node.NodeId.{NodeId}
use Rattle.ill_apdu.specs.Views.{ill_request, ill_answer, conditional_reply, cancel, cancel_reply, expired, shipped, received, recall, returned, checked_in, overdue, renew, renew_answer, lost, damaged, message_apdu, status_query}
use Rattle.ill_apdu.specs.declared.apdu.Apdu.{Apdu}

abbrev pub number_of : Apdu → ℕ
number_of (Apdu.IllRequest p) = 1
number_of (Apdu.Shipped p) = 3
number_of (Apdu.IllAnswer p) = 4
number_of (Apdu.ConditionalReply p) = 5
number_of (Apdu.Cancel p) = 6
number_of (Apdu.CancelReply p) = 7
number_of (Apdu.Received p) = 8
number_of (Apdu.Recall p) = 9
number_of (Apdu.Returned p) = 10
number_of (Apdu.CheckedIn p) = 11
number_of (Apdu.Overdue p) = 12
number_of (Apdu.Renew p) = 13
number_of (Apdu.RenewAnswer p) = 14
number_of (Apdu.Lost p) = 15
number_of (Apdu.Damaged p) = 16
number_of (Apdu.MessageApdu p) = 17
number_of (Apdu.StatusQuery p) = 18
number_of (Apdu.Expired p) = 20

-- the node of the body
abbrev pub body_node_of : Apdu → NodeId
body_node_of (Apdu.IllRequest p) = NodeId.IllRequest
body_node_of (Apdu.Shipped p) = NodeId.Shipped
body_node_of (Apdu.IllAnswer p) = NodeId.IllAnswer
body_node_of (Apdu.ConditionalReply p) = NodeId.ConditionalReply
body_node_of (Apdu.Cancel p) = NodeId.Cancel
body_node_of (Apdu.CancelReply p) = NodeId.CancelReply
body_node_of (Apdu.Received p) = NodeId.Received
body_node_of (Apdu.Recall p) = NodeId.Recall
body_node_of (Apdu.Returned p) = NodeId.Returned
body_node_of (Apdu.CheckedIn p) = NodeId.CheckedIn
body_node_of (Apdu.Overdue p) = NodeId.Overdue
body_node_of (Apdu.Renew p) = NodeId.Renew
body_node_of (Apdu.RenewAnswer p) = NodeId.RenewAnswer
body_node_of (Apdu.Lost p) = NodeId.Lost
body_node_of (Apdu.Damaged p) = NodeId.Damaged
body_node_of (Apdu.MessageApdu p) = NodeId.MessageApdu
body_node_of (Apdu.StatusQuery p) = NodeId.StatusQuery
body_node_of (Apdu.Expired p) = NodeId.Expired

abbrev pub body_of : Apdu → Content
body_of (Apdu.IllRequest p) = ill_request p
body_of (Apdu.Shipped p) = shipped p
body_of (Apdu.IllAnswer p) = ill_answer p
body_of (Apdu.ConditionalReply p) = conditional_reply p
body_of (Apdu.Cancel p) = cancel p
body_of (Apdu.CancelReply p) = cancel_reply p
body_of (Apdu.Received p) = received p
body_of (Apdu.Recall p) = recall p
body_of (Apdu.Returned p) = returned p
body_of (Apdu.CheckedIn p) = checked_in p
body_of (Apdu.Overdue p) = overdue p
body_of (Apdu.Renew p) = renew p
body_of (Apdu.RenewAnswer p) = renew_answer p
body_of (Apdu.Lost p) = lost p
body_of (Apdu.Damaged p) = damaged p
body_of (Apdu.MessageApdu p) = message_apdu p
body_of (Apdu.StatusQuery p) = status_query p
body_of (Apdu.Expired p) = expired p

abbrev pub view_of : Apdu → NumberedBody
view_of a = record { number = number_of a; body = body_of a }

-- `==` of an APDU says exactly that number and body are equal.
use Rattle.std.proofs.Common.{◌≡◌, ℕ, Bool, true, false, nat_eq, refl, ap}
use Rattle.std.proofs.lemmas.Bool.{eq-eqb}
use Rattle.std.specs.Bool.{Decides}
use Rattle.ill_schema.specs.Apdu.{Apdu as NumberedBody}
use Rattle.ill_schema.specs.Content.{Content}
use Rattle.ill_parts.specs.code.Exact.{no_truth}
use Rattle.ill_apdu.specs.code.Equality.{ill_request_exact, ill_answer_exact, conditional_reply_exact, cancel_exact, cancel_reply_exact, expired_exact, shipped_exact, received_exact, recall_exact, returned_exact, checked_in_exact, overdue_exact, renew_exact, renew_answer_exact, lost_exact, damaged_exact, message_apdu_exact, status_query_exact}
use Rattle.ill_apdu.specs.declared.apdu.Apdu.{Apdu}
use Rattle.ill_apdu.specs.declared.request.IllRequest.{IllRequest}
use Rattle.ill_apdu.specs.declared.shipped.Shipped.{Shipped}
use Rattle.ill_apdu.specs.declared.answer.IllAnswer.{IllAnswer}
use Rattle.ill_apdu.specs.declared.conditional_reply.ConditionalReply.{ConditionalReply}
use Rattle.ill_apdu.specs.declared.cancel.Cancel.{Cancel}
use Rattle.ill_apdu.specs.declared.cancel.CancelReply.{CancelReply}
use Rattle.ill_apdu.specs.declared.received.Received.{Received}
use Rattle.ill_apdu.specs.declared.recall.Recall.{Recall}
use Rattle.ill_apdu.specs.declared.returned.Returned.{Returned}
use Rattle.ill_apdu.specs.declared.returned.CheckedIn.{CheckedIn}
use Rattle.ill_apdu.specs.declared.overdue.Overdue.{Overdue}
use Rattle.ill_apdu.specs.declared.renew.Renew.{Renew}
use Rattle.ill_apdu.specs.declared.renew.RenewAnswer.{RenewAnswer}
use Rattle.ill_apdu.specs.declared.lost.Lost.{Lost}
use Rattle.ill_apdu.specs.declared.lost.Damaged.{Damaged}
use Rattle.ill_apdu.specs.declared.text.MessageApdu.{MessageApdu}
use Rattle.ill_apdu.specs.declared.status_query.StatusQuery.{StatusQuery}
use Rattle.ill_apdu.specs.declared.expired.Expired.{Expired}
use Rattle.ill_apdu.specs.contracts.apdu.ApduPartialEq.TheImpl.{eq-value as apdu_eq}
use Rattle.ill_apdu.specs.Carried.{view_of}

abbrev numbered : ℕ → Content → NumberedBody
numbered n c = record { number = n; body = c }

number : NumberedBody → ℕ
number b = b.number

body : NumberedBody → Content
body b = b.body

-- APDUs of different numbers
apart : {A : Type 0} (m n : ℕ) (c d : Content) → nat_eq m n ≡ false → numbered m c ≡ numbered n d → A
unfolding number
apart m n c d h e = let same : m ≡ n = ap number e in let yes : nat_eq m n ≡ true = eq-eqb m n same in absurd (cc)

same_number : (n : ℕ) (c d : Content) (b : Bool) → Decides b (c ≡ d) → Decides b (numbered n c ≡ numbered n d)
unfolding body
same_number n c d b h = (λ e. ap (numbered n) (h.0 e), λ e. h.1 (ap body e))

pub ill_request_first : (x : IllRequest) (b : Apdu) → Decides (apdu_eq.it (Apdu.IllRequest x) b) (view_of (Apdu.IllRequest x) ≡ view_of b)
ill_request_first x (Apdu.IllRequest y) = same_number _ _ _ _ (ill_request_exact x y)
ill_request_first x _ = (no_truth, λ e. apart _ _ _ _ refl e)

pub shipped_first : (x : Shipped) (b : Apdu) → Decides (apdu_eq.it (Apdu.Shipped x) b) (view_of (Apdu.Shipped x) ≡ view_of b)
shipped_first x (Apdu.Shipped y) = same_number _ _ _ _ (shipped_exact x y)
shipped_first x _ = (no_truth, λ e. apart _ _ _ _ refl e)

pub ill_answer_first : (x : IllAnswer) (b : Apdu) → Decides (apdu_eq.it (Apdu.IllAnswer x) b) (view_of (Apdu.IllAnswer x) ≡ view_of b)
ill_answer_first x (Apdu.IllAnswer y) = same_number _ _ _ _ (ill_answer_exact x y)
ill_answer_first x _ = (no_truth, λ e. apart _ _ _ _ refl e)

pub conditional_reply_first : (x : ConditionalReply) (b : Apdu) → Decides (apdu_eq.it (Apdu.ConditionalReply x) b) (view_of (Apdu.ConditionalReply x) ≡ view_of b)
conditional_reply_first x (Apdu.ConditionalReply y) = same_number _ _ _ _ (conditional_reply_exact x y)
conditional_reply_first x _ = (no_truth, λ e. apart _ _ _ _ refl e)

pub cancel_first : (x : Cancel) (b : Apdu) → Decides (apdu_eq.it (Apdu.Cancel x) b) (view_of (Apdu.Cancel x) ≡ view_of b)
cancel_first x (Apdu.Cancel y) = same_number _ _ _ _ (cancel_exact x y)
cancel_first x _ = (no_truth, λ e. apart _ _ _ _ refl e)

pub cancel_reply_first : (x : CancelReply) (b : Apdu) → Decides (apdu_eq.it (Apdu.CancelReply x) b) (view_of (Apdu.CancelReply x) ≡ view_of b)
cancel_reply_first x (Apdu.CancelReply y) = same_number _ _ _ _ (cancel_reply_exact x y)
cancel_reply_first x _ = (no_truth, λ e. apart _ _ _ _ refl e)

pub received_first : (x : Received) (b : Apdu) → Decides (apdu_eq.it (Apdu.Received x) b) (view_of (Apdu.Received x) ≡ view_of b)
received_first x (Apdu.Received y) = same_number _ _ _ _ (received_exact x y)
received_first x _ = (no_truth, λ e. apart _ _ _ _ refl e)

pub recall_first : (x : Recall) (b : Apdu) → Decides (apdu_eq.it (Apdu.Recall x) b) (view_of (Apdu.Recall x) ≡ view_of b)
recall_first x (Apdu.Recall y) = same_number _ _ _ _ (recall_exact x y)
recall_first x _ = (no_truth, λ e. apart _ _ _ _ refl e)

pub returned_first : (x : Returned) (b : Apdu) → Decides (apdu_eq.it (Apdu.Returned x) b) (view_of (Apdu.Returned x) ≡ view_of b)
returned_first x (Apdu.Returned y) = same_number _ _ _ _ (returned_exact x y)
returned_first x _ = (no_truth, λ e. apart _ _ _ _ refl e)

pub checked_in_first : (x : CheckedIn) (b : Apdu) → Decides (apdu_eq.it (Apdu.CheckedIn x) b) (view_of (Apdu.CheckedIn x) ≡ view_of b)
checked_in_first x (Apdu.CheckedIn y) = same_number _ _ _ _ (checked_in_exact x y)
checked_in_first x _ = (no_truth, λ e. apart _ _ _ _ refl e)

pub overdue_first : (x : Overdue) (b : Apdu) → Decides (apdu_eq.it (Apdu.Overdue x) b) (view_of (Apdu.Overdue x) ≡ view_of b)
overdue_first x (Apdu.Overdue y) = same_number _ _ _ _ (overdue_exact x y)
overdue_first x _ = (no_truth, λ e. apart _ _ _ _ refl e)

pub renew_first : (x : Renew) (b : Apdu) → Decides (apdu_eq.it (Apdu.Renew x) b) (view_of (Apdu.Renew x) ≡ view_of b)
renew_first x (Apdu.Renew y) = same_number _ _ _ _ (renew_exact x y)
renew_first x _ = (no_truth, λ e. apart _ _ _ _ refl e)

pub renew_answer_first : (x : RenewAnswer) (b : Apdu) → Decides (apdu_eq.it (Apdu.RenewAnswer x) b) (view_of (Apdu.RenewAnswer x) ≡ view_of b)
renew_answer_first x (Apdu.RenewAnswer y) = same_number _ _ _ _ (renew_answer_exact x y)
renew_answer_first x _ = (no_truth, λ e. apart _ _ _ _ refl e)

pub lost_first : (x : Lost) (b : Apdu) → Decides (apdu_eq.it (Apdu.Lost x) b) (view_of (Apdu.Lost x) ≡ view_of b)
lost_first x (Apdu.Lost y) = same_number _ _ _ _ (lost_exact x y)
lost_first x _ = (no_truth, λ e. apart _ _ _ _ refl e)

pub damaged_first : (x : Damaged) (b : Apdu) → Decides (apdu_eq.it (Apdu.Damaged x) b) (view_of (Apdu.Damaged x) ≡ view_of b)
damaged_first x (Apdu.Damaged y) = same_number _ _ _ _ (damaged_exact x y)
damaged_first x _ = (no_truth, λ e. apart _ _ _ _ refl e)

pub message_apdu_first : (x : MessageApdu) (b : Apdu) → Decides (apdu_eq.it (Apdu.MessageApdu x) b) (view_of (Apdu.MessageApdu x) ≡ view_of b)
message_apdu_first x (Apdu.MessageApdu y) = same_number _ _ _ _ (message_apdu_exact x y)
message_apdu_first x _ = (no_truth, λ e. apart _ _ _ _ refl e)

pub status_query_first : (x : StatusQuery) (b : Apdu) → Decides (apdu_eq.it (Apdu.StatusQuery x) b) (view_of (Apdu.StatusQuery x) ≡ view_of b)
status_query_first x (Apdu.StatusQuery y) = same_number _ _ _ _ (status_query_exact x y)
status_query_first x _ = (no_truth, λ e. apart _ _ _ _ refl e)

pub expired_first : (x : Expired) (b : Apdu) → Decides (apdu_eq.it (Apdu.Expired x) b) (view_of (Apdu.Expired x) ≡ view_of b)
expired_first x (Apdu.Expired y) = same_number _ _ _ _ (expired_exact x y)
expired_first x _ = (no_truth, λ e. apart _ _ _ _ refl e)

pub apdu_exact : (a b : Apdu) → Decides (apdu_eq.it a b) (view_of a ≡ view_of b)
apdu_exact (Apdu.IllRequest x) b = ill_request_first x b
apdu_exact (Apdu.Shipped x) b = shipped_first x b
apdu_exact (Apdu.IllAnswer x) b = ill_answer_first x b
apdu_exact (Apdu.ConditionalReply x) b = conditional_reply_first x b
apdu_exact (Apdu.Cancel x) b = cancel_first x b
apdu_exact (Apdu.CancelReply x) b = cancel_reply_first x b
apdu_exact (Apdu.Received x) b = received_first x b
apdu_exact (Apdu.Recall x) b = recall_first x b
apdu_exact (Apdu.Returned x) b = returned_first x b
apdu_exact (Apdu.CheckedIn x) b = checked_in_first x b
apdu_exact (Apdu.Overdue x) b = overdue_first x b
apdu_exact (Apdu.Renew x) b = renew_first x b
apdu_exact (Apdu.RenewAnswer x) b = renew_answer_first x b
apdu_exact (Apdu.Lost x) b = lost_first x b
apdu_exact (Apdu.Damaged x) b = damaged_first x b
apdu_exact (Apdu.MessageApdu x) b = message_apdu_first x b
apdu_exact (Apdu.StatusQuery x) b = status_query_first x b
apdu_exact (Apdu.Expired x) b = expired_first x b

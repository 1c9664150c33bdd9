-- Elements at the front of octets.
use Rattle.std.proofs.Common.{◌≡◌, ℕ, ◌^◌, ◌<◌, ◌≤◌, List, ◌++◌, length, take, drop, sym, ap, ap₂, ◌∙◌, arith, length-append, take-append-drop}
use Rattle.std.proofs.lemmas.List.{length-take-le}
use Rattle.ber_tree.specs.Length.{shortest_length}
use Rattle.ber_core.specs.declared.id.Id.{Id}
use Rattle.ber_core.specs.Id.{form_of_id, id_octets, tag_of_id}
use Rattle.ber_core.specs.ReadHeaders.{BeginsWithIdentifier}
use Rattle.ber_core.proofs.Identifiers.{identifier_unique}
use Rattle.ber_foreign.specs.Fronts.{BeginsWithElement, element_octets}
use Rattle.ber_foreign.proofs.FewestOctets.{shortest_unique}
use Rattle.ber_foreign.proofs.Once.{element_parts}

-- an identifier, a length and as many octets are an element
pub element_joined : (octets after_id after_len contents behind : List ℕ) (id : Id) (len : ℕ) → octets ≡ id_octets id ++ after_id → after_id ≡ shortest_length len ++ after_len → len ≤ length after_len
    → contents ≡ take len after_len → behind ≡ drop len after_len → octets ≡ element_octets (tag_of_id id) (form_of_id id) contents ++ behind
element_joined octets after_id after_len contents behind id len e f le front back =
    let size : length contents ≡ len = ap length front ∙ length-take-le len after_len le in
    let all : after_len ≡ contents ++ behind = sym (take-append-drop len after_len) ∙ ap₂ ◌++◌ (sym front) (sym back) in
    e ∙ ap (λ z. id_octets id ++ z) (f ∙ ap₂ (λ (n : ℕ) (z : List ℕ). shortest_length n ++ z) (sym size) all) ∙ sym (element_parts (tag_of_id id) (form_of_id id) contents behind)

-- the octets after the identifier of an element
after_identifier : (octets after_id : List ℕ) (id : Id) → octets ≡ id_octets id ++ after_id → (b : BeginsWithElement octets) → after_id ≡ shortest_length (length b.2) ++ (b.2 ++ b.3)
after_identifier octets after_id id e b = (identifier_unique (tag_of_id id) b.0 (form_of_id id) b.1 after_id _ id.valid b.4 (sym e ∙ b.5 ∙ element_parts b.0 b.1 b.2 b.3)).2

-- where an element begins, its length is no more than what is after it
pub element_len : (octets after_id after_len : List ℕ) (id : Id) (len : ℕ) → octets ≡ id_octets id ++ after_id → after_id ≡ shortest_length len ++ after_len → BeginsWithElement octets → len ≤ length after_len
element_len octets after_id after_len id len e f b =
    let u = shortest_unique len (length b.2) after_len (b.2 ++ b.3) (sym f ∙ after_identifier octets after_id id e b) in
    omega (arith, u.0, ap length u.1, length-append b.2 b.3)

-- no element begins without a length
pub no_len : (octets after_id : List ℕ) (id : Id) → octets ≡ id_octets id ++ after_id → length octets < 2 ^ 64 → ((n : ℕ) (behind : List ℕ) → n < 2 ^ 64 → after_id ≡ shortest_length n ++ behind → ⊥) → BeginsWithElement octets → ⊥
no_len octets after_id id e small lacks b =
    let f = after_identifier octets after_id id e b in
    let one = ap length e ∙ length-append (id_octets id) after_id in
    let two = ap length f ∙ length-append (shortest_length (length b.2)) (b.2 ++ b.3) in
    lacks (length b.2) (b.2 ++ b.3) (omega (arith, small, one, two, length-append b.2 b.3)) f

-- nor without an identifier
pub no_id : (octets : List ℕ) → (BeginsWithIdentifier octets → ⊥) → BeginsWithElement octets → ⊥
no_id octets lacks b = lacks (b.0, b.1, shortest_length (length b.2) ++ (b.2 ++ b.3), b.4, b.5 ∙ element_parts b.0 b.1 b.2 b.3)

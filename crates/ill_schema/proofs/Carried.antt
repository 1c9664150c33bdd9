-- The carried APDUs: their numbers, nodes and rows.
use Rattle.std.proofs.Common.{◌≡◌, ℕ, zero, suc, ◌+◌, ◌-◌, ◌≤◌, Bool, true, false, ◌&&◌, nat_eq, List, [], ◌∷◌, Option, Some, None, IsTrue, refl, ap, subst, ◌∙◌, arith, slice_get}
use Rattle.std.proofs.lemmas.Bool.{and_parts}
use Rattle.std.proofs.lemmas.Bool.Decides.{nat_tests}
use Rattle.std.specs.Prelude.{if◌then◌else◌}
use Rattle.ber_core.specs.Der.{encoding}
use Rattle.ber_leaf.specs.Profile.{profile_two}
use Rattle.ill_tables.specs.declared.node.NodeId.{NodeId}
use Rattle.ill_tables.specs.declared.node.NodeId.TheVariants.{IllApdu}
use Rattle.ill_tables.specs.declared.part.Presence.{Presence}
use Rattle.ill_tables.specs.declared.part.Row.{Row}
use Rattle.ill_schema.specs.Apdu.{Apdu, normal_form}
use Rattle.ill_schema.specs.Fits.{Fits, FitsApdu}
use Rattle.ill_schema.specs.Names.{carried, carried_node, apdu_node_of}
use Rattle.ill_schema.specs.Normal.{normal_tree}
use Rattle.ill_schema.specs.Presence.{IsCarried}
use Rattle.ill_schema.specs.Sizes.{apdu_number_of, node_form}
use Rattle.ill_tables.specs.Table.{rows_of}
use Rattle.ill_schema.specs.Tagging.{untagged}

-- a row of ILL-APDU that carries a node
record Carries (number : ℕ) (node : NodeId) : Type 0 where
  above : 1 ≤ number
  row : Row
  stands : slice_get (rows_of IllApdu) (number - 1) ≡ Some row
  is_carried : IsCarried row.presence
  same_node : node ≡ row.node

presence_is : (presence : Presence) (m node : NodeId) → carried presence m ≡ Some node → IsCarried presence × (node ≡ m)
presence_is Presence.LeftOut m node e = absurd cc
presence_is _ m node e = (tt, cc)

row_is : (o : Option Row) (node : NodeId) → carried_node o ≡ Some node → (row : Row) × (o ≡ Some row) × IsCarried row.presence × (node ≡ row.node)
row_is None node e = absurd cc
row_is (Some row) node e = let p = presence_is row.presence row.node node e in (row, refl, p.0, p.1)

not_none : (b : Bool) (o : Option NodeId) (node : NodeId) → (if b then None else o) ≡ Some node → (b ≡ false) × (o ≡ Some node)
not_none true o node e = absurd cc
not_none false o node e = (refl, e)

carries : (number : ℕ) (node : NodeId) → apdu_node_of number ≡ Some node → Carries number node
carries number node e =
    let o = slice_get (rows_of IllApdu) (number - 1) in
    let p = not_none (nat_eq number 0) (carried_node o) node e in
    let r = row_is o node p.1 in
    record { above = grind (arith, nat_tests, p.0); row = r.0; stands = r.1; is_carried = r.2; same_node = r.3 }

pub carried_fits : (a : Apdu) (node : NodeId) → apdu_node_of a.number ≡ Some node → Fits profile_two a.body node → FitsApdu profile_two a
carried_fits a node e fit =
    let h = carries a.number node e in
    (h.above, (h.row, (refl, h.stands, h.is_carried), subst (λ m. Fits profile_two a.body m) h.same_node fit))

-- each carried row's node has the row's number
abbrev has_number : Presence → Option ℕ → ℕ → Bool
has_number Presence.LeftOut o n = true
has_number presence None n = false
has_number presence (Some m) n = nat_eq m n

abbrev are_numbered : ℕ → List Row → Bool
are_numbered n [] = true
are_numbered n (row ∷ rows) = has_number row.presence (apdu_number_of row.node) n && are_numbered (n + 1) rows

numbered : IsTrue (are_numbered 1 (rows_of IllApdu))
numbered = refl

number_is : (presence : Presence) (o : Option ℕ) (n : ℕ) → IsTrue (has_number presence o n) → IsCarried presence → o ≡ Some n
number_is Presence.LeftOut o n h c = absurd c
number_is _ None n h c = absurd cc
number_is _ (Some m) n h c = let e : m ≡ n = grind (arith, nat_tests, h) in ap Some e

number_at : (rows : List Row) (first k : ℕ) (row : Row) → IsTrue (are_numbered first rows) → slice_get rows k ≡ Some row → IsCarried row.presence
    → apdu_number_of row.node ≡ Some (first + k)
number_at [] first k row h e c = absurd cc
number_at (r ∷ rows) first zero row h e c =
    let same : r ≡ row = cc in
    let p = and_parts (has_number r.presence (apdu_number_of r.node) first) (are_numbered (first + 1) rows) h in
    subst (λ x. IsCarried x.presence → apdu_number_of x.node ≡ Some (first + 0)) same
    (λ d. number_is r.presence (apdu_number_of r.node) first p.0 d ∙ ap Some (let z : first ≡ first + 0 = omega arith in z)) c
number_at (r ∷ rows) first (suc k) row h e c =
    let p = and_parts (has_number r.presence (apdu_number_of r.node) first) (are_numbered (first + 1) rows) h in
    number_at rows (first + 1) k row p.1 e c ∙ ap Some (let z : first + 1 + k ≡ first + suc k = omega arith in z)

node_number : (number : ℕ) (node : NodeId) → apdu_node_of number ≡ Some node → apdu_number_of node ≡ Some number
node_number number node e =
    let h = carries number node e in
    let above : 1 ≤ number = h.above in
    ap apdu_number_of h.same_node ∙ number_at (rows_of IllApdu) 1 (number - 1) h.row numbered h.stands h.is_carried
    ∙ ap Some (let z : 1 + (number - 1) ≡ number = omega arith in z)

-- as its node, an APDU's body has the APDU's normal form
pub node_form-apdu : (a : Apdu) (node : NodeId) → apdu_node_of a.number ≡ Some node → node_form a.body node ≡ normal_form a
node_form-apdu a node e =
    ap (λ o. elim o as (λ _. List ℕ) [ Some number ↦ normal_form (record { number = number; body = a.body }) | None ↦ encoding (normal_tree a.body node untagged) ])
    (node_number a.number node e)

-- The APDU of a body that is whole.
use Rattle.std.proofs.Common.{◌≡◌, ℕ, ◌-◌, ◌≤◌, Bool, false, List, Some, None, length, refl, ap, ◌∙◌, arith, slice_get}
use Rattle.std.proofs.lemmas.Option.{slice_get_within}
use Rattle.std.specs.Prelude.{nat_eq, if◌then◌else◌}
use Rattle.ber_leaf.specs.Profile.{profile_two}
use Rattle.ill_tables.specs.declared.node.NodeId.{NodeId}
use Rattle.ill_tables.specs.declared.node.NodeId.TheVariants.{IllApdu}
use Rattle.ill_tables.specs.declared.part.Presence.{Presence}
use Rattle.ill_schema.specs.Apdu.{Apdu, Encodes}
use Rattle.ill_schema.specs.Fits.{Fits, FitsApdu}
use Rattle.ill_schema.specs.Names.{carried, carried_node, apdu_node_of}
use Rattle.ill_schema.specs.Presence.{IsCarried}
use Rattle.ill_tables.specs.Table.{rows_of}
use Rattle.ill_schema.proofs.MeansFits.{means_apdu_fits}

carried_some : (presence : Presence) (node : NodeId) → IsCarried presence → carried presence node ≡ Some node
carried_some Presence.LeftOut node h = absurd h
carried_some _ node h = refl

rows_many : length (rows_of IllApdu) ≡ 20
rows_many = refl

nat_zero : (n : ℕ) → 1 ≤ n → nat_eq n 0 ≡ false
nat_zero n h = grind arith

-- an APDU that is encoded is carried, and its body fits
pub encoded_fits : (a : Apdu) (b : List ℕ) → Encodes profile_two a b → (node : NodeId) × (apdu_node_of a.number ≡ Some node) × Fits profile_two a.body node
encoded_fits a b h =
    let f : FitsApdu profile_two a = means_apdu_fits profile_two a h.tree h.means in
    let row = f.1.0 in
    let z = nat_zero a.number f.0 in (
      row.node,
      ap (λ (x : Bool). if x then None else carried_node (slice_get (rows_of IllApdu) (a.number - 1))) z ∙ ap carried_node f.1.1.1 ∙ carried_some row.presence row.node f.1.1.2,
      f.1.2,
    )

-- its number is small
pub encoded_number : (a : Apdu) (b : List ℕ) → Encodes profile_two a b → a.number ≤ 20
encoded_number a b h =
    let f : FitsApdu profile_two a = means_apdu_fits profile_two a h.tree h.means in
    let l = slice_get_within (rows_of IllApdu) (a.number - 1) f.1.0 f.1.1.1 in
    omega (arith, l, rows_many)

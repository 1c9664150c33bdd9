use Rattle.std.proofs.Common.{◌≡◌, ◌++◌, ◌<◌, ◌∙◌, List, ℕ, Bor, IsTrue, get_or, take, drop, sym, ap, subst, arith, take_all, take-append-drop}
use Rattle.std.proofs.lemmas.List.{take-append-le}
use Rattle.ber_tree.specs.Octets.{are_octets}
use Rattle.ber_tree.proofs.Octets.{octets_fit}
use Rattle.ber_core.specs.Header.{IsHeader}
use Rattle.ber_core.specs.HeaderRead.{IsHeaderRead}
use Rattle.ber_core.specs.declared.header_read.HeaderRead.TheVariants.{Identified}
use Rattle.ber_core.specs.declared.header_read.LengthRead.TheVariants.{Whole}
use Rattle.ber_core.proofs.ReadOctets.{octets_left}
use Rattle.ill_read.proofs.PassedHeaders.{header_taken}
use Rattle.ill_read.proofs.reader.Reader.pass.Goals as goal
use Rattle.ill_read.proofs.reader.Reader.pass.Goals.{then-rest-room, else-rest-room}

pub returns-clause-header : goal.returns-clause-header
returns-clause-header g c =
    let rest = c.args.rest.now in let w = c.if-rest-room.window.now in
    let room = c.saturating_sub-room.result in let size = c.in-Whole.header_size in
    let front : w ≡ take room rest = elim c.if-rest-room.branch [
      | then-rest-room x ↦ ap (λ (x : Bor (List ℕ)). x.now) x.window-is ∙ sym (take_all room rest (omega (arith, x.if-rest-room.true)))
      | else-rest-room x ↦ ap (λ (x : Bor (List ℕ)). x.now) x.window-is
    ] in
    let joined : rest ≡ w ++ drop room rest = sym (ap (λ x. x ++ drop room rest) front ∙ take-append-drop room rest) in
    let octets : IsTrue (are_octets rest) = octets_fit rest (λ k. let l : get_or rest k 0 < 256 = omega (arith, c.type_inv.rest k) in l) in
    let right : IsTrue (are_octets w) = octets_left w (drop room rest) (subst (λ x. IsTrue (are_octets x)) joined octets) in
    let read : IsHeaderRead (Identified c.in-Identified.id (Whole c.in-Whole.len size)) w = subst (λ x. IsHeaderRead (Identified c.in-Identified.id x) w) c.in-Whole.is c.in-Identified.ensures in
    subst (IsHeader (record { id = c.in-Identified.id; len = c.in-Whole.len })) (sym (ap (take size) joined ∙ take-append-le size w (drop room rest) read.2.1))
    (header_taken c.in-Identified.id c.in-Whole.len size w right read)

use Rattle.std.proofs.Common.{◌≡◌, ◌<◌, ◌+◌, [], ◌∷◌, ◌++◌, take, drop, get_or, Option, Ok, IsTrue, IsNone, refl, sym, ap, subst, ◌∙◌, arith, take-append-drop}
use Rattle.std.proofs.lemmas.List.{take_more, take_all}
use Rattle.ber_core.specs.declared.header.Header.{Header}
use Rattle.ber_core.specs.declared.header.HeaderFault.{HeaderFault}
use Rattle.ber_core.specs.Header.{Judged, IsFault, IsPartHeader, HasWholeId, BeginsWithId}
use Rattle.ber_core.specs.HeaderState.{Fed}
use Rattle.ber_tree.specs.Octets.{are_octets}
use Rattle.ber_tree.proofs.Octets.{octets_fit}
use Rattle.ber_core.proofs.HeadersRead.{whole_header_read, no_identifier_read, no_length_read, part_identifier_read, part_length_read}
use Rattle.ber_core.proofs.ReadOctets.{octets_left}
use Rattle.ber_core.proofs.header_read.read_any.Goals as goal

-- A push that returns nothing leaves a part of a header.
pub loop-i-preserved : goal.loop-i-preserved
loop-i-preserved c =
    let w = c.args.octets.now in
    let more : take c.loop-i.i w ++ get_or w c.loop-i.i 0 ∷ [] ≡ take (c.loop-i.i + 1) w = sym (take_more w c.loop-i.i 0 c.loop-i-test.true) in
    let fed = c.push.ensures.fed (take c.loop-i.i w) c.loop-i.invariant.1 in
    let judged = c.in-Ok-None.ensures.judged (take c.loop-i.i w) c.loop-i.invariant.1 in
    let P : Option Header → Type 0 = λ o. Judged (take c.loop-i.i w ++ get_or w c.loop-i.i 0 ∷ []) (Ok o) in
    let part : IsPartHeader (take c.loop-i.i w ++ get_or w c.loop-i.i 0 ∷ []) = subst P c.in-Ok-None.field-0-is judged in
    (c.in-Ok-None.ensures.unanswered (let Q : Option Header → Type 0 = λ o. IsNone o in subst Q (sym c.in-Ok-None.field-0-is) refl), subst (λ b. Fed c.push.new.self b) more fed, subst IsPartHeader more part)

pub returns-in-Ok-Some : goal.returns-in-Ok-Some
returns-in-Ok-Some c =
    let w = c.args.octets.now in
    let front : w ≡ (take c.loop-i.i w ++ get_or w c.loop-i.i 0 ∷ []) ++ drop (c.loop-i.i + 1) w =
    sym (take-append-drop (c.loop-i.i + 1) w) ∙ ap (λ b. b ++ drop (c.loop-i.i + 1) w) (take_more w c.loop-i.i 0 c.loop-i-test.true) in
    let judged = c.in-Ok-Some.ensures.judged (take c.loop-i.i w) c.loop-i.invariant.1 in
    let P : Option Header → Type 0 = λ o. Judged (take c.loop-i.i w ++ get_or w c.loop-i.i 0 ∷ []) (Ok o) in
    let read = whole_header_read c.in-Ok-Some.header _ (drop (c.loop-i.i + 1) w) w front (subst P c.in-Ok-Some.field-0-is judged) in
    (read.0, read.1, (omega arith, omega (arith, c.loop-i-test.true), read.2))

pub returns-in-Err-BadTag : goal.returns-in-Err-BadTag
returns-in-Err-BadTag c =
    let w = c.args.octets.now in
    let ok : IsTrue (are_octets w) = octets_fit w (λ k. let h : get_or w k 0 < 256 = omega (arith, c.type_inv.octets k) in h) in
    let front : w ≡ (take c.loop-i.i w ++ get_or w c.loop-i.i 0 ∷ []) ++ drop (c.loop-i.i + 1) w =
    sym (take-append-drop (c.loop-i.i + 1) w) ∙ ap (λ b. b ++ drop (c.loop-i.i + 1) w) (take_more w c.loop-i.i 0 c.loop-i-test.true) in
    let judged = c.in-Err-BadTag.ensures.judged (take c.loop-i.i w) c.loop-i.invariant.1 in
    let b = take c.loop-i.i w ++ get_or w c.loop-i.i 0 ∷ [] in
    no_identifier_read b (drop (c.loop-i.i + 1) w) w (octets_left b (drop (c.loop-i.i + 1) w) (subst (λ z. IsTrue (are_octets z)) front ok)) front (let F : HeaderFault → Type 0 = λ f. IsFault f (take c.loop-i.i w ++ get_or w c.loop-i.i 0 ∷ []) in subst F c.in-Err-BadTag.field-0-is judged)

pub returns-in-Some : goal.returns-in-Some
returns-in-Some c =
    let w = c.args.octets.now in
    let b = take c.loop-i.i w ++ get_or w c.loop-i.i 0 ∷ [] in
    let ok : IsTrue (are_octets w) = octets_fit w (λ k. let h : get_or w k 0 < 256 = omega (arith, c.type_inv.octets k) in h) in
    let front : w ≡ b ++ drop (c.loop-i.i + 1) w = sym (take-append-drop (c.loop-i.i + 1) w) ∙ ap (λ z. z ++ drop (c.loop-i.i + 1) w) (take_more w c.loop-i.i 0 c.loop-i-test.true) in
    let judged = c.in-Err-BadLength.ensures.judged (take c.loop-i.i w) c.loop-i.invariant.1 in
    let fed = c.push.ensures.fed (take c.loop-i.i w) c.loop-i.invariant.1 in
    let F : HeaderFault → Type 0 = λ f. IsFault f b in
    no_length_read (take c.loop-i.i w) (get_or w c.loop-i.i 0) (drop (c.loop-i.i + 1) w) w c.in-Some.id (octets_left b (drop (c.loop-i.i + 1) w) (subst (λ z. IsTrue (are_octets z)) front ok)) front
    c.loop-i.invariant.2 (subst F c.in-Err-BadLength.field-0-is judged) (c.in-Some.ensures b fed)

pub returns-in-None-id : goal.returns-in-None-id
returns-in-None-id c =
    let w = c.args.octets.now in
    let ok : IsTrue (are_octets w) = octets_fit w (λ k. let h : get_or w k 0 < 256 = omega (arith, c.type_inv.octets k) in h) in
    let all : take c.loop-i.i w ≡ w = take_all c.loop-i.i w c.loop-i-test.false in
    part_identifier_read w ok (subst IsPartHeader all c.loop-i.invariant.2) (subst (λ b. HasWholeId b → ⊥) all (c.in-None-id.ensures (take c.loop-i.i w) c.loop-i.invariant.1))

pub returns-in-Some-id : goal.returns-in-Some-id
returns-in-Some-id c =
    let w = c.args.octets.now in
    let ok : IsTrue (are_octets w) = octets_fit w (λ k. let h : get_or w k 0 < 256 = omega (arith, c.type_inv.octets k) in h) in
    let all : take c.loop-i.i w ≡ w = take_all c.loop-i.i w c.loop-i-test.false in
    let part : IsPartHeader w = subst IsPartHeader all c.loop-i.invariant.2 in
    let fed : Fed c.loop-i.state w = subst (Fed c.loop-i.state) all c.loop-i.invariant.1 in
    let begins : BeginsWithId c.in-Some-id.id w = subst (BeginsWithId c.in-Some-id.id) all (c.in-Some-id.ensures (take c.loop-i.i w) c.loop-i.invariant.1) in
    let read = part_length_read w c.in-Some-id.id ok part begins in
    (read.0, read.1, (read.2, (λ header rest is. c.due.ensures.at_least w rest header fed is, c.due.ensures.reached w fed (c.in-Some-id.id, begins) part)))

use Rattle.std.proofs.Common.{◌≡◌, ◌∙◌, ◌+◌, ◌-◌, ◌≤◌, ◌++◌, ◌∷◌, get_or, length, refl, sym, ap, ap₂, subst, arith, inl, inr}
use Rattle.std.specs.List.{between}
use Rattle.std.proofs.lemmas.List.Edits.{length-between}
use Rattle.ber_tree.specs.Length.{IsLength, shortest_length}
use Rattle.ill_read.specs.code.Usual.{HasAll, IsStringType}
use Rattle.ill_read.proofs.UsualElements.{string_all, string_octet}
use Rattle.ill_read.proofs.UsualWrites.{between_split, one_octet, puts_as, puts_then}
use Rattle.ill_read.proofs.usual.string.read_string.Goals as goal
use Rattle.ill_read.proofs.usual.string.read_string.Goals.{in-27, in-26}

pub returns-clause-read : goal.returns-clause-read
returns-clause-read c =
    let from = c.args.from.written in
    let to = c.write_length-to.result in
    let end = to + c.in_ok-size.field-0.size in
    let put = puts_then c.args.out.now c.write_length-to.new.out c.put_text.new.out from to end _ _
    (puts_then c.args.out.now c.put_octet.new.out c.write_length-to.new.out from (from + 1) to _ _ c.put_octet.ensures.put c.write_length-to.ensures.put) c.put_text.ensures.put in
    record {
      taken = (omega (arith, c.in_ok-size.ensures.within), omega (arith, c.in_ok-size.ensures.within));
      put = puts_as c.args.out.now c.put_text.new.out from end end _ _ put refl (sym put.put);
      ends = c.ends_at.ensures c.if-not-ends_at.false;
    }

pub returns-clause-all : goal.returns-clause-all
returns-clause-all c p e k tag some =
    let octets = c.args.input.octets.now in
    let at = c.args.from.taken in
    let from = c.args.from.written in
    let to = c.write_length-to.result in
    let size = c.in_ok-size.field-0.size in
    let contents = c.in_ok-size.field-0.contents in
    let end = to + size in
    let leaf = c.match-first.leaf in
    let first = get_or octets at 0 in
    let is : IsStringType leaf = elim c.match-first.branch [ in-27 w ↦ inl w.leaf-is | in-26 w ↦ inr w.leaf-is ] in
    let octet : first ≡ string_octet leaf = elim c.match-first.branch [ in-27 w ↦ w.in-27.is ∙ ap string_octet (sym w.leaf-is) | in-26 w ↦ w.in-26.is ∙ ap string_octet (sym w.leaf-is) ] in
    let within = c.in_ok-size.ensures.within in
    let os = between (at + 1) contents octets in
    let text = between contents (contents + size) octets in
    let inside : contents + size ≤ length octets = omega (arith, c.args.input.within, within) in
    let width : contents + size - contents ≡ size = omega arith in
    let long : length text ≡ size = length-between octets contents (contents + size) inside ∙ width in
    let few : size ≤ 1_048_576 = omega (arith, c.args.input.few, within) in
    let put = puts_then c.args.out.now c.write_length-to.new.out c.put_text.new.out from to end _ _
    (puts_then c.args.out.now c.put_octet.new.out c.write_length-to.new.out from (from + 1) to _ _ c.put_octet.ensures.put c.write_length-to.ensures.put) c.put_text.ensures.put in
    let all = string_all p e leaf k os text tag is some (subst (λ n. IsLength n os) (sym long) (c.in_ok-size.ensures.is few)) (c.put_text.ensures.right c.if-not-put_text.false p) in
    let read : between at (contents + size) octets ≡ string_octet leaf ∷ (os ++ text) =
    between_split octets at (at + 1) (contents + size) (omega arith) (omega (arith, within))
    ∙ ap₂ (λ x y. x ++ y) (one_octet octets at (omega (arith, inside, within))) (between_split octets (at + 1) contents (contents + size) (omega (arith, within)) (omega arith)) ∙ ap (λ n. n ∷ (os ++ text)) octet in
    let written : between from end c.put_text.new.out ≡ string_octet leaf ∷ (shortest_length (length text) ++ text) =
    put.put ∙ ap₂ (λ n m. n ∷ (shortest_length m ++ text)) octet (sym long) in
    subst (λ x. HasAll p e k x (between from end c.put_text.new.out)) (sym read) (subst (HasAll p e k (string_octet leaf ∷ (os ++ text))) (sym written) all)

use Rattle.std.proofs.Common.{◌≡◌, ◌∙◌, ◌∷◌, ◌++◌, length, refl, sym, ap, arith}
use Rattle.ber_tree.proofs.Octets.{octets_fit}
use Rattle.ber_tree.specs.Length.{shortest_length}
use Rattle.ill_tables.specs.declared.profile.Profile.TheVariants.{Two}
use Rattle.ill_read.proofs.UsualLeaves.{default_put, leaf_put, number_other, number_right, one_long, other_written}
use Rattle.ill_read.proofs.UsualTexts.{right_in}
use Rattle.ill_read.proofs.UsualWrites.{puts_as}
use Rattle.ill_read.proofs.usual.leaf.put_number.Goals as goal

pub is_default-requires : goal.is_default-requires
is_default-requires c =
    let one : length c.args.content.now ≡ 1 = omega (arith, c.in-len1.len_at_least, c.in-len1.len_below) in
    (Two, (octets_fit c.args.content.now (λ k. (c.type_inv.content k).fits), number_right c.args.leaf c.args.content.now c.requires.number one))

pub returns-then-is_default-clause-put : goal.returns-then-is_default-clause-put
returns-then-is_default-clause-put c =
    let octets = c.args.content.now in
    let leaf = c.args.leaf in
    let one : length octets ≡ 1 = omega (arith, c.in-len1.len_at_least, c.in-len1.len_below) in
    default_put leaf c.args.header octets c.args.out.now (length octets) c.requires.order
    (λ p. (octets_fit octets (λ k. (c.type_inv.content k).fits), right_in p leaf octets (number_right leaf octets c.requires.number one))) (sym c.is_default.ensures ∙ c.if-is_default.true)

pub returns-clause-put : goal.returns-clause-put
returns-clause-put c =
    let octets = c.args.content.now in
    let leaf = c.args.leaf in
    let one : length octets ≡ 1 = omega (arith, c.in-len1.len_at_least, c.in-len1.len_below) in
    let ok = octets_fit octets (λ k. (c.type_inv.content k).fits) in
    let right = number_right leaf octets c.requires.number one in
    let is = ap (λ xs. 1 ∷ xs) (sym (one_long octets one)) ∙ ap (λ n. shortest_length n ++ octets) (sym one) ∙ other_written leaf octets (number_other leaf c.requires.number) ok right in
    leaf_put leaf c.args.header octets c.args.out.now c.put_single.new.out (length octets) c.put_single.result c.requires.order (λ p. (ok, right_in p leaf octets right))
    (sym c.is_default.ensures ∙ c.if-is_default.false) (puts_as _ _ c.args.header.length.written c.put_single.result c.put_single.result _ _ c.put_single.ensures.put refl is)

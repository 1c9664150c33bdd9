use Rattle.std.proofs.Common.{◌≡◌, ◌∙◌, ◌∷◌, ◌++◌, [], length, refl, sym, arith}
use Rattle.ber_leaf.specs.Leaf.{boolean, normal_content, value}
use Rattle.ber_tree.proofs.Octets.{octets_fit}
use Rattle.ber_tree.specs.Length.{shortest_length}
use Rattle.ill_tables.specs.declared.profile.Profile.TheVariants.{Two}
use Rattle.ill_grammar.specs.declared.leaf_type.LeafType.TheVariants.{Boolean}
use Rattle.ill_read.proofs.UsualLeaves.{default_put, flag_right, flag_written, leaf_put}
use Rattle.ill_read.proofs.UsualTexts.{right_in}
use Rattle.ill_read.proofs.UsualWrites.{puts_as}
use Rattle.ill_read.proofs.usual.leaf.put_flag.Goals as goal
use Rattle.ill_read.proofs.usual.leaf.put_flag.Goals.{then-octet-eq0, else-octet-eq0}

pub is_default-requires : goal.is_default-requires
is_default-requires c =
    let one : length c.args.content.now ≡ 1 = omega (arith, c.in-len1.len_at_least, c.in-len1.len_below) in
    (Two, (octets_fit c.args.content.now (λ k. (c.type_inv.content k).fits), flag_right c.args.content.now one))

pub returns-then-is_default-clause-put : goal.returns-then-is_default-clause-put
returns-then-is_default-clause-put c =
    let octets = c.args.content.now in
    let one : length octets ≡ 1 = omega (arith, c.in-len1.len_at_least, c.in-len1.len_below) in
    default_put Boolean c.args.header octets c.args.out.now (length octets) c.requires.order (λ p. (octets_fit octets (λ k. (c.type_inv.content k).fits), right_in p Boolean octets (flag_right octets one)))
    (sym c.is_default.ensures ∙ c.if-is_default.true)

pub returns-clause-put : goal.returns-clause-put
returns-clause-put c =
    let octets = c.args.content.now in
    let one : length octets ≡ 1 = omega (arith, c.in-len1.len_at_least, c.in-len1.len_below) in
    let normal = c.if-octet-eq0.normal in
    let written : 1 ∷ normal ∷ [] ≡ shortest_length (length (normal_content (value boolean octets))) ++ normal_content (value boolean octets) = elim c.if-octet-eq0.branch [
      | then-octet-eq0 w ↦ flag_written octets normal one (λ e. w.normal-is) (λ n. absurd (n w.if-octet-eq0.true))
      | else-octet-eq0 w ↦ flag_written octets normal one (λ e. absurd (w.if-octet-eq0.false e)) (λ n. w.normal-is)
    ] in
    leaf_put Boolean c.args.header octets c.args.out.now c.put_single.new.out (length octets) c.put_single.result c.requires.order
    (λ p. (octets_fit octets (λ k. (c.type_inv.content k).fits), right_in p Boolean octets (flag_right octets one))) (sym c.is_default.ensures ∙ c.if-is_default.false)
    (puts_as _ _ c.args.header.length.written c.put_single.result c.put_single.result _ _ c.put_single.ensures.put refl written)

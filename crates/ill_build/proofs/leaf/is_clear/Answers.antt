use Rattle.std.proofs.Common.{◌≡◌, ◌∙◌, ◌-◌, ◌<◌, Some, ap, arith, length, slice_get, subst, sym}
use Rattle.std.specs.Option.{option_copied}
use Rattle.std.proofs.lemmas.Option.{get_or_from_slice_get}
use Rattle.ill_build.proofs.LeafNumbers.{is_cleared, not_cleared}
use Rattle.ill_build.proofs.leaf.is_clear.Goals as goal

pub returns-in-Some-clause-yes : goal.returns-in-Some-clause-yes
returns-in-Some-clause-yes c =
    let xs = c.args.octets.now in
    let at : slice_get xs (length xs - 1) ≡ Some c.in-Some.octet.now = sym c.last.ensures.value ∙ ap option_copied c.in-Some.is in
    let small : c.in-Some.octet.now < 256 = subst (λ x. x < 256) (get_or_from_slice_get xs _ _ 0 at) (omega (arith, c.type_inv.octets (length xs - 1))) in
    is_cleared c.args.unused c.in-Some.octet.now xs at small

pub returns-in-Some-clause-no : goal.returns-in-Some-clause-no
returns-in-Some-clause-no c =
    let xs = c.args.octets.now in
    let at : slice_get xs (length xs - 1) ≡ Some c.in-Some.octet.now = sym c.last.ensures.value ∙ ap option_copied c.in-Some.is in
    let small : c.in-Some.octet.now < 256 = subst (λ x. x < 256) (get_or_from_slice_get xs _ _ 0 at) (omega (arith, c.type_inv.octets (length xs - 1))) in
    not_cleared c.args.unused c.in-Some.octet.now xs at small

use Rattle.std.proofs.Common.{◌≡◌, ◌∙◌, ◌∷◌, [], Some, ap, sym}
use Rattle.json.specs.Find.{as_bool}
use Rattle.json.specs.Value.{value_view}
use Rattle.ber_leaf.specs.Leaf.{normal_content}
use Rattle.ber_leaf.specs.Simple.{flag}
use Rattle.ill_schema.specs.Profiles.{profile_of}
use Rattle.ill_build.proofs.LeafTexts.{flag_read}
use Rattle.ill_build.proofs.leaf.read_flag.Goals as goal
use Rattle.ill_build.proofs.leaf.read_flag.Goals.{then-is_set, else-is_set}

pub returns-clause-said : goal.returns-clause-said
returns-clause-said c row =
    let b = c.in-Some.is_set in
    let is : as_bool (value_view c.args.value.now) ≡ Some b = sym c.as_bool.ensures ∙ c.in-Some.is in
    let octet : c.if-is_set.octet ∷ [] ≡ normal_content (flag b) =
    elim c.if-is_set.branch [
      | then-is_set w ↦ ap (λ x. x ∷ []) w.octet-is ∙ ap (λ x. normal_content (flag x)) (sym w.if-is_set.true)
      | else-is_set w ↦ ap (λ x. x ∷ []) w.octet-is ∙ ap (λ x. normal_content (flag x)) (sym w.if-is_set.false)
    ] in
    flag_read (profile_of c.args.context.profile) row (value_view c.args.value.now) b c.in_ok-octets.octets.items is (c.in_ok-octets.ensures.items ∙ octet)

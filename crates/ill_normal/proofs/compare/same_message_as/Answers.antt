use Rattle.ill_schema.specs.Profiles.{profile_of}
use Rattle.std.proofs.Common.{◌∙◌}
use Rattle.std.proofs.lemmas.Bool.Decides.{Decides-eqb}
use Rattle.std.proofs.lemmas.Slice.Eq.{slice_eq-Decides}
use Rattle.ill_normal.proofs.Canonical.{compared_forms, normal_refuses}
use Rattle.ill_normal.proofs.compare.same_message_as.Goals as goal
use Rattle.ill_read.proofs.Accepted.{only_memory}

pub returns-in-Err-clause-accepts : goal.returns-in-Err-clause-accepts
returns-in-Err-clause-accepts c = λ a b h k. only_memory _ _ a (normal_refuses (profile_of c.args.profile) _ _ c.in-Err.ensures) h

pub returns-in-Err-decode_normal-clause-accepts : goal.returns-in-Err-decode_normal-clause-accepts
returns-in-Err-decode_normal-clause-accepts c = λ a b h k. only_memory _ _ b (normal_refuses (profile_of c.args.profile) _ _ c.in-Err-decode_normal.ensures) k

pub returns-clause-same : goal.returns-clause-same
returns-clause-same c =
    let one = c.in-Ok.ensures in let other = c.in-Ok-decode_normal.ensures in
    let eq = slice_eq-Decides Decides-eqb c.as_slice.result.now c.as_slice-2.result.now c.eq.result c.eq.ensures in
    let both = compared_forms c.args.profile one.0 other.0 _ _ _ _ _ one.1 other.1 (c.as_slice.ensures.value ∙ one.2) (c.as_slice-2.ensures.value ∙ other.2) eq in
    (one.0, other.0, one.1, other.1, both.0, both.1)

use Rattle.std.proofs.Common.{◌∙◌, ap, subst, sym}
use Rattle.ill_schema.specs.Apdu.{normal_form_in}
use Rattle.ill_schema.specs.Profiles.{profile_of}
use Rattle.ill_refusals.specs.Fault.{fault_of}
use Rattle.ill_refusals.proofs.Refusals.{same_refusal}
use Rattle.ill_read.proofs.Accepted.{refuses_whole}
use Rattle.ill_read.specs.Answers.{NormalAnswersIn}
use Rattle.ill_normal.proofs.Canonical.{refuses_once, spells_once}
use Rattle.test_messages.proofs.read.contracts.slices_have_one_normal_form_in_each_profile.Goals as goal

pub returns-clause-form : goal.returns-clause-form
returns-clause-form c a n spells q =
    let p = profile_of c.args.profile in
    let s = c.args.octets.now in
    let normal = subst (NormalAnswersIn p s) q c.decode_normal.ensures in
    normal.2 ∙ ap (normal_form_in p) (spells_once normal.0 a s normal.1 spells)

pub returns-clause-same : goal.returns-clause-same
returns-clause-same c m n q r =
    let p = profile_of c.args.profile in
    let s = c.args.octets.now in
    let one = subst (NormalAnswersIn p s) q c.decode_normal.ensures in
    let other = subst (NormalAnswersIn p s) r c.decode_normal-2.ensures in
    one.2 ∙ ap (normal_form_in p) (spells_once one.0 other.0 s one.1 other.1) ∙ sym other.2

pub returns-clause-read : goal.returns-clause-read
returns-clause-read c n q = (subst (NormalAnswersIn (profile_of c.args.profile) c.args.octets.now) q c.decode_normal.ensures).3

pub returns-clause-accepted : goal.returns-clause-accepted
returns-clause-accepted c a x spells q =
    let p = profile_of c.args.profile in
    let s = c.args.octets.now in
    refuses_whole s (fault_of x) a (subst (NormalAnswersIn p s) q c.decode_normal.ensures) spells

pub returns-clause-refusal : goal.returns-clause-refusal
returns-clause-refusal c x y q r =
    let p = profile_of c.args.profile in
    let s = c.args.octets.now in
    same_refusal x y (refuses_once s (fault_of x) (fault_of y) (subst (NormalAnswersIn p s) q c.decode_normal.ensures) (subst (NormalAnswersIn p s) r c.decode_normal-2.ensures))

pub returns-clause-apart : goal.returns-clause-apart
returns-clause-apart c n x q r =
    let p = profile_of c.args.profile in
    let s = c.args.octets.now in
    let normal = subst (NormalAnswersIn p s) q c.decode_normal.ensures in
    refuses_whole s (fault_of x) normal.0 (subst (NormalAnswersIn p s) r c.decode_normal-2.ensures) normal.1

use Rattle.std.proofs.Common.{◌≡◌, ◌<◌, ◌≤◌, [], Err, length, refl, sym, subst, inl, inr, arith, rules, codes}
use Rattle.std.proofs.lemmas.Option.{slice_get_within}
use Rattle.json.specs.Find.{as_str, get}
use Rattle.json.specs.Value.{members_view, value_view}
use Rattle.ill_schema.specs.Apdu.{root}
use Rattle.ill_schema.specs.Profiles.{profile_of}
use Rattle.ill_tables.specs.Table.{rows_of}
use Rattle.ill_tables.specs.declared.part.Presence.{Presence}
use Rattle.ill_build.specs.declared.cause.BuildCause.{BuildCause}
use Rattle.ill_build.specs.Faulty.{IsFaultOf, IsFaulty, IsMemberFault}
use Rattle.ill_build.specs.Line.{IsApduFault, IsLineFault, line_names}
use Rattle.ill_build.specs.Members.{of_names}
use Rattle.ill_build.specs.Path.{OnRefusal, named}
use Rattle.ill_build.specs.code.Built.{BuiltRow}
use Rattle.ill_build.proofs.Choices.{is_object_of}
use Rattle.ill_build.proofs.Lines.{line_built, same_names}
use Rattle.ill_build.proofs.Refusals.{at_name, found_fault, here, missing, one_step, weaker_stop}
use Rattle.ill_build.proofs.line.put_line.Goals as goal

pub returns-in_err-i-clause-refused : goal.returns-in_err-i-clause-refused
returns-in_err-i-clause-refused c =
    let p = profile_of c.args.context.profile in
    let j = value_view c.args.value.now in
    let ms = members_view c.in-Some.members.now in
    let stop = c.in_err-i.field-0.0 in
    let is : c.from_residual-in_err-i.result ≡ Err stop = grind arith in
    subst (λ r. OnRefusal r (IsLineFault p j)) (sym is)
    (weaker_stop stop (IsMemberFault (codes "apdu") (λ k. IsFaultOf (as_str k) (IsApduFault p)) j) (IsLineFault p j)
    (λ cause path f. inr (ms, sym c.in-Some.ensures, inr (sym c.in_default-first_fault.ensures, inr (c.in_ok-check_profile.ensures.said, inl f)))) c.in_err-i.ensures.refused)

pub returns-in_default-get-clause-refused : goal.returns-in_default-get-clause-refused
returns-in_default-get-clause-refused c =
    let p = profile_of c.args.context.profile in
    let j = value_view c.args.value.now in
    let ms = members_view c.in-Some.members.now in
    let n = c.in_ok-i.ensures.said in
    at_name _ BuildCause.MissingMember (codes "value") (IsLineFault p j) c.refused_at-in_default-get.ensures
    (inr (
      ms,
      sym c.in-Some.ensures,
      inr (
        sym c.in_default-first_fault.ensures,
        inr (
          c.in_ok-check_profile.ensures.said,
          inr (
            c.in_ok-i.i,
            n.0,
            n.1,
            inl ([], refl, missing Presence.Must (λ k. IsFaulty p [] n.0.node k BuildCause.MissingMember []) (get (codes "value") j) refl (sym c.in_default-get.ensures)),
          ),
        ),
      ),
    ))

pub row_at-row-requires : goal.row_at-row-requires
row_at-row-requires c =
    let p = profile_of c.args.context.profile in
    let n = c.in_ok-i.ensures.said in
    subst (λ node. c.in_ok-i.i < length (rows_of node)) (sym c.root_as.ensures) (slice_get_within (rows_of (root p)) c.in_ok-i.i n.0 n.1.at)

pub returns-in-Err-clause-refused : goal.returns-in-Err-clause-refused
returns-in-Err-clause-refused c =
    let p = profile_of c.args.context.profile in
    let j = value_view c.args.value.now in
    let ms = members_view c.in-Some.members.now in
    let v = value_view c.in-Some-get.body.now in
    let n = c.in_ok-i.ensures.said in
    let r = c.row_at-row.result in
    let names = same_names p j c.in_ok-i.i n.0 r c.root_as.result n.1 c.root_as.ensures c.row_at-row.ensures in
    one_step c.in-Err.stop c.within.result (named (codes "value")) (IsFaulty p [] r.node v) (IsLineFault p j) c.within.ensures c.in-Err.ensures.refused
    (λ cause rest f. inr (
      ms,
      sym c.in-Some.ensures,
      inr (
        sym c.in_default-first_fault.ensures,
        inr (
          c.in_ok-check_profile.ensures.said,
          inr (
            c.in_ok-i.i,
            r,
            names,
            inl (rest, refl, found_fault Presence.Must (λ k. IsFaulty p [] r.node k cause rest) (get (codes "value") j) v cause rest (sym c.in-Some-get.ensures) f),
          ),
        ),
      ),
    ))

pub returns-then-len-clause-refused : goal.returns-then-len-clause-refused
returns-then-len-clause-refused c =
    let p = profile_of c.args.context.profile in
    let j = value_view c.args.value.now in
    let ms = members_view c.in-Some.members.now in
    let v = value_view c.in-Some-get.body.now in
    let n = c.in_ok-i.ensures.said in
    let r = c.row_at-row.result in
    let names = same_names p j c.in_ok-i.i n.0 r c.root_as.result n.1 c.root_as.ensures c.row_at-row.ensures in
    let octets = c.put_row.new.out in
    let built : BuiltRow p [] r v [] octets = subst (λ old. BuiltRow p [] r v old octets) c.new-out.ensures c.in-Ok.ensures.said in
    let m = line_built p j v c.in_ok-i.i r octets (is_object_of (of_names line_names) j ms (sym c.in-Some.ensures) (sym c.in_default-first_fault.ensures)) c.in_ok-check_profile.ensures.said names (sym c.in-Some-get.ensures) built in
    let over : 1_048_576 < length octets = search rules in
    here _ BuildCause.NormalTooLong (IsLineFault p j) c.refused-then-len.ensures
    (inr (
      ms,
      sym c.in-Some.ensures,
      inr (
        sym c.in_default-first_fault.ensures,
        inr (
          c.in_ok-check_profile.ensures.said,
          inr (
            c.in_ok-i.i,
            r,
            names,
            inr (m.0, m.1, m.2, subst (λ o. p.limit < length o) m.3 over, refl, refl),
          ),
        ),
      ),
    ))

pub returns-clause-said : goal.returns-clause-said
returns-clause-said c =
    let p = profile_of c.args.context.profile in
    let j = value_view c.args.value.now in
    let ms = members_view c.in-Some.members.now in
    let v = value_view c.in-Some-get.body.now in
    let n = c.in_ok-i.ensures.said in
    let r = c.row_at-row.result in
    let names = same_names p j c.in_ok-i.i n.0 r c.root_as.result n.1 c.root_as.ensures c.row_at-row.ensures in
    let octets = c.into_octets.result.items in
    let same : c.put_row.new.out ≡ octets = search rules in
    let built : BuiltRow p [] r v [] octets = subst (λ new. BuiltRow p [] r v [] new) same (subst (λ old. BuiltRow p [] r v old c.put_row.new.out) c.new-out.ensures c.in-Ok.ensures.said) in
    let m = line_built p j v c.in_ok-i.i r octets (is_object_of (of_names line_names) j ms (sym c.in-Some.ensures) (sym c.in_default-first_fault.ensures)) c.in_ok-check_profile.ensures.said names (sym c.in-Some-get.ensures) built in
    let short : length octets ≤ 1_048_576 = search rules in
    (m.0, m.1, m.2, short, m.3)

use Rattle.std.proofs.Common.{◌≡◌, ◌∙◌, codes, sym}
use Rattle.std.proofs.lemmas.Slice.Eq.{bytes_eq-Decides}
use Rattle.json.specs.Json.{member, no_members, object}
use Rattle.json.specs.Value.{value_view}
use Rattle.ill_schema.specs.Profiles.{profile_of}
use Rattle.ill_build.proofs.LeafTexts.{general_read, general_refused, on_error, other_alternative, visible_read, visible_refused}
use Rattle.ill_build.proofs.leaf.read_string.Goals as goal
use Rattle.ill_build.proofs.leaf.read_string.Goals.{then-eq, else-eq}

pub returns-in-Ok-clause-said : goal.returns-in-Ok-clause-said
returns-in-Ok-clause-said c row =
    let p = profile_of c.args.context.profile in
    let j = value_view c.args.value.now in
    let name = c.in-Some.member.now.0.now in
    let inner = value_view c.in-Some.member.now.1 in
    let is : j ≡ object (member name inner no_members) = c.in-Some.ensures.some in
    elim c.if-eq.branch [
      | then-eq w ↦
          general_read p row j inner name w.read_general-read.result c.in-Ok.contents is ((bytes_eq-Decides name (codes "general")).0 (sym c.eq.ensures ∙ w.if-eq.true)) (sym w.read-is ∙ c.in-Ok.is) w.read_general-read.ensures.said
      | else-eq w ↦
          visible_read p row j inner name w.read_text-read.result c.in-Ok.contents is (other_alternative j name inner c.in_ok-check_members.ensures.said is (sym c.eq.ensures ∙ w.if-eq.false)) (sym w.read-is ∙ c.in-Ok.is)
          w.read_text-read.ensures.said
    ]

pub returns-in-Err-clause-refused : goal.returns-in-Err-clause-refused
returns-in-Err-clause-refused c =
    let p = profile_of c.args.context.profile in
    let j = value_view c.args.value.now in
    let name = c.in-Some.member.now.0.now in
    let inner = value_view c.in-Some.member.now.1 in
    let is : j ≡ object (member name inner no_members) = c.in-Some.ensures.some in
    let named = c.in_ok-check_members.ensures.said in
    elim c.if-eq.branch [
      | then-eq w ↦
          general_refused p c.in-Err.stop c.within.result j inner name named is ((bytes_eq-Decides name (codes "general")).0 (sym c.eq.ensures ∙ w.if-eq.true)) c.within.ensures
          (on_error w.read_general-read.result c.in-Err.stop _ (sym w.read-is ∙ c.in-Err.is) w.read_general-read.ensures.refused)
      | else-eq w ↦
          visible_refused p c.in-Err.stop c.within.result j inner name named is (other_alternative j name inner named is (sym c.eq.ensures ∙ w.if-eq.false)) c.within.ensures
          (on_error w.read_text-read.result c.in-Err.stop _ (sym w.read-is ∙ c.in-Err.is) w.read_text-read.ensures.refused)
    ]

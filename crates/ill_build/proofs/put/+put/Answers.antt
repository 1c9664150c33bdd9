use Rattle.std.proofs.Common.{◌≡◌, ◌∷◌, ◌++◌, ◌+◌, ◌<◌, ◌∙◌, [], length, drop, Some, None, Err, refl, sym, ap, subst, inl, inr, arith, rules, append-nil, slice_get, suc}
use Rattle.std.proofs.lemmas.Option.{slice_get_read, slice_get_within}
use Rattle.std.proofs.lemmas.Result.{on_ok_weaker}
use Rattle.json.specs.Find.{get}
use Rattle.json.specs.Json.{member, no_members, object}
use Rattle.json.specs.Value.{items_view, members_view, value_view}
use Rattle.ber_core.specs.Der.{encoding, encodings}
use Rattle.ber_tree.specs.Tree.{constructed}
use Rattle.ill_schema.specs.Content.{list, sequence}
use Rattle.ill_schema.specs.Elements.{element_tree, tag_at}
use Rattle.ill_schema.specs.Normal.{normal_items, normal_trees}
use Rattle.ill_schema.specs.Presence.{MayLack}
use Rattle.ill_schema.specs.Profiles.{profile_of}
use Rattle.ill_schema.proofs.Trees.{wrapped}
use Rattle.ill_tables.specs.Names.{row_name}
use Rattle.ill_tables.specs.Table.{kind_of, rows_of}
use Rattle.ill_tables.specs.declared.node.Kind.{Kind}
use Rattle.ill_build.specs.declared.cause.BuildCause.{BuildCause}
use Rattle.ill_build.specs.Faulty.{IsFaulty}
use Rattle.ill_build.specs.Members.{of_type}
use Rattle.ill_build.specs.Path.{OnRefusal, indexed, named}
use Rattle.ill_build.specs.code.Built.{BuiltEntries, BuiltItems, BuiltPresent, BuiltRow, HasTag}
use Rattle.ill_build.specs.code.Refused.{AreItemsRefused, AreRowsRefused, IsChoiceRefused, IsListRefused, IsRowRefused, IsSequenceRefused}
use Rattle.ill_build.proofs.Choices.{array_is, bare_tree, choice_built, is_object_of, not_one, object_is, replacement_identified, row_below, sequence_identified, tagged_built, tagged_node, wrapper_identified}
use Rattle.ill_build.proofs.FirstFault.{chosen, found_carried}
use Rattle.ill_build.proofs.Refusals.{at_step, choice_faulty, found_fault, here, item_refused, later_item_refused, later_row_refused, list_faulty, missing, one_step, row_refused, sequence_faulty, tagged_faulty, weaker, weaker_stop}
use Rattle.ill_build.proofs.Rows.{closed, default_built, given, item_built, lacking, lacking_default, list_row, list_tag_of, no_item_built, no_row_built, other_built, row_built, sequence_tag_of}
use Rattle.ill_build.proofs.put.+put.Goals as goal

-- ---- choices

pub put_choice-returns-in_default-only_member-clause-refused : goal.put_choice-returns-in_default-only_member-clause-refused
put_choice-returns-in_default-only_member-clause-refused t c =
    let p = profile_of c.args.context.profile in
    let j = value_view c.args.value.now in
    let ms = members_view c.in-Some.members.now in
    here _ BuildCause.NotOneMember (IsChoiceRefused p c.args.node j) c.refused-in_default-only_member.ensures
    (inr (ms, sym c.in-Some.ensures, inr (sym c.in_default-first_fault.ensures, inl (not_one j ms (sym c.in-Some.ensures) c.in_default-only_member.ensures.none, refl, refl))))

pub put_choice-row_at-row-requires : goal.put_choice-row_at-row-requires
put_choice-row_at-row-requires t c =
    let m = c.in-Some-only_member.member.now in
    let k = chosen c.args.node (members_view c.in-Some.members.now) m.0.now (value_view m.1) (sym c.in_default-first_fault.ensures) c.in-Some-only_member.ensures.some in
    let same : Some c.in-Some-place_of.i ≡ Some k.0 = c.in-Some-place_of.ensures ∙ k.2 in
    let i : c.in-Some-place_of.i ≡ k.0 = cc in
    slice_get_within (rows_of c.args.node) c.in-Some-place_of.i k.1 (ap (slice_get (rows_of c.args.node)) i ∙ k.3)

pub put_choice-put_row-requires : goal.put_choice-put_row-requires
put_choice-put_row-requires t c =
    let below = row_below c.args.node c.in-Some-place_of.i c.row_at-row.result c.row_at-row.ensures in
    (search rules, (c.args.node, c.in-Some-place_of.i, c.row_at-row.ensures))

pub put_choice-returns-in-Ok-clause-said : goal.put_choice-returns-in-Ok-clause-said
put_choice-returns-in-Ok-clause-said t c name replaced =
    let p = profile_of c.args.context.profile in
    let j = value_view c.args.value.now in
    let ms = members_view c.in-Some.members.now in
    let m = c.in-Some-only_member.member.now in
    let k = chosen c.args.node ms m.0.now (value_view m.1) (sym c.in_default-first_fault.ensures) c.in-Some-only_member.ensures.some in
    let same : Some c.in-Some-place_of.i ≡ Some k.0 = c.in-Some-place_of.ensures ∙ k.2 in
    let i : k.0 ≡ c.in-Some-place_of.i = cc in
    let is : row_name c.args.node c.in-Some-place_of.i ≡ m.0.now = ap (row_name c.args.node) (sym i) ∙ k.5 in
    let at : slice_get (rows_of c.args.node) c.in-Some-place_of.i ≡ Some k.1 = ap (slice_get (rows_of c.args.node)) (sym i) ∙ k.3 in
    let row : Some k.1 ≡ Some c.row_at-row.result = sym at ∙ c.row_at-row.ensures in
    let same_row : c.row_at-row.result ≡ k.1 = cc in
    choice_built p name c.args.node replaced c.in-Some-place_of.i k.1 j (value_view m.1) c.args.out.now c.put_row.new.out c.requires.named c.requires.choice at k.4
    (object_is j ms (sym c.in-Some.ensures) ∙ ap object c.in-Some-only_member.ensures.some ∙ ap (λ n. object (member n (value_view m.1) no_members)) (sym is))
    (subst (λ r. BuiltRow p (row_name c.args.node c.in-Some-place_of.i) r (value_view m.1) c.args.out.now c.put_row.new.out) same_row
    (subst (λ n. BuiltRow p n c.row_at-row.result (value_view m.1) c.args.out.now c.put_row.new.out) (sym is) c.in-Ok.ensures.said))

pub put_choice-returns-in-Err-clause-refused : goal.put_choice-returns-in-Err-clause-refused
put_choice-returns-in-Err-clause-refused t c =
    let p = profile_of c.args.context.profile in
    let j = value_view c.args.value.now in
    let ms = members_view c.in-Some.members.now in
    let m = c.in-Some-only_member.member.now in
    let k = chosen c.args.node ms m.0.now (value_view m.1) (sym c.in_default-first_fault.ensures) c.in-Some-only_member.ensures.some in
    let same : Some c.in-Some-place_of.i ≡ Some k.0 = c.in-Some-place_of.ensures ∙ k.2 in
    let i : k.0 ≡ c.in-Some-place_of.i = cc in
    let is : row_name c.args.node c.in-Some-place_of.i ≡ m.0.now = ap (row_name c.args.node) (sym i) ∙ k.5 in
    let object_of : j ≡ object (member (row_name c.args.node c.in-Some-place_of.i) (value_view m.1) no_members) =
    object_is j ms (sym c.in-Some.ensures) ∙ ap object c.in-Some-only_member.ensures.some ∙ ap (λ n. object (member n (value_view m.1) no_members)) (sym is) in
    one_step c.in-Err.stop c.within-in-Err.result (named m.0.now) (IsFaulty p m.0.now c.row_at-row.result.node (value_view m.1)) (IsChoiceRefused p c.args.node j) c.within-in-Err.ensures c.in-Err.ensures.refused
    (λ cause rest f. inr (
      ms,
      sym c.in-Some.ensures,
      inr (
        sym c.in_default-first_fault.ensures,
        inr (
          named m.0.now,
          rest,
          refl,
          (c.in-Some-place_of.i, c.row_at-row.result, value_view m.1, c.row_at-row.ensures, object_of, ap named (sym is), subst (λ n. IsFaulty p n c.row_at-row.result.node (value_view m.1) cause rest) (sym is) f),
        ),
      ),
    ))

-- ---- rows

pub put_entry-put_present-requires : goal.put_entry-put_present-requires
put_entry-put_present-requires t c =
    let below = row_below c.args.node c.args.i c.row_at-row.result c.row_at-row.ensures in
    (search rules, (c.args.node, c.args.i, c.row_at-row.ensures))

pub put_entry-returns-in-Must-clause-refused : goal.put_entry-returns-in-Must-clause-refused
put_entry-returns-in-Must-clause-refused t c =
    let p = profile_of c.args.context.profile in
    let j = value_view c.args.value.now in
    let r = c.row_at-row.result in
    let none : get (row_name c.args.node c.args.i) j ≡ None = grind arith in
    at_step _ _ BuildCause.MissingMember (named c.row_name-name.result.now) (IsRowRefused p c.args.node c.args.i j) c.refused.ensures c.within.ensures
    (r, [], c.row_at-row.ensures, ap (λ n. named n ∷ []) c.row_name-name.ensures, missing r.presence (λ k. IsFaulty p (row_name c.args.node c.args.i) r.node k BuildCause.MissingMember []) _ c.in-Must.is none)

pub put_entry-returns-in-May-clause-said : goal.put_entry-returns-in-May-clause-said
put_entry-returns-in-May-clause-said t c =
    let r = c.row_at-row.result in
    let none : get (row_name c.args.node c.args.i) (value_view c.args.value.now) ≡ None = grind arith in
    let may : MayLack r.presence = elim c.in-May.is [ inl e ↦ subst MayLack (sym e) tt | inr e ↦ subst MayLack (sym e) tt ] in
    (r, c.row_at-row.ensures, lacking (profile_of c.args.context.profile) c.args.node c.args.i r (value_view c.args.value.now) c.args.out.now may none)

pub put_entry-returns-in-Default-clause-said : goal.put_entry-returns-in-Default-clause-said
put_entry-returns-in-Default-clause-said t c =
    let r = c.row_at-row.result in
    let none : get (row_name c.args.node c.args.i) (value_view c.args.value.now) ≡ None = grind arith in
    (r, c.row_at-row.ensures, lacking_default (profile_of c.args.context.profile) c.args.node c.args.i r c.in-Default.field-0 (value_view c.args.value.now) c.args.out.now c.row_at-row.ensures c.in-Default.is none)

pub put_entry-returns-in-Ok-clause-said : goal.put_entry-returns-in-Ok-clause-said
put_entry-returns-in-Ok-clause-said t c =
    let p = profile_of c.args.context.profile in
    let j = value_view c.args.value.now in
    let r = c.row_at-row.result in
    let v = value_view c.in-Some.member.now in
    let some : get (row_name c.args.node c.args.i) j ≡ Some v = grind arith in (
      r,
      c.row_at-row.ensures,
      given p c.args.node c.args.i r j v c.args.out.now c.put_present.new.out (found_carried c.args.node c.args.i r j v c.row_at-row.ensures c.requires.named some) some
          (subst (λ n. BuiltPresent p n r v c.args.out.now c.put_present.new.out) c.row_name-name.ensures c.in-Ok.ensures.said),
    )

pub put_entry-returns-in-Err-clause-refused : goal.put_entry-returns-in-Err-clause-refused
put_entry-returns-in-Err-clause-refused t c =
    let p = profile_of c.args.context.profile in
    let j = value_view c.args.value.now in
    let r = c.row_at-row.result in
    let v = value_view c.in-Some.member.now in
    let n = c.row_name-name.result.now in
    let some : get (row_name c.args.node c.args.i) j ≡ Some v = grind arith in
    one_step c.in-Err.stop c.within-in-Err.result (named n) (IsFaulty p n r.node v) (IsRowRefused p c.args.node c.args.i j) c.within-in-Err.ensures c.in-Err.ensures.refused
    (λ cause rest f. (
      r,
      rest,
      c.row_at-row.ensures,
      ap (λ x. named x ∷ rest) c.row_name-name.ensures,
      found_fault r.presence (λ k. IsFaulty p (row_name c.args.node c.args.i) r.node k cause rest) _ v cause rest some (subst (λ x. IsFaulty p x r.node v cause rest) c.row_name-name.ensures f),
    ))

pub put_rows-loop-i-init : goal.put_rows-loop-i-init
put_rows-loop-i-init t c = record { built = λ new b. b; refused = λ cause path r. r }

pub put_rows-put_entry-requires : goal.put_rows-put_entry-requires
put_rows-put_entry-requires t c =
    let within : c.loop-i.i < length (rows_of c.args.node) = subst (λ rs. c.loop-i.i < length rs) c.rows_of-i-end.ensures.rows (search rules) in
    (search rules, (within, c.requires.named))

pub put_rows-loop-i-preserved : goal.put_rows-loop-i-preserved
put_rows-loop-i-preserved t c =
    let p = profile_of c.args.context.profile in
    let j = value_view c.args.value.now in
    let s : c.loop-i.i + 1 ≡ suc c.loop-i.i = omega arith in
    let m = c.in_ok-put_entry.ensures.said in
    record {
      built = λ new b. c.loop-i.invariant.built new (row_built p c.args.node c.loop-i.i m.0 j _ _ new m.1 m.2 (subst (λ n. BuiltEntries p c.args.node n (drop n (rows_of c.args.node)) j c.put_entry.new.out new) s b));
      refused = λ cause path r. c.loop-i.invariant.refused cause path
          (later_row_refused p c.args.node c.loop-i.i m.0 j _ _ cause path m.1 m.2 (subst (λ n. AreRowsRefused p c.args.node n (drop n (rows_of c.args.node)) j cause path) s r));
    }

pub put_rows-returns-in_err-put_entry-clause-refused : goal.put_rows-returns-in_err-put_entry-clause-refused
put_rows-returns-in_err-put_entry-clause-refused t c =
    let p = profile_of c.args.context.profile in
    let j = value_view c.args.value.now in
    let stop = c.in_err-put_entry.field-0.0 in
    let is : c.from_residual.result ≡ Err stop = grind arith in
    subst (λ r. OnRefusal r (AreRowsRefused p c.args.node 0 (rows_of c.args.node) j)) (sym is)
    (weaker_stop stop (IsRowRefused p c.args.node c.loop-i.i j) (AreRowsRefused p c.args.node 0 (rows_of c.args.node) j)
    (λ cause path r. c.loop-i.invariant.refused cause path (row_refused p c.args.node c.loop-i.i j cause path r)) c.in_err-put_entry.ensures.refused)

pub put_rows-returns-clause-said : goal.put_rows-returns-clause-said
put_rows-returns-clause-said t c =
    c.loop-i.invariant.built _ (no_row_built (profile_of c.args.context.profile) c.args.node c.loop-i.i (value_view c.args.value.now) _ (grind arith))

pub put_present-returns-then-says_default-clause-said : goal.put_present-returns-then-says_default-clause-said
put_present-returns-then-says_default-clause-said t c =
    let d = c.says_default.ensures.yes (grind arith) in
    let r = c.requires.1.1 in
    default_built (profile_of c.args.context.profile) c.args.name.now c.args.row r.0 r.1 (value_view c.args.value.now) _ d.0 r.2 d.1 d.2

pub put_present-put_row-requires : goal.put_present-put_row-requires
put_present-put_row-requires t c = (search rules, c.requires.1.1)

pub put_present-returns-clause-said : goal.put_present-returns-clause-said
put_present-returns-clause-said t c =
    on_ok_weaker c.put_row.result (λ b. other_built (profile_of c.args.context.profile) c.args.name.now c.args.row (value_view c.args.value.now) _ _ (c.says_default.ensures.no (grind arith)) b) c.put_row.ensures.said

pub put_row-open-requires : goal.put_row-open-requires
put_row-open-requires t c =
    let r = c.requires.1.1 in
    wrapper_identified r.0 r.1 c.args.row c.in-Some.tag r.2 (sym c.wrapper.ensures ∙ c.in-Some.is)

pub put_row-put_value-requires : goal.put_row-put_value-requires
put_row-put_value-requires t c = (search rules, tt)

pub put_row-put_value-requires-in-None : goal.put_row-put_value-requires-in-None
put_row-put_value-requires-in-None t c =
    let r = c.requires.1.1 in
    (search rules, subst HasTag (sym c.replacement.ensures) (replacement_identified r.0 r.1 c.args.row r.2))

pub put_row-returns-in_ok-close-in-Some-clause-said : goal.put_row-returns-in_ok-close-in-Some-clause-said
put_row-returns-in_ok-close-in-Some-clause-said t c =
    let m = c.in_ok-put_value-in-Some.ensures.said in
    let U = element_tree None c.args.row.node m.0 in (
      m.0,
      m.1,
      m.2,
      closed c.args.out.now c.open.new.out c.put_value.new.out c.close.new.self (encoding U ++ []) _ (tag_at c.in-Some.tag) c.in_ok-contents_start-in-Some.ensures.octets c.in_ok-contents_start-in-Some.ensures.contents_start
          (m.3 ∙ ap (λ x. c.open.new.out ++ x) (sym (append-nil (encoding U)))) c.in_ok-close-in-Some.ensures.element
          ∙ ap (λ T. c.args.out.now ++ encoding T) (sym (wrapped c.args.row m.0 c.in-Some.tag (sym c.wrapper.ensures ∙ c.in-Some.is))),
    )

-- ---- sequences

pub put_sequence-put_rows-requires : goal.put_sequence-put_rows-requires
put_sequence-put_rows-requires t c =
    (search rules, is_object_of (of_type c.args.node) (value_view c.args.value.now) (members_view c.in-Some.members.now) (sym c.in-Some.ensures) (sym c.in_default-first_fault.ensures))

pub put_sequence-returns-clause-said : goal.put_sequence-returns-clause-said
put_sequence-returns-clause-said t c =
    let m = c.in_ok-put_rows.ensures.said in (
      is_object_of (of_type c.args.node) (value_view c.args.value.now) (members_view c.in-Some.members.now) (sym c.in-Some.ensures) (sym c.in_default-first_fault.ensures),
      (
        m.0,
        m.1,
        m.2,
        closed c.args.out.now c.open.new.out c.put_rows.new.out c.close.new.self (encodings (normal_trees m.0 (rows_of c.args.node))) _ (tag_at c.args.tag) c.in_ok-contents_start.ensures.octets c.in_ok-contents_start.ensures.contents_start
            m.3 c.in_ok-close.ensures.element,
      ),
    )

-- ---- lists

pub put_items-row_at-row-requires : goal.put_items-row_at-row-requires
put_items-row_at-row-requires t c = let some = list_row c.args.node c.requires.1.1 in omega (arith, some)

pub put_items-loop-i-init : goal.put_items-loop-i-init
put_items-loop-i-init t c = record { built = λ new b. b; refused = λ cause path r. r }

pub put_items-put_row-requires : goal.put_items-put_row-requires
put_items-put_row-requires t c =
    let below = row_below c.args.node 0 c.row_at-row.result c.row_at-row.ensures in
    (search rules, (c.args.node, 0, c.row_at-row.ensures))

pub put_items-loop-i-preserved : goal.put_items-loop-i-preserved
put_items-loop-i-preserved t c =
    let p = profile_of c.args.context.profile in
    let vs = c.args.items.now in
    let v = c.index-items-i.result in
    let at : slice_get vs c.loop-i.i ≡ Some v = slice_get_read vs (length vs) c.loop-i.i v refl (grind arith) (grind arith) in
    let s : c.loop-i.i + 1 ≡ suc c.loop-i.i = omega arith in
    let m = c.in-Ok.ensures.said in
    record {
      built = λ new b. c.loop-i.invariant.built new (item_built p c.args.name.now c.args.node c.row_at-row.result vs c.loop-i.i v _ _ new c.row_at-row.ensures at m
          (subst (λ n. BuiltItems p c.args.name.now c.args.node (items_view (drop n vs)) c.put_row.new.out new) s b));
      refused = λ cause path r. c.loop-i.invariant.refused cause path
          (later_item_refused p c.args.name.now c.args.node c.row_at-row.result vs c.loop-i.i v _ _ cause path c.row_at-row.ensures at m (subst (λ n. AreItemsRefused p c.args.name.now c.args.node n (items_view (drop n vs)) cause path) s r));
    }

pub put_items-returns-in-Err-clause-refused : goal.put_items-returns-in-Err-clause-refused
put_items-returns-in-Err-clause-refused t c =
    let p = profile_of c.args.context.profile in
    let vs = c.args.items.now in
    let v = c.index-items-i.result in
    let at : slice_get vs c.loop-i.i ≡ Some v = slice_get_read vs (length vs) c.loop-i.i v refl (grind arith) (grind arith) in
    one_step c.in-Err.stop c.within.result (indexed c.loop-i.i) (IsFaulty p c.args.name.now c.row_at-row.result.node (value_view v)) (AreItemsRefused p c.args.name.now c.args.node 0 (items_view vs)) c.within.ensures c.in-Err.ensures.refused
    (λ cause rest f. c.loop-i.invariant.refused cause (indexed c.loop-i.i ∷ rest) (item_refused p c.args.name.now c.args.node c.row_at-row.result vs c.loop-i.i v cause rest c.row_at-row.ensures at f))

pub put_items-returns-clause-said : goal.put_items-returns-clause-said
put_items-returns-clause-said t c =
    c.loop-i.invariant.built _ (no_item_built (profile_of c.args.context.profile) c.args.name.now c.args.node c.args.items.now c.loop-i.i _ (grind arith))

pub put_list-put_items-requires : goal.put_list-put_items-requires
put_list-put_items-requires t c = (search rules, c.requires.1.1.0)

pub put_list-returns-clause-said : goal.put_list-returns-clause-said
put_list-returns-clause-said t c =
    let m = c.in_ok-put_items.ensures.said in (
      items_view c.in-Some.items.now,
      array_is (value_view c.args.value.now) (items_view c.in-Some.items.now) (sym c.in-Some.ensures),
      (
        m.0,
        m.1,
        m.2,
        closed c.args.out.now c.open.new.out c.put_items.new.out c.close.new.self (encodings (normal_items m.0 (rows_of c.args.node))) _ (tag_at c.args.tag) c.in_ok-contents_start.ensures.octets c.in_ok-contents_start.ensures.contents_start
            m.3 c.in_ok-close.ensures.element,
      ),
    )

-- ---- values

pub put_value-put_sequence-requires : goal.put_value-put_sequence-requires
put_value-put_sequence-requires t c = (search rules, sequence_identified c.args.replaced c.unwrap_or.result c.requires.1.1 c.unwrap_or.ensures)

pub put_value-put_list-requires : goal.put_value-put_list-requires
put_value-put_list-requires t c = (search rules, (sym c.kind.ensures ∙ c.in-SeqOf.is, sequence_identified c.args.replaced c.unwrap_or-in-SeqOf.result c.requires.1.1 c.unwrap_or-in-SeqOf.ensures))

pub put_value-put_row-requires : goal.put_value-put_row-requires
put_value-put_row-requires t c =
    let below = row_below c.args.node 0 c.row_at.result c.row_at.ensures in
    (search rules, (c.args.node, 0, c.row_at.ensures))

pub put_value-put_choice-requires : goal.put_value-put_choice-requires
put_value-put_choice-requires t c = (search rules, (sym c.kind.ensures ∙ c.in-Choice.is, c.in_default.not-TaggedExternal))

pub put_value-returns-in-Seq-clause-said : goal.put_value-returns-in-Seq-clause-said
put_value-returns-in-Seq-clause-said t c =
    let k : kind_of c.args.node ≡ Kind.Seq = sym c.kind.ensures ∙ c.in-Seq.is in
    on_ok_weaker c.put_sequence.result (λ m. (
      sequence m.1.0,
      (m.0, m.1.1),
      (k, m.1.2),
      m.1.3 ∙ ap (λ t. c.args.out.now ++ encoding (constructed (tag_at t) (normal_trees m.1.0 (rows_of c.args.node)))) c.unwrap_or.ensures ∙ ap (λ T. c.args.out.now ++ encoding T) (sym (sequence_tag_of c.args.replaced c.args.node m.1.0)),
    )) c.put_sequence.ensures.said

pub put_value-returns-in-Seq-clause-refused : goal.put_value-returns-in-Seq-clause-refused
put_value-returns-in-Seq-clause-refused t c =
    let p = profile_of c.args.context.profile in
    let j = value_view c.args.value.now in
    let k : kind_of c.args.node ≡ Kind.Seq = sym c.kind.ensures ∙ c.in-Seq.is in
    weaker c.put_sequence.result (IsSequenceRefused p c.args.node j) (IsFaulty p c.args.name.now c.args.node j) (λ cause path h. sequence_faulty p c.args.name.now c.args.node j cause path k h) c.put_sequence.ensures.refused

pub put_value-returns-in-SeqOf-clause-said : goal.put_value-returns-in-SeqOf-clause-said
put_value-returns-in-SeqOf-clause-said t c =
    let k : kind_of c.args.node ≡ Kind.SeqOf = sym c.kind.ensures ∙ c.in-SeqOf.is in
    on_ok_weaker c.put_list.result (λ m. (
      list m.2.0,
      (m.0, m.1, m.2.1),
      (k, m.2.2),
      m.2.3 ∙ ap (λ t. c.args.out.now ++ encoding (constructed (tag_at t) (normal_items m.2.0 (rows_of c.args.node)))) c.unwrap_or-in-SeqOf.ensures ∙ ap (λ T. c.args.out.now ++ encoding T) (sym (list_tag_of c.args.replaced c.args.node m.2.0)),
    )) c.put_list.ensures.said

pub put_value-returns-in-SeqOf-clause-refused : goal.put_value-returns-in-SeqOf-clause-refused
put_value-returns-in-SeqOf-clause-refused t c =
    let p = profile_of c.args.context.profile in
    let j = value_view c.args.value.now in
    let k : kind_of c.args.node ≡ Kind.SeqOf = sym c.kind.ensures ∙ c.in-SeqOf.is in
    weaker c.put_list.result (IsListRefused p c.args.name.now c.args.node j) (IsFaulty p c.args.name.now c.args.node j) (λ cause path h. list_faulty p c.args.name.now c.args.node j cause path k h) c.put_list.ensures.refused

pub put_value-returns-in-TaggedExternal-clause-said : goal.put_value-returns-in-TaggedExternal-clause-said
put_value-returns-in-TaggedExternal-clause-said t c =
    on_ok_weaker c.put_row.result (λ b. tagged_built (profile_of c.args.context.profile) c.args.name.now c.args.node c.args.replaced c.row_at.result (value_view c.args.value.now) _ _ c.in-TaggedExternal.is c.row_at.ensures b) c.put_row.ensures.said

pub put_value-returns-in-TaggedExternal-clause-refused : goal.put_value-returns-in-TaggedExternal-clause-refused
put_value-returns-in-TaggedExternal-clause-refused t c =
    let p = profile_of c.args.context.profile in
    let j = value_view c.args.value.now in
    weaker c.put_row.result (IsFaulty p [] c.row_at.result.node j) (IsFaulty p c.args.name.now c.args.node j)
    (λ cause path h. tagged_faulty p [] c.args.name.now c.args.node j cause path c.in-TaggedExternal.is (subst (λ n. IsFaulty p [] n j cause path) (tagged_node c.args.node c.row_at.result c.in-TaggedExternal.is c.row_at.ensures) h)) c.put_row.ensures.refused

pub put_value-returns-in_default : goal.put_value-returns-in_default
put_value-returns-in_default t c =
    let p = profile_of c.args.context.profile in
    let j = value_view c.args.value.now in
    let k : kind_of c.args.node ≡ Kind.Choice = sym c.kind.ensures ∙ c.in-Choice.is in
    record {
      said = c.put_choice.ensures.said c.args.name.now c.args.replaced;
      refused = weaker c.put_choice.result (IsChoiceRefused p c.args.node j) (IsFaulty p c.args.name.now c.args.node j)
          (λ cause path h. choice_faulty p c.args.name.now c.args.node j cause path c.in_default.not-TaggedExternal k h) c.put_choice.ensures.refused;
    }

pub put_row-returns-in-None-clause-said : goal.put_row-returns-in-None-clause-said
put_row-returns-in-None-clause-said t c =
    on_ok_weaker c.put_value-in-None.result (λ b. (b.0, b.1, b.2, b.3 ∙ ap (λ r. c.args.out.now ++ encoding (element_tree r c.args.row.node b.0)) c.replacement.ensures ∙ ap (λ T. c.args.out.now ++ encoding T) (sym (bare_tree c.args.row b.0 (sym c.wrapper.ensures ∙ c.in-None.is))))) c.put_value-in-None.ensures.said

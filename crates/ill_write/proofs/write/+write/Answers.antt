use Rattle.std.proofs.Common.{rules, ◌≡◌, ◌+◌, ◌≤◌, ◌++◌, length, slice_get, IfOk, Ok, Some, None, [], refl, sym, ap, subst, ◌∙◌, arith, drop}
use Rattle.ber_tree.specs.Tree.{constructed, more, none}
use Rattle.ber_leaf.specs.Simple.{date, flag, printable, time, whole}
use Rattle.ber_leaf.specs.Strings.{string_value}
use Rattle.ill_schema.specs.Value.{content_of, entries_content, items_content}
use Rattle.ill_schema.specs.Normal.{normal_trees, normal_items}
use Rattle.ber_core.specs.Der.{encoding, encodings, size, sizes}
use Rattle.ill_tables.specs.Table.{kind_of, rows_of}
use Rattle.ill_schema.proofs.Contents.{content_of-Flag, content_of-Whole, content_of-Date, content_of-Time, content_of-Print, content_of-Str, content_of-Seq, content_of-List, content_of-Alt}
use Rattle.ill_schema.specs.Elements.{tag_at, row_tree, element_tree, element_tag, place_trees, item_trees}
use Rattle.ill_write.specs.ContentSizes.{content_sizes, all_content_sizes}
use Rattle.ill_write.specs.code.Puts.{Puts}
use Rattle.ill_write.specs.code.NextAre.{NextAre}
use Rattle.ill_schema.proofs.Trees.{wrapped, sequence_tree, list_tree, chosen_tree, no_row_tree, entry_step, absent_step, item_step}
use Rattle.ill_write.proofs.Tags.{place_valid, row_valid}
use Rattle.ill_write.proofs.Measured.{leaf_tree, inside_small}
use Rattle.ill_write.proofs.Putting.{puts_nothing}
use Rattle.ill_write.proofs.Writing.{next_first, next_after, next_nothing, composed, not_opened, only_one, empty_element, default_trees, leaf_next, string_normal, reached_none, reached_same, reached_next, reached_small, reached_more, reached_failed}
use Rattle.ber_leaf.specs.Profile.{profile_two}
use Rattle.ill_schema.specs.declared.value.Value.{the_lemmas}
use Rattle.ill_write.proofs.write.+write.Goals as goal
use Rattle.ill_write.proofs.write.+write.Goals.{write_entries-in-Some+in_ok-write_present, write_entries-in_default}

pub write_row-returns-in_err-open_element-in-Some-clause-puts : goal.write_row-returns-in_err-open_element-in-Some-clause-puts
write_row-returns-in_err-open_element-in-Some-clause-puts g t c =
    let tag = c.in-Some.tag in
    let ts = more (element_tree None c.args.row.node (content_of c.args.value.now)) none in
    let e = wrapped c.args.row (content_of c.args.value.now) tag (sym c.wrapper.ensures ∙ c.in-Some.is) in
    let f = next_first _ _ (sizes ts) (all_content_sizes ts) (subst (λ z. NextAre c.args.contents.now c.args.progress.now.next (content_sizes z)) e c.requires.coming) in
    not_opened c.from_residual.result c.in_err-open_element-in-Some.field-0.0 _ _ c.args.progress.now c.open_element.new.progress _ (tag_at tag) ts _ e f c.from_residual.ensures.0 c.in_err-open_element-in-Some.ensures.puts

pub write_row-write_value-requires : goal.write_row-write_value-requires
write_row-write_value-requires g t c κs within =
    let tag = c.in-Some.tag in
    let T = element_tree None c.args.row.node (content_of c.args.value.now) in
    let e = wrapped c.args.row (content_of c.args.value.now) tag (sym c.wrapper.ensures ∙ c.in-Some.is) in
    let s : sizes (more T none) ≤ profile_two.limit = inside_small _ (tag_at tag) (more T none) e c.requires.small in
    let a = next_after _ _ c.open_element.new.progress.next (sizes (more T none)) (content_sizes T ++ []) c.open_element.ensures.next (subst (λ z. NextAre c.args.contents.now c.args.progress.now.next (content_sizes z)) e c.requires.coming) in
    (search (rules, the_lemmas), (within, (refl, (omega (arith, s), next_nothing _ _ (content_sizes T) a))))

pub write_row-returns-in_ok-open_element-in-Some-clause-puts : goal.write_row-returns-in_ok-open_element-in-Some-clause-puts
write_row-returns-in_ok-open_element-in-Some-clause-puts g t c =
    let tag = c.in-Some.tag in
    let T = element_tree None c.args.row.node (content_of c.args.value.now) in
    let e = wrapped c.args.row (content_of c.args.value.now) tag (sym c.wrapper.ensures ∙ c.in-Some.is) in
    let f = next_first _ _ (sizes (more T none)) (all_content_sizes (more T none)) (subst (λ z. NextAre c.args.contents.now c.args.progress.now.next (content_sizes z)) e c.requires.coming) in
    composed c.write_value.result _ _ _ c.args.progress.now c.open_element.new.progress c.write_value.new.progress _ (tag_at tag) (more T none) _ e f c.in_ok-open_element-in-Some.ensures.puts
    (only_one c.write_value.result _ _ c.open_element.new.progress c.write_value.new.progress T c.write_value.ensures.puts)

pub write_present-returns-in-None-clause-puts : goal.write_present-returns-in-None-clause-puts
write_present-returns-in-None-clause-puts g t c = rw c.in-None.is (puts_nothing tt _ c.args.progress.now)

pub write_item-returns-in-None-clause-puts : goal.write_item-returns-in-None-clause-puts
write_item-returns-in-None-clause-puts g t c = rw c.in-None.is (puts_nothing tt _ c.args.progress.now)

pub write_items-loop-item-init : goal.write_items-loop-item-init
write_items-loop-item-init g t c =
    rw c.deref-item-items.ensures.value (record { reached = reached_none _ c.args.contents.now (g.W.Sink.contents c.args.sink.now) c.args.progress.now c.requires.coming c.requires.small; stays = λ h. h })

pub write_items-write_item-requires : goal.write_items-write_item-requires
write_items-write_item-requires g t c κs within =
    let vs = c.deref-item-items.result.now in
    let e = item_step vs (rows_of c.args.node) c.loop-item.item-index c.item-item.result c.loop-item-test.true c.item-item.is in
    let h = c.loop-item.invariant.reached in
    let ts = item_trees (slice_get (rows_of c.args.node) 0) c.item-item.result in
    let us = normal_items (items_content (drop (c.loop-item.item-index + 1) vs)) (rows_of c.args.node) in
    let a = reached_next _ ts us _ c.args.contents.now _ _ c.args.progress.now c.loop-item.progress e h in
    let s = reached_small _ ts us _ c.args.contents.now _ _ c.args.progress.now c.loop-item.progress e h in
    (search (rules, the_lemmas), (within, (rw c.row_at-row.ensures (place_valid c.args.node 0), (rw c.row_at-row.ensures s, rw c.row_at-row.ensures a))))

pub write_items-returns-in_err-write_item-clause-puts : goal.write_items-returns-in_err-write_item-clause-puts
write_items-returns-in_err-write_item-clause-puts g t c =
    let vs = c.deref-item-items.result.now in
    let e = item_step vs (rows_of c.args.node) c.loop-item.item-index c.item-item.result c.loop-item-test.true c.item-item.is in
    let h = c.loop-item.invariant.reached in
    let ts = item_trees (slice_get (rows_of c.args.node) 0) c.item-item.result in
    let us = normal_items (items_content (drop (c.loop-item.item-index + 1) vs)) (rows_of c.args.node) in
    let p = rw c.row_at-row.ensures at c.in_err-write_item.ensures.puts in
    rw (← c.deref-item-items.ensures.value)
    (reached_failed c.from_residual.result c.in_err-write_item.field-0.0 _ ts us _ c.args.contents.now _ _ (g.W.Sink.contents c.write_item.new.sink) c.args.progress.now c.loop-item.progress c.write_item.new.progress e c.from_residual.ensures.0 h p)

pub write_items-loop-item-preserved : goal.write_items-loop-item-preserved
write_items-loop-item-preserved g t c =
    let vs = c.deref-item-items.result.now in
    let e = item_step vs (rows_of c.args.node) c.loop-item.item-index c.item-item.result c.loop-item-test.true c.item-item.is in
    let h = c.loop-item.invariant.reached in
    let ts = item_trees (slice_get (rows_of c.args.node) 0) c.item-item.result in
    let us = normal_items (items_content (drop (c.loop-item.item-index + 1) vs)) (rows_of c.args.node) in
    let p = rw c.row_at-row.ensures at c.in_ok-write_item.ensures.puts in
    let n = rw c.row_at-row.ensures at c.in_ok-write_item.ensures.next in
    record {
      reached = reached_more _ ts us _ c.args.contents.now _ _ (g.W.Sink.contents c.write_item.new.sink) c.args.progress.now c.loop-item.progress c.write_item.new.progress e h p n;
      stays = λ k. c.in_ok-write_item.ensures.stays (c.loop-item.invariant.stays k);
    }

pub write_entries-loop-i-init : goal.write_entries-loop-i-init
write_entries-loop-i-init g t c =
    rw c.deref-entry-items.ensures.value (record { reached = reached_none _ c.args.contents.now (g.W.Sink.contents c.args.sink.now) c.args.progress.now c.requires.coming c.requires.small; stays = λ h. h })

pub write_entries-write_present-requires : goal.write_entries-write_present-requires
write_entries-write_present-requires g t c κs within =
    let es = c.deref-entry-items.result.now in
    let e = entry_step es (rows_of c.args.node) c.loop-i.i (Some c.in-Some.value) c.loop-i-test.true (rw c.in-Some.is at c.entry-item.is) in
    let h = c.loop-i.invariant.reached in
    let ts = place_trees (slice_get (rows_of c.args.node) c.loop-i.i) (Some c.in-Some.value) in
    let us = normal_trees (entries_content (drop (c.loop-i.i + 1) es)) (drop (c.loop-i.i + 1) (rows_of c.args.node)) in
    let a = reached_next _ ts us _ c.args.contents.now _ _ c.args.progress.now c.loop-i.progress e h in
    let s = reached_small _ ts us _ c.args.contents.now _ _ c.args.progress.now c.loop-i.progress e h in
    (search (rules, the_lemmas), (within, (rw c.row_at.ensures (place_valid c.args.node c.loop-i.i), (rw c.row_at.ensures s, rw c.row_at.ensures a))))

pub write_entries-returns-in_err-write_present-clause-puts : goal.write_entries-returns-in_err-write_present-clause-puts
write_entries-returns-in_err-write_present-clause-puts g t c =
    let es = c.deref-entry-items.result.now in
    let e = entry_step es (rows_of c.args.node) c.loop-i.i (Some c.in-Some.value) c.loop-i-test.true (rw c.in-Some.is at c.entry-item.is) in
    let h = c.loop-i.invariant.reached in
    let ts = place_trees (slice_get (rows_of c.args.node) c.loop-i.i) (Some c.in-Some.value) in
    let us = normal_trees (entries_content (drop (c.loop-i.i + 1) es)) (drop (c.loop-i.i + 1) (rows_of c.args.node)) in
    let p = rw c.row_at.ensures at c.in_err-write_present.ensures.puts in
    rw (← c.deref-entry-items.ensures.value)
    (reached_failed c.from_residual.result c.in_err-write_present.field-0.0 _ ts us _ c.args.contents.now _ _ (g.W.Sink.contents c.write_present.new.sink) c.args.progress.now c.loop-i.progress c.write_present.new.progress e c.from_residual.ensures.0 h p)

pub write_value-returns-in_err-open_element-in-Seq-clause-puts : goal.write_value-returns-in_err-open_element-in-Seq-clause-puts
write_value-returns-in_err-open_element-in-Seq-clause-puts g t c =
    let is = ap content_of c.in-Seq.is ∙ content_of-Seq c.in-Seq.entries in
    let ts = normal_trees (entries_content c.in-Seq.entries.items) (rows_of c.args.node) in
    let tag = ap (λ x. element_tag c.args.replaced (kind_of c.args.node) x) (sym is) ∙ sym c.element_tag-tag.ensures in
    let e = ap (λ x. element_tree c.args.replaced c.args.node x) is ∙ sequence_tree c.args.replaced c.args.node _ ∙ ap (λ x. constructed x ts) tag in
    let coming = subst (λ z. NextAre c.args.contents.now c.args.progress.now.next (content_sizes z)) e c.requires.coming in
    let f = next_first _ _ (sizes ts) (all_content_sizes ts) coming in
    not_opened c.from_residual.result c.in_err-open_element-in-Seq.field-0.0 _ _ c.args.progress.now c.open_element.new.progress _ (tag_at c.element_tag-tag.result) ts _ e f c.from_residual.ensures.0 c.in_err-open_element-in-Seq.ensures.puts

pub write_value-write_entries-requires : goal.write_value-write_entries-requires
write_value-write_entries-requires g t c κs within =
    let is = ap content_of c.in-Seq.is ∙ content_of-Seq c.in-Seq.entries in
    let ts = normal_trees (entries_content c.in-Seq.entries.items) (rows_of c.args.node) in
    let tag = ap (λ x. element_tag c.args.replaced (kind_of c.args.node) x) (sym is) ∙ sym c.element_tag-tag.ensures in
    let e = ap (λ x. element_tree c.args.replaced c.args.node x) is ∙ sequence_tree c.args.replaced c.args.node _ ∙ ap (λ x. constructed x ts) tag in
    let coming = subst (λ z. NextAre c.args.contents.now c.args.progress.now.next (content_sizes z)) e c.requires.coming in
    let s : sizes ts ≤ profile_two.limit = inside_small _ (tag_at c.element_tag-tag.result) ts e c.requires.small in
    let a = next_after _ _ c.open_element.new.progress.next (sizes ts) (all_content_sizes ts) c.open_element.ensures.next coming in
    (search (rules, the_lemmas), (within, (s, a)))

pub write_value-returns-in_ok-open_element-in-Seq-clause-puts : goal.write_value-returns-in_ok-open_element-in-Seq-clause-puts
write_value-returns-in_ok-open_element-in-Seq-clause-puts g t c =
    let is = ap content_of c.in-Seq.is ∙ content_of-Seq c.in-Seq.entries in
    let ts = normal_trees (entries_content c.in-Seq.entries.items) (rows_of c.args.node) in
    let tag = ap (λ x. element_tag c.args.replaced (kind_of c.args.node) x) (sym is) ∙ sym c.element_tag-tag.ensures in
    let e = ap (λ x. element_tree c.args.replaced c.args.node x) is ∙ sequence_tree c.args.replaced c.args.node _ ∙ ap (λ x. constructed x ts) tag in
    let coming = subst (λ z. NextAre c.args.contents.now c.args.progress.now.next (content_sizes z)) e c.requires.coming in
    let f = next_first _ _ (sizes ts) (all_content_sizes ts) coming in
    composed c.write_entries.result _ _ _ c.args.progress.now c.open_element.new.progress c.write_entries.new.progress _ (tag_at c.element_tag-tag.result) ts _ e f c.in_ok-open_element-in-Seq.ensures.puts c.write_entries.ensures.puts

pub write_value-returns-in_err-open_element-in-List-clause-puts : goal.write_value-returns-in_err-open_element-in-List-clause-puts
write_value-returns-in_err-open_element-in-List-clause-puts g t c =
    let is = ap content_of c.in-List.is ∙ content_of-List c.in-List.items in
    let ts = normal_items (items_content c.in-List.items.items) (rows_of c.args.node) in
    let tag = ap (λ x. element_tag c.args.replaced (kind_of c.args.node) x) (sym is) ∙ sym c.element_tag-tag.ensures in
    let e = ap (λ x. element_tree c.args.replaced c.args.node x) is ∙ list_tree c.args.replaced c.args.node _ ∙ ap (λ x. constructed x ts) tag in
    let coming = subst (λ z. NextAre c.args.contents.now c.args.progress.now.next (content_sizes z)) e c.requires.coming in
    let f = next_first _ _ (sizes ts) (all_content_sizes ts) coming in
    not_opened c.from_residual-in_err-open_element-in-List.result c.in_err-open_element-in-List.field-0.0 _ _ c.args.progress.now c.open_element-in-List.new.progress _ (tag_at c.element_tag-tag.result) ts _ e f c.from_residual-in_err-open_element-in-List.ensures.0 c.in_err-open_element-in-List.ensures.puts

pub write_value-write_items-requires : goal.write_value-write_items-requires
write_value-write_items-requires g t c κs within =
    let is = ap content_of c.in-List.is ∙ content_of-List c.in-List.items in
    let ts = normal_items (items_content c.in-List.items.items) (rows_of c.args.node) in
    let tag = ap (λ x. element_tag c.args.replaced (kind_of c.args.node) x) (sym is) ∙ sym c.element_tag-tag.ensures in
    let e = ap (λ x. element_tree c.args.replaced c.args.node x) is ∙ list_tree c.args.replaced c.args.node _ ∙ ap (λ x. constructed x ts) tag in
    let coming = subst (λ z. NextAre c.args.contents.now c.args.progress.now.next (content_sizes z)) e c.requires.coming in
    let s : sizes ts ≤ profile_two.limit = inside_small _ (tag_at c.element_tag-tag.result) ts e c.requires.small in
    let a = next_after _ _ c.open_element-in-List.new.progress.next (sizes ts) (all_content_sizes ts) c.open_element-in-List.ensures.next coming in
    (search (rules, the_lemmas), (within, (s, a)))

pub write_value-returns-in_ok-open_element-in-List-clause-puts : goal.write_value-returns-in_ok-open_element-in-List-clause-puts
write_value-returns-in_ok-open_element-in-List-clause-puts g t c =
    let is = ap content_of c.in-List.is ∙ content_of-List c.in-List.items in
    let ts = normal_items (items_content c.in-List.items.items) (rows_of c.args.node) in
    let tag = ap (λ x. element_tag c.args.replaced (kind_of c.args.node) x) (sym is) ∙ sym c.element_tag-tag.ensures in
    let e = ap (λ x. element_tree c.args.replaced c.args.node x) is ∙ list_tree c.args.replaced c.args.node _ ∙ ap (λ x. constructed x ts) tag in
    let coming = subst (λ z. NextAre c.args.contents.now c.args.progress.now.next (content_sizes z)) e c.requires.coming in
    let f = next_first _ _ (sizes ts) (all_content_sizes ts) coming in
    composed c.write_items.result _ _ _ c.args.progress.now c.open_element-in-List.new.progress c.write_items.new.progress _ (tag_at c.element_tag-tag.result) ts _ e f c.in_ok-open_element-in-List.ensures.puts c.write_items.ensures.puts

pub write_entries-loop-i-preserved : goal.write_entries-loop-i-preserved
write_entries-loop-i-preserved g t c =
    let es = c.deref-entry-items.result.now in
    let h = c.loop-i.invariant.reached in
    let us = normal_trees (entries_content (drop (c.loop-i.i + 1) es)) (drop (c.loop-i.i + 1) (rows_of c.args.node)) in
    elim c.match-entry.branch [
      | write_entries-in-Some+in_ok-write_present w ↦
          let e = entry_step es (rows_of c.args.node) c.loop-i.i (Some w.in-Some.value) c.loop-i-test.true (rw w.in-Some.is at c.entry-item.is) in
          let ts = place_trees (slice_get (rows_of c.args.node) c.loop-i.i) (Some w.in-Some.value) in
          let p = rw w.row_at.ensures at w.in_ok-write_present.ensures.puts in
          let n = rw w.row_at.ensures at w.in_ok-write_present.ensures.next in
          rw (w.progress-is, w.sink-is) (record {
            reached = reached_more _ ts us _ c.args.contents.now _ _ (g.W.Sink.contents w.write_present.new.sink) c.args.progress.now c.loop-i.progress w.write_present.new.progress e h p n;
            stays = λ k. w.in_ok-write_present.ensures.stays (c.loop-i.invariant.stays k);
          })
      | write_entries-in_default w ↦
          let e = absent_step es (rows_of c.args.node) c.loop-i.i c.loop-i-test.true (rw w.in_default.is at c.entry-item.is) in
          rw (w.progress-is, w.sink-is) (record { reached = reached_same _ _ _ c.args.contents.now _ _ c.args.progress.now c.loop-i.progress e h; stays = c.loop-i.invariant.stays })
    ]

pub write_value-write_row-requires : goal.write_value-write_row-requires
write_value-write_row-requires g t c κs within =
    let d : c.deref.result.now ≡ c.in-Alt.chosen.value = search rules in
    let is = ap content_of c.in-Alt.is ∙ content_of-Alt c.in-Alt.number c.in-Alt.chosen in
    let at = sym c.row.ensures ∙ c.in-Some.is in
    let e = ap (λ x. element_tree c.args.replaced c.args.node x) is ∙ chosen_tree c.args.replaced c.args.node c.in-Alt.number _ c.in-Some.row at ∙ ap (λ x. row_tree c.in-Some.row (content_of x)) (sym d) in (
      search (rules, the_lemmas),
      (
        within,
        (
          row_valid c.args.node c.in-Alt.number c.in-Some.row (sym at),
          (
            subst (λ T. size T ≤ profile_two.limit) e c.requires.small,
            subst (λ T. NextAre c.args.contents.now c.args.progress.now.next (content_sizes T)) e c.requires.coming,
          ),
        ),
      ),
    )

pub write_value-returns-in-Flag-clause-puts : goal.write_value-returns-in-Flag-clause-puts
write_value-returns-in-Flag-clause-puts g t c =
    let e = leaf_tree c.args.replaced c.args.node _ (flag c.in-Flag.flag) _ (ap content_of c.in-Flag.is ∙ content_of-Flag c.in-Flag.flag) c.element_tag-tag.ensures in
    subst (λ T. Puts c.write_short_contents.result (encoding T) (g.W.Sink.contents c.args.sink.now) c.args.progress.now (g.W.Sink.contents c.write_short_contents.new.sink) c.write_short_contents.new.progress) (sym e) c.write_short_contents.ensures.puts

pub write_value-returns-in-Whole-clause-puts : goal.write_value-returns-in-Whole-clause-puts
write_value-returns-in-Whole-clause-puts g t c =
    let e = leaf_tree c.args.replaced c.args.node _ (whole c.in-Whole.number) _ (ap content_of c.in-Whole.is ∙ content_of-Whole c.in-Whole.number) c.element_tag-tag.ensures in
    subst (λ T. Puts c.write_short_contents-in-Whole.result (encoding T) (g.W.Sink.contents c.args.sink.now) c.args.progress.now (g.W.Sink.contents c.write_short_contents-in-Whole.new.sink) c.write_short_contents-in-Whole.new.progress) (sym e) c.write_short_contents-in-Whole.ensures.puts

pub write_present-returns-then-is_default-clause-puts : goal.write_present-returns-then-is_default-clause-puts
write_present-returns-then-is_default-clause-puts g t c =
    subst (λ z. Puts (Ok tt) (encodings z) (g.W.Sink.contents c.args.sink.now) c.args.progress.now (g.W.Sink.contents c.args.sink.now) c.args.progress.now)
    (sym (default_trees c.args.row c.in-Some.row c.args.value.now c.in-Some.is (sym c.is_default.ensures ∙ c.if-is_default.true))) (puts_nothing tt _ c.args.progress.now)

pub write_value-returns-in_ok-open_element-in-Seq-clause-next : goal.write_value-returns-in_ok-open_element-in-Seq-clause-next
write_value-returns-in_ok-open_element-in-Seq-clause-next g t c =
    let is = ap content_of c.in-Seq.is ∙ content_of-Seq c.in-Seq.entries in
    let ts = normal_trees (entries_content c.in-Seq.entries.items) (rows_of c.args.node) in
    let e = ap (λ x. element_tree c.args.replaced c.args.node x) is ∙ sequence_tree c.args.replaced c.args.node _ in
    let k = ap (λ z. length (content_sizes z)) e in
    let l : c.open_element.new.progress.next + length (all_content_sizes ts) ≡ c.args.progress.now.next + length (content_sizes (element_tree c.args.replaced c.args.node (content_of c.args.value.now))) = omega (arith, c.open_element.ensures.next, k) in
    subst (λ n. IfOk c.write_entries.result (λ x. c.write_entries.new.progress.next ≡ n)) l c.write_entries.ensures.next

pub write_value-returns-in-None-clause-puts : goal.write_value-returns-in-None-clause-puts
write_value-returns-in-None-clause-puts g t c =
    let is = ap content_of c.in-Alt.is ∙ content_of-Alt c.in-Alt.number c.in-Alt.chosen in
    let tag = ap (λ x. element_tag c.args.replaced (kind_of c.args.node) x) (sym is) ∙ sym c.element_tag-tag.ensures in
    let e = ap (λ x. element_tree c.args.replaced c.args.node x) is ∙ no_row_tree c.args.replaced c.args.node c.in-Alt.number _ (sym c.row.ensures ∙ c.in-None.is) ∙ ap (λ x. constructed x none) tag in
    let coming = subst (λ z. NextAre c.args.contents.now c.args.progress.now.next (content_sizes z)) e c.requires.coming in
    empty_element c.open_element-in-None.result _ _ c.args.progress.now c.open_element-in-None.new.progress _ (tag_at c.element_tag-tag.result) _ e (next_first _ _ 0 [] coming) c.open_element-in-None.ensures.puts

pub write_value-returns-in-Flag-clause-next : goal.write_value-returns-in-Flag-clause-next
write_value-returns-in-Flag-clause-next g t c =
    let e = leaf_tree c.args.replaced c.args.node _ (flag c.in-Flag.flag) _ (ap content_of c.in-Flag.is ∙ content_of-Flag c.in-Flag.flag) c.element_tag-tag.ensures in
    leaf_next c.write_short_contents.result _ _ _ _ _ e c.write_short_contents.ensures.next

pub write_value-returns-in-Whole-clause-next : goal.write_value-returns-in-Whole-clause-next
write_value-returns-in-Whole-clause-next g t c =
    let e = leaf_tree c.args.replaced c.args.node _ (whole c.in-Whole.number) _ (ap content_of c.in-Whole.is ∙ content_of-Whole c.in-Whole.number) c.element_tag-tag.ensures in
    leaf_next c.write_short_contents-in-Whole.result _ _ _ _ _ e c.write_short_contents-in-Whole.ensures.next

pub write_value-returns-in-Date-clause-next : goal.write_value-returns-in-Date-clause-next
write_value-returns-in-Date-clause-next g t c =
    let e = leaf_tree c.args.replaced c.args.node _ (date c.in-Date.text) _ (ap content_of c.in-Date.is ∙ content_of-Date c.in-Date.text) c.element_tag-tag.ensures in
    leaf_next c.write_primitive.result _ _ _ _ _ e c.write_primitive.ensures.next

pub write_value-returns-in-Date-clause-puts : goal.write_value-returns-in-Date-clause-puts
write_value-returns-in-Date-clause-puts g t c =
    let e = leaf_tree c.args.replaced c.args.node _ (date c.in-Date.text) _ (ap content_of c.in-Date.is ∙ content_of-Date c.in-Date.text) c.element_tag-tag.ensures in
    let puts = rw c.octets.ensures.value at c.write_primitive.ensures.puts in
    subst (λ T. Puts c.write_primitive.result (encoding T) (g.W.Sink.contents c.args.sink.now) c.args.progress.now (g.W.Sink.contents c.write_primitive.new.sink) c.write_primitive.new.progress) (sym e) puts

pub write_value-returns-in-Time-clause-next : goal.write_value-returns-in-Time-clause-next
write_value-returns-in-Time-clause-next g t c =
    let e = leaf_tree c.args.replaced c.args.node _ (time c.in-Time.text) _ (ap content_of c.in-Time.is ∙ content_of-Time c.in-Time.text) c.element_tag-tag.ensures in
    leaf_next c.write_primitive-in-Time.result _ _ _ _ _ e c.write_primitive-in-Time.ensures.next

pub write_value-returns-in-Time-clause-puts : goal.write_value-returns-in-Time-clause-puts
write_value-returns-in-Time-clause-puts g t c =
    let e = leaf_tree c.args.replaced c.args.node _ (time c.in-Time.text) _ (ap content_of c.in-Time.is ∙ content_of-Time c.in-Time.text) c.element_tag-tag.ensures in
    let puts = rw c.octets-in-Time.ensures.value at c.write_primitive-in-Time.ensures.puts in
    subst (λ T. Puts c.write_primitive-in-Time.result (encoding T) (g.W.Sink.contents c.args.sink.now) c.args.progress.now (g.W.Sink.contents c.write_primitive-in-Time.new.sink) c.write_primitive-in-Time.new.progress) (sym e) puts

pub write_value-returns-in-Print-clause-next : goal.write_value-returns-in-Print-clause-next
write_value-returns-in-Print-clause-next g t c =
    let e = leaf_tree c.args.replaced c.args.node _ (printable c.in-Print.text) _ (ap content_of c.in-Print.is ∙ content_of-Print c.in-Print.text) c.element_tag-tag.ensures in
    leaf_next c.write_primitive-in-Print.result _ _ _ _ _ e c.write_primitive-in-Print.ensures.next

pub write_value-returns-in-Print-clause-puts : goal.write_value-returns-in-Print-clause-puts
write_value-returns-in-Print-clause-puts g t c =
    let e = leaf_tree c.args.replaced c.args.node _ (printable c.in-Print.text) _ (ap content_of c.in-Print.is ∙ content_of-Print c.in-Print.text) c.element_tag-tag.ensures in
    let puts = rw c.octets-in-Print.ensures.value at c.write_primitive-in-Print.ensures.puts in
    subst (λ T. Puts c.write_primitive-in-Print.result (encoding T) (g.W.Sink.contents c.args.sink.now) c.args.progress.now (g.W.Sink.contents c.write_primitive-in-Print.new.sink) c.write_primitive-in-Print.new.progress) (sym e) puts

pub write_value-returns-in-Str-clause-next : goal.write_value-returns-in-Str-clause-next
write_value-returns-in-Str-clause-next g t c =
    let e = leaf_tree c.args.replaced c.args.node _ (string_value c.in-Str.text) _ (ap content_of c.in-Str.is ∙ content_of-Str c.in-Str.text) c.element_tag-tag.ensures in
    leaf_next c.write_primitive-in-Str.result _ _ _ _ _ e c.write_primitive-in-Str.ensures.next

pub write_value-returns-in-Str-clause-puts : goal.write_value-returns-in-Str-clause-puts
write_value-returns-in-Str-clause-puts g t c =
    let e = leaf_tree c.args.replaced c.args.node _ (string_value c.in-Str.text) _ (ap content_of c.in-Str.is ∙ content_of-Str c.in-Str.text) c.element_tag-tag.ensures in
    let puts = rw (c.octets-in-Str.ensures.value, string_normal c.in-Str.text) at c.write_primitive-in-Str.ensures.puts in
    subst (λ T. Puts c.write_primitive-in-Str.result (encoding T) (g.W.Sink.contents c.args.sink.now) c.args.progress.now (g.W.Sink.contents c.write_primitive-in-Str.new.sink) c.write_primitive-in-Str.new.progress) (sym e) puts

use Rattle.std.proofs.Common.{rules, ◌≡◌, ◌+◌, ◌≤◌, length, [], ◌∷◌, ◌++◌, Some, None, sym, ap, ◌∙◌, subst, arith, slice_get, append-nil}
use Rattle.ber_core.specs.Der.{size, sizes}
use Rattle.ber_tree.specs.Tree.{constructed, more, none}
use Rattle.ber_leaf.specs.Profile.{profile_two}
use Rattle.ber_leaf.specs.Simple.{date, flag, printable, time, whole}
use Rattle.ber_leaf.specs.Strings.{string_value}
use Rattle.ill_schema.specs.declared.value.Value.{the_lemmas}
use Rattle.ill_schema.specs.Elements.{tag_at, element_tree, element_tag, row_tree, place_trees}
use Rattle.ill_schema.specs.Normal.{normal_trees, normal_items}
use Rattle.ill_tables.specs.Table.{kind_of, rows_of}
use Rattle.ill_schema.specs.Value.{content_of, entries_content, items_content}
use Rattle.ill_schema.proofs.Contents.{content_of-Flag, content_of-Whole, content_of-Date, content_of-Time, content_of-Print, content_of-Str, content_of-Seq, content_of-List, content_of-Alt}
use Rattle.ill_schema.proofs.Trees.{wrapped, sequence_tree, list_tree, chosen_tree, no_row_tree, entry_step, absent_step, item_step}
use Rattle.ill_write.specs.ContentSizes.{content_sizes, all_content_sizes}
use Rattle.ill_write.proofs.Measured.{leaf_tree, inside_small, closed, closed_empty, only, step_sum, step_pushed, step_small}
use Rattle.ill_write.proofs.Tags.{place_valid, row_valid}
use Rattle.ill_write.proofs.measure.+measure.Goals as goal
use Rattle.ill_write.proofs.measure.+measure.Goals.{measure_entries-in-Some+in_ok-sum, measure_entries-in_default}

pub measure_row-returns-in_ok-inside-in-Some : goal.measure_row-returns-in_ok-inside-in-Some
measure_row-returns-in_ok-inside-in-Some t c =
    let tag = c.in-Some.tag in
    let T = element_tree None c.args.row.node (content_of c.args.value.now) in
    let e = wrapped c.args.row (content_of c.args.value.now) tag (sym c.wrapper.ensures ∙ c.in-Some.is) in
    let m = only (c.args.out.now.items ++ 0 ∷ []) c.measure_value.new.out.items c.in_ok-inside-in-Some.inside T (rw (← c.in_ok-push-in-Some.ensures.items) c.in_ok-inside-in-Some.ensures) in
    let l : c.len-place.result ≡ length c.args.out.now.items = search rules in
    rw l (closed _ (tag_at tag) (more T none) c.args.out.now.items c.measure_value.new.out.items c.in_ok-inside-in-Some.inside c.element_size.result e m c.element_size.ensures)

pub measure_value-returns-in-Whole : goal.measure_value-returns-in-Whole
measure_value-returns-in-Whole t c =
    let e = leaf_tree c.args.replaced c.args.node _ (whole c.in-Whole.number) _ (ap content_of c.in-Whole.is ∙ content_of-Whole c.in-Whole.number) c.element_tag-tag.ensures in
    (c.leaf_size-in-Whole.ensures ∙ ap size (sym e), sym (ap (λ T. c.args.out.now.items ++ content_sizes T) e ∙ append-nil c.args.out.now.items))

pub measure_value-measure_entries-requires : goal.measure_value-measure_entries-requires
measure_value-measure_entries-requires t c =
    let is = ap content_of c.in-Seq.is ∙ content_of-Seq c.in-Seq.entries in
    let e = ap (λ x. element_tree c.args.replaced c.args.node x) is ∙ sequence_tree c.args.replaced c.args.node _ in
    (search (rules, the_lemmas), inside_small _ _ (normal_trees (entries_content c.in-Seq.entries.items) (rows_of c.args.node)) e c.requires.small)

pub measure_value-element_size-requires-clause-small : goal.measure_value-element_size-requires-clause-small
measure_value-element_size-requires-clause-small t c =
    let is = ap content_of c.in-Seq.is ∙ content_of-Seq c.in-Seq.entries in
    let e = ap (λ x. element_tree c.args.replaced c.args.node x) is ∙ sequence_tree c.args.replaced c.args.node _ in
    let s = inside_small _ _ (normal_trees (entries_content c.in-Seq.entries.items) (rows_of c.args.node)) e c.requires.small in
    let m = c.in_ok-inside-in-Seq.ensures in
    omega (arith, s, m.0)

pub measure_value-returns-in_ok-inside-in-Seq : goal.measure_value-returns-in_ok-inside-in-Seq
measure_value-returns-in_ok-inside-in-Seq t c =
    let is = ap content_of c.in-Seq.is ∙ content_of-Seq c.in-Seq.entries in
    let ts = normal_trees (entries_content c.in-Seq.entries.items) (rows_of c.args.node) in
    let tag = ap (λ x. element_tag c.args.replaced (kind_of c.args.node) x) (sym is) ∙ sym c.element_tag-tag.ensures in
    let e = ap (λ x. element_tree c.args.replaced c.args.node x) is ∙ sequence_tree c.args.replaced c.args.node _ ∙ ap (λ x. constructed x ts) tag in
    let l : c.len-place.result ≡ length c.args.out.now.items = search rules in
    let m = rw c.in_ok-push-in-Seq.ensures.items at c.in_ok-inside-in-Seq.ensures in
    rw l (closed _ (tag_at c.element_tag-tag.result) ts c.args.out.now.items c.measure_entries.new.out.items c.in_ok-inside-in-Seq.inside c.element_size.result e m c.element_size.ensures)

pub measure_value-measure_items-requires : goal.measure_value-measure_items-requires
measure_value-measure_items-requires t c =
    let is = ap content_of c.in-List.is ∙ content_of-List c.in-List.items in
    let e = ap (λ x. element_tree c.args.replaced c.args.node x) is ∙ list_tree c.args.replaced c.args.node _ in
    (search (rules, the_lemmas), inside_small _ _ (normal_items (items_content c.in-List.items.items) (rows_of c.args.node)) e c.requires.small)

pub measure_value-element_size-requires-in-List-clause-small : goal.measure_value-element_size-requires-in-List-clause-small
measure_value-element_size-requires-in-List-clause-small t c =
    let is = ap content_of c.in-List.is ∙ content_of-List c.in-List.items in
    let e = ap (λ x. element_tree c.args.replaced c.args.node x) is ∙ list_tree c.args.replaced c.args.node _ in
    let s = inside_small _ _ (normal_items (items_content c.in-List.items.items) (rows_of c.args.node)) e c.requires.small in
    let m = c.in_ok-inside-in-List.ensures in
    omega (arith, s, m.0)

pub measure_value-returns-in_ok-inside-in-List : goal.measure_value-returns-in_ok-inside-in-List
measure_value-returns-in_ok-inside-in-List t c =
    let is = ap content_of c.in-List.is ∙ content_of-List c.in-List.items in
    let ts = normal_items (items_content c.in-List.items.items) (rows_of c.args.node) in
    let tag = ap (λ x. element_tag c.args.replaced (kind_of c.args.node) x) (sym is) ∙ sym c.element_tag-tag.ensures in
    let e = ap (λ x. element_tree c.args.replaced c.args.node x) is ∙ list_tree c.args.replaced c.args.node _ ∙ ap (λ x. constructed x ts) tag in
    let l : c.len-place-in-List.result ≡ length c.args.out.now.items = search rules in
    let m = rw c.in_ok-push-in-List.ensures.items at c.in_ok-inside-in-List.ensures in
    rw l (closed _ (tag_at c.element_tag-tag.result) ts c.args.out.now.items c.measure_items.new.out.items c.in_ok-inside-in-List.inside c.element_size-in-List.result e m c.element_size-in-List.ensures)

pub measure_value-returns-in_ok-push-in-None : goal.measure_value-returns-in_ok-push-in-None
measure_value-returns-in_ok-push-in-None t c =
    let is = ap content_of c.in-Alt.is ∙ content_of-Alt c.in-Alt.number c.in-Alt.chosen in
    let tag = ap (λ x. element_tag c.args.replaced (kind_of c.args.node) x) (sym is) ∙ sym c.element_tag-tag.ensures in
    let e = ap (λ x. element_tree c.args.replaced c.args.node x) is ∙ no_row_tree c.args.replaced c.args.node c.in-Alt.number _ (sym c.row.ensures ∙ c.in-None.is) ∙ ap (λ x. constructed x none) tag in
    closed_empty _ (tag_at c.element_tag-tag.result) c.args.out.now.items c.push-in-None.new.self.items c.element_size-in-None.result e c.in_ok-push-in-None.ensures.items c.element_size-in-None.ensures

pub measure_value-measure_row-requires : goal.measure_value-measure_row-requires
measure_value-measure_row-requires t c =
    let d : c.deref.result.now ≡ c.in-Alt.chosen.value = search rules in
    let is = ap content_of c.in-Alt.is ∙ content_of-Alt c.in-Alt.number c.in-Alt.chosen in
    let at = sym c.row.ensures ∙ c.in-Some.is in
    let e = ap (λ x. element_tree c.args.replaced c.args.node x) is ∙ chosen_tree c.args.replaced c.args.node c.in-Alt.number _ c.in-Some.row at ∙ ap (λ x. row_tree c.in-Some.row (content_of x)) (sym d) in
    (search (rules, the_lemmas), (row_valid c.args.node c.in-Alt.number c.in-Some.row (sym at), subst (λ T. size T ≤ profile_two.limit) e c.requires.small))

pub measure_entries-measure_present-requires : goal.measure_entries-measure_present-requires
measure_entries-measure_present-requires t c =
    let es = c.deref-entry-items.result.now in
    let le : sizes (normal_trees (entries_content es) (rows_of c.args.node)) ≤ profile_two.limit = rw c.deref-entry-items.ensures.value c.requires in
    let e = entry_step es (rows_of c.args.node) c.loop-i.i (Some c.in-Some.value) c.loop-i-test.true (rw c.in-Some.is at c.entry-item.is) in
    let s = step_small (place_trees (slice_get (rows_of c.args.node) c.loop-i.i) (Some c.in-Some.value)) _ _ c.loop-i.sum _ e c.loop-i.invariant.so_far le in
    (search (rules, the_lemmas), (rw c.row_at.ensures (place_valid c.args.node c.loop-i.i), rw c.row_at.ensures s))

pub measure_entries-overflow_add-sum : goal.measure_entries-overflow_add-sum
measure_entries-overflow_add-sum t c =
    let es = c.deref-entry-items.result.now in
    let le : sizes (normal_trees (entries_content es) (rows_of c.args.node)) ≤ profile_two.limit = rw c.deref-entry-items.ensures.value c.requires in
    let e = entry_step es (rows_of c.args.node) c.loop-i.i (Some c.in-Some.value) c.loop-i-test.true (rw c.in-Some.is at c.entry-item.is) in
    let m = rw (c.row_at.ensures) at c.in_ok-sum.ensures in
    let s = step_sum c.loop-i.out.items c.measure_present.new.out.items _ _ _ c.loop-i.sum c.in_ok-sum.field-0 _ e m c.loop-i.invariant.so_far in
    omega (arith, s, le)

pub measure_entries-loop-i-preserved : goal.measure_entries-loop-i-preserved
measure_entries-loop-i-preserved t c =
    let es = c.deref-entry-items.result.now in
    elim c.match-entry.branch [
      | measure_entries-in-Some+in_ok-sum w ↦
          let e = entry_step es (rows_of c.args.node) c.loop-i.i (Some w.in-Some.value) c.loop-i-test.true (rw w.in-Some.is at c.entry-item.is) in
          let m = rw (w.row_at.ensures) at w.in_ok-sum.ensures in
          rw (w.out-is, w.sum-is) (record {
            so_far = step_sum c.loop-i.out.items w.measure_present.new.out.items _ _ _ c.loop-i.sum w.in_ok-sum.field-0 _ e m c.loop-i.invariant.so_far;
            pushed = step_pushed c.loop-i.out.items w.measure_present.new.out.items _ _ _ _ w.in_ok-sum.field-0 e m c.loop-i.invariant.pushed;
          })
      | measure_entries-in_default w ↦
          let e = absent_step es (rows_of c.args.node) c.loop-i.i c.loop-i-test.true (rw w.in_default.is at c.entry-item.is) in
          rw (w.out-is, w.sum-is) (record {
            so_far = ap (λ z. c.loop-i.sum + sizes z) (sym e) ∙ c.loop-i.invariant.so_far;
            pushed = ap (λ z. c.loop-i.out.items ++ all_content_sizes z) (sym e) ∙ c.loop-i.invariant.pushed;
          })
    ]

pub measure_items-measure_item-requires : goal.measure_items-measure_item-requires
measure_items-measure_item-requires t c =
    let vs = c.deref-item-items.result.now in
    let le : sizes (normal_items (items_content vs) (rows_of c.args.node)) ≤ profile_two.limit = rw c.deref-item-items.ensures.value c.requires in
    let e = item_step vs (rows_of c.args.node) c.loop-item.item-index c.item-item.result c.loop-item-test.true c.item-item.is in
    let s = step_small _ _ _ c.loop-item.sum _ e c.loop-item.invariant.so_far le in
    (search (rules, the_lemmas), (rw c.row_at-row.ensures (place_valid c.args.node 0), rw c.row_at-row.ensures s))

pub measure_items-overflow_add-sum : goal.measure_items-overflow_add-sum
measure_items-overflow_add-sum t c =
    let vs = c.deref-item-items.result.now in
    let le : sizes (normal_items (items_content vs) (rows_of c.args.node)) ≤ profile_two.limit = rw c.deref-item-items.ensures.value c.requires in
    let e = item_step vs (rows_of c.args.node) c.loop-item.item-index c.item-item.result c.loop-item-test.true c.item-item.is in
    let m = rw (c.row_at-row.ensures) at c.in_ok-sum.ensures in
    let s = step_sum c.loop-item.out.items c.measure_item.new.out.items _ _ _ c.loop-item.sum c.in_ok-sum.field-0 _ e m c.loop-item.invariant.so_far in
    omega (arith, s, le)

pub measure_items-loop-item-preserved : goal.measure_items-loop-item-preserved
measure_items-loop-item-preserved t c =
    let vs = c.deref-item-items.result.now in
    let e = item_step vs (rows_of c.args.node) c.loop-item.item-index c.item-item.result c.loop-item-test.true c.item-item.is in
    let m = rw (c.row_at-row.ensures) at c.in_ok-sum.ensures in
    record {
      so_far = step_sum c.loop-item.out.items c.measure_item.new.out.items _ _ _ c.loop-item.sum c.in_ok-sum.field-0 _ e m c.loop-item.invariant.so_far;
      pushed = step_pushed c.loop-item.out.items c.measure_item.new.out.items _ _ _ _ c.in_ok-sum.field-0 e m c.loop-item.invariant.pushed;
    }

pub measure_value-returns-in-Flag : goal.measure_value-returns-in-Flag
measure_value-returns-in-Flag t c =
    let e = leaf_tree c.args.replaced c.args.node _ (flag c.in-Flag.flag) _ (ap content_of c.in-Flag.is ∙ content_of-Flag c.in-Flag.flag) c.element_tag-tag.ensures in
    (c.leaf_size.ensures ∙ ap size (sym e), sym (ap (λ T. c.args.out.now.items ++ content_sizes T) e ∙ append-nil c.args.out.now.items))

pub measure_value-returns-in-Date : goal.measure_value-returns-in-Date
measure_value-returns-in-Date t c =
    let e = leaf_tree c.args.replaced c.args.node _ (date c.in-Date.text) _ (ap content_of c.in-Date.is ∙ content_of-Date c.in-Date.text) c.element_tag-tag.ensures in
    (c.leaf_size-in-Date.ensures ∙ ap size (sym e), sym (ap (λ T. c.args.out.now.items ++ content_sizes T) e ∙ append-nil c.args.out.now.items))

pub measure_value-returns-in-Time : goal.measure_value-returns-in-Time
measure_value-returns-in-Time t c =
    let e = leaf_tree c.args.replaced c.args.node _ (time c.in-Time.text) _ (ap content_of c.in-Time.is ∙ content_of-Time c.in-Time.text) c.element_tag-tag.ensures in
    (c.leaf_size-in-Time.ensures ∙ ap size (sym e), sym (ap (λ T. c.args.out.now.items ++ content_sizes T) e ∙ append-nil c.args.out.now.items))

pub measure_value-returns-in-Print : goal.measure_value-returns-in-Print
measure_value-returns-in-Print t c =
    let e = leaf_tree c.args.replaced c.args.node _ (printable c.in-Print.text) _ (ap content_of c.in-Print.is ∙ content_of-Print c.in-Print.text) c.element_tag-tag.ensures in
    (c.leaf_size-in-Print.ensures ∙ ap size (sym e), sym (ap (λ T. c.args.out.now.items ++ content_sizes T) e ∙ append-nil c.args.out.now.items))

pub measure_value-returns-in-Str : goal.measure_value-returns-in-Str
measure_value-returns-in-Str t c =
    let e = leaf_tree c.args.replaced c.args.node _ (string_value c.in-Str.text) _ (ap content_of c.in-Str.is ∙ content_of-Str c.in-Str.text) c.element_tag-tag.ensures in
    (c.string_size.ensures ∙ ap size (sym e), sym (ap (λ T. c.args.out.now.items ++ content_sizes T) e ∙ append-nil c.args.out.now.items))

pub measure_value-string_size-requires-clause-small : goal.measure_value-string_size-requires-clause-small
measure_value-string_size-requires-clause-small t c =
    let e = leaf_tree c.args.replaced c.args.node _ (string_value c.in-Str.text) _ (ap content_of c.in-Str.is ∙ content_of-Str c.in-Str.text) c.element_tag-tag.ensures in
    subst (λ T. size T ≤ profile_two.limit) e c.requires.small

use Rattle.std.proofs.Common.{Some, None, ◌+◌, refl, sym, ap, ◌∙◌, arith}
use Rattle.ber_core.specs.Der.{sizes}
use Rattle.ber_tree.specs.Tree.{none, more}
use Rattle.ber_leaf.specs.Simple.{flag, whole, date, time, printable}
use Rattle.ber_leaf.specs.Strings.{string_value}
use Rattle.ill_schema.specs.Content.{sequence, list, alternative}
use Rattle.ill_schema.specs.Elements.{element_tree}
use Rattle.ill_schema.specs.Normal.{normal_trees, normal_items}
use Rattle.ill_tables.specs.Table.{kind_of, rows_of}
use Rattle.ill_schema.specs.Value.{content_of, entries_content, items_content}
use Rattle.ill_schema.proofs.Contents.{content_of-Flag, content_of-Whole, content_of-Date, content_of-Time, content_of-Print, content_of-Str, content_of-Seq, content_of-List, content_of-Alt}
use Rattle.ill_schema.proofs.Sizes.{leaf_sized, inside_sized, inside_passes, step_sum, part_passes, sum_passes}
use Rattle.ill_schema.proofs.Trees.{wrapped, sequence_tree, list_tree, no_row_tree, entry_step, absent_step, item_step}
use Rattle.ill_schema.proofs.size.+size.Goals as goal
use Rattle.ill_schema.proofs.size.+size.Goals.{entries_size-in-Some+in_ok-present_size+in_ok-sum, entries_size-in_default}

pub value_size-returns-in-Flag : goal.value_size-returns-in-Flag
value_size-returns-in-Flag t c =
    leaf_sized c.args.replaced c.args.node _ (flag c.in-Flag.flag) _ _ (ap content_of c.in-Flag.is ∙ content_of-Flag c.in-Flag.flag) c.normal_size.ensures c.element_size.ensures

pub value_size-returns-in-Whole : goal.value_size-returns-in-Whole
value_size-returns-in-Whole t c =
    leaf_sized c.args.replaced c.args.node _ (whole c.in-Whole.number) _ _ (ap content_of c.in-Whole.is ∙ content_of-Whole c.in-Whole.number) c.normal_size-in-Whole.ensures c.element_size-in-Whole.ensures

pub value_size-returns-in-Date : goal.value_size-returns-in-Date
value_size-returns-in-Date t c =
    leaf_sized c.args.replaced c.args.node _ (date c.in-Date.text) _ _ (ap content_of c.in-Date.is ∙ content_of-Date c.in-Date.text) c.normal_size-in-Date.ensures c.element_size-in-Date.ensures

pub value_size-returns-in-Time : goal.value_size-returns-in-Time
value_size-returns-in-Time t c =
    leaf_sized c.args.replaced c.args.node _ (time c.in-Time.text) _ _ (ap content_of c.in-Time.is ∙ content_of-Time c.in-Time.text) c.normal_size-in-Time.ensures c.element_size-in-Time.ensures

pub value_size-returns-in-Print : goal.value_size-returns-in-Print
value_size-returns-in-Print t c =
    leaf_sized c.args.replaced c.args.node _ (printable c.in-Print.text) _ _ (ap content_of c.in-Print.is ∙ content_of-Print c.in-Print.text) c.normal_size-in-Print.ensures c.element_size-in-Print.ensures

pub value_size-returns-in-Str : goal.value_size-returns-in-Str
value_size-returns-in-Str t c =
    leaf_sized c.args.replaced c.args.node _ (string_value c.in-Str.string) _ _ (ap content_of c.in-Str.is ∙ content_of-Str c.in-Str.string) c.string_size.ensures c.element_size-in-Str.ensures

pub value_size-returns-in_ok-entries_size-in-Seq : goal.value_size-returns-in_ok-entries_size-in-Seq
value_size-returns-in_ok-entries_size-in-Seq t c =
    let is = ap content_of c.in-Seq.is ∙ content_of-Seq c.in-Seq.entries in
    let es = entries_content c.in-Seq.entries.items in
    let T = ap (λ x. element_tree c.args.replaced c.args.node x) is ∙ sequence_tree c.args.replaced c.args.node es in
    inside_sized _ c.args.replaced (kind_of c.args.node) (sequence es) (normal_trees es (rows_of c.args.node)) _ _ T c.in_ok-entries_size-in-Seq.ensures.0 c.element_size-in-Seq.ensures

pub value_size-returns-in_err-entries_size-in-Seq : goal.value_size-returns-in_err-entries_size-in-Seq
value_size-returns-in_err-entries_size-in-Seq t c =
    let is = ap content_of c.in-Seq.is ∙ content_of-Seq c.in-Seq.entries in
    let es = entries_content c.in-Seq.entries.items in
    let T = ap (λ x. element_tree c.args.replaced c.args.node x) is ∙ sequence_tree c.args.replaced c.args.node es in
    rw c.from_residual.ensures (inside_passes _ _ (normal_trees es (rows_of c.args.node)) T c.in_err-entries_size-in-Seq.ensures)

pub value_size-returns-in_ok-items_size-in-List : goal.value_size-returns-in_ok-items_size-in-List
value_size-returns-in_ok-items_size-in-List t c =
    let is = ap content_of c.in-List.is ∙ content_of-List c.in-List.items in
    let vs = items_content c.in-List.items.items in
    let T = ap (λ x. element_tree c.args.replaced c.args.node x) is ∙ list_tree c.args.replaced c.args.node vs in
    inside_sized _ c.args.replaced (kind_of c.args.node) (list vs) (normal_items vs (rows_of c.args.node)) _ _ T c.in_ok-items_size-in-List.ensures.0 c.element_size-in-List.ensures

pub value_size-returns-in-None : goal.value_size-returns-in-None
value_size-returns-in-None t c =
    let is = ap content_of c.in-Alt.is ∙ content_of-Alt c.in-Alt.number c.in-Alt.chosen in
    let chosen = content_of c.in-Alt.chosen.value in
    let T = ap (λ x. element_tree c.args.replaced c.args.node x) is ∙ no_row_tree c.args.replaced c.args.node c.in-Alt.number chosen (sym c.row.ensures ∙ c.in-None.is) in
    inside_sized _ c.args.replaced (kind_of c.args.node) (alternative c.in-Alt.number chosen) none _ _ T refl c.element_size-in-None.ensures

pub row_size-returns-in_ok-value_size-in-Some : goal.row_size-returns-in_ok-value_size-in-Some
row_size-returns-in_ok-value_size-in-Some t c =
    let d = content_of c.args.value.now in
    let inside = element_tree None c.args.row.node d in
    let T = wrapped c.args.row d c.in-Some.tag (sym c.wrapper.ensures ∙ c.in-Some.is) in
    inside_sized _ (Some c.in-Some.tag) (kind_of c.args.row.node) d (more inside none) _ _ T (omega (arith, c.in_ok-value_size-in-Some.ensures.0)) c.element_size.ensures

pub entries_size-returns-in_err-present_size : goal.entries_size-returns-in_err-present_size
entries_size-returns-in_err-present_size t c =
    let es = c.deref-entry-items.result.now in
    let e = entry_step es (rows_of c.args.node) c.loop-i.i (Some c.in-Some.value) c.loop-i-test.true (rw c.in-Some.is at c.entry-item.is) in
    rw (c.from_residual.ensures, ← c.deref-entry-items.ensures.value)
    (part_passes _ _ _ c.loop-i.sum _ e c.loop-i.invariant.so_far (rw c.row_at.ensures at c.in_err-present_size.ensures))

pub entries_size-returns-in_err-sum : goal.entries_size-returns-in_err-sum
entries_size-returns-in_err-sum t c =
    let es = c.deref-entry-items.result.now in
    let e = entry_step es (rows_of c.args.node) c.loop-i.i (Some c.in-Some.value) c.loop-i-test.true (rw c.in-Some.is at c.entry-item.is) in
    let part = rw c.row_at.ensures at c.in_ok-present_size.ensures in
    rw (c.from_residual-in_err-sum.ensures, ← c.deref-entry-items.ensures.value)
    (sum_passes _ _ _ c.loop-i.sum _ _ e part.0 c.loop-i.invariant.so_far c.in_err-sum.ensures)

pub entries_size-loop-i-preserved : goal.entries_size-loop-i-preserved
entries_size-loop-i-preserved t c =
    let es = c.deref-entry-items.result.now in
    elim c.match-entry.branch [
      | entries_size-in-Some+in_ok-present_size+in_ok-sum w ↦
          let e = entry_step es (rows_of c.args.node) c.loop-i.i (Some w.in-Some.value) c.loop-i-test.true (rw w.in-Some.is at c.entry-item.is) in
          let part = rw w.row_at.ensures at w.in_ok-present_size.ensures in
          let sum = w.in_ok-sum.ensures in
          rw (w.sum-is, sum.0) (record { so_far = step_sum _ _ _ c.loop-i.sum _ _ e part.0 c.loop-i.invariant.so_far; within = rw sum.0 at sum.1 })
      | entries_size-in_default w ↦
          let e = absent_step es (rows_of c.args.node) c.loop-i.i c.loop-i-test.true (rw w.in_default.is at c.entry-item.is) in
          rw w.sum-is (record { so_far = ap (λ z. c.loop-i.sum + sizes z) (sym e) ∙ c.loop-i.invariant.so_far; within = c.loop-i.invariant.within })
    ]

pub items_size-returns-in_err-item_size : goal.items_size-returns-in_err-item_size
items_size-returns-in_err-item_size t c =
    let vs = c.deref-item-items.result.now in
    let e = item_step vs (rows_of c.args.node) c.loop-item.item-index c.item-item.result c.loop-item-test.true c.item-item.is in
    rw (c.from_residual.ensures, ← c.deref-item-items.ensures.value)
    (part_passes _ _ _ c.loop-item.sum _ e c.loop-item.invariant.so_far (rw c.row_at-row.ensures at c.in_err-item_size.ensures))

pub items_size-returns-in_err-sum : goal.items_size-returns-in_err-sum
items_size-returns-in_err-sum t c =
    let vs = c.deref-item-items.result.now in
    let e = item_step vs (rows_of c.args.node) c.loop-item.item-index c.item-item.result c.loop-item-test.true c.item-item.is in
    let part = rw c.row_at-row.ensures at c.in_ok-item_size.ensures in
    rw (c.from_residual-in_err-sum.ensures, ← c.deref-item-items.ensures.value)
    (sum_passes _ _ _ c.loop-item.sum _ _ e part.0 c.loop-item.invariant.so_far c.in_err-sum.ensures)

pub items_size-loop-item-preserved : goal.items_size-loop-item-preserved
items_size-loop-item-preserved t c =
    let vs = c.deref-item-items.result.now in
    let e = item_step vs (rows_of c.args.node) c.loop-item.item-index c.item-item.result c.loop-item-test.true c.item-item.is in
    let part = rw c.row_at-row.ensures at c.in_ok-item_size.ensures in
    let sum = c.in_ok-sum.ensures in
    record { so_far = rw sum.0 (step_sum _ _ _ c.loop-item.sum _ _ e part.0 c.loop-item.invariant.so_far); within = sum.1 }

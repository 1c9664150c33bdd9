use Rattle.std.proofs.Common.{inl, inr, ◌≡◌, ◌∙◌, refl, ap, sym, true, false, not, ◌∷◌, Some, drop, arith, rules, Bool}
use Rattle.ill_grammar.specs.declared.outline.Mark.TheVariants as mark
use Rattle.ill_text.specs.Shown.{lines_of, part}
use Rattle.ill_grammar.specs.code.MarkedOctets.{is_of_module}
use Rattle.ill_text.specs.Shown.{entry_text}
use Rattle.ill_grammar.specs.Marks.{is_there}
use Rattle.ill_text.specs.code.FieldPaths.{place_of}
use Rattle.ill_grammar.proofs.MarkedValues.{alternative_first, entry_absent, entry_there, leaf_first, list_first, module_first, no_mark, none_begins, not_false, not_some, not_true, nothing_begins, absent_first, sequence_first, some_left, starts}
use Rattle.ill_text.proofs.Lines.{entries_ended, entries_more, entries_none, item_place, items_end, items_line, items_more, items_none, items_some, part_place, sequence_none, sequence_some}
use Rattle.ill_text.proofs.Sent.{adds_as, adds_nothing}
use Rattle.ill_text.proofs.show.+show.Goals as goal

pub put_entries-rows-init : goal.put_entries-rows-init
put_entries-rows-init g t c = record { reached = λ es ms rest h e. entries_none _ es rest _ ms _ (adds_nothing _) h e; shorter = omega arith; stays = λ h. h }

pub put_entries-rows-preserved-then-some : goal.put_entries-rows-preserved-then-some
put_entries-rows-preserved-then-some g t c =
    let no : c.is_at_end.result ≡ false = search rules in
    let yes : c.rows.some ≡ true = search rules in
    let on = sym c.is_at_end.ensures ∙ no in
    record {
      reached = λ es ms rest h e. entries_more _ es rest _ _ c.rows.i c.rows.some c.put_entry-there.result.1 c.rows.some _ _ _ (c.rows.invariant.reached es ms rest h e) on c.put_entry-there.ensures.adds
          (yes ∙ ap (λ (b : Bool). elim b as (λ _. Bool) [ true ↦ true | false ↦ c.put_entry-there.result.1 ]) (sym yes));
      shorter = omega (arith, c.rows.invariant.shorter, c.put_entry-there.ensures.shorter (some_left _ on));
      stays = λ h. c.put_entry-there.ensures.stays (c.rows.invariant.stays h);
    }

pub put_entries-rows-preserved : goal.put_entries-rows-preserved
put_entries-rows-preserved g t c =
    let no : c.is_at_end.result ≡ false = search rules in
    let none : c.rows.some ≡ false = search rules in
    let on = sym c.is_at_end.ensures ∙ no in
    record {
      reached = λ es ms rest h e. entries_more _ es rest _ _ c.rows.i c.rows.some c.put_entry-there.result.1 _ _ _ _ (c.rows.invariant.reached es ms rest h e) on c.put_entry-there.ensures.adds
          (ap (λ (b : Bool). elim b as (λ _. Bool) [ true ↦ true | false ↦ c.put_entry-there.result.1 ]) (sym none));
      shorter = omega (arith, c.rows.invariant.shorter, c.put_entry-there.ensures.shorter (some_left _ on));
      stays = λ h. c.put_entry-there.ensures.stays (c.rows.invariant.stays h);
    }

pub put_items-items-init : goal.put_items-items-init
put_items-items-init g t c = record { reached = λ is ms rest h e. items_none _ is rest _ ms _ (adds_nothing _) h e; shorter = omega arith; stays = λ h. h }

pub put_items-items-preserved : goal.put_items-items-preserved
put_items-items-preserved g t c =
    let no : c.is_at_end.result ≡ false = search rules in
    let on = sym c.is_at_end.ensures ∙ no in
    record {
      reached = λ is ms rest h e. items_more _ is rest _ _ c.items.i _ _ _ (c.items.invariant.reached is ms rest h e) on c.put_item-left.ensures.adds;
      shorter = omega (arith, c.items.invariant.shorter, c.put_item-left.ensures.shorter (some_left _ on));
      stays = λ h. c.put_item-left.ensures.stays (c.items.invariant.stays h);
    }

pub put_part-returns-clause-adds : goal.put_part-returns-clause-adds
put_part-returns-clause-adds g t c x ms rest h e =
    let done = c.put_value.ensures.adds x ms rest h e in
    let name = c.row_name-name in
    let at = part_place c.args.place.now name.result c.row_node.result c.args.i name.ensures c.row_node.ensures in
    (done.0, adds_as _ _ _ _ (ap (λ p. lines_of p x) at) done.1)

pub put_item-returns-clause-adds : goal.put_item-returns-clause-adds
put_item-returns-clause-adds g t c x ms rest h e =
    let done = c.put_value.ensures.adds x ms rest h e in
    (done.0, adds_as _ _ _ _ (ap (λ p. lines_of p x) (item_place c.args.place.now c.row_node.result c.args.i c.row_node.ensures)) done.1)

pub put_entry-returns-then-is_absent-clause-adds : goal.put_entry-returns-then-is_absent-clause-adds
put_entry-returns-then-is_absent-clause-adds g t c e ms rest h q =
    let yes : c.is_absent.result ≡ true = search rules in
    let a = entry_absent e ms rest c.args.marks.now h q (not_true (is_there e) _ (c.is_absent.ensures e ms rest h q) yes) in
    let no_text = ap (entry_text (part (place_of c.args.place.now) c.args.i)) (sym a.0) in
    (c.after_leading_mark.ensures ∙ a.1, sym (ap is_there a.0), adds_as _ _ _ _ no_text (adds_nothing _))

pub put_entry-returns-clause-adds : goal.put_entry-returns-clause-adds
put_entry-returns-clause-adds g t c e ms rest h q =
    let no : c.is_absent.result ≡ false = search rules in
    let v = entry_there e ms h (not_false (is_there e) _ (c.is_absent.ensures e ms rest h q) no) in
    let done = c.put_part.ensures.adds v.0 ms rest v.2 q in
    (done.0, sym (ap is_there v.1), adds_as _ _ _ _ (ap (entry_text (part (place_of c.args.place.now) c.args.i)) (sym v.1)) done.1)

pub put_entries-returns-then-some-2-clause-adds : goal.put_entries-returns-then-some-2-clause-adds
put_entries-returns-then-some-2-clause-adds g t c es ms rest h e =
    let off : c.is_at_end.result ≡ true = search rules in
    let some : c.rows.some ≡ true = search rules in
    let end = entries_ended _ es rest _ _ _ _ _ (c.rows.invariant.reached es ms rest h e) (sym c.is_at_end.ensures ∙ off) in
    (c.after_leading_mark.ensures ∙ end.0, sequence_some _ es _ _ (end.1 ∙ ap not some) end.2)

pub put_entries-returns-clause-adds : goal.put_entries-returns-clause-adds
put_entries-returns-clause-adds g t c es ms rest h e =
    let off : c.is_at_end.result ≡ true = search rules in
    let none : c.rows.some ≡ false = search rules in
    let end = entries_ended _ es rest _ _ _ _ _ (c.rows.invariant.reached es ms rest h e) (sym c.is_at_end.ensures ∙ off) in
    (c.after_leading_mark-2.ensures ∙ end.0, sequence_none _ es _ _ _ (end.1 ∙ ap not none) end.2 c.put_line.ensures.adds)

pub put_items-returns-then-i-gt0-clause-adds : goal.put_items-returns-then-i-gt0-clause-adds
put_items-returns-then-i-gt0-clause-adds g t c is ms rest h e =
    let off : c.is_at_end.result ≡ true = search rules in
    let end = sym c.is_at_end.ensures ∙ off in
    let r = c.items.invariant.reached is ms rest h e in
    let some : c.items.i ≡ 0 → ⊥ = λ z. absurd (omega (arith, z, c.if-i-gt0.true)) in
    (c.after_leading_mark.ensures ∙ items_end _ is rest _ _ _ _ r end, items_some _ is rest _ _ _ _ r end some)

pub put_items-returns-clause-adds : goal.put_items-returns-clause-adds
put_items-returns-clause-adds g t c is ms rest h e =
    let off : c.is_at_end.result ≡ true = search rules in
    let end = sym c.is_at_end.ensures ∙ off in
    let r = c.items.invariant.reached is ms rest h e in
    let none : c.items.i ≡ 0 = omega (arith, c.if-i-gt0.false) in
    (c.after_leading_mark-2.ensures ∙ items_end _ is rest _ _ _ _ r end, items_line _ is rest _ _ _ _ _ r end none c.put_line.ensures.adds)

pub put_value-returns-in_default-clause-adds : goal.put_value-returns-in_default-clause-adds
put_value-returns-in_default-clause-adds g t c x ms rest h q =
    absurd (nothing_begins x ms rest c.args.marks.now (sym c.leading_mark.ensures ∙ not_some c.leading_mark.result (λ m e. c.in_default.not-Some m e)) h q)

pub put_value-returns-in_default-clause-shorter : goal.put_value-returns-in_default-clause-shorter
put_value-returns-in_default-clause-shorter g t c some =
    let none = no_mark c.args.marks.now (sym c.leading_mark.ensures ∙ not_some c.leading_mark.result (λ m e. c.in_default.not-Some m e)) in
    absurd (omega (arith, some, none))

pub put_value-returns-in-Leaf-clause-adds : goal.put_value-returns-in-Leaf-clause-adds
put_value-returns-in-Leaf-clause-adds g t c x ms rest h q =
    let tail = drop 1 c.args.marks.now in
    let all = starts c.args.marks.now c.in-Some.first (sym c.leading_mark.ensures ∙ c.in-Some.is) ∙ ap (λ m. m ∷ tail) c.in-Leaf.is in
    let f = leaf_first x ms rest tail c.in-Leaf.leaf h (sym all ∙ q) in
    let done = c.put_marked_leaf.ensures.adds f.1 f.0 rest f.2 (c.after_leading_mark-rest.ensures ∙ f.4) in
    (done.0, adds_as _ _ _ _ (ap (lines_of (place_of c.args.place.now)) (sym f.3)) done.1)

pub put_value-returns-in-ModuleLeaf-clause-adds : goal.put_value-returns-in-ModuleLeaf-clause-adds
put_value-returns-in-ModuleLeaf-clause-adds g t c x ms rest h q =
    let tail = drop 1 c.args.marks.now in
    let all = starts c.args.marks.now c.in-Some.first (sym c.leading_mark.ensures ∙ c.in-Some.is) in
    let is : is_of_module c.in-Some.first ≡ true = elim c.in-ModuleLeaf.is [ inl y ↦ ap is_of_module y.1 | inr y ↦ elim y [ inl z ↦ ap is_of_module z | inr z ↦ ap is_of_module z ] ] in
    let f = module_first x ms rest tail c.in-Some.first is h (sym all ∙ q) in
    c.put_module_line.ensures.adds x f.0 rest (place_of c.args.place.now) refl f.1 (c.after_leading_mark-rest.ensures ∙ f.2)

pub put_value-returns-in-Absent-clause-adds : goal.put_value-returns-in-Absent-clause-adds
put_value-returns-in-Absent-clause-adds g t c x ms rest h q =
    let tail = drop 1 c.args.marks.now in
    let all = starts c.args.marks.now c.in-Some.first (sym c.leading_mark.ensures ∙ c.in-Some.is) ∙ ap (λ m. m ∷ tail) c.in-Absent.is in
    let f = absent_first x ms rest tail c.in-Absent.part h (sym all ∙ q) in
    (c.after_leading_mark-rest.ensures ∙ f.1, c.put_default.ensures.adds (Some x) c.args.place.now.node f.0)

pub put_value-returns-in-Alternative-clause-adds : goal.put_value-returns-in-Alternative-clause-adds
put_value-returns-in-Alternative-clause-adds g t c x ms rest h q =
    let tail = drop 1 c.args.marks.now in
    let all = starts c.args.marks.now c.in-Some.first (sym c.leading_mark.ensures ∙ c.in-Some.is) ∙ ap (λ m. m ∷ tail) c.in-Alternative.is in
    let f = alternative_first x ms rest tail c.in-Alternative.row h (sym all ∙ q) in
    let done = c.put_alternative.ensures.adds f.0 f.1 rest f.3 (c.after_leading_mark-rest.ensures ∙ f.4) in
    (done.0, adds_as _ _ _ _ (ap (lines_of (place_of c.args.place.now)) (sym f.2)) done.1)

pub put_value-returns-in-Sequence-clause-adds : goal.put_value-returns-in-Sequence-clause-adds
put_value-returns-in-Sequence-clause-adds g t c x ms rest h q =
    let tail = drop 1 c.args.marks.now in
    let all = starts c.args.marks.now c.in-Some.first (sym c.leading_mark.ensures ∙ c.in-Some.is) ∙ ap (λ m. m ∷ tail) c.in-Sequence.is in
    let f = sequence_first x ms rest tail h (sym all ∙ q) in
    let done = c.put_entries.ensures.adds f.0 f.1 rest f.3 (c.after_leading_mark-rest.ensures ∙ f.4) in
    (done.0, adds_as _ _ _ _ (ap (lines_of (place_of c.args.place.now)) (sym f.2)) done.1)

pub put_value-returns-in-List-clause-adds : goal.put_value-returns-in-List-clause-adds
put_value-returns-in-List-clause-adds g t c x ms rest h q =
    let tail = drop 1 c.args.marks.now in
    let all = starts c.args.marks.now c.in-Some.first (sym c.leading_mark.ensures ∙ c.in-Some.is) ∙ ap (λ m. m ∷ tail) c.in-List.is in
    let f = list_first x ms rest tail h (sym all ∙ q) in
    let done = c.put_items.ensures.adds f.0 f.1 rest f.3 (c.after_leading_mark-rest.ensures ∙ f.4) in
    (done.0, adds_as _ _ _ _ (ap (lines_of (place_of c.args.place.now)) (sym f.2)) done.1)

pub put_value-returns-in-Octet-clause-adds : goal.put_value-returns-in-Octet-clause-adds
put_value-returns-in-Octet-clause-adds g t c x ms rest h q =
    let tail = drop 1 c.args.marks.now in
    let all = starts c.args.marks.now c.in-Some.first (sym c.leading_mark.ensures ∙ c.in-Some.is) ∙ ap (λ m. m ∷ tail) c.in-Octet.is in
    absurd (none_begins x ms rest tail (mark.Octet c.in-Octet.field-0) refl h (sym all ∙ q))

pub put_value-returns-in-End-clause-adds : goal.put_value-returns-in-End-clause-adds
put_value-returns-in-End-clause-adds g t c x ms rest h q =
    let tail = drop 1 c.args.marks.now in
    let all = starts c.args.marks.now c.in-Some.first (sym c.leading_mark.ensures ∙ c.in-Some.is) ∙ ap (λ m. m ∷ tail) c.in-End.is in
    absurd (none_begins x ms rest tail mark.End refl h (sym all ∙ q))

use Rattle.std.proofs.Common.{inl, inr, ◌≡◌, ◌∙◌, refl, ap, sym, true, false, ◌∷◌, [], Some, drop, arith, rules}
use Rattle.ill_grammar.specs.code.MarkedOctets.{is_of_module}
use Rattle.json.specs.Token.{begin_array, begin_object}
use Rattle.ill_grammar.specs.declared.outline.Mark.TheVariants as mark
use Rattle.ill_grammar.proofs.MarkedValues.{alternative_first, entry_absent_first, entry_value, leaf_first, list_first, module_first, no_mark, none_begins, not_some, nothing_begins, absent_first, sequence_first, some_left, starts}
use Rattle.json.specs.Tree.{items_tokens, json_tokens}
use Rattle.ill_json.specs.Json.{item_values, value_json}
use Rattle.ill_json.specs.code.Adding.{entry_tokens}
use Rattle.ill_json.proofs.Added.{adds_as, adds_then}
use Rattle.ill_json.proofs.Tokens.{alone, entries_ended, entries_more, entries_none, in_object, items_ended, items_more, items_none, member}
use Rattle.ill_json.proofs.value.+value.Goals as goal

pub put_entries-rows-init : goal.put_entries-rows-init
put_entries-rows-init t c = record { reached = λ es ms rest h e. entries_none (begin_object ∷ []) _ es rest _ ms _ _ c.put.ensures h e; shorter = omega arith }

pub put_entries-rows-preserved : goal.put_entries-rows-preserved
put_entries-rows-preserved t c =
    let no : c.is_at_end.result ≡ false = search rules in
    let on = sym c.is_at_end.ensures ∙ no in
    record {
      reached = λ es ms rest h e. entries_more _ _ es rest _ _ c.rows.i _ _ _ (c.rows.invariant.reached es ms rest h e) on c.put_entry-left.ensures.adds;
      shorter = omega (arith, c.rows.invariant.shorter, c.put_entry-left.ensures.shorter (some_left _ on));
    }

pub put_items-items-init : goal.put_items-items-init
put_items-items-init t c = record { reached = λ is ms rest h e. items_none (begin_array ∷ []) _ _ is rest _ ms _ _ c.put.ensures h e; shorter = omega arith }

pub put_items-items-preserved : goal.put_items-items-preserved
put_items-items-preserved t c =
    let no : c.is_at_end.result ≡ false = search rules in
    let on = sym c.is_at_end.ensures ∙ no in
    record {
      reached = λ is ms rest h e. items_more _ _ _ is rest _ _ _ _ _ (c.items.invariant.reached is ms rest h e) on c.put_value-left.ensures.adds;
      shorter = omega (arith, c.items.invariant.shorter, c.put_value-left.ensures.shorter (some_left _ on));
    }

pub put_part-returns-clause-adds : goal.put_part-returns-clause-adds
put_part-returns-clause-adds t c x ms rest h e =
    let done = c.put_value.ensures.adds x ms rest h e in
    (done.0, adds_as _ _ _ _ (member c.row_name-name.result.now c.args.node c.row_node.result c.args.i x c.row_name-name.ensures c.row_node.ensures) (adds_then _ _ _ _ _ c.put.ensures done.1))

pub put_alternative-returns-then-is_empty-clause-adds : goal.put_alternative-returns-then-is_empty-clause-adds
put_alternative-returns-then-is_empty-clause-adds t c x name ms rest h e =
    let empty = sym c.is_empty.ensures ∙ c.if-is_empty.true in
    let done = c.put_value.ensures.adds x ms rest h e in
    (done.0, adds_as _ _ _ _ (ap json_tokens (alone _ c.args.node _ c.args.i x name c.row_name-name.ensures c.row_node.ensures empty)) done.1)

pub put_alternative-returns-clause-adds : goal.put_alternative-returns-clause-adds
put_alternative-returns-clause-adds t c x name ms rest h e =
    let some = sym c.is_empty.ensures ∙ c.if-is_empty.false in
    let done = c.put_part-rest.ensures.adds x ms rest h e in
    (done.0, adds_as _ _ _ _ (in_object _ c.args.node c.args.i x name c.row_name-name.ensures some) (adds_then _ _ _ _ _ (adds_then _ _ _ _ _ c.put.ensures done.1) c.put-2.ensures))

pub put_entry-returns-in-Some-clause-adds : goal.put_entry-returns-in-Some-clause-adds
put_entry-returns-in-Some-clause-adds t c e ms rest h q =
    let is = entry_absent_first e ms rest c.args.marks.now c.in-Some.part h q (sym c.absent_row.ensures ∙ c.in-Some.is) in
    (c.after_leading_mark.ensures ∙ is.1, c.put_absent.ensures e is.0)

pub put_entry-returns-in-None-clause-adds : goal.put_entry-returns-in-None-clause-adds
put_entry-returns-in-None-clause-adds t c e ms rest h q =
    let v = entry_value e ms rest c.args.marks.now h q (sym c.absent_row.ensures ∙ c.in-None.is) in
    let done = c.put_part.ensures.adds v.0 ms rest v.2 q in
    (done.0, adds_as _ _ _ _ (ap (entry_tokens c.args.node c.args.i) (sym v.1)) done.1)

pub put_entries-returns-clause-adds : goal.put_entries-returns-clause-adds
put_entries-returns-clause-adds t c es name ms rest h e =
    let off : c.is_at_end.result ≡ true = search rules in
    let end = entries_ended (begin_object ∷ []) _ es rest _ _ _ _ _ (c.rows.invariant.reached es ms rest h e) (sym c.is_at_end.ensures ∙ off) c.put-2.ensures in
    (c.after_leading_mark.ensures ∙ end.0, end.1)

pub put_items-returns-clause-adds : goal.put_items-returns-clause-adds
put_items-returns-clause-adds t c is ms rest h e =
    let off : c.is_at_end.result ≡ true = search rules in
    let end = items_ended (begin_array ∷ []) _ _ is rest _ _ _ _ (c.items.invariant.reached is ms rest h e) (sym c.is_at_end.ensures ∙ off) c.put-2.ensures in
    (c.after_leading_mark.ensures ∙ end.0, adds_as _ _ _ _ (ap (λ n. begin_array ∷ items_tokens (item_values c.args.name.now n is)) c.row_node-inner.ensures) end.1)

pub put_value-returns-in_default-clause-adds : goal.put_value-returns-in_default-clause-adds
put_value-returns-in_default-clause-adds t c x ms rest h q =
    absurd (nothing_begins x ms rest c.args.marks.now (sym c.leading_mark.ensures ∙ not_some c.leading_mark.result (λ m e. c.in_default.not-Some m e)) h q)

pub put_value-returns-in_default-clause-shorter : goal.put_value-returns-in_default-clause-shorter
put_value-returns-in_default-clause-shorter t c some =
    let none = no_mark c.args.marks.now (sym c.leading_mark.ensures ∙ not_some c.leading_mark.result (λ m e. c.in_default.not-Some m e)) in
    absurd (omega (arith, some, none))

pub put_value-returns-in-Leaf-clause-adds : goal.put_value-returns-in-Leaf-clause-adds
put_value-returns-in-Leaf-clause-adds t c x ms rest h q =
    let tail = drop 1 c.args.marks.now in
    let all = starts c.args.marks.now c.in-Some.first (sym c.leading_mark.ensures ∙ c.in-Some.is) ∙ ap (λ m. m ∷ tail) c.in-Leaf.is in
    let f = leaf_first x ms rest tail c.in-Leaf.leaf h (sym all ∙ q) in
    let done = c.put_marked_leaf.ensures.adds f.1 f.0 rest f.2 (c.after_leading_mark-rest.ensures ∙ f.4) in
    (done.0, adds_as _ _ _ _ (ap (λ y. json_tokens (value_json c.args.name.now c.args.node y)) (sym f.3)) done.1)

pub put_value-returns-in-ModuleLeaf-clause-adds : goal.put_value-returns-in-ModuleLeaf-clause-adds
put_value-returns-in-ModuleLeaf-clause-adds t c x ms rest h q =
    let tail = drop 1 c.args.marks.now in
    let all = starts c.args.marks.now c.in-Some.first (sym c.leading_mark.ensures ∙ c.in-Some.is) in
    let is : is_of_module c.in-Some.first ≡ true = elim c.in-ModuleLeaf.is [ inl y ↦ ap is_of_module y.1 | inr y ↦ elim y [ inl z ↦ ap is_of_module z | inr z ↦ ap is_of_module z ] ] in
    let f = module_first x ms rest tail c.in-Some.first is h (sym all ∙ q) in
    c.put_module_value.ensures.adds x c.args.name.now f.0 c.args.node rest f.1 (c.after_leading_mark-rest.ensures ∙ f.2)

pub put_value-returns-in-Absent-clause-adds : goal.put_value-returns-in-Absent-clause-adds
put_value-returns-in-Absent-clause-adds t c x ms rest h q =
    let tail = drop 1 c.args.marks.now in
    let all = starts c.args.marks.now c.in-Some.first (sym c.leading_mark.ensures ∙ c.in-Some.is) ∙ ap (λ m. m ∷ tail) c.in-Absent.is in
    let f = absent_first x ms rest tail c.in-Absent.part h (sym all ∙ q) in
    (c.after_leading_mark-rest.ensures ∙ f.1, c.put_default.ensures (Some x) c.args.node f.0)

pub put_value-returns-in-Alternative-clause-adds : goal.put_value-returns-in-Alternative-clause-adds
put_value-returns-in-Alternative-clause-adds t c x ms rest h q =
    let tail = drop 1 c.args.marks.now in
    let all = starts c.args.marks.now c.in-Some.first (sym c.leading_mark.ensures ∙ c.in-Some.is) ∙ ap (λ m. m ∷ tail) c.in-Alternative.is in
    let f = alternative_first x ms rest tail c.in-Alternative.row h (sym all ∙ q) in
    let done = c.put_alternative.ensures.adds f.0 c.args.name.now f.1 rest f.3 (c.after_leading_mark-rest.ensures ∙ f.4) in
    (done.0, adds_as _ _ _ _ (ap (λ y. json_tokens (value_json c.args.name.now c.args.node y)) (sym f.2)) done.1)

pub put_value-returns-in-Sequence-clause-adds : goal.put_value-returns-in-Sequence-clause-adds
put_value-returns-in-Sequence-clause-adds t c x ms rest h q =
    let tail = drop 1 c.args.marks.now in
    let all = starts c.args.marks.now c.in-Some.first (sym c.leading_mark.ensures ∙ c.in-Some.is) ∙ ap (λ m. m ∷ tail) c.in-Sequence.is in
    let f = sequence_first x ms rest tail h (sym all ∙ q) in
    let done = c.put_entries.ensures.adds f.0 c.args.name.now f.1 rest f.3 (c.after_leading_mark-rest.ensures ∙ f.4) in
    (done.0, adds_as _ _ _ _ (ap (λ y. json_tokens (value_json c.args.name.now c.args.node y)) (sym f.2)) done.1)

pub put_value-returns-in-List-clause-adds : goal.put_value-returns-in-List-clause-adds
put_value-returns-in-List-clause-adds t c x ms rest h q =
    let tail = drop 1 c.args.marks.now in
    let all = starts c.args.marks.now c.in-Some.first (sym c.leading_mark.ensures ∙ c.in-Some.is) ∙ ap (λ m. m ∷ tail) c.in-List.is in
    let f = list_first x ms rest tail h (sym all ∙ q) in
    let done = c.put_items.ensures.adds f.0 f.1 rest f.3 (c.after_leading_mark-rest.ensures ∙ f.4) in
    (done.0, adds_as _ _ _ _ (ap (λ y. json_tokens (value_json c.args.name.now c.args.node y)) (sym f.2)) done.1)

pub put_value-returns-in-Octet-clause-adds : goal.put_value-returns-in-Octet-clause-adds
put_value-returns-in-Octet-clause-adds t c x ms rest h q =
    let tail = drop 1 c.args.marks.now in
    let all = starts c.args.marks.now c.in-Some.first (sym c.leading_mark.ensures ∙ c.in-Some.is) ∙ ap (λ m. m ∷ tail) c.in-Octet.is in
    absurd (none_begins x ms rest tail (mark.Octet c.in-Octet.field-0) refl h (sym all ∙ q))

pub put_value-returns-in-End-clause-adds : goal.put_value-returns-in-End-clause-adds
put_value-returns-in-End-clause-adds t c x ms rest h q =
    let tail = drop 1 c.args.marks.now in
    let all = starts c.args.marks.now c.in-Some.first (sym c.leading_mark.ensures ∙ c.in-Some.is) ∙ ap (λ m. m ∷ tail) c.in-End.is in
    absurd (none_begins x ms rest tail mark.End refl h (sym all ∙ q))

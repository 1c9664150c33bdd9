use Rattle.std.proofs.Common.{◌≡◌, ◌<◌, ◌-◌, suc, List, ℕ, true, get_or, length, IsTrue, refl, sym, subst, ◌∙◌, arith}
use Rattle.std.proofs.lemmas.Bool.Decides.{nat_tests}
use Rattle.ber_tree.specs.Octets.{are_octets}
use Rattle.ber_tree.proofs.Octets.{octets_fit}
use Rattle.ber_core.specs.Id.{form_of_id, tag_of_id}
use Rattle.ber_foreign.specs.Fronts.{BeginsWithTree}
use Rattle.ber_foreign.proofs.Fronts.{constructed_tree, first_tree, no_element, no_tree, no_trees, primitive_tree, tree_before, trees_behind}
use Rattle.ber_foreign.proofs.foreign.+trees.Goals as goal
use Rattle.ber_foreign.proofs.foreign.+trees.Goals.{after_tree-else-constructed-via-then-constructed+else-not-are_trees, after_tree-else-constructed-via-else-constructed}

pub after_tree-returns-in_err-element : goal.after_tree-returns-in_err-element
after_tree-returns-in_err-element t c = rw c.from_residual.ensures (no_element c.args.levels c.args.octets.now c.in_err-element.ensures)

pub after_tree-returns-then-not-are_trees : goal.after_tree-returns-then-not-are_trees
after_tree-returns-then-not-are_trees t c =
    let found = c.in_ok-element.element in
    let levels : suc (c.args.levels - 1) ≡ c.args.levels = omega arith in
    let form : form_of_id found.id ≡ true = sym c.constructed.ensures ∙ c.if-constructed.true in
    subst (λ n. (rest : List ℕ) → BeginsWithTree n c.args.octets.now rest → ⊥) levels
    (no_tree (c.args.levels - 1) c.args.octets.now found.behind.now found.contents.now (tag_of_id found.id) (form_of_id found.id) found.id.valid form (c.if-not-are_trees.ensures.no refl) c.in_ok-element.ensures)

pub after_tree-returns : goal.after_tree-returns
after_tree-returns t c =
    let w = c.args.octets.now in
    let found = c.in_ok-element.element in
    let ok : IsTrue (are_octets w) = octets_fit w (λ k. let h : get_or w k 0 < 256 = omega (arith, c.type_inv.octets k) in h) in
    let levels : suc (c.args.levels - 1) ≡ c.args.levels = omega arith in
    let tree : BeginsWithTree (suc (c.args.levels - 1)) w found.behind.now = elim c.else-constructed.branch [
      | after_tree-else-constructed-via-then-constructed+else-not-are_trees b ↦
          constructed_tree (c.args.levels - 1) w found.behind.now found.contents.now (tag_of_id found.id) (form_of_id found.id) found.id.valid (sym c.constructed.ensures ∙ b.if-constructed.true)
          (b.if-not-are_trees.ensures.yes refl) c.in_ok-element.ensures
      | after_tree-else-constructed-via-else-constructed b ↦
          primitive_tree (c.args.levels - 1) w found.behind.now found.contents.now (tag_of_id found.id) (form_of_id found.id) found.id.valid (sym c.constructed.ensures ∙ b.if-constructed.false) ok c.in_ok-element.ensures
    ] in
    subst (λ n. BeginsWithTree n w found.behind.now) levels tree

pub are_trees-trees-preserved : goal.are_trees-trees-preserved
are_trees-trees-preserved t c = record {
  forth = λ trees. c.trees.invariant.forth (tree_before c.args.levels c.trees.left.now c.in-Some.behind.now c.in-Some.ensures trees);
  back = λ trees. trees_behind c.args.levels c.trees.left.now c.in-Some.behind.now c.in-Some.ensures (c.trees.invariant.back trees);
}

pub are_trees-returns-in-None-clause-no : goal.are_trees-returns-in-None-clause-no
are_trees-returns-in-None-clause-no t c = λ _ trees.
    let some : 0 < length c.trees.left.now = grind (arith, nat_tests) in
    let first = first_tree c.args.levels c.trees.left.now some (c.trees.invariant.back trees) in
    c.in-None.ensures first.0 first.1

pub are_trees-returns-clause-yes : goal.are_trees-returns-clause-yes
are_trees-returns-clause-yes t c = λ _.
    let end : length c.trees.left.now ≡ 0 = grind (arith, nat_tests) in
    c.trees.invariant.forth (no_trees c.args.levels c.trees.left.now end)

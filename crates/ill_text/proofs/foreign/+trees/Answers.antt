use Rattle.std.proofs.Common.{◌≡◌, ◌∙◌, ◌++◌, ◌≤◌, ap, sym, subst, true, false, suc, codes, map, length, IsTrue, ℕ, arith, rules}
use Rattle.ber_core.specs.Foreign.{are_foreign}
use Rattle.ber_tree.specs.Length.{shortest_length}
use Rattle.ill_grammar.specs.declared.outline.Mark.TheVariants as mark
use Rattle.ill_schema.specs.Texts.{hexadecimal}
use Rattle.ill_text.specs.Shown.{content_text, trees_text}
use Rattle.ill_grammar.specs.Marks.{octets_in}
use Rattle.ill_text.proofs.ForeignTrees.{element, no_levels, trees_end, trees_more}
use Rattle.ill_grammar.proofs.MarkedValues.{octets_back}
use Rattle.ill_text.proofs.Sent.{adds_as, adds_nothing, adds_then}
use Rattle.ill_text.proofs.foreign.+trees.Goals as goal

pub put_tree-returns-then-is_constructed-clause-adds : goal.put_tree-returns-then-is_constructed-clause-adds
put_tree-returns-then-is_constructed-clause-adds g t c T rest h e =
    let yes : c.is_constructed.result ≡ true = search rules in
    let el = element c.args.inside T rest h in
    let id = c.split_identifier.ensures.exact el.tag el.form (shortest_length (length el.contents) ++ (el.contents ++ rest)) el.has_identifier (e ∙ ap (map mark.Octet) el.joined) in
    let parts = c.split_contents.ensures.exact el.contents rest id.1 in
    let is = el.constructed (sym (c.is_constructed.ensures el.tag el.form el.has_identifier id.0) ∙ yes) in (
      parts.1,
      adds_as _ _ _ _ (ap (λ o. hexadecimal o ++ codes "{" ++ trees_text is.0 ++ codes "}") (ap octets_in id.0 ∙ octets_back _) ∙ sym is.3)
          (adds_then _ _ _ _ _ (adds_then _ _ _ _ _ (adds_then _ _ _ _ _ c.put_hexadecimal.ensures.adds c.put.ensures.adds) (c.put_trees.ensures.adds is.0 is.1 (parts.0 ∙ ap (map mark.Octet) is.2))) c.put-then-is_constructed.ensures.adds),
    )

pub put_tree-returns-clause-adds : goal.put_tree-returns-clause-adds
put_tree-returns-clause-adds g t c T rest h e =
    let no : c.is_constructed.result ≡ false = search rules in
    let el = element c.args.inside T rest h in
    let id = c.split_identifier.ensures.exact el.tag el.form (shortest_length (length el.contents) ++ (el.contents ++ rest)) el.has_identifier (e ∙ ap (map mark.Octet) el.joined) in
    let parts = c.split_contents.ensures.exact el.contents rest id.1 in
    let is = el.primitive (sym (c.is_constructed.ensures el.tag el.form el.has_identifier id.0) ∙ no) in (
      parts.1,
      adds_as _ _ _ _ (ap (λ o. hexadecimal o ++ codes ":" ++ content_text el.contents) (ap octets_in id.0 ∙ octets_back _) ∙ sym is)
          (adds_then _ _ _ _ _ (adds_then _ _ _ _ _ c.put_hexadecimal.ensures.adds c.put-2.ensures.adds) (c.put_content.ensures.adds el.contents parts.0)),
    )

pub put_trees-returns-in_default-clause-adds : goal.put_trees-returns-in_default-clause-adds
put_trees-returns-in_default-clause-adds g t c ts h e =
    let none : c.args.levels ≡ 0 = search rules in
    adds_as _ _ _ _ (sym (no_levels ts (subst (λ (n : ℕ). IsTrue (are_foreign n ts)) none h))) (adds_nothing _)

pub put_trees-trees-preserved : goal.put_trees-trees-preserved
put_trees-trees-preserved g t c =
    let some : c.is_empty.result ≡ false = search rules in
    let on : 1 ≤ length c.trees.left.now = search rules in
    let inside : c.args.levels ≡ suc c.in-Some.inside = omega arith in
    record {
      reached = λ ts h e. trees_more c.args.levels c.in-Some.inside ts _ _ _ _ _ _ inside (c.trees.invariant.reached ts h e) on c.put_tree-left.ensures.adds c.put_blank.ensures.adds;
      stays = λ h. c.put_blank.ensures.stays (c.put_tree-left.ensures.stays (c.trees.invariant.stays h));
    }

pub put_trees-returns-clause-adds : goal.put_trees-returns-clause-adds
put_trees-returns-clause-adds g t c ts h e =
    let end : length c.trees.left.now ≡ 0 = search rules in
    trees_end c.args.levels ts _ _ _ (c.trees.invariant.reached ts h e) end

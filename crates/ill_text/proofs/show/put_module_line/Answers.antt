use Rattle.std.proofs.Common.{◌≡◌, ◌+◌, ◌-◌, ◌∙◌, ◌++◌, ap, ap₂, sym, subst, subst₂, ℕ, List, length, take, drop, arith, codes}
use Rattle.ber_leaf.specs.Leaf.{Leaf, bit_string, value}
use Rattle.ill_grammar.specs.LeafTypes.{IsContentIn, module_leaf_is}
use Rattle.ill_grammar.specs.Marks.{leading_octets}
use Rattle.ill_text.specs.Shown.{Place, leaf_text, line, lines_of, tree_text}
use Rattle.ill_grammar.specs.code.MarkedOctets.{IsLeafOf, SaysOctets}
use Rattle.ill_schema.specs.Content.{Content}
use Rattle.ill_text.specs.code.Sending.{Adds, Sending, sending}
use Rattle.ill_text.specs.code.FieldPaths.{path_of}
use Rattle.ill_grammar.proofs.MarkedValues.{leaf_parts, says_nothing, whole_rest}
use Rattle.ill_text.proofs.Sent.{adds_as}
use Rattle.ill_text.proofs.show.put_module_line.Goals as goal
use Rattle.ill_text.proofs.show.put_module_line.Goals.{in-ModuleLeaf, in-BitString, in-Foreign, in_default}

-- the line of a leaf, of its octets where they stand
leaf_line : (path : List ℕ) (l : Leaf) (c : Content) (octets o : List ℕ) (p : Place) (a b : Sending) → p.path ≡ path → o ≡ octets → (k : IsLeafOf l c octets) → (IsContentIn k.0 l o → Adds (line path (leaf_text p.name (value l o))) a b) → Adds (lines_of p c) a b
leaf_line path l c octets o p a b at same k put =
    adds_as _ _ _ _ (ap₂ (λ x y. line x (leaf_text p.name (value l y))) (sym at) same ∙ ap (lines_of p) (sym k.2)) (put (subst (IsContentIn k.0 l) (sym same) k.1))

pub returns-clause-adds : goal.returns-clause-adds
returns-clause-adds g c x octets rest p here is e =
    let marks = c.args.marks.now in
    let path = path_of c.args.path.now in
    let old = sending (g.W.Sink.contents c.args.sink.now) (g.W.Sink.is_broken c.args.sink.now) c.args.out.now in
    let left : (n : ℕ) → n ≡ leading_octets marks → c.match-first.count ≡ n → take (length marks - c.min.result) (drop c.min.result marks) ≡ rest = λ n exact count.
    let parts = leaf_parts octets rest marks n e exact in
    let at : c.min.result ≡ n + 1 = omega (arith, c.min.ensures, parts.2, count) in
    ap (λ (k : ℕ). take (length marks - k) (drop k marks)) at ∙ whole_rest (n + 1) marks ∙ parts.1 in
    let put : (s : _) (o : _) → c.match-first.sink ≡ s → c.match-first.out ≡ o → Adds (lines_of p x) old (sending (g.W.Sink.contents s) (g.W.Sink.is_broken s) o) → Adds (lines_of p x) old (sending (g.W.Sink.contents c.match-first.sink) (g.W.Sink.is_broken c.match-first.sink) c.match-first.out) =
    λ s o f q done. subst₂ (λ u v. Adds (lines_of p x) old (sending (g.W.Sink.contents u) (g.W.Sink.is_broken u) v)) (sym f) (sym q) done in
    elim c.match-first.branch [
      | in-ModuleLeaf w ↦
          let call = w.put_module_leaf-count in
          let same = (leaf_parts octets rest marks call.result e call.ensures.exact).0 in
          let k = subst (λ m. SaysOctets m x octets) w.in-ModuleLeaf.is is in
          (left call.result call.ensures.exact w.count-is, put _ _ w.sink-is w.out-is (leaf_line path (module_leaf_is w.in-ModuleLeaf.leaf) x octets _ p _ _ here same k (call.ensures.adds k.0 p.name)))
      | in-BitString w ↦
          let call = w.put_bits-count in
          let same = (leaf_parts octets rest marks call.result e call.ensures.exact).0 in
          let k = subst (λ m. SaysOctets m x octets) w.in-BitString.is is in
          (left call.result call.ensures.exact w.count-is, put _ _ w.sink-is w.out-is (leaf_line path bit_string x octets _ p _ _ here same k (call.ensures.adds k.0 p.name)))
      | in-Foreign w ↦
          let call = w.put_foreign-count in
          let same = (leaf_parts octets rest marks call.result e call.ensures.exact).0 in
          let k = subst (λ m. SaysOctets m x octets) w.in-Foreign.is is in
          (left call.result call.ensures.exact w.count-is, put _ _ w.sink-is w.out-is (adds_as _ _ _ _ (ap (λ (y : List ℕ). line y (codes "foreign " ++ tree_text k.0)) (sym here) ∙ ap (lines_of p) (sym k.2)) (call.ensures.adds k.0 k.1 (same ∙ k.3))))
      | in_default w ↦ absurd (says_nothing c.args.first x octets w.in_default.not-ModuleLeaf w.in_default.not-BitString w.in_default.not-Foreign is)
    ]

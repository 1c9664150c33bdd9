use Rattle.std.proofs.Common.{◌≡◌, ◌∙◌, ◌++◌, ap, sym, codes, List, ℕ, rules, true, false, subst₂}
use Rattle.ill_text.specs.code.Sending.{Adds, sending}
use Rattle.ill_text.specs.code.FieldPaths.{path_of, is_nothing}
use Rattle.ill_grammar.proofs.MarkedValues.{not_false, not_true}
use Rattle.ill_text.proofs.Lines.{path_of-Start, path_of-Row, path_of-Item, some_name, within_some, within_none}
use Rattle.ill_text.proofs.Sent.{adds_as, adds_nothing, adds_then}
use Rattle.ill_text.proofs.field_path.+path.Goals as goal
use Rattle.ill_text.proofs.field_path.+path.Goals.{then-some, else-some}

pub returns-in-Start-clause-adds : goal.returns-in-Start-clause-adds
returns-in-Start-clause-adds g t c = adds_as _ _ _ _ (sym (ap path_of c.in-Start.is ∙ path_of-Start)) (adds_nothing _)

pub returns-after-some-clause-adds : goal.returns-after-some-clause-adds
returns-after-some-clause-adds g t c =
    let path = path_of c.in-Row.outer.now in
    let name = c.in-Row.name.now in
    let row = ap path_of c.in-Row.is ∙ path_of-Row c.in-Row.outer c.in-Row.name in
    let put : (s : _) (o : _) → c.if-some.sink ≡ s → c.if-some.out ≡ o → Adds c.as_bytes.result.now (sending (g.W.Sink.contents s) (g.W.Sink.is_broken s) o) _ =
    λ s o e f. subst₂ (λ x y. Adds c.as_bytes.result.now (sending (g.W.Sink.contents x) (g.W.Sink.is_broken x) y) _) e f c.put-in-Row.ensures.adds in
    elim c.if-some.branch [
      | then-some w ↦
          let yes : c.put_path-some.result ≡ true = search rules in
          let some : is_nothing path ≡ false = not_true (is_nothing path) _ c.put_path-some.ensures.some yes in
          adds_as _ _ _ _ (ap (λ (n : List ℕ). path ++ (codes "." ++ n)) c.as_bytes.ensures.value ∙ sym (row ∙ within_some path name some (some_name name c.if-is_empty.ensures)))
          (adds_then _ _ _ _ _ c.put_path-some.ensures.adds (adds_then _ _ _ _ _ w.put.ensures.adds (put _ _ w.sink-is w.out-is)))
      | else-some w ↦
          let no : c.put_path-some.result ≡ false = search rules in
          let none : is_nothing path ≡ true = not_false (is_nothing path) _ c.put_path-some.ensures.some no in
          adds_as _ _ _ _ (ap (λ (n : List ℕ). path ++ n) c.as_bytes.ensures.value ∙ sym (row ∙ within_none path name none))
          (adds_then _ _ _ _ _ c.put_path-some.ensures.adds (put _ _ w.sink-is w.out-is))
    ]

pub returns-in-Item-clause-adds : goal.returns-in-Item-clause-adds
returns-in-Item-clause-adds g t c =
    let path = path_of c.in-Item.outer.now in
    adds_as _ _ _ _ (ap (λ (d : List ℕ). path ++ codes "[" ++ d ++ codes "]") (c.as_bytes-in-Item.ensures.value ∙ c.format.ensures.text) ∙ sym (ap path_of c.in-Item.is ∙ path_of-Item c.in-Item.outer c.in-Item.i))
    (adds_then _ _ _ _ _ (adds_then _ _ _ _ _ (adds_then _ _ _ _ _ c.put_path.ensures.adds c.put-in-Item.ensures.adds) c.put-in-Item-2.ensures.adds) c.put-in-Item-3.ensures.adds)

use Rattle.std.proofs.Common.{◌≡◌, ◌∙◌, ◌++◌, ◌-◌, ap, ap₂, sym, append-nil, Some, None, drop, [], List, ℕ}
use Rattle.ill_tables.specs.declared.node.NodeId.{NodeId}
use Rattle.ill_schema.specs.Profiles.{profile_of}
use Rattle.ill_text.specs.Shown.{Place, lines_of}
use Rattle.ill_grammar.specs.Marks.{alternative_in}
use Rattle.ill_text.specs.code.FieldPaths.{head_line, place_at}
use Rattle.ill_text.specs.declared.field_path.FieldPath.{Start}
use Rattle.ill_text.proofs.Lines.{body_lines, path_of-Start}
use Rattle.ill_text.proofs.Sent.{adds_as, adds_then}
use Rattle.ill_text.proofs.text.put_marks.Goals as goal

pub returns-in-Some-clause-adds : goal.returns-in-Some-clause-adds
returns-in-Some-clause-adds g c a h =
    let found : Some (a.number - 1) ≡ Some c.in-Some.row = sym (ap alternative_in h.1) ∙ sym c.alternative.ensures ∙ c.in-Some.is in
    let row : c.in-Some.row ≡ a.number - 1 = cc in
    let lines = c.put_value.ensures.adds a.body h.0 [] h.2 (c.after_leading_mark.ensures ∙ ap (drop 1) h.1 ∙ sym (append-nil h.0)) in
    let place = ap₂ (λ (x : List ℕ) (n : NodeId). let p : Place = record { path = x; name = []; node = n } in p) path_of-Start c.row_node.ensures in
    adds_as _ _ _ _ (ap (λ (n : List ℕ). head_line c.args.number n ++ lines_of (place_at Start [] c.row_node.result) a.body) c.row_name.ensures
    ∙ body_lines (profile_of c.args.profile) c.args.number c.in-Some.row c.root_as-root.result a _ c.root_as-root.ensures row place)
    (adds_then _ _ _ _ _ c.put_head.ensures.adds lines.1)

pub returns-in-None-clause-adds : goal.returns-in-None-clause-adds
returns-in-None-clause-adds g c a h = absurd (let q : Some (a.number - 1) ≡ None = sym (ap alternative_in h.1) ∙ sym c.alternative.ensures ∙ c.in-None.is in cc)

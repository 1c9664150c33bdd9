use Rattle.std.proofs.Common.{◌≡◌, ◌∙◌, ◌-◌, [], ap, sym, append-nil, Some, None, drop}
use Rattle.ill_schema.specs.Profiles.{profile_of}
use Rattle.ill_grammar.specs.Marks.{alternative_in}
use Rattle.ill_tables.specs.Names.{row_name, row_node}
use Rattle.ill_json.proofs.Added.{adds_as, adds_then}
use Rattle.ill_json.proofs.Tokens.{line_same}
use Rattle.ill_json.proofs.line.put_line.Goals as goal

pub returns-in-Some : goal.returns-in-Some
returns-in-Some c a h =
    let found : Some (a.number - 1) ≡ Some c.in-Some.row = sym (ap alternative_in h.1) ∙ sym c.alternative.ensures ∙ c.in-Some.is in
    let row : c.in-Some.row ≡ a.number - 1 = cc in
    let value = c.put_value.ensures.adds a.body h.0 [] h.2 (c.after_leading_mark.ensures ∙ ap (drop 1) h.1 ∙ sym (append-nil h.0)) in
    adds_as _ _ _ _ (line_same (profile_of c.args.profile) _ c.args.head a _ _ c.in-Some.row (c.row_name.ensures ∙ ap (λ n. row_name n c.in-Some.row) c.root_as-root.ensures) (c.row_node-node.ensures ∙ ap (λ n. row_node n c.in-Some.row) c.root_as-root.ensures) row)
    (adds_then _ _ _ _ _ (adds_then _ _ _ _ _ (adds_then _ _ _ _ _ (adds_then _ _ _ _ _ (adds_then _ _ _ _ _ (adds_then _ _ _ _ _ (adds_then _ _ _ _ _ c.put.ensures c.put_file.ensures)
    c.put_start.ensures) c.put_profile.ensures) c.put_normal.ensures) c.put-in-Some.ensures) value.1) c.put-in-Some-2.ensures)

pub returns-in-None : goal.returns-in-None
returns-in-None c a h = absurd (let q : Some (a.number - 1) ≡ None = sym (ap alternative_in h.1) ∙ sym c.alternative.ensures ∙ c.in-None.is in cc)

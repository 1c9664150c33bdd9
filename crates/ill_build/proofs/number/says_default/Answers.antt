use Rattle.std.proofs.Common.{◌≡◌, ◌∙◌, FitsSigned, rules, sym, ap, subst, refl, w64}
use Rattle.std.proofs.lemmas.Int.{to_z-of_z}
use Rattle.std.specs.Prelude.{pos}
use Rattle.std.specs.Ordering.{int_eq}
use Rattle.json.specs.Json.{boolean}
use Rattle.json.specs.Value.{value_view}
use Rattle.ber_leaf.specs.Simple.{whole}
use Rattle.ill_schema.specs.Content.{simple}
use Rattle.ill_schema.specs.Presence.{default_value}
use Rattle.ill_tables.specs.Table.{kind_of}
use Rattle.ill_tables.specs.declared.node.Kind.{Kind}
use Rattle.ill_tables.specs.declared.node.LeafKind.{LeafKind}
use Rattle.ill_build.specs.Said.{IsDefaultAt, LeafSays, Says}
use Rattle.ill_build.proofs.Rows.{default_whole}
use Rattle.ill_build.proofs.number.says_default.Goals as goal

pub returns-then-is_boolean-clause-yes : goal.returns-then-is_boolean-clause-yes
returns-then-is_boolean-clause-yes c t =
    let k : kind_of c.args.row.node ≡ Kind.Leaf LeafKind.Boolean = c.is_boolean.ensures.yes c.if-is_boolean.true in
    let d = c.in-Default.number in
    let v = default_value (kind_of c.args.row.node) d in
    let one : c.is_one.result ≡ int_eq d (pos 1) = search (rules, c.is_one.ensures) in (
      simple v,
      subst (λ p. IsDefaultAt p c.args.row.node (simple v)) (sym c.in-Default.is) refl,
      subst (λ x. LeafSays c.args.name.now (value_view c.args.value.now) (default_value x d)) (sym k) (c.says_flag.ensures.yes t ∙ ap boolean one),
    )

pub returns-else-is_boolean-clause-yes : goal.returns-else-is_boolean-clause-yes
returns-else-is_boolean-clause-yes c t =
    let d = c.in-Default.number in
    let v = default_value (kind_of c.args.row.node) d in
    let said : LeafSays c.args.name.now (value_view c.args.value.now) (whole d) = search (rules, c.says_number.ensures.yes t) in
    let other : kind_of c.args.row.node ≡ Kind.Leaf LeafKind.Boolean → ⊥ = c.is_boolean.ensures.no c.if-is_boolean.false in (
      simple v,
      subst (λ p. IsDefaultAt p c.args.row.node (simple v)) (sym c.in-Default.is) refl,
      subst (LeafSays c.args.name.now (value_view c.args.value.now)) (sym (default_whole (kind_of c.args.row.node) d other)) said,
    )

pub returns-else-is_boolean-clause-no : goal.returns-else-is_boolean-clause-no
returns-else-is_boolean-clause-no c f content e s =
    let d = c.in-Default.number in
    let name = c.args.name.now in
    let node = c.args.row.node in
    let j = value_view c.args.value.now in
    let fits : FitsSigned w64 d = search rules in
    let other : kind_of node ≡ Kind.Leaf LeafKind.Boolean → ⊥ = c.is_boolean.ensures.no c.if-is_boolean.false in
    let is : content ≡ simple (default_value (kind_of node) d) = subst (λ p. IsDefaultAt p node content) c.in-Default.is e in
    let said : LeafSays name j (whole d) = subst (λ x. Says name node j x) (is ∙ ap simple (default_whole (kind_of node) d other)) s in
    c.says_number.ensures.no f (subst (λ z. LeafSays name j (whole z)) (sym (to_z-of_z w64 d fits)) said)

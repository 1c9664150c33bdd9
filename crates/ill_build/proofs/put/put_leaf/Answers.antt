use Rattle.std.proofs.Common.{◌≡◌, ◌++◌, arith, sym, subst, rules, Err}
use Rattle.json.specs.Value.{value_view}
use Rattle.ber_core.specs.Der.{encoding}
use Rattle.ber_tree.specs.Tree.{primitive}
use Rattle.ill_schema.specs.Elements.{tag_at}
use Rattle.ill_schema.specs.Profiles.{profile_of}
use Rattle.ill_tables.specs.Table.{kind_of}
use Rattle.ill_tables.specs.declared.node.Kind.{Kind}
use Rattle.ill_build.specs.Faulty.{IsFaulty, IsLeafFault}
use Rattle.ill_build.specs.Path.{OnRefusal}
use Rattle.ill_build.specs.code.Built.{IsLeafKind, ReadsLeaf}
use Rattle.ill_build.proofs.Choices.{leaf_built, leaf_identified}
use Rattle.ill_build.proofs.Refusals.{leaf_faulty, weaker_stop}
use Rattle.ill_build.proofs.put.put_leaf.Goals as goal

pub read_leaf-requires : goal.read_leaf-requires
read_leaf-requires c = record { leaf = subst IsLeafKind (sym c.kind.ensures) c.requires.leaf }

pub returns-in_err-read-clause-refused : goal.returns-in_err-read-clause-refused
returns-in_err-read-clause-refused c =
    let p = profile_of c.args.context.profile in
    let j = value_view c.args.value.now in
    let kind : kind_of c.args.node ≡ Kind.Choice → ⊥ = λ e. subst IsLeafKind e c.requires.leaf in
    let is : c.from_residual.result ≡ Err c.in_err-read.field-0.0 = grind arith in
    subst (λ r. OnRefusal r (IsFaulty p c.args.name.now c.args.node j)) (sym is)
    (weaker_stop c.in_err-read.field-0.0 (IsLeafFault p c.kind.result c.args.name.now j) (IsFaulty p c.args.name.now c.args.node j)
    (λ cause path h. leaf_faulty p c.args.name.now c.args.node j cause path kind (subst (λ k. IsLeafFault p k c.args.name.now j cause path) c.kind.ensures h)) c.in_err-read.ensures.refused)

pub put_primitive-requires : goal.put_primitive-requires
put_primitive-requires c =
    leaf_identified (profile_of c.args.context.profile) c.kind.result c.args.name.now c.args.replaced (value_view c.args.value.now) c.in_ok-read.read.number c.in_ok-read.read.octets.items _ c.requires.tagged c.in_ok-read.ensures.said c.unwrap_or-tag.ensures

pub returns-clause-said : goal.returns-clause-said
returns-clause-said c =
    let p = profile_of c.args.context.profile in
    let j = value_view c.args.value.now in
    let r = c.in_ok-read.read in
    let reads : ReadsLeaf p (kind_of c.args.node) c.args.name.now j r.number r.octets.items = subst (λ k. ReadsLeaf p k c.args.name.now j r.number r.octets.items) c.kind.ensures c.in_ok-read.ensures.said in
    let grown : c.put_primitive.new.out ≡ c.args.out.now ++ encoding (primitive (tag_at c.unwrap_or-tag.result) r.octets.items) = search rules in
    leaf_built p c.args.name.now c.args.node c.args.replaced j r.number r.octets.items _ _ c.unwrap_or-tag.result reads c.unwrap_or-tag.ensures grown

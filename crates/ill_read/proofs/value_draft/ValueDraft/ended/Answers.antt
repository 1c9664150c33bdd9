use Rattle.std.proofs.Common.{◌∙◌, ℕ, Global, Vec, refl, sym, subst, ap}
use Rattle.ill_tables.specs.declared.profile.Profile.TheVariants.{Two}
use Rattle.ill_read.proofs.ProfileOfPath.{content_two}
use Rattle.ill_grammar.specs.LeafTypes.{IsContentIn, leaf_is}
use Rattle.ill_read.proofs.ValueDrafts.{list_ends, wrapper_ends, loose_wrapper_ends, string_ends}
use Rattle.ill_read.proofs.value_draft.ValueDraft.ended.Goals as goal

pub value-requires : goal.value-requires
value-requires c =
    let octets = c.replace-text.result.items in
    content_two Two (leaf_is c.in-Leaf.leaf) octets refl (subst (IsContentIn Two (leaf_is c.in-Leaf.leaf)) c.deref.ensures.value (c.in-None.ensures.octets, sym c.in-None.ensures.fault))

pub returns-in-None : goal.returns-in-None
returns-in-None c =
    let l = c.in-Leaf.leaf in
    let octets = c.replace-text.result.items in
    let right = subst (IsContentIn Two (leaf_is l)) c.deref.ensures.value (c.in-None.ensures.octets, sym c.in-None.ensures.fault) in
    string_ends c.args.self.now (record c.args.self.now { text = c.replace-text.new.dest }) c.args.frame c.value.result l octets (sym c.element.ensures.element ∙ c.in-Leaf.is)
    (ap (λ (t : Vec ℕ Global). t.items) c.replace-text.ensures.value) right.0 right.1 c.value.ensures refl (ap (λ (t : Vec ℕ Global). t.items) c.replace-text.ensures.after ∙ c.new.ensures.items)

pub returns-in_ok-list-in-List : goal.returns-in_ok-list-in-List
returns-in_ok-list-in-List c =
    list_ends c.args.self.now (record c.args.self.now { held = c.list.new.self }) c.args.frame c.in_ok-list-in-List.field-0 c.in-List.field-0 (sym c.element.ensures.element ∙ c.in-List.is) c.in_ok-list-in-List.ensures refl

pub returns-in-Wrapper : goal.returns-in-Wrapper
returns-in-Wrapper c = wrapper_ends c.args.self.now (record c.args.self.now { held = c.last.new.self }) c.args.frame c.last.result c.in-Wrapper.field-0 (sym c.element.ensures.element ∙ c.in-Wrapper.is) c.last.ensures refl

pub returns-in-Nothing : goal.returns-in-Nothing
returns-in-Nothing c =
    loose_wrapper_ends c.args.self.now (record c.args.self.now { held = c.last-in-Nothing.new.self }) c.args.frame c.last-in-Nothing.result c.in-LooseWrapper.field-0 (sym c.element.ensures.element ∙ c.in-LooseWrapper.is) (sym c.next-in-LooseWrapper.ensures ∙ c.in-Nothing.is)
    c.last-in-Nothing.ensures refl

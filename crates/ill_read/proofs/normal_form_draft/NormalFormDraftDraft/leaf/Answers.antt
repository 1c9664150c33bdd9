use Rattle.std.proofs.Common.{◌∙◌, ◌++◌, [], true, false, Bool, List, ℕ, append-nil, sym, ap, subst}
use Rattle.ber_core.specs.Der.{encoding}
use Rattle.ber_core.specs.Id.{tag_of_id}
use Rattle.ber_tree.specs.Tree.{primitive}
use Rattle.ber_leaf.specs.Leaf.{normal_content, value}
use Rattle.ill_grammar.specs.Places.{alternative_of}
use Rattle.ill_grammar.specs.Due.{IsDueIn, shape, slot_in}
use Rattle.ill_grammar.specs.Due.{due_with}
use Rattle.ill_grammar.specs.declared.element.Element.TheVariants.{Leaf as LeafElement}
use Rattle.ill_grammar.specs.LeafTypes.{leaf_is}
use Rattle.ill_read.proofs.OctetDrafts.{leaf_added}
use Rattle.ill_read.proofs.normal_form_draft.NormalFormDraftDraft.leaf.Goals as goal

pub returns-then-is_default_value : goal.returns-then-is_default_value
returns-then-is_default_value c after l below h due =
    let leaf = c.args.leaf in
    let octets = c.args.content.now in
    let right = c.requires.content in
    let x = encoding (primitive (tag_of_id c.args.reading.id) (normal_content (value (leaf_is leaf) octets))) in
    let left = sym (c.is_default_value.ensures (tag_of_id c.args.reading.id) (shape c.args._place) (subst (λ n. IsDueIn (tag_of_id c.args.reading.id) n (due_with (slot_in c.args.reading.found) (alternative_of c.args.reading.found) (LeafElement leaf))) due.next due.is_due) after) ∙ c.if-is_default_value.true in
    leaf_added c.args._profile c.args.self.now c.args.self.now l below (shape c.args._place) c.args.reading leaf octets h due right.0 right.1
    (sym (append-nil c.args.self.now.octets) ∙ ap (λ (b : Bool). c.args.self.now.octets ++ elim b as (λ _. List ℕ) [ true ↦ [] | false ↦ x ]) (sym left))

pub returns : goal.returns
returns c after l below h due =
    let leaf = c.args.leaf in
    let octets = c.args.content.now in
    let right = c.requires.content in
    let x = encoding (primitive (tag_of_id c.args.reading.id) (normal_content (value (leaf_is leaf) octets))) in
    let kept = sym (c.is_default_value.ensures (tag_of_id c.args.reading.id) (shape c.args._place) (subst (λ n. IsDueIn (tag_of_id c.args.reading.id) n (due_with (slot_in c.args.reading.found) (alternative_of c.args.reading.found) (LeafElement leaf))) due.next due.is_due) after) ∙ c.if-is_default_value.false in
    leaf_added c.args._profile c.args.self.now (record c.args.self.now { octets = c.primitive.new.self }) l below (shape c.args._place) c.args.reading leaf octets h due right.0 right.1
    (c.in_ok-primitive.ensures.encoding c.args.reading.form ∙ ap (λ o. c.args.self.now.octets ++ encoding (primitive (tag_of_id c.args.reading.id) o)) c.normal_content.ensures
    ∙ ap (λ (b : Bool). c.args.self.now.octets ++ elim b as (λ _. List ℕ) [ true ↦ [] | false ↦ x ]) (sym kept))

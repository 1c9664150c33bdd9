use Rattle.std.proofs.Common.{◌≡◌, ◌∙◌, refl, true, false, ap, subst, sym}
use Rattle.ber_core.specs.Id.{id_octets, tag_of_id}
use Rattle.ber_tree.specs.Identifier.{HasIdentifier, identifier}
use Rattle.ill_grammar.specs.Due.{read_as, shape}
use Rattle.ill_read.specs.code.OctetDrafts.{form_of}
use Rattle.ill_grammar.specs.declared.element.Element.{Element as CodeElement}
use Rattle.ill_grammar.specs.declared.element.Element.TheVariants.{BitSegment, BitString, Leaf, ModuleLeaf, Segment}
use Rattle.ill_grammar.specs.declared.leaf_type.LeafType.{LeafType}
use Rattle.ill_grammar.specs.declared.leaf_type.ModuleLeaf.{ModuleLeaf as ModuleLeafType}
use Rattle.ill_read.proofs.OctetDrafts.{octets_opened, segment_opened}
use Rattle.ill_read.proofs.normal_form_draft.NormalFormDraftDraft.open.Goals as goal

constructed : (e : CodeElement) → ((l : LeafType) → e ≡ Leaf l → ⊥) → ((l : ModuleLeafType) → e ≡ ModuleLeaf l → ⊥) → (e ≡ BitString → ⊥) → form_of e ≡ true
constructed (Leaf l) h m b = absurd (h l refl)
constructed (ModuleLeaf l) h m b = absurd (m l refl)
constructed BitString h m b = absurd (b refl)
constructed _ h m b = refl

pub returns-in-Segment : goal.returns-in-Segment
returns-in-Segment c = segment_opened c.args.self.now c.args.self.now (shape c.args._place) c.args.opening c.len-contents_start.result (sym c.element.ensures.element ∙ c.in-Segment.is) refl

pub returns-in_ok-contents_start-in-Leaf : goal.returns-in_ok-contents_start-in-Leaf
returns-in_ok-contents_start-in-Leaf c =
    let o = c.args.opening in
    let is : read_as o.found ≡ Leaf c.in-Leaf.field-0 = sym c.element.ensures.element ∙ c.in-Leaf.is in
    octets_opened c.args.self.now (record c.args.self.now { octets = c.open.new.self }) (shape c.args._place) o c.in_ok-contents_start-in-Leaf.contents_start (id_octets c.string_id.result)
    (λ s. (let q : Leaf c.in-Leaf.field-0 ≡ Segment = sym is ∙ s in cc), λ s. (let q : Leaf c.in-Leaf.field-0 ≡ BitSegment = sym is ∙ s in cc))
    (λ apart.
    let valid : HasIdentifier (tag_of_id o.id) false = record { number = o.id.valid.number; not_end = λ k n. subst (λ e. form_of e ≡ true) is (apart k n) } in
    c.string_id.ensures valid ∙ ap (λ e. identifier (tag_of_id o.id) (form_of e)) (sym is))
    (λ s. absurd (let q : Leaf c.in-Leaf.field-0 ≡ BitString = sym is ∙ s in cc))
    c.in_ok-contents_start-in-Leaf.ensures.octets c.in_ok-contents_start-in-Leaf.ensures.contents_start

pub returns-in_ok-contents_start-in_default : goal.returns-in_ok-contents_start-in_default
returns-in_ok-contents_start-in_default c =
    let o = c.args.opening in
    let is = c.element.ensures.element in
    let other = c.in_default in
    octets_opened c.args.self.now (record c.args.self.now { octets = c.open-in_default.new.self }) (shape c.args._place) o c.in_ok-contents_start-in_default.contents_start (id_octets o.id)
    (λ s. other.not-Segment (is ∙ s), λ s. other.not-BitSegment (is ∙ s))
    (λ apart. ap (identifier (tag_of_id o.id)) (o.form ∙ sym (constructed (read_as o.found) (λ l e. other.not-Leaf l (is ∙ e)) (λ l e. other.not-ModuleLeaf l (is ∙ e)) (λ e. other.not-BitString (is ∙ e)))))
    (λ s. absurd (other.not-BitString (is ∙ s)))
    c.in_ok-contents_start-in_default.ensures.octets c.in_ok-contents_start-in_default.ensures.contents_start

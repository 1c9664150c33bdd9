use Rattle.std.proofs.Common.{◌≡◌, ◌∙◌, ◌++◌, sym, ap, subst, append-nil}
use Rattle.ber_leaf.specs.Leaf.{content_fault}
use Rattle.ill_refusals.specs.Fault.{element_fault, fault}
use Rattle.ill_schema.specs.Profiles.{profile_of}
use Rattle.ill_grammar.specs.Due.{read_as, shape}
use Rattle.ill_grammar.specs.Elements.{element_is}
use Rattle.ill_grammar.specs.LeafTypes.{module_leaf_is}
use Rattle.ill_grammar.specs.Standing.{level_of}
use Rattle.ill_grammar.specs.declared.element.Element.TheVariants.{BitString, Leaf, LooseWrapper, ModuleLeaf}
use Rattle.ill_read.specs.code.Drafts.{IsChecked, IsContentOf, IsRightText, IsTextFault}
use Rattle.ill_read.specs.code.OctetDrafts.{enclosed, written}
use Rattle.ill_read.specs.declared.normal_form_draft.NormalFormDraft.{NormalFormDraft}
use Rattle.ill_read.proofs.ClosedElements.{handed_on}
use Rattle.ill_read.proofs.OctetDrafts.{bit_string_made, bits_at, contents_of, contents_other, leaf_made, loose_text, module_leaf_made, octets_closed, other_made, right_other, text_at}
use Rattle.ill_read.proofs.normal_form_draft.NormalFormDraftDraft.close.Goals as goal
use Rattle.ill_read.proofs.normal_form_draft.NormalFormDraftDraft.close.Goals.{in-ModuleLeaf+in_default-fault, in-Leaf+in_default-fault-2, in-BitString+in_ok-put_bits-in-BitString, in-LooseWrapper+in_ok-enclose-in-LooseWrapper, in_default}

pub returns-in-Some-clause-text : goal.returns-in-Some-clause-text
returns-in-Some-clause-text c tag entries below text h =
    let f = c.args.frame in
    let l = c.in-ModuleLeaf.leaf in
    let is : read_as f.found ≡ ModuleLeaf l = sym c.element.ensures.element ∙ c.in-ModuleLeaf.is in
    let at = c.written_from.ensures ∙ text_at c.args.self.now (level_of f tag entries) below text h (λ s. (let q : ModuleLeaf l ≡ BitString = sym is ∙ s in cc)) (ap (λ e. written e (shape f.place) entries) is) in
    let found = ap (λ e. element_fault (profile_of c.args.profile) (element_is e) text) is ∙ ap (content_fault (profile_of c.args.profile) (module_leaf_is l)) (sym at) ∙ sym (c.in-Some.ensures.fault c.args.profile) in
    subst (λ r. IsTextFault c.args.profile (read_as f.found) f.start text r) (sym c.refused.ensures) (c.in-Some.fault, found, ap (λ k. fault k f.start) (sym c.from.ensures))

pub returns-in_err-put_bits-in-BitString-clause-text : goal.returns-in_err-put_bits-in-BitString-clause-text
returns-in_err-put_bits-in-BitString-clause-text c tag entries below text h =
    let f = c.args.frame in
    let failure = c.in_err-put_bits-in-BitString.field-0.0 in
    let is : read_as f.found ≡ BitString = sym c.element.ensures.element ∙ c.in-BitString.is in
    let bits = bits_at c.args.self.now (level_of f tag entries) below text h is in
    let wrong = subst (λ e. IsTextFault c.args.profile e f.start text failure) (sym is) (subst (λ t. IsTextFault c.args.profile BitString f.start t failure) bits (c.in_err-put_bits-in-BitString.ensures.fault c.args.profile)) in
    handed_on (IsChecked c.args.profile f text) c.from_residual.result failure c.from_residual.ensures.1 wrong

pub returns-clause-text : goal.returns-clause-text
returns-clause-text c tag entries below text h =
    let f = c.args.frame in
    let p = c.args.profile in
    elim c.match-element.branch [
      | in-ModuleLeaf+in_default-fault w ↦
          let l = w.in-ModuleLeaf.leaf in
          let is : read_as f.found ≡ ModuleLeaf l = sym c.element.ensures.element ∙ w.in-ModuleLeaf.is in
          let octets = w.written_from.result.now in
          let at = w.written_from.ensures ∙ text_at c.args.self.now (level_of f tag entries) below text h (λ s. (let q : ModuleLeaf l ≡ BitString = sym is ∙ s in cc)) (ap (λ e. written e (shape f.place) entries) is) in
          subst (λ e. IsRightText p e text) (sym is) (subst (IsRightText p (ModuleLeaf l)) at (w.in_default-fault.ensures.octets, sym (w.in_default-fault.ensures.fault p)))
      | in-Leaf+in_default-fault-2 w ↦
          let l = w.in-Leaf.leaf in
          let is : read_as f.found ≡ Leaf l = sym c.element.ensures.element ∙ w.in-Leaf.is in
          let octets = w.written_from-in-Leaf.result.now in
          let at = w.written_from-in-Leaf.ensures ∙ text_at c.args.self.now (level_of f tag entries) below text h (λ s. (let q : Leaf l ≡ BitString = sym is ∙ s in cc)) (ap (λ e. written e (shape f.place) entries) is) in
          subst (λ e. IsRightText p e text) (sym is) (subst (IsRightText p (Leaf l)) at (w.in_default-fault-2.ensures.octets, sym w.in_default-fault-2.ensures.fault))
      | in-BitString+in_ok-put_bits-in-BitString w ↦
          let is : read_as f.found ≡ BitString = sym c.element.ensures.element ∙ w.in-BitString.is in
          let bits = bits_at c.args.self.now (level_of f tag entries) below text h is in
          subst (λ e. IsRightText p e text) (sym is) (subst (IsRightText p BitString) bits (w.in_ok-put_bits-in-BitString.ensures.right p))
      | in-LooseWrapper+in_ok-enclose-in-LooseWrapper w ↦ subst (λ e. IsRightText p e text) (sym (sym c.element.ensures.element ∙ w.in-LooseWrapper.is)) tt
      | in_default w ↦
          let is = c.element.ensures.element in
          right_other p (read_as f.found) text (λ l e. w.in_default.not-Leaf l (is ∙ e)) (λ l e. w.in_default.not-ModuleLeaf l (is ∙ e)) (λ e. w.in_default.not-BitString (is ∙ e))
    ]

pub returns-clause-closed : goal.returns-clause-closed
returns-clause-closed c tag entries trees l below text content h held right is value due =
    let f = c.args.frame in
    let n = shape f.place in
    let e = read_as f.found in
    let old = c.args.self.now in
    let closes = octets_closed c.args.profile old (record { octets = c.close.new.self; bits = c.match-element.self.bits }) c.match-element.self.octets f (shape c.args._place) tag entries trees l below text content h held right is value due in
    elim c.match-element.branch [
      | in-ModuleLeaf+in_default-fault w ↦
          closes (λ before there contents_start. ap (λ (o : NormalFormDraft). o.octets) w.self-is ∙ module_leaf_made old e w.in-ModuleLeaf.leaf n entries text before (sym c.element.ensures.element ∙ w.in-ModuleLeaf.is) there)
          (λ before body t form x joined contents_start. c.in_ok-close.ensures.element before body t form x joined contents_start)
      | in-Leaf+in_default-fault-2 w ↦
          closes (λ before there contents_start. ap (λ (o : NormalFormDraft). o.octets) w.self-is ∙ leaf_made old e w.in-Leaf.leaf n entries text before (sym c.element.ensures.element ∙ w.in-Leaf.is) there)
          (λ before body t form x joined contents_start. c.in_ok-close.ensures.element before body t form x joined contents_start)
      | in-BitString+in_ok-put_bits-in-BitString w ↦
          closes (λ before there contents_start. bit_string_made old e n entries text before c.match-element.self.octets (sym c.element.ensures.element ∙ w.in-BitString.is) there (ap (λ (o : NormalFormDraft). o.octets) w.self-is ∙ w.in_ok-put_bits-in-BitString.ensures.put))
          (λ before body t form x joined contents_start. c.in_ok-close.ensures.element before body t form x joined contents_start)
      | in-LooseWrapper+in_ok-enclose-in-LooseWrapper w ↦
          let loose : e ≡ LooseWrapper w.in-LooseWrapper.field-0 = sym c.element.ensures.element ∙ w.in-LooseWrapper.is in
          closes (λ before there contents_start.
          let none = loose_text w.in-LooseWrapper.field-0 n entries text content (subst (λ x. IsContentOf x n entries text content) loose is) in
          let octets = written e n entries in
          let joined = other_made old e n entries text before (λ s. (let q : LooseWrapper w.in-LooseWrapper.field-0 ≡ BitString = sym loose ∙ s in cc)) there ∙ ap (λ x. before ++ x) (ap (λ y. octets ++ y) none ∙ append-nil octets) in
          ap (λ (o : NormalFormDraft). o.octets) w.self-is ∙ w.in_ok-enclose-in-LooseWrapper.ensures w.in-LooseWrapper.field-0 before octets joined contents_start
          ∙ ap (λ n. before ++ enclosed (LooseWrapper w.in-LooseWrapper.field-0) n octets) w.next.ensures
          ∙ ap (λ x. before ++ contents_of x n octets text) (sym loose))
          (λ before body t form x joined contents_start. c.in_ok-close.ensures.element before body t form x joined contents_start)
      | in_default w ↦
          let same = c.element.ensures.element in
          let other = w.in_default in
          closes (λ before there contents_start.
          ap (λ (o : NormalFormDraft). o.octets) w.self-is ∙ other_made old e n entries text before (λ s. other.not-BitString (same ∙ s)) there
          ∙ ap (λ x. before ++ x) (contents_other e n entries text content is (λ x q. other.not-Leaf x (same ∙ q)) (λ x q. other.not-ModuleLeaf x (same ∙ q)) (λ q. other.not-BitString (same ∙ q)) (λ x q. other.not-LooseWrapper x (same ∙ q))))
          (λ before body t form x joined contents_start. c.in_ok-close.ensures.element before body t form x joined contents_start)
    ]

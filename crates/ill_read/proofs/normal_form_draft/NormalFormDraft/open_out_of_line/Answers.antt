use Rattle.std.proofs.Common.{◌≡◌, ◌∙◌, [], ◌∷◌, ◌++◌, false, refl, ap, sym}
use Rattle.ber_core.specs.Id.{id_octets, tag_of_id}
use Rattle.ber_tree.specs.Identifier.{HasIdentifier, identifier}
use Rattle.ill_grammar.specs.Due.{read_as}
use Rattle.ill_grammar.specs.declared.element.Element.TheVariants.{BitSegment, BitString}
use Rattle.ill_read.specs.code.OctetDrafts.{form_of}
use Rattle.ill_read.specs.declared.normal_form_draft.NormalFormDraft.{NormalFormDraft}
use Rattle.ill_read.proofs.OctetDrafts.{bit_segment_opened, module_string_form, module_string_whole, octets_opened}
use Rattle.ill_read.proofs.normal_form_draft.NormalFormDraft.open_out_of_line.Goals as goal
use Rattle.ill_read.proofs.normal_form_draft.NormalFormDraft.open_out_of_line.Goals.{in-BitString+in_ok-begin-in-BitString, in_default}

pub returns-in-BitSegment : goal.returns-in-BitSegment
returns-in-BitSegment c next =
    bit_segment_opened c.args.self.now (record c.args.self.now { bits = c.push.new.self }) next c.args.opening c.len.result (sym c.element.ensures.element ∙ c.in-BitSegment.is) refl c.in_ok-push-in-BitSegment.ensures

pub returns : goal.returns
returns c next =
    let o = c.args.opening in
    let e = read_as o.found in
    let made : (self : NormalFormDraft) → (e ≡ BitSegment → ⊥) → self.octets ≡ c.args.self.now.octets → (e ≡ BitString → self.bits ≡ 0 ∷ []) → c.match-element.self ≡ self → _ = λ self apart octets bits is.
    let form : form_of e ≡ false = module_string_form e c.requires apart in
    octets_opened c.args.self.now (record { octets = c.open.new.self; bits = c.match-element.self.bits }) next o c.in_ok-contents_start.contents_start (id_octets c.string_id.result) (module_string_whole e c.requires apart)
    (λ end.
    let valid : HasIdentifier (tag_of_id o.id) false = record { number = o.id.valid.number; not_end = λ k n. sym form ∙ end k n } in
    c.string_id.ensures valid ∙ ap (identifier (tag_of_id o.id)) (sym form))
    (λ s. ap (λ (x : NormalFormDraft). x.bits) is ∙ bits s)
    (c.in_ok-contents_start.ensures.octets ∙ ap (λ (x : NormalFormDraft). x.octets ++ (id_octets c.string_id.result ++ 0 ∷ [])) is ∙ ap (λ x. x ++ (id_octets c.string_id.result ++ 0 ∷ [])) octets) c.in_ok-contents_start.ensures.contents_start in
    elim c.match-element.branch [
      | in-BitString+in_ok-begin-in-BitString w ↦
          let is : e ≡ BitString = sym c.element.ensures.element ∙ w.in-BitString.is in
          made _ (λ s. (let q : BitString ≡ BitSegment = sym is ∙ s in cc)) refl (λ s. w.in_ok-begin-in-BitString.ensures) w.self-is
      | in_default w ↦ made _ (λ s. w.in_default.not-BitSegment (c.element.ensures.element ∙ s)) refl (λ s. absurd (w.in_default.not-BitString (c.element.ensures.element ∙ s))) w.self-is
    ]

use Rattle.std.proofs.Common.{◌∙◌, ap, sym}
use Rattle.ber_core.specs.Id.{id_octets, tag_of_id}
use Rattle.ber_tree.specs.Identifier.{identifier}
use Rattle.ill_grammar.specs.Due.{read_as, shape}
use Rattle.ill_read.proofs.OctetDrafts.{not_bit_segment, not_bit_string, not_segment, octets_opened, usual_form}
use Rattle.ill_read.proofs.normal_form_draft.NormalFormDraftDraft.open_usual.Goals as goal

pub returns : goal.returns
returns c =
    let o = c.args.opening in
    let e = read_as o.found in
    let usual = c.requires.usual in
    octets_opened c.args.self.now (record c.args.self.now { octets = c.open.new.self }) (shape c.args._place) o c.in_ok-contents_start.contents_start (id_octets o.id)
    (not_segment e usual, not_bit_segment e usual)
    (λ apart. ap (identifier (tag_of_id o.id)) (o.form ∙ sym (usual_form e usual)))
    (λ s. absurd (not_bit_string e usual s))
    c.in_ok-contents_start.ensures.octets c.in_ok-contents_start.ensures.contents_start

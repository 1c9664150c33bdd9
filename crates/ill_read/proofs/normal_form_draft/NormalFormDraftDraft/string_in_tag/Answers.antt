use Rattle.std.proofs.Common.{◌≡◌, ◌∙◌, ◌++◌, [], ◌∷◌, true, append_assoc, length, ap}
use Rattle.ber_core.specs.Der.{encoding}
use Rattle.ber_core.specs.Id.{tag_of_id}
use Rattle.ber_tree.specs.Identifier.{identifier}
use Rattle.ber_tree.specs.Tree.{primitive}
use Rattle.ill_schema.specs.Tagging.{leaf_tag}
use Rattle.ill_grammar.specs.Due.{shape}
use Rattle.ill_grammar.specs.LeafTypes.{leaf_is}
use Rattle.ill_read.proofs.OctetDrafts.{string_added}
use Rattle.ill_read.proofs.normal_form_draft.NormalFormDraftDraft.string_in_tag.Goals as goal

pub returns-clause-added : goal.returns-clause-added
returns-clause-added c is =
    let old = c.args.self.now in let o = c.args.opening in
    let octets = c.args.content.now in
    let tag = tag_of_id o.id in
    let body = encoding (primitive (leaf_tag (leaf_is c.args.leaf)) octets) in
    let header : c.open.new.self ≡ old.octets ++ (identifier tag true ++ 0 ∷ []) = c.in_ok-start.ensures.octets ∙ ap (λ f. old.octets ++ (identifier tag f ++ 0 ∷ [])) o.form in
    let string = c.in_ok-primitive.ensures.encoding c.ill_string_id.ensures.primitive ∙ ap (λ t. c.open.new.self ++ encoding (primitive t octets)) c.ill_string_id.ensures.tag in
    let joined : c.primitive.new.self ≡ old.octets ++ (identifier tag true ++ 0 ∷ body) =
    string ∙ ap (λ x. x ++ body) header ∙ append_assoc old.octets (identifier tag true ++ 0 ∷ []) body ∙ ap (λ x. old.octets ++ x) (append_assoc (identifier tag true) (0 ∷ []) body) in
    let begins = c.in_ok-start.ensures.contents_start ∙ ap length header in
    string_added c.args._profile old (record old { octets = c.close.new.self }) (shape c.args._place) o c.args.leaf octets c.requires.string c.requires.content
    (c.in_ok-close.ensures.element old.octets body tag true 0 joined begins)

use Rattle.std.proofs.Common.{◌≡◌, [], ◌∷◌, ◌++◌, length, sym, ap, ◌∙◌, append_assoc, rules}
use Rattle.ber_core.specs.Id.{tag_of_id, form_of_id, id_octets}
use Rattle.ber_tree.specs.Length.{shortest_length}
use Rattle.test_encoding.proofs.contracts.elements_are_written_in_one_way.Goals as goal

pub returns-clause-pieces : goal.returns-clause-pieces
returns-clause-pieces c =
    let old = c.args.pieces.now in
    let id = id_octets c.args.id in
    let content = c.args.content.now in
    let opened : c.append.new.self ≡ old ++ (id ++ 0 ∷ content) =
    c.in_ok-append.ensures ∙ ap (λ z. z ++ content) c.in_ok-contents_start.ensures.octets ∙ append_assoc old (id ++ 0 ∷ []) content
    ∙ ap (λ z. old ++ z) (append_assoc id (0 ∷ []) content) in
    let contents_start : c.in_ok-contents_start.contents_start ≡ length (old ++ (id ++ 0 ∷ [])) = c.in_ok-contents_start.ensures.contents_start ∙ ap length c.in_ok-contents_start.ensures.octets in
    let closed : c.close.new.self ≡ old ++ (id ++ (shortest_length (length content) ++ content)) =
    c.in_ok-close.ensures.element old content (tag_of_id c.args.id) (form_of_id c.args.id) 0 opened contents_start in
    let whole : c.primitive.new.self ≡ old ++ (id ++ (shortest_length (length content) ++ content)) =
    c.in_ok-primitive.ensures.octets ∙ ap (λ z. z ++ ((id ++ shortest_length (length content)) ++ content)) c.requires.pieces
    ∙ ap (λ z. old ++ z) (append_assoc id (shortest_length (length content)) content) in
    let same : c.primitive.new.self ≡ c.close.new.self = whole ∙ sym closed in
    search rules

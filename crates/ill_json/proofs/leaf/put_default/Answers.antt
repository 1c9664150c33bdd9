use Rattle.std.proofs.Common.{◌≡◌, ◌∙◌, ap, sym, None}
use Rattle.ill_grammar.specs.Contents.{absent_content}
use Rattle.ill_grammar.proofs.MarkedValues.{no_default, same_row}
use Rattle.ill_json.specs.code.Adding.{value_tokens}
use Rattle.ill_json.proofs.Added.{adds_as, adds_nothing}
use Rattle.ill_json.proofs.leaf.put_default.Goals as goal

pub returns-in_default-presence : goal.returns-in_default-presence
returns-in_default-presence c e node h =
    let none : e ≡ None = no_default c.in-Some.row.presence c.in-Some.row.node e (λ d q. c.in_default-presence.not-Default d q)
    (ap absent_content (same_row _ c.in-Some.row h.0 (sym c.row.ensures ∙ c.in-Some.is) h.1) ∙ h.2) in
    adds_as _ _ _ _ (ap (value_tokens c.args.name.now node) (sym none)) (adds_nothing _)

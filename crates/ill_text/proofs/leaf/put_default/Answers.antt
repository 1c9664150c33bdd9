use Rattle.std.proofs.Common.{◌∙◌, ap, sym, Option}
use Rattle.ill_schema.specs.Content.{Content}
use Rattle.ill_grammar.specs.Contents.{absent_content}
use Rattle.ill_grammar.specs.Outline.{IsAbsent}
use Rattle.ill_text.specs.Shown.{entry_text}
use Rattle.ill_text.specs.code.FieldPaths.{place_at}
use Rattle.ill_grammar.proofs.MarkedValues.{no_default, same_row}
use Rattle.ill_text.proofs.Sent.{adds_as, adds_nothing}
use Rattle.ill_text.proofs.leaf.put_default.Goals as goal

pub returns-in_default-presence : goal.returns-in_default-presence
returns-in_default-presence g c =
    let place = c.args.place.now in
    let none = λ (e : Option Content) (h : IsAbsent c.args.part e). no_default c.in-Some.row.presence c.in-Some.row.node e (λ d q. c.in_default-presence.not-Default d q)
    (ap absent_content (same_row _ c.in-Some.row h.0 (sym c.row.ensures ∙ c.in-Some.is) h.1) ∙ h.2) in
    record {
      adds = λ e node h. adds_as _ _ _ _ (ap (entry_text (place_at place.path.now place.name.now node)) (sym (none e h))) (adds_nothing _);
      stays = λ h. h;
    }

use Rattle.std.proofs.Common.{rules, ◌<◌, refl, [], ◌∷◌, length}
use Rattle.std.proofs.lemmas.List.{take_more_set}
use Rattle.ill_text.proofs.Sent.{kept}
use Rattle.ill_text.proofs.text_sink.TextSink.keep_octet.Goals as goal

pub returns : goal.returns
returns c reported b =
    let p = c.args.self.now in
    let bound : p.len < length p.waiting = search rules in
    kept (c.args.octet ∷ []) reported b p _ refl (take_more_set p.waiting p.len c.args.octet bound) refl

use Rattle.std.proofs.Common.{rules, ◌≡◌, ◌+◌, ◌++◌, ◌≤◌, refl, take, length, ◌-◌, ap, sym, ◌∙◌}
use Rattle.std.proofs.lemmas.Slice.{take-put_mid}
use Rattle.ill_text.proofs.Sent.{kept}
use Rattle.ill_text.proofs.text_sink.TextSink.keep.Goals as goal

pub returns : goal.returns
returns c reported b =
    let p = c.args.self.now in
    let xs = c.args.octets.now in
    let same : c.copy_from_slice.new.self ≡ xs = search rules in
    let bound : p.len ≤ length p.waiting = search rules in
    let w = take-put_mid p.len (p.len + length xs - p.len) p.waiting c.copy_from_slice.new.self (p.len + length xs) (ap (λ z. p.len + length z) (sym same)) bound ∙ ap (λ z. take p.len p.waiting ++ z) same in
    kept xs reported b p _ refl w refl

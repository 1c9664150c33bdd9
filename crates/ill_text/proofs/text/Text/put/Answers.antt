use Rattle.std.proofs.Common.{◌≡◌, ◌<◌, sym, subst, length, take, true, false, arith, rules, ℕ}
use Rattle.std.specs.Io.KnownBytes.{Appends}
use Rattle.ill_text.specs.code.Sending.{Adds, sending}
use Rattle.ill_text.proofs.Sent.{all_sent, some_sent}
use Rattle.ill_text.proofs.text.Text.put.Goals as goal

pub returns-then-is_broken-clause-some : goal.returns-then-is_broken-clause-some
returns-then-is_broken-clause-some g c octets h =
    let broke : c.put_text.new.out.broken ≡ true = search rules in
    let adds = subst (λ o. Adds o (sending (g.W.Sink.contents c.args.sink.now) (g.W.Sink.is_broken c.args.sink.now) c.new-out.result) (sending (g.W.Sink.contents c.put_text.new.sink) (g.W.Sink.is_broken c.put_text.new.sink) c.put_text.new.out))
    (sym h.2) (c.put_text.ensures.adds h.0 h.1) in
    let s = some_sent octets _ _ (g.W.Sink.is_broken c.args.sink.now) _ c.new-out.result c.put_text.new.out (c.new-out.ensures _ _) adds broke h.3 in
    subst (λ (n : ℕ). Appends (g.W.Sink.contents c.args.sink.now) (g.W.Sink.contents c.put_text.new.sink) (take n octets)) (sym c.written.ensures) s.0

pub returns-then-is_broken-clause-fewer : goal.returns-then-is_broken-clause-fewer
returns-then-is_broken-clause-fewer g c octets h =
    let broke : c.put_text.new.out.broken ≡ true = search rules in
    let adds = subst (λ o. Adds o (sending (g.W.Sink.contents c.args.sink.now) (g.W.Sink.is_broken c.args.sink.now) c.new-out.result) (sending (g.W.Sink.contents c.put_text.new.sink) (g.W.Sink.is_broken c.put_text.new.sink) c.put_text.new.out))
    (sym h.2) (c.put_text.ensures.adds h.0 h.1) in
    let s = some_sent octets _ _ (g.W.Sink.is_broken c.args.sink.now) _ c.new-out.result c.put_text.new.out (c.new-out.ensures _ _) adds broke h.3 in
    subst (λ (n : ℕ). n < length octets) (sym c.written.ensures) s.1

pub returns-then-is_broken-clause-breaks : goal.returns-then-is_broken-clause-breaks
returns-then-is_broken-clause-breaks g c octets h e =
    let broke : c.put_text.new.out.broken ≡ true = search rules in
    let adds = subst (λ o. Adds o (sending (g.W.Sink.contents c.args.sink.now) (g.W.Sink.is_broken c.args.sink.now) c.new-out.result) (sending (g.W.Sink.contents c.put_text.new.sink) (g.W.Sink.is_broken c.put_text.new.sink) c.put_text.new.out))
    (sym h.2) (c.put_text.ensures.adds h.0 h.1) in
    (some_sent octets _ _ (g.W.Sink.is_broken c.args.sink.now) _ c.new-out.result c.put_text.new.out (c.new-out.ensures _ _) adds broke h.3).2

pub returns-clause-all : goal.returns-clause-all
returns-clause-all g c octets h =
    let whole : c.put_text.new.out.broken ≡ false = search rules in
    let adds = subst (λ o. Adds o (sending (g.W.Sink.contents c.args.sink.now) (g.W.Sink.is_broken c.args.sink.now) c.new-out.result) (sending (g.W.Sink.contents c.put_text.new.sink) (g.W.Sink.is_broken c.put_text.new.sink) c.put_text.new.out))
    (sym h.2) (c.put_text.ensures.adds h.0 h.1) in
    (all_sent octets _ _ (g.W.Sink.is_broken c.args.sink.now) _ c.new-out.result c.put_text.new.out (c.new-out.ensures _ _) adds whole (c.put_text.ensures.empty whole)).0

pub returns-clause-count : goal.returns-clause-count
returns-clause-count g c octets h =
    let whole : c.put_text.new.out.broken ≡ false = search rules in
    let adds = subst (λ o. Adds o (sending (g.W.Sink.contents c.args.sink.now) (g.W.Sink.is_broken c.args.sink.now) c.new-out.result) (sending (g.W.Sink.contents c.put_text.new.sink) (g.W.Sink.is_broken c.put_text.new.sink) c.put_text.new.out))
    (sym h.2) (c.put_text.ensures.adds h.0 h.1) in
    let n = (all_sent octets _ _ (g.W.Sink.is_broken c.args.sink.now) _ c.new-out.result c.put_text.new.out (c.new-out.ensures _ _) adds whole (c.put_text.ensures.empty whole)).1 in
    (omega (arith, n, c.written-2.ensures, h.3), omega (arith, n, c.written-2.ensures, h.3))

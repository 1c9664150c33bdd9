use Rattle.std.proofs.Common.{◌≡◌, true≢false, length, rules, sym, ◌∙◌}
use Rattle.ill_schema.proofs.Contents.{content_of-Seq, same_entries-length, same_items-length}
use Rattle.ill_schema.proofs.equality.+equal.Goals as goal

pub equal-returns-in-Seq-Seq : goal.equal-returns-in-Seq-Seq
equal-returns-in-Seq-Seq t c =
    rw (c.in-Seq-Seq.is-0, c.in-Seq-Seq.is-1, content_of-Seq c.in-Seq-Seq.x, content_of-Seq c.in-Seq-Seq.y) (search rules)

pub equal_entries-returns-then-len : goal.equal_entries-returns-then-len
equal_entries-returns-then-len t c =
    let a : c.len.result ≡ length c.args.a.now.items = search rules in
    let b : c.len-2.result ≡ length c.args.b.now.items = search rules in
    (λ f. absurd (true≢false (sym f)), λ e. absurd (c.if-len.true (a ∙ same_entries-length _ _ e ∙ sym b)))

pub equal_items-returns-then-len : goal.equal_items-returns-then-len
equal_items-returns-then-len t c =
    let a : c.len.result ≡ length c.args.a.now.items = search rules in
    let b : c.len-2.result ≡ length c.args.b.now.items = search rules in
    (λ f. absurd (true≢false (sym f)), λ e. absurd (c.if-len.true (a ∙ same_items-length _ _ e ∙ sym b)))

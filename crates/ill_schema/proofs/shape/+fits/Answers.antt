use Rattle.std.proofs.Common.{◌≡◌, true≢false, length, rules, sym, ◌∙◌}
use Rattle.ill_schema.proofs.Contents.{content_of-Seq}
use Rattle.ill_schema.proofs.RowFits.{entries_fit-length}
use Rattle.ill_schema.proofs.shape.+fits.Goals as goal

pub fit_rows-returns-then-len-rows : goal.fit_rows-returns-then-len-rows
fit_rows-returns-then-len-rows t c =
    let len : c.len.result ≡ length c.args.entries.now.items = search rules in
    (λ f. absurd (true≢false (sym f)), λ h. absurd (c.if-len-rows.true (len ∙ entries_fit-length _ _ h)))

pub fits-returns-then-has_kind : goal.fits-returns-then-has_kind
fits-returns-then-has_kind t c = rw (c.in-Seq.is, content_of-Seq c.in-Seq.entries) (search rules)

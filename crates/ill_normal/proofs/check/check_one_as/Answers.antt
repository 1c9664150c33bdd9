use Rattle.std.proofs.Common.{◌≡◌, ℕ, List, ◌++◌, length, refl, sym, ap, ◌∙◌}
use Rattle.std.proofs.lemmas.Bool.Decides.{Decides-eqb}
use Rattle.std.proofs.lemmas.Slice.Eq.{slice_eq-Decides}
use Rattle.ill_read.proofs.Accepted.{none_is_no_spelling, read_fails_accepts}
use Rattle.ill_read.specs.Answers.{IsNormalIn}
use Rattle.ill_read.specs.declared.normal.NormalForm.{NormalForm}
use Rattle.ill_normal.specs.declared.check.Checked.{Checked}
use Rattle.std.proofs.lemmas.Result.{err_from_is_err_and}
use Rattle.ill_read.proofs.NextRead.{reads_as}
use Rattle.ill_normal.specs.Checking.{DescribesIn}
use Rattle.ill_schema.specs.Profiles.{profile_of}
use Rattle.ill_normal.proofs.DescribedMessages.{described}
use Rattle.ill_normal.proofs.check.check_one_as.Goals as goal

pub returns-in_err-read-clause-accepts : goal.returns-in_err-read-clause-accepts
returns-in_err-read-clause-accepts g c =
    let p = err_from_is_err_and c.from_residual.result c.from_residual.ensures.1 in
    rw (p.1, p.2) (read_fails_accepts (profile_of c.args.profile) _ _ c.in_err-read.ensures.next.refused)

pub returns-in_default-clause-accepts : goal.returns-in_default-clause-accepts
returns-in_default-clause-accepts g c = let h = rw c.in_default.is at c.in_ok-read.ensures.next.none in none_is_no_spelling (profile_of c.args.profile) _ _ _ h.0 h.1

pub returns-clause-next : goal.returns-clause-next
returns-clause-next g c =
    let p = profile_of c.args.profile in
    let h = rw c.in-Some.is at c.in_ok-read.ensures.next in
    let eq = slice_eq-Decides Decides-eqb c.as_slice.result.now c.as_slice-2.result.now c.eq.result c.eq.ensures in
    let checked : Checked = record { apdu = c.apdu_number.result; octets = c.in-Some.normal.input_len; normal = c.len.result; is_normal = c.eq.result } in
    reads_as (λ (n : NormalForm) (b : List ℕ). IsNormalIn p n b × (c.read_recording.new.recorded.items ≡ c.new-recorded.result.items ++ b)) (DescribesIn p)
    (g.R.Source.left c.args.source.now) (g.R.Source.left c.read_recording.new.source) (g.R.Source.is_broken c.args.source.now) (g.R.Source.is_broken c.read_recording.new.source)
    c.in-Some.normal checked
    (λ b is. described p checked c.in-Some.normal b _ is.0 (is.1 ∙ ap (λ x. x ++ b) c.new-recorded.ensures.items)
    (λ a s h e. c.apdu_number.ensures c.args.profile a s h (c.deref.ensures.value ∙ e)) refl (c.len.ensures ∙ sym c.as_slice-2.ensures.len ∙ ap length c.as_slice-2.ensures.value)
    (λ t. sym c.as_slice.ensures.value ∙ eq.0 t ∙ c.as_slice-2.ensures.value, λ e. eq.1 (c.as_slice.ensures.value ∙ e ∙ sym c.as_slice-2.ensures.value)))
    h

use Rattle.std.proofs.Common.{◌≡◌, ◌∙◌, ◌++◌, ℕ, ◌<◌, List, [], ◌∷◌, sym, ap, ap₂, subst, slice_index, append_assoc, Result, Ok, Err}
use Rattle.std.specs.Bool.{if◌then◌else◌}
use Rattle.std.specs.Prelude.{OnOk, string_bytes, ⊤}
use Rattle.std.specs.Result.{is_ok}
use Rattle.std.specs.declared.alloc.AllocError.{AllocError}
use Rattle.ill_grammar.proofs.hexadecimal.add_octet.Goals as goal

on_ok : (r : Result ⊤ AllocError) (new more old wanted : List ℕ) → new ≡ (if is_ok r then more else old) → more ≡ wanted → OnOk r (new ≡ wanted)
on_ok (Ok v) new more old wanted e f = e ∙ f
on_ok (Err x) new more old wanted e f = tt

pub returns : goal.returns
returns c =
    let digits = c.hexadecimal_digits.ensures in
    let one = c.push.ensures.ascii (subst (λ d. d < 128) (sym c.from.ensures) digits.ascii.0) ∙ ap (λ d. d ∷ []) (c.from.ensures ∙ ap (λ l. slice_index l 0) digits.digits) in
    let two = c.push-2.ensures.ascii (subst (λ d. d < 128) (sym c.from-2.ensures) digits.ascii.1) ∙ ap (λ d. d ∷ []) (c.from-2.ensures ∙ ap (λ l. slice_index l 1) digits.digits) in
    on_ok c.push-2.result _ _ _ _ c.push-2.ensures.bytes
    (ap₂ (λ (l m : List ℕ). l ++ m) (c.in_ok-push.ensures.bytes ∙ ap (λ m. string_bytes c.args.text.now ++ m) one) two ∙ append_assoc (string_bytes c.args.text.now) _ _)

use Rattle.std.proofs.Common.{◌≡◌, ◌∙◌, true, sym, subst}
use Rattle.ill_json.proofs.InAscii.{are_low, in_ascii-are_low}
use Rattle.ill_json.proofs.ascii.into_ascii.Goals as goal

pub returns-then-is_plain : goal.returns-then-is_plain
returns-then-is_plain c = sym (in_ascii-are_low c.args.text.items (subst (λ xs. are_low xs ≡ true) c.deref.ensures.value (sym c.is_plain.ensures ∙ c.if-is_plain.true)))

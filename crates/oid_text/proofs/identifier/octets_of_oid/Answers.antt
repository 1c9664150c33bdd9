use Rattle.std.proofs.Common.{◌≡◌, ◌++◌, List, ℕ, codes, sym, ◌∙◌}
use Rattle.std.proofs.lemmas.Bool.Decides.{Decides-eqb}
use Rattle.std.proofs.lemmas.Option.{IfSome_then, MatchOption-at_none, MatchOption-at_some}
use Rattle.std.proofs.lemmas.Result.{IfOk-weaker}
use Rattle.std.proofs.lemmas.Slice.Eq.{strip_prefix_is}
use Rattle.oid_text.proofs.Found.{none_then}
use Rattle.oid_text.proofs.OidTexts.{components_said, components_unsaid, great_said, great_unsaid}
use Rattle.oid_text.proofs.identifier.octets_of_oid.Goals as goal

pub returns-in-Some-clause-said : goal.returns-in-Some-clause-said
returns-in-Some-clause-said c =
    let strip = strip_prefix_is Decides-eqb c.as_bytes-bytes.result.now (codes "oid ") c.strip_prefix.result c.strip_prefix.ensures.cases in
    let front : c.args.text.now ≡ codes "oid " ++ c.in-Some.digits.now = sym c.as_bytes-bytes.ensures.value ∙ MatchOption-at_some _ _ c.in-Some.digits c.in-Some.is strip in
    IfOk-weaker c.read_great.result _ _ (λ found h. IfSome_then found h (λ octets p. (p.0, p.1, great_said c.args.text.now c.in-Some.digits.now octets.items front p.2 p.3))) c.read_great.ensures.said

pub returns-in-Some-clause-unsaid : goal.returns-in-Some-clause-unsaid
returns-in-Some-clause-unsaid c =
    let strip = strip_prefix_is Decides-eqb c.as_bytes-bytes.result.now (codes "oid ") c.strip_prefix.result c.strip_prefix.ensures.cases in
    let front : c.args.text.now ≡ codes "oid " ++ c.in-Some.digits.now = sym c.as_bytes-bytes.ensures.value ∙ MatchOption-at_some _ _ c.in-Some.digits c.in-Some.is strip in
    IfOk-weaker c.read_great.result _ _ (λ found h. none_then found (λ lacks. great_unsaid c.args.text.now c.in-Some.digits.now front lacks) h) c.read_great.ensures.unsaid

pub returns-in-None-clause-said : goal.returns-in-None-clause-said
returns-in-None-clause-said c =
    IfOk-weaker c.read_components.result _ _ (λ found h. IfSome_then found h (λ octets p. components_said c.args.text.now octets.items p.0 p.1 p.2 (sym c.as_bytes-bytes.ensures.value ∙ p.3) p.4)) c.read_components.ensures.said

pub returns-in-None-clause-unsaid : goal.returns-in-None-clause-unsaid
returns-in-None-clause-unsaid c =
    let strip = strip_prefix_is Decides-eqb c.as_bytes-bytes.result.now (codes "oid ") c.strip_prefix.result c.strip_prefix.ensures.cases in
    let other : (rest : List ℕ) → c.as_bytes-bytes.result.now ≡ codes "oid " ++ rest → ⊥ = MatchOption-at_none _ _ c.in-None.is strip in
    IfOk-weaker c.read_components.result _ _ (λ found h. none_then found (λ lacks. components_unsaid c.args.text.now (λ n ns short e. lacks n ns short (c.as_bytes-bytes.ensures.value ∙ e)) (λ rest e. other rest (c.as_bytes-bytes.ensures.value ∙ e))) h) c.read_components.ensures.unsaid

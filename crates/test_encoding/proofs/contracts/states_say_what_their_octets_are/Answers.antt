use Rattle.std.proofs.Common.{◌≡◌, ◌<◌, ◌≤◌, ◌↔◌, ℕ, List, ◌++◌, length, Option, Some, None, MatchOption, refl, ap, arith}
use Rattle.ber_core.specs.declared.id.Id.{Id}
use Rattle.ber_core.specs.declared.header.Header.{Header}
use Rattle.ber_core.specs.Header.{IsHeader, IsPartHeader, HasWholeId, BeginsWithId}
use Rattle.ber_core.proofs.Headers.{one_id}
use Rattle.test_encoding.proofs.contracts.states_say_what_their_octets_are.Goals as goal

id_once : (b : List ℕ) (x y : Option Id) → MatchOption x (HasWholeId b → ⊥) (λ id. BeginsWithId id b)
    → MatchOption y (HasWholeId b → ⊥) (λ id. BeginsWithId id b) → x ≡ y
id_once b None None p q = refl
id_once b None (Some j) p q = absurd (p (j, q))
id_once b (Some i) None p q = absurd (q (i, p))
id_once b (Some i) (Some j) p q = ap Some (one_id b i j p q)

-- what a state says is due of the octets fed
record Due (b : List ℕ) (n : ℕ) : Type 0 where
  least : (rest : List ℕ) (header : Header) → IsHeader header (b ++ rest) → n ≤ length rest
  zero : n ≡ 0 ↔ (IsPartHeader b → ⊥)
  reached : HasWholeId b → IsPartHeader b → (header : Header) × (rest : List ℕ) × IsHeader header (b ++ rest) × (length rest ≡ n)
  one : (HasWholeId b → ⊥) → IsPartHeader b → n ≡ 1

due_once : (b : List ℕ) (m n : ℕ) → Due b m → Due b n → (m ≡ n → ⊥) → ⊥
due_once b m n p q apart =
    let same : HasWholeId b → IsPartHeader b → m ≡ n
    = λ w part. let x = p.reached w part in let y = q.reached w part in
    omega (arith, x.3, y.3, q.least x.1 x.0 x.2, p.least y.1 y.0 y.2) in
    let no_part : IsPartHeader b → ⊥
    = λ part. let no_id : HasWholeId b → ⊥ = λ w. apart (same w part) in apart (omega (arith, p.one no_id part, q.one no_id part)) in
    apart (omega (arith, p.zero.1 no_part, q.zero.1 no_part))

stable : (m n : ℕ) → ((m ≡ n → ⊥) → ⊥) → m ≡ n
stable m n h =
    let least : m < n → ⊥ = λ l. h (λ e. omega (arith, e, l)) in
    let most : n < m → ⊥ = λ l. h (λ e. omega (arith, e, l)) in
    omega (arith, least, most)

-- src/tests/contracts.rt:65:1
pub returns-clause-id : goal.returns-clause-id
returns-clause-id c =
    let b = c.requires.fed in
    id_once b.0 c.id.result c.id-2.result (c.id.ensures b.0 b.1) (c.id-2.ensures b.0 b.2)

pub returns-clause-due : goal.returns-clause-due
returns-clause-due c =
    let b = c.requires.fed in
    let p : Due b.0 c.due.result = record {
      least = λ rest h i. c.due.ensures.at_least b.0 rest h b.1 i;
      zero = c.due.ensures.zero b.0 b.1;
      reached = c.due.ensures.reached b.0 b.1;
      one = c.due.ensures.one b.0 b.1;
    } in
    let q : Due b.0 c.due-2.result = record {
      least = λ rest h i. c.due-2.ensures.at_least b.0 rest h b.2 i;
      zero = c.due-2.ensures.zero b.0 b.2;
      reached = c.due-2.ensures.reached b.0 b.2;
      one = c.due-2.ensures.one b.0 b.2;
    } in
    stable c.due.result c.due-2.result (due_once b.0 c.due.result c.due-2.result p q)

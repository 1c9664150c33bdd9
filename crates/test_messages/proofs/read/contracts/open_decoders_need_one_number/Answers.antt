use Rattle.std.proofs.Common.{◌≡◌, ◌<◌, ◌≤◌, ◌⊎◌, ℕ, Bool, true, false, List, length, take, drop, Option, Some, None, IsTrue, sym, ap, subst, ◌∙◌, arith, inl, inr, length-append}
use Rattle.ber_tree.specs.Octets.{are_octets}
use Rattle.ber_leaf.specs.Profile.{profile_two}
use Rattle.ill_schema.specs.declared.refusal.Cause.{Cause}
use Rattle.ill_schema.proofs.Streams.{take_front, drop_front}
use Rattle.ill_refusals.specs.Fault.{fault, fault_at}
use Rattle.ill_refusals.specs.Outcome.{PlacesAreApart, FaultsAreLast}
use Rattle.ill_refusals.specs.Place.{Open, IsPlace, IsDue}
use Rattle.ber_core.specs.Reading.{IdentifierRead, identified, part_identifier, no_identifier, read_identifier, LengthRead, definite, indefinite, part_length, no_length, read_length}
use Rattle.ill_grammar.specs.Need.{NeedsOfLength, NeedsOfElement, NeedsAfterMark, NeedsBefore, IsNeed, NeedsAfter, in_mark, outermost}
use Rattle.test_messages.proofs.read.contracts.open_decoders_need_one_number.Goals as goal

by_length : (r : LengthRead) (octets : List ℕ) (m n : ℕ) → NeedsOfLength r octets m → NeedsOfLength r octets n → m ≡ n
by_length (definite size content) octets m n p q = omega (arith, p, q)
by_length part_length octets m n p q =
    omega (arith, p.0 q.1.0 q.1.1 q.1.2, q.1.3, q.0 p.1.0 p.1.1 p.1.2, p.1.3)
by_length (indefinite rest) octets m n p q = absurd p
by_length no_length octets m n p q = absurd p

by_element : (r : IdentifierRead) (octets : List ℕ) (m n : ℕ) → NeedsOfElement r octets m → NeedsOfElement r octets n → m ≡ n
by_element (identified tag f rest) octets m n p q = by_length (read_length f rest) octets m n p q
by_element part_identifier octets m n p q = p ∙ sym q
by_element no_identifier octets m n p q = absurd p

by_mark : (b : Bool) (octets : List ℕ) (m n : ℕ) → NeedsAfterMark b octets m → NeedsAfterMark b octets n → m ≡ n
by_mark true octets m n p q = p ∙ sym q
by_mark false octets m n p q = by_element (read_identifier octets) octets m n p q

by_end : (e : Option ℕ) (place : List Open) (at : ℕ) (octets : List ℕ) (m n : ℕ) → NeedsBefore e place at octets m → NeedsBefore e place at octets n → m ≡ n
by_end (Some e) place at octets m n p q = omega (arith, p, q)
by_end None place at octets m n p q = by_mark (in_mark place octets) octets m n p q

-- the place of a need, at its offset in what was fed
record IsLast (fed : List ℕ) (place : List Open) (k : ℕ) : Type 0 where
  due : IsDue profile_two fed k place
  ends : fault_at profile_two place k (drop k fed) ≡ Some (fault Cause.Truncated (length fed))

place_of : (fed : List ℕ) (n : ℕ) (x : NeedsAfter fed n) → IsLast fed x.place (length x.before)
place_of fed n x =
    let t : take (length x.before) fed ≡ x.before = ap (take (length x.before)) x.joined ∙ take_front x.before x.rest in
    let d : drop (length x.before) fed ≡ x.rest = ap (drop (length x.before)) x.joined ∙ drop_front x.before x.rest in
    record {
      due = (omega (arith, ap length x.joined, length-append x.before x.rest), subst (λ u. IsPlace profile_two u x.place) (sym t) x.is_place);
      ends = ap (fault_at profile_two x.place (length x.before)) d ∙ x.ends;
    }

-- where the same octets are last they are at one offset, with as many elements open
same_offset : (k l a b : ℕ) → (l < k) ⊎ ((l ≡ k) × (a ≤ b)) → (k < l) ⊎ ((k ≡ l) × (b ≤ a)) → (k ≡ l) × (a ≡ b)
same_offset k l a b (inl p) (inl q) = absurd (let z : ⊥ = omega (arith, p, q) in z)
same_offset k l a b (inl p) (inr q) = absurd (let z : ⊥ = omega (arith, p, q.0) in z)
same_offset k l a b (inr p) (inl q) = absurd (let z : ⊥ = omega (arith, p.0, q) in z)
same_offset k l a b (inr p) (inr q) = (q.0, omega (arith, p.1, q.1))

one_need : PlacesAreApart profile_two → FaultsAreLast profile_two → (fed : List ℕ) (m n : ℕ) → IsTrue (are_octets fed) → NeedsAfter fed m → NeedsAfter fed n → m ≡ n
one_need apart last fed m n octets x y =
    let p = place_of fed m x in
    let q = place_of fed n y in
    let k = length x.before in
    let l = length y.before in
    let o = same_offset k l (length x.place) (length y.place)
    (last fed x.place y.place k l (fault Cause.Truncated (length fed)) octets p.due p.ends q.due)
    (last fed y.place x.place l k (fault Cause.Truncated (length fed)) octets q.due q.ends p.due) in
    let place : x.place ≡ y.place = apart fed x.place y.place k octets p.due (subst (λ i. IsDue profile_two fed i y.place) (sym o.0) q.due) o.1 in
    let rest : x.rest ≡ y.rest =
    sym (ap (drop k) x.joined ∙ drop_front x.before x.rest) ∙ ap (λ i. drop i fed) o.0 ∙ ap (drop l) y.joined ∙ drop_front y.before y.rest in
    let moved : IsNeed y.place l y.rest m =
    subst (λ a. IsNeed a l y.rest m) place (subst (λ i. IsNeed x.place i y.rest m) o.0 (subst (λ r. IsNeed x.place k r m) rest x.needed)) in
    by_end (outermost y.place) y.place l y.rest m n moved y.needed

pub returns-clause-same : goal.returns-clause-same
returns-clause-same c =
    let f = c.requires in
    one_need (c.one_place.ensures.apart profile_two) (c.one_place.ensures.last profile_two) f.0 c.need.result c.need-2.result f.1.1.0.octets
    (c.need.ensures.needs.exact f.0 f.1) (c.need-2.ensures.needs.exact f.0 f.2)

pub returns-clause-some : goal.returns-clause-some
returns-clause-some c = c.need.ensures.some c.requires.0 c.requires.1

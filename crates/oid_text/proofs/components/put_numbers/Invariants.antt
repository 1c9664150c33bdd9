use Rattle.std.proofs.Common.{◌≡◌, ℕ, List, ◌++◌, flat_map, length, IsTrue}
use Rattle.ill_schema.specs.Texts.{after_dot}
use Rattle.oid_text.specs.Numbers.{are_short, subidentifier}
use Rattle.oid_text.proofs.components.put_numbers.Given as goal

abbrev pub invariant-numbers : goal.invariant-numbers
invariant-numbers l = record {
  forth : (ns : List ℕ) → IsTrue (are_short ns) → l.left ≡ flat_map after_dot ns → (ms : List ℕ) × IsTrue (are_short ms) × (l.text ≡ flat_map after_dot ms) × (l.octets.items ++ flat_map subidentifier ns ≡ l.fn.octets.items ++ flat_map subidentifier ms);
  back : (ms : List ℕ) → IsTrue (are_short ms) → l.text ≡ flat_map after_dot ms → (ns : List ℕ) × IsTrue (are_short ns) × (l.left ≡ flat_map after_dot ns);
}

abbrev pub decreases-numbers : goal.decreases-numbers
decreases-numbers l = length l.left

use Rattle.std.proofs.Common.{◌≡◌, true, length, IsTrue}
use Rattle.std.specs.Prelude.{flat_map}
use Rattle.ill_schema.specs.Texts.{after_dot}
use Rattle.ill_grammar.specs.Identifiers.{are_short, numbers_in}
use Rattle.ill_text.specs.code.Sending.{Adds, Sending, sending}
use Rattle.ill_text.proofs.module_leaf.put_numbers.Given as goal

-- the numbers that are left are small, and putting them puts all
abbrev pub invariant-numbers : goal.invariant-numbers
invariant-numbers g l = record {
  small : are_short (numbers_in l.fn.marks) ≡ true → are_short (numbers_in l.left) ≡ true;
  adds : are_short (numbers_in l.fn.marks) ≡ true → (s : Sending) → Adds (flat_map after_dot (numbers_in l.left)) (sending (g.W.Sink.contents l.sink) (g.W.Sink.is_broken l.sink) l.out) s
      → Adds (flat_map after_dot (numbers_in l.fn.marks)) (sending (g.W.Sink.contents l.fn.sink) (g.W.Sink.is_broken l.fn.sink) l.fn.out) s;
  stays : IsTrue (g.W.Sink.is_broken l.fn.sink) → IsTrue (g.W.Sink.is_broken l.sink);
}

abbrev pub decreases-numbers : goal.decreases-numbers
decreases-numbers g l = length l.left

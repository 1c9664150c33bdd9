-- A machine that goes from place to place.
use Rattle.std.specs.Prelude.{ℕ, ◌+◌, List, [], ◌∷◌, length, drop, Option}
use Rattle.ber_tree.specs.Identifier.{Tag}
use Rattle.ber_tree.specs.Tree.{Tree, Trees, primitive, constructed, none, more}
use Rattle.ill_refusals.specs.Element.{Element}
use Rattle.ill_refusals.specs.Place.{Open}
use Rattle.ill_refusals.specs.Fault.{Fault}
use Rattle.ill_refusals.specs.code.Judge.{Judgement, faulty, closes, opens, reads}

pub data Step : Type 0 where
  refused : Fault → Step
  -- the message's tree, and where it ends
  whole : Tree → ℕ → Step
  -- the next place, and the octets after it
  goes : List Open → ℕ → List ℕ → Step
  stuck : Step

abbrev pub snoc : Trees → Tree → Trees
snoc none T = more T none
snoc (more U ts) T = more U (snoc ts T)

abbrev pub with_tree : List Open → Tree → ℕ → List ℕ → Step
with_tree [] T k rest = whole T k
with_tree (o ∷ path) T k rest = goes (record o { trees = snoc o.trees T } ∷ path) k rest

abbrev pub close : List Open → ℕ → List ℕ → Step
close [] k rest = stuck
close (o ∷ path) k rest = with_tree path (constructed o.tag o.trees) k rest

abbrev pub opened : Element → Tag → ℕ → Option ℕ → Open
opened e tag k end = record { element = e; tag = tag; start = k; end = end; trees = none }

abbrev pub step_after : Judgement → List Open → ℕ → List ℕ → Step
step_after (faulty f) path k rest = refused f
step_after (closes m) path k rest = close path (k + m) (drop m rest)
step_after (opens tag e h end) path k rest = goes (opened e tag k end ∷ path) (k + h) (drop h rest)
step_after (reads tag h content) path k rest = with_tree path (primitive tag content) (k + h + length content) (drop (h + length content) rest)

-- The names of parts are short.
use Rattle.std.proofs.Common.{◌≡◌, ℕ, zero, suc, ◌+◌, ◌≤◌, Bool, true, false, ◌&&◌, nat_le, List, [], ◌∷◌, ◌++◌, codes, length, Option, Some, None, option_map, IfSome, slice_get, refl, arith, length-append}
use Rattle.std.specs.List.{list_all}
use Rattle.std.proofs.lemmas.Bool.{leb-true}
use Rattle.ill_tables.specs.Names.{names_of, part_name_of}
use Rattle.ill_schema.specs.Names.{cause_part_name_of}
use Rattle.ill_tables.specs.declared.node.NodeId.{NodeId}
use Rattle.ill_tables.specs.declared.node.NodeId.TheVariants.{Boolean}
use Rattle.ill_tables.specs.declared.part.PartId.{PartId}
use Rattle.ill_schema.specs.declared.refusal.Cause.{Cause}
use Rattle.ill_c.specs.Refusals.{part_text}

abbrev is_short : ℕ → List ℕ → Bool
is_short n row = nat_le (n + length row) 62

all_short : (node : NodeId) → list_all (is_short (length (names_of node).0)) (names_of node).1 ≡ true
all_short Boolean = refl
all_short _ = refl

both : (a b : Bool) → (a && b) ≡ true → (a ≡ true) × (b ≡ true)
both true b h = (refl, h)
both false b h = cc

row_short : (n : ℕ) (rows : List (List ℕ)) (i : ℕ) → list_all (is_short n) rows ≡ true → IfSome (slice_get rows i) (λ row. n + length row ≤ 62)
row_short n [] i h = tt
row_short n (row ∷ rows) zero h = leb-true _ _ (both _ _ h).0
row_short n (row ∷ rows) (suc i) h = row_short n rows i (both _ _ h).1

joined_short : (node : List ℕ) (row : Option (List ℕ)) → IfSome row (λ r. length node + length r ≤ 62)
    → length (part_text (option_map (λ r. (node, r)) row)) ≤ 63
joined_short node None h = omega arith
joined_short node (Some row) h =
    let outer = length-append (node ++ codes ".") row in
    let inner = length-append node (codes ".") in
    omega (arith, outer, inner, h)

part_short : (part : PartId) → length (part_text (part_name_of part)) ≤ 63
part_short part = joined_short (names_of part.node).0 _ (row_short _ (names_of part.node).1 part.row (all_short part.node))

pub text_short : (cause : Cause) → length (part_text (cause_part_name_of cause)) ≤ 63
text_short (Cause.LeftOut part) = part_short part
text_short (Cause.Missing part) = part_short part
text_short _ = omega arith

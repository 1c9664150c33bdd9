-- The normal tree of a message is the element of its row of ILL-APDU.
use Rattle.std.proofs.Common.{◌≡◌, ◌-◌, ◌≤◌, length, Some, None, slice_get, sym, ap, ◌∙◌, subst, arith}
use Rattle.ber_core.specs.Der.{size}
use Rattle.ber_core.proofs.Encodings.{length-encoding}
use Rattle.ber_leaf.specs.Profile.{profile_two}
use Rattle.ill_schema.specs.declared.message.Message.{Message}
use Rattle.ill_tables.specs.declared.node.NodeId.TheVariants.{IllApdu}
use Rattle.ill_tables.specs.declared.part.Row.{Row}
use Rattle.ill_schema.specs.Apdu.{normal_form}
use Rattle.ill_schema.specs.Content.{Content}
use Rattle.ill_schema.specs.Elements.{row_tree}
use Rattle.ill_schema.specs.Message.{apdu_of}
use Rattle.ill_tables.specs.Table.{rows_of}
use Rattle.ill_schema.proofs.Trees.{chosen_tree}
use Rattle.ill_write.specs.ContentSizes.{tree_of}

pub message_tree : (m : Message) (row : Row) (body : Content) → slice_get (rows_of IllApdu) ((apdu_of m).number - 1) ≡ Some row → body ≡ (apdu_of m).body → tree_of m ≡ row_tree row body
message_tree m row body e is = chosen_tree None IllApdu ((apdu_of m).number - 1) ((apdu_of m).body) row e ∙ ap (λ c. row_tree row c) (sym is)

pub length-normal_form : (m : Message) → length (normal_form (apdu_of m)) ≡ size (tree_of m)
length-normal_form m = length-encoding (tree_of m)

pub message_small : (m : Message) (row : Row) (body : Content) → slice_get (rows_of IllApdu) ((apdu_of m).number - 1) ≡ Some row → body ≡ (apdu_of m).body
    → length (normal_form (apdu_of m)) ≤ profile_two.limit → size (row_tree row body) ≤ profile_two.limit
message_small m row body e is le = subst (λ T. size T ≤ profile_two.limit) (message_tree m row body e is) (omega (arith, length-normal_form m, le))

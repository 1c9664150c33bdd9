-- What a string stands for, whichever its alternative.
use Rattle.std.specs.Prelude.{ℕ, List}
use Rattle.ber_leaf.specs.declared.text.ill_string.IllString.{IllString}
use Rattle.ber_leaf.specs.declared.text.ill_string.IllString.TheVariants.{General, Visible}
use Rattle.ber_leaf.specs.Leaf.{Leaf, general_string, visible_string}
use Rattle.ber_leaf.specs.Simple.{Simple, general, visible}

-- the octets of the chosen alternative
abbrev pub string_octets : IllString → List ℕ
string_octets (General text) = text
string_octets (Visible text) = text

-- the kind of the chosen alternative
abbrev pub string_leaf : IllString → Leaf
string_leaf (General text) = general_string
string_leaf (Visible text) = visible_string

-- the value: the choice is a part of it
abbrev pub string_value : IllString → Simple
string_value (General text) = general text
string_value (Visible text) = visible text

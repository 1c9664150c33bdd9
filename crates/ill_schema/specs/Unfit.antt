-- Why a value is no message's body.
use Rattle.std.specs.Prelude.{◌≡◌, ◌<◌, Some, None, length}
use Rattle.ber_leaf.specs.Profile.{profile_two}
use Rattle.ill_tables.specs.declared.{node.NodeId.NodeId}
use Rattle.ill_schema.specs.declared.{unfit.Unfit.Unfit}
use Rattle.ill_schema.specs.declared.unfit.Unfit.TheVariants.{NotCarried, DoesNotFit, TooLong}
use Rattle.ill_schema.specs.Apdu.{Apdu, normal_form}
use Rattle.ill_schema.specs.Fits.{Fits, FitsApdu}
use Rattle.ill_schema.specs.Names.{apdu_node_of}

-- the first of the three tests that the APDU fails
abbrev pub IsUnfit : Unfit → Apdu → Type 0
IsUnfit NotCarried a = apdu_node_of a.number ≡ None
IsUnfit DoesNotFit a = (node : NodeId) × (apdu_node_of a.number ≡ Some node) × (Fits profile_two a.body node → ⊥)
IsUnfit TooLong a = FitsApdu profile_two a × (profile_two.limit < length (normal_form a))

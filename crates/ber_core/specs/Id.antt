-- What contracts see of an identifier that is held.
use Rattle.std.specs.Prelude.{ℕ, Bool, List}
use Rattle.ber_core.specs.declared.id.Id.{Id}
use Rattle.ber_tree.specs.Identifier.{Tag, identifier}

abbrev pub tag_of_id : Id → Tag
tag_of_id id = record { class = id.class; number = id.number }

-- the form: whether it is constructed
abbrev pub form_of_id : Id → Bool
form_of_id id = id.constructed

abbrev pub id_octets : Id → List ℕ
id_octets id = identifier (tag_of_id id) (form_of_id id)

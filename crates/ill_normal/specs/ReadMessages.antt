-- A message that was read, with what was kept of it.
use Rattle.std.specs.Prelude.{◌≡◌, ℕ, Bool, List, length, IsTrue}
use Rattle.ber_leaf.specs.Profile.{Profile}
use Rattle.ill_schema.specs.Apdu.{Apdu, SpellsApdu, normal_form_in}
use Rattle.ill_grammar.specs.Outline.{IsOutlineOf}
use Rattle.ill_normal.specs.declared.message_reader.ReadMessage.{ReadMessage}
use Rattle.ill_normal.specs.declared.message_reader.Wants.{Wants}

abbrev pub wants : Bool → Bool → Wants
wants spelled outline = record { spelled = spelled; outline = outline }

-- the octets spell an APDU, and the message has its normal form, the number of octets, and what is wanted of it
pub record IsMessage (q : Profile) (wants : Wants) (message : ReadMessage) (octets : List ℕ) : Type 0 where
  pub apdu : Apdu
  pub spells : SpellsApdu q apdu octets
  pub normal : message.normal.items ≡ normal_form_in q apdu
  pub size : message.len ≡ length octets
  pub spelled : IsTrue wants.spelled → message.spelled.items ≡ octets
  pub outline : IsTrue wants.outline → IsOutlineOf message.outline apdu

-- What a path holds of the elements that are open at a place.
use Rattle.ill_tables.specs.declared.profile.Profile.{Profile as Named}
use Rattle.std.specs.Prelude.{◌≡◌, ℕ, List, [], ◌∷◌, ◌++◌, length, map, Option, Some, option_map, if◌then◌else◌}
use Rattle.ber_tree.specs.Identifier.{Tag}
use Rattle.ber_tree.specs.Tree.{Trees, octet_string, text_all}
use Rattle.ber_leaf.specs.Segments.{bits_after, join_bits, segments_content}
use Rattle.ill_schema.specs.Tagging.{same_tag}
use Rattle.ill_schema.specs.Apdu.{Apdu}
use Rattle.ill_schema.specs.Message.{apdu_of, octets_of}
use Rattle.ill_schema.specs.declared.message.Message.{Message}
use Rattle.ill_schema.specs.declared.value.Value.{Value}
use Rattle.ill_schema.specs.Value.{content_of}
use Rattle.ill_refusals.specs.Element.{leaf, segment}
use Rattle.ill_refusals.specs.Place.{Open}
use Rattle.ill_grammar.specs.Standing.{Level, AreFrames}
use Rattle.ill_read.specs.declared.path.Path.{Path}
use Rattle.ill_read.specs.declared.value_draft.ValueDraft.{ValueDraft}

-- the text of the string that is open, after the text before a segment that is open in it
abbrev pub segments_after : Tag → List ℕ → Trees → List ℕ
segments_after t before trees = if same_tag t octet_string then before ++ text_all trees else bits_after (join_bits before (0 ∷ [])) trees

-- the text of the string that is open, as far as it has been read
abbrev pub text_so_far : List Open → List ℕ
text_so_far [] = []
text_so_far (o ∷ path) = elim o.element as (λ _. List ℕ) [
  | leaf l ↦ segments_content l o.trees
  | segment t ↦ segments_after t (text_so_far path) o.trees
  | _ ↦ []
]

-- the frames of a path are the open elements, and its draft holds what is in them
abbrev pub HoldsAt : {D : Type 0} → Named → (D → List Level → List ℕ → Type 0) → Path D → List Open → Type 0
HoldsAt p holds path opens = (levels : List Level) × AreFrames p opens path.frames.open.items levels × holds path.draft levels (text_so_far opens)
    × (path.frames.profile ≡ p)

-- the values of the levels, outermost first
abbrev pub AreHeld : List Level → List (Option Value) → Type 0
AreHeld [] held = held ≡ []
AreHeld (l ∷ levels) held = (below : List (Option Value)) × (entries : List (Option Value))
    × (held ≡ below ++ entries) × (l.contents_start ≡ length below) × (map (option_map content_of) entries ≡ l.entries) × AreHeld levels below

pub record AreValues (values : ValueDraft) (levels : List Level) (joined : List ℕ) : Type 0 where
  pub held : AreHeld levels values.held.entries.items
  pub text : values.text.items ≡ joined

-- a draft that is a message has this APDU, read of as many octets
abbrev pub AreMessage : ValueDraft → Apdu → ℕ → Type 0
AreMessage values a n = (m : Message) × (values.message ≡ Some m) × (apdu_of m ≡ a) × (octets_of m ≡ n)

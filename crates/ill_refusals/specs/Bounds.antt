-- How much an APDU's value holds beside the octets that spell it.
use Rattle.std.specs.Prelude.{ℕ, ◌+◌, ◌*◌, ◌≤◌, List, length}
use Rattle.ber_tree.specs.Tree.{Tree, Trees, primitive, constructed, none, more, text}
use Rattle.ber_leaf.specs.Profile.{Profile}
use Rattle.ber_leaf.specs.Simple.{Simple, flag, whole, date, time, printable, general, visible, null, oid, binary, bits, descriptor}
use Rattle.ill_schema.specs.Apdu.{Apdu, Encodes}
use Rattle.ill_schema.specs.Content.{Content, simple, sequence, list, alternative, foreign, Entries, no_entries, absent, present, Items, no_items, item}

abbrev pub text_size : Simple → ℕ
text_size (flag b) = 0
text_size (whole n) = 0
text_size (date octets) = length octets
text_size (time octets) = length octets
text_size (printable octets) = length octets
text_size (general octets) = length octets
text_size (visible octets) = length octets
text_size null = 0
text_size (oid octets) = length octets
text_size (binary octets) = length octets
text_size (bits n octets) = length octets
text_size (descriptor octets) = length octets

abbrev mutual
  -- the octets of all texts and other strings, of all object identifiers, and of all primitive elements of foreign trees
  pub text_octets : Content → ℕ
  text_octets (simple v) = text_size v
  text_octets (sequence es) = entries_text es
  text_octets (list is) = items_text is
  text_octets (alternative n c) = text_octets c
  text_octets (foreign T) = length (text T)

  pub entries_text : Entries → ℕ
  entries_text no_entries = 0
  entries_text (absent es) = entries_text es
  entries_text (present c es) = text_octets c + entries_text es

  pub items_text : Items → ℕ
  items_text no_items = 0
  items_text (item c is) = text_octets c + items_text is

abbrev mutual
  -- the elements of a tree, its own among them
  pub elements : Tree → ℕ
  elements (primitive tag octets) = 1
  elements (constructed tag trees) = 1 + elements_all trees

  pub elements_all : Trees → ℕ
  elements_all none = 0
  elements_all (more tree trees) = elements tree + elements_all trees

abbrev mutual
  -- the items of all lists, and the elements of all foreign trees
  pub items_and_elements : Content → ℕ
  items_and_elements (simple v) = 0
  items_and_elements (sequence es) = entries_items es
  items_and_elements (list is) = items_items is
  items_and_elements (alternative n c) = items_and_elements c
  items_and_elements (foreign T) = elements T

  pub entries_items : Entries → ℕ
  entries_items no_entries = 0
  entries_items (absent es) = entries_items es
  entries_items (present c es) = items_and_elements c + entries_items es

  pub items_items : Items → ℕ
  items_items no_items = 0
  items_items (item c is) = items_and_elements c + 1 + items_items is

-- the texts have at most as many octets as the encoding, and the lists and foreign trees together half as many items and elements
abbrev pub ValuesAreSmall : Profile → Type 0
ValuesAreSmall p = (a : Apdu) (b : List ℕ) → Encodes p a b → (text_octets a.body ≤ length b) × (2 * items_and_elements a.body ≤ length b)

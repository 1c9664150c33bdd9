-- How the list of what is due is made.
use Rattle.std.specs.Prelude.{◌≡◌, ◌<◌, ◌++◌, false, pos, List, [], ◌∷◌, IsTrue, option_map, if◌then◌else◌}
use Rattle.ber_tree.specs.Identifier.{Tag}
use Rattle.ber_leaf.specs.Profile.{profile_two}
use Rattle.ill_tables.specs.Table.{kind_of}
use Rattle.ill_refusals.specs.Element.{components}
use Rattle.ill_grammar.specs.Cells.{is_placed}
use Rattle.ill_grammar.specs.Places.{alternative_of, node_at}
use Rattle.ill_grammar.specs.DueLists.{due_tag, is_listed}
use Rattle.ill_grammar.specs.code.Meant.{cell_choice, cell_opens, cell_starts, default_at, row_there}
use Rattle.ill_grammar.specs.code.Starts.{IsBegunBy}
use Rattle.ill_grammar.specs.declared.cell.Cell.{Cell}
use Rattle.ill_grammar.specs.declared.place.Found.{Found}
use Rattle.ill_grammar.specs.declared.place.Place.{Place}
use Rattle.ill_grammar.specs.declared.place.due_elements.DueElement.{DueElement}

abbrev pub cell_tag : Cell → Tag
cell_tag c = record { class = c.class; number = c.number }

-- what is found, with the tag of its cell
abbrev pub due_found : Found → DueElement
due_found f = record { class = f.tagged.now.class; number = f.tagged.now.number; found = f }

-- one more, where its tag isn't there
abbrev pub with_due : List DueElement → DueElement → List DueElement
with_due ds d = if is_listed (due_tag d) ds then ds else ds ++ d ∷ []

-- the cell is at this place, so that what is found by it is
pub record FitsAt (at : Place) (c : Cell) : Type 0 where
  pub opens : IsTrue (cell_opens c)
  pub placed : IsTrue (is_placed (kind_of (node_at at)) at.position c.slot)
  pub there : IsTrue (row_there c.slot at.position (components profile_two (node_at at)))
  pub default_is : option_map pos c.default ≡ default_at (node_at at) at.position c.slot
  pub few : at.position < 27

-- the element begins at this place by the cell, and its tag was not there before
pub record StartsAt (at : Place) (c : Cell) (before : List DueElement) (d : DueElement) : Type 0 where
  pub there : d.found.at ≡ at
  pub cell : d.found.cell.now ≡ c
  pub is_new : is_listed (due_tag d) before ≡ false
  pub begun : IsBegunBy (due_tag d) (cell_starts d.found.cell.now) (cell_choice d.found.cell.now) (alternative_of d.found) d.found.tagged.now

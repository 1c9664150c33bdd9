-- What is of profile 2.
use Rattle.std.specs.Prelude.{Bool, true, ◌&&◌, List}
use Rattle.std.specs.List.{list_all}
use Rattle.ill_tables.specs.declared.profile.Profile.{Profile as Named}
use Rattle.ill_tables.specs.declared.profile.Profile.TheVariants.{Two, Module}
use Rattle.ill_schema.specs.TableFacts.{is_of_two}
use Rattle.ill_grammar.specs.Places.{is_two, node_at}
use Rattle.ill_grammar.specs.declared.place.Place.{Place}
use Rattle.ill_grammar.specs.declared.place.Found.{Found}
use Rattle.ill_grammar.specs.declared.frame.Frame.{Frame}

-- the open element is of profile 2, and so is what comes in it
abbrev pub is_two_frame : Frame → Bool
is_two_frame f = is_of_two (node_at f.place) && is_two f.found

-- in profile 2 each of the open elements is of profile 2; of the module profile nothing is said
abbrev pub are_of : Named → List Frame → Bool
are_of Two frames = list_all is_two_frame frames
are_of Module frames = true

-- the same of a place, and of what is found
abbrev pub is_place_of : Named → Place → Bool
is_place_of Two at = is_of_two (node_at at)
is_place_of Module at = true

abbrev pub is_found_of : Named → Found → Bool
is_found_of Two f = is_two f
is_found_of Module f = true

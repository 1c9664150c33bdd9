-- The list of what is due at a place.
use Rattle.std.specs.Prelude.{Bool, List, map}
use Rattle.std.specs.List.{list_any}
use Rattle.ber_tree.specs.Identifier.{Tag}
use Rattle.ill_schema.specs.TableFacts.{are_distinct}
use Rattle.ill_schema.specs.Tagging.{same_tag}
use Rattle.ill_grammar.specs.declared.place.due_elements.DueElement.{DueElement}

abbrev pub due_tag : DueElement → Tag
due_tag d = record { class = d.class; number = d.number }

-- an element with the tag is in the list
abbrev pub is_listed : Tag → List DueElement → Bool
is_listed t ds = list_any (λ d. same_tag (due_tag d) t) ds

-- each is in the list by a tag of its own
abbrev pub have_own_tags : List DueElement → Bool
have_own_tags ds = are_distinct (map due_tag ds)

-- What is due by its tag.
use Rattle.std.specs.Prelude.{Option, None}
use Rattle.ber_tree.specs.Identifier.{Tag}
use Rattle.ber_leaf.specs.Profile.{profile_two}
use Rattle.ill_refusals.specs.Next.{Next, anything, foreigns, Due, due}

-- what is due because of its tag: not an element of a foreign tree, which has any
abbrev pub due_by_tag : Tag → Next → Option Due
due_by_tag t (anything c) = None
due_by_tag t (foreigns n) = None
due_by_tag t n = due profile_two t n

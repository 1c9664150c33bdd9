-- What the decoder's types stand for.
use Rattle.std.specs.Prelude.{Bool, true, false, List, find, Option, option_map}
use Rattle.ber_tree.specs.Identifier.{Tag}
use Rattle.ber_tree.specs.Tree.{octet_string}
use Rattle.ber_leaf.specs.Leaf.{bit_string}
use Rattle.ber_leaf.specs.Profile.{profile_two}
use Rattle.ber_leaf.specs.Segments.{segment_tag}
use Rattle.ill_tables.specs.declared.part.PartId.{PartId}
use Rattle.ill_tables.specs.declared.part.Presence.{Presence}
use Rattle.ill_tables.specs.declared.part.Row.{Row}
use Rattle.ill_schema.specs.Tagging.{untagged, tagging, same_tag}
use Rattle.ill_refusals.specs.Element.{Component, Element, leaf, sequence, list, wrapper, loose_wrapper, segment, foreign, left_out, Start}
use Rattle.ill_grammar.specs.LeafTypes.{leaf_is, module_leaf_is}
use Rattle.ill_grammar.specs.declared.element.Element.{Element as CodeElement}
use Rattle.ill_grammar.specs.declared.element.Element.TheVariants as code
use Rattle.ill_grammar.specs.Begun.{Begun}
use Rattle.ill_grammar.specs.Begun as begun
use Rattle.ill_grammar.specs.declared.element.Wrapped.{Wrapped}

abbrev pub component_of : Wrapped → Component
component_of w = record { part = w.part; presence = Presence.Must; tagging = untagged; node = w.node }

abbrev pub element_is : CodeElement → Element
element_is (code.Leaf l) = leaf (leaf_is l)
element_is (code.ModuleLeaf l) = leaf (module_leaf_is l)
element_is (code.Sequence node) = sequence node
element_is (code.List node) = list node
element_is (code.Wrapper w) = wrapper (component_of w)
element_is (code.LooseWrapper w) = loose_wrapper (component_of w)
element_is code.Segment = segment octet_string
element_is code.BitString = leaf bit_string
element_is code.BitSegment = segment (segment_tag bit_string)
element_is (code.Foreign n) = foreign n

abbrev pub found_is : Begun → Element
found_is (begun.Element e) = element_is e
found_is (begun.LeftOut part) = left_out part

-- the component that a row is
abbrev pub component_at : PartId → Row → Component
component_at part row = record { part = part; presence = row.presence; tagging = tagging profile_two row; node = row.node }

-- the first element with the tag
abbrev pub element_with : Tag → List Start → Option Element
element_with tag ss = option_map (λ s. s.element) (find (λ s. same_tag s.tag tag) ss)

-- an element of profile 2
abbrev pub is_two_element : CodeElement → Bool
is_two_element (code.ModuleLeaf l) = false
is_two_element code.BitString = false
is_two_element code.BitSegment = false
is_two_element (code.Foreign n) = false
is_two_element _ = true

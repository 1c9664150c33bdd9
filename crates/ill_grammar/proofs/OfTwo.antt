-- What is found in profile 2, and in frames of profile 2.
use Rattle.std.proofs.Common.{◌≡◌, [], ◌∷◌, true, IsTrue, refl, sym, ap, subst}
use Rattle.std.proofs.lemmas.Bool.{and_parts}
use Rattle.ill_schema.specs.TableFacts.{is_of_two}
use Rattle.ill_tables.specs.declared.node.NodeId.{NodeId}
use Rattle.ill_tables.specs.declared.part.PartId.{PartId}
use Rattle.ill_tables.specs.declared.profile.Profile.{Profile as Named}
use Rattle.ill_tables.specs.declared.profile.Profile.TheVariants.{Two, Module}
use Rattle.ill_grammar.specs.Cells.{is_two_type}
use Rattle.ill_grammar.specs.Places.{PlaceView, first_place, is_two, node_at, node_of, part_of, place_after, slot_of, type_of, place_view}
use Rattle.ill_grammar.specs.declared.place.Found.{Found as CellFound}
use Rattle.ill_grammar.specs.declared.place.Place.{Place}
use Rattle.ill_grammar.specs.declared.cell.EntryRole.{EntryRole}
use Rattle.ill_grammar.specs.declared.cell.EntryRole.TheVariants as cell
use Rattle.ill_grammar.specs.declared.cell.ElementType.{ElementType}
use Rattle.ill_grammar.specs.declared.cell.ElementType.TheVariants as element_type
use Rattle.ill_grammar.specs.Due.{element_as, read_as}
use Rattle.ill_grammar.specs.Elements.{is_two_element}
use Rattle.ill_grammar.specs.declared.element.Element.TheVariants as code
use Rattle.ill_grammar.specs.Two.{are_of, is_found_of, is_place_of, is_two_frame}
use Rattle.ill_grammar.specs.declared.frame.Frame.{Frame}

element_two : (w : ElementType) (p : PartId) (node : NodeId) → IsTrue (is_two_type w) → IsTrue (is_two_element (element_as p node w))
element_two (element_type.ModuleLeaf l) p node h = absurd cc
element_two element_type.BitString p node h = absurd cc
element_two element_type.BitSegment p node h = absurd cc
element_two element_type.Foreign p node h = absurd cc
element_two _ p node h = refl

-- what is found in profile 2 is read as an element of profile 2
pub read_two : (f : CellFound) → IsTrue (is_two f) → IsTrue (is_two_element (read_as f))
read_two f h =
    let cell = (and_parts (is_of_two (node_at f.at)) _ h).1 in
    element_two (type_of f) (part_of f) (node_of f) (and_parts (is_of_two (node_of f)) _ cell).1

-- the place in what is found, and the place after it, are of profile 2
first_two : (f : CellFound) (at : Place) → IsTrue (is_two f) → place_view at ≡ first_place f → IsTrue (is_of_two (node_at at))
first_two f at h e =
    let node : node_at at ≡ node_of f = ap (λ (w : PlaceView). w.node) e in
    subst (λ n. IsTrue (is_of_two n)) (sym node) (and_parts (is_of_two (node_of f)) _ (and_parts (is_of_two (node_at f.at)) _ h).1).0

after_two : (f : CellFound) (at : Place) → IsTrue (is_two f) → place_view at ≡ place_after f (slot_of f) → IsTrue (is_of_two (node_at at))
after_two f at h e = go (slot_of f) (ap (λ (w : PlaceView). w.node) e)
  where
    round : IsTrue (is_of_two (node_at f.at))
    round = (and_parts (is_of_two (node_at f.at)) _ h).0

    there : node_at at ≡ node_at f.at → IsTrue (is_of_two (node_at at))
    there s = subst (λ n. IsTrue (is_of_two n)) (sym s) round

    go : (s : EntryRole) → node_at at ≡ (place_after f s).node → IsTrue (is_of_two (node_at at))
    go cell.Inner s = subst (λ n. IsTrue (is_of_two n)) (sym s) refl
    go cell.Root s = subst (λ n. IsTrue (is_of_two n)) (sym s) refl
    go cell.Row s = there s
    go cell.Item s = there s
    go cell.Segment s = there s
    go cell.Foreign s = there s

-- the same of the profile of a message
pub first_of : (p : Named) (f : CellFound) (at : Place) → IsTrue (is_found_of p f) → place_view at ≡ first_place f → IsTrue (is_place_of p at)
first_of Two f at h e = first_two f at h e
first_of Module f at h e = refl

pub after_of : (p : Named) (f : CellFound) (at : Place) → IsTrue (is_found_of p f) → place_view at ≡ place_after f (slot_of f) → IsTrue (is_place_of p at)
after_of Two f at h e = after_two f at h e
after_of Module f at h e = refl

-- an element that opens, where it and what comes in it are of the profile
pub opened_of : (p : Named) (f : Frame) → IsTrue (is_found_of p f.found) → IsTrue (is_place_of p f.place) → IsTrue (are_of p (f ∷ []))
opened_of Two f found place = rw place (rw found refl)
opened_of Module f found place = refl

-- an element that was open
pub closed_of : (p : Named) (f : Frame) → IsTrue (are_of p (f ∷ [])) → IsTrue (is_found_of p f.found)
closed_of Two f h =
    let frame = (and_parts (is_two_frame f) true h).0 in
    (and_parts (is_of_two (node_at f.place)) _ frame).1
closed_of Module f h = refl

-- nor is what is found in profile 2 a segment of a BIT STRING
pub no_bit_segment : (f : CellFound) → IsTrue (is_two f) → read_as f ≡ code.BitSegment → ⊥
no_bit_segment f two e = let q : IsTrue (is_two_element code.BitSegment) = subst (λ x. IsTrue (is_two_element x)) e (read_two f two) in cc

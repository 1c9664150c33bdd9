-- The profile that a path's message is read in.
use Rattle.std.proofs.Common.{◌≡◌, ◌++◌, ℕ, Bool, List, IsTrue, length, refl, sym, subst}
use Rattle.ber_leaf.specs.Content.{IsContent}
use Rattle.ber_leaf.specs.Leaf.{Leaf, value}
use Rattle.ill_grammar.specs.Places.{is_two}
use Rattle.ill_grammar.specs.LeafTypes.{IsContentIn}
use Rattle.ill_grammar.specs.Two.{is_found_of}
use Rattle.ill_grammar.specs.declared.element.Element.{Element as CodeElement}
use Rattle.ill_grammar.specs.declared.element.Element.TheVariants.{BitString, Foreign, ModuleLeaf}
use Rattle.ill_read.specs.code.Drafts.{IsModuleElement}
use Rattle.ill_tables.specs.declared.profile.Profile.TheVariants.{Two}
use Rattle.ill_tables.specs.declared.profile.Profile.{Profile as Named}
use Rattle.ber_tree.specs.Identifier.{Tag}
use Rattle.ill_grammar.specs.declared.place.Found.{Found}
use Rattle.ill_grammar.specs.Due.{read_as}
use Rattle.ill_grammar.specs.Elements.{element_is, is_two_element}
use Rattle.ill_grammar.specs.code.Judging.{IsBegin}
use Rattle.ill_grammar.proofs.Judgements.{headed_judged}
use Rattle.ill_refusals.specs.Fault.{Fault}
use Rattle.ber_core.specs.Reading.{identified, read_identifier}
use Rattle.ill_refusals.specs.code.Judge.{judge_element, judge_length}
use Rattle.ill_schema.specs.Profiles.{profile_of}
use Rattle.ill_refusals.specs.Place.{Open}
use Rattle.ill_grammar.specs.Standing.{AreFrames, Level, StandsAt}
use Rattle.ill_read.specs.Paths.{HoldsAt}
use Rattle.ill_read.specs.declared.path.Path.{Path}

-- where a path holds what is open, its frames stand
pub stands_at : {D : Type 0} (p : Named) (holds : D → List Level → List ℕ → Type 0) (path : Path D) (place : List Open) → HoldsAt p holds path place → StandsAt path.frames place
stands_at p holds path place h = (h.0, subst (λ q. AreFrames q place path.frames.open.items h.0) (sym h.3) h.1)

-- what is judged of an element that has begun, after its identifier
pub headed_in : {D : Type 0} (p : Named) (path : Path D) (place : List Open) (tag : Tag) (found : Found) (f : Bool) (at : ℕ) (cut : Fault) (w front behind : List ℕ) → path.frames.profile ≡ p → StandsAt path.frames place
    → IsBegin path.frames place tag found f → w ≡ front ++ behind → read_identifier w ≡ identified tag f behind
    → judge_element (profile_of p) place at cut w ≡ judge_length (profile_of p) place (element_is (read_as found)) tag f at (length front) cut behind
headed_in p path place tag found f at cut w front behind is stands begun spelled read =
    subst (λ q. judge_element (profile_of q) place at cut w ≡ judge_length (profile_of q) place (element_is (read_as found)) tag f at (length front) cut behind) is
    (headed_judged path.frames place tag found f at cut w front behind stands begun spelled read)

-- what is found, and a content, of a message in profile 2
pub found_two : (p : Named) (f : Found) → p ≡ Two → IsTrue (is_found_of p f) → IsTrue (is_two f)
found_two p f e h = subst (λ q. IsTrue (is_found_of q f)) e h

pub content_two : (p : Named) (l : Leaf) (octets : List ℕ) → p ≡ Two → IsContentIn p l octets → IsContent l octets
unfolding IsContent
content_two p l octets e h = let right = subst (λ q. IsContentIn q l octets) e h in (value l octets, (right.0, right.1, refl))

-- no element of profile 2 is one that only the module profile has
pub no_module_element : (e : CodeElement) → IsTrue (is_two_element e) → IsModuleElement e → ⊥
no_module_element (ModuleLeaf l) two h = cc
no_module_element BitString two h = cc
no_module_element (Foreign m) two h = cc
no_module_element _ two h = h

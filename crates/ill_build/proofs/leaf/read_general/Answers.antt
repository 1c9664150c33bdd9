use Rattle.std.proofs.Common.{◌≡◌, None, IsTrue, refl, subst, sym, IfOk}
use Rattle.json.specs.Find.{as_str}
use Rattle.json.specs.Json.{string}
use Rattle.json.specs.Value.{value_view}
use Rattle.ber_leaf.specs.Leaf.{content_fault, general_string}
use Rattle.ber_tree.specs.Octets.{are_octets}
use Rattle.ill_schema.specs.Profiles.{profile_of}
use Rattle.ill_schema.specs.Texts.{characters}
use Rattle.ill_build.specs.Faulty.{IsFaultOf, IsTextFault}
use Rattle.ill_build.specs.Path.{OnRefusal}
use Rattle.ill_build.proofs.LeafTexts.{any_general}
use Rattle.ill_build.proofs.leaf.read_general.Goals as goal

pub returns-in-Two-clause-said : goal.returns-in-Two-clause-said
returns-in-Two-clause-said c =
    let j = value_view c.args.value.now in
    subst (λ p. IfOk c.read_text.result (λ read. IsTrue (are_octets read.octets.items) × (content_fault (profile_of p) general_string read.octets.items ≡ None) × (j ≡ string (characters read.octets.items)) × (read.number ≡ 27)))
    (sym c.in-Two.is) c.read_text.ensures.said

pub returns-in-Two-clause-refused : goal.returns-in-Two-clause-refused
returns-in-Two-clause-refused c =
    let j = value_view c.args.value.now in
    subst (λ p. OnRefusal c.read_text.result (IsFaultOf (as_str j) (IsTextFault (profile_of p) general_string))) (sym c.in-Two.is) c.read_text.ensures.refused

pub returns-in_ok-octets-in-Module-clause-said : goal.returns-in_ok-octets-in-Module-clause-said
returns-in_ok-octets-in-Module-clause-said c =
    let octets = c.in_ok-octets-in-Module.octets.items in
    let h = c.in_ok-octets-in-Module.ensures.said in
    (h.0, subst (λ p. content_fault (profile_of p) general_string octets ≡ None) (sym c.in-Module.is) (any_general octets), h.1, refl)

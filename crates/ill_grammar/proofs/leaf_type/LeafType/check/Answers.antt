use Rattle.std.proofs.Common.{◌≡◌, ℕ, List, [], ◌∷◌, None, Some, true, if◌then◌else◌, refl, sym, ap, subst}
use Rattle.std.specs.List.{list_all}
use Rattle.ber_leaf.specs.Leaf.{content_fault}
use Rattle.ber_leaf.specs.declared.fault.LeafFault.{LeafFault}
use Rattle.ill_schema.specs.Profiles.{general_of, profile_of}
use Rattle.ill_tables.specs.declared.profile.Profile.{Profile as Named}
use Rattle.ill_tables.specs.declared.profile.Profile.TheVariants.{Module}
use Rattle.ill_grammar.specs.LeafTypes.{leaf_is}
use Rattle.ill_grammar.specs.declared.leaf_type.LeafType.{LeafType}
use Rattle.ill_grammar.specs.declared.leaf_type.LeafType.TheVariants.{General}
use Rattle.ill_grammar.proofs.leaf_type.LeafType.check.Goals as goal

-- a GeneralString of the module profile holds any octets
any_octets : (octets : List ℕ) → list_all (general_of Module) octets ≡ true
any_octets [] = refl
any_octets (o ∷ octets) = any_octets octets

pub returns-in-Module : goal.returns-in-Module
returns-in-Module c =
    let octets = c.args.octets.now in
    let P : LeafType → Named → Type 0 = λ l p. None ≡ content_fault (profile_of p) (leaf_is l) octets in
    let right : P General Module = ap (λ b. if b then None else Some LeafFault.BadText) (sym (any_octets octets)) in
    subst (λ l. P l c.args.profile) (sym c.in-General.is) (subst (P General) (sym c.in-Module.is) right)

-- Foreign trees: what stands where the type is open (X.690, 8.15). Each element counts as it is, but for its length.
use Rattle.std.specs.Prelude.{ℕ, zero, suc, Bool, true, false, not, ◌&&◌, ◌||◌, nat_eq, nat_le}
use Rattle.ber_tree.specs.Identifier.{Tag, class_bits}
use Rattle.ber_tree.specs.Octets.{are_octets}
use Rattle.ber_tree.specs.Tree.{Tree, Trees, primitive, constructed, none, more}

-- the tag has an identifier in this form, as `HasIdentifier` says (8.1.2, 8.1.5)
abbrev pub is_identified : Tag → Bool → Bool
is_identified tag form = nat_le tag.number 268_435_455 && (form || not (nat_eq (class_bits tag.class) 0 && nat_eq tag.number 0))

abbrev mutual
  -- each element has an identifier, the primitive ones have octets, and there are at most so many levels
  pub is_foreign : ℕ → Tree → Bool
  is_foreign zero T = false
  is_foreign (suc n) (primitive tag octets) = is_identified tag false && are_octets octets
  is_foreign (suc n) (constructed tag trees) = is_identified tag true && are_foreign n trees

  pub are_foreign : ℕ → Trees → Bool
  are_foreign n none = true
  are_foreign n (more tree trees) = is_foreign n tree && are_foreign n trees

-- how many levels a foreign tree may have
abbrev pub foreign_levels : ℕ
foreign_levels = 20

-- What is made of a line of JSON and put into a buffer.
use Rattle.std.proofs.Common.{◌≡◌, inl, ℕ, Bool, List, subst}
use Rattle.ber_leaf.specs.Profile.{Profile}
use Rattle.ill_c.specs.Builds.{BuildsIn, IsBuilt}
use Rattle.ill_c.specs.Calls.{Puts}
use Rattle.ill_c.specs.Memory.{Change, Fills, IsTooShort, Stays}
use Rattle.ill_c.specs.declared.status.Status.{Status}

module _ (defaults : Bool) (p : Profile) (line items octets : List ℕ) (buffer : Change (List ℕ)) (size cause : Change ℕ) where
  -- what was built of the line was put
  pub built : (status : Status) → IsBuilt defaults p line items → octets ≡ items → Stays cause → Puts octets buffer size status → BuildsIn defaults p line buffer size cause status
  built Status.Done is e stays put = ((items, is, subst (λ o. Fills o buffer size) e put), stays)
  built Status.NoRoom is e stays put = ((items, inl is, subst (λ o. IsTooShort o buffer size) e put), stays)
  built _ is e stays put = absurd put

-- What calls leave that are given lines of JSON is one result in each profile.
use Rattle.std.proofs.Common.{◌≡◌, ◌≢◌, ◌∙◌, ◌⊎◌, inl, inr, ℕ, false, ◌≤◌, List, length, refl, sym, ap, subst, arith}
use Rattle.ber_leaf.specs.Profile.{Profile}
use Rattle.ill_schema.specs.Apdu.{Apdu, SpellsApdu, normal_form_in}
use Rattle.ill_schema.specs.Fits.{FitsApdu}
use Rattle.ill_schema.proofs.MeansFits.{means_apdu_fits}
use Rattle.ill_build.proofs.LinesUnsaid.{faulty_line_clean}
use Rattle.ill_build.proofs.OneFault.{one_line_fault}
use Rattle.ill_build.proofs.OneSaid.{apdu_said_once, line_once}
use Rattle.ill_build.specs.Causes.{cause_name, cause_number}
use Rattle.ill_build.specs.Line.{IsFaultyLine, SaysApdu, line_limit, pointer_of}
use Rattle.ill_build.specs.Path.{Step}
use Rattle.ill_build.specs.declared.cause.BuildCause.{BuildCause}
use Rattle.ill_c.specs.Builds.{BuildsIn, IsBuilt, NamesBuildCause}
use Rattle.ill_c.specs.Memory.{Change, Fills, IsTooShort}
use Rattle.ill_c.specs.OneResult.{BuildsOnce, IsBuildable, NamesBuildCauseOnce}
use Rattle.ill_c.specs.Status.{ReturnsStatus, status_number}
use Rattle.ill_c.specs.declared.status.Status.{Status}
use Rattle.ill_c.proofs.BuildCauses.{one_cause}

module _ (p : Profile) (line : List ℕ) (buffer : Change (List ℕ)) (size cause : Change ℕ) where
  -- what was built is the normal form of this APDU
  one_built : (octets : List ℕ) (a : Apdu) → IsBuilt false p line octets → IsBuildable p line a → octets ≡ normal_form_in p a
  one_built octets a (b, says, spells, e) can =
      e refl ∙ ap (normal_form_in p) (apdu_said_once p line b a says can.says (means_apdu_fits p b spells.encodes.tree spells.encodes.means) can.fits)

  -- a line of which an APDU can be built has no fault
  no_fault : (a : Apdu) (c : BuildCause) (path : List Step) → IsBuildable p line a → IsFaultyLine p line c path → ⊥
  no_fault a c path can f =
      faulty_line_clean p line a c path can.line_short (record { fits = can.fits; short = can.normal_short }) can.says (λ j b t u g. line_once p j a b t u can.fits g) f

  -- a line of which an APDU was built has none
  none_built : (octets : List ℕ) (c : BuildCause) (path : List Step) → IsBuilt false p line octets → length line ≤ line_limit → IsFaultyLine p line c path → ⊥
  none_built octets c path (a, says, spells, e) short f =
      no_fault a c path (record { says = says; fits = means_apdu_fits p a spells.encodes.tree spells.encodes.means; line_short = short; normal_short = spells.normal_short }) f

  -- the place of a fault is that of the one fault
  one_place : (c d : BuildCause) (path place : List Step) (octets : List ℕ) → IsFaultyLine p line c path → octets ≡ pointer_of path → IsFaultyLine p line d place → octets ≡ pointer_of place
  one_place c d path place octets f e g = e ∙ ap pointer_of (one_line_fault p line c d path place f g).1

  tried : (status : Status) → BuildsIn false p line buffer size cause status → BuildsOnce p line buffer size cause (status_number status)
  tried Status.Done ((octets, is, fills), stays) = record {
    room = λ a can le ne. (refl, subst (λ o. Fills o buffer size) (one_built octets a is can) fills);
    no_room = λ a can lt ne. let e = ap length (one_built octets a is can) in absurd (let fits = fills.fits in omega (arith, e, lt, fits));
    refused = λ c path short f le ne. absurd (none_built octets c path is short f);
    refused_no_room = λ c path short f lt ne. absurd (none_built octets c path is short f);
    buffer_stays = λ ne ne'. absurd (ne refl);
    size_stays = λ e. absurd (omega (arith, e));
    cause_stays = λ ne. stays;
  }
  tried Status.Refused (c, (octets, (path, f, e), fills), told) = record {
    room = λ a can le ne. absurd (no_fault a c path can f);
    no_room = λ a can lt ne. absurd (no_fault a c path can f);
    refused = λ d place short g le ne. (
      refl,
      subst (λ o. Fills o buffer size) (one_place c d path place octets f e g) fills,
      told ∙ ap cause_number (one_line_fault p line c d path place f g).0,
    );
    refused_no_room = λ d place short g lt ne.
        let same = ap length (one_place c d path place octets f e g) in absurd (let fits = fills.fits in omega (arith, same, lt, fits));
    buffer_stays = λ ne ne'. absurd (ne' refl);
    size_stays = λ e. absurd (omega (arith, e));
    cause_stays = λ ne. absurd (ne refl);
  }
  tried Status.NoRoom ((octets, inl is, lacks), stays) = record {
    room = λ a can le ne. let e = ap length (one_built octets a is can) in absurd (let short = lacks.short in omega (arith, e, le, short));
    no_room = λ a can lt ne. (refl, subst (λ o. IsTooShort o buffer size) (one_built octets a is can) lacks);
    refused = λ c path short f le ne. absurd (none_built octets c path is short f);
    refused_no_room = λ c path short f lt ne. absurd (none_built octets c path is short f);
    buffer_stays = λ ne ne'. lacks.kept;
    size_stays = λ e. absurd (omega (arith, e));
    cause_stays = λ ne. stays;
  }
  tried Status.NoRoom ((octets, inr (c, (path, f, e)), lacks), stays) = record {
    room = λ a can le ne. absurd (no_fault a c path can f);
    no_room = λ a can lt ne. absurd (no_fault a c path can f);
    refused = λ d place limit g le ne.
        let same = ap length (one_place c d path place octets f e g) in absurd (let short = lacks.short in omega (arith, same, le, short));
    refused_no_room = λ d place limit g lt ne. (refl, subst (λ o. IsTooShort o buffer size) (one_place c d path place octets f e g) lacks);
    buffer_stays = λ ne ne'. lacks.kept;
    size_stays = λ e. absurd (omega (arith, e));
    cause_stays = λ ne. stays;
  }
  tried Status.OutOfMemory (stays, size_stays, cause_stays) = record {
    room = λ a can le ne. absurd (ne refl);
    no_room = λ a can lt ne. absurd (ne refl);
    refused = λ c path short f le ne. absurd (ne refl);
    refused_no_room = λ c path short f lt ne. absurd (ne refl);
    buffer_stays = λ ne ne'. stays;
    size_stays = λ e. size_stays;
    cause_stays = λ ne. cause_stays;
  }
  tried Status.SecondRefused h = absurd h
  tried Status.NeedsMore h = absurd h
  tried Status.UnknownProfile h = absurd h
  tried Status.UnknownCause h = absurd h

  pub builds_once : (n : ℕ) → ReturnsStatus n (BuildsIn false p line buffer size cause) → BuildsOnce p line buffer size cause n
  builds_once n (status, e, h) = subst (BuildsOnce p line buffer size cause) (sym e) (tried status h)

module _ (number : ℕ) (buffer : Change (List ℕ)) (size : Change ℕ) where
  -- causes of the number have one name
  one_name : (c d : BuildCause) → cause_number c ≡ number → cause_number d ≡ number → cause_name c ≡ cause_name d
  one_name c d e f = ap cause_name (one_cause c d (e ∙ sym f))

  named : (status : Status) → NamesBuildCause number buffer size status → NamesBuildCauseOnce number buffer size (status_number status)
  named Status.Done (d, is, fills) = record {
    room = λ c e le. (refl, subst (λ o. Fills o buffer size) (one_name d c is e) fills);
    no_room = λ c e lt. let same = ap length (one_name d c is e) in absurd (let fits = fills.fits in omega (arith, same, lt, fits));
    unknown = λ none. absurd (none d is);
    buffer_stays = λ ne. absurd (ne refl);
    size_stays = λ e. absurd (omega (arith, e));
  }
  named Status.NoRoom (d, is, lacks) = record {
    room = λ c e le. let same = ap length (one_name d c is e) in absurd (let short = lacks.short in omega (arith, same, le, short));
    no_room = λ c e lt. (refl, subst (λ o. IsTooShort o buffer size) (one_name d c is e) lacks);
    unknown = λ none. absurd (none d is);
    buffer_stays = λ ne. lacks.kept;
    size_stays = λ e. absurd (omega (arith, e));
  }
  named Status.UnknownCause (none, stays, size_stays) = record {
    room = λ c e le. absurd (none c e);
    no_room = λ c e lt. absurd (none c e);
    unknown = λ h. refl;
    buffer_stays = λ ne. stays;
    size_stays = λ e. size_stays;
  }
  named Status.Refused h = absurd h
  named Status.SecondRefused h = absurd h
  named Status.NeedsMore h = absurd h
  named Status.OutOfMemory h = absurd h
  named Status.UnknownProfile h = absurd h

  pub names_build_cause_once : (n : ℕ) → ReturnsStatus n (NamesBuildCause number buffer size) → NamesBuildCauseOnce number buffer size n
  names_build_cause_once n (status, e, h) = subst (NamesBuildCauseOnce number buffer size) (sym e) (named status h)

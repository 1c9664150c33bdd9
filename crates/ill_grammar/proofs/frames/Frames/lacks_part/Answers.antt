use Rattle.std.proofs.Common.{◌≡◌, ◌<◌, ℕ, false, Option, Some, None, refl, sym, ap, subst, ◌∙◌}
use Rattle.std.specs.Prelude.{is_some}
use Rattle.ill_tables.specs.declared.part.PartId.{PartId}
use Rattle.ber_leaf.specs.Profile.{profile_two}
use Rattle.ill_schema.specs.Profiles.{profile_of}
use Rattle.ill_grammar.specs.Due.{next_is}
use Rattle.ill_refusals.specs.Next.{missing}
use Rattle.ill_refusals.specs.Place.{next_in}
use Rattle.ill_grammar.proofs.DueCells.{shape-next}
use Rattle.ill_grammar.proofs.OpenFrames.{frames_open, next_open}
use Rattle.ill_grammar.proofs.Judgements.{end_complete}
use Rattle.ill_grammar.proofs.frames.Frames.lacks_part.Goals as goal

none-missing : (o : Option PartId) → is_some o ≡ false → o ≡ None
none-missing None h = refl
none-missing (Some p) h = absurd cc

pub returns-clause-exact : goal.returns-clause-exact
returns-clause-exact c = c.is_missing.ensures ∙ ap (λ n. is_some (missing profile_two n)) (shape-next c.place.result ∙ ap next_is c.place.ensures.shape)

pub returns-clause-complete : goal.returns-clause-complete
returns-clause-complete c inside not at place h marks =
    let p = c.args.self.now.profile in
    let n = next_open p place _ _ h.1 in
    let e : missing profile_two (next_in (profile_of p) place) ≡ None =
    ap (missing profile_two) (sym n ∙ ap next_is (sym c.place.ensures.shape) ∙ sym (shape-next c.place.result)) ∙ none-missing _ (sym c.is_missing.ensures ∙ not) in
    end_complete p place at marks (subst (λ (x : ℕ). 0 < x) (frames_open p place _ _ h.1) inside) e

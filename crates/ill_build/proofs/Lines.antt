-- Lines: what is built of one, and what its path is as a pointer.
use Rattle.std.proofs.Common.{◌≡◌, ◌∷◌, ◌++◌, ◌-◌, ◌∙◌, ℕ, suc, List, [], Some, None, sym, ap, subst, arith, slice_get, map, append-nil, reverse, drop}
use Rattle.std.proofs.lemmas.List.{map-append, reverse-append}
use Rattle.std.proofs.lemmas.List.Concat.{flat_map-append}
use Rattle.std.specs.Prelude.{IfSome, codes}
use Rattle.json.specs.Find.{get}
use Rattle.json.specs.Json.{Json, string}
use Rattle.ber_core.specs.Der.{encoding}
use Rattle.ber_leaf.specs.Profile.{Profile}
use Rattle.ill_schema.specs.Apdu.{Apdu, normal_form_in, root}
use Rattle.ill_schema.specs.Content.{alternative}
use Rattle.ill_schema.specs.Elements.{element_tree}
use Rattle.ill_schema.specs.Fits.{Fits, FitsApdu}
use Rattle.ill_schema.specs.Presence.{IsCarried}
use Rattle.ill_schema.proofs.Tags.{root_choice}
use Rattle.ill_schema.proofs.Trees.{chosen_tree}
use Rattle.ill_tables.specs.Names.{node_or_left_out, row_name, row_node}
use Rattle.ill_tables.specs.Table.{rows_of}
use Rattle.ill_tables.specs.declared.node.NodeId.{NodeId}
use Rattle.ill_tables.specs.declared.part.Row.{Row}
use Rattle.ill_build.specs.declared.cause.BuildCause.{BuildCause}
use Rattle.ill_build.specs.declared.line.BuildFailure.{BuildFailure}
use Rattle.ill_build.specs.declared.line.BuildFailure.TheVariants.{OutOfMemory, Refused}
use Rattle.ill_build.specs.declared.stop.Stop.{Stop}
use Rattle.ill_build.specs.Line.{IsProfileSaid, NamesApdu, SaysLine, line_names, pointer_of, step_text}
use Rattle.ill_build.specs.Members.{IsObjectOf, of_names}
use Rattle.ill_build.specs.Path.{OnRefused, Step, refusal_of, step_of}
use Rattle.ill_build.specs.Said.{Says}
use Rattle.ill_build.specs.code.Built.{BuiltRow}
use Rattle.ill_build.specs.Line.{OnFailure}
use Rattle.ill_build.specs.code.Lines.{failed}
use Rattle.ill_build.specs.declared.stop.Step.{Step as Taken}
use Rattle.ill_build.proofs.Lists.{drop_at}
use Rattle.ill_build.proofs.Refusals.{path_of_stop}

back : (i : ℕ) → i ≡ suc i - 1
back i = omega arith

-- the APDU that a line says, by the row that it names and the octets of its value
pub line_built : (p : Profile) (j v : Json) (i : ℕ) (row : Row) (octets : List ℕ) → IsObjectOf (of_names line_names) j → IsProfileSaid p (get (codes "profile") j) → NamesApdu p j i row
    → get (codes "value") j ≡ Some v → BuiltRow p [] row v [] octets → (a : Apdu) × SaysLine p j a × FitsApdu p a × (octets ≡ normal_form_in p a)
line_built p j v i row octets known profile names got m =
    let c = m.0 in
    let b = back i in
    let same : row_node (root p) i ≡ row.node = ap node_or_left_out names.at in (
      record { number = suc i; body = c },
      record {
        known = known;
        profile = profile;
        apdu = subst (λ n. get (codes "apdu") j ≡ Some (string (row_name (root p) n))) b names.name;
        said = (v, got, subst (λ n. Says [] (row_node (root p) n) v c) b (subst (λ n. Says [] n v c) (sym same) m.1));
      },
      (omega arith, subst (λ n. Fits p (alternative n c) (root p)) b (row, (root_choice p.full, names.at, names.carried), m.2)),
      m.3 ∙ ap encoding (sym (chosen_tree None (root p) i c row names.at)) ∙ ap (λ n. encoding (element_tree None (root p) (alternative n c))) b,
    )

-- the row that a line says, found again
pub same_names : (p : Profile) (j : Json) (i : ℕ) (row found : Row) (node : NodeId) → NamesApdu p j i row → node ≡ root p → slice_get (rows_of node) i ≡ Some found → NamesApdu p j i found
same_names p j i row found node names e at =
    let there : slice_get (rows_of (root p)) i ≡ Some found = subst (λ n. slice_get (rows_of n) i ≡ Some found) e at in
    let q : Some row ≡ Some found = sym names.at ∙ there in
    let same : row ≡ found = cc in
    record { at = there; carried = subst (λ (r : Row). IsCarried r.presence) same names.carried; name = names.name }

-- a stop as a failure
pub stop_failed : (stop : Stop) (failure : BuildFailure) (P : BuildCause → List Step → Type 0)
    → IfSome (failed failure) (λ refusal. (path : List Step) × (refusal_of stop ≡ Some (refusal.0, path)) × (refusal.1 ≡ pointer_of path)) → OnRefused stop P → OnFailure failure P
stop_failed stop OutOfMemory P h r = tt
stop_failed stop (Refused refusal) P h r = (h.0, h.2, path_of_stop stop refusal.cause h.0 P h.1 r)

-- ---- pointers

-- one step further out
pub pointer_step : (steps : List Taken) (i : ℕ) (step : Taken) → slice_get steps i ≡ Some step
    → pointer_of (map step_of (reverse (drop i steps))) ≡ pointer_of (map step_of (reverse (drop (suc i) steps))) ++ step_text (step_of step)
pointer_step steps i step at =
    let rest = drop (suc i) steps in
    ap (λ xs. pointer_of (map step_of (reverse xs))) (drop_at steps i step at) ∙ ap (λ xs. pointer_of (map step_of xs)) (reverse-append (step ∷ []) rest)
    ∙ ap pointer_of (map-append step_of (reverse rest) (step ∷ [])) ∙ flat_map-append step_text (map step_of (reverse rest)) (step_of step ∷ [])
    ∙ ap (λ x. pointer_of (map step_of (reverse rest)) ++ x) (append-nil (step_text (step_of step)))

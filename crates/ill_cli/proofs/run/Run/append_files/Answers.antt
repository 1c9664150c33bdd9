use Rattle.std.proofs.Common.{◌∙◌, ℕ, List, [], ◌∷◌, ◌++◌, map, drop, get_or, Bor, sym, ap₂, subst}
use Rattle.ill_files.specs.Status.{worst}
use Rattle.ill_cli.specs.Ends.{end_of}
use Rattle.ill_cli.proofs.InTurn.{AreDone, all_done, first_done, last_done, names_at, no_names, one_done, status_more}
use Rattle.ill_cli.proofs.run.Run.append_files.Goals as goal

abbrev names_of : List (Bor (List ℕ)) → List (List ℕ)
names_of names = map (λ name. name.now) names

pub returns-in-Err : goal.returns-in-Err
returns-in-Err g c =
    let found = first_done (names_of c.args.names.now) c.loop-name.invariant.0 _ c.loop-name.invariant.1 in
    (found.0, drop c.loop-name.name-index (names_of c.args.names.now), found.1, (c.loop-name.invariant.0, found.2, c.loop-name.invariant.2))

pub returns-then-ends_all : goal.returns-then-ends_all
returns-then-ends_all g c =
    let names = c.args.names.now in
    let i = c.loop-name.name-index in
    let ends = c.loop-name.invariant.0 in
    let name = (get_or names i (record { ref_ptr = (0, 0); now = [] })).now in
    let done = c.in-Ok.done in
    let at = subst (AreDone (names_of names) ends) (names_at names i _ c.loop-name-test.true) c.loop-name.invariant.1 in
    let status = c.combined_status-status.ensures ∙ ap₂ (λ (x y : ℕ). worst (x ∷ y ∷ [])) c.loop-name.invariant.2 c.status_of.ensures in (
      ends ++ end_of name done ∷ [],
      last_done (names_of names) ends name _ done at (sym c.ends_all.ensures ∙ c.if-ends_all.true),
      status ∙ status_more ends name done,
    )

pub loop-name-preserved : goal.loop-name-preserved
loop-name-preserved g c =
    let names = c.args.names.now in
    let i = c.loop-name.name-index in
    let ends = c.loop-name.invariant.0 in
    let name = (get_or names i (record { ref_ptr = (0, 0); now = [] })).now in
    let done = c.in-Ok.done in
    let at = subst (AreDone (names_of names) ends) (names_at names i _ c.loop-name-test.true) c.loop-name.invariant.1 in
    let status = c.combined_status-status.ensures ∙ ap₂ (λ (x y : ℕ). worst (x ∷ y ∷ [])) c.loop-name.invariant.2 c.status_of.ensures in (
      ends ++ end_of name done ∷ [],
      one_done (names_of names) ends name _ done at (sym c.ends_all.ensures ∙ c.if-ends_all.false),
      status ∙ status_more ends name done,
    )

pub returns : goal.returns
returns g c =
    let names = c.args.names.now in
    let ends = c.loop-name.invariant.0 in
    let at = subst (AreDone (names_of names) ends) (no_names names c.loop-name.name-index c.loop-name-test.false) c.loop-name.invariant.1 in
    (ends, all_done (names_of names) ends at, c.loop-name.invariant.2)

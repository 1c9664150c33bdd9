use Rattle.std.proofs.Common.{◌∙◌, ℕ, List, [], ◌∷◌, ◌++◌, map, get_or, Bor, sym, ap₂, subst}
use Rattle.ill_files.specs.Status.{worst}
use Rattle.ill_cli.specs.Ends.{end_of}
use Rattle.ill_cli.proofs.InTurn.{AreDone, adds_more, all_done, last_done, names_at, no_names, one_done, status_more}
use Rattle.ill_cli.proofs.in_turn.do_in_turn.Goals as goal

abbrev names_of : List (Bor (List ℕ)) → List (List ℕ)
names_of names = map (λ name. name.now) names

pub returns-then-ends_all : goal.returns-then-ends_all
returns-then-ends_all g c =
    let names = c.args.names.now in
    let i = c.loop-name.name-index in
    let ends = c.loop-name.invariant.0 in
    let name = (get_or names i (record { ref_ptr = (0, 0); now = [] })).now in
    let done = c.do_file-done.result in
    let at = subst (AreDone (names_of names) ends) (names_at names i _ c.loop-name-test.true) c.loop-name.invariant.2 in
    let status = c.combined_status-status.ensures ∙ ap₂ (λ (x y : ℕ). worst (x ∷ y ∷ [])) c.loop-name.invariant.3 c.status_of.ensures in (
      ends ++ end_of name done ∷ [],
      adds_more _ _ _ ends (end_of name done ∷ []) c.loop-name.invariant.1 c.do_file-done.ensures,
      last_done (names_of names) ends name _ done at (sym c.ends_all.ensures ∙ c.if-ends_all.true),
      status ∙ status_more ends name done,
    )

pub loop-name-preserved : goal.loop-name-preserved
loop-name-preserved g c =
    let names = c.args.names.now in
    let i = c.loop-name.name-index in
    let ends = c.loop-name.invariant.0 in
    let name = (get_or names i (record { ref_ptr = (0, 0); now = [] })).now in
    let done = c.do_file-done.result in
    let at = subst (AreDone (names_of names) ends) (names_at names i _ c.loop-name-test.true) c.loop-name.invariant.2 in
    let status = c.combined_status-status.ensures ∙ ap₂ (λ (x y : ℕ). worst (x ∷ y ∷ [])) c.loop-name.invariant.3 c.status_of.ensures in (
      ends ++ end_of name done ∷ [],
      adds_more _ _ _ ends (end_of name done ∷ []) c.loop-name.invariant.1 c.do_file-done.ensures,
      one_done (names_of names) ends name _ done at (sym c.ends_all.ensures ∙ c.if-ends_all.false),
      status ∙ status_more ends name done,
    )

pub returns : goal.returns
returns g c =
    let names = c.args.names.now in
    let ends = c.loop-name.invariant.0 in
    let at = subst (AreDone (names_of names) ends) (no_names names c.loop-name.name-index c.loop-name-test.false) c.loop-name.invariant.2 in
    (ends, c.loop-name.invariant.1, all_done (names_of names) ends at, c.loop-name.invariant.3)

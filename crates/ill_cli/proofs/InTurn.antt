-- Files that are done in turn, one file more at a time.
use Rattle.std.proofs.Common.{◌≡◌, ℕ, suc, ◌+◌, ◌<◌, ◌≤◌, true, false, List, [], ◌∷◌, ◌++◌, length, drop, get_or, map, Bor, Option, Some, None, Result, refl, sym, ap, ◌∙◌, inl, inr, append_assoc, append-nil, add-one, drop-cons}
use Rattle.std.proofs.lemmas.List.{map-append, drop-map, drop_all}
use Rattle.ill_inputs.specs.declared.verdict.Verdict.{Verdict}
use Rattle.ill_files.specs.Status.{status_is, worst}
use Rattle.ill_files.specs.declared.error.ProgramError.{ProgramError}
use Rattle.ill_files.proofs.Worst.{worst_more}
use Rattle.ill_cli.specs.Ends.{AddsEnds, DoneInTurn, FileEnd, end_of, ends_all, status_of_ends}

-- the first of the files of these names ended so, none of them so that no file more is done, and the rest is left
abbrev pub AreDone : List (List ℕ) → List FileEnd → List (List ℕ) → Type 0
AreDone names [] rest = names ≡ rest
AreDone [] (e ∷ ends) rest = ⊥
AreDone (name ∷ names) (e ∷ ends) rest = (e.name ≡ name) × (ends_all e.done ≡ false) × AreDone names ends rest

-- one file more was done, and another may be
pub one_done : (names : List (List ℕ)) (ends : List FileEnd) (name : List ℕ) (rest : List (List ℕ)) (done : Result Verdict ProgramError)
    → AreDone names ends (name ∷ rest) → ends_all done ≡ false → AreDone names (ends ++ end_of name done ∷ []) rest
one_done [] [] name rest done h e = cc
one_done (n ∷ names) [] name rest done h e = (cc, e, cc)
one_done [] (x ∷ ends) name rest done h e = absurd h
one_done (n ∷ names) (x ∷ ends) name rest done h e = (h.0, h.1, one_done names ends name rest done h.2 e)

-- all files were done
pub all_done : (names : List (List ℕ)) (ends : List FileEnd) → AreDone names ends [] → DoneInTurn names ends
all_done [] [] h = refl
all_done (n ∷ names) [] h = cc
all_done [] (x ∷ ends) h = absurd h
all_done (n ∷ names) (x ∷ ends) h = (h.0, inr (h.1, all_done names ends h.2))

-- the first files were done
pub first_done : (names : List (List ℕ)) (ends : List FileEnd) (rest : List (List ℕ)) → AreDone names ends rest
    → (first : List (List ℕ)) × (names ≡ first ++ rest) × DoneInTurn first ends
first_done names [] rest h = ([], h, refl)
first_done [] (x ∷ ends) rest h = absurd h
first_done (n ∷ names) (x ∷ ends) rest h =
    let found = first_done names ends rest h.2 in
    (n ∷ found.0, ap (λ l. n ∷ l) found.1, (h.0, inr (h.1, found.2)))

-- the last file was done
pub last_done : (names : List (List ℕ)) (ends : List FileEnd) (name : List ℕ) (rest : List (List ℕ)) (done : Result Verdict ProgramError)
    → AreDone names ends (name ∷ rest) → ends_all done ≡ true → DoneInTurn names (ends ++ end_of name done ∷ [])
last_done [] [] name rest done h e = cc
last_done (n ∷ names) [] name rest done h e = (cc, inl (e, refl))
last_done [] (x ∷ ends) name rest done h e = absurd h
last_done (n ∷ names) (x ∷ ends) name rest done h e = (h.0, inr (h.1, last_done names ends name rest done h.2 e))

-- known ends grow by those of one call, and then by those of another
pub adds_more : (a b c : Option (List FileEnd)) (xs ys : List FileEnd) → AddsEnds a b xs → AddsEnds b c ys → AddsEnds a c (xs ++ ys)
adds_more None b c xs ys h k = tt
adds_more (Some a) None c xs ys h k = absurd h
adds_more (Some a) (Some b) None xs ys h k = absurd k
adds_more (Some a) (Some b) (Some c) xs ys h k = rw (← append_assoc) (k ∙ ap (λ l. l ++ ys) h)

pub adds_none : (a : Option (List FileEnd)) → AddsEnds a a []
adds_none None = tt
adds_none (Some a) = sym (append-nil a)

-- the status with one file more
pub status_more : (ends : List FileEnd) (name : List ℕ) (done : Result Verdict ProgramError)
    → worst (status_of_ends ends ∷ status_is done ∷ []) ≡ status_of_ends (ends ++ end_of name done ∷ [])
status_more ends name done =
    worst_more (map (λ e. status_is e.done) ends) (status_is done) ∙ ap worst (sym (map-append (λ e. status_is e.done) ends (end_of name done ∷ [])))

-- the names from index i on
pub names_at : (names : List (Bor (List ℕ))) (i : ℕ) (d : Bor (List ℕ)) → i < length names
    → drop i (map (λ name. name.now) names) ≡ (get_or names i d).now ∷ drop (i + 1) (map (λ name. name.now) names)
names_at names i d lt =
    let f : Bor (List ℕ) → List ℕ = λ name. name.now in
    rw add-one (drop-map f i names ∙ ap (map f) (drop-cons names i d lt) ∙ ap (λ l. (get_or names i d).now ∷ l) (sym (drop-map f (suc i) names)))

-- no name is left
pub no_names : (names : List (Bor (List ℕ))) (i : ℕ) → length names ≤ i → drop i (map (λ name. name.now) names) ≡ []
no_names names i le =
    let f : Bor (List ℕ) → List ℕ = λ name. name.now in
    drop-map f i names ∙ ap (map f) (drop_all i names le)

use Rattle.std.proofs.Common.{◌≡◌, ℕ, suc, ◌+◌, ◌-◌, ◌<◌, ◌≤◌, List, [], ◌∷◌, ◌++◌, length, take, drop, get_or, set, sym, ap, ap₂, ◌∙◌, arith, length-append, append_assoc}
use Rattle.std.proofs.lemmas.List.{take_at, drop_at, drop_more, set_split, drop-set-lt}
use Rattle.std.proofs.lemmas.Grind.{take-set_at}
use Rattle.ber_tree.specs.Length.{shortest_length}
use Rattle.ber_core.proofs.Shortest.{is_short}

-- an element whose length is set: before it, its identifier, and its contents up to the end
pub closed_element : (before id body old : List ℕ) (x contents_start : ℕ) → old ≡ before ++ (id ++ x ∷ body) → contents_start ≡ length (before ++ (id ++ x ∷ []))
    → take (contents_start - 1) old ++ (shortest_length (length old - contents_start) ++ drop contents_start old) ≡ before ++ (id ++ (shortest_length (length body) ++ body))
closed_element before id body old x contents_start e l =
    let front : old ≡ (before ++ id) ++ x ∷ body = e ∙ sym (append_assoc before id (x ∷ body)) in
    let whole : old ≡ ((before ++ id) ++ x ∷ []) ++ body = front ∙ sym (append_assoc (before ++ id) (x ∷ []) body) in
    let at : contents_start ≡ length ((before ++ id) ++ x ∷ []) = l ∙ ap length (sym (append_assoc before id (x ∷ []))) in
    let one : contents_start ≡ length (before ++ id) + 1 = at ∙ omega (arith, length-append (before ++ id) (x ∷ [])) in
    let kept : take (contents_start - 1) old ≡ before ++ id = ap (take (contents_start - 1)) front ∙ take_at (before ++ id) (x ∷ body) (contents_start - 1) (omega (arith, one)) in
    let rest : drop contents_start old ≡ body = ap (drop contents_start) whole ∙ drop_at ((before ++ id) ++ x ∷ []) body contents_start (sym at) in
    let size : length old ≡ contents_start + length body = ap length whole ∙ length-append ((before ++ id) ++ x ∷ []) body ∙ ap (λ m. m + length body) (sym at) in
    let n : length old - contents_start ≡ length body = omega (arith, size) in
    ap₂ ◌++◌ kept (ap₂ (λ m z. shortest_length m ++ z) n rest) ∙ append_assoc before id _

-- a length of one octet takes the place before the contents
pub short_length_set : (old : List ℕ) (contents_start n : ℕ) → 0 < contents_start → contents_start ≤ length old → n ≡ length old - contents_start → n < 128
    → set old (contents_start - 1) n ≡ take (contents_start - 1) old ++ (shortest_length (length old - contents_start) ++ drop contents_start old)
short_length_set old contents_start n p w e h =
    let after : suc (contents_start - 1) ≡ contents_start = omega (arith, p) in
    let one : n ∷ [] ≡ shortest_length (length old - contents_start) = sym (is_short n h) ∙ ap shortest_length e in
    set_split old (contents_start - 1) n (omega (arith, p, w)) ∙ ap₂ (λ m z. take (contents_start - 1) old ++ (z ++ drop m old)) after one

-- the first octet of a longer length takes the place before the contents, and the others are put after it
pub length_set : (old room : List ℕ) (contents_start at : ℕ) → 0 < contents_start → contents_start ≤ length old → at < length room
    → take contents_start (set old (contents_start - 1) (get_or room at 0)) ++ (drop (at + 1) room ++ drop contents_start (set old (contents_start - 1) (get_or room at 0)))
    ≡ take (contents_start - 1) old ++ (drop at room ++ drop contents_start old)
length_set old room contents_start at p w within =
    let x = get_or room at 0 in
    let kept : take contents_start (set old (contents_start - 1) x) ≡ take (contents_start - 1) old ++ x ∷ [] = take-set_at old (contents_start - 1) contents_start x (omega (arith, p)) (omega (arith, p, w)) in
    let behind : drop contents_start (set old (contents_start - 1) x) ≡ drop contents_start old = drop-set-lt contents_start old (contents_start - 1) x (omega (arith, p)) in
    ap₂ (λ y z. y ++ (drop (at + 1) room ++ z)) kept behind ∙ append_assoc (take (contents_start - 1) old) (x ∷ []) (drop (at + 1) room ++ drop contents_start old)
    ∙ sym (ap (λ z. take (contents_start - 1) old ++ (z ++ drop contents_start old)) (drop_more room at 0 within))

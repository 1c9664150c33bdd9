-- Texts of C.
use Rattle.std.proofs.Common.{◌≡◌, ◌∙◌, ℕ, ◌+◌, ◌-◌, List, [], ◌++◌, codes, length, take, drop, replicate, refl, ap, ap₂, arith, length-append}
use Rattle.std.proofs.Math.Seq.{take-append_seam, drop-append-add}
use Rattle.std.proofs.lemmas.List.{drop-replicate}
use Rattle.ill_c.specs.Refusals.{c_text}

abbrev zeros : ℕ → List ℕ
zeros n = replicate n 0

-- octets that are copied after a text make a longer one
pub copied : (text octets before after : List ℕ) (at : ℕ) → before ≡ c_text text → at ≡ length text
    → after ≡ take at before ++ octets ++ drop (at + length octets) before → after ≡ c_text (text ++ octets)
copied text octets before after at is_text is_end e =
    let rest = 64 - length text in
    let front = take-append_seam text (zeros rest) in
    let back = drop-append-add text (zeros rest) (length octets) ∙ drop-replicate (length octets) rest 0 in
    let size = length-append text octets in
    let fewer : rest - length octets ≡ 64 - length (text ++ octets) = omega (arith, size) in
    e
    ∙ ap₂ (λ (k : ℕ) (b : List ℕ). take k b ++ octets ++ drop (k + length octets) b) is_end is_text
    ∙ ap₂ (λ (a b : List ℕ). a ++ octets ++ b) front (back ∙ ap zeros fewer)

pub joined : (node row zero first second third : List ℕ) → zero ≡ c_text [] → first ≡ take 0 zero ++ node ++ drop (0 + length node) zero
    → second ≡ take (length node) first ++ codes "." ++ drop (length node + 1) first
    → third ≡ take (length node + 1) second ++ row ++ drop (length node + 1 + length row) second
    → third ≡ c_text (node ++ codes "." ++ row)
joined node row zero first second third e a b c =
    let one = copied [] node zero first 0 e refl a in
    let two = copied node (codes ".") first second (length node) one refl b in
    let size = length-append node (codes ".") in
    let end : length node + 1 ≡ length (node ++ codes ".") = omega (arith, size) in
    copied (node ++ codes ".") row second third (length node + 1) two end c

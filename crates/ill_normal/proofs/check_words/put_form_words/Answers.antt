use Rattle.std.proofs.Common.{◌≡◌, ℕ, List, ◌++◌, codes, false, append_assoc, rules}
use Rattle.std.specs.Prelude.{decimal}
use Rattle.ill_normal.proofs.check_words.put_form_words.Goals as goal

regroup : (x a b d : List ℕ) → ((x ++ a) ++ b) ++ d ≡ x ++ (a ++ b ++ d)
regroup x a b d = simp append_assoc

pub returns : goal.returns
returns c =
    let no : c.args.is_normal ≡ false = search rules in
    let parts = regroup c.args.words.now.items (codes "not normal, normal form ") (decimal c.args.normal) (codes " octets") in
    rw no (cc (c.in_ok-extend_from_slice-2.ensures.items, c.in_ok-extend_from_slice-3.ensures.items, c.in_ok-extend_from_slice-4.ensures.items, c.as_bytes.ensures.value, c.format.ensures.text))

-- What a buffer shows goes first.
use Rattle.std.proofs.Common.{◌≡◌, ℕ, ◌≤◌, Bool, true, false, List, ◌++◌, length, take, drop, Option, Some, None, sym}
use Rattle.std.specs.Prelude.{if◌then◌else◌}
use Rattle.std.specs.Io.BufRead.{DropsConsumable}
use Rattle.std.specs.Io.KnownBytes.{Consumes, prepend_known}
use Rattle.std.proofs.lemmas.List.{take-append-drop, take-append-le}

-- octets of a buffer that are dropped were the first ones
shown_go : (shown : List ℕ) (known new : Option (List ℕ)) (k : ℕ) → k ≤ length shown
    → DropsConsumable (prepend_known shown known) new (Some (length shown)) k → Consumes (prepend_known shown known) new (take k shown)
shown_go shown None new k h d = tt
shown_go shown (Some rest) None k h d = let e : None ≡ Some (drop k (shown ++ rest)) = d h in cc
shown_go shown (Some rest) (Some left) k h d =
    let e : Some left ≡ Some (drop k (shown ++ rest)) = d h in
    let f : left ≡ drop k (shown ++ rest) = cc in
    rw (f, ← (take-append-le k shown rest h)) (sym (take-append-drop k (shown ++ rest)))

-- the same, where nothing is known of a buffer without room
pub shown_go_first : (b : Bool) (shown : List ℕ) (known new : Option (List ℕ)) (k : ℕ) → k ≤ length shown
    → DropsConsumable (if b then None else prepend_known shown known) new (Some (length shown)) k
    → Consumes (if b then None else prepend_known shown known) new (take k shown)
shown_go_first true shown known new k h d = tt
shown_go_first false shown known new k h d = shown_go shown known new k h d

use Rattle.std.proofs.Common.{[], ◌∷◌, ℕ, List, ap, codes}
use Rattle.json.specs.Token.{string}
use Rattle.ill_json.proofs.Added.{adds_as, adds_then}
use Rattle.ill_json.proofs.Results.{place_member, text_member}
use Rattle.ill_json.proofs.result.put_why.Goals as goal

pub returns : goal.returns
returns c =
    let cause = adds_as _ _ _ _ (ap (λ (t : List ℕ). string t ∷ []) c.name.ensures) c.put-3.ensures in
    let kind = adds_as _ _ _ _ (ap (λ (t : List ℕ). string t ∷ []) c.name-2.ensures) c.put-6.ensures in
    let clause = adds_as _ _ _ _ (ap (λ (t : List ℕ). string t ∷ []) c.clause.ensures) c.put-8.ensures in
    adds_then _ _ _ _ _ c.put.ensures (adds_then _ _ _ _ _ c.put-2.ensures (adds_then _ _ _ _ _ cause (adds_then _ _ _ _ _ c.put-4.ensures (adds_then _ _ _ _ _ c.count.ensures
    (adds_then _ _ _ _ _ c.put-5.ensures (adds_then _ _ _ _ _ kind (adds_then _ _ _ _ _ c.put-7.ensures (adds_then _ _ _ _ _ clause
    (adds_as _ _ _ _ (text_member (codes "part") _ _) (adds_then _ _ _ _ _ c.put_part_name.ensures (adds_as _ _ _ _ (place_member c.args.place.now) (adds_then _ _ _ _ _ c.put_place.ensures c.put-9.ensures))))))))))))

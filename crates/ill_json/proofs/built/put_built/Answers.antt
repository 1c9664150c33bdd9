use Rattle.ill_json.proofs.Added.{adds_as, adds_then}
use Rattle.ill_json.proofs.Results.{file_member}
use Rattle.ill_json.proofs.built.put_built.Goals as goal

pub returns : goal.returns
returns c =
    adds_then _ _ _ _ _ c.put.ensures (adds_as _ _ _ _ (file_member _ _) (adds_then _ _ _ _ _ c.put_file.ensures
    (adds_then _ _ _ _ _ c.put-2.ensures (adds_then _ _ _ _ _ c.count.ensures (adds_then _ _ _ _ _ c.put-3.ensures (adds_then _ _ _ _ _ c.put-4.ensures
    (adds_then _ _ _ _ _ c.put-5.ensures (adds_then _ _ _ _ _ c.count-2.ensures (adds_then _ _ _ _ _ c.put-6.ensures (adds_then _ _ _ _ _ c.hexadecimal_of.ensures c.put-7.ensures))))))))))

use Rattle.std.proofs.Common.{codes}
use Rattle.ill_json.proofs.Added.{adds_as, adds_then}
use Rattle.ill_json.proofs.Results.{file_member, text_member}
use Rattle.ill_json.proofs.result.put_result.Goals as goal

pub returns : goal.returns
returns c =
    adds_then _ _ _ _ _ c.put.ensures (adds_as _ _ _ _ (file_member _ _) (adds_then _ _ _ _ _ c.put_file.ensures
    (adds_then _ _ _ _ _ (adds_then _ _ _ _ _ c.put_start.ensures c.put_normal.ensures) (adds_as _ _ _ _ (text_member (codes "digest") _ _) (adds_then _ _ _ _ _ c.put_digest.ensures c.put-2.ensures)))))

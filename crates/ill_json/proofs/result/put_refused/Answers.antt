use Rattle.std.proofs.Common.{codes}
use Rattle.ill_json.proofs.Added.{adds_as, adds_then}
use Rattle.ill_json.proofs.Results.{count_member, file_member, text_member}
use Rattle.ill_json.proofs.result.put_refused.Goals as goal

pub returns : goal.returns
returns c =
    adds_then _ _ _ _ _ c.put.ensures (adds_as _ _ _ _ (file_member _ _) (adds_then _ _ _ _ _ c.put_file.ensures
    (adds_then _ _ _ _ _ c.put-2.ensures (adds_then _ _ _ _ _ c.count.ensures (adds_then _ _ _ _ _ c.put-3.ensures (adds_then _ _ _ _ _ c.count-2.ensures
    (adds_as _ _ _ _ (count_member (codes "octets") _ _) (adds_then _ _ _ _ _ c.count_if.ensures
    (adds_as _ _ _ _ (text_member (codes "apdu") _ _) (adds_then _ _ _ _ _ c.text_if.ensures
    (adds_then _ _ _ _ _ c.put-4.ensures (adds_then _ _ _ _ _ c.put_why.ensures c.put-5.ensures))))))))))))

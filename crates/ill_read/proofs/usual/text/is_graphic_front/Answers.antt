use Rattle.std.proofs.Common.{ℕ, cond, leb, refl, arith}
use Rattle.std.proofs.lemmas.Simd.{length-chunk, zip2_splat, zip2_splat_left, zip2_of_maps}
use lib.Lanes.{chunk}
use Rattle.ber_leaf.specs.Profile.{is_graphic}
use Rattle.ill_read.proofs.UsualTexts.{front_passes}
use Rattle.ill_read.proofs.usual.text.is_graphic_front.Goals as goal

pub returns : goal.returns
returns c clear =
    let d = c.args.octets.now in
    let v = chunk c.args.at 16 d in
    let long = length-chunk c.args.at 16 d c.requires.octets in
    front_passes is_graphic d c.args.at 16 c.args.size _ _ c.requires.octets (omega arith) c.requires.few c.type_inv.octets
    (zip2_of_maps _ _ _ v (zip2_splat {Y = ℕ} _ v 16 32 long) (zip2_splat_left (λ (a b : ℕ). cond (leb a b) 255 0) 127 16 v long)) clear refl

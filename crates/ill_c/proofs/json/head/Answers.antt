use Rattle.std.proofs.Common.{◌∙◌, ℕ, Bool, sym, ap₂}
use Rattle.std.specs.Str.{bytes_eq}
use Rattle.std.proofs.lemmas.Bool.Decides.{Decides-eqb, same_from_decides}
use Rattle.std.proofs.lemmas.Slice.Eq.{bytes_eq-Decides, slice_eq-Decides}
use Rattle.ill_schema.specs.Apdu.{normal_form_in}
use Rattle.ill_c.proofs.json.head.Goals as goal

pub returns : goal.returns
returns c p a e count =
    let octets = c.args.octets.now in
    let is = c.eq.result in
    let eq = slice_eq-Decides Decides-eqb octets c.as_slice.result.now is c.eq.ensures in
    let form = c.as_slice.ensures.value ∙ e in
    let same = same_from_decides is (bytes_eq octets (normal_form_in p a)) (λ t. eq.0 t ∙ form, λ f. eq.1 (f ∙ sym form)) (bytes_eq-Decides octets (normal_form_in p a)) in
    ap₂ (λ (n : ℕ) (b : Bool). record { number = c.args.place.number; offset = c.args.place.offset; octets = n; is_normal = b }) count same

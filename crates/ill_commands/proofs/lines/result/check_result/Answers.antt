use Rattle.std.proofs.Common.{◌≡◌, ◌∙◌, ◌++◌, ℕ, List, Bool, length, sym, ap}
use Rattle.std.specs.Str.{bytes_eq}
use Rattle.std.proofs.lemmas.Bool.Decides.{Decides-eqb}
use Rattle.std.proofs.lemmas.Slice.Eq.{slice_eq-Decides}
use Rattle.ill_schema.specs.Apdu.{normal_form_in}
use Rattle.ill_schema.specs.Profiles.{profile_of}
use Rattle.ill_normal.proofs.NormalTest.{tests_equality}
use Rattle.ill_tables.specs.Names.{name_or_none}
use Rattle.ill_schema.specs.Names.{apdu_name_in}
use Rattle.ill_normal.specs.CheckWords.{check_words}
use Rattle.ill_commands.proofs.lines.result.check_result.Goals as goal

pub returns : goal.returns
returns c a s e =
    let q = profile_of c.args.profile in
    let octets = c.args.octets.now in
    let normal = c.args.normal.now in
    let is = c.eq-is_normal.result in
    let eq = slice_eq-Decides Decides-eqb octets normal is c.eq-is_normal.ensures in
    let same : is ≡ bytes_eq octets (normal_form_in q a) = tests_equality is octets (normal_form_in q a) (λ t. eq.0 t ∙ e, λ f. eq.1 (f ∙ sym e)) in record {
      words = c.in_ok-put_check_words.ensures ∙ ap (λ (t : List ℕ). t ++ check_words c.apdu_name_or_empty-name.result.now (length octets) is (length normal)) c.new-words.ensures.items
          ∙ ap (λ t. check_words t (length octets) is (length normal)) c.apdu_name_or_empty-name.ensures
          ∙ ap (λ n. check_words (name_or_none (apdu_name_in q n)) (length octets) is (length normal)) (c.apdu_number.ensures c.args.profile a octets s e)
          ∙ ap (λ (b : Bool). check_words (name_or_none (apdu_name_in q a.number)) (length octets) b (length normal)) same
          ∙ ap (λ l. check_words (name_or_none (apdu_name_in q a.number)) (length octets) (bytes_eq octets (normal_form_in q a)) (length l)) e;
      good = same;
    }

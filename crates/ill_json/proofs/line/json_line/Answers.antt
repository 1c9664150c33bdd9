use Rattle.std.proofs.Common.{◌∙◌, sym, subst}
use Rattle.std.proofs.lemmas.Result.{IfOk-weaker}
use Rattle.ill_schema.specs.Apdu.{choice_of}
use Rattle.ill_schema.specs.Profiles.{profile_of}
use Rattle.ill_grammar.specs.Outline.{IsMarked}
use Rattle.ill_json.specs.Json.{line_json_in}
use Rattle.ill_json.proofs.Tokens.{text_of_line}
use Rattle.ill_json.proofs.line.json_line.Goals as goal

pub returns : goal.returns
returns c a h =
    let adds = c.put_line.ensures a (subst (IsMarked (choice_of a)) (sym c.marks.ensures) h) in
    IfOk-weaker c.into_line.result _ _ (λ line k. k.1 ∙ text_of_line (line_json_in (profile_of c.args.profile) _ c.args.head a) _ _ c.new-out.ensures.tokens adds k.0) c.into_line.ensures

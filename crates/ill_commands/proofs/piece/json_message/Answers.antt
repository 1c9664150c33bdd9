use Rattle.std.proofs.Common.{◌∙◌, ℕ, List, Option, ap₂, refl}
use Rattle.ill_json.specs.Json.{json_line_in}
use Rattle.ill_json.specs.declared.line.LineHead.{LineHead}
use Rattle.ill_schema.specs.Profiles.{profile_of}
use Rattle.ill_commands.proofs.MadePieces.{makes_json, tells_normal}
use Rattle.ill_commands.proofs.piece.json_message.Goals as goal

pub returns : goal.returns
returns c octets h =
    let w = c.args.work in
    let m = c.args.message.now in
    makes_json w c.args.place _ m octets h c.is_normal-is_good.result c.in_ok-line.line
    (λ a is. c.in_ok-line.ensures a is ∙ ap₂ (λ (file : Option (List ℕ)) (head : LineHead). json_line_in (profile_of w.profile) file head a) c.file_of.ensures c.head-head.ensures) refl
    (tells_normal (profile_of w.profile) _ m octets h refl c.is_normal-is_good.result c.is_normal-is_good.ensures)

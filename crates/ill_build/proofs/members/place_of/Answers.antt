use Rattle.std.proofs.Common.{◌∙◌, ap, sym}
use Rattle.std.specs.List.{position}
use Rattle.std.specs.Str.{bytes_eq}
use Rattle.ill_build.proofs.Lists.{position-map}
use Rattle.ill_build.proofs.members.place_of.Goals as goal

pub returns : goal.returns
returns c =
    c.position_of.ensures ∙ sym (position-map (bytes_eq c.args.name.now) (λ own. own.now) c.row_names.result.now) ∙ ap (position (bytes_eq c.args.name.now)) c.row_names.ensures

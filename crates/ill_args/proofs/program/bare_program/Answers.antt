use Rattle.std.proofs.Common.{◌≡◌, ◌∙◌, ap, true, codes}
use Rattle.clap.specs.Simple.{App, app_of, app_of_fields, new_app}
use Rattle.ill_args.proofs.program.bare_program.Goals as goal

abbrev with_version : App → App
with_version a = record a { top = record a.top { has_version = true } }

abbrev needs_command : App → App
needs_command a = record a { top = record a.top { subcommand_required = true } }

abbrev helps_if_empty : App → App
helps_if_empty a = record a { top = record a.top { arg_required_else_help = true } }

pub returns : goal.returns
returns c =
    let named : app_of c.in_ok-program.program ≡ new_app (codes "illcanon") = ap app_of_fields c.in_ok-program.ensures.0 ∙ c.new.ensures.app in
    let version : app_of c.version.result ≡ with_version (new_app (codes "illcanon")) = ap app_of_fields c.version.ensures ∙ ap with_version named in
    let about : app_of c.about.result ≡ with_version (new_app (codes "illcanon")) = ap app_of_fields c.about.ensures ∙ version in
    let help : app_of c.after_help.result ≡ with_version (new_app (codes "illcanon")) = ap app_of_fields c.after_help.ensures ∙ about in
    let required : app_of c.subcommand_required.result ≡ needs_command (with_version (new_app (codes "illcanon"))) =
    ap app_of_fields c.subcommand_required.ensures ∙ ap needs_command help in
    ap app_of_fields c.arg_required_else_help.ensures ∙ ap helps_if_empty required

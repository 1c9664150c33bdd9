use Rattle.std.proofs.Common.{◌∙◌, List, ℕ, sym, ap, subst}
use Rattle.std.specs.Prelude.{option_map}
use Rattle.ill_schema.specs.Names.{apdu_name_in}
use Rattle.ill_schema.specs.Profiles.{profile_of}
use Rattle.ill_tables.specs.Names.{name_or_none}
use Rattle.ill_json.specs.Built.{built_line_of}
use Rattle.ill_cli.specs.Builds.{IsBuiltResult, IsFormed}
use Rattle.ill_cli.proofs.Builds.{extended_by}
use Rattle.ill_cli.proofs.build.put_built.Goals as goal

pub returns-in_ok-line-in-Json-clause-built : goal.returns-in_ok-line-in-Json-clause-built
returns-in_ok-line-in-Json-clause-built c a is =
    let normal = c.args.message.normal.now in
    let octets = c.args.message.octets.now in
    let file = option_map (λ name. name.now) c.args.place.file in
    let name = c.apdu_name_or_empty-name.ensures ∙ ap (λ (n : ℕ). name_or_none (apdu_name_in (profile_of c.args.work.profile) n)) (c.apdu_number.ensures c.args.work.profile a normal is.0 is.1) in
    let line = c.deref.ensures.value ∙ c.in_ok-line-in-Json.ensures ∙ ap (λ (n : List ℕ). built_line_of file c.args.place.number n octets) name in
    let formed = subst (λ form. IsFormed form (name_or_none (apdu_name_in (profile_of c.args.work.profile) a.number)) octets c.deref.result.now) (sym c.in-Json.is) (file, c.args.place.number, line) in
    extended_by c.extend_from_slice-in-Json.result c.extend_from_slice-in-Json.new.self.items c.args.results.now.items c.deref.result.now (IsBuiltResult c.args.work a octets)
    c.extend_from_slice-in-Json.ensures.items formed

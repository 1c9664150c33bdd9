use Rattle.std.proofs.Common.{◌≡◌, ◌∙◌, None, Some, sym, ap, subst, codes, slice_get}
use Rattle.json.specs.Find.{get}
use Rattle.json.specs.Json.{string}
use Rattle.json.specs.Value.{value_view}
use Rattle.ill_schema.specs.Apdu.{root}
use Rattle.ill_schema.specs.Profiles.{profile_of}
use Rattle.ill_tables.specs.Names.{row_name}
use Rattle.ill_tables.specs.Table.{rows_of}
use Rattle.ill_build.specs.Members.{name_fault, of_type, place_of}
use Rattle.ill_build.proofs.Choices.{string_is}
use Rattle.ill_build.proofs.FirstFault.{known_row}
use Rattle.ill_build.proofs.line.read_apdu.Goals as goal

pub returns-in-Some-place_of-clause-said : goal.returns-in-Some-place_of-clause-said
returns-in-Some-place_of-clause-said c =
    let p = profile_of c.args.context.profile in
    let name = c.in-Some-as_str.name.now in
    let own = value_view c.in-Some.own.now in
    let known : name_fault (of_type (root p)) name ≡ None = subst (λ n. name_fault (of_type n) name ≡ None) c.root_as-root.ensures (sym c.in-None.ensures) in
    let k = known_row (root p) name known in
    let same : Some c.in-Some-place_of.i ≡ Some k.0 = c.in-Some-place_of.ensures ∙ ap (λ n. place_of n name) c.root_as-root.ensures ∙ k.2 in
    let i : k.0 ≡ c.in-Some-place_of.i = cc in
    let is : own ≡ string name = string_is own name (sym c.in-Some-as_str.ensures) in
    let got : get (codes "apdu") (value_view c.args.value.now) ≡ Some own = sym c.in-Some.ensures in (
      k.1,
      record {
        at = subst (λ n. slice_get (rows_of (root p)) n ≡ Some k.1) i k.3;
        carried = k.4;
        name = got ∙ ap Some is ∙ ap (λ x. Some (string x)) (sym k.5 ∙ ap (row_name (root p)) i);
      },
    )

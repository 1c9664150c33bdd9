use Rattle.std.proofs.Common.{◌∙◌, sym, FitsSigned, get_or, rules, w64}
use Rattle.std.proofs.lemmas.Int.{to_z-of_z}
use Rattle.std.proofs.lemmas.Slice.Eq.{bytes_eq-Decides}
use Rattle.ill_build.proofs.LeafNumbers.{name_absent, name_found, name_further}
use Rattle.ill_build.proofs.number.number_named.Goals as goal

pub returns-then-eq-clause-some : goal.returns-then-eq-clause-some
returns-then-eq-clause-some c =
    let items = c.number_names-number-items.result.now in
    let fits : FitsSigned w64 (get_or items c.loop-number.number-index _).0 = search rules in
    name_found c.args.row.now c.args.name.now items c.loop-number.number-index _ _ c.number_names-number-items.ensures c.loop-number-test.true
    ((bytes_eq-Decides _ c.args.name.now).0 (sym c.eq.ensures ∙ c.if-eq.true)) (to_z-of_z w64 _ fits)

pub loop-number-preserved : goal.loop-number-preserved
loop-number-preserved c =
    name_further c.args.row.now c.args.name.now c.number_names-number-items.result.now c.loop-number.number-index _ c.number_names-number-items.ensures c.loop-number-test.true
    (λ is. let q = sym c.if-eq.false ∙ c.eq.ensures ∙ (bytes_eq-Decides _ c.args.name.now).1 is in Prim.cc) c.loop-number.invariant

pub returns-clause-none : goal.returns-clause-none
returns-clause-none c =
    name_absent c.args.row.now c.args.name.now c.number_names-number-items.result.now c.loop-number.number-index c.number_names-number-items.ensures c.loop-number-test.false c.loop-number.invariant

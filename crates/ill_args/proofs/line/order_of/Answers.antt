use Rattle.std.proofs.Common.{◌∙◌, Some, option_map, sym, ap}
use Rattle.std.proofs.lemmas.Result.{IfErr-weaker}
use Rattle.clap.specs.Walk.{Text}
use Rattle.clap.specs.Words.{found_of, rows_of}
use Rattle.ill_args.proofs.Found.{both_parts, found_fault}
use Rattle.ill_args.proofs.line.order_of.Goals as goal

pub returns-clause-fault : goal.returns-clause-fault
returns-clause-fault c =
    let rows = rows_of (found_of c.in-Some.words.now) in
    let is_name = ap (option_map (λ p. p.0.now)) (sym c.in-Some.is) ∙ c.subcommand.ensures.name in
    let are_rows = ap (option_map (λ p. rows_of (found_of p.1.now))) (sym c.in-Some.is) ∙ c.subcommand.ensures.rows in
    let found = both_parts _ _ _ c.in-Some.name.now rows is_name are_rows ∙ ap (λ (w : Text). Some (w, rows)) c.verb_of.ensures in
    IfErr-weaker c.order_by.result _ _ (λ fault h. found_fault _ c.verb_of.result rows fault found h) c.order_by.ensures.fault

use Rattle.std.proofs.Common.{inl, inr}
use Rattle.std.proofs.KnownBytes.{Keeps-refl}
use Rattle.std.proofs.lemmas.Result.{err_from_is_err_and}
use Rattle.ill_commands.proofs.PairAnswers.{err_compares, err_refuses, first_compares, first_refuses, ok_compares, ok_refuses, second_compares, second_refuses, write_compares, write_refuses}
use Rattle.ill_commands.proofs.same.run_same_as.Goals as goal

pub returns-in-Ok-clause-done : goal.returns-in-Ok-clause-done
returns-in-Ok-clause-done g c = record {
  first = c.in_ok-one.one.items;
  second = c.in_ok-other.other.items;
  reads_first = c.in_ok-one.ensures.read;
  reads_second = c.in_ok-other.ensures.read;
  compares = rw (c.deref.ensures.value, c.deref-2.ensures.value) at c.in_ok-verdict.ensures.compares;
  written = rw c.line_of.ensures at c.in-Ok.ensures.all;
}

pub returns-in-Ok-clause-compares : goal.returns-in-Ok-clause-compares
returns-in-Ok-clause-compares g c =
    let compares = rw (c.deref.ensures.value, c.deref-2.ensures.value) at c.in_ok-verdict.ensures.compares in
    ok_compares _ _ _ _ _ _ _ _ c.in_ok-one.ensures.read c.in_ok-other.ensures.read c.in_ok-verdict.verdict compares

pub returns-in-Ok-clause-refuses : goal.returns-in-Ok-clause-refuses
returns-in-Ok-clause-refuses g c =
    let compares = rw (c.deref.ensures.value, c.deref-2.ensures.value) at c.in_ok-verdict.ensures.compares in
    ok_refuses _ _ _ _ _ _ _ _ c.in_ok-one.ensures.read c.in_ok-other.ensures.read c.in_ok-verdict.verdict compares

pub returns-in_err-verdict-clause-fails : goal.returns-in_err-verdict-clause-fails
returns-in_err-verdict-clause-fails g c =
    let p = err_from_is_err_and c.from_residual-in_err-verdict.result c.from_residual-in_err-verdict.ensures.1 in
    let refuses = rw (c.deref.ensures.value, c.deref-2.ensures.value) at c.in_err-verdict.ensures.refuses in
    rw (p.1, p.2) (inr (inr (record {
      first = c.in_ok-one.one.items;
      second = c.in_ok-other.other.items;
      reads_first = c.in_ok-one.ensures.read;
      reads_second = c.in_ok-other.ensures.read;
      stops = inl (refuses, Keeps-refl (g.W.Sink.contents c.args.sink.now));
    })))

pub returns-in_err-verdict-clause-compares : goal.returns-in_err-verdict-clause-compares
returns-in_err-verdict-clause-compares g c =
    let p = err_from_is_err_and c.from_residual-in_err-verdict.result c.from_residual-in_err-verdict.ensures.1 in
    let refuses = rw (c.deref.ensures.value, c.deref-2.ensures.value) at c.in_err-verdict.ensures.refuses in
    rw (p.1, p.2) (err_compares _ _ _ _ _ _ _ _ c.in_ok-one.ensures.read c.in_ok-other.ensures.read _ refuses)

pub returns-in_err-verdict-clause-refuses : goal.returns-in_err-verdict-clause-refuses
returns-in_err-verdict-clause-refuses g c =
    let p = err_from_is_err_and c.from_residual-in_err-verdict.result c.from_residual-in_err-verdict.ensures.1 in
    let refuses = rw (c.deref.ensures.value, c.deref-2.ensures.value) at c.in_err-verdict.ensures.refuses in
    rw (p.1, p.2) (err_refuses _ _ _ _ _ _ _ _ c.in_ok-one.ensures.read c.in_ok-other.ensures.read _ refuses)

pub returns-in_err-one-clause-compares : goal.returns-in_err-one-clause-compares
returns-in_err-one-clause-compares g c =
    let p = err_from_is_err_and c.from_residual.result c.from_residual.ensures.1 in
    rw (p.1, p.2) (first_compares _ _ _ _ _ _ _ c.in_err-one.ensures.fails)

pub returns-in_err-one-clause-refuses : goal.returns-in_err-one-clause-refuses
returns-in_err-one-clause-refuses g c =
    let p = err_from_is_err_and c.from_residual.result c.from_residual.ensures.1 in
    rw (p.1, p.2) (first_refuses _ _ _ _ _ _ _ c.in_err-one.ensures.fails)

pub returns-in_err-other-clause-compares : goal.returns-in_err-other-clause-compares
returns-in_err-other-clause-compares g c =
    let p = err_from_is_err_and c.from_residual-in_err-other.result c.from_residual-in_err-other.ensures.1 in
    rw (p.1, p.2) (second_compares _ _ _ _ _ _ _ c.in_err-other.ensures.fails)

pub returns-in_err-other-clause-refuses : goal.returns-in_err-other-clause-refuses
returns-in_err-other-clause-refuses g c =
    let p = err_from_is_err_and c.from_residual-in_err-other.result c.from_residual-in_err-other.ensures.1 in
    rw (p.1, p.2) (second_refuses _ _ _ _ _ _ _ c.in_err-other.ensures.fails)

pub returns-clause-compares : goal.returns-clause-compares
returns-clause-compares g c = write_compares _ _ _ _ _ _ _ _ c.in_ok-one.ensures.read c.in_ok-other.ensures.read c.in-Err.count

pub returns-clause-refuses : goal.returns-clause-refuses
returns-clause-refuses g c = write_refuses _ _ _ _ _ _ _ _ c.in_ok-one.ensures.read c.in_ok-other.ensures.read c.in-Err.count

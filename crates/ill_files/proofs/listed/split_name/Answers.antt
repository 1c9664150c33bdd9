use Rattle.std.proofs.Common.{◌≡◌, ◌∙◌, length, get_or, sym, arith}
use Rattle.ill_files.proofs.ListedNames.{ended_name, is_some, last_name}
use Rattle.ill_files.proofs.listed.split_name.Goals as goal

pub returns-then-octet-eq0-clause-name : goal.returns-then-octet-eq0-clause-name
returns-then-octet-eq0-clause-name c =
    let list = c.args.list.now in
    let at : get_or list c.loop-end.end 0 ≡ 0 = c.if-octet-eq0.true in
    ended_name list c.loop-end.end (omega (arith, c.loop-end-test.true)) at c.loop-end.invariant

pub returns-clause-name : goal.returns-clause-name
returns-clause-name c =
    let list = c.args.list.now in
    let some = is_some (length list) (sym c.is_empty.ensures ∙ c.if-is_empty.false) in
    last_name list c.loop-end.end some (omega (arith, c.loop-end-test.false)) c.loop-end.invariant

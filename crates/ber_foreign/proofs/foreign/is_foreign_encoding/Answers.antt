use Rattle.std.proofs.Common.{◌≡◌, [], length, sym, ◌∙◌, arith, append-nil}
use Rattle.std.proofs.lemmas.Bool.Decides.{nat_tests}
use Rattle.ber_foreign.proofs.Fronts.{one_rest}
use Rattle.ber_foreign.proofs.foreign.is_foreign_encoding.Goals as goal

pub returns-in-Some-clause-no : goal.returns-in-Some-clause-no
returns-in-Some-clause-no c e T h joined =
    let end : length c.in-Some.behind.now ≡ 0 = one_rest 20 c.args.octets.now c.in-Some.behind.now c.in-Some.ensures T h joined in
    grind (arith, nat_tests)

pub returns-in-None-clause-no : goal.returns-in-None-clause-no
returns-in-None-clause-no c = λ _ T h joined. c.in-None.ensures [] (T, h, joined ∙ sym (append-nil _))

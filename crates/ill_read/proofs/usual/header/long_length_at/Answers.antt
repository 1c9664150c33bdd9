use Rattle.std.proofs.Common.{◌≡◌, ◌∙◌, ◌+◌, ◌-◌, false, drop, ap, subst, arith}
use Rattle.std.proofs.lemmas.List.Edits.{length-between}
use Rattle.std.specs.List.{between}
use Rattle.ber_core.specs.HeaderRead.{IsLengthRead}
use Rattle.ber_core.specs.Reading.{read_length}
use Rattle.ber_core.specs.declared.header_read.LengthRead.TheVariants.{Whole}
use Rattle.ber_tree.specs.Length.{IsLength}
use Rattle.ill_read.proofs.UsualWrites.{between_inside, between_octets, length_read}
use Rattle.ill_read.proofs.usual.header.long_length_at.Goals as goal

pub returns-clause-within : goal.returns-clause-within
returns-clause-within c =
    let octets = c.args.input.octets.now in
    let w = between (c.args.at - 1) c.args.input.bound octets in
    let i = c.in-Whole-Definite-default in
    let is = i.is ∙ ap (λ l. Whole l i.header_len) i.field-0-is in
    let ok = between_octets octets (c.args.at - 1) c.args.input.bound c.args.input.right in
    let read = length_read w i.size i.header_len ok (subst (λ r. IsLengthRead r (read_length false (drop 1 w)) w) is c.in_ok-size.ensures) in
    (omega (arith, read.0, c.requires), omega (arith, read.1, c.requires, length-between octets (c.args.at - 1) c.args.input.bound c.args.input.within))

pub returns-clause-is : goal.returns-clause-is
returns-clause-is c few =
    let octets = c.args.input.octets.now in
    let at = c.args.at - 1 in
    let w = between at c.args.input.bound octets in
    let i = c.in-Whole-Definite-default in
    let is = i.is ∙ ap (λ l. Whole l i.header_len) i.field-0-is in
    let ok = between_octets octets at c.args.input.bound c.args.input.right in
    let read = length_read w i.size i.header_len ok (subst (λ r. IsLengthRead r (read_length false (drop 1 w)) w) is c.in_ok-size.ensures) in
    let next : at + 1 ≡ c.args.at = omega (arith, c.requires) in
    subst (λ k. IsLength i.size (between k (at + i.header_len) octets)) next
    (subst (IsLength i.size) (between_inside octets at c.args.input.bound i.header_len (omega (arith, read.1, length-between octets at c.args.input.bound c.args.input.within))) (read.2 few))

use Rattle.std.proofs.Common.{◌≡◌, ◌++◌, ◌∙◌, List, ℕ, codes, ap, refl, subst}
use Rattle.ill_inputs.specs.Hexadecimal.{hex_octets}
use Rattle.ill_commands.specs.HexLines.{IsResult}
use Rattle.ill_commands.proofs.HexLineEnds.{kept_stands}
use Rattle.ill_commands.proofs.lines.result.HexLinesAnswerLines.answer.Goals as goal

pub returns-clause-answers : goal.returns-clause-answers
returns-clause-answers c =
    let words = c.in_ok-found.found.words.items in
    let good = c.in_ok-found.found.is_good in (
      words ++ codes "\n",
      c.in_ok-push_line.ensures.all ∙ ap (λ (l : List ℕ). c.args.results.now.items ++ (l ++ codes "\n")) c.deref.ensures.value,
      λ line kept. (
        words,
        good,
        subst (λ o. IsResult c.args.self.now.work o words good) (ap hex_octets kept ∙ kept_stands line) c.in_ok-found.ensures,
        refl,
        c.verdict_if.ensures,
      ),
    )

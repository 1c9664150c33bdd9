use Rattle.std.proofs.Common.{◌≡◌, ◌++◌, ℕ, Bool, List, [], ◌∷◌, codes, map, Option, Some, Result, Ok, Err, IfOk, refl, sym, ap, ap₂, subst, ◌∙◌, inl, inr, append-nil, ◌&&◌}
use Rattle.std.specs.Prelude.{if◌then◌else◌}
use Rattle.ill_normal.proofs.Canonical.{refuses_once, spells_once}
use Rattle.ill_schema.specs.Profiles.{profile_of}
use Rattle.ill_normal.specs.Messages.{spelling}
use Rattle.ill_inputs.specs.Hexadecimal.{hex_octets}
use Rattle.ill_inputs.specs.declared.run_fault.RunFault.{RunFault}
use Rattle.ill_commands.specs.HexLines.{HexAnswers, IsResult, is_good_message, line_options, message_words}
use Rattle.ill_commands.specs.Lines.{Answer, AreAnswers, LinesDone, all_good, is_good, lines, results}
use Rattle.ill_commands.specs.declared.lines.answer.LineVerdict.{LineVerdict}
use Rattle.ill_commands.specs.Words.{refusal_words}
use Rattle.ill_commands.specs.declared.lines.job.LineOptions.{LineOptions}
use Rattle.test_commands.proofs.jobs.contracts.lines_have_one_output.Goals as goal
use Rattle.ill_read.proofs.Accepted.{refuses_whole}

one_result : (work : LineOptions) (o : Result (List ℕ) RunFault) (r q : List ℕ) (g h : Bool) → IsResult work o r g → IsResult work o q h → (r ≡ q) × (g ≡ h)
one_result work (Err fault) r q g h a b = (a.0 ∙ sym b.0, a.1 ∙ sym b.1)
one_result work (Ok octets) r q g h (inl a) (inl b) =
    let e : a.0 ≡ b.0 = spells_once a.0 b.0 octets a.1 b.1 in
    let p = profile_of work.profile in (
      a.2.words ∙ ap (λ x. message_words p work.job (spelling x octets)) e ∙ sym b.2.words,
      a.2.good ∙ ap (λ x. is_good_message p work.job (spelling x octets)) e ∙ sym b.2.good,
    )
one_result work (Ok octets) r q g h (inl a) (inr b) = absurd (refuses_whole octets b.0 a.0 b.1 a.1)
one_result work (Ok octets) r q g h (inr a) (inl b) = absurd (refuses_whole octets a.0 b.0 a.1 b.1)
one_result work (Ok octets) r q g h (inr a) (inr b) =
    let e : a.0 ≡ b.0 = refuses_once octets a.0 b.0 a.1 b.1 in (a.2 ∙ ap refusal_words e ∙ sym b.2, a.3 ∙ sym b.3)

-- a line has one answer
one_answer : (work : LineOptions) (text r q : List ℕ) (v w : LineVerdict) → HexAnswers work text r v → HexAnswers work text q w → (r ≡ q) × (v ≡ w)
one_answer work text r q v w a b =
    let one = one_result work (hex_octets text) a.0 b.0 a.1 b.1 a.2 b.2 in (
      a.3 ∙ ap (λ (l : List ℕ). l ++ codes "\n") one.0 ∙ sym b.3,
      a.4 ∙ ap (λ (g : Bool). if g then LineVerdict.Good else LineVerdict.NotGood) one.1 ∙ sym b.4,
    )

one_output : (work : LineOptions) (xs ys : List Answer) → AreAnswers (HexAnswers work) xs → AreAnswers (HexAnswers work) ys → map (λ a. a.text) xs ≡ map (λ a. a.text) ys
    → (results xs ≡ results ys) × (all_good xs ≡ all_good ys)
one_output work [] [] h k e = (refl, refl)
one_output work [] (y ∷ ys) h k e = absurd cc
one_output work (x ∷ xs) [] h k e = absurd cc
one_output work (x ∷ xs) (y ∷ ys) h k e =
    let text : x.text ≡ y.text = cc in
    let rest : map (λ a. a.text) xs ≡ map (λ a. a.text) ys = cc in
    let first = one_answer work y.text x.result y.result x.verdict y.verdict (subst (λ t. HexAnswers work t x.result x.verdict) text h.0) k.0 in
    let more = one_output work xs ys h.1 k.1 rest in
    (ap₂ (λ (a b : List ℕ). a ++ b) first.0 more.0, ap₂ (λ (a b : Bool). a && b) (ap is_good first.1) more.1)

-- two inputs of the same octets, whose results were written after the same octets
both : (work : LineOptions) (s s' t t' held held' new new' : List ℕ) (g h : Bool) → s ≡ s' → held ≡ held' → LinesDone (HexAnswers work) (Some s) (Some t) (Some held) (Some new) g
    → LinesDone (HexAnswers work) (Some s') (Some t') (Some held') (Some new') h → (g ≡ h) × (new ≡ new')
both work s s' t t' held held' new new' g h e k d f =
    let one : s ≡ d.octets = d.taken ∙ ap (λ l. d.octets ++ l) d.end ∙ append-nil d.octets in
    let other : s' ≡ f.octets = f.taken ∙ ap (λ l. f.octets ++ l) f.end ∙ append-nil f.octets in
    let same = one_output work d.answers f.answers d.are f.are (sym d.of ∙ ap lines (sym one ∙ e ∙ other) ∙ f.of) in
    (d.is_verdict ∙ same.1 ∙ sym f.is_verdict, d.written ∙ ap₂ (λ a b. a ++ b) k same.0 ∙ sym f.written)

done : (work : LineOptions) (left left' held held' : Option (List ℕ)) (r : Result Bool RunFault) (g : Bool) → r ≡ Ok g → IfOk r (LinesDone (HexAnswers work) left left' held held') → LinesDone (HexAnswers work) left left' held held' g
done work left left' held held' r g p d = subst (λ x. IfOk x (LinesDone (HexAnswers work) left left' held held')) p d

pub returns-clause-good : goal.returns-clause-good
returns-clause-good c g h p q =
    (both (line_options c.args.profile c.args.job) c.args.source.now.octets c.args.other.now.octets c.run_lines_as.new.source.octets c.run_lines_as-2.new.source.octets c.args.sink.now.octets c.args.other_sink.now.octets
    c.run_lines_as.new.sink.octets c.run_lines_as-2.new.sink.octets g h c.requires.source c.requires.sink (done (line_options c.args.profile c.args.job) _ _ _ _ c.run_lines_as.result g p c.run_lines_as.ensures.done)
    (done (line_options c.args.profile c.args.job) _ _ _ _ c.run_lines_as-2.result h q c.run_lines_as-2.ensures.done)).0

pub returns-clause-output : goal.returns-clause-output
returns-clause-output c g h p q =
    (both (line_options c.args.profile c.args.job) c.args.source.now.octets c.args.other.now.octets c.run_lines_as.new.source.octets c.run_lines_as-2.new.source.octets c.args.sink.now.octets c.args.other_sink.now.octets
    c.run_lines_as.new.sink.octets c.run_lines_as-2.new.sink.octets g h c.requires.source c.requires.sink (done (line_options c.args.profile c.args.job) _ _ _ _ c.run_lines_as.result g p c.run_lines_as.ensures.done)
    (done (line_options c.args.profile c.args.job) _ _ _ _ c.run_lines_as-2.result h q c.run_lines_as-2.ensures.done)).1

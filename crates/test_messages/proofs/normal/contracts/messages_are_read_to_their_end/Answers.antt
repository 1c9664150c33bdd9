use Rattle.std.proofs.Common.{◌≡◌, ◌∙◌, ℕ, ◌+◌, ◌≤◌, Bool, true, false, List, [], ◌∷◌, ◌++◌, length, take, Option, Some, None, refl, sym, ap, subst, arith, append-nil, length-append}
use Rattle.std.specs.Io.KnownBytes.{Consumes}
use Rattle.ill_schema.proofs.Streams.{take_front}
use Rattle.ill_read.specs.Answers.{TakesFront}
use Rattle.ill_tables.specs.declared.profile.Profile.{Profile as Named}
use Rattle.ill_normal.specs.Messages.{AreSpelled, good_of, Spelling}
use Rattle.ill_normal.proofs.StoppedReading.{passes_at, stops_at}
use Rattle.test_messages.proofs.normal.contracts.messages_are_read_to_their_end.Goals as goal

in_front : (s b : List ℕ) (rest : Option (List ℕ)) (n : ℕ) → Consumes (Some s) rest b → n ≡ length b → b ≡ take n s
in_front s b None n h e = absurd h
in_front s b (Some t) n h e = sym (take_front b t) ∙ ap (take (length b)) (sym h) ∙ ap (λ k. take k s) (sym e)

few : (s t : List ℕ) (rest : Option (List ℕ)) (b : List ℕ) (n : ℕ) → Consumes (Some s) rest b → n ≡ length b → TakesFront rest (Some t) → length s ≤ n + (1_048_576 + length t)
few s t None b n h e f = absurd h
few s t (Some r) b n h e f = omega (arith, ap length h, length-append b r, e, ap length f.1, length-append f.0 t, f.2)

every_one : (ms : List Spelling) → good_of (λ m. true) ms ≡ length ms
every_one [] = refl
every_one (m ∷ ms) = omega (arith, every_one ms)

pub returns-clause-end : goal.returns-clause-end
returns-clause-end c = λ e.
    let h = passes_at Named.Two _ _ _ _ _ false c.read_input.result c.read_input.ensures.reads e in
    let all = h.writes.taken ∙ ap (λ z. h.writes.octets ++ z) h.end ∙ append-nil h.writes.octets in
    (h.end, (h.messages, sym h.count, subst (λ z. AreSpelled z h.messages []) (sym all) h.writes.spelled))

pub returns-clause-counts : goal.returns-clause-counts
returns-clause-counts c = λ e.
    let h = passes_at Named.Two _ _ _ _ _ false c.read_input.result c.read_input.ensures.reads e in
    let all = h.writes.taken ∙ ap (λ z. h.writes.octets ++ z) h.end ∙ append-nil h.writes.octets in
    (h.goods ∙ every_one h.messages ∙ sym h.count, h.octets ∙ ap length (sym all))

pub returns-clause-before : goal.returns-clause-before
returns-clause-before c = λ why e.
    let h = stops_at Named.Two _ _ _ _ _ false c.read_input.result c.read_input.ensures.reads why e in
    (h.messages, sym h.whole, subst (λ z. AreSpelled z h.messages []) (in_front c.args.source.now.octets h.writes.octets h.rest c.read_input.result.counts.octets h.writes.taken h.before) h.writes.spelled)

pub returns-clause-stop : goal.returns-clause-stop
returns-clause-stop c = λ why e.
    let h = stops_at Named.Two _ _ _ _ _ false c.read_input.result c.read_input.ensures.reads why e in
    few c.args.source.now.octets c.read_input.new.source.octets h.rest h.writes.octets c.read_input.result.counts.octets h.writes.taken h.before h.taken

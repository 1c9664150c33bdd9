use Rattle.std.proofs.Common.{◌≡◌, ◌∙◌, ℕ, [], length, take, List, Option, Some, None, Ok, Err, IfErr, Result, sym, ap, subst}
use Rattle.std.specs.Io.KnownBytes.{Consumes}
use Rattle.ber_leaf.specs.Profile.{profile_two}
use Rattle.ill_schema.specs.Apdu.{Apdu, IsStream}
use Rattle.ill_schema.proofs.Streams.{take_front}
use Rattle.ill_normal.specs.Calls.{taking, putting}
use Rattle.ill_normal.specs.Streamed.{StopsAfter}
use Rattle.ill_normal.specs.declared.failure.StreamFailure.{StreamFailure}
use Rattle.std.specs.Prelude.{Bool}
use Rattle.test_messages.proofs.normal.contracts.streams_are_taken_to_their_end.Goals as goal

in_front : (s b : List ℕ) (rest : Option (List ℕ)) (n : ℕ) → Consumes (Some s) rest b → length b ≡ n → b ≡ take n s
in_front s b None n h e = absurd h
in_front s b (Some t) n h e = sym (take_front b t) ∙ ap (take (length b)) (sym h) ∙ ap (λ k. take k s) e

counted : (s : List ℕ) (left' held held' : Option (List ℕ)) (x y : Bool) (r : Result ℕ StreamFailure)
    → IfErr r (StopsAfter (taking (Some s) left' x) (putting held held' y))
    → IfErr r (λ failure. (apdus : List Apdu) × (length apdus ≡ failure.whole) × IsStream profile_two (take failure.before s) apdus [])
counted s left' held held' x y (Ok n) h = h
counted s left' held held' x y (Err failure) h =
    let p = h.passes in
    (p.apdus, p.count, subst (λ b. IsStream profile_two b p.apdus []) (in_front s p.octets h.rest failure.before p.taken p.size) p.stream)

pub returns-clause-before : goal.returns-clause-before
returns-clause-before c = counted c.args.source.now.octets _ _ _ _ _ c.normalise_stream.result c.normalise_stream.ensures.stops

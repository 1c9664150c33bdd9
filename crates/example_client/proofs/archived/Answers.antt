use Rattle.std.proofs.Common.{◌≡◌, ℕ, ◌≤◌, List, [], ◌++◌, length, Some, None, sym, subst, ap, ◌∙◌, arith, append-nil}
use Rattle.std.proofs.Math.Seq.{take-length}
use Rattle.std.specs.Io.KnownBytes.{Appends}
use Rattle.ber_leaf.specs.Profile.{Profile, profile_two}
use Rattle.ill_schema.specs.Apdu.{Apdu, Accepts, SpellsApdu, normal_form}
use Rattle.example_client.proofs.archived.Goals as goal

-- what is spelled by the first of octets that spell an APDU is that APDU
front_is : ((p : Profile) (a b : Apdu) (octets : List ℕ) → SpellsApdu p a octets → SpellsApdu p b octets → a ≡ b)
    → ((p : Profile) (a b : Apdu) (octets more : List ℕ) → SpellsApdu p a octets → SpellsApdu p b (octets ++ more) → more ≡ [])
    → (s front rest : List ℕ) (a b : Apdu) → s ≡ front ++ rest → SpellsApdu profile_two a front → SpellsApdu profile_two b s → a ≡ b
front_is apdu prefix s front rest a b e h k =
    let more = prefix profile_two a b front rest h (subst (SpellsApdu profile_two b) e k) in
    let all : s ≡ front = e ∙ ap (λ x. front ++ x) more ∙ append-nil front in
    apdu profile_two a b front h (subst (SpellsApdu profile_two b) all k)

accepted : (s : List ℕ) (a : Apdu) → SpellsApdu profile_two a s → Accepts profile_two s a (length s)
accepted s a h = let le : length s ≤ length s = omega arith in (le, subst (SpellsApdu profile_two a) (sym (take-length s)) h)

pub returns-in-Ok-Some-clause-kept : goal.returns-in-Ok-Some-clause-kept
returns-in-Ok-Some-clause-kept g c = λ a h.
    let law = c.one_meaning.ensures in
    let done = rw c.in-Ok-Some.field-0-is at c.in-Ok-Some.ensures.normalised in
    let spells = subst (SpellsApdu profile_two a) (sym c.new-source.ensures) h in
    let one = front_is law.apdu law.prefix c.new-source.result done.1 c.normalise.new.source done.0 a done.3 done.2 spells in
    subst (λ x. Appends (g.W.Sink.contents c.args.archive.now) (g.W.Sink.contents c.normalise.new.sink) (normal_form x)) one done.4

pub returns-in-Ok-None-clause-accepts : goal.returns-in-Ok-None-clause-accepts
returns-in-Ok-None-clause-accepts g c = λ a h e.
    let s = c.new-source.result in
    let answers = rw c.in-Ok-None.field-0-is at c.in-Ok-None.ensures.accepts in
    let p : None ≡ Some (length (normal_form a)) = answers a (length s) (accepted s a (subst (SpellsApdu profile_two a) (sym c.new-source.ensures) h)) in
    cc

pub returns-in-Err-Refused-clause-accepts : goal.returns-in-Err-Refused-clause-accepts
returns-in-Err-Refused-clause-accepts g c = λ a h e.
    let s = c.new-source.result in
    let answers = rw c.in-Err-Refused.field-0-is at c.in-Err-Refused.ensures.accepts in
    answers a (length s) (accepted s a (subst (SpellsApdu profile_two a) (sym c.new-source.ensures) h))

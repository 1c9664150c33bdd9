-- What was made and written of the results, where a call ends.
use Rattle.std.proofs.Common.{◌≡◌, ℕ, ◌+◌, ◌<◌, ◌==◌, Bool, true, false, List, [], ◌∷◌, ◌++◌, length, take, drop, Option, Result, Ok, Err, OnOk, IfErr, IsTrue, refl, sym, ap, subst, ◌∙◌, arith, append_assoc, append-nil, length-append, length-take}
use Rattle.std.specs.Io.KnownBytes.{Appends, Consumes, IsAtEnd}
use Rattle.std.proofs.KnownBytes.{Appends-nil, Appends-trans}
use Rattle.std.proofs.lemmas.List.{map-append, take-append-drop}
use Rattle.std.proofs.Math.Seq.{take-append-add, take-nil}
use Rattle.ill_inputs.specs.declared.run_fault.RunFault.{RunFault}
use Rattle.ill_normal.specs.Calls.{putting}
use Rattle.ill_commands.specs.Lines.{Answer, Answering, AreAnswers, EndsAt, EndsWithin, LinesDone, all_good, has_line_end, is_last, lines, results}
use Rattle.ill_commands.specs.code.After.{HasWritten, IsAfter, IsAnswered, IsStop, StandsAfter, StopsAfter}
use Rattle.ill_commands.specs.declared.lines.answer.LineVerdict.{LineVerdict}
use Rattle.ill_commands.specs.declared.lines.reader.LineReader.{LineReader}
use Rattle.ill_inputs.proofs.PartEnds.{last_part}
use Rattle.ill_commands.proofs.LineEnds.{are_here, good_here, here, made_here, none_of, push_ends, texts}

-- these are the results of the first lines
pub record Made (Answers : Answering) (ended : Bool) (s rest made : List ℕ) (good : Bool) : Type 0 where
  pub answers : List Answer
  pub of : lines s ≡ texts answers ++ lines rest
  pub are : AreAnswers Answers answers
  pub ends : EndsAt ended answers
  pub is_made : made ≡ results answers
  pub is_good : good ≡ all_good answers

module _ (Answers : Answering) (most : ℕ) (ended : Bool) (s kept made : List ℕ) (good : Bool) (h : IsAfter Answers most ended s kept made good) where
  made_before : (more : List ℕ) → Made Answers ended (s ++ more) (h.rest ++ more) made good
  made_before more = record { answers = h.answers; of = h.of more; are = h.are; ends = h.ends; is_made = h.is_made; is_good = h.is_good }

  pub made_now : Made Answers ended s h.rest made good
  made_now = record {
    answers = h.answers;
    of = ap lines (sym (append-nil s)) ∙ h.of [] ∙ ap (λ l. texts h.answers ++ lines l) (append-nil h.rest);
    are = h.are;
    ends = h.ends;
    is_made = h.is_made;
    is_good = h.is_good;
  }

-- what was written is what was made
pub made_written : (Answers : Answering) (most : ℕ) (ended : Bool) (s : List ℕ) (first held : Option (List ℕ)) (now : LineReader) → (h : HasWritten Answers most ended s first held now)
    → Made Answers ended s h.2.rest h.0 now.is_good
made_written Answers most ended s first held now h =
    subst (λ l. Made Answers ended s h.2.rest l now.is_good) (ap (λ l. h.0 ++ l) h.3 ∙ append-nil h.0) (made_now Answers most ended s now.part.items (h.0 ++ now.ready.items) now.is_good h.2)

-- octets were fed, all or the first ones
module _ (Answers : Answering) (most : ℕ) (s octets put : List ℕ) (now : LineReader) where
  abbrev pub SomeMade : Bool → Type 0
  SomeMade ended = (rest : List ℕ) × Made Answers ended (s ++ octets) rest (put ++ now.ready.items) now.is_good

  pub made_all : StandsAfter Answers most false (s ++ octets) put now → SomeMade false
  made_all h = (h.rest, made_now Answers most false (s ++ octets) now.part.items (put ++ now.ready.items) now.is_good h)

  pub made_some : (ended : Bool) (n : ℕ) → StandsAfter Answers most ended (s ++ take n octets) put now → SomeMade ended
  made_some ended n h =
      let whole : (s ++ take n octets) ++ drop n octets ≡ s ++ octets = append_assoc s (take n octets) (drop n octets) ∙ ap (λ l. s ++ l) (take-append-drop n octets) in
      let rest = h.rest ++ drop n octets in
      (rest, subst (λ l. Made Answers ended l rest (put ++ now.ready.items) now.is_good) whole (made_before Answers most ended (s ++ take n octets) now.part.items (put ++ now.ready.items) now.is_good h (drop n octets)))

  pub made_of_fed : {T : Type 0} (r : Result T RunFault) → OnOk r (StandsAfter Answers most false (s ++ octets) put now) → IfErr r (StopsAfter Answers most s octets put now)
      → (ended : Bool) × SomeMade ended
  made_of_fed (Ok t) h k = (false, made_all h)
  made_of_fed (Err e) h k = (k.0, made_some k.0 k.1 k.3)

-- what was ready is written, and counted
pub has_written : (Answers : Answering) (most : ℕ) (ended : Bool) (s put : List ℕ) (first held held' : Option (List ℕ)) (old new : LineReader) (n n' : ℕ)
    → StandsAfter Answers most ended s put old → Appends first held put → Appends held held' old.ready.items
    → new.ready.items ≡ [] → new.part.items ≡ old.part.items → new.is_good ≡ old.is_good → n ≡ length put → n' ≡ n + length old.ready.items
    → (h : HasWritten Answers most ended s first held' new) × (n' ≡ length h.0)
has_written Answers most ended s put first held held' old new n n' h a b ready part good before now =
    let all = put ++ old.ready.items in
    let count : n' ≡ length (put ++ old.ready.items) = omega (arith, before, now, length-append put old.ready.items) in (
      (
        all,
        Appends-trans first held held' put old.ready.items a b,
        record {
          answers = h.answers;
          rest = h.rest;
          of = h.of;
          unended = h.unended;
          is_kept = part ∙ h.is_kept;
          are = h.are;
          ends = h.ends;
          is_made = ap (λ l. all ++ l) ready ∙ append-nil all ∙ h.is_made;
          is_good = good ∙ h.is_good;
        },
        ready,
      ),
      count,
    )

module _ (Answers : Answering) (s rest : List ℕ) (good x y : Bool) (first held : Option (List ℕ)) where
  pub ends_stop : (ended : Bool) (fault : RunFault) (put : List ℕ) → IsStop fault ended → Made Answers ended s rest put good → Appends first held put → EndsWithin Answers s x (putting first held y) fault
  ends_stop false RunFault.OutOfMemory put h m a = record { answers = m.answers; rest = rest; of = m.of; are = m.are; ends = (m.ends, subst (Appends first held) m.is_made a) }
  ends_stop true RunFault.OutOfMemory put h m a = absurd cc
  ends_stop true RunFault.NotReported put h m a = record { answers = m.answers; rest = rest; of = m.of; are = m.are; ends = (m.ends, subst (Appends first held) m.is_made a) }
  ends_stop false RunFault.NotReported put h m a = absurd cc
  ends_stop ended _ put h m a = absurd h

  pub ends_read : (put : List ℕ) → Made Answers false s rest put good → Appends first held put → has_line_end rest ≡ false → IsTrue x → EndsWithin Answers s x (putting first held y) RunFault.ReadFault
  ends_read put m a none broke = record { answers = m.answers; rest = rest; of = m.of; are = m.are; ends = (m.ends, broke, none, subst (Appends first held) m.is_made a) }

  pub ends_write : (ended : Bool) (put ready : List ℕ) (held' : Option (List ℕ)) (written n : ℕ) → Made Answers ended s rest (put ++ ready) good → Appends first held put → written ≡ length put → n < length ready
      → Appends held held' (take n ready) → IsTrue y → EndsWithin Answers s x (putting first held' y) (RunFault.WriteFault (written + n))
  ends_write ended put ready held' written n m a count lt b broke =
      let all : results m.answers ≡ put ++ ready = sym m.is_made in
      let less : written + n < length (results m.answers) = omega (arith, lt, count, ap length all, length-append put ready) in
      let front : put ++ take n ready ≡ take (written + n) (results m.answers) =
      sym (ap (λ k. take (k + n) (results m.answers)) count ∙ ap (take (length put + n)) all ∙ take-append-add put ready n) in
      record {
        answers = m.answers;
        rest = rest;
        of = m.of;
        are = m.are;
        ends = ((ended, m.ends), broke, less, subst (Appends first held') front (Appends-trans first held held' put (take n ready) a b));
      }

-- ---- the end of the input

-- the line that has no end is answered
pub made_last : (Answers : Answering) (most : ℕ) (s put : List ℕ) (old new : LineReader) (verdict : LineVerdict) → StandsAfter Answers most false s put old → 0 < length old.part.items
    → IsAnswered Answers most old.part.items verdict old new → Made Answers (is_last verdict) s [] (put ++ new.ready.items) new.is_good
unfolding made_now
made_last Answers most s put old new verdict h some k =
    let a = here Answers most s put old new h verdict k in
    let first = made_now Answers most false s old.part.items (put ++ old.ready.items) old.is_good h in
    let longer : 0 < length h.rest = omega (arith, some, ap length h.is_kept, length-take most h.rest) in
    let line = ap (λ l. texts h.answers ++ l) (last_part 0x0A h.rest longer h.unended) in
    record {
      answers = h.answers ++ a ∷ [];
      of = first.of ∙ line ∙ sym (map-append (λ (b : Answer). b.text) h.answers (a ∷ [])) ∙ sym (append-nil (texts (h.answers ++ a ∷ [])));
      are = are_here Answers most s put old new h verdict k;
      ends = push_ends h.answers a h.ends;
      is_made = made_here Answers most s put old new h verdict k;
      is_good = good_here Answers most s put old new h verdict k;
    }

-- there is no such line
pub made_none : (Answers : Answering) (most : ℕ) (s put : List ℕ) (now : LineReader) → 0 < most → StandsAfter Answers most false s put now → now.part.items ≡ []
    → Made Answers false s [] (put ++ now.ready.items) now.is_good
made_none Answers most s put now some h empty =
    let first = made_now Answers most false s now.part.items (put ++ now.ready.items) now.is_good h in
    let none : h.rest ≡ [] = none_of h.rest (omega (arith, some, ap length (sym empty ∙ h.is_kept), length-take most h.rest)) in
    subst (λ r. Made Answers false s r (put ++ now.ready.items) now.is_good) none first

pub lines_done : (Answers : Answering) (s put : List ℕ) (good : Bool) (left left' first held : Option (List ℕ)) → Made Answers false s [] put good → Consumes left left' s → IsAtEnd left' → Appends first held put
    → LinesDone Answers left left' first held good
lines_done Answers s put good left left' first held m taken end a = record {
  octets = s;
  answers = m.answers;
  taken = taken;
  end = end;
  of = m.of ∙ append-nil (texts m.answers);
  are = m.are;
  goes_on = m.ends;
  written = subst (Appends first held) m.is_made a;
  is_verdict = m.is_good;
}

-- before the first octet
pub at_start : (Answers : Answering) (most : ℕ) (first : Option (List ℕ)) (now : LineReader) → now.part.items ≡ [] → now.ready.items ≡ [] → now.is_good ≡ all_good []
    → (h : HasWritten Answers most false [] first first now) × (0 ≡ length h.0)
at_start Answers most first now part ready good = (
  (
    [],
    Appends-nil first,
    record { answers = []; rest = []; of = λ more. refl; unended = refl; is_kept = part ∙ sym (take-nil most); are = tt; ends = refl; is_made = ready; is_good = good },
    ready,
  ),
  refl,
)

pub is_zero : (n : ℕ) → (n == 0) ≡ true → n ≡ 0
is_zero n h = grind (arith, h)

pub is_some : (n : ℕ) → (n == 0) ≡ false → 0 < n
is_some n h = grind (arith, h)

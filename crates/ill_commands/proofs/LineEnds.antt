-- What octets change.
use Rattle.std.proofs.Common.{◌≡◌, ◌==◌, ◌&&◌, ◌||◌, ℕ, ◌+◌, ◌-◌, ◌<◌, ◌≤◌, Bool, true, false, List, [], ◌∷◌, ◌++◌, length, map, take, refl, sym, ap, subst, ◌∙◌, arith, append_assoc, append-nil, drop, length-append, length-take, inl, inr, slice_index, Result, Ok, Err, OnOk}
use Rattle.std.specs.List.{list_any}
use Rattle.std.specs.Prelude.{if◌then◌else◌, is_ok}
use Rattle.std.proofs.lemmas.List.{length-drop, map-append, take_all, take_more, take-append-drop, take-append-le}
use Rattle.std.proofs.Math.Seq.{take-add, take-append-add, take-nil}
use Rattle.std.proofs.lemmas.Bool.{cases_lt}
use Rattle.ill_inputs.proofs.PartEnds.{no_end_join, no_end_more, part_ended}
use Rattle.ill_commands.specs.Lines.{Answer, Answering, AreAnswers, EndsAt, all_good, has_line_end, is_good, is_last, lines, results}
use Rattle.ill_commands.specs.code.After.{IsAnswered, IsSame, StandsAfter}
use Rattle.ill_commands.specs.declared.lines.answer.LineVerdict.{LineVerdict}
use Rattle.ill_commands.specs.declared.lines.reader.LineReader.{LineReader}

abbrev pub texts : List Answer → List (List ℕ)
texts answers = map (λ a. a.text) answers

abbrev pub answer : List ℕ → List ℕ → LineVerdict → Answer
answer text result verdict = record { text = text; result = result; verdict = verdict }

-- ---- one answer more

pub push_are : (Answers : Answering) (answers : List Answer) (a : Answer) → AreAnswers Answers answers → Answers a.text a.result a.verdict → AreAnswers Answers (answers ++ a ∷ [])
push_are Answers [] a h k = (k, tt)
push_are Answers (b ∷ answers) a h k = (h.0, push_are Answers answers a h.1 k)

pub push_results : (answers : List Answer) (a : Answer) → results (answers ++ a ∷ []) ≡ results answers ++ a.result
push_results [] a = append-nil a.result
push_results (b ∷ answers) a = ap (λ l. b.result ++ l) (push_results answers a) ∙ sym (append_assoc b.result (results answers) a.result)

pub push_good : (answers : List Answer) (a : Answer) → all_good (answers ++ a ∷ []) ≡ (all_good answers && is_good a.verdict)
push_good [] a = and_true (is_good a.verdict)
  where
    and_true : (b : Bool) → (b && true) ≡ b
    and_true true = refl
    and_true false = refl
push_good (b ∷ answers) a = ap (λ (x : Bool). is_good b.verdict && x) (push_good answers a) ∙ regroup (is_good b.verdict) (all_good answers) (is_good a.verdict)
  where
    regroup : (x y z : Bool) → (x && (y && z)) ≡ ((x && y) && z)
    regroup true y z = refl
    regroup false y z = refl

-- no answer before ended the work
abbrev goes_on : List Answer → Bool
goes_on answers = list_any (λ a. is_last a.verdict) answers

push_last : (answers : List Answer) (a : Answer) → goes_on (answers ++ a ∷ []) ≡ (goes_on answers || is_last a.verdict)
push_last [] a = or_false (is_last a.verdict)
  where
    or_false : (b : Bool) → (b || false) ≡ b
    or_false true = refl
    or_false false = refl
push_last (b ∷ answers) a = ap (λ (x : Bool). is_last b.verdict || x) (push_last answers a) ∙ regroup (is_last b.verdict) (goes_on answers) (is_last a.verdict)
  where
    regroup : (x y z : Bool) → (x || (y || z)) ≡ ((x || y) || z)
    regroup true y z = refl
    regroup false y z = refl

pub push_ends : (answers : List Answer) (a : Answer) → EndsAt false answers → EndsAt (is_last a.verdict) (answers ++ a ∷ [])
push_ends answers a h = by a.verdict refl
  where
    on : is_last a.verdict ≡ false → goes_on (answers ++ a ∷ []) ≡ false
    on e = push_last answers a ∙ ap (λ (x : Bool). x || is_last a.verdict) h ∙ e

    by : (v : LineVerdict) → a.verdict ≡ v → EndsAt (is_last v) (answers ++ a ∷ [])
    by LineVerdict.Good e = on (ap is_last e)
    by LineVerdict.NotGood e = on (ap is_last e)
    by LineVerdict.Last e = (answers, a, refl, h, e)

-- ---- what is kept of a line

pub none_of : (l : List ℕ) → length l ≡ 0 → l ≡ []
none_of [] e = refl
none_of (c ∷ l) e = absurd (omega (arith, e))

pub keeps_whole : (most : ℕ) (kept rest octets : List ℕ) → kept ≡ take most rest → length octets ≤ most - length kept → kept ++ octets ≡ take most (rest ++ octets)
keeps_whole most kept rest octets e le = elim (cases_lt most (length rest)) [
  | inl lt ↦
      let none : length octets ≡ 0 = omega (arith, lt, le, ap length e, length-take most rest) in
      rw (none_of octets none) (append-nil kept ∙ e ∙ ap (take most) (sym (append-nil rest)))
  | inr few ↦
      ap (λ l. l ++ octets) (e ∙ take_all most rest few)
      ∙ sym (take_all most (rest ++ octets) (omega (arith, few, le, ap length e, length-take most rest, length-append rest octets)))
]

pub keeps_first : (most : ℕ) (kept rest octets : List ℕ) → kept ≡ take most rest → kept ++ take (most - length kept) octets ≡ take most (rest ++ octets)
keeps_first most kept rest octets e = elim (cases_lt most (length rest)) [
  | inl lt ↦
      let full : most - length kept ≡ 0 = omega (arith, lt, ap length e, length-take most rest) in
      ap (λ n. kept ++ take n octets) full ∙ append-nil kept ∙ e ∙ sym (take-append-le most rest octets (omega (arith, lt)))
  | inr few ↦
      let all : kept ≡ rest = e ∙ take_all most rest few in
      let room : length rest + (most - length rest) ≡ most = omega (arith, few) in
      ap (λ l. l ++ take (most - length l) octets) all ∙ sym (take-append-add rest octets (most - length rest)) ∙ ap (λ n. take n (rest ++ octets)) room
]

-- a whole list or none was added
pub extended : {T E : Type 0} (r : Result T E) (new old more all : List ℕ) → new ≡ (if is_ok r then old ++ more else old) → old ++ more ≡ all → OnOk r (new ≡ all)
extended (Ok t) new old more all e k = e ∙ k
extended (Err t) new old more all e k = tt

pub no_end_next : (octets : List ℕ) (i : ℕ) → i < length octets → has_line_end (take i octets) ≡ false → (slice_index octets i == 10) ≡ false → has_line_end (take (i + 1) octets) ≡ false
no_end_next octets i lt h k = subst (λ l. has_line_end l ≡ false) (sym (take_more octets i 0 lt)) (no_end_more 10 (take i octets) (slice_index octets i) h k)

-- a line and its end
pub line_whole : (s octets : List ℕ) (i : ℕ) → i < length octets → slice_index octets i ≡ 10 → (s ++ take i octets) ++ 0x0A ∷ [] ≡ s ++ take (i + 1) octets
line_whole s octets i lt is =
    append_assoc s (take i octets) (0x0A ∷ []) ∙ ap (λ l. s ++ l) (ap (λ (c : ℕ). take i octets ++ c ∷ []) (sym is) ∙ sym (take_more octets i 0 lt))

-- the slice from i on
pub from_place : (octets : List ℕ) (i : ℕ) → take (length octets - i) (drop i octets) ≡ drop i octets
from_place octets i = take_all (length octets - i) (drop i octets) (omega (arith, length-drop i octets))

pub parts_whole : (s octets : List ℕ) (i n : ℕ) → (s ++ take i octets) ++ take n (take (length octets - i) (drop i octets)) ≡ s ++ take (i + n) octets
parts_whole s octets i n =
    append_assoc s (take i octets) (take n (take (length octets - i) (drop i octets)))
    ∙ ap (λ l. s ++ l) (ap (λ l. take i octets ++ take n l) (from_place octets i) ∙ sym (take-add i n octets))

-- ---- steps

module _ (Answers : Answering) (most : ℕ) (s put : List ℕ) (old new : LineReader) (h : StandsAfter Answers most false s put old) where
  pub step_same : IsSame old new → StandsAfter Answers most false s put new
  step_same k = record {
    answers = h.answers;
    rest = h.rest;
    of = h.of;
    unended = h.unended;
    is_kept = k.0 ∙ h.is_kept;
    are = h.are;
    ends = h.ends;
    is_made = ap (λ l. put ++ l) k.1 ∙ h.is_made;
    is_good = k.2 ∙ h.is_good;
  }

  pub step_keep : (octets : List ℕ) → has_line_end octets ≡ false → new.part.items ≡ take most (h.rest ++ octets) → new.ready.items ≡ old.ready.items → new.is_good ≡ old.is_good
      → StandsAfter Answers most false (s ++ octets) put new
  step_keep octets e kept ready good = record {
    answers = h.answers;
    rest = h.rest ++ octets;
    of = λ more. ap lines (append_assoc s octets more) ∙ h.of (octets ++ more) ∙ ap (λ l. texts h.answers ++ lines l) (sym (append_assoc h.rest octets more));
    unended = no_end_join 0x0A h.rest octets h.unended e;
    is_kept = kept;
    are = h.are;
    ends = h.ends;
    is_made = ap (λ l. put ++ l) ready ∙ h.is_made;
    is_good = good ∙ h.is_good;
  }

  module _ (verdict : LineVerdict) (k : IsAnswered Answers most old.part.items verdict old new) where
    -- the result of what was kept is that of the line
    abbrev pub here : Answer
    here = answer h.rest k.result verdict

    pub are_here : AreAnswers Answers (h.answers ++ here ∷ [])
    are_here = push_are Answers h.answers here h.are (k.is_result h.rest h.is_kept)

    pub made_here : put ++ new.ready.items ≡ results (h.answers ++ here ∷ [])
    made_here =
        ap (λ l. put ++ l) k.ready ∙ sym (append_assoc put old.ready.items k.result) ∙ ap (λ l. l ++ k.result) h.is_made ∙ sym (push_results h.answers here)

    pub good_here : new.is_good ≡ all_good (h.answers ++ here ∷ [])
    good_here = k.good ∙ ap (λ (b : Bool). b && is_good verdict) h.is_good ∙ sym (push_good h.answers here)

    pub step_end : StandsAfter Answers most (is_last verdict) (s ++ 0x0A ∷ []) put new
    step_end = record {
      answers = h.answers ++ here ∷ [];
      rest = [];
      of = λ more. ap lines (append_assoc s (0x0A ∷ []) more) ∙ h.of (0x0A ∷ more) ∙ ap (λ l. texts h.answers ++ l) (part_ended 0x0A h.rest more h.unended)
          ∙ sym (append_assoc (texts h.answers) (h.rest ∷ []) (lines more)) ∙ ap (λ l. l ++ lines more) (sym (map-append (λ (x : Answer). x.text) h.answers (here ∷ [])));
      unended = refl;
      is_kept = k.part ∙ sym (take-nil most);
      are = are_here;
      ends = push_ends h.answers here h.ends;
      is_made = made_here;
      is_good = good_here;
    }

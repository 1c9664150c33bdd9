-- The levels of a usual message, as elements are read, opened and ended in the innermost one.
use Rattle.std.proofs.Common.{◌≡◌, ◌∙◌, ℕ, suc, ◌+◌, ◌-◌, ◌≤◌, ◌<◌, Bool, true, false, IsTrue, List, [], ◌∷◌, ◌++◌, length, length-append, reverse, take, None, refl, sym, ap, subst, arith}
use Rattle.std.specs.List.{between}
use Rattle.std.proofs.lemmas.List.{reverse-append}
use Rattle.std.proofs.lemmas.List.Edits.{between_none, length-between}
use Rattle.std.proofs.lemmas.Slice.{between_from_start}
use Rattle.ber_leaf.specs.Profile.{profile_two}
use Rattle.ber_tree.specs.Length.{IsLength, shortest_length}
use Rattle.ill_schema.specs.Profiles.{profile_of}
use Rattle.ill_refusals.specs.Next.{missing}
use Rattle.ill_tables.specs.declared.profile.Profile.{Profile as Named}
use Rattle.ill_tables.specs.declared.profile.Profile.TheVariants.{Two}
use Rattle.ill_grammar.specs.Due.{first_of, next_is}
use Rattle.ill_grammar.specs.Standing.{next_at_top, top_part}
use Rattle.ill_grammar.specs.code.Judging.{is_usual}
use Rattle.ill_grammar.specs.code.Spots.{IsOfKind, IsUsualDue, is_constructed, is_either, spot_next}
use Rattle.ill_grammar.specs.declared.due.Next.{Next}
use Rattle.ill_grammar.specs.declared.element.Element.{Element as CodeElement}
use Rattle.ill_grammar.specs.declared.element.Element.TheVariants.{Wrapper}
use Rattle.ill_grammar.specs.declared.spot.UsualKind.TheVariants as kind
use Rattle.ill_read.specs.code.Usual.{EndsAt, HasAll, HasRead, IsElementRead, IsHeaded, IsNormalFormOf, IsSized, IsStep, Puts, mark_of}
use Rattle.ill_read.specs.code.UsualLevels.{IsIn, IsReading, IsRound, OpensIn, level_after}
use Rattle.ill_read.specs.declared.usual.header.Header.{Header}
use Rattle.ill_read.specs.declared.usual.input.Input.{Input}
use Rattle.ill_read.specs.declared.usual.input.Reach.{Reach}
use Rattle.ill_read.specs.declared.usual.level.Level.{Level}
use Rattle.ill_read.specs.declared.usual.level.Standing.{Standing}
use Rattle.ill_read.specs.declared.usual.writing.TheConstants.{FREE_LEN}
use Rattle.ill_read.proofs.UsualElements.{all_there, message_read, none_read, top_first}
use Rattle.ill_read.proofs.UsualReads.{marks_at, open_step}
use Rattle.ill_read.proofs.UsualWrites.{between_kept, between_split, kept_before, puts_kept}

-- what was read stays, where what was written of it stays
read_kept : (p : Named) (e : CodeElement) (n : Next) (k : ℕ) (b out new : List ℕ) (start end : ℕ) → take end new ≡ take end out → HasRead p e n k b (between start end out) → HasRead p e n k b (between start end new)
read_kept p e n k b out new start end same = subst (HasRead p e n k b) (sym (between_kept out new start end same))

round_kept : (p : Named) (input : Input) (out new : List ℕ) (outer : List Level) (l : Level) (e : CodeElement) (k begin : ℕ) → take l.start new ≡ take l.start out → IsRound p input out outer l e k begin → IsRound p input new outer l e k begin
round_kept p input out new [] l e k begin same round = round
round_kept p input out new (o ∷ outer) l e k begin same round =
    let i = round.0 in
    let h = i.header in
    let id = kept_before out new h.length.written l.start (omega (arith, i.written)) same in
    let from = kept_before out new h.from.written l.start (omega (arith, i.written)) same in (
      record {
        round = i.round;
        round_begin = i.round_begin;
        next = i.next;
        header = h;
        read = read_kept p i.round i.next (suc k) _ out new o.start h.from.written from i.read;
        headed = (i.headed.0, between_kept out new h.from.written h.length.written id ∙ i.headed.1);
        is = i.is;
        opens = i.opens;
        after = i.after;
        sized = i.sized;
        bound = i.bound;
        taken = i.taken;
        written = i.written;
        ordered = i.ordered;
      },
      round_kept p input out new outer o i.round (suc k) i.round_begin (kept_before out new o.start l.start (omega (arith, i.written)) same) round.1,
    )

-- octets were written behind what was
pub reading_kept : (p : Named) (input : Input) (outer : List Level) (at : Standing) (out new : List ℕ) → length new ≡ length out → take at.reach.written new ≡ take at.reach.written out → IsReading p input outer at out → IsReading p input outer at new
reading_kept p input outer at out new long same r = record {
  element = r.element;
  levels = r.levels;
  begin = r.begin;
  read = read_kept p r.element _ r.levels _ out new at.level.start at.reach.written same r.read;
  taken = r.taken;
  written = (r.written.0, r.written.1, omega (arith, r.written.2, long));
  deep = r.deep;
  round = round_kept p input out new (reverse outer) at.level r.element r.levels r.begin (kept_before out new at.level.start at.reach.written r.written.1 same) r.round;
}

-- an element more was read in what is open
step_read : (p : Named) (e : CodeElement) (n after : Next) (k begin start : ℕ) (octets old new : List ℕ) (from to : Reach) → begin ≤ from.taken → start ≤ from.written → IsStep p n after k octets old new from to
    → HasRead p e n k (between begin from.taken octets) (between start from.written old) → HasRead p e after k (between begin to.taken octets) (between start to.written new)
step_read p e n after k begin start octets old new from to taken written step read =
    let same = between_kept old new start from.written step.put.before in
    subst (λ b. HasRead p e after k b (between start to.written new)) (sym (between_split octets begin from.taken to.taken taken (omega (arith, step.taken))))
    (subst (HasRead p e after k (between begin from.taken octets ++ between from.taken to.taken octets)) (sym (between_split new start from.written to.written written step.put.forward.0 ∙ ap (λ w. w ++ between from.written to.written new) same))
    (step.adds e _ _ read))

-- what stands round the innermost level does not depend on what may come next in it
round_next : (p : Named) (input : Input) (out : List ℕ) (outer : List Level) (l l' : Level) (e : CodeElement) (k begin : ℕ) → l'.start ≡ l.start → l'.length_at ≡ l.length_at → l'.bound ≡ l.bound → l'.is_definite ≡ l.is_definite
    → IsRound p input out outer l e k begin → IsRound p input out outer l' e k begin
round_next p input out [] l l' e k begin es el eb ed r = (r.0, r.1, es ∙ r.2)
round_next p input out (o ∷ outer) l l' e k begin es el eb ed r =
    let i = r.0 in (
      record {
        round = i.round;
        round_begin = i.round_begin;
        next = i.next;
        header = i.header;
        read = i.read;
        headed = i.headed;
        is = i.is;
        opens = i.opens;
        after = i.after;
        sized = subst (λ (d : Bool). IsSized d (l'.bound - begin) (between i.header.length.taken begin input.octets.now)) (sym ed) (subst (λ n. IsSized l.is_definite (n - begin) (between i.header.length.taken begin input.octets.now)) (sym eb) i.sized);
        bound = (omega (arith, i.bound, eb), i.bound.1);
        taken = i.taken;
        written = (i.written.0, i.written.1, i.written.2 ∙ sym el, omega (arith, i.written, es, el));
        ordered = i.ordered;
      },
      r.1,
    )

-- in levels so few
deep_enough : (k n : ℕ) → k + n ≡ 32 → n ≤ 11 → 1 < k
deep_enough k n deep few = omega (arith, deep, few)

-- an element more was read in the innermost level
pub element_read : (p : Named) (input inside : Input) (outer : List Level) (at : Standing) (h : Header) (out mid new : List ℕ) (to : Reach) → inside.octets.now ≡ input.octets.now → inside.bound ≡ at.level.bound
    → length mid ≡ length out → take at.reach.written mid ≡ take at.reach.written out → h.from ≡ at.reach → IsHeaded (spot_next at.level.spot) inside h mid → IsElementRead inside h mid new to → to.written + FREE_LEN ≤ length new → IsReading p input outer at out
    → IsReading p input outer (record { level = level_after at.level h.element.after; reach = to }) new
element_read p input inside outer at h out mid new to octets bound long before from headed read free was =
    let r = reading_kept p input outer at out mid long before was in
    let got = read (spot_next at.level.spot) headed in
    let step : IsStep p (spot_next at.level.spot) (spot_next h.element.after) r.levels input.octets.now mid new at.reach to =
    subst (λ x. IsStep p (spot_next at.level.spot) (spot_next h.element.after) r.levels input.octets.now mid new x to) from
    (subst (λ x. IsStep p (spot_next at.level.spot) (spot_next h.element.after) r.levels x mid new h.from to) octets (got.1 p r.levels (deep_enough r.levels (length outer) r.deep.0 r.deep.1))) in
    record {
      element = r.element;
      levels = r.levels;
      begin = r.begin;
      read = step_read p r.element _ _ r.levels r.begin at.level.start input.octets.now mid new at.reach to r.taken.0 r.written.1 step r.read;
      taken = (omega (arith, r.taken, step.taken), omega (arith, got.0, bound), r.taken.2);
      written = (r.written.0, omega (arith, r.written, step.put.forward), free);
      deep = r.deep;
      round = round_next p input new (reverse outer) at.level _ r.element r.levels r.begin refl refl refl refl
          (round_kept p input mid new (reverse outer) at.level r.element r.levels r.begin (kept_before mid new at.level.start at.reach.written r.written.1 step.put.before) r.round);
    }

-- it took octets
pub element_taken : (inside : Input) (at : Standing) (h : Header) (mid new : List ℕ) (to : Reach) → h.from ≡ at.reach → IsHeaded (spot_next at.level.spot) inside h mid → IsElementRead inside h mid new to → (at.reach.taken < to.taken) × (to.taken ≤ inside.bound)
element_taken inside at h mid new to from headed read =
    let got = read (spot_next at.level.spot) headed in
    let step = got.1 Two 2 (omega arith) in
    let from_taken : h.from.taken ≡ at.reach.taken = ap (λ (x : Reach). x.taken) from in
    (omega (arith, step.taken, from_taken), got.0)

-- a constructed element opened in the innermost level
pub element_opened : (p : Named) (input inside : Input) (outer : List Level) (at to : Standing) (h : Header) (out mid : List ℕ) → inside.octets.now ≡ input.octets.now → inside.bound ≡ at.level.bound → length outer < 11
    → length mid ≡ length out → take at.reach.written mid ≡ take at.reach.written out → h.from ≡ at.reach → IsHeaded (spot_next at.level.spot) inside h mid → (h.from.taken < h.length.taken) × (h.from.written < h.length.written)
    → h.element.kind ≡ kind.Constructed → OpensIn inside h mid to → IsReading p input outer at out
    → IsReading p input (outer ++ level_after at.level h.element.after ∷ []) to mid
element_opened p input inside outer at to h out mid octets bound few long before from headed order constructed opens was =
    let r = reading_kept p input outer at out mid long before was in
    let level = level_after at.level h.element.after in
    let due = subst (λ x. IsUsualDue (between h.from.taken h.length.taken x) (spot_next at.level.spot) h.element) octets headed.0 in
    let e = due.element in
    let k = r.levels - 1 in
    let is : suc k ≡ r.levels = omega (arith, r.deep) in
    let first : spot_next to.level.spot ≡ first_of e = ap spot_next opens.spot ∙ subst (λ x. IsOfKind x (spot_next h.element.first) e) constructed due.kind in
    let usual : IsTrue (is_usual e true) = subst (λ x. IsTrue (is_usual e (is_constructed x))) constructed due.usual in
    let from_taken : h.from.taken ≡ at.reach.taken = ap (λ (x : Reach). x.taken) from in
    let from_written : h.from.written ≡ at.reach.written = ap (λ (x : Reach). x.written) from in
    let nothing = none_read p e (spot_next to.level.spot) k first usual in
    let here : IsHeaded (spot_next at.level.spot) input h mid = (due, headed.1 ∙ ap (λ x. between h.from.taken h.length.taken x) octets) in
    let inner : IsIn p input mid level to.level e k to.reach.taken = record {
      round = r.element;
      round_begin = r.begin;
      next = spot_next at.level.spot;
      header = h;
      read = subst (λ n. HasRead p r.element (spot_next at.level.spot) n (between r.begin h.from.taken input.octets.now) (between at.level.start h.from.written mid)) (sym is)
          (subst (λ n. HasRead p r.element (spot_next at.level.spot) r.levels (between r.begin n input.octets.now) (between at.level.start h.from.written mid)) (sym from_taken)
          (subst (λ n. HasRead p r.element (spot_next at.level.spot) r.levels (between r.begin at.reach.taken input.octets.now) (between at.level.start n mid)) (sym from_written) r.read));
      headed = here;
      is = refl;
      opens = ap is_constructed constructed;
      after = refl;
      sized = subst (λ x. IsSized to.level.is_definite (to.level.bound - to.reach.taken) (between h.length.taken to.reach.taken x)) octets opens.sized;
      bound = (omega (arith, opens.taken, bound), r.taken.2);
      taken = (omega (arith, r.taken, from_taken), order.0, omega (arith, opens.taken));
      written = (omega (arith, r.written, from_written), order.1, sym opens.written.0, omega (arith, opens.written));
      ordered = r.written.0;
    } in
    record {
      element = e;
      levels = k;
      begin = to.reach.taken;
      read = subst (λ b. HasRead p e (spot_next to.level.spot) k b (between to.level.start to.reach.written mid)) (sym (between_none input.octets.now to.reach.taken))
          (subst (λ n. HasRead p e (spot_next to.level.spot) k [] (between to.level.start n mid)) (sym opens.written.2)
          (subst (HasRead p e (spot_next to.level.spot) k []) (sym (between_none mid to.level.start)) nothing));
      taken = (omega arith, opens.taken.1, omega (arith, opens.taken, bound, r.taken));
      written = (omega (arith, opens.written), omega (arith, opens.written), omega (arith, opens.written));
      deep = (omega (arith, r.deep, few, length-append outer (level ∷ [])), omega (arith, few, length-append outer (level ∷ [])));
      round = subst (λ xs. IsRound p input mid xs to.level e k to.reach.taken) (sym (reverse-append outer (level ∷ [])))
          (inner, subst (λ n. IsRound p input mid (reverse outer) level r.element n r.begin) (sym is) (round_next p input mid (reverse outer) at.level level r.element r.levels r.begin refl refl refl refl r.round));
    }

-- where an end mark ends
ends_within : (d : Bool) (octets : List ℕ) (at bound : ℕ) → EndsAt d octets at bound → at + length (mark_of d) ≤ bound
ends_within true octets at bound ends = omega (arith, ends)
ends_within false octets at bound ends = ends.0

-- how many octets a definite length says
sized_ended : (d : Bool) (octets os : List ℕ) (begin at bound : ℕ) → EndsAt d octets at bound → begin ≤ at → at ≤ length octets → IsSized d (bound - begin) os → IsSized d (length (between begin at octets)) os
sized_ended true octets os begin at bound ends le few sized = subst (λ n. IsLength n os) (ap (λ n. n - begin) (sym ends) ∙ sym (length-between octets begin at few)) sized
sized_ended false octets os begin at bound ends le few sized = sized

-- the innermost level ended
pub level_ended : (p : Named) (input : Input) (outer : List Level) (level : Level) (at : Standing) (out new : List ℕ) (to : Reach) → EndsAt at.level.is_definite input.octets.now at.reach.taken at.level.bound
    → missing profile_two (next_is (spot_next at.level.spot)) ≡ None → is_either (spot_next at.level.spot) ≡ false → to.taken ≡ at.reach.taken + length (mark_of at.level.is_definite)
    → Puts out new at.level.length_at to.written (shortest_length (at.reach.written - at.level.start) ++ between at.level.start at.reach.written out)
    → to.written + FREE_LEN ≤ length new → IsReading p input (outer ++ level ∷ []) at out → IsReading p input outer (record { level = level; reach = to }) new
level_ended p input outer level at out new to ends complete sequence taken put free was =
    let octets = input.octets.now in
    let round : IsRound p input out (level ∷ reverse outer) at.level was.element was.levels was.begin = subst (λ xs. IsRound p input out xs at.level was.element was.levels was.begin) (reverse-append outer (level ∷ [])) was.round in
    let i = round.0 in
    let h = i.header in
    let k = was.levels in
    let few : length outer < 11 = omega (arith, was.deep, length-append outer (level ∷ [])) in
    let deep : k + (length outer + 1) ≡ 32 = omega (arith, was.deep, length-append outer (level ∷ [])) in
    let whole = all_there p was.element (spot_next at.level.spot) k _ _ was.read complete sequence in
    let all : HasAll p i.headed.0.element (suc k - 1) (between was.begin at.reach.taken octets) (between at.level.start at.reach.written out) =
    subst (λ n. HasAll p i.headed.0.element n (between was.begin at.reach.taken octets) (between at.level.start at.reach.written out)) (let z : k ≡ suc k - 1 = omega arith in z)
    (subst (λ e. HasAll p e k (between was.begin at.reach.taken octets) (between at.level.start at.reach.written out)) (sym i.is) whole) in
    let within = ends_within at.level.is_definite octets at.reach.taken at.level.bound ends in
    let known : at.reach.taken ≤ length octets = omega (arith, was.taken, input.within) in
    let at_length = subst (λ n. Puts out new n to.written (shortest_length (at.reach.written - at.level.start) ++ between at.level.start at.reach.written out)) (sym i.written.2) put in
    let step = open_step p octets out out new h i.next at.level.is_definite (suc k) was.begin at.reach.taken to.taken at.level.start at.reach.written to.written i.headed.0 i.headed.1
    (i.taken.1, i.taken.2, was.taken.0, omega (arith, taken)) (i.written.1, omega (arith, i.written), was.written.1) (omega (arith, deep, few)) i.opens
    (puts_kept out at.level.start at.reach.written was.written.1 (omega (arith, was.written.2))) at_length all
    (sized_ended at.level.is_definite octets _ was.begin at.reach.taken at.level.bound ends was.taken.0 known i.sized)
    (marks_at at.level.is_definite octets at.reach.taken at.level.bound ends to.taken taken) in
    record {
      element = i.round;
      levels = suc k;
      begin = i.round_begin;
      read = subst (λ n. HasRead p i.round n (suc k) (between i.round_begin to.taken octets) (between level.start to.written new)) i.after
          (step_read p i.round i.next (spot_next h.element.after) (suc k) i.round_begin level.start octets out new h.from to i.taken.0 i.written.0 step i.read);
      taken = (omega (arith, i.taken, was.taken, taken), omega (arith, taken, within, i.bound), i.bound.1);
      written = (i.ordered, omega (arith, i.written, put.forward), free);
      deep = (omega (arith, deep), omega (arith, few));
      round = round_kept p input out new (reverse outer) level i.round (suc k) i.round_begin (kept_before out new level.start at.level.length_at (omega (arith, i.written)) put.before) round.1;
    }

-- nothing is read of a message yet
pub message_begins : (p : Named) (input : Input) (at : Standing) (out : List ℕ) → spot_next at.level.spot ≡ next_at_top p → at.level.start ≡ 0 → at.level.length_at ≡ 0 → at.reach.taken ≡ 0 → at.reach.written ≡ 0 → at.level.bound ≤ input.bound → FREE_LEN ≤ length out → IsReading p input [] at out
message_begins p input at out top start length_at taken written bound free = record {
  element = Wrapper (top_part p);
  levels = 32;
  begin = 0;
  read = subst (λ n. HasRead p (Wrapper (top_part p)) (spot_next at.level.spot) 32 (between 0 n input.octets.now) (between at.level.start at.reach.written out)) (sym taken)
      (subst (λ n. HasRead p (Wrapper (top_part p)) (spot_next at.level.spot) 32 [] (between n at.reach.written out)) (sym start)
      (subst (λ n. HasRead p (Wrapper (top_part p)) (spot_next at.level.spot) 32 [] (between 0 n out)) (sym written) (none_read p (Wrapper (top_part p)) (spot_next at.level.spot) 32 (top ∙ top_first p) refl)));
  taken = (omega (arith, taken), omega (arith, taken), bound);
  written = (omega (arith, start, length_at), omega (arith, start, written), omega (arith, written, free));
  deep = (refl, omega arith);
  round = (refl, refl, start);
}

-- a message is read
pub message_ends : (p : Named) (input : Input) (at : Standing) (out : List ℕ) → missing profile_two (next_is (spot_next at.level.spot)) ≡ None → is_either (spot_next at.level.spot) ≡ false → at.reach.written ≤ 1_048_576
    → IsReading p input [] at out → IsNormalFormOf (profile_of p) (take at.reach.written out) (take at.reach.taken input.octets.now)
message_ends p input at out complete sequence few r =
    let octets = input.octets.now in
    let b = between 0 at.reach.taken octets in
    let w = between 0 at.reach.written out in
    let levels : r.levels ≡ 32 = omega (arith, r.deep) in
    let read = subst (λ e. HasRead p e (spot_next at.level.spot) r.levels (between r.begin at.reach.taken octets) (between at.level.start at.reach.written out)) r.round.0 r.read in
    let deep = subst (λ n. HasRead p (Wrapper (top_part p)) (spot_next at.level.spot) n (between r.begin at.reach.taken octets) (between at.level.start at.reach.written out)) levels read in
    let front = subst (λ n. HasRead p (Wrapper (top_part p)) (spot_next at.level.spot) 32 (between n at.reach.taken octets) (between at.level.start at.reach.written out)) r.round.1 deep in
    let whole = subst (λ n. HasRead p (Wrapper (top_part p)) (spot_next at.level.spot) 32 b (between n at.reach.written out)) r.round.2 front in
    let all = all_there p (Wrapper (top_part p)) (spot_next at.level.spot) 32 b w whole complete sequence in
    let short : length b ≤ 1_048_576 = omega (arith, r.taken, input.few, length-between octets 0 at.reach.taken (omega (arith, r.taken, input.within))) in
    let normal : length w ≤ 1_048_576 = omega (arith, few, length-between out 0 at.reach.written (omega (arith, r.written.2))) in
    subst (λ x. IsNormalFormOf (profile_of p) x (take at.reach.taken octets)) (between_from_start out at.reach.written) (subst (IsNormalFormOf (profile_of p) w) (between_from_start octets at.reach.taken) (message_read p b w all short normal))

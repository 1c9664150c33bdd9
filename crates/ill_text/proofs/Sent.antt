-- What is put one after another.
use Rattle.std.proofs.Common.{◌≡◌, ℕ, ◌+◌, ◌^◌, ◌<◌, ◌≤◌, Bool, true, false, List, [], ◌++◌, length, take, Option, IsTrue, refl, sym, ap, subst, ◌∙◌, arith, append_assoc, append-nil, length-append, drop, length-take}
use Rattle.std.proofs.lemmas.List.{take-append-drop, take_at}
use Rattle.std.proofs.KnownBytes.{Appends-trans}
use Rattle.std.specs.Io.KnownBytes.{Appends}
use Rattle.ill_text.specs.declared.text_sink.TextSink.{TextSink}
use Rattle.ill_text.specs.code.Sending.{Adds, Sending, Stands, counted, sending}

pub counted_then : (m n k : ℕ) → k ≡ counted m → counted (k + n) ≡ counted (m + n)
counted_then m n k e = omega arith

pub adds_nothing : (s : Sending) → Adds [] s s
unfolding Adds
adds_nothing s = λ start put h. subst (λ z. Stands start z s) (sym (append-nil put)) h

pub adds_then : (xs ys : List ℕ) (a b c : Sending) → Adds xs a b → Adds ys b c → Adds (xs ++ ys) a c
unfolding Adds
adds_then xs ys a b c f g = λ start put h. subst (λ z. Stands start z c) (append_assoc put xs ys) (g start (put ++ xs) (f start put h))

pub adds_as : (xs ys : List ℕ) (a b : Sending) → xs ≡ ys → Adds xs a b → Adds ys a b
adds_as xs ys a b e h = subst (λ z. Adds z a b) e h

-- where the sink broke nothing more goes into it
pub adds_broken : (xs : List ℕ) (reported : Option (List ℕ)) (b : Bool) (o : TextSink) → o.broken ≡ true → Adds xs (sending reported b o) (sending reported b o)
unfolding Adds
adds_broken xs reported b o e = λ start put h.
    let left : (0 < length h.rest) × IsTrue b = subst (λ (x : Bool). elim x as (λ _. Type 0) [ false ↦ h.rest ≡ take o.len o.waiting | true ↦ (0 < length h.rest) × IsTrue b ]) e h.left in
    record {
      sent = h.sent;
      rest = h.rest ++ xs;
      in_sink = h.in_sink;
      all = ap (λ z. z ++ xs) h.all ∙ append_assoc h.sent h.rest xs;
      count = h.count;
      left = subst (λ (x : Bool). elim x as (λ _. Type 0) [ false ↦ h.rest ++ xs ≡ take o.len o.waiting | true ↦ (0 < length (h.rest ++ xs)) × IsTrue b ]) (sym e) (omega (arith, left.0, length-append h.rest xs), left.1);
    }

-- what waits, where the sink is whole
waits : (start : Option (List ℕ)) (put : List ℕ) (reported : Option (List ℕ)) (b : Bool) (o : TextSink) (h : Stands start put (sending reported b o)) → o.broken ≡ false → h.rest ≡ take o.len o.waiting
waits start put reported b o h e = subst (λ (x : Bool). elim x as (λ _. Type 0) [ false ↦ h.rest ≡ take o.len o.waiting | true ↦ (0 < length h.rest) × IsTrue b ]) e h.left

-- a front of what waits and of what comes is sent, where nothing else waits then
pub sent_all : (xs : List ℕ) (reported reported' : Option (List ℕ)) (b b' : Bool) (o o' : TextSink) → o.broken ≡ false → o'.broken ≡ false → Appends reported reported' (take o.len o.waiting ++ xs)
    → o'.written ≡ counted (o.written + length (take o.len o.waiting ++ xs)) → o'.len ≡ 0 → Adds xs (sending reported b o) (sending reported' b' o')
unfolding Adds
sent_all xs reported reported' b b' o o' whole whole' put count empty = λ start given h.
    let w = take o.len o.waiting in
    let left = waits start given reported b o h whole in
    record {
      sent = h.sent ++ (w ++ xs);
      rest = [];
      in_sink = Appends-trans start reported reported' h.sent (w ++ xs) h.in_sink put;
      all = ap (λ z. z ++ xs) (h.all ∙ ap (λ r. h.sent ++ r) left) ∙ append_assoc h.sent w xs ∙ sym (append-nil (h.sent ++ (w ++ xs)));
      count = count ∙ counted_then (length h.sent) (length (w ++ xs)) o.written h.count ∙ ap counted (sym (length-append h.sent (w ++ xs)));
      left = subst (λ (x : Bool). elim x as (λ _. Type 0) [ false ↦ [] ≡ take o'.len o'.waiting | true ↦ (0 < 0) × IsTrue b' ]) (sym whole') (sym (ap (λ (n : ℕ). take n o'.waiting) empty));
    }

-- where the sink broke after n of these
pub sent_some : (xs : List ℕ) (reported reported' : Option (List ℕ)) (b b' : Bool) (o o' : TextSink) (n : ℕ) → o.broken ≡ false → o'.broken ≡ true → Appends reported reported' (take n (take o.len o.waiting ++ xs))
    → n < length (take o.len o.waiting ++ xs) → o'.written ≡ counted (o.written + n) → IsTrue b' → Adds xs (sending reported b o) (sending reported' b' o')
unfolding Adds
sent_some xs reported reported' b b' o o' n whole broke put fewer count is_broken = λ start given h.
    let all = take o.len o.waiting ++ xs in
    let left = waits start given reported b o h whole in
    let size : length (take n all) ≡ n = omega (arith, fewer, length-take n all) in
    let rest : 0 < length (drop n all) = omega (arith, fewer, size, ap length (take-append-drop n all), length-append (take n all) (drop n all)) in
    record {
      sent = h.sent ++ take n all;
      rest = drop n all;
      in_sink = Appends-trans start reported reported' h.sent (take n all) h.in_sink put;
      all = ap (λ z. z ++ xs) (h.all ∙ ap (λ r. h.sent ++ r) left) ∙ append_assoc h.sent (take o.len o.waiting) xs ∙ ap (λ z. h.sent ++ z) (sym (take-append-drop n all))
          ∙ sym (append_assoc h.sent (take n all) (drop n all));
      count = count ∙ ap (λ (k : ℕ). counted (o.written + k)) (sym size) ∙ counted_then (length h.sent) (length (take n all)) o.written h.count ∙ ap counted (sym (length-append h.sent (take n all)));
      left = subst (λ (x : Bool). elim x as (λ _. Type 0) [ false ↦ drop n all ≡ take o'.len o'.waiting | true ↦ (0 < length (drop n all)) × IsTrue b' ]) (sym broke) (rest, is_broken);
    }

left_more : (xs rest : List ℕ) (b : Bool) (o o' : TextSink) (x : Bool) → take o'.len o'.waiting ≡ take o.len o.waiting ++ xs
    → (elim x as (λ _. Type 0) [ false ↦ rest ≡ take o.len o.waiting | true ↦ (0 < length rest) × IsTrue b ]) → (elim x as (λ _. Type 0) [ false ↦ rest ++ xs ≡ take o'.len o'.waiting | true ↦ (0 < length (rest ++ xs)) × IsTrue b ])
left_more xs rest b o o' false w left = ap (λ z. z ++ xs) left ∙ sym w
left_more xs rest b o o' true w left = (omega (arith, left.0, length-append rest xs), left.1)

-- the octets wait after those that did, unless the sink broke
pub kept : (xs : List ℕ) (reported : Option (List ℕ)) (b : Bool) (o o' : TextSink) → o'.broken ≡ o.broken → take o'.len o'.waiting ≡ take o.len o.waiting ++ xs → o'.written ≡ o.written → Adds xs (sending reported b o) (sending reported b o')
unfolding Adds
kept xs reported b o o' same w e = λ start given h. record {
  sent = h.sent;
  rest = h.rest ++ xs;
  in_sink = h.in_sink;
  all = ap (λ z. z ++ xs) h.all ∙ append_assoc h.sent h.rest xs;
  count = e ∙ h.count;
  left = subst (λ (x : Bool). elim x as (λ _. Type 0) [ false ↦ h.rest ++ xs ≡ take o'.len o'.waiting | true ↦ (0 < length (h.rest ++ xs)) × IsTrue b ]) (sym same) (left_more xs h.rest b o o' o.broken w h.left);
}

-- at the end: all is in the sink, or where it broke the first of it, as much as is counted
pub all_sent : (E : List ℕ) (reported reported' : Option (List ℕ)) (b b' : Bool) (o o' : TextSink) → Stands reported [] (sending reported b o) → Adds E (sending reported b o) (sending reported' b' o') → o'.broken ≡ false → o'.len ≡ 0
    → Appends reported reported' E × (o'.written ≡ counted (length E))
unfolding Adds
all_sent E reported reported' b b' o o' h f whole empty =
    let s = f reported [] h in
    let none = waits reported E reported' b' o' s whole ∙ ap (λ (n : ℕ). take n o'.waiting) empty in
    let all : E ≡ s.sent = s.all ∙ ap (λ r. s.sent ++ r) none ∙ append-nil s.sent in
    (subst (Appends reported reported') (sym all) s.in_sink, s.count ∙ ap (λ z. counted (length z)) (sym all))

pub is_broken : (E : List ℕ) (reported reported' : Option (List ℕ)) (b b' : Bool) (o o' : TextSink) → Stands reported [] (sending reported b o) → Adds E (sending reported b o) (sending reported' b' o') → o'.broken ≡ true → IsTrue b'
unfolding Adds
is_broken E reported reported' b b' o o' h f broke =
    let s = f reported [] h in
    (subst (λ (x : Bool). elim x as (λ _. Type 0) [ false ↦ s.rest ≡ take o'.len o'.waiting | true ↦ (0 < length s.rest) × IsTrue b' ]) broke s.left).1

pub some_sent : (E : List ℕ) (reported reported' : Option (List ℕ)) (b b' : Bool) (o o' : TextSink) → Stands reported [] (sending reported b o) → Adds E (sending reported b o) (sending reported' b' o') → o'.broken ≡ true → length E < 2 ^ 62
    → Appends reported reported' (take o'.written E) × (o'.written < length E) × IsTrue b'
unfolding Adds
some_sent E reported reported' b b' o o' h f broke small =
    let s = f reported [] h in
    let left : (0 < length s.rest) × IsTrue b' = subst (λ (x : Bool). elim x as (λ _. Type 0) [ false ↦ s.rest ≡ take o'.len o'.waiting | true ↦ (0 < length s.rest) × IsTrue b' ]) broke s.left in
    let size : length E ≡ length s.sent + length s.rest = ap length s.all ∙ length-append s.sent s.rest in
    let n : o'.written ≡ length s.sent = omega (arith, size, small, s.count) in (
      subst (Appends reported reported') (sym (ap (λ (m : ℕ). take m E) n ∙ ap (take (length s.sent)) s.all ∙ take_at s.sent s.rest (length s.sent) refl)) s.in_sink,
      omega (arith, n, size, left.0),
      left.1,
    )

pub flushed_all : (reported reported' : Option (List ℕ)) (b b' : Bool) (o o' : TextSink) → o.len ≤ length o.waiting → o.broken ≡ false → o'.broken ≡ false → Appends reported reported' (take o.len o.waiting) → o'.written ≡ counted (o.written + o.len) → o'.len ≡ 0
    → Adds [] (sending reported b o) (sending reported' b' o')
flushed_all reported reported' b b' o o' le whole whole' put count empty =
    let all = append-nil (take o.len o.waiting) in
    let size : length (take o.len o.waiting ++ []) ≡ o.len = omega (arith, ap length all, length-take o.len o.waiting, le) in
    sent_all [] reported reported' b b' o o' whole whole' (subst (Appends reported reported') (sym all) put) (count ∙ ap (λ (n : ℕ). counted (o.written + n)) (sym size)) empty

pub flushed_some : (reported reported' : Option (List ℕ)) (b b' : Bool) (o o' : TextSink) (n : ℕ) → o.broken ≡ false → o'.broken ≡ true → Appends reported reported' (take n (take o.len o.waiting)) → n < length (take o.len o.waiting)
    → o'.written ≡ counted (o.written + n) → IsTrue b' → Adds [] (sending reported b o) (sending reported' b' o')
flushed_some reported reported' b b' o o' n whole broke put fewer count is_broken =
    let all = append-nil (take o.len o.waiting) in
    sent_some [] reported reported' b b' o o' n whole broke (subst (λ z. Appends reported reported' (take n z)) (sym all) put) (subst (λ z. n < length z) (sym all) fewer) count is_broken

pub empty_all : (xs : List ℕ) (reported reported' : Option (List ℕ)) (b b' : Bool) (o o' : TextSink) → o.len ≡ 0 → o.broken ≡ false → o'.broken ≡ false → Appends reported reported' xs → o'.written ≡ counted (o.written + length xs) → o'.len ≡ 0
    → Adds xs (sending reported b o) (sending reported' b' o')
empty_all xs reported reported' b b' o o' none whole whole' put count empty =
    let all : take o.len o.waiting ++ xs ≡ xs = ap (λ (n : ℕ). take n o.waiting ++ xs) none in
    sent_all xs reported reported' b b' o o' whole whole' (subst (Appends reported reported') (sym all) put) (count ∙ ap (λ z. counted (o.written + length z)) (sym all)) empty

pub empty_some : (xs : List ℕ) (reported reported' : Option (List ℕ)) (b b' : Bool) (o o' : TextSink) (n : ℕ) → o.len ≡ 0 → o.broken ≡ false → o'.broken ≡ true → Appends reported reported' (take n xs) → n < length xs → o'.written ≡ counted (o.written + n) → IsTrue b'
    → Adds xs (sending reported b o) (sending reported' b' o')
empty_some xs reported reported' b b' o o' n none whole broke put fewer count is_broken =
    let all : take o.len o.waiting ++ xs ≡ xs = ap (λ (k : ℕ). take k o.waiting ++ xs) none in
    sent_some xs reported reported' b b' o o' n whole broke (subst (λ z. Appends reported reported' (take n z)) (sym all) put) (subst (λ z. n < length z) (sym all) fewer) count is_broken

-- a text that no sink broke in is counted
pub measured : (E : List ℕ) (reported reported' : Option (List ℕ)) (b b' : Bool) (o o' : TextSink) → Stands reported [] (sending reported b o) → Adds E (sending reported b o) (sending reported' b' o') → (IsTrue b' → ⊥) → (o'.broken ≡ false → o'.len ≡ 0)
    → o'.written ≡ counted (length E)
measured E reported reported' b b' o o' h f whole empty = go o'.broken refl
  where
    go : (x : Bool) → o'.broken ≡ x → o'.written ≡ counted (length E)
    go false e = (all_sent E reported reported' b b' o o' h f e (empty e)).1
    go true e = absurd (whole (is_broken E reported reported' b b' o o' h f e))

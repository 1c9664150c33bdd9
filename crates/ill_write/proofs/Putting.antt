-- What is put one after another.
use Rattle.std.proofs.Common.{◌≡◌, ℕ, ◌+◌, ◌-◌, ◌^◌, ◌<◌, List, [], ◌++◌, length, take, Option, Result, Ok, Err, refl, sym, ap, subst, ◌∙◌, arith, append_assoc, append-nil, length-append, drop, IsOk, length-take}
use Rattle.ill_write.specs.code.Puts.{Puts, Sends, Stands, Stopped, TakesPart, counted}
use Rattle.std.proofs.lemmas.List.{take-append-drop, take_at}
use Rattle.std.specs.Prelude.{IsErr}
use Rattle.std.specs.Prelude.{MatchResult}
use Rattle.std.specs.Io.KnownBytes.{Appends}
use Rattle.std.proofs.KnownBytes.{Appends-trans}
use Rattle.ber_core.specs.declared.source.Broken.{Broken}
use Rattle.ill_write.specs.declared.buffered_sink.BufferedSink.{BufferedSink}

counted_then : (m n k : ℕ) → k ≡ counted m → counted (k + n) ≡ counted (m + n)
counted_then m n k e = omega arith

-- a first part, and then a second
pub puts_then : (x : Unit {0}) (r : Result (Unit {0}) Broken) (xs ys : List ℕ) (a b c : Option (List ℕ)) (p q s : BufferedSink)
    → Puts (Ok x) xs a p b q → Puts r ys b q c s → Puts r (xs ++ ys) a p c s
unfolding Puts
puts_then x r xs ys a b c p q s f g = λ start given h.
    subst (λ z. MatchResult r (λ _. Stands start z c s) (λ _. Stopped start z c s)) (append_assoc given xs ys) (g start (given ++ xs) (f start given h))

-- a first part that failed
pub puts_failed : (x y : Broken) (xs ys : List ℕ) (a b : Option (List ℕ)) (p q : BufferedSink)
    → Puts (Err x) xs a p b q → Puts (Err y) (xs ++ ys) a p b q
unfolding Puts
puts_failed x y xs ys a b p q f = λ start given h.
    let t = f start given h in
    record {
      sent = t.sent;
      rest = t.rest ++ ys;
      in_sink = t.in_sink;
      begins = sym (append_assoc given xs ys) ∙ ap (λ z. z ++ ys) t.begins ∙ append_assoc t.sent t.rest ys;
      not_all = omega (arith, t.not_all, length-append (given ++ xs) ys, ap length (append_assoc given xs ys));
      count = t.count;
    }

-- nothing more
pub puts_nothing : (x : Unit {0}) (a : Option (List ℕ)) (p : BufferedSink) → Puts (Ok x) [] a p a p
unfolding Puts
puts_nothing x a p = λ start given h. subst (λ z. Stands start z a p) (sym (append-nil given)) h

-- what waits and then the octets are sent
pub sent_all : (start a b : Option (List ℕ)) (given xs : List ℕ) (p q : BufferedSink) → Stands start given a p → p.len ≡ 0 → Appends a b xs → q.written ≡ counted (p.written + length xs) → q.len ≡ 0
    → Stands start (given ++ xs) b q
sent_all start a b given xs p q h e k w f = record {
  sent = h.sent ++ xs;
  in_sink = Appends-trans start a b h.sent xs h.in_sink k;
  all = ap (λ z. z ++ xs) (h.all ∙ ap (λ (n : ℕ). h.sent ++ take n p.waiting) e ∙ append-nil h.sent) ∙ sym (append-nil (h.sent ++ xs)) ∙ ap (λ (n : ℕ). (h.sent ++ xs) ++ take n q.waiting) (sym f);
  count = w ∙ counted_then (length h.sent) (length xs) p.written h.count ∙ ap counted (sym (length-append h.sent xs));
}

longer : (given more front part all : List ℕ) → given ≡ front ++ all → length part < length all → length (front ++ part) < length (given ++ more)
longer given more front part all e lt = omega (arith, lt, ap length e, length-append front all, length-append front part, length-append given more)

-- what waited was sent, or the first of it
pub flushed : (r : Result (Unit {0}) Broken) (a b : Option (List ℕ)) (p q : BufferedSink) → Sends r (take p.len p.waiting) a p.written b q.written → (IsOk r → q.len ≡ 0) → Puts r [] a p b q
unfolding Puts
flushed (Ok x) a b p q s e = λ start given h. record {
  sent = given;
  in_sink = subst (λ z. Appends start b z) (sym h.all) (Appends-trans start a b h.sent _ h.in_sink s.0);
  all = ap (λ z. given ++ z) (sym (ap (λ (n : ℕ). take n q.waiting) (e refl)));
  count = s.1 ∙ counted_then (length h.sent) (length (take p.len p.waiting)) p.written h.count ∙ ap counted (sym (length-append h.sent _)) ∙ ap (λ z. counted (length z)) (sym h.all);
}
flushed (Err x) a b p q s e = λ start given h. record {
  sent = h.sent ++ s.sent;
  rest = s.rest;
  in_sink = Appends-trans start a b h.sent s.sent h.in_sink s.in_sink;
  begins = append-nil given ∙ h.all ∙ ap (λ z. h.sent ++ z) s.begins ∙ sym (append_assoc h.sent s.sent s.rest);
  not_all = longer given [] h.sent s.sent (take p.len p.waiting) h.all s.not_all;
  count = s.count ∙ counted_then (length h.sent) (length s.sent) p.written h.count ∙ ap counted (sym (length-append h.sent s.sent));
}

-- with nothing that waits the octets were sent, or the first of them
pub sent_on : (r : Result (Unit {0}) Broken) (xs : List ℕ) (a b : Option (List ℕ)) (p q : BufferedSink) → p.len ≡ 0 → Sends r xs a p.written b q.written → q.len ≡ 0 → Puts r xs a p b q
unfolding Puts
sent_on (Ok x) xs a b p q e s f = λ start given h. sent_all start a b given xs p q h e s.0 s.1 f
sent_on (Err x) xs a b p q e s f = λ start given h.
    let all : given ≡ h.sent = h.all ∙ ap (λ (n : ℕ). h.sent ++ take n p.waiting) e ∙ append-nil h.sent in
    record {
      sent = h.sent ++ s.sent;
      rest = s.rest;
      in_sink = Appends-trans start a b h.sent s.sent h.in_sink s.in_sink;
      begins = ap (λ z. z ++ xs) all ∙ ap (λ z. h.sent ++ z) s.begins ∙ sym (append_assoc h.sent s.sent s.rest);
      not_all = omega (arith, s.not_all, ap length all, length-append given xs, length-append h.sent s.sent);
      count = s.count ∙ counted_then (length h.sent) (length s.sent) p.written h.count ∙ ap counted (sym (length-append h.sent s.sent));
    }

-- the octets wait after those that did
pub kept : (x : Unit {0}) (xs : List ℕ) (a : Option (List ℕ)) (p q : BufferedSink) → take q.len q.waiting ≡ take p.len p.waiting ++ xs → q.written ≡ p.written → Puts (Ok x) xs a p a q
unfolding Puts
kept x xs a p q w e = λ start given h. record {
  sent = h.sent;
  in_sink = h.in_sink;
  all = ap (λ z. z ++ xs) h.all ∙ append_assoc h.sent _ xs ∙ ap (λ z. h.sent ++ z) (sym w);
  count = e ∙ h.count;
}

-- where the sink broke after n octets
pub takes_part : (before after : Option (List ℕ)) (xs : List ℕ) (at old new : ℕ) → at < length xs → Appends before after (take at xs) → new ≡ counted (old + at)
    → TakesPart xs before old after new
takes_part before after xs at old new le h e =
    let l : length (take at xs) ≡ at = omega (arith, length-take at xs, le) in
    record {
      sent = take at xs;
      rest = drop at xs;
      in_sink = h;
      begins = sym (take-append-drop at xs);
      not_all = omega (arith, l, le);
      count = e ∙ ap (λ (n : ℕ). counted (old + n)) (sym l);
    }

-- which failure it was
pub as_failed : (r : Result (Unit {0}) Broken) (x : Broken) (xs : List ℕ) (a b : Option (List ℕ)) (p q : BufferedSink) → IsErr r → Puts (Err x) xs a p b q → Puts r xs a p b q
unfolding Puts
as_failed (Ok y) x xs a b p q f h = absurd cc
as_failed (Err y) x xs a b p q f h = h

-- a step that puts nothing comes before
pub puts_after : (r : Result (Unit {0}) Broken) (xs : List ℕ) (a b : Option (List ℕ)) (p o q : BufferedSink) → ((reported start : Option (List ℕ)) (given : List ℕ) → Stands start given reported p → Stands start given reported o)
    → Puts r xs a o b q → Puts r xs a p b q
unfolding Puts
puts_after r xs a b p o q f h = λ start given k. h start given (f a start given k)

-- what is in the sink where nothing waits
pub all_in : (E : List ℕ) (a b : Option (List ℕ)) (p q : BufferedSink) → Stands a [] a p → Puts (Ok tt) E a p b q → q.len ≡ 0 → Appends a b E
unfolding Puts
all_in E a b p q h f e =
    let s = f a [] h in
    subst (λ z. Appends a b z) (sym (s.all ∙ ap (λ (n : ℕ). s.sent ++ take n q.waiting) e ∙ append-nil s.sent)) s.in_sink

-- what is in the sink where it broke
pub first_in : (x : Broken) (E : List ℕ) (a b : Option (List ℕ)) (p q : BufferedSink) → Stands a [] a p → Puts (Err x) E a p b q → length E < 2 ^ 32
    → Appends a b (take q.written E) × (q.written < length E)
unfolding Puts
first_in x E a b p q h f le =
    let s = f a [] h in
    let n : q.written ≡ length s.sent = omega (arith, ap length s.begins, le, s.count, length-append s.sent s.rest) in (
      subst (λ z. Appends a b z) (sym (ap (λ (m : ℕ). take m E) n ∙ ap (take (length s.sent)) s.begins ∙ take_at s.sent s.rest (length s.sent) refl)) s.in_sink,
      omega (arith, n, s.not_all),
    )

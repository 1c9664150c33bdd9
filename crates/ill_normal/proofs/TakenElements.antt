-- Octets of an element that are taken, fed to a framer and recorded.
use Rattle.std.proofs.Common.{◌≡◌, ℕ, zero, suc, ◌+◌, ◌-◌, ◌<◌, ◌≤◌, false, List, [], ◌∷◌, ◌++◌, length, take, drop, Option, Some, refl, sym, ap, ap₂, subst, ◌∙◌, arith, inl, inr, append_assoc, append-nil, length-append, lit≤}
use Rattle.std.specs.Prelude.{MatchOption}
use Rattle.std.proofs.lemmas.Bool.{cases_lt}
use Rattle.std.proofs.lemmas.List.{length-take, length-take-le, take-take, take_all, take-append-le, take-append-drop}
use Rattle.std.proofs.Math.Seq.{take-append-add}
use Rattle.std.specs.Io.KnownBytes.{Consumes, Keeps, IsAtEnd}
use Rattle.std.proofs.KnownBytes.{Consumes-nil, Consumes-trans, Consumes-kept}
use Rattle.ber_tree.specs.Length.{short}
use Rattle.ber_tree.specs.Tree.{depth}
use Rattle.ill_schema.specs.Profiles.{profile_of}
use Rattle.ill_tables.specs.declared.profile.Profile.{Profile as Named}
use Rattle.ber_framing.specs.declared.framer.Framing.{Framing}
use Rattle.ber_framing.specs.declared.framer.Framing.TheVariants as framed
use Rattle.ber_framing.specs.declared.framer.Framer.{Framer}
use Rattle.ber_framing.specs.Framed.{IsFrame, IsPartOfFrame, IsUnframed, definite, low}
use Rattle.ber_framing.specs.Framer.{IsFed, HasFraming}
use Rattle.ber_framing.proofs.FrameSteps.{front_of}
use Rattle.ber_framing.proofs.Frames.{part_and_whole, tree_framed}
use Rattle.ill_schema.specs.declared.refusal.Refusal.{Refusal}
use Rattle.ill_schema.specs.Apdu.{Apdu, SpellsApdu}
use Rattle.ill_schema.proofs.Streams.{take_front}
use Rattle.ill_refusals.specs.Fault.{fault_of, Refuses}
use Rattle.ill_normal.proofs.FramedRefusals.{frame_not_truncated, truncated_short}
use Rattle.ill_schema.specs.declared.refusal.Cause.{Cause}
use Rattle.ill_refusals.specs.Outcome.{OnlyRefuses}
use Rattle.ill_read.specs.Answers.{IsUnfinishedIn}
use Rattle.ill_normal.specs.Messages.{counted}
use Rattle.ill_normal.proofs.Counted.{counted_left}
use Rattle.ill_normal.specs.Items.{IsCutAtEnd}
use Rattle.ill_normal.specs.Next.{HasNoEnd, IsNextRefused, TakesPart}
use Rattle.ill_normal.specs.code.Taking.{IsFraming, Takes, TakesElement, TakesPartAfter, TakesUnframed, TakesWhereCut, Took, end_of}

-- all octets of a slice of which no fewer leave more to be needed
pub feeds_all : (f : Framer) (b xs : List ℕ) (m need : ℕ) → m ≤ length xs → length xs ≤ need → ((w : List ℕ) → length w < need → IsPartOfFrame (b ++ w))
    → IsFed f (b ++ take m xs) → ((c : List ℕ) → IsFed f c → IsPartOfFrame c → m ≡ length xs) → m ≡ length xs
feeds_all f b xs m need le within any fed all = elim (cases_lt m (length xs)) [
  | inl lt ↦ all (b ++ take m xs) fed (any (take m xs) (omega (arith, length-take-le m xs le, lt, within)))
  | inr ge ↦ omega arith
]

module _ (left left' : Option (List ℕ)) (f f' : Framer) (recorded recorded' : List ℕ) where
  pub takes_seen : (hand : List ℕ) (n : ℕ) → 0 < n → n ≤ length hand → Consumes left left' (take n hand) → ((b : List ℕ) → IsFed f b → IsFed f' (b ++ take n hand))
      → ((b : List ℕ) (k : ℕ) → IsFed f b → k < n → IsPartOfFrame (b ++ take k hand)) → recorded' ≡ recorded ++ take (1_048_576 - length recorded) (take n hand)
      → Takes left left' f f' recorded recorded' n
  takes_seen hand n some le taken fed within keeps =
      let size : length (take n hand) ≡ n = length-take-le n hand le in
      record {
        octets = take n hand;
        size = sym size;
        taken = taken;
        fed = fed;
        within = λ b k h lt. subst (λ w. IsPartOfFrame (b ++ w)) (sym (take-take k n hand (omega (arith, lt, size)))) (within b k h (omega (arith, lt, size)));
        none = λ b z _ _. absurd (omega arith);
        keeps = keeps;
      }

  -- octets that were needed
  pub takes_needed : (xs : List ℕ) (m need : ℕ) → Consumes left left' xs → m ≤ length xs → length xs ≤ need
      → ((b w : List ℕ) → IsFed f b → length w < need → IsPartOfFrame (b ++ w)) → ((b : List ℕ) → IsFed f b → IsFed f' (b ++ take m xs))
      → ((c : List ℕ) → IsFed f' c → IsPartOfFrame c → m ≡ length xs) → (length xs ≡ 0 → IsAtEnd left')
      → recorded' ≡ recorded ++ take (1_048_576 - length recorded) xs → Takes left left' f f' recorded recorded' (length xs)
  takes_needed xs m need taken le most any fed all end keeps = record {
    octets = xs;
    size = refl;
    taken = taken;
    fed = λ b h.
        let all_fed : m ≡ length xs = feeds_all f' b xs m need le most (λ w lt. any b w h lt) (fed b h) all in
        subst (λ w. IsFed f' (b ++ w)) (ap (λ (k : ℕ). take k xs) all_fed ∙ take_all (length xs) xs (omega arith)) (fed b h);
    within = λ b k h lt. any b (take k xs) h (omega (arith, length-take-le k xs (omega (arith, lt)), lt, most));
    none = λ b z _ _. end z;
    keeps = keeps;
  }

  -- nothing is needed
  pub takes_none : Consumes left left' [] → ((b : List ℕ) → IsFed f b → IsFed f' b) → ((b : List ℕ) → IsFed f b → IsPartOfFrame b → IsAtEnd left') → recorded' ≡ recorded
      → Takes left left' f f' recorded recorded' 0
  takes_none taken fed end keeps = record {
    octets = [];
    size = refl;
    taken = taken;
    fed = λ b h. subst (IsFed f') (sym (append-nil b)) (fed b h);
    within = λ b k h lt. absurd (omega (arith, lt));
    none = λ b _ h p. end b h p;
    keeps = keeps ∙ sym (append-nil recorded) ∙ ap (λ z. recorded ++ z) (sym (take_all (1_048_576 - length recorded) [] (omega arith)));
  }

-- a framer that was fed nothing more
pub fed_no_more : (f f' : Framer) (hand : List ℕ) (n : ℕ) → n ≤ 0 → ((b : List ℕ) → IsFed f b → IsFed f' (b ++ take n hand)) → (b : List ℕ) → IsFed f b → IsFed f' b
fed_no_more f f' hand n none fed b h =
    let z : n ≡ 0 = omega arith in
    subst (IsFed f') (ap (λ (k : ℕ). b ++ take k hand) z ∙ append-nil b) (fed b h)

pub framing_none : (left : Option (List ℕ)) (f : Framer) → IsFed f [] → IsFraming left left f [] 0 0
framing_none left f h = record {
  octets = [];
  taken = Consumes-nil left;
  fed = h;
  within = λ n lt. absurd (omega (arith, lt));
  keeps = sym (take_all 1_048_576 [] (omega arith));
  counts = omega arith;
  size_is = refl;
}

-- the first octets of two lists
recorded_more : (m : ℕ) (a b : List ℕ) → take m a ++ take (m - length (take m a)) b ≡ take m (a ++ b)
recorded_more zero a b = refl
recorded_more (suc m) [] b = let e : suc m - 0 ≡ suc m = omega arith in ap (λ (i : ℕ). take i b) e
recorded_more (suc m) (x ∷ a) b =
    let e : suc m - suc (length (take m a)) ≡ m - length (take m a) = omega arith in
    ap (λ z. x ∷ z) (ap (λ (i : ℕ). take m a ++ take i b) e ∙ recorded_more m a b)

-- each front of octets is part of an element
within_more : (a b : List ℕ) → ((n : ℕ) → n < length a → IsPartOfFrame (take n a)) → ((n : ℕ) → n < length b → IsPartOfFrame (a ++ take n b)) → (k : ℕ) → k < length (a ++ b) → IsPartOfFrame (take k (a ++ b))
within_more a b first second k lt = elim (cases_lt k (length a)) [
  | inl less ↦ subst IsPartOfFrame (sym (take-append-le k a b (omega (arith, less)))) (first k less)
  | inr ge ↦
      let more : k - length a < length b = omega (arith, ge, lt, length-append a b) in
      let sum : length a + (k - length a) ≡ k = omega (arith, ge) in
      let e : a ++ take (k - length a) b ≡ take k (a ++ b) = sym (take-append-add a b (k - length a)) ∙ ap (λ (i : ℕ). take i (a ++ b)) sum in
      subst IsPartOfFrame e (second (k - length a) more)
]

module _ (left left' left'' : Option (List ℕ)) (f f' : Framer) (recorded recorded' : List ℕ) (count size n : ℕ) (r : IsFraming left left' f recorded count size) (t : Takes left' left'' f f' recorded recorded' n) where
  within_both : (k : ℕ) → k < length (r.octets ++ t.octets) → IsPartOfFrame (take k (r.octets ++ t.octets))
  within_both k lt = within_more r.octets t.octets r.within (λ n less. t.within r.octets n r.fed less) k lt

  pub framing_more : (least : ℕ) → least ≤ count + n → IsFraming left left'' f' recorded' least (counted (size + n))
  framing_more least le = record {
    octets = r.octets ++ t.octets;
    taken = Consumes-trans left left' left'' r.octets t.octets r.taken t.taken;
    fed = t.fed r.octets r.fed;
    within = within_both;
    keeps = t.keeps ∙ ap (λ z. z ++ take (1_048_576 - length z) t.octets) r.keeps ∙ recorded_more 1_048_576 r.octets t.octets;
    counts = omega (arith, le, r.counts, t.size, length-append r.octets t.octets);
    size_is = ap₂ (λ (a b : ℕ). counted (a + b)) r.size_is t.size ∙ counted_left (length r.octets) (length t.octets) ∙ ap counted (sym (length-append r.octets t.octets));
  }

  -- no octet more was taken
  no_more : (x : List ℕ) → length x ≡ 0 → x ≡ []
  no_more [] z = refl
  no_more (o ∷ x) z = absurd (omega (arith, z))

  pub element_ends : (frame : Framing) → n ≡ 0 → ((b : List ℕ) → IsFed f' b → HasFraming b frame) → TakesElement left left'' recorded' size frame
  unfolding framing_more
  element_ends frame z judged =
      let m = framing_more 0 (omega arith) in
      let none : r.octets ++ t.octets ≡ r.octets = ap (λ w. r.octets ++ w) (no_more t.octets (sym t.size ∙ z)) ∙ append-nil r.octets in
      record {
        octets = m.octets;
        taken = m.taken;
        judged = judged m.octets m.fed;
        within = m.within;
        keeps = m.keeps;
        part = λ p. inl (t.none r.octets z r.fed (subst IsPartOfFrame none p));
        size_is = r.size_is ∙ ap (λ x. counted (length x)) (sym none);
      }

pub element_endless : (left left' : Option (List ℕ)) (f : Framer) (recorded : List ℕ) (count size : ℕ) (frame : Framing) → IsFraming left left' f recorded count size → 18_446_744_073_709_551_615 ≤ count
    → ((b : List ℕ) → IsFed f b → HasFraming b frame) → TakesElement left left' recorded size frame
element_endless left left' f recorded count size frame r le judged = record {
  octets = r.octets;
  taken = r.taken;
  judged = judged r.octets r.fed;
  within = r.within;
  keeps = r.keeps;
  part = λ p. inr (omega (arith, le, r.counts));
  size_is = r.size_is;
}

-- ---- what is taken, as messages

pub spelling_framed : (q : Named) (a : Apdu) (b : List ℕ) → SpellsApdu (profile_of q) a b → IsFrame b
spelling_framed q a b h =
    let e = h.encodes in
    let short : length b ≤ 1_048_576 = e.short in
    let shallow : depth e.tree ≤ 32 = e.shallow in
    tree_framed e.tree 18_446_744_073_709_551_615 b e.spells (omega (arith, short)) (omega (arith, shallow))

-- in part of an element no message ends
no_message : (q : Named) (b : List ℕ) → IsPartOfFrame b → ((n : ℕ) → n < length b → IsPartOfFrame (take n b)) → IsUnfinishedIn (profile_of q) b
no_message q b p within a n h = elim (cases_lt n (length b)) [
  | inl lt ↦ part_and_whole (take n b) (within n lt) (spelling_framed q a (take n b) h.1)
  | inr ge ↦ part_and_whole b p (subst IsFrame (take_all n b ge) (spelling_framed q a (take n b) h.1))
]

pub part_taken : (left left' left'' : Option (List ℕ)) (f : Framer) (recorded : List ℕ) (count size : ℕ) → IsFraming left left' f recorded count size → ((b : List ℕ) → IsFed f b → TakesPartAfter left' left'' b)
    → TakesPart left left''
part_taken left left' left'' f recorded count size r part =
    let more = part r.octets r.fed in
    record {
      octets = r.octets ++ more.0;
      taken = Consumes-trans left left' left'' r.octets more.0 r.taken more.1;
      unfinished = λ q. no_message q (r.octets ++ more.0) more.2 (within_more r.octets more.0 r.within more.3);
    }

none_is_part : IsPartOfFrame []
none_is_part = (1 ∷ 0 ∷ [], (λ e. cc), definite [] (low (λ e. omega arith) (λ e. omega arith) refl) (short (lit≤ tt)) (lit≤ tt) refl)

nothing_recorded : (m : ℕ) (xs : List ℕ) → take (suc m) xs ≡ [] → xs ≡ []
nothing_recorded m [] e = refl
nothing_recorded m (x ∷ xs) e = let f : x ∷ take m xs ≡ [] = e in cc

module _ (left left' : Option (List ℕ)) (recorded : List ℕ) (size : ℕ) (frame : Framing) (t : TakesElement left left' recorded size frame) where
  -- a message at the front of an element is the element
  message_is : (q : Named) (a : Apdu) (m rest : List ℕ) → SpellsApdu (profile_of q) a m → recorded ≡ m ++ rest → t.octets ≡ m
  message_is q a m rest h e =
      let all : t.octets ≡ m ++ (rest ++ drop 1_048_576 t.octets) =
      sym (take-append-drop 1_048_576 t.octets) ∙ ap (λ z. z ++ drop 1_048_576 t.octets) (sym t.keeps ∙ e) ∙ append_assoc m rest (drop 1_048_576 t.octets) in
      let more = rest ++ drop 1_048_576 t.octets in
      elim (cases_lt (length m) (length t.octets)) [
        | inl lt ↦ part_and_whole m (subst IsPartOfFrame (ap (λ z. take (length m) z) all ∙ take_front m more) (t.within (length m) lt)) (spelling_framed q a m h)
        | inr ge ↦ all ∙ ap (λ z. m ++ z) (none_left more (omega (arith, ge, ap length all, length-append m more))) ∙ append-nil m
      ]
    where
      none_left : (x : List ℕ) → length x ≡ 0 → x ≡ []
      none_left [] z = refl
      none_left (o ∷ x) z = absurd (omega (arith, z))

  pub read_next : (q : Named) (a : Apdu) (rest m : List ℕ) → Consumes (Some recorded) (Some rest) m → SpellsApdu (profile_of q) a m → Consumes left left' m
  read_next q a rest m c h = subst (Consumes left left') (message_is q a m rest h c) t.taken

  pub none_next : (rest : List ℕ) → Consumes (Some recorded) (Some rest) [] → IsAtEnd (Some rest) → Consumes left left' [] × IsAtEnd left'
  none_next rest c end =
      let none : t.octets ≡ [] = nothing_recorded 1_048_575 t.octets (sym t.keeps ∙ c ∙ end) in (
        subst (Consumes left left') none t.taken,
        elim (t.part (subst IsPartOfFrame (sym none) none_is_part)) [ inl e ↦ e | inr le ↦ absurd (omega (arith, le, ap length none)) ],
      )

  end_is : (f : Framing) → HasFraming t.octets f → MatchOption (end_of f size) (HasNoEnd t.octets left') (λ n. IsFrame t.octets × (n ≡ counted (length t.octets)))
  end_is framed.Whole j = (j, t.size_is)
  end_is framed.Unframed j = inl (record { front = t.octets; more = []; joined = sym (append-nil t.octets); unframed = j; within = t.within })
  end_is framed.Part j = inr (j, t.part j)

  -- it is refused as ending too early only where the input ends
  cut_at_end : (q : Named) (refusal : Refusal) → (frame ≡ framed.Unframed → ⊥) → Refuses (profile_of q) recorded (fault_of refusal) → IsCutAtEnd refusal left'
  cut_at_end q refusal known h cut = go frame known t.judged
    where
      short : length recorded < 1_048_576
      short = truncated_short (profile_of q) recorded (fault_of refusal) h cut

      all : recorded ≡ t.octets
      all = t.keeps ∙ take_all 1_048_576 t.octets (omega (arith, short, ap length t.keeps, length-take 1_048_576 t.octets))

      go : (f : Framing) → (f ≡ framed.Unframed → ⊥) → HasFraming t.octets f → IsAtEnd left'
      go framed.Whole _ j = absurd (frame_not_truncated (profile_of q) (lit≤ tt) recorded (fault_of refusal) (subst IsFrame (sym all) j) h cut)
      go framed.Unframed n j = absurd (n refl)
      go framed.Part _ j = elim (t.part j) [ inl e ↦ e | inr le ↦ absurd (omega (arith, le, short, ap length all)) ]

  pub refused_next : (q : Named) (refusal : Refusal) (end : Option ℕ) → end ≡ end_of frame size → (frame ≡ framed.Unframed → ⊥) → OnlyRefuses (profile_of q) recorded (fault_of refusal)
      → IsNextRefused (profile_of q) left left' recorded refusal end
  refused_next q refusal end e known h = (
    t.octets,
    t.taken,
    subst (λ z. OnlyRefuses (profile_of q) z (fault_of refusal)) t.keeps h,
    subst (λ (o : Option ℕ). MatchOption o (HasNoEnd t.octets left') (λ n. IsFrame t.octets × (n ≡ counted (length t.octets)))) (sym e) (end_is frame t.judged),
    t.keeps,
    cut_at_end q refusal known h.0,
  )

-- ---- octets whose end can't be known, and then more

pub took_some : (left left' : Option (List ℕ)) (recorded : List ℕ) (size : ℕ) (frame : Framing) → TakesElement left left' recorded size frame → Took left left' recorded size frame
took_some left left' recorded size framed.Whole t = t
took_some left left' recorded size framed.Part t = t
took_some left left' recorded size framed.Unframed t = record {
  octets = t.octets;
  more = [];
  taken = subst (Consumes left left') (sym (append-nil t.octets)) t.taken;
  unframed = t.judged;
  within = t.within;
  keeps = t.keeps ∙ ap (λ z. take 1_048_576 z) (sym (append-nil t.octets));
}

module _ (left left' left'' : Option (List ℕ)) (recorded recorded' : List ℕ) (t : TakesUnframed left left' recorded) where
  pub unframed_more : (x : List ℕ) → Consumes left' left'' x → recorded' ≡ recorded ++ take (1_048_576 - length recorded) x → TakesUnframed left left'' recorded'
  unframed_more x c k = record {
    octets = t.octets;
    more = t.more ++ x;
    taken = subst (Consumes left left'') (append_assoc t.octets t.more x) (Consumes-trans left left' left'' (t.octets ++ t.more) x t.taken c);
    unframed = t.unframed;
    within = t.within;
    keeps = k ∙ ap (λ z. z ++ take (1_048_576 - length z) x) t.keeps ∙ recorded_more 1_048_576 (t.octets ++ t.more) x ∙ ap (λ z. take 1_048_576 z) (append_assoc t.octets t.more x);
  }

  -- the input ends there
  pub unframed_end : recorded' ≡ recorded → Consumes left' left'' [] → TakesUnframed left left'' recorded'
  unframed_end same c = unframed_more [] c (same ∙ sym (append-nil recorded) ∙ ap (λ z. recorded ++ z) (sym (take_all (1_048_576 - length recorded) [] (omega arith))))

-- no message is at the front of octets with which no element begins
pub none_begins : (octets more : List ℕ) → IsUnframed octets → ((n : ℕ) → n < length octets → IsPartOfFrame (take n octets)) → (m rest : List ℕ) → IsFrame m → octets ++ more ≡ m ++ rest → ⊥
none_begins octets more unframed within m rest frame e = elim (cases_lt (length m) (length octets)) [
  | inl less ↦
      let t = front_of m octets rest more (omega (arith, less)) (sym e) in
      part_and_whole m (subst IsPartOfFrame (ap (λ z. take (length m) z) t.1 ∙ take_front m t.0) (within (length m) less)) frame
  | inr ge ↦ let t = front_of octets m more rest ge e in unframed t.0 (subst IsFrame t.1 frame)
]

unframed_unfinished : (q : Named) (octets more : List ℕ) → IsUnframed octets → ((n : ℕ) → n < length octets → IsPartOfFrame (take n octets)) → IsUnfinishedIn (profile_of q) (octets ++ more)
unframed_unfinished q octets more unframed within a n h =
    none_begins octets more unframed within (take n (octets ++ more)) (drop n (octets ++ more)) (spelling_framed q a (take n (octets ++ more)) h.1) (sym (take-append-drop n (octets ++ more)))

pub unframed_broken : (left left' left'' : Option (List ℕ)) (recorded : List ℕ) → TakesUnframed left left' recorded → Keeps left' left'' → TakesPart left left''
unframed_broken left left' left'' recorded t keeps = record {
  octets = t.octets ++ t.more;
  taken = Consumes-kept left left' left'' (t.octets ++ t.more) t.taken keeps;
  unfinished = λ q. unframed_unfinished q t.octets t.more t.unframed t.within;
}

-- where an octet more was taken, fewer are missing to the greatest message
pub fewer_missing : (q : Named) (recorded recorded' : List ℕ) (refusal : Refusal) (octet : ℕ) → Refuses (profile_of q) recorded (fault_of refusal) → refusal.cause ≡ Cause.Truncated
    → recorded' ≡ recorded ++ take (1_048_576 - length recorded) (octet ∷ []) → 1_048_576 - length recorded' < 1_048_576 - length recorded
fewer_missing q recorded recorded' refusal octet h cut k =
    let short : length recorded < 1_048_576 = truncated_short (profile_of q) recorded (fault_of refusal) h cut in
    let one : length (take (1_048_576 - length recorded) (octet ∷ [])) ≡ 1 = ap length (take_all (1_048_576 - length recorded) (octet ∷ []) (omega (arith, short))) in
    omega (arith, short, one, ap length k, length-append recorded (take (1_048_576 - length recorded) (octet ∷ [])))

module _ (left left' : Option (List ℕ)) (recorded : List ℕ) (size : ℕ) where
  -- what the reader made of what was recorded
  pub read_took : (q : Named) (frame : Framing) → Took left left' recorded size frame → (a : Apdu) (rest m : List ℕ) → Consumes (Some recorded) (Some rest) m → SpellsApdu (profile_of q) a m → Consumes left left' m
  read_took q framed.Whole t a rest m c h = read_next left left' recorded size framed.Whole t q a rest m c h
  read_took q framed.Part t a rest m c h = read_next left left' recorded size framed.Part t q a rest m c h
  read_took q framed.Unframed t a rest m c h =
      let all : t.octets ++ t.more ≡ m ++ (rest ++ drop 1_048_576 (t.octets ++ t.more)) =
      sym (take-append-drop 1_048_576 (t.octets ++ t.more)) ∙ ap (λ z. z ++ drop 1_048_576 (t.octets ++ t.more)) (sym t.keeps ∙ c) ∙ append_assoc m rest (drop 1_048_576 (t.octets ++ t.more)) in
      absurd (none_begins t.octets t.more t.unframed t.within m _ (spelling_framed q a m h) all)

  nothing_first : (a b : List ℕ) → a ++ b ≡ [] → a ≡ []
  nothing_first [] b e = refl
  nothing_first (x ∷ a) b e = let f : x ∷ (a ++ b) ≡ [] = e in cc

  pub none_took : (frame : Framing) → Took left left' recorded size frame → (rest : List ℕ) → Consumes (Some recorded) (Some rest) [] → IsAtEnd (Some rest) → Consumes left left' [] × IsAtEnd left'
  none_took framed.Whole t rest c end = none_next left left' recorded size framed.Whole t rest c end
  none_took framed.Part t rest c end = none_next left left' recorded size framed.Part t rest c end
  none_took framed.Unframed t rest c end =
      let none : t.octets ≡ [] = nothing_first t.octets t.more (nothing_recorded 1_048_575 (t.octets ++ t.more) (sym t.keeps ∙ c ∙ end)) in
      absurd (t.unframed none_is_part.0 (subst (λ z. IsFrame (z ++ none_is_part.0)) (sym none) none_is_part.2))

  pub refused_took : (q : Named) (frame : Framing) → Took left left' recorded size frame → (refusal : Refusal) (end : Option ℕ) → end ≡ end_of frame size → (frame ≡ framed.Unframed → IsCutAtEnd refusal left')
      → OnlyRefuses (profile_of q) recorded (fault_of refusal) → IsNextRefused (profile_of q) left left' recorded refusal end
  refused_took q framed.Whole t refusal end e cut h = refused_next left left' recorded size framed.Whole t q refusal end e (λ k. cc) h
  refused_took q framed.Part t refusal end e cut h = refused_next left left' recorded size framed.Part t q refusal end e (λ k. cc) h
  refused_took q framed.Unframed t refusal end e cut h = (
    t.octets ++ t.more,
    t.taken,
    subst (λ z. OnlyRefuses (profile_of q) z (fault_of refusal)) t.keeps h,
    subst (λ (o : Option ℕ). MatchOption o (HasNoEnd (t.octets ++ t.more) left') (λ n. IsFrame (t.octets ++ t.more) × (n ≡ counted (length (t.octets ++ t.more))))) (sym e)
        (inl (record { front = t.octets; more = t.more; joined = refl; unframed = t.unframed; within = t.within })),
    t.keeps,
    cut refl,
  )

-- where no octet more was taken
pub refused_last : (left left' left'' : Option (List ℕ)) (recorded recorded' : List ℕ) (size : ℕ) (q : Named) (frame : Framing) (refusal : Refusal) (end : Option ℕ)
    → Took left left' recorded size frame → TakesWhereCut left' left'' recorded recorded' frame refusal.cause false → end ≡ end_of frame size → OnlyRefuses (profile_of q) recorded (fault_of refusal)
    → IsNextRefused (profile_of q) left left'' recorded' refusal end
refused_last left left' left'' recorded recorded' size q frame refusal end t last e h =
    subst (λ w. IsNextRefused (profile_of q) left left'' w refusal end) (sym last.0) (elim last.1 [
      | inl n ↦ subst (λ l. IsNextRefused (profile_of q) left l recorded refusal end) (sym n.0)
          (refused_took left left' recorded size q frame t refusal end e (λ f c. absurd (n.1 f c)) h)
      | inr n ↦
          let unframed : TakesUnframed left left' recorded = subst (λ f. Took left left' recorded size f) n.0 t in
          refused_took left left'' recorded size q frame
          (subst (λ f. Took left left'' recorded size f) (sym n.0) (unframed_end left left' left'' recorded recorded unframed refl n.1)) refusal end e (λ _ _. n.2) h
    ])

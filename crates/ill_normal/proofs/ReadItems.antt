-- Messages that are read one after another, and written, reported and counted.
use Rattle.std.proofs.Common.{◌≡◌, ◌≢◌, ℕ, ◌+◌, ◌<◌, ◌≤◌, Bool, List, [], ◌∷◌, ◌++◌, length, take, Option, Some, None, IsTrue, refl, sym, ap, ap₂, subst, ◌∙◌, arith, inl, inr, append_assoc, append-nil, length-append}
use Rattle.std.specs.Prelude.{◌⊎◌, MatchOption}
use Rattle.std.proofs.Math.Nat.{min-eq_left}
use Rattle.std.specs.Io.KnownBytes.{Consumes, IsAtEnd}
use Rattle.std.proofs.KnownBytes.{Consumes-nil, Consumes-trans, Consumes-kept, Appends-nil, Appends-trans}
use Rattle.ber_framing.specs.Framed.{IsFrame}
use Rattle.ill_schema.specs.Apdu.{SpellsApdu}
use Rattle.ill_schema.specs.Profiles.{profile_of}
use Rattle.ill_schema.specs.declared.refusal.Refusal.{Refusal}
use Rattle.ill_schema.proofs.Streams.{accepts_some}
use Rattle.ill_tables.specs.declared.profile.Profile.{Profile as Named}
use Rattle.ill_read.specs.Answers.{TakesFront, TakesNoMessageIn}
use Rattle.ill_inputs.specs.InputEnds.{GoesOn}
use Rattle.ill_inputs.specs.declared.run_fault.RunFault.{RunFault}
use Rattle.ill_normal.specs.Counting.{no_counts, with_accepted, with_refused}
use Rattle.ill_normal.specs.Entries.{Entry, accepted, refused, entry_at, AreWritten, Puts}
use Rattle.ill_normal.specs.Items.{Item, good, bad, AreItems, IsRefusedFor, item_octets, position_past, report, reports_from, good_in, Adds, ComesWith}
use Rattle.ill_normal.specs.Messages.{Spelling, counted, first, after, one_if, position}
use Rattle.ill_normal.specs.Next.{HasNoEnd, IsNextRefused, TakesPart}
use Rattle.ill_normal.specs.code.Taking.{IsTakeFault}
use Rattle.ill_normal.specs.Reading.{AreAccepted, EndsFor, GoesPast, IsLast, IsNotPut, IsUnreported, Passes, PutsRefused, ReadsItems, RefusesRest, TakesLast, last_of}
use Rattle.ill_normal.specs.code.Loop.{Streams, HasRead, fault_of, putting_of, reporting_of, stream_end, taking_of, with_last_refused}
use Rattle.ill_normal.specs.declared.counts.Counts.{Counts}
use Rattle.ill_normal.specs.declared.messages.MessagePlace.{MessagePlace}
use Rattle.ill_normal.specs.declared.messages.OnRefusal.{OnRefusal}
use Rattle.ill_normal.specs.declared.messages.Reading.{Reading}
use Rattle.ill_normal.specs.declared.report.RefusalReport.{RefusalReport}
use Rattle.ill_normal.specs.declared.write_items.PutError.{PutError}
use Rattle.ill_normal.specs.Breaking.{BreaksSink}
use Rattle.ill_normal.proofs.Counted.{counted_left, counted_right}

pub adds_none : (r : Option (List RefusalReport)) → Adds r r []
adds_none None = tt
adds_none (Some rs) = sym (append-nil rs)

adds_more : (old new next : Option (List RefusalReport)) (xs ys : List RefusalReport) → Adds old new xs → Adds new next ys → Adds old next (xs ++ ys)
adds_more None new next xs ys h k = tt
adds_more (Some a) None next xs ys h k = absurd h
adds_more (Some a) (Some b) None xs ys h k = absurd k
adds_more (Some a) (Some b) (Some c) xs ys h k = k ∙ ap (λ z. z ++ ys) h ∙ append_assoc a xs ys

-- ---- one message more

past_push : (p : MessagePlace) (items : List Item) (x : Item) → position_past p (items ++ x ∷ []) ≡ after (position_past p items) (length (item_octets x))
past_push p [] x = refl
past_push p (y ∷ items) x = past_push (after p (length (item_octets y))) items x

reports_push : (p : MessagePlace) (items : List Item) (x : Item) → reports_from p (items ++ x ∷ []) ≡ reports_from p items ++ reports_from (position_past p items) (x ∷ [])
reports_push p [] x = refl
reports_push p (good m ∷ items) x = reports_push (after p (length m.octets)) items x
reports_push p (bad octets refusal ∷ items) x =
    ap (λ z. report p refusal (Some (counted (length octets))) ∷ z) (reports_push (after p (length octets)) items x)

good_push : (p : Spelling → Bool) (items : List Item) (x : Item) → good_in p (items ++ x ∷ []) ≡ good_in p items + good_in p (x ∷ [])
good_push p [] x = omega arith
good_push p (good m ∷ items) x = omega (arith, good_push p items x)
good_push p (bad octets refusal ∷ items) x = good_push p items x

written_push : (writes : Entry → ℕ → List ℕ → Type 0) (p : MessagePlace) (items : List Item) (x : Item) (n k : ℕ) (octets o : List ℕ)
    → AreWritten writes p items n octets → writes (entry_at (position_past p items) x) k o → AreWritten writes p (items ++ x ∷ []) (n + k) (octets ++ o)
written_push writes p [] x n k octets o h w =
    (k, 0, o, [], omega (arith, h.0), ap (λ z. z ++ o) h.1 ∙ sym (append-nil o), w, (refl, refl))
written_push writes p (y ∷ items) x n k octets o h w =
    (h.0, h.1 + k, h.2, h.3 ++ o, omega (arith, h.4), ap (λ z. z ++ o) h.5 ∙ append_assoc h.2 h.3 o, h.6, written_push writes (after p (length (item_octets y))) items x h.1 k h.3 o h.7 w)

accepted_push : (items : List Item) (m : Spelling) → AreAccepted items → AreAccepted (items ++ good m ∷ [])
accepted_push [] m h = tt
accepted_push (good x ∷ items) m h = accepted_push items m h
accepted_push (bad octets refusal ∷ items) m h = absurd h

goes_past : (mode : OnRefusal) (items : List Item) (m : Spelling) → GoesPast mode items → GoesPast mode (items ++ good m ∷ [])
goes_past OnRefusal.Stop items m h = accepted_push items m h
goes_past OnRefusal.EndWith items m h = accepted_push items m h
goes_past OnRefusal.GoOn items m h = tt

past_none : (mode : OnRefusal) → GoesPast mode []
past_none OnRefusal.Stop = tt
past_none OnRefusal.EndWith = tt
past_none OnRefusal.GoOn = tt

pub takes_front : (mode : OnRefusal) (left left' : Option (List ℕ)) → TakesFront left left' → TakesLast mode left left'
takes_front OnRefusal.Stop left left' h = h
takes_front OnRefusal.EndWith left left' h = tt
takes_front OnRefusal.GoOn left left' h = tt

pub takes_on : (mode : OnRefusal) (left left' : Option (List ℕ)) → mode ≡ OnRefusal.GoOn → TakesLast mode left left'
takes_on mode left left' e = subst (λ m. TakesLast m left left') (sym e) tt

pub takes_rest : (mode : OnRefusal) (left left' : Option (List ℕ)) → mode ≡ OnRefusal.EndWith → TakesLast mode left left'
takes_rest mode left left' e = subst (λ m. TakesLast m left left') (sym e) tt

-- the work ends with a refused message, and doesn't stop at it
pub ends_with_it : (mode : OnRefusal) → mode ≢ OnRefusal.GoOn → mode ≢ OnRefusal.Stop → mode ≡ OnRefusal.EndWith
ends_with_it OnRefusal.Stop n m = absurd (m refl)
ends_with_it OnRefusal.EndWith n m = refl
ends_with_it OnRefusal.GoOn n m = absurd (n refl)

goes_on : (mode : OnRefusal) (items : List Item) → mode ≡ OnRefusal.GoOn → GoesPast mode items
goes_on mode items e = subst (λ m. GoesPast m items) (sym e) tt

-- a report and the octets that it comes with
pub comes_with : (q : Named) (left left' : Option (List ℕ)) (recorded : List ℕ) (p : MessagePlace) (refusal : Refusal) (end : Option ℕ)
    → IsNextRefused (profile_of q) left left' recorded refusal end → ComesWith (report p refusal end) recorded
comes_with q left left' recorded p refusal end is = record { message = is.0; begins = is.4; profile = q; refused = is.2; counts = counts end is.3 }
  where
    counts : (end : Option ℕ) → MatchOption end (HasNoEnd is.0 left') (λ n. IsFrame is.0 × (n ≡ counted (length is.0))) → MatchOption end (Unit {0}) (λ n. n ≡ counted (length is.0))
    counts None h = tt
    counts (Some n) h = h.1

module _ (q : Named) where
  -- an item that is right for its octets
  abbrev pub Is : Item → List ℕ → Type 0
  Is (good m) b = (m.octets ≡ b) × SpellsApdu (profile_of q) m.apdu m.octets
  Is (bad octets refusal) b = (octets ≡ b) × IsFrame octets × IsRefusedFor (profile_of q) octets refusal

  items_one : (x : Item) (b : List ℕ) → Is x b → AreItems (profile_of q) b (x ∷ []) []
  items_one (good m) b h = ([], sym h.0 ∙ sym (append-nil m.octets), h.1, refl)
  items_one (bad octets refusal) b h = ([], sym h.0 ∙ sym (append-nil octets), h.1, h.2, refl)

  items_more : (s b : List ℕ) (items : List Item) (x : Item) → AreItems (profile_of q) s items [] → Is x b → AreItems (profile_of q) (s ++ b) (items ++ x ∷ []) []
  items_more s b [] x h k = subst (λ z. AreItems (profile_of q) (z ++ b) (x ∷ []) []) (sym h) (items_one x b k)
  items_more s b (good m ∷ items) x h k = (h.0 ++ b, ap (λ z. z ++ b) h.1 ∙ append_assoc m.octets h.0 b, h.2, items_more h.0 b items x h.3 k)
  items_more s b (bad octets refusal ∷ items) x h k =
      (h.0 ++ b, ap (λ z. z ++ b) h.1 ∙ append_assoc octets h.0 b, h.2, h.3, items_more h.0 b items x h.4 k)

  pub spelled_front : (left left' : Option (List ℕ)) (m : Spelling) → SpellsApdu (profile_of q) m.apdu m.octets → Consumes left left' m.octets → TakesFront left left'
  spelled_front left left' m h c = let short : length m.octets ≤ 1_048_576 = h.encodes.short in (m.octets, c, short)

  module _ (reading : Reading) (writes : Entry → ℕ → List ℕ → Type 0) (fails : Entry → PutError → Option (List ℕ) → Option (List ℕ) → Type 0) (is_good : Spelling → Bool) where
    -- nothing was read
    pub has_read_none : (s : Streams) → HasRead reading (profile_of q) writes fails is_good s s no_counts
    has_read_none s = record {
      items = [];
      passes = record {
        octets = [];
        are = refl;
        taken = Consumes-nil s.left;
        output = [];
        written = (refl, refl);
        put = Appends-nil s.held;
        reported = adds_none s.reported;
      };
      past = past_none reading.on_refusal;
      count = refl;
      bad_ones = refl;
      good_are = refl;
      input = refl;
      next = refl;
    }

    module _ (from was now : Streams) (counts : Counts) (r : HasRead reading (profile_of q) writes fails is_good from was counts) where
      -- the place of the next message
      abbrev here : MessagePlace
      here = position (counts.messages + 1) counts.octets

      reported_push : (x : Item) → reports_from first (r.items ++ x ∷ []) ≡ reports_from first r.items ++ reports_from here (x ∷ [])
      reported_push x = reports_push first r.items x ∙ ap (λ (p : MessagePlace). reports_from first r.items ++ reports_from p (x ∷ [])) r.next

      -- the offset after an item whose octets were counted
      offset_more : (x : Item) (b : List ℕ) (n : ℕ) → n ≡ counted (length b) → item_octets x ≡ b
          → (counted (counts.octets + n) ≡ counted (length (r.passes.octets ++ b))) × (position_past first (r.items ++ x ∷ []) ≡ position (counts.messages + 1 + 1) (counted (counts.octets + n)))
      offset_more x b n e f =
          let sum : counted (counts.octets + n) ≡ counted (counts.octets + length b) = ap (λ (k : ℕ). counted (counts.octets + k)) e ∙ counted_right counts.octets (length b) in
          let all : counted (counts.octets + length b) ≡ counted (length (r.passes.octets ++ b)) =
          ap (λ (k : ℕ). counted (k + length b)) r.input ∙ counted_left (length r.passes.octets) (length b) ∙ ap counted (sym (length-append r.passes.octets b)) in
          (sum ∙ all, past_push first r.items x ∙ ap₂ after r.next (ap length f) ∙ ap (position (counts.messages + 1 + 1)) (sym sum))

      passes_more : (x : Item) (b : List ℕ) (k : ℕ) → Is x b → Consumes was.left now.left b → Puts writes (entry_at here x) k was.held now.held
          → Adds was.reported now.reported (reports_from here (x ∷ [])) → Passes (profile_of q) writes from.left now.left from.held now.held (reporting_of from now) (r.items ++ x ∷ []) (counts.written + k)
      passes_more x b k is c w a = record {
        octets = r.passes.octets ++ b;
        are = items_more r.passes.octets b r.items x r.passes.are is;
        taken = Consumes-trans from.left was.left now.left r.passes.octets b r.passes.taken c;
        output = r.passes.output ++ w.0;
        written = written_push writes first r.items x counts.written k r.passes.output w.0 r.passes.written (subst (λ (p : MessagePlace). writes (entry_at p x) k w.0) (sym r.next) w.1);
        put = Appends-trans from.held was.held now.held r.passes.output w.0 r.passes.put w.2;
        reported = subst (Adds from.reported now.reported) (sym (reported_push x)) (adds_more from.reported was.reported now.reported _ _ r.passes.reported a);
      }

      -- a message was written
      pub read_good : (m : Spelling) (k size : ℕ) (is : Bool) → SpellsApdu (profile_of q) m.apdu m.octets → Consumes was.left now.left m.octets → size ≡ length m.octets
          → is ≡ is_good m → Puts writes (accepted here m) k was.held now.held → was.reported ≡ now.reported
          → HasRead reading (profile_of q) writes fails is_good from now (with_accepted size is k counts)
      unfolding passes_more
      read_good m k size is spells c e f w same =
          let x = good m in
          let short : length m.octets ≤ 1_048_576 = spells.encodes.short in
          let more = offset_more x m.octets size (e ∙ sym (min-eq_left (omega (arith, short)))) refl in
          record {
            items = r.items ++ x ∷ [];
            passes = passes_more x m.octets k (refl, spells) c w (subst (λ (z : Option (List RefusalReport)). Adds was.reported z []) same (adds_none was.reported));
            past = goes_past reading.on_refusal r.items m r.past;
            count = omega (arith, r.count, length-append r.items (x ∷ []));
            bad_ones = r.bad_ones ∙ sym (ap length (reported_push x ∙ append-nil (reports_from first r.items)));
            good_are = omega (arith, r.good_are, ap one_if f, good_push is_good r.items x);
            input = more.0;
            next = more.1;
          }

      -- a message was refused, written and reported
      pub read_bad : (b : List ℕ) (refusal : Refusal) (n k : ℕ) → reading.on_refusal ≡ OnRefusal.GoOn → n ≡ counted (length b) → Consumes was.left now.left b
          → IsRefusedFor (profile_of q) b refusal → IsFrame b → Puts writes (refused (report here refusal (Some n)) (take 1_048_576 b)) k was.held now.held
          → Adds was.reported now.reported (report here refusal (Some n) ∷ []) → HasRead reading (profile_of q) writes fails is_good from now (with_refused n k counts)
      unfolding passes_more
      read_bad b refusal n k on e c is frame w a =
          let x = bad b refusal in
          let more = offset_more x b n e refl in
          record {
            items = r.items ++ x ∷ [];
            passes = passes_more x b k (refl, frame, is) c (subst (λ (i : ℕ). Puts writes (refused (report here refusal (Some i)) (take 1_048_576 b)) k was.held now.held) e w)
                (subst (λ (i : ℕ). Adds was.reported now.reported (report here refusal (Some i) ∷ [])) e a);
            past = goes_on reading.on_refusal (r.items ++ x ∷ []) on;
            count = omega (arith, r.count, length-append r.items (x ∷ []));
            bad_ones = omega (arith, r.bad_ones, ap length (reported_push x), length-append (reports_from first r.items) (report here refusal (Some (counted (length b))) ∷ []));
            good_are = omega (arith, r.good_are, good_push is_good r.items x);
            input = more.0;
            next = more.1;
          }

      -- ---- the end of the work

      ends_with : (messages bad_ones : ℕ) (fault : Option RunFault) → messages ≡ counts.messages + last_of fault → bad_ones ≡ counts.refused + last_of fault → TakesLast reading.on_refusal was.left now.left
          → EndsFor (profile_of q) writes fails reading (taking_of was now) (putting_of was now) (reporting_of was now) counts.messages here counts.written fault
          → ReadsItems reading (profile_of q) writes fails is_good (taking_of from now) (putting_of from now) (reporting_of from now)
          (stream_end (record { messages = messages; refused = bad_ones; good = counts.good; octets = counts.octets; written = counts.written }) fault)
      ends_with messages bad_ones fault e f t h = record {
        items = r.items;
        rest = was.left;
        grown = was.held;
        reported = was.reported;
        passes = r.passes;
        past = r.past;
        taken = t;
        messages = omega (arith, e, r.count);
        refused_are = omega (arith, f, r.bad_ones);
        good_are = r.good_are;
        octets = r.input;
        ends = subst (λ (n : ℕ). EndsFor (profile_of q) writes fails reading (taking_of was now) (putting_of was now) (reporting_of was now) n (position_past first r.items) counts.written fault) r.count
            (subst (λ (p : MessagePlace). EndsFor (profile_of q) writes fails reading (taking_of was now) (putting_of was now) (reporting_of was now) counts.messages p counts.written fault) (sym r.next) h);
      }

      -- here, for this reason
      abbrev EndsBy : Option RunFault → Type 0
      EndsBy fault = ReadsItems reading (profile_of q) writes fails is_good (taking_of from now) (putting_of from now) (reporting_of from now) (stream_end counts fault)

      -- the input is at its end, or no other message is asked for
      pub ends_here : counts.messages ≤ 1_000_000 → Consumes was.left now.left [] → IsAtEnd now.left ⊎ (reading.only ≡ Some counts.messages) → was.held ≡ now.held → was.reported ≡ now.reported → EndsBy None
      ends_here few c end still quiet =
          ends_with counts.messages counts.refused None (omega arith) (omega arith) (takes_front reading.on_refusal was.left now.left ([], c, omega arith)) (few, c, end, still, quiet)

      -- memory ran out while a message was read
      pub ends_unread : counts.messages < 1_000_000 → TakesLast reading.on_refusal was.left now.left → was.held ≡ now.held → was.reported ≡ now.reported → EndsBy (Some RunFault.OutOfMemory)
      ends_unread few t still quiet = ends_with counts.messages counts.refused (Some RunFault.OutOfMemory) (omega arith) (omega arith) t (few, inl still, quiet)

      -- the source broke
      pub ends_broken : counts.messages < 1_000_000 → TakesLast reading.on_refusal was.left now.left → IsTrue now.source_broken → TakesNoMessageIn (profile_of q) was.left now.left → was.held ≡ now.held → was.reported ≡ now.reported
          → EndsBy (Some RunFault.ReadFault)
      ends_broken few t broken none still quiet =
          ends_with counts.messages counts.refused (Some RunFault.ReadFault) (omega arith) (omega arith) t (omega (arith, few), broken, (none, λ full. absurd (omega (arith, few, full))), still, quiet)

      -- after the last message that an input may have an octet was taken, or the source broke
      ends_too_many : counts.messages ≡ 1_000_000 → GoesOn was.left now.left now.source_broken RunFault.TooManyMessages → was.held ≡ now.held → was.reported ≡ now.reported → EndsBy (Some RunFault.TooManyMessages)
      ends_too_many full more still quiet =
          ends_with counts.messages counts.refused (Some RunFault.TooManyMessages) (omega arith) (omega arith) (takes_front reading.on_refusal was.left now.left (more.0 ∷ [], more.1, omega arith)) (full, more, still, quiet)

      ends_broken_last : counts.messages ≡ 1_000_000 → GoesOn was.left now.left now.source_broken RunFault.ReadFault → was.held ≡ now.held → was.reported ≡ now.reported → EndsBy (Some RunFault.ReadFault)
      ends_broken_last full more still quiet =
          let none = Consumes-kept was.left was.left now.left [] (Consumes-nil was.left) more.1 in
          ends_with counts.messages counts.refused (Some RunFault.ReadFault) (omega arith) (omega arith) (takes_front reading.on_refusal was.left now.left ([], none, omega arith))
          (omega (arith, full), more.0, (([], none, λ a i h. accepts_some (profile_of q) [] a i refl h), λ _. more.1), still, quiet)

      pub ends_past : (fault : RunFault) → counts.messages ≡ 1_000_000 → GoesOn was.left now.left now.source_broken fault → was.held ≡ now.held → was.reported ≡ now.reported → EndsBy (Some fault)
      ends_past RunFault.TooManyMessages full more still quiet = ends_too_many full more still quiet
      ends_past RunFault.ReadFault full more still quiet = ends_broken_last full more still quiet
      ends_past (RunFault.Refused message refusal) full more still quiet = absurd more
      ends_past (RunFault.RefusedSide side refusal) full more still quiet = absurd more
      ends_past RunFault.OddHex full more still quiet = absurd more
      ends_past (RunFault.BadHex place) full more still quiet = absurd more
      ends_past RunFault.HexTooLong full more still quiet = absurd more
      ends_past RunFault.NotReported full more still quiet = absurd more
      ends_past RunFault.OutOfMemory full more still quiet = absurd more
      ends_past (RunFault.WriteFault n) full more still quiet = absurd more

      -- the next message was not taken
      pub ends_untaken : (fault : RunFault) → IsTakeFault fault → counts.messages < 1_000_000 → TakesLast reading.on_refusal was.left now.left
          → (fault ≡ RunFault.ReadFault → IsTrue now.source_broken × TakesPart was.left now.left) → was.held ≡ now.held → was.reported ≡ now.reported → EndsBy (Some fault)
      ends_untaken RunFault.OutOfMemory fails few t broken still quiet = ends_unread few t still quiet
      ends_untaken RunFault.ReadFault fails few t broken still quiet =
          let b = broken refl in let part = b.1 in ends_broken few t b.0 (part.octets, part.taken, part.unfinished q) still quiet
      ends_untaken RunFault.TooManyMessages fails few t broken still quiet = absurd fails
      ends_untaken (RunFault.Refused message refusal) fails few t broken still quiet = absurd fails
      ends_untaken (RunFault.RefusedSide side refusal) fails few t broken still quiet = absurd fails
      ends_untaken RunFault.OddHex fails few t broken still quiet = absurd fails
      ends_untaken (RunFault.BadHex place) fails few t broken still quiet = absurd fails
      ends_untaken RunFault.HexTooLong fails few t broken still quiet = absurd fails
      ends_untaken RunFault.NotReported fails few t broken still quiet = absurd fails
      ends_untaken (RunFault.WriteFault n) fails few t broken still quiet = absurd fails

      -- the output for the next message was not put whole
      pub ends_unwritten : (error : PutError) → counts.messages < 1_000_000 → TakesLast reading.on_refusal was.left now.left → IsNotPut (profile_of q) writes fails (taking_of was now) (putting_of was now) here error
          → BreaksSink now.sink_broken error → was.reported ≡ now.reported → EndsBy (fault_of counts.written error)
      ends_unwritten PutError.OutOfMemory few t not_put breaks quiet =
          ends_with counts.messages counts.refused (Some RunFault.OutOfMemory) (omega arith) (omega arith) t (few, inr not_put, quiet)
      ends_unwritten (PutError.Broken n) few t not_put breaks quiet =
          ends_with counts.messages counts.refused (Some (RunFault.WriteFault (counts.written + n))) (omega arith) (omega arith) t (few, breaks, (n, not_put, refl), quiet)

      -- a refused message was not reported
      pub ends_unreported : counts.messages < 1_000_000 → reading.on_refusal ≡ OnRefusal.GoOn → IsUnreported (profile_of q) writes fails (taking_of was now) (putting_of was now) (reporting_of was now) here → EndsBy (Some RunFault.NotReported)
      ends_unreported few on h =
          ends_with counts.messages counts.refused (Some RunFault.NotReported) (omega arith) (omega arith) (takes_on reading.on_refusal was.left now.left on) (few, on, h)

      -- the last message is refused
      ends_last : (refusal : Refusal) → counts.messages < 1_000_000 → TakesLast reading.on_refusal was.left now.left
          → IsLast (profile_of q) writes fails reading.on_refusal (taking_of was now) (putting_of was now) (reporting_of was now) here refusal
          → ReadsItems reading (profile_of q) writes fails is_good (taking_of from now) (putting_of from now) (reporting_of from now) (with_last_refused counts refusal)
      ends_last refusal few t h =
          ends_with (counts.messages + 1) (counts.refused + 1) (Some (RunFault.Refused (counts.messages + 1) refusal)) refl refl t (few, refl, h)

      -- the work stops at it
      pub ends_stopping : (refusal : Refusal) → counts.messages < 1_000_000 → reading.on_refusal ≡ OnRefusal.Stop → TakesFront was.left now.left → RefusesRest (profile_of q) was.left refusal → was.held ≡ now.held
          → was.reported ≡ now.reported → ReadsItems reading (profile_of q) writes fails is_good (taking_of from now) (putting_of from now) (reporting_of from now) (with_last_refused counts refusal)
      ends_stopping refusal few stop t rest still quiet =
          ends_last refusal few (takes_front reading.on_refusal was.left now.left t)
          (subst (λ mode. IsLast (profile_of q) writes fails mode (taking_of was now) (putting_of was now) (reporting_of was now) here refusal) (sym stop) (rest, still, quiet))

      -- it was written, and the work ends
      pub ends_writing : (refusal : Refusal) (octets : List ℕ) → counts.messages < 1_000_000 → reading.on_refusal ≡ OnRefusal.EndWith → RefusesRest (profile_of q) was.left refusal
          → PutsRefused (profile_of q) writes fails (putting_of was now) (report here refusal None) octets → was.reported ≡ now.reported
          → ReadsItems reading (profile_of q) writes fails is_good (taking_of from now) (putting_of from now) (reporting_of from now) (with_last_refused counts refusal)
      ends_writing refusal octets few end rest put quiet =
          ends_last refusal few (takes_rest reading.on_refusal was.left now.left end)
          (subst (λ mode. IsLast (profile_of q) writes fails mode (taking_of was now) (putting_of was now) (reporting_of was now) here refusal) (sym end) (rest, (octets, put), quiet))

      -- it was written and reported, and its end is unknown
      pub ends_losing : (refusal : Refusal) (octets : List ℕ) → counts.messages < 1_000_000 → reading.on_refusal ≡ OnRefusal.GoOn → IsNextRefused (profile_of q) was.left now.left octets refusal None
          → PutsRefused (profile_of q) writes fails (putting_of was now) (report here refusal None) octets → Adds was.reported now.reported (report here refusal None ∷ [])
          → ReadsItems reading (profile_of q) writes fails is_good (taking_of from now) (putting_of from now) (reporting_of from now) (with_last_refused counts refusal)
      ends_losing refusal octets few on is put adds =
          ends_last refusal few (takes_on reading.on_refusal was.left now.left on)
          (subst (λ mode. IsLast (profile_of q) writes fails mode (taking_of was now) (putting_of was now) (reporting_of was now) here refusal) (sym on) (octets, is, put, adds))

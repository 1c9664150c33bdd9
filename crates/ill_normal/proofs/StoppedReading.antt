-- What work that stops at a refused message, and writes the text of each other, has read and written.
use Rattle.std.proofs.Common.{◌≡◌, ℕ, suc, ◌+◌, ◌*◌, ◌<◌, ◌≤◌, Bool, true, false, ◌&&◌, List, [], ◌∷◌, ◌++◌, length, take, Option, Some, None, IfSome, IsTrue, refl, sym, ap, ap₂, subst, ◌∙◌, arith, inl, inr, nat_eq, append_assoc, append-nil, length-append}
use Rattle.std.specs.List.{list_all}
use Rattle.std.proofs.Math.Nat.{min-eq_left}
use Rattle.std.proofs.Math.Dec.{eqb-suc-suc}
use Rattle.std.proofs.lemmas.Bool.Decides.{eqb_tells}
use Rattle.std.specs.Io.KnownBytes.{Consumes, Appends, Keeps, IsAtEnd}
use Rattle.std.proofs.KnownBytes.{Consumes-trans, Keeps-refl}
use Rattle.ill_schema.specs.Apdu.{SpellsApdu}
use Rattle.ill_schema.specs.Profiles.{profile_of}
use Rattle.ill_tables.specs.declared.profile.Profile.{Profile as Named}
use Rattle.ber_leaf.specs.Profile.{Profile}
use Rattle.ill_refusals.specs.Fault.{fault_of}
use Rattle.ill_refusals.specs.Outcome.{OnlyRefuses}
use Rattle.ill_read.specs.Answers.{TakesFront}
use Rattle.ill_inputs.specs.declared.run_fault.RunFault.{RunFault}
use Rattle.ill_normal.specs.Calls.{Taking, taking, Putting, putting}
use Rattle.ill_normal.specs.Entries.{accepted, refused, AreWritten, BreaksText, WritesText}
use Rattle.ill_normal.specs.Items.{Item, good, bad, AreItems, good_in, good_ones, position_past, reports_from}
use Rattle.ill_normal.specs.Messages.{Spelling, AreSpelledIn, TakesNoFurtherIn, WritesMessagesIn, after, first, good_of, one_if, output_from, position_after}
use Rattle.ill_normal.specs.Reading.{AreAccepted, IsNotPut, ReadsItems, Reporting}
use Rattle.ill_normal.specs.code.Loop.{stream_end}
use Rattle.ill_normal.specs.declared.counts.Counts.{Counts}
use Rattle.ill_normal.specs.declared.messages.MessagePlace.{MessagePlace}
use Rattle.ill_normal.specs.declared.messages.OnRefusal.{OnRefusal}
use Rattle.ill_normal.specs.declared.messages.StreamEnd.{StreamEnd}
use Rattle.ill_normal.specs.declared.write_items.PutError.{PutError}
use Rattle.ill_normal.proofs.Counted.{one_bound}

-- the input was messages to its end, at most 1,000,000
pub record PassesAll (q : Profile) (text : MessagePlace → Spelling → List ℕ) (is_good : Spelling → Bool) (left left' held held' : Option (List ℕ)) (counts : Counts) : Type 0 where
  pub messages : List Spelling
  pub writes : WritesMessagesIn q text left left' held held' messages
  pub end : IsAtEnd left'
  pub few : length messages ≤ 1_000_000
  pub count : counts.messages ≡ length messages
  pub none : counts.refused ≡ 0
  pub goods : counts.good ≡ good_of is_good messages
  pub octets : counts.octets ≡ length writes.octets

-- of the next message, of which `text` is written, only the first n octets were written
pub record BreaksWithin (q : Profile) (text : Spelling → List ℕ) (source : Taking) (sink : Putting) (n : ℕ) : Type 0 where
  pub message : Spelling
  pub spells : SpellsApdu q message.apdu message.octets
  pub taken : Consumes source.left source.left' message.octets
  pub written : Appends sink.held sink.held' (take n (text message))
  pub fewer : n < length (text message)

-- why no further message was written, after `whole` of them, where `next` is the place of the next one
abbrev pub StopsFor : Profile → (MessagePlace → Spelling → List ℕ) → Taking → Putting → ℕ → MessagePlace → ℕ → RunFault → Type 0
StopsFor q text source sink whole next written (RunFault.Refused message refusal) =
    (whole < 1_000_000) × (message ≡ whole + 1) × IfSome source.left (λ s. (0 < length s) × OnlyRefuses q s (fault_of refusal)) × Keeps sink.held sink.held'
StopsFor q text source sink whole next written RunFault.OutOfMemory = (whole < 1_000_000) × Keeps sink.held sink.held'
StopsFor q text source sink whole next written RunFault.ReadFault =
    (whole ≤ 1_000_000) × IsTrue source.broken × TakesNoFurtherIn q whole source.left source.left' × Keeps sink.held sink.held'
StopsFor q text source sink whole next written (RunFault.WriteFault n) =
    (whole < 1_000_000) × IsTrue sink.broken × ((k : ℕ) × BreaksWithin q (text next) source sink k × (n ≡ written + k))
StopsFor q text source sink whole next written RunFault.TooManyMessages =
    (whole ≡ 1_000_000) × ((octet : ℕ) × Consumes source.left source.left' (octet ∷ [])) × Keeps sink.held sink.held'
StopsFor q text source sink whole next written _ = ⊥

-- the messages before the end, and why there was one; of what follows them no more was taken than a message may have
pub record StopsAfter (q : Profile) (text : MessagePlace → Spelling → List ℕ) (source : Taking) (sink : Putting) (counts : Counts) (fault : RunFault) : Type 0 where
  pub messages : List Spelling
  pub rest : Option (List ℕ)
  pub grown : Option (List ℕ)
  pub writes : WritesMessagesIn q text source.left rest sink.held grown messages
  pub taken : TakesFront rest source.left'
  pub whole : counts.messages ≡ length messages + counts.refused
  pub before : counts.octets ≡ length writes.octets
  pub written : counts.written ≡ length (output_from text first messages)
  pub stops : StopsFor q text (taking rest source.left' source.broken) (putting grown sink.held' sink.broken) (length messages) (position_after first messages) counts.written fault

pub output_push : (text : MessagePlace → Spelling → List ℕ) (p : MessagePlace) (ms : List Spelling) (m : Spelling)
    → output_from text p (ms ++ m ∷ []) ≡ output_from text p ms ++ text (position_after p ms) m
output_push text p [] m = append-nil (text p m)
output_push text p (x ∷ ms) m =
    let next = after p (length x.octets) in
    ap (λ l. text p x ++ l) (output_push text next ms m) ∙ sym (append_assoc (text p x) (output_from text next ms) (text (position_after next ms) m))

good_bound : (p : Spelling → Bool) (ms : List Spelling) → good_of p ms ≤ length ms
good_bound p [] = omega arith
good_bound p (m ∷ ms) = omega (arith, one_bound (p m), good_bound p ms)

all_counted : (b rest : Bool) (g n : ℕ) → g ≤ n → nat_eq g n ≡ rest → nat_eq (one_if b + g) (suc n) ≡ (b && rest)
all_counted true rest g n le e = let more : one_if true + g ≡ suc g = omega arith in ap (λ (k : ℕ). nat_eq k (suc n)) more ∙ eqb-suc-suc g n ∙ e
all_counted false rest g n le e =
    let none : one_if false + g ≡ g = omega arith in
    let fewer : nat_eq g (suc n) ≡ false = elim (eqb_tells g (suc n)) [ inl h ↦ absurd (omega (arith, le, h.1)) | inr h ↦ h.0 ] in
    ap (λ (k : ℕ). nat_eq k (suc n)) none ∙ fewer

-- all are good exactly if as many are as there are messages
pub all_good : (p : Spelling → Bool) (ms : List Spelling) → nat_eq (good_of p ms) (length ms) ≡ list_all p ms
all_good p [] = refl
all_good p (m ∷ ms) = all_counted (p m) (list_all p ms) (good_of p ms) (length ms) (good_bound p ms) (all_good p ms)

pub spelled_front : (q : Named) (b t : List ℕ) (ms : List Spelling) → AreSpelledIn (profile_of q) b ms [] → AreSpelledIn (profile_of q) (b ++ t) ms t
spelled_front q b t [] h = ap (λ l. l ++ t) h
spelled_front q b t (m ∷ ms) h = (h.0 ++ t, ap (λ l. l ++ t) h.1 ∙ append_assoc m.octets h.0 t, h.2, spelled_front q h.0 t ms h.3)

-- ---- items of which none is refused

accepted_written : (text : MessagePlace → Spelling → List ℕ) (p : MessagePlace) (items : List Item) (n : ℕ) (octets : List ℕ) → AreAccepted items → AreWritten (WritesText text) p items n octets
    → (octets ≡ output_from text p (good_ones items)) × (n ≡ length octets)
accepted_written text p [] n octets a h = (h.1, omega (arith, h.0, ap length h.1))
accepted_written text p (good m ∷ items) n octets a h =
    let more = accepted_written text (after p (length m.octets)) items h.1 h.3 a h.7 in (
      h.5 ∙ ap₂ (λ (x y : List ℕ). x ++ y) h.6.0 more.0,
      omega (arith, h.4, h.6.1, more.1, ap length h.5, length-append h.2 h.3),
    )
accepted_written text p (bad given refusal ∷ items) n octets a h = absurd a

accepted_reports : (p : MessagePlace) (items : List Item) → AreAccepted items → length (reports_from p items) ≡ 0
accepted_reports p [] a = refl
accepted_reports p (good m ∷ items) a = accepted_reports (after p (length m.octets)) items a
accepted_reports p (bad octets refusal ∷ items) a = absurd a

accepted_past : (p : MessagePlace) (items : List Item) → AreAccepted items → position_past p items ≡ position_after p (good_ones items)
accepted_past p [] a = refl
accepted_past p (good m ∷ items) a = accepted_past (after p (length m.octets)) items a
accepted_past p (bad octets refusal ∷ items) a = absurd a

accepted_count : (items : List Item) → AreAccepted items → length items ≡ length (good_ones items)
accepted_count [] a = refl
accepted_count (good m ∷ items) a = omega (arith, accepted_count items a)
accepted_count (bad octets refusal ∷ items) a = absurd a

accepted_good : (is_good : Spelling → Bool) (items : List Item) → AreAccepted items → good_in is_good items ≡ good_of is_good (good_ones items)
accepted_good is_good [] a = refl
accepted_good is_good (good m ∷ items) a = omega (arith, accepted_good is_good items a)
accepted_good is_good (bad octets refusal ∷ items) a = absurd a

module _ (q : Named) where
  accepted_spelled : (s rest : List ℕ) (items : List Item) → AreAccepted items → AreItems (profile_of q) s items rest → AreSpelledIn (profile_of q) s (good_ones items) rest
  accepted_spelled s rest [] a h = h
  accepted_spelled s rest (good m ∷ items) a h = (h.0, h.1, h.2, accepted_spelled h.0 rest items a h.3)
  accepted_spelled s rest (bad octets refusal ∷ items) a h = absurd a

  -- so many octets can be counted
  spelled_size : (s : List ℕ) (ms : List Spelling) → AreSpelledIn (profile_of q) s ms [] → length s ≤ length ms * 1_048_576
  spelled_size s [] h = omega (arith, ap length h)
  spelled_size s (m ∷ ms) h =
      let short : length m.octets ≤ 1_048_576 = h.2.encodes.short in
      omega (arith, short, ap length h.1, length-append m.octets h.0, spelled_size h.0 ms h.3)

  module _ (text : MessagePlace → Spelling → List ℕ) (is_good : Spelling → Bool) (source : Taking) (sink : Putting) (reports : Reporting) (counts : Counts) where
    abbrev pub Reads : Bool → Option RunFault → Type 0
    Reads hex fault = ReadsItems (record { hex = hex; on_refusal = OnRefusal.Stop; only = None }) (profile_of q) (WritesText text) (BreaksText text) is_good source sink reports (stream_end counts fault)

    module _ (hex : Bool) (fault : Option RunFault) (h : Reads hex fault) where
      spelled : AreSpelledIn (profile_of q) h.passes.octets (good_ones h.items) []
      spelled = accepted_spelled h.passes.octets [] h.items h.past h.passes.are

      put : (h.passes.output ≡ output_from text first (good_ones h.items)) × (counts.written ≡ length h.passes.output)
      put = accepted_written text first h.items counts.written h.passes.output h.past h.passes.written

      writes : WritesMessagesIn (profile_of q) text source.left h.rest sink.held h.grown (good_ones h.items)
      unfolding spelled put
      writes = record {
        octets = h.passes.octets;
        spelled = spelled;
        taken = h.passes.taken;
        written = subst (Appends sink.held h.grown) put.0 h.passes.put;
      }

      exact : length h.items ≤ 1_000_000 → counts.octets ≡ length h.passes.octets
      exact few =
          let size = spelled_size h.passes.octets (good_ones h.items) spelled in
          h.octets ∙ min-eq_left (omega (arith, size, few, accepted_count h.items h.past))

    -- the input was read to its end
    pub passes : (hex : Bool) → Reads hex None → PassesAll (profile_of q) text is_good source.left source.left' sink.held sink.held' counts
    unfolding writes
    passes hex h =
        let w = writes hex None h in
        let e = h.ends in
        let at_end : IsAtEnd source.left' = elim e.2 [ inl end ↦ end | inr only ↦ absurd (cc) ] in
        record {
          messages = good_ones h.items;
          writes = record {
            octets = w.octets;
            spelled = w.spelled;
            taken = subst (Consumes source.left source.left') (append-nil w.octets) (Consumes-trans source.left h.rest source.left' w.octets [] w.taken e.1);
            written = subst (λ z. Appends sink.held z (output_from text first (good_ones h.items))) e.3 w.written;
          };
          end = at_end;
          few = omega (arith, e.0, accepted_count h.items h.past);
          count = omega (arith, h.messages, accepted_count h.items h.past);
          none = omega (arith, h.refused_are, accepted_reports first h.items h.past);
          goods = h.good_are ∙ accepted_good is_good h.items h.past;
          octets = exact hex None h e.0;
        }

    module _ (hex : Bool) (why : RunFault) (h : Reads hex (Some why)) where
      stopped : length h.items ≤ 1_000_000
          → StopsFor (profile_of q) text (taking h.rest source.left' source.broken) (putting h.grown sink.held' sink.broken) (length h.items) (position_past first h.items) counts.written why
          → StopsAfter (profile_of q) text source sink counts why
      unfolding writes
      stopped few stops = record {
        messages = good_ones h.items;
        rest = h.rest;
        grown = h.grown;
        writes = writes hex (Some why) h;
        taken = h.taken;
        whole = omega (arith, h.messages, h.refused_are, accepted_reports first h.items h.past, accepted_count h.items h.past);
        before = exact hex (Some why) h few;
        written = let p = put hex (Some why) h in omega (arith, p.1, ap length p.0);
        stops = subst (λ (n : ℕ). StopsFor (profile_of q) text (taking h.rest source.left' source.broken) (putting h.grown sink.held' sink.broken) n (position_after first (good_ones h.items)) counts.written why)
            (accepted_count h.items h.past)
            (subst (λ (p : MessagePlace). StopsFor (profile_of q) text (taking h.rest source.left' source.broken) (putting h.grown sink.held' sink.broken) (length h.items) p counts.written why) (accepted_past first h.items h.past) stops);
      }

      -- nothing was written
      kept : h.grown ≡ sink.held' → Keeps h.grown sink.held'
      kept e = subst (Keeps h.grown) e (Keeps-refl h.grown)

      no_memory : IsNotPut (profile_of q) (WritesText text) (BreaksText text) (taking h.rest source.left' source.broken) (putting h.grown sink.held' sink.broken) (position_past first h.items) PutError.OutOfMemory → Keeps h.grown sink.held'
      no_memory (accepted p m, is, fails) = fails
      no_memory (refused r given, is, fails) = absurd fails

      broke : (k : ℕ) → IsNotPut (profile_of q) (WritesText text) (BreaksText text) (taking h.rest source.left' source.broken) (putting h.grown sink.held' sink.broken) (position_past first h.items) (PutError.Broken k)
          → BreaksWithin (profile_of q) (text (position_past first h.items)) (taking h.rest source.left' source.broken) (putting h.grown sink.held' sink.broken) k
      broke k (accepted p m, is, fails) = subst (λ (i : MessagePlace). BreaksWithin (profile_of q) (text i) (taking h.rest source.left' source.broken) (putting h.grown sink.held' sink.broken) k) is.0
          (record { message = m; spells = is.1; taken = is.2; written = fails.0; fewer = fails.1 })
      broke k (refused r given, is, fails) = absurd fails

    -- it was not
    pub stops_after : (hex : Bool) (why : RunFault) → Reads hex (Some why) → StopsAfter (profile_of q) text source sink counts why
    stops_after hex (RunFault.Refused message refusal) h =
        let e = h.ends in stopped hex _ h (omega (arith, e.0)) (e.0, e.1, e.2.0, kept hex _ h e.2.1)
    stops_after hex RunFault.OutOfMemory h =
        let e = h.ends in stopped hex _ h (omega (arith, e.0)) (e.0, elim e.1 [ inl still ↦ kept hex _ h still | inr none ↦ no_memory hex _ h none ])
    stops_after hex RunFault.ReadFault h = let e = h.ends in stopped hex _ h e.0 (e.0, e.1, e.2, kept hex _ h e.3)
    stops_after hex (RunFault.WriteFault n) h =
        let e = h.ends in stopped hex _ h (omega (arith, e.0)) (e.0, e.1, (e.2.0, broke hex _ h e.2.0 e.2.1, e.2.2))
    stops_after hex RunFault.TooManyMessages h = let e = h.ends in stopped hex _ h (omega (arith, e.0)) (e.0, e.1, kept hex _ h e.2)
    stops_after hex RunFault.NotReported h = let e : OnRefusal.Stop ≡ OnRefusal.GoOn = h.ends.1 in absurd (cc)
    stops_after hex (RunFault.RefusedSide side refusal) h = absurd h.ends
    stops_after hex RunFault.OddHex h = absurd h.ends
    stops_after hex (RunFault.BadHex place) h = absurd h.ends
    stops_after hex RunFault.HexTooLong h = absurd h.ends

  module _ (text : MessagePlace → Spelling → List ℕ) (is_good : Spelling → Bool) (source : Taking) (sink : Putting) (reports : Reporting) (hex : Bool) (end : StreamEnd)
      (h : ReadsItems (record { hex = hex; on_refusal = OnRefusal.Stop; only = None }) (profile_of q) (WritesText text) (BreaksText text) is_good source sink reports end) where
    pub passes_at : end.fault ≡ None → PassesAll (profile_of q) text is_good source.left source.left' sink.held sink.held' end.counts
    passes_at e = passes text is_good source sink reports end.counts hex (subst (λ (f : Option RunFault). Reads text is_good source sink reports end.counts hex f) e h)

    pub stops_at : (why : RunFault) → end.fault ≡ Some why → StopsAfter (profile_of q) text source sink end.counts why
    stops_at why e = stops_after text is_good source sink reports end.counts hex why (subst (λ (f : Option RunFault). Reads text is_good source sink reports end.counts hex f) e h)

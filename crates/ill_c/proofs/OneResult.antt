-- What calls leave is one result in each profile.
use Rattle.std.proofs.Common.{◌≡◌, ◌∙◌, ℕ, List, [], ◌++◌, length, take, drop, refl, sym, ap, subst, arith, append-nil}
use Rattle.std.proofs.lemmas.List.{take-append-drop}
use Rattle.ber_leaf.specs.Profile.{Profile}
use Rattle.ill_schema.specs.Apdu.{Apdu, SpellsApdu, Accepts, normal_form_in}
use Rattle.ill_schema.specs.Causes.{cause_number}
use Rattle.ill_schema.specs.declared.refusal.Cause.{Cause}
use Rattle.ill_schema.proofs.Streams.{accepts_once}
use Rattle.ill_refusals.specs.Fault.{Fault}
use Rattle.ill_read.proofs.Accepted.{refuses_whole}
use Rattle.ill_read.specs.Answers.{RefusesWholeIn}
use Rattle.ill_normal.proofs.Canonical.{refuses_once, spells_once}
use Rattle.ill_c.specs.declared.refusal.IllcanonRefusal.{IllcanonRefusal}
use Rattle.ill_c.specs.declared.status.Status.{Status}
use Rattle.ill_c.specs.Calls.{IsMade, WritesIn, ChecksIn, ComparesIn, FindsIn, WritesFrontIn, DumpsIn, Frames, SaysOfCause, Puts}
use Rattle.ill_c.specs.Memory.{Change, Fills, IsTooShort, Reports, IsFlag}
use Rattle.ill_c.specs.OneResult.{WritesOnce, ChecksOnce, ComparesOnce, FindsOnce, WritesFrontOnce, DumpsOnce, FramesOnce, SaysOfCauseOnce, PutsOnce}
use Rattle.ill_c.specs.Refusals.{reported}
use Rattle.ill_c.specs.Status.{ReturnsStatus, status_number}
use Rattle.ill_c.proofs.Framings.{frame_at_front, part_has_no_front}

-- a call whose octets are refused in one way reports that refusal
tells_once : (p : Profile) (s : List ℕ) (refusal : Change IllcanonRefusal) (f : Fault) → Reports (RefusesWholeIn p s) refusal → RefusesWholeIn p s f → refusal.after ≡ reported f
tells_once p s refusal f (g, refuses, e) h = e ∙ ap reported (refuses_once s g f refuses h)

module _ (p : Profile) (make : Apdu → List ℕ) (s : List ℕ) (buffer : Change (List ℕ)) (size : Change ℕ) (refusal : Change IllcanonRefusal) where
  -- what was made is what this APDU makes
  one_made : (octets : List ℕ) (a : Apdu) → IsMade p make s octets → SpellsApdu p a s → octets ≡ make a
  one_made octets a (b, spells, e) h = e ∙ ap make (spells_once b a s spells h)

  wrote : (status : Status) → WritesIn p make s buffer size refusal status → WritesOnce p make s buffer size refusal (status_number status)
  wrote Status.Done ((octets, made, fills), stays) = record {
    room = λ a h le ne. (refl, subst (λ o. Fills o buffer size) (one_made octets a made h) fills);
    no_room = λ a h lt ne. let e = ap length (one_made octets a made h) in absurd (let fits = fills.fits in omega (arith, e, lt, fits));
    refused = λ f h ne. absurd (refuses_whole s f made.0 h made.1);
    buffer_stays = λ ne. absurd (ne refl);
    size_stays = λ ne ne'. absurd (ne refl);
    refusal_stays = λ ne. stays;
  }
  wrote Status.NoRoom ((octets, made, lacks), stays) = record {
    room = λ a h le ne. let e = ap length (one_made octets a made h) in absurd (let short = lacks.short in omega (arith, e, le, short));
    no_room = λ a h lt ne. (refl, subst (λ o. IsTooShort o buffer size) (one_made octets a made h) lacks);
    refused = λ f h ne. absurd (refuses_whole s f made.0 h made.1);
    buffer_stays = λ ne. lacks.kept;
    size_stays = λ ne ne'. absurd (ne' refl);
    refusal_stays = λ ne. stays;
  }
  wrote Status.Refused (reports, stays, size_stays) = record {
    room = λ a h le ne. absurd (refuses_whole s reports.0 a reports.1 h);
    no_room = λ a h lt ne. absurd (refuses_whole s reports.0 a reports.1 h);
    refused = λ f h ne. (refl, tells_once p s refusal f reports h);
    buffer_stays = λ ne. stays;
    size_stays = λ ne ne'. size_stays;
    refusal_stays = λ ne. absurd (ne refl);
  }
  wrote Status.OutOfMemory (stays, size_stays, refusal_stays) = record {
    room = λ a h le ne. absurd (ne refl);
    no_room = λ a h lt ne. absurd (ne refl);
    refused = λ f h ne. absurd (ne refl);
    buffer_stays = λ ne. stays;
    size_stays = λ ne ne'. size_stays;
    refusal_stays = λ ne. refusal_stays;
  }
  wrote Status.SecondRefused h = absurd h
  wrote Status.NeedsMore h = absurd h
  wrote Status.UnknownProfile h = absurd h
  wrote Status.UnknownCause h = absurd h

  pub writes_once : (n : ℕ) → ReturnsStatus n (WritesIn p make s buffer size refusal) → WritesOnce p make s buffer size refusal n
  writes_once n (status, e, h) = subst (WritesOnce p make s buffer size refusal) (sym e) (wrote status h)

module _ (p : Profile) (s : List ℕ) (normal : Change ℕ) (refusal : Change IllcanonRefusal) where
  checked : (status : Status) → ChecksIn p s normal refusal status → ChecksOnce p s normal refusal (status_number status)
  checked Status.Done ((b, spells, flag), stays) = record {
    checked = λ a h ne. (refl, subst (λ x. IsFlag normal.after (s ≡ normal_form_in p x)) (spells_once b a s spells h) flag);
    refused = λ f h ne. absurd (refuses_whole s f b h spells);
    answer_stays = λ ne. absurd (ne refl);
    refusal_stays = λ ne. stays;
  }
  checked Status.Refused (reports, stays) = record {
    checked = λ a h ne. absurd (refuses_whole s reports.0 a reports.1 h);
    refused = λ f h ne. (refl, tells_once p s refusal f reports h);
    answer_stays = λ ne. stays;
    refusal_stays = λ ne. absurd (ne refl);
  }
  checked Status.OutOfMemory (stays, refusal_stays) = record {
    checked = λ a h ne. absurd (ne refl);
    refused = λ f h ne. absurd (ne refl);
    answer_stays = λ ne. stays;
    refusal_stays = λ ne. refusal_stays;
  }
  checked Status.SecondRefused h = absurd h
  checked Status.NeedsMore h = absurd h
  checked Status.NoRoom h = absurd h
  checked Status.UnknownProfile h = absurd h
  checked Status.UnknownCause h = absurd h

  pub checks_once : (n : ℕ) → ReturnsStatus n (ChecksIn p s normal refusal) → ChecksOnce p s normal refusal n
  checks_once n (status, e, h) = subst (ChecksOnce p s normal refusal) (sym e) (checked status h)

module _ (p : Profile) (s t : List ℕ) (same : Change ℕ) (refusal : Change IllcanonRefusal) where
  compared : (status : Status) → ComparesIn p s t same refusal status → ComparesOnce p s t same refusal (status_number status)
  compared Status.Done ((x, y, spells, spells', flag), stays) = record {
    compared = λ a b h k ne. (
      refl,
      subst (λ z. IsFlag same.after (a ≡ z)) (spells_once y b t spells' k)
          (subst (λ z. IsFlag same.after (z ≡ y)) (spells_once x a s spells h) flag),
    );
    first = λ f h ne. absurd (refuses_whole s f x h spells);
    second = λ a f h k ne. absurd (refuses_whole t f y k spells');
    answer_stays = λ ne. absurd (ne refl);
    refusal_stays = λ ne ne'. stays;
  }
  compared Status.Refused ((g, refuses, e), stays) = record {
    compared = λ a b h k ne. absurd (refuses_whole s g a refuses h);
    first = λ f h ne. (refl, e ∙ ap reported (refuses_once s g f refuses h));
    second = λ a f h k ne. absurd (refuses_whole s g a refuses h);
    answer_stays = λ ne. stays;
    refusal_stays = λ ne ne'. absurd (ne refl);
  }
  compared Status.SecondRefused ((g, (spelled, refuses), e), stays) = record {
    compared = λ a b h k ne. absurd (refuses_whole t g b refuses k);
    first = λ f h ne. absurd (refuses_whole s f spelled.0 h spelled.1);
    second = λ a f h k ne. (refl, e ∙ ap reported (refuses_once t g f refuses k));
    answer_stays = λ ne. stays;
    refusal_stays = λ ne ne'. absurd (ne' refl);
  }
  compared Status.OutOfMemory (stays, refusal_stays) = record {
    compared = λ a b h k ne. absurd (ne refl);
    first = λ f h ne. absurd (ne refl);
    second = λ a f h k ne. absurd (ne refl);
    answer_stays = λ ne. stays;
    refusal_stays = λ ne ne'. refusal_stays;
  }
  compared Status.NeedsMore h = absurd h
  compared Status.NoRoom h = absurd h
  compared Status.UnknownProfile h = absurd h
  compared Status.UnknownCause h = absurd h

  pub compares_once : (n : ℕ) → ReturnsStatus n (ComparesIn p s t same refusal) → ComparesOnce p s t same refusal n
  compares_once n (status, e, h) = subst (ComparesOnce p s t same refusal) (sym e) (compared status h)

module _ (p : Profile) (s : List ℕ) (size : Change ℕ) (refusal : Change IllcanonRefusal) where
  found : (status : Status) → FindsIn p s size refusal status → FindsOnce p s size refusal (status_number status)
  found Status.Done ((b, accepts), stays) = record {
    found = λ a m h ne. (refl, (accepts_once p s b a size.after m accepts h).1);
    part = λ h ne. absurd (h.2 b size.after accepts);
    refused = λ f h ends ne. absurd (h.2 b size.after accepts);
    size_stays = λ ne. absurd (ne refl);
    refusal_stays = λ ne. stays;
  }
  found Status.NeedsMore (part, stays, refusal_stays) = record {
    found = λ a m h ne. absurd (part.2 a m h);
    part = λ h ne. refl;
    refused = λ f h ends ne. absurd (ends (ap (λ (g : Fault). g.cause) (part.1 f h.0)));
    size_stays = λ ne. stays;
    refusal_stays = λ ne. refusal_stays;
  }
  found Status.Refused ((g, (refuses, goes_on), e), stays) = record {
    found = λ a m h ne. absurd (refuses.2 a m h);
    part = λ h ne. absurd (goes_on (ap (λ (x : Fault). x.cause) (h.1 g refuses.0)));
    refused = λ f h ends ne. (refl, e ∙ ap reported (h.1 g refuses.0));
    size_stays = λ ne. stays;
    refusal_stays = λ ne. absurd (ne refl);
  }
  found Status.OutOfMemory (stays, refusal_stays) = record {
    found = λ a m h ne. absurd (ne refl);
    part = λ h ne. absurd (ne refl);
    refused = λ f h ends ne. absurd (ne refl);
    size_stays = λ ne. stays;
    refusal_stays = λ ne. refusal_stays;
  }
  found Status.SecondRefused h = absurd h
  found Status.NoRoom h = absurd h
  found Status.UnknownProfile h = absurd h
  found Status.UnknownCause h = absurd h

  pub finds_once : (n : ℕ) → ReturnsStatus n (FindsIn p s size refusal) → FindsOnce p s size refusal n
  finds_once n (status, e, h) = subst (FindsOnce p s size refusal) (sym e) (found status h)

module _ (p : Profile) (s : List ℕ) (read : Change ℕ) (buffer : Change (List ℕ)) (size : Change ℕ) (refusal : Change IllcanonRefusal) where
  -- the message at the front is of one APDU, and of one size
  one_front : (a b : Apdu) (m n : ℕ) → Accepts p s a m → Accepts p s b n → (normal_form_in p a ≡ normal_form_in p b) × (m ≡ n)
  one_front a b m n h k = let same = accepts_once p s a b m n h k in (ap (normal_form_in p) same.0, same.1)

  wrote_front : (status : Status) → WritesFrontIn p s read buffer size refusal status → WritesFrontOnce p s read buffer size refusal (status_number status)
  wrote_front Status.Done ((b, accepts, fills), stays) = record {
    room = λ a m h le ne. let one = one_front b a read.after m accepts h in (refl, one.1, subst (λ o. Fills o buffer size) one.0 fills);
    no_room = λ a m h lt ne.
        let e = ap length (one_front b a read.after m accepts h).0 in absurd (let fits = fills.fits in omega (arith, e, lt, fits));
    part = λ h ne. absurd (h.2 b read.after accepts);
    refused = λ f h ends ne. absurd (h.2 b read.after accepts);
    buffer_stays = λ ne. absurd (ne refl);
    read_stays = λ ne ne'. absurd (ne refl);
    size_stays = λ ne ne'. absurd (ne refl);
    refusal_stays = λ ne. stays;
  }
  wrote_front Status.NoRoom ((b, accepts, lacks), stays) = record {
    room = λ a m h le ne.
        let e = ap length (one_front b a read.after m accepts h).0 in absurd (let short = lacks.short in omega (arith, e, le, short));
    no_room = λ a m h lt ne. let one = one_front b a read.after m accepts h in (refl, one.1, subst (λ o. IsTooShort o buffer size) one.0 lacks);
    part = λ h ne. absurd (h.2 b read.after accepts);
    refused = λ f h ends ne. absurd (h.2 b read.after accepts);
    buffer_stays = λ ne. lacks.kept;
    read_stays = λ ne ne'. absurd (ne' refl);
    size_stays = λ ne ne'. absurd (ne' refl);
    refusal_stays = λ ne. stays;
  }
  wrote_front Status.NeedsMore (part, read_stays, stays, size_stays, refusal_stays) = record {
    room = λ a m h le ne. absurd (part.2 a m h);
    no_room = λ a m h lt ne. absurd (part.2 a m h);
    part = λ h ne. refl;
    refused = λ f h ends ne. absurd (ends (ap (λ (g : Fault). g.cause) (part.1 f h.0)));
    buffer_stays = λ ne. stays;
    read_stays = λ ne ne'. read_stays;
    size_stays = λ ne ne'. size_stays;
    refusal_stays = λ ne. refusal_stays;
  }
  wrote_front Status.Refused ((g, (refuses, goes_on), e), read_stays, stays, size_stays) = record {
    room = λ a m h le ne. absurd (refuses.2 a m h);
    no_room = λ a m h lt ne. absurd (refuses.2 a m h);
    part = λ h ne. absurd (goes_on (ap (λ (x : Fault). x.cause) (h.1 g refuses.0)));
    refused = λ f h ends ne. (refl, e ∙ ap reported (h.1 g refuses.0));
    buffer_stays = λ ne. stays;
    read_stays = λ ne ne'. read_stays;
    size_stays = λ ne ne'. size_stays;
    refusal_stays = λ ne. absurd (ne refl);
  }
  wrote_front Status.OutOfMemory (read_stays, stays, size_stays, refusal_stays) = record {
    room = λ a m h le ne. absurd (ne refl);
    no_room = λ a m h lt ne. absurd (ne refl);
    part = λ h ne. absurd (ne refl);
    refused = λ f h ends ne. absurd (ne refl);
    buffer_stays = λ ne. stays;
    read_stays = λ ne ne'. read_stays;
    size_stays = λ ne ne'. size_stays;
    refusal_stays = λ ne. refusal_stays;
  }
  wrote_front Status.SecondRefused h = absurd h
  wrote_front Status.UnknownProfile h = absurd h
  wrote_front Status.UnknownCause h = absurd h

  pub writes_front_once : (n : ℕ) → ReturnsStatus n (WritesFrontIn p s read buffer size refusal) → WritesFrontOnce p s read buffer size refusal n
  writes_front_once n (status, e, h) = subst (WritesFrontOnce p s read buffer size refusal) (sym e) (wrote_front status h)

module _ (p : Profile) (s : List ℕ) (buffer : Change (List ℕ)) (size : Change ℕ) (refusal : Change IllcanonRefusal) where
  dumped : (status : Status) → DumpsIn p s buffer size refusal status → DumpsOnce p s buffer size refusal (status_number status)
  dumped Status.Done (fills, spelled, stays) = record {
    read = λ a h ne ne'. refl;
    refused = λ f h ne ne'. absurd (refuses_whole s f spelled.0 h spelled.1);
    buffer_stays = λ ne ne'. absurd (ne refl);
    size_stays = λ e. absurd (omega (arith, e));
    refusal_stays = λ ne. stays;
  }
  dumped Status.Refused (fills, reports) = record {
    read = λ a h ne ne'. absurd (refuses_whole s reports.0 a reports.1 h);
    refused = λ f h ne ne'. (refl, tells_once p s refusal f reports h);
    buffer_stays = λ ne ne'. absurd (ne' refl);
    size_stays = λ e. absurd (omega (arith, e));
    refusal_stays = λ ne. absurd (ne refl);
  }
  dumped Status.NoRoom ((text, lacks), stays) = record {
    read = λ a h ne ne'. absurd (ne refl);
    refused = λ f h ne ne'. absurd (ne refl);
    buffer_stays = λ ne ne'. lacks.kept;
    size_stays = λ e. absurd (omega (arith, e));
    refusal_stays = λ ne. stays;
  }
  dumped Status.OutOfMemory (stays, size_stays, refusal_stays) = record {
    read = λ a h ne ne'. absurd (ne' refl);
    refused = λ f h ne ne'. absurd (ne' refl);
    buffer_stays = λ ne ne'. stays;
    size_stays = λ e. size_stays;
    refusal_stays = λ ne. refusal_stays;
  }
  dumped Status.SecondRefused h = absurd h
  dumped Status.NeedsMore h = absurd h
  dumped Status.UnknownProfile h = absurd h
  dumped Status.UnknownCause h = absurd h

  pub dumps_once : (n : ℕ) → ReturnsStatus n (DumpsIn p s buffer size refusal) → DumpsOnce p s buffer size refusal n
  dumps_once n (status, e, h) = subst (DumpsOnce p s buffer size refusal) (sym e) (dumped status h)

module _ (s : List ℕ) (size : Change ℕ) where
  framed_once : (status : Status) → Frames s size status → FramesOnce s size (status_number status)
  framed_once Status.Done (frame, le) = record {
    framed = λ front rest h e. (refl, frame_at_front s front rest size.after le frame h e);
    part = λ h. part_has_no_front s h (take size.after s) (drop size.after s) frame (sym (take-append-drop size.after s));
    unframed = λ h. absurd (h [] (take size.after s) (drop size.after s) (append-nil s ∙ sym (take-append-drop size.after s)) frame);
    size_stays = λ ne. absurd (ne refl);
  }
  framed_once Status.NeedsMore (part, stays) = record {
    framed = λ front rest h e. part_has_no_front s part front rest h e;
    part = λ h. refl;
    unframed = λ h. absurd (h part.0 (s ++ part.0) [] (sym (append-nil (s ++ part.0))) part.2);
    size_stays = λ ne. stays;
  }
  framed_once Status.Refused (never, stays) = record {
    framed = λ front rest h e. absurd (never [] front rest (append-nil s ∙ e) h);
    part = λ h. absurd (never h.0 (s ++ h.0) [] (sym (append-nil (s ++ h.0))) h.2);
    unframed = λ h. refl;
    size_stays = λ ne. stays;
  }
  framed_once Status.SecondRefused h = absurd h
  framed_once Status.NoRoom h = absurd h
  framed_once Status.OutOfMemory h = absurd h
  framed_once Status.UnknownProfile h = absurd h
  framed_once Status.UnknownCause h = absurd h

  pub frames_once : (n : ℕ) → ReturnsStatus n (Frames s size) → FramesOnce s size n
  frames_once n (status, e, h) = subst (FramesOnce s size) (sym e) (framed_once status h)

module _ (say : Cause → List ℕ) (one : (c d : Cause) → cause_number c ≡ cause_number d → say c ≡ say d) (number : ℕ) (buffer : Change (List ℕ)) (size : Change ℕ) where
  cause_said : (status : Status) → SaysOfCause say number buffer size status → SaysOfCauseOnce say number buffer size (status_number status)
  cause_said Status.Done (d, is, fills) = record {
    room = λ c e le. (refl, subst (λ o. Fills o buffer size) (one d c (is ∙ sym e)) fills);
    no_room = λ c e lt.
        let same = ap length (one d c (is ∙ sym e)) in absurd (let fits = fills.fits in omega (arith, same, lt, fits));
    unknown = λ none. absurd (none d is);
    buffer_stays = λ ne. absurd (ne refl);
    size_stays = λ e. absurd (omega (arith, e));
  }
  cause_said Status.NoRoom (d, is, lacks) = record {
    room = λ c e le.
        let same = ap length (one d c (is ∙ sym e)) in absurd (let short = lacks.short in omega (arith, same, le, short));
    no_room = λ c e lt. (refl, subst (λ o. IsTooShort o buffer size) (one d c (is ∙ sym e)) lacks);
    unknown = λ none. absurd (none d is);
    buffer_stays = λ ne. lacks.kept;
    size_stays = λ e. absurd (omega (arith, e));
  }
  cause_said Status.UnknownCause (none, stays, size_stays) = record {
    room = λ c e le. absurd (none c e);
    no_room = λ c e lt. absurd (none c e);
    unknown = λ h. refl;
    buffer_stays = λ ne. stays;
    size_stays = λ e. size_stays;
  }
  cause_said Status.Refused h = absurd h
  cause_said Status.SecondRefused h = absurd h
  cause_said Status.NeedsMore h = absurd h
  cause_said Status.OutOfMemory h = absurd h
  cause_said Status.UnknownProfile h = absurd h

  pub says_of_cause_once : (n : ℕ) → ReturnsStatus n (SaysOfCause say number buffer size) → SaysOfCauseOnce say number buffer size n
  says_of_cause_once n (status, e, h) = subst (SaysOfCauseOnce say number buffer size) (sym e) (cause_said status h)

module _ (octets : List ℕ) (buffer : Change (List ℕ)) (size : Change ℕ) where
  put_once : (status : Status) → Puts octets buffer size status → PutsOnce octets buffer size (status_number status)
  put_once Status.Done fills = record {
    room = λ le. (refl, fills);
    no_room = λ lt. absurd (let fits = fills.fits in omega (arith, lt, fits));
    buffer_stays = λ ne. absurd (ne refl);
  }
  put_once Status.NoRoom lacks = record {
    room = λ le. absurd (let short = lacks.short in omega (arith, le, short));
    no_room = λ lt. (refl, lacks);
    buffer_stays = λ ne. lacks.kept;
  }
  put_once Status.Refused h = absurd h
  put_once Status.SecondRefused h = absurd h
  put_once Status.NeedsMore h = absurd h
  put_once Status.OutOfMemory h = absurd h
  put_once Status.UnknownProfile h = absurd h
  put_once Status.UnknownCause h = absurd h

  pub puts_once : (n : ℕ) → ReturnsStatus n (Puts octets buffer size) → PutsOnce octets buffer size n
  puts_once n (status, e, h) = subst (PutsOnce octets buffer size) (sym e) (put_once status h)

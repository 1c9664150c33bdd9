-- Which result a text or plain octets have.
use Rattle.std.proofs.Common.{◌≡◌, ℕ, ◌+◌, Bool, true, false, List, [], length, Option, Some, None, Result, Ok, Err, IfSome, refl, sym, subst, ◌∙◌, inl, inr}
use Rattle.std.specs.Prelude.{IfOk, IfErr}
use Rattle.ber_leaf.specs.Profile.{Profile}
use Rattle.ill_schema.specs.Profiles.{profile_of}
use Rattle.ill_refusals.specs.Fault.{Fault}
use Rattle.ill_normal.specs.Calls.{taking, putting}
use Rattle.ill_commands.specs.declared.job.Job.{Job}
use Rattle.ill_inputs.specs.declared.verdict.Verdict.{Verdict}
use Rattle.ill_commands.specs.declared.job.JobOptions.{JobOptions}
use Rattle.ill_inputs.specs.declared.run_fault.RunFault.{RunFault}
use Rattle.ill_inputs.specs.Hexadecimal.{hex_octets}
use Rattle.ill_normal.specs.Messages.{AreSpelledIn}
use Rattle.ill_inputs.specs.Inputs.{TextOf, NoHex, FailsText, IsUnread}
use Rattle.ill_commands.specs.Runs.{Done, JobStopsAfter, RunDone, RunFails, IsRefusedMessage, DoesMessages, RefusesFirst, RefusesMore, RefusesText}
use Rattle.ill_inputs.proofs.HexAnswers.{is_fault, not_both, same_err, same_octets, same_ok}
use Rattle.ill_commands.proofs.JobAnswers.{does, refuses, refuses_more}

module _ (work : JobOptions) (held held' : Option (List ℕ)) (x y : Bool) (answer : Result Verdict RunFault) where
  abbrev q : Profile
  q = profile_of work.profile

  -- octets as they are
  pub plain_does : (left left' : Option (List ℕ)) → IfOk answer (Done work left left' held held') → IfErr answer (JobStopsAfter work (taking left left' x) (putting held held' y))
      → IfSome left (λ s. DoesMessages q work.job false s answer)
  plain_does None left' d n = tt
  plain_does (Some s) left' d n = λ octets ms e h le.
      does work s left' held held' x y answer d n ms (subst (λ z. AreSpelledIn q z ms []) (sym (same_ok (Ok s) s octets refl e)) h) le

  pub plain_refuses : (left left' : Option (List ℕ)) → IfOk answer (Done work left left' held held') → IfErr answer (JobStopsAfter work (taking left left' x) (putting held held' y))
      → IfSome left (λ s. RefusesFirst q false s answer)
  plain_refuses None left' d n = tt
  plain_refuses (Some s) left' d n = λ octets rest ms f e h lt some only.
      refuses work s left' held held' x y answer d n rest ms f (subst (λ z. AreSpelledIn q z ms rest) (sym (same_ok (Ok s) s octets refl e)) h) lt some only

  pub plain_more : (left left' : Option (List ℕ)) → IfOk answer (Done work left left' held held') → IfErr answer (JobStopsAfter work (taking left left' x) (putting held held' y))
      → IfSome left (λ s. RefusesMore q false s answer)
  plain_more None left' d n = tt
  plain_more (Some s) left' d n = λ octets rest ms e h many some.
      refuses_more work s left' held held' x y answer d n rest ms (subst (λ z. AreSpelledIn q z ms rest) (sym (same_ok (Ok s) s octets refl e)) h) many some

  pub plain_text : (left : Option (List ℕ)) → IfSome left (λ s. RefusesText false s answer)
  plain_text None = tt
  plain_text (Some s) = λ fault e. absurd (not_both (Ok s) s fault refl e)

  -- the octets of a text
  module _ (octets : List ℕ) (rest : Option (List ℕ)) (d : IfOk answer (Done work (Some octets) rest held held'))
      (n : IfErr answer (JobStopsAfter work (taking (Some octets) rest x) (putting held held' y))) where
    stands : (s : List ℕ) (left' : Option (List ℕ)) → TextOf (Some s) left' octets → hex_octets s ≡ Ok octets
    stands s left' t = same_octets s left' t.text t.taken ∙ t.stands

    pub text_does : (left left' : Option (List ℕ)) → TextOf left left' octets → IfSome left (λ s. DoesMessages q work.job true s answer)
    text_does None left' t = tt
    text_does (Some s) left' t = λ o ms e h le.
        does work octets rest held held' x y answer d n ms (subst (λ z. AreSpelledIn q z ms []) (same_ok (hex_octets s) o octets e (stands s left' t)) h) le

    pub text_refuses : (left left' : Option (List ℕ)) → TextOf left left' octets → IfSome left (λ s. RefusesFirst q true s answer)
    text_refuses None left' t = tt
    text_refuses (Some s) left' t = λ o r ms f e h lt some only.
        refuses work octets rest held held' x y answer d n r ms f (subst (λ z. AreSpelledIn q z ms r) (same_ok (hex_octets s) o octets e (stands s left' t)) h) lt some only

    pub text_more : (left left' : Option (List ℕ)) → TextOf left left' octets → IfSome left (λ s. RefusesMore q true s answer)
    text_more None left' t = tt
    text_more (Some s) left' t = λ o r ms e h many some.
        refuses_more work octets rest held held' x y answer d n r ms (subst (λ z. AreSpelledIn q z ms r) (same_ok (hex_octets s) o octets e (stands s left' t)) h) many some

    pub text_stands : (left left' : Option (List ℕ)) → TextOf left left' octets → IfSome left (λ s. RefusesText true s answer)
    text_stands None left' t = tt
    text_stands (Some s) left' t = λ fault e. absurd (not_both (hex_octets s) octets fault (stands s left' t) e)

refused_or : (n : ℕ) (left left' : Option (List ℕ)) (x : Bool) (e : RunFault) (i : ℕ) (f : Fault) → IsUnread n left left' x e → IsRefusedMessage e i f
refused_or n left left' x RunFault.OutOfMemory i f h = tt
refused_or n left left' x RunFault.ReadFault i f h = tt
refused_or n left left' x (RunFault.Refused message refusal) i f h = absurd h
refused_or n left left' x (RunFault.RefusedSide side refusal) i f h = absurd h
refused_or n left left' x RunFault.OddHex i f h = absurd h
refused_or n left left' x (RunFault.BadHex place) i f h = absurd h
refused_or n left left' x RunFault.HexTooLong i f h = absurd h
refused_or n left left' x RunFault.NotReported i f h = absurd h
refused_or n left left' x RunFault.TooManyMessages i f h = absurd h
refused_or n left left' x (RunFault.WriteFault count) i f h = absurd h

-- a text that was not read, or stands for nothing
module _ (q : Profile) (job : Job) (x : Bool) (e : RunFault) where
  stands_not : (s : List ℕ) (left' : Option (List ℕ)) → NoHex (Some s) left' e → hex_octets s ≡ Err e
  stands_not s left' t = same_octets s left' t.text t.taken ∙ t.stands

  pub unread_does : (left left' : Option (List ℕ)) → FailsText left left' x e → IfSome left (λ s. DoesMessages q job true s (Err e))
  unread_does None left' h = tt
  unread_does (Some s) left' (inl t) = λ o ms k h le. absurd (not_both (hex_octets s) o e k (stands_not s left' t))
  unread_does (Some s) left' (inr u) = λ o ms k h le. is_fault 4_194_305 (Some s) left' x e u

  pub unread_refuses : (left left' : Option (List ℕ)) → FailsText left left' x e → IfSome left (λ s. RefusesFirst q true s (Err e))
  unread_refuses None left' h = tt
  unread_refuses (Some s) left' (inl t) = λ o r ms f k h lt some only. absurd (not_both (hex_octets s) o e k (stands_not s left' t))
  unread_refuses (Some s) left' (inr u) = λ o r ms f k h lt some only. refused_or 4_194_305 (Some s) left' x e (length ms + 1) f u

  pub unread_more : (left left' : Option (List ℕ)) → FailsText left left' x e → IfSome left (λ s. RefusesMore q true s (Err e))
  unread_more None left' h = tt
  unread_more (Some s) left' (inl t) = λ o r ms k h many some. absurd (not_both (hex_octets s) o e k (stands_not s left' t))
  unread_more (Some s) left' (inr u) = λ o r ms k h many some. inr (is_fault 4_194_305 (Some s) left' x e u)

  pub unread_text : (left left' : Option (List ℕ)) → FailsText left left' x e → IfSome left (λ s. RefusesText true s (Err e))
  unread_text None left' h = tt
  unread_text (Some s) left' (inl t) = λ fault k. inl (same_err (hex_octets s) e fault (stands_not s left' t) k)
  unread_text (Some s) left' (inr u) = λ fault k. inr (is_fault 4_194_305 (Some s) left' x e u)

-- octets or a text
module _ (work : JobOptions) (held held' : Option (List ℕ)) (x y : Bool) where
  abbrev Ran : Bool → Option (List ℕ) → Option (List ℕ) → Result Verdict RunFault → Type 0
  Ran hex left left' answer = IfOk answer (RunDone hex work left left' held held') × IfErr answer (RunFails hex work (taking left left' x) (putting held held' y))

  pub run_does : (hex : Bool) (left left' : Option (List ℕ)) (answer : Result Verdict RunFault) → Ran hex left left' answer → IfSome left (λ s. DoesMessages (profile_of work.profile) work.job hex s answer)
  run_does false left left' answer h = plain_does work held held' x y answer left left' h.0 h.1
  run_does true left left' (Ok v) h = let d = h.0 in text_does work held held' false y (Ok v) d.0 (Some d.2.0) d.2.1 tt left left' d.1
  run_does true left left' (Err e) h = elim h.1 [
    | inl n ↦ unread_does (profile_of work.profile) work.job x e left left' n.0
    | inr n ↦ text_does work held held' false y (Err e) n.0 (Some n.2.0) tt n.2.1 left left' n.1
  ]

  pub run_refuses : (hex : Bool) (left left' : Option (List ℕ)) (answer : Result Verdict RunFault) → Ran hex left left' answer → IfSome left (λ s. RefusesFirst (profile_of work.profile) hex s answer)
  run_refuses false left left' answer h = plain_refuses work held held' x y answer left left' h.0 h.1
  run_refuses true left left' (Ok v) h = let d = h.0 in text_refuses work held held' false y (Ok v) d.0 (Some d.2.0) d.2.1 tt left left' d.1
  run_refuses true left left' (Err e) h = elim h.1 [
    | inl n ↦ unread_refuses (profile_of work.profile) work.job x e left left' n.0
    | inr n ↦ text_refuses work held held' false y (Err e) n.0 (Some n.2.0) tt n.2.1 left left' n.1
  ]

  pub run_more : (hex : Bool) (left left' : Option (List ℕ)) (answer : Result Verdict RunFault) → Ran hex left left' answer → IfSome left (λ s. RefusesMore (profile_of work.profile) hex s answer)
  run_more false left left' answer h = plain_more work held held' x y answer left left' h.0 h.1
  run_more true left left' (Ok v) h = let d = h.0 in text_more work held held' false y (Ok v) d.0 (Some d.2.0) d.2.1 tt left left' d.1
  run_more true left left' (Err e) h = elim h.1 [
    | inl n ↦ unread_more (profile_of work.profile) work.job x e left left' n.0
    | inr n ↦ text_more work held held' false y (Err e) n.0 (Some n.2.0) tt n.2.1 left left' n.1
  ]

  pub run_text : (hex : Bool) (left left' : Option (List ℕ)) (answer : Result Verdict RunFault) → Ran hex left left' answer → IfSome left (λ s. RefusesText hex s answer)
  run_text false left left' answer h = plain_text work held held' x y answer left
  run_text true left left' (Ok v) h = let d = h.0 in text_stands work held held' false y (Ok v) d.0 (Some d.2.0) d.2.1 tt left left' d.1
  run_text true left left' (Err e) h = elim h.1 [
    | inl n ↦ unread_text (profile_of work.profile) work.job x e left left' n.0
    | inr n ↦ text_stands work held held' false y (Err e) n.0 (Some n.2.0) tt n.2.1 left left' n.1
  ]

-- A usual message is taken from a source that shows it.
use Rattle.std.proofs.Common.{◌≡◌, ◌∙◌, ℕ, ◌≤◌, ◌<◌, Bool, List, ◌++◌, length, length-take, length-drop, take, drop, Option, Some, None, Ok, Err, IfSome, IsTrue, sym, ap, subst, arith}
use Rattle.std.proofs.lemmas.List.{take-append-drop, take-take, take_min}
use Rattle.std.specs.Io.KnownBytes.{Consumes}
use Rattle.ber_core.specs.Shown.{Drops, DropsFewer}
use Rattle.std.specs.Io.{StartsWith}
use Rattle.ber_leaf.specs.Profile.{Profile}
use Rattle.ill_schema.specs.Apdu.{Apdu, SpellsApdu}
use Rattle.ill_schema.specs.Profiles.{profile_of}
use Rattle.ill_tables.specs.declared.profile.Profile.{Profile as Named}
use Rattle.ill_tables.specs.declared.profile.Profile.TheVariants.{Two, Module}
use Rattle.ill_schema.proofs.OneMeaning.{no_prefix}
use Rattle.ill_read.specs.Answers.{IsUnfinishedIn, ReadsNextIn}
use Rattle.ill_read.specs.code.Usual.{IsNormalFormOf}
use Rattle.ill_read.specs.declared.failure.ReadFailure.{ReadFailure}
use Rattle.ill_read.specs.declared.normal.NormalForm.{NormalForm}

-- the first octets at hand are shown too
pub fewer_shown : (left : Option (List ℕ)) (hand : List ℕ) (n : ℕ) → IfSome left (λ s. StartsWith s hand) → IfSome left (λ s. StartsWith s (take n hand))
fewer_shown None hand n front = tt
fewer_shown (Some s) hand n front =
    let k = length (take n hand) in
    let few : k ≤ length hand = omega (arith, length-take n hand) in
    sym (take-take k (length hand) s few) ∙ ap (take k) front ∙ ap (λ m. take m hand) (length-take n hand) ∙ take_min n hand

-- the first octets at hand were taken
pub front_taken : (left left' : Option (List ℕ)) (hand : List ℕ) (n : ℕ) → IfSome left (λ s. StartsWith s hand) → n ≤ length hand → Drops left left' n → Consumes left left' (take n hand)
front_taken None left' hand n front le drops = tt
front_taken (Some s) left' hand n front le drops = subst (λ x. Consumes (Some s) x (take n hand)) (sym drops)
    (sym (take-append-drop n s) ∙ ap (λ x. x ++ drop n s) (sym (take-take n (length hand) s le) ∙ ap (take n) front))

pub short_enough : (p : Named) (a : Apdu) (b : List ℕ) → SpellsApdu (profile_of p) a b → length b ≤ 1_048_576
short_enough Two a b h = h.encodes.short
short_enough Module a b h = h.encodes.short

-- no message ends in fewer octets than one that begins there has
pub fewer_unfinished : (p : Profile) (hand w : List ℕ) (n m : ℕ) → IsNormalFormOf p w (take n hand) → n ≤ length hand → m < n → IsUnfinishedIn p (take m hand)
fewer_unfinished p hand w n m spelled le lt a k accepts =
    let front : take k (take m hand) ≡ take k (take n hand) =
    take-take k m hand (omega (arith, accepts.0, length-take m hand)) ∙ sym (take-take k n hand (omega (arith, accepts.0, length-take m hand, lt))) in
    let rest = drop k (take n hand) in
    let none = no_prefix p a spelled.0 (take k (take n hand)) rest (subst (SpellsApdu p a) front accepts.1) (subst (SpellsApdu p spelled.0) (sym (take-append-drop k (take n hand))) spelled.1) in
    absurd (omega (arith, ap length none, length-drop k (take n hand), length-take n hand, le, accepts.0, length-take m hand, lt))

module _ {T : Type 0} {p : Profile} (Is : T → List ℕ → Type 0) (left left' : Option (List ℕ)) (broken broken' : Bool) where
  -- it is whole
  pub reads_whole : (x : T) (b : List ℕ) → Consumes left left' b → Is x b → length b ≤ 1_048_576 → (IsTrue broken → IsTrue broken') → ReadsNextIn p left left' broken broken' Is (Ok (Some x))
  reads_whole x b took is short stays = record { message = (b, took, is); none = tt; refused = tt; taken = (b, took, short); fault = tt; stays = stays }

  -- the source broke before
  pub reads_broken : (b : List ℕ) → Consumes left left' b → IsUnfinishedIn p b → length b ≤ 1_048_576 → IsTrue broken' → ReadsNextIn p left left' broken broken' Is (Err ReadFailure.ReadFault)
  reads_broken b took unfinished short breaks = record { message = tt; none = tt; refused = tt; taken = (b, took, short); fault = (breaks, (b, took, unfinished)); stays = λ was. breaks }

-- a usual message was taken from a source that shows these octets, or the source broke before
module _ (p : Named) (Is : NormalForm → List ℕ → Type 0) (left left' : Option (List ℕ)) (broken broken' : Bool) (all : List ℕ) (m n : ℕ) (w : List ℕ) where
  pub usual_read : (x : NormalForm) → IfSome left (λ s. StartsWith s all) → n ≤ length (take m all) → IsNormalFormOf (profile_of p) w (take n (take m all)) → Is x (take n (take m all)) → Drops left left' n → (IsTrue broken → IsTrue broken')
      → ReadsNextIn (profile_of p) left left' broken broken' Is (Ok (Some x))
  usual_read x shown le normal is drops stays =
      let hand = take m all in
      reads_whole Is left left' broken broken' x (take n hand) (front_taken left left' hand n (fewer_shown left all m shown) le drops) is (short_enough p normal.0 (take n hand) normal.1) stays

  pub usual_broken : IfSome left (λ s. StartsWith s all) → n ≤ length (take m all) → IsNormalFormOf (profile_of p) w (take n (take m all)) → DropsFewer left left' n → IsTrue broken' → ReadsNextIn (profile_of p) left left' broken broken' Is (Err ReadFailure.ReadFault)
  usual_broken shown le normal part breaks =
      let hand = take m all in
      let k = part.0 in
      reads_broken Is left left' broken broken' (take k hand) (front_taken left left' hand k (fewer_shown left all m shown) (omega (arith, part.1, le)) part.2)
      (fewer_unfinished (profile_of p) hand w n k normal le part.1) (omega (arith, part.1, length-take k hand, length-take n hand, le, short_enough p normal.0 (take n hand) normal.1)) breaks

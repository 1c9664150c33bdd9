-- What holds of a call that reads the next message holds of a call that is made of it.
use Rattle.ber_leaf.specs.Profile.{Profile}
use Rattle.std.proofs.Common.{ℕ, Bool, List, Option, Some, None, Result, Ok, Err}
use Rattle.ill_read.specs.Answers.{ReadsNextIn}
use Rattle.ill_read.specs.declared.failure.ReadFailure.{ReadFailure}

module _ {T U : Type 0} {p : Profile} (Is : T → List ℕ → Type 0) (Js : U → List ℕ → Type 0) (left left' : Option (List ℕ)) (broken broken' : Bool) where
  -- what is said of the one value is said of the other
  pub reads_as : (x : T) (y : U) → ((b : List ℕ) → Is x b → Js y b) → ReadsNextIn p left left' broken broken' Is (Ok (Some x)) → ReadsNextIn p left left' broken broken' Js (Ok (Some y))
  reads_as x y f h = record { message = (h.message.0, h.message.1, f h.message.0 h.message.2); none = tt; refused = tt; taken = h.taken; fault = tt; stays = h.stays }

  -- memory ran out after the message was read
  pub reads_without_memory : (x : T) → ReadsNextIn p left left' broken broken' Is (Ok (Some x)) → ReadsNextIn p left left' broken broken' Js (Err ReadFailure.OutOfMemory)
  reads_without_memory x h = record { message = tt; none = tt; refused = tt; taken = h.taken; fault = tt; stays = h.stays }

  pub reads_none : ReadsNextIn p left left' broken broken' Is (Ok None) → ReadsNextIn p left left' broken broken' Js (Ok None)
  reads_none h = record { message = tt; none = h.none; refused = tt; taken = h.taken; fault = tt; stays = h.stays }

  pub reads_fails : (e : ReadFailure) → ReadsNextIn p left left' broken broken' Is (Err e) → ReadsNextIn p left left' broken broken' Js (Err e)
  reads_fails e h = record { message = tt; none = tt; refused = h.refused; taken = h.taken; fault = h.fault; stays = h.stays }

-- a call that says more says as much
pub reads_less : {T : Type 0} {p : Profile} (Is Js : T → List ℕ → Type 0) (left left' : Option (List ℕ)) (broken broken' : Bool) (r : Result (Option T) ReadFailure)
    → ((x : T) (b : List ℕ) → Is x b → Js x b) → ReadsNextIn p left left' broken broken' Is r → ReadsNextIn p left left' broken broken' Js r
reads_less Is Js left left' broken broken' (Ok (Some x)) f h = reads_as Is Js left left' broken broken' x x (f x) h
reads_less Is Js left left' broken broken' (Ok None) f h = reads_none Is Js left left' broken broken' h
reads_less Is Js left left' broken broken' (Err e) f h = reads_fails Is Js left left' broken broken' e h

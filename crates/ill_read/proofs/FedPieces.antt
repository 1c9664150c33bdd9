-- What an open decoder makes of a piece that it may take.
use Rattle.std.proofs.Common.{◌≡◌, ◌++◌, ℕ, List, length, take, IsTrue, Result, Ok, Err, refl, sym, subst, arith, length-append}
use Rattle.std.proofs.lemmas.List.{take_all}
use Rattle.ber_tree.specs.Octets.{are_octets}
use Rattle.ber_leaf.specs.Profile.{profile_two}
use Rattle.ill_tables.specs.declared.profile.Profile.TheVariants.{Two}
use Rattle.ill_schema.specs.Apdu.{Apdu, Accepts, SpellsApdu}
use Rattle.ill_schema.specs.Message.{apdu_of, octets_of}
use Rattle.ill_schema.specs.declared.message.Message.{Message}
use Rattle.ber_core.proofs.ReadOctets.{octets_join}
use Rattle.ill_read.specs.Answers.{IsRead, IsSpelled}
use Rattle.ill_read.specs.Feeding.{FeedsTo, IsDone, IsOpenAfter, MayTake}
use Rattle.ill_read.specs.declared.decoder.Decoder.{Decoder}
use Rattle.ill_read.specs.declared.decoder.Progress.{Progress}
use Rattle.ill_read.specs.declared.failure.Failure.{Failure}
use Rattle.ill_read.proofs.NeededOctets.{needed_at_least}

-- A message that a piece of as many octets as are needed ends is all that was fed.
pub spelled_whole : (d : Decoder) (fed piece : List ℕ) (m : Message) → IsOpenAfter d fed → MayTake d piece → IsTrue (are_octets piece) → IsRead (fed ++ piece) m → IsSpelled m (fed ++ piece)
spelled_whole d fed piece m is may ok read =
    let s = fed ++ piece in
    let octets = octets_join fed piece is.1.0.octets ok in
    let least = needed_at_least Two fed may.0 is.1.0.octets (may.1.exact fed is) piece (apdu_of m) (octets_of m) octets read.0 in
    let all : octets_of m ≡ length s = omega (arith, least, may.2, read.0.0, length-append fed piece) in
    let whole : take (octets_of m) s ≡ s = take_all (octets_of m) s (omega (arith, all)) in
    record { spells = subst (SpellsApdu profile_two (apdu_of m)) whole read.0.1; octets = all }

-- Octets that spell an APDU are accepted, all of them.
pub accepts_whole : (a : Apdu) (s : List ℕ) → SpellsApdu profile_two a s → Accepts profile_two s a (length s)
accepts_whole a s spells = (omega arith, subst (SpellsApdu profile_two a) (sym (take_all (length s) s (omega arith))) spells)

-- Octets that spell an APDU are a message.
pub spelled_done : (d : Decoder) (s : List ℕ) (a : Apdu) (result : Result Progress Failure) → FeedsTo d s result → SpellsApdu profile_two a s → IsDone result
spelled_done d s a (Ok Progress.Done) h spells = tt
spelled_done d s a (Ok Progress.More) h spells = h.1.2 a (length s) (accepts_whole a s spells)
spelled_done d s a (Err (Failure.Refused refusal)) h spells = absurd (h.1.0.2 a (length s) (accepts_whole a s spells))
spelled_done d s a (Err Failure.OutOfMemory) h spells = refl

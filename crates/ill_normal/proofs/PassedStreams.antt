-- Messages that pass from a source to a sink are a stream of what was left.
use Rattle.std.proofs.Common.{◌≡◌, ℕ, List, Option, Some, sym, subst}
use Rattle.ill_schema.specs.Apdu.{IsStream}
use Rattle.ill_schema.specs.Profiles.{profile_of}
use Rattle.ill_tables.specs.declared.profile.Profile.{Profile as Named}
use Rattle.ill_normal.specs.Streamed.{PassesIn}
use Rattle.ill_normal.proofs.LongestStreams.{stream_front}
use Rattle.ill_inputs.proofs.TakenOctets.{front}

-- what passed is a stream of what was left, where the source reports it
pub passes_stream : (q : Named) (s : List ℕ) (left' held held' : Option (List ℕ)) (whole before : ℕ) → (p : PassesIn (profile_of q) (Some s) left' held held' whole before)
    → (r : List ℕ) × (left' ≡ Some r) × IsStream (profile_of q) s p.apdus r
passes_stream q s left' held held' whole before p =
    let t = front s left' p.octets p.taken in
    (t.0, t.2, subst (λ z. IsStream (profile_of q) z p.apdus t.0) (sym t.1) (stream_front (profile_of q) p.octets t.0 p.apdus p.stream))

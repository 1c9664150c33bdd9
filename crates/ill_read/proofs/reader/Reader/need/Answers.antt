use Rattle.ill_tables.specs.declared.profile.Profile.{Profile as Named}
use Rattle.std.proofs.Common.{Some, sym, subst}
use Rattle.ill_refusals.specs.Fault.{fault, fault_at}
use Rattle.ill_refusals.specs.Place.{IsPlace}
use Rattle.ill_schema.specs.Profiles.{profile_of}
use Rattle.ill_schema.specs.declared.refusal.Cause.{Cause}
use Rattle.ill_read.proofs.ProfileOfPath.{stands_at}
use Rattle.std.proofs.Common.{◌≡◌, ◌≤◌, ℕ, List, length, take, ap, subst, ◌∙◌, arith}
use Rattle.std.proofs.lemmas.List.{take_all}
use Rattle.ill_read.specs.Paths.{HoldsAt}
use Rattle.ill_grammar.specs.Standing.{Level, StandsAt, StandsLast}
use Rattle.ill_grammar.specs.Need.{IsNeed}
use Rattle.ill_read.specs.declared.path.Path.{Path}
use Rattle.ill_read.specs.declared.reader.Reader.{Reader}
use Rattle.ill_grammar.proofs.PlaceNeeds.{few}
use Rattle.ill_read.proofs.NeededOctets.{needs_after, need_open, need_at_least}
use Rattle.ill_read.proofs.reader.Reader.need.Goals as goal

-- The frames of a path are where it is.
abbrev frames_stand : {D : Type 0} (p : Named) (holds : D → List Level → List ℕ → Type 0) (path : Path D) (at : ℕ) (s rest : List ℕ) → StandsLast p (HoldsAt p holds path) at s rest → StandsLast path.frames.profile (StandsAt path.frames) at s rest
frames_stand p holds path at s rest l =
    let b = l.0 in (
      record { place = b.place; before = b.before; joined = b.joined; octets = b.octets; offset = b.offset; stands = stands_at p holds path b.place b.stands; is_place = subst (λ q. IsPlace (profile_of q) b.before b.place) (sym b.stands.3) b.is_place },
      subst (λ q. fault_at (profile_of q) b.place at rest ≡ Some (fault Cause.Truncated (length s))) (sym b.stands.3) l.1,
    )

-- The pending octets are few, so all of them are looked at.
needed : {D : Type 0} (p : Named) (holds : D → List Level → List ℕ → Type 0) (d : Reader D) (fed front : List ℕ) (room result : ℕ) → (length d.pending.items ≤ 1_048_576 → length d.pending.items ≤ room) → front ≡ d.pending.items
    → ((s : List ℕ) (stands : StandsLast d.path.frames.profile (StandsAt d.path.frames) d.at s (take room front)) → IsNeed stands.0.place d.at (take room front) result)
    → (stands : StandsLast p (HoldsAt p holds d.path) d.at fed d.pending.items) → IsNeed stands.0.place d.at d.pending.items result
needed p holds d fed front room result fits is need stands =
    let items = d.pending.items in
    let le = fits (few p (HoldsAt p holds d.path) d.at fed items stands) in
    let whole : take room front ≡ items = ap (take room) is ∙ take_all room items le in
    let P : List ℕ → Type 0 = λ z. (l : StandsLast p (HoldsAt p holds d.path) d.at fed z) → IsNeed l.0.place d.at z result in
    subst P whole (λ l. need fed (frames_stand p holds d.path d.at fed _ l)) stands

pub returns-clause-exact : goal.returns-clause-exact
returns-clause-exact g c p fed is =
    let d = c.args.self.now in
    needs_after p (HoldsAt p g.D.Draft.holds d.path) d.at fed d.pending.items is.1 c.need_at.result (needed p g.D.Draft.holds d fed c.deref.result.now c.min-room.result c.need_at.result (λ few. omega (arith, few, c.min-room.ensures, c.len.ensures)) c.deref.ensures.value c.need_at.ensures is.1)

pub returns-clause-some : goal.returns-clause-some
returns-clause-some g c p fed is =
    let d = c.args.self.now in
    need_open p (HoldsAt p g.D.Draft.holds d.path) d.at fed d.pending.items is.1 c.need_at.result (needed p g.D.Draft.holds d fed c.deref.result.now c.min-room.result c.need_at.result (λ few. omega (arith, few, c.min-room.ensures, c.len.ensures)) c.deref.ensures.value c.need_at.ensures is.1)

pub returns-clause-at_least : goal.returns-clause-at_least
returns-clause-at_least g c p fed more a n is ok h =
    let d = c.args.self.now in
    need_at_least p (HoldsAt p g.D.Draft.holds d.path) d.at fed d.pending.items is.1 c.need_at.result (needed p g.D.Draft.holds d fed c.deref.result.now c.min-room.result c.need_at.result (λ few. omega (arith, few, c.min-room.ensures, c.len.ensures)) c.deref.ensures.value c.need_at.ensures is.1) more a n ok h

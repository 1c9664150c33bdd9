-- What a message needs at a place that its octets don't pass.
use Rattle.ill_schema.specs.Profiles.{profile_of}
use Rattle.ill_tables.specs.declared.profile.Profile.{Profile as Named}
use Rattle.std.proofs.Common.{◌≡◌, ◌⊎◌, ℕ, ◌+◌, ◌-◌, ◌<◌, ◌≤◌, min, Bool, true, false, ◌&&◌, List, [], ◌∷◌, length, drop, Option, Some, None, refl, sym, ap, subst, ◌∙◌, inl, inr, arith}
use Rattle.std.proofs.lemmas.List.{length-drop}
use Rattle.ber_core.specs.declared.id.Id.{Id}
use Rattle.ber_core.specs.declared.header.Len.TheVariants.{Definite, Indefinite}
use Rattle.ber_core.specs.Id.{tag_of_id, form_of_id}
use Rattle.ber_tree.specs.Identifier.{Tag}
use Rattle.ber_leaf.specs.Profile.{Profile, profile_two}
use Rattle.ill_refusals.proofs.FirstFault.{is_judged}
use Rattle.ill_grammar.specs.declared.frames.Frames.{Frames}
use Rattle.ill_grammar.specs.Standing.{StandsLast, StandsAt}
use Rattle.ber_core.specs.HeaderRead.{IsHeaderRead, IsLengthRead}
use Rattle.ill_grammar.specs.code.Judging.{outermost_end}
use Rattle.ill_grammar.specs.Need.{outermost, in_mark, NeedsOfLength, NeedsOfElement, NeedsAfterMark, NeedsBefore, IsNeed, need_read}
use Rattle.ill_refusals.specs.Place.{Open, bound, IsPlace}
use Rattle.ber_core.specs.Reading.{identified, part_identifier, no_identifier, read_identifier, definite, indefinite, part_length, no_length, read_length}
use Rattle.ber_core.specs.declared.header_read.HeaderRead.{HeaderRead}
use Rattle.ber_core.specs.declared.header_read.HeaderRead.TheVariants.{NoIdentifier, PartIdentifier, Identified}
use Rattle.ber_core.specs.declared.header_read.LengthRead.{LengthRead as Length}
use Rattle.ber_core.specs.declared.header_read.LengthRead.TheVariants.{NoLength, PartLength, Whole}
use Rattle.ill_refusals.proofs.Continuations.{HasEnd}
use Rattle.ill_grammar.proofs.OpenFrames.{outermost_open}
use Rattle.ill_refusals.proofs.Judgements.{bound_some}
use Rattle.ill_refusals.proofs.Truncation.{IsCutShort, in_mark as in_end_mark, in_identifier, in_element, IsLengthCut, truncated_at, truncated_in}

-- no place reaches past the limit
pub bound_small : (p : Profile) (place : List Open) (u : List ℕ) → IsPlace p u place → bound p place ≤ p.limit
bound_small p [] u h = omega arith
bound_small p (o ∷ path) u h = let i = h.4.inside in let r = bound_small p path h.0 h.3 in omega arith

-- the ends of the open elements
pub has_outermost : (place : List Open) (e : ℕ) → outermost place ≡ Some e → HasEnd e place
has_outermost [] e h = absurd cc
has_outermost (o ∷ path) e h = go (outermost path) h (λ d q. has_outermost path d q)
  where
    go : (x : Option ℕ) → (elim x as (λ _. Option ℕ) [ Some e ↦ Some e | None ↦ o.end ]) ≡ Some e → ((d : ℕ) → x ≡ Some d → HasEnd d path) → HasEnd e (o ∷ path)
    go (Some d) r f = inr (f e r)
    go None r f = inl r

pub bound_before : (p : Profile) (place : List Open) (u : List ℕ) (e : ℕ) → IsPlace p u place → HasEnd e place → bound p place ≤ e
bound_before p [] u e h k = absurd k
bound_before p (o ∷ path) u e h (inl k) = let q = bound_some p o path e k in omega arith
bound_before p (o ∷ path) u e h (inr k) = let i = h.4.inside in let r = bound_before p path h.0 e h.3 k in omega arith

-- the octets end before the bound, in the midst of something
pub short : (p : Named) (Stands : List Open → Type 0) (at : ℕ) (s octets : List ℕ) → (l : StandsLast p Stands at s octets) → (at + length octets < bound (profile_of p) l.0.place) × IsCutShort (profile_of p) l.0.place octets
short p Stands at s octets l =
    let judged = is_judged (profile_of p) l.0.place at octets _ l.1 in
    ((truncated_at (profile_of p) l.0.place at octets _ judged refl).0, truncated_in (profile_of p) l.0.place at octets _ judged refl)

-- and they are no more than a message may have
pub few : (p : Named) (Stands : List Open → Type 0) (at : ℕ) (s octets : List ℕ) → StandsLast p Stands at s octets → length octets ≤ 1_048_576
few p Stands at s octets l =
    let near = (short p Stands at s octets l).0 in
    let b = bound_small (profile_of p) l.0.place l.0.before l.0.is_place in
    omega arith

abbrev pub InElement : (p : Named) → List Open → List ℕ → Type 0
InElement p place octets =
    (read_identifier octets ≡ part_identifier)
    ⊎ ((tag : Tag) × (f : Bool) × (r : List ℕ) × (read_identifier octets ≡ identified tag f r) × IsLengthCut (profile_of p) place f r)

pub wants_element : (p : Named) (place : List Open) (octets : List ℕ) → IsCutShort (profile_of p) place octets → in_mark place octets ≡ false → InElement p place octets
wants_element p place octets (in_end_mark i e) h = absurd (let q : in_mark place octets ≡ true = ap (in_mark place) e ∙ ap (λ b. b && true) i in let r : true ≡ false = sym q ∙ h in cc)
wants_element p place octets (in_identifier q) h = inl q
wants_element p place octets (in_element tag f r q w) h = inr (tag, f, r, q, w)

-- what is read of a length
length_needs : (p : Named) (place : List Open) (f : Bool) (r octets : List ℕ) (id : Id) (read : Length) → bound profile_two place ≤ 1_048_576 → IsLengthCut (profile_of p) place f r → IsLengthRead read (read_length f r) octets
    → NeedsOfLength (read_length f r) octets (need_read (Identified id read) (length octets))
length_needs p place f r octets id NoLength small (inl q) h = absurd (let e : part_length ≡ no_length = sym q ∙ h in cc)
length_needs p place f r octets id NoLength small (inr w) h = absurd (let e : definite w.0 w.1 ≡ no_length = sym w.3 ∙ h in cc)
length_needs p place f r octets id (PartLength due) small w h = subst (λ x. NeedsOfLength x octets due) (sym h.0) h.1
length_needs p place f r octets id (Whole Indefinite size) small (inl q) h = absurd (let e : part_length ≡ indefinite (drop size octets) = sym q ∙ h.2 in cc)
length_needs p place f r octets id (Whole Indefinite size) small (inr w) h = absurd (let e : definite w.0 w.1 ≡ indefinite (drop size octets) = sym w.3 ∙ h.2 in cc)
length_needs p place f r octets id (Whole (Definite held) size) small (inl q) h = absurd (let e : part_length ≡ definite h.2.0 (drop size octets) = sym q ∙ h.2.1 in cc)
length_needs p place f r octets id (Whole (Definite held) size) small (inr w) h =
    let e : definite w.0 w.1 ≡ definite h.2.0 (drop size octets) = sym w.3 ∙ h.2.1 in
    let n : w.0 ≡ h.2.0 = cc in
    let b : w.1 ≡ drop size octets = cc in
    let lt = w.4 in let le = w.5 in
    let m : min h.2.0 4_294_967_295 ≡ h.2.0 = grind (arith, n, le, small) in
    subst (λ x. NeedsOfLength x octets (held - (length octets - size))) (sym h.2.1)
    (omega (arith, h.1, h.2.2, m, n, ap length b, length-drop size octets))

element_needs : (p : Named) (place : List Open) (octets : List ℕ) (read : HeaderRead) → bound profile_two place ≤ 1_048_576 → InElement p place octets → IsHeaderRead read octets
    → NeedsOfElement (read_identifier octets) octets (need_read read (length octets))
element_needs p place octets NoIdentifier small (inl q) h = absurd (let e : part_identifier ≡ no_identifier = sym q ∙ h in cc)
element_needs p place octets NoIdentifier small (inr w) h = absurd (let e : identified w.0 w.1 w.2 ≡ no_identifier = sym w.3 ∙ h in cc)
element_needs p place octets PartIdentifier small w h = subst (λ x. NeedsOfElement x octets 1) (sym h) refl
element_needs p place octets (Identified id read) small (inl q) h = absurd (let e : part_identifier ≡ identified (tag_of_id id) (form_of_id id) h.0 = sym q ∙ h.1 in cc)
element_needs p place octets (Identified id read) small (inr w) h =
    let e : identified w.0 w.1 w.2 ≡ identified (tag_of_id id) (form_of_id id) h.0 = sym w.3 ∙ h.1 in
    let f : w.1 ≡ form_of_id id = cc in
    let r : w.2 ≡ h.0 = cc in
    let cut : IsLengthCut (profile_of p) place (form_of_id id) h.0 = subst (IsLengthCut (profile_of p) place (form_of_id id)) r (subst (λ x. IsLengthCut (profile_of p) place x w.2) f w.4) in
    subst (λ x. NeedsOfElement x octets (need_read (Identified id read) (length octets))) (sym h.1) (length_needs p place (form_of_id id) h.0 octets id read small cut h.2)

-- where a definite element is open
pub need_to_end : (frames : Frames) (at : ℕ) (s octets : List ℕ) (l : StandsLast frames.profile (StandsAt frames) at s octets) (e : ℕ) → outermost_end frames.open.items ≡ Some e → IsNeed l.0.place at octets (e - at - length octets)
need_to_end frames at s octets l e h =
    let b = l.0 in
    let q : outermost b.place ≡ Some e = sym (outermost_open frames.profile b.place _ _ b.stands.1) ∙ h in
    let near = (short frames.profile (StandsAt frames) at s octets l).0 in
    let le = bound_before (profile_of frames.profile) b.place b.before e b.is_place (has_outermost b.place e q) in
    subst (λ x. NeedsBefore x b.place at octets (e - at - length octets)) (sym q) (omega arith)

-- where none is
need_inside : (frames : Frames) (at : ℕ) (s octets : List ℕ) (l : StandsLast frames.profile (StandsAt frames) at s octets) (n : ℕ) → outermost_end frames.open.items ≡ None → NeedsAfterMark (in_mark l.0.place octets) octets n → IsNeed l.0.place at octets n
need_inside frames at s octets l n h k =
    subst (λ x. NeedsBefore x l.0.place at octets n) (sym (sym (outermost_open frames.profile l.0.place _ _ l.0.stands.1) ∙ h)) k

pub need_in_mark : (frames : Frames) (at : ℕ) (s octets : List ℕ) (l : StandsLast frames.profile (StandsAt frames) at s octets) → outermost_end frames.open.items ≡ None → in_mark l.0.place octets ≡ true → IsNeed l.0.place at octets 1
need_in_mark frames at s octets l h m = need_inside frames at s octets l 1 h (subst (λ x. NeedsAfterMark x octets 1) (sym m) refl)

pub need_in_element : (frames : Frames) (at : ℕ) (s octets : List ℕ) (l : StandsLast frames.profile (StandsAt frames) at s octets) (read : HeaderRead) → outermost_end frames.open.items ≡ None → in_mark l.0.place octets ≡ false
    → IsHeaderRead read octets → IsNeed l.0.place at octets (need_read read (length octets))
need_in_element frames at s octets l read h m is =
    let n = need_read read (length octets) in
    need_inside frames at s octets l n h (subst (λ x. NeedsAfterMark x octets n) (sym m)
    (element_needs frames.profile l.0.place octets read (bound_small (profile_of frames.profile) l.0.place l.0.before l.0.is_place) (wants_element frames.profile l.0.place octets (short frames.profile (StandsAt frames) at s octets l).1 m) is))

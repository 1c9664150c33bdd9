-- How many octets at least still belong to a message, at a place that the octets don't pass.
use Rattle.ill_tables.specs.declared.profile.Profile.{Profile as Named}
use Rattle.ill_schema.specs.Profiles.{profile_of}
use Rattle.std.proofs.Common.{◌≡◌, ◌⊎◌, ℕ, ◌+◌, ◌<◌, ◌≤◌, min, Bool, true, false, ◌&&◌, List, [], ◌∷◌, ◌++◌, length, length-append, take, drop, Option, Some, None, IsTrue, refl, sym, ap, subst, ◌∙◌, inl, inr, arith, append_assoc, append-nil, nat_eq}
use Rattle.std.specs.Prelude.{nat_le}
use Rattle.std.proofs.lemmas.List.{take-append-drop, take-append-le, length-drop, nil_from_length}
use Rattle.std.proofs.lemmas.Bool.{and_parts}
use Rattle.ber_core.specs.declared.header.Header.{Header}
use Rattle.ber_core.specs.declared.header.Len.{Len}
use Rattle.ber_core.specs.declared.header.Len.TheVariants.{Definite, Indefinite}
use Rattle.ber_core.specs.Header.{IsHeader, SpellsLen}
use Rattle.ber_core.specs.Id.{tag_of_id, form_of_id}
use Rattle.ber_tree.specs.Identifier.{Tag, identifier, HasIdentifier}
use Rattle.ber_tree.specs.Length.{IsLength, short as short_form, long as long_form}
use Rattle.ber_tree.specs.Octets.{are_octets}
use Rattle.ber_core.proofs.Identifiers.{IsEnd, identifier_no_end}
use Rattle.ber_leaf.specs.Profile.{Profile}
use Rattle.ill_schema.specs.declared.refusal.Cause.{Cause}
use Rattle.ill_schema.specs.Apdu.{Apdu, Accepts}
use Rattle.ill_refusals.specs.Fault.{fault, is_indefinite, fault_at}
use Rattle.ill_refusals.specs.code.Judge.{Judgement, faulty, closes, opens, reads, judge}
use Rattle.ill_grammar.specs.Standing.{StandsLast}
use Rattle.ber_core.specs.HeaderRead.{Lacks, IsWholeLength}
use Rattle.ill_grammar.specs.Need.{NeedsAfterIn, outermost, begins_zero, in_mark, NeedsOfLength, NeedsOfElement, NeedsAfterMark, NeedsBefore, IsNeed}
use Rattle.ill_refusals.specs.Place.{Open, bound, IsDue}
use Rattle.ber_core.specs.Reading.{identified, part_identifier, no_identifier, read_identifier, definite, indefinite, part_length, read_length}
use Rattle.ill_refusals.specs.code.Step.{close, step_after}
use Rattle.ill_refusals.proofs.Continuations.{Keeps, with_keeps, due_at, ends_before, reads_before}
use Rattle.ber_core.proofs.HeadersRead.{whole_header_read}
use Rattle.ill_refusals.proofs.Judgements.{Judged, judged, bound_some}
use Rattle.ber_core.proofs.ReadOctets.{identifier_longer, length_longer, identifier_read, length_read, octets_right, take-all, drop-all}
use Rattle.ill_refusals.proofs.Machine.{step}
use Rattle.ber_tree.proofs.Lists.{two_cases}
use Rattle.ill_refusals.proofs.Truncation.{IsCutShort, in_mark as in_end_mark, in_identifier, in_element, IsLengthCut}
use Rattle.ill_grammar.proofs.PlaceNeeds.{has_outermost, bound_before, short, few, InElement, wants_element}

-- of two fronts of a list the shorter is a front of the longer
longer_front : (a x b y : List ℕ) → a ++ x ≡ b ++ y → length b ≤ length a → a ≡ b ++ drop (length b) a
longer_front a x b y e h =
    let t : take (length b) a ≡ b = sym (take-append-le (length b) a x h) ∙ ap (take (length b)) e ∙ take-all b y in
    sym (take-append-drop (length b) a) ∙ ap (λ z. z ++ drop (length b) a) t

-- octets that end in a header
abbrev EndInHeader : List ℕ → Type 0
EndInHeader w = (read_identifier w ≡ part_identifier) ⊎ ((tag : Tag) × (f : Bool) × (r : List ℕ) × (read_identifier w ≡ identified tag f r) × (read_length f r ≡ part_length))

not_whole : (f : Bool) (r behind : List ℕ) (len : Len) → read_length f r ≡ part_length → IsWholeLength (read_length f r) len behind → ⊥
not_whole f r behind (Definite held) q h = absurd (let e : part_length ≡ definite h.0 behind = sym q ∙ h.1 in cc)
not_whole f r behind Indefinite q h = absurd (let e : part_length ≡ indefinite behind = sym q ∙ h in cc)

-- and begin with no whole one
no_header : (header : Header) (b x w : List ℕ) → IsHeader header b → w ≡ b ++ x → EndInHeader w → ⊥
no_header header b x w h e (inl q) =
    let r = whole_header_read header b x w e h in
    absurd (let d : part_identifier ≡ identified (tag_of_id header.id) (form_of_id header.id) r.0 = sym q ∙ r.1 in cc)
no_header header b x w h e (inr q) =
    let r = whole_header_read header b x w e h in
    let d : identified q.0 q.1 q.2 ≡ identified (tag_of_id header.id) (form_of_id header.id) r.0 = sym q.3 ∙ r.1 in
    let f : q.1 ≡ form_of_id header.id = cc in
    let t : q.2 ≡ r.0 = cc in
    not_whole (form_of_id header.id) r.0 x header.len (subst (λ z. read_length (form_of_id header.id) z ≡ part_length) t (subst (λ z. read_length z q.2 ≡ part_length) f q.4)) r.2

shorter : (header : Header) (b behind w more : List ℕ) → IsHeader header b → w ++ more ≡ b ++ behind → EndInHeader w → length w < length b
shorter header b behind w more h e part = elim (two_cases (nat_le (length b) (length w))) [
  | inl i ↦ absurd (no_header header b (drop (length b) w) w h (longer_front w more b behind e (let l : length b ≤ length w = grind (arith, i) in l)) part)
  | inr i ↦ grind (arith, i)
]

-- a header that octets end in goes on as far as is needed
header_reaches : (header : Header) (b behind w more : List ℕ) (n : ℕ) → IsHeader header b → w ++ more ≡ b ++ behind → (part : EndInHeader w) → NeedsOfElement (read_identifier w) w n → length w + n ≤ length b
header_reaches header b behind w more n h e (inl q) need =
    let one : n ≡ 1 = subst (λ x. NeedsOfElement x w n) q need in
    let lt = shorter header b behind w more h e (inl q) in
    omega arith
header_reaches header b behind w more n h e (inr q) need =
    let lacks : Lacks w n = subst (λ x. NeedsOfLength x w n) q.4 (subst (λ x. NeedsOfElement x w n) q.3 need) in
    let lt = shorter header b behind w more h e (inr q) in
    let whole : b ≡ w ++ drop (length w) b = longer_front b behind w more (sym e) (omega arith) in
    let le = lacks.0 header (drop (length w) b) (subst (IsHeader header) whole h) in
    omega (arith, length-drop (length w) b)

-- identifier and length octets
spelled_header : (tag : Tag) (f : Bool) (len : Len) (os : List ℕ) → HasIdentifier tag f → SpellsLen f len os → (header : Header) × IsHeader header (identifier tag f ++ os)
spelled_header tag f len os v h = (
  record { id = record { class = tag.class; constructed = f; number = tag.number; valid = v }; len = len },
  record { octets = os; spell_len = h; joined = refl },
)

-- how far a judgement goes on
abbrev Reaches : ℕ → ℕ → Judgement → Type 0
Reaches e k (faulty f) = Unit {0}
Reaches e k (closes m) = e ≤ k + m
Reaches e k (opens tag x h end) = e ≤ k + h
Reaches e k (reads tag h content) = e ≤ k + h + length content

reaches_keeps : (p : Profile) (path : List Open) (k e : ℕ) (rest : List ℕ) (j : Judgement) → Judged p path k rest j → Reaches e k j → Keeps e (step_after j path k rest)
reaches_keeps p path k e rest (faulty f) r h = tt
reaches_keeps p path k e rest (closes m) r h =
    subst (λ z. Keeps e (close z (k + m) (drop m rest))) (sym r.is_path) (with_keeps e r.outer _ (k + m) (drop m rest) (inr h))
reaches_keeps p path k e rest (opens tag x n end) r h = inr h
reaches_keeps p path k e rest (reads tag n content) r h = with_keeps e path _ (k + n + length content) (drop (n + length content) rest) (inr h)

-- before the bound no definite element ends
no_end_here : (p : Profile) (o : Open) (outer : List Open) (k : ℕ) → k < bound p (o ∷ outer) → o.end ≡ Some k → ⊥
no_end_here p o outer k lt h = let b = bound_some p o outer k h in omega arith

-- after an end mark's first octet
mark_reaches : (p : Profile) (path : List Open) (k : ℕ) (w : List ℕ) (j : Judgement) → k < bound p path → Judged p path k (0 ∷ w) j → Reaches (k + 2) k j
mark_reaches p path k w (faulty f) lt r = tt
mark_reaches p path k w (closes m) lt r = elim r.how [
  | inl x ↦ absurd (no_end_here p r.innermost r.outer k (subst (λ z. k < bound p z) r.is_path lt) x.1)
  | inr x ↦ omega (arith, x.0)
]
mark_reaches p path k w (opens tag x h end) lt r = absurd (identifier_no_end tag true (r.octets ++ r.behind) r.started.has_identifier (subst IsEnd r.spelled refl))
mark_reaches p path k w (reads tag h content) lt r = absurd (identifier_no_end tag false (r.octets ++ (content ++ r.behind)) r.started.has_identifier (subst IsEnd r.spelled refl))

-- an end mark that no octet was there of
no_zero : (w more v : List ℕ) → w ++ more ≡ 0 ∷ 0 ∷ v → begins_zero w ≡ false → w ≡ []
no_zero [] more v e h = refl
no_zero (a ∷ w) more v e h = absurd (let z : a ≡ 0 = cc in let q : nat_eq a 0 ≡ true = grind (arith, z) in let r : true ≡ false = sym q ∙ h in cc)

open_ended : (o : Open) (outer : List Open) (w : List ℕ) → o.end ≡ None → in_mark (o ∷ outer) w ≡ false → begins_zero w ≡ false
open_ended o outer w h m = sym (ap (λ x. elim x as (λ _. Bool) [ Some e ↦ false | None ↦ true ] && begins_zero w) h) ∙ m

-- within a header
header_end : (p : Profile) (path : List Open) (k n : ℕ) (w more : List ℕ) (j : Judgement) → k < bound p path → in_mark path w ≡ false → EndInHeader w → NeedsOfElement (read_identifier w) w n
    → Judged p path k (w ++ more) j → Reaches (k + length w + n) k j
header_end p path k n w more (faulty f) lt m part need r = tt
header_end p path k n w more (closes c) lt m part need r = elim r.how [
  | inl x ↦ absurd (no_end_here p r.innermost r.outer k (subst (λ z. k < bound p z) r.is_path lt) x.1)
  | inr x ↦
      let none : w ≡ [] = no_zero w more x.2.0 x.2.1 (open_ended r.innermost r.outer w x.1 (subst (λ z. in_mark z w ≡ false) r.is_path m)) in
      let one : n ≡ 1 = subst (λ z. NeedsOfElement (read_identifier z) z n) none need in
      omega (arith, ap length none, x.0)
]
header_end p path k n w more (opens tag x h end) lt m part need r =
    let is : (header : Header) × IsHeader header (identifier tag true ++ r.octets) = elim r.how [
      | inl y ↦ spelled_header tag true Indefinite r.octets r.started.has_identifier (refl, y.0)
      | inr y ↦ spelled_header tag true (Definite (min y.0 4_294_967_295)) r.octets r.started.has_identifier (y.0, y.1, refl)
    ] in
    let le = header_reaches is.0 (identifier tag true ++ r.octets) r.behind w more n is.1 (r.spelled ∙ sym (append_assoc (identifier tag true) r.octets r.behind)) part need in
    let size = r.size in
    omega (arith, length-append (identifier tag true) r.octets)
header_end p path k n w more (reads tag h content) lt m part need r =
    let is = spelled_header tag false (Definite (min (length content) 4_294_967_295)) r.octets r.started.has_identifier (length content, r.is_length, refl) in
    let le = header_reaches is.0 (identifier tag false ++ r.octets) (content ++ r.behind) w more n is.1 (r.spelled ∙ sym (append_assoc (identifier tag false) r.octets (content ++ r.behind))) part need in
    let size = r.size in
    omega (arith, length-append (identifier tag false) r.octets)

-- within a content
content_end : (p : Profile) (path : List Open) (k n size : ℕ) (tag : Tag) (w r b more : List ℕ) (j : Judgement) → k < bound p path → in_mark path w ≡ false
    → read_identifier w ≡ identified tag false r → read_length false r ≡ definite size b → size ≡ length b + n → Judged p path k (w ++ more) j → Reaches (k + length w + n) k j
content_end p path k n size tag w r b more (faulty f) lt m q l need j = tt
content_end p path k n size tag w r b more (closes c) lt m q l need j = elim j.how [
  | inl x ↦ absurd (no_end_here p j.innermost j.outer k (subst (λ z. k < bound p z) j.is_path lt) x.1)
  | inr x ↦
      let none : w ≡ [] = no_zero w more x.2.0 x.2.1 (open_ended j.innermost j.outer w x.1 (subst (λ z. in_mark z w ≡ false) j.is_path m)) in
      absurd (let d : part_identifier ≡ identified tag false r = sym (ap read_identifier none) ∙ q in cc)
]
content_end p path k n size tag w r b more (opens t x h end) lt m q l need j =
    let a = identifier_longer w more tag false r q in
    let c = ap read_identifier j.spelled ∙ identifier_read t true (j.octets ++ j.behind) j.started.has_identifier in
    absurd (let d : identified tag false (r ++ more) ≡ identified t true (j.octets ++ j.behind) = sym a ∙ c in let f : false ≡ true = cc in cc)
content_end p path k n size tag w r b more (reads t h content) lt m q l need j =
    let a = identifier_longer w more tag false r q in
    let c = ap read_identifier j.spelled ∙ identifier_read t false (j.octets ++ (content ++ j.behind)) j.started.has_identifier in
    let d : identified tag false (r ++ more) ≡ identified t false (j.octets ++ (content ++ j.behind)) = sym a ∙ c in
    let f : r ++ more ≡ j.octets ++ (content ++ j.behind) = cc in
    let g : definite size (b ++ more) ≡ definite (length content) (content ++ j.behind) =
    sym (length_longer false r more size b l) ∙ ap (read_length false) f ∙ length_read false (length content) j.octets (content ++ j.behind) j.is_length in
    let same : size ≡ length content = cc in
    let rest : b ++ more ≡ content ++ j.behind = cc in
    let wide = j.size in
    omega (
      arith,
      same,
      ap length rest,
      need,
      wide,
      ap length j.spelled,
      length-append w more,
      length-append b more,
      length-append content j.behind,
      length-append j.octets (content ++ j.behind),
      length-append (identifier t false) (j.octets ++ (content ++ j.behind)),
    )

-- what octets and those after them reach at a place, where no definite element is open
abbrev ReachesNeed : Named → List Open → ℕ → List ℕ → List ℕ → ℕ → Type 0
ReachesNeed p place k w more n = (j : Judgement) → Judged (profile_of p) place k (w ++ more) j → Reaches (k + length w + n) k j

mark_needs : (p : Named) (place : List Open) (k n : ℕ) (w more : List ℕ) → k < bound (profile_of p) place → IsCutShort (profile_of p) place w → begins_zero w ≡ true → n ≡ 1 → ReachesNeed p place k w more n
mark_needs p place k n [] more lt cut z one j r = absurd cc
mark_needs p place k n (a ∷ w) more lt cut z one j r =
    let e : a ≡ 0 = grind (arith, z) in
    let none : read_identifier (a ∷ w) ≡ no_identifier = rw z refl in
    let alone : w ≡ [] = elim cut [
      | in_end_mark i q ↦ cc
      | in_identifier q ↦ absurd (let d : no_identifier ≡ part_identifier = sym none ∙ q in cc)
      | in_element tag f x q y ↦ absurd (let d : no_identifier ≡ identified tag f x = sym none ∙ q in cc)
    ] in
    let size : k + length (a ∷ w) + n ≡ k + 2 = omega (arith, ap length alone) in
    subst (λ z. Reaches z k j) (sym size) (mark_reaches (profile_of p) place k (w ++ more) j lt (subst (λ (z : ℕ). Judged (profile_of p) place k (z ∷ (w ++ more)) j) e r))

element_reaches : (p : Named) (place : List Open) (k n : ℕ) (w more : List ℕ) → k < bound (profile_of p) place → in_mark place w ≡ false → InElement p place w → NeedsOfElement (read_identifier w) w n → ReachesNeed p place k w more n
element_reaches p place k n w more lt m (inl q) need j r = header_end (profile_of p) place k n w more j lt m (inl q) need r
element_reaches p place k n w more lt m (inr (tag, f, x, q, inl l)) need j r = header_end (profile_of p) place k n w more j lt m (inr (tag, f, x, q, l)) need r
element_reaches p place k n w more lt m (inr (tag, f, x, q, inr (size, b, shut, l, less, le))) need j r =
    let q2 : read_identifier w ≡ identified tag false x = q ∙ ap (λ g. identified tag g x) shut in
    let l2 : read_length false x ≡ definite size b = ap (λ g. read_length g x) (sym shut) ∙ l in
    let rest : size ≡ length b + n = subst (λ z. NeedsOfLength z w n) l2 (subst (λ z. NeedsOfElement z w n) q2 need) in
    content_end (profile_of p) place k n size tag w x b more j lt m q2 l2 rest r

inside_reaches : (p : Named) (place : List Open) (k n : ℕ) (w more : List ℕ) → k < bound (profile_of p) place → IsCutShort (profile_of p) place w → (b : Bool) → in_mark place w ≡ b → NeedsAfterMark b w n → ReachesNeed p place k w more n
inside_reaches p place k n w more lt cut true m one = mark_needs p place k n w more lt cut (and_parts (is_indefinite place) (begins_zero w) m).1 one
inside_reaches p place k n w more lt cut false m need = element_reaches p place k n w more lt m (wants_element p place w cut m) need

-- what each judgement reaches, a message does
reaches_at_least : (p : Named) (Stands : List Open → Type 0) (at : ℕ) (s octets : List ℕ) (l : StandsLast p Stands at s octets) (n : ℕ) (more : List ℕ) → ReachesNeed p l.0.place (length l.0.before) octets more n
    → (a : Apdu) (m : ℕ) → IsTrue (are_octets (s ++ more)) → Accepts (profile_of p) (s ++ more) a m → length s + n ≤ m
reaches_at_least p Stands at s octets l n more reaches a m ok h =
    let b = l.0 in
    let u = b.before in
    let w = octets ++ more in
    let e : s ++ more ≡ u ++ w = ap (λ z. z ++ more) b.joined ∙ append_assoc u octets more in
    let is_due : IsDue (profile_of p) (s ++ more) (length u) b.place = subst (λ z. IsDue (profile_of p) z (length u) b.place) (sym e) (due_at (profile_of p) b.place u w b.is_place) in
    let rest : drop (length u) (s ++ more) ≡ w = ap (drop (length u)) e ∙ drop-all u w in
    let octets_ok : IsTrue (are_octets w) = octets_right u w (subst (λ z. IsTrue (are_octets z)) e ok) in
    let judgement = judge (profile_of p) b.place (length u) w in
    let j = judged (profile_of p) b.place (length u) w octets_ok in
    let keeps = reaches_keeps (profile_of p) b.place (length u) (length u + length octets + n) w judgement j (reaches judgement j) in
    let le = reads_before (profile_of p) (s ++ more) b.place (length u) (length u + length octets + n) a m ok is_due
    (subst (λ z. Keeps (length u + length octets + n) (step (profile_of p) b.place (length u) z)) (sym rest) keeps) h.0 h.1.encodes in
    omega (arith, ap length b.joined, length-append u octets)

-- at least this many octets still belong to the message
pub need_at_least : (p : Named) (Stands : List Open → Type 0) (at : ℕ) (s octets : List ℕ) (l : StandsLast p Stands at s octets) (n : ℕ) → IsNeed l.0.place at octets n
    → (more : List ℕ) (a : Apdu) (m : ℕ) → IsTrue (are_octets (s ++ more)) → Accepts (profile_of p) (s ++ more) a m → length s + n ≤ m
need_at_least p Stands at s octets l n need more a m ok h =
    let b = l.0 in
    let u = b.before in
    let near = short p Stands at s octets l in
    let reach : (x : Option ℕ) → outermost b.place ≡ x → NeedsBefore x b.place at octets n → length s + n ≤ m = λ x. elim x as (λ x. outermost b.place ≡ x → NeedsBefore x b.place at octets n → length s + n ≤ m) [
      | Some e ↦ λ q is.
          let is_due : IsDue (profile_of p) (s ++ more) (length u) b.place =
          subst (λ z. IsDue (profile_of p) z (length u) b.place) (sym (ap (λ z. z ++ more) b.joined ∙ append_assoc u octets more)) (due_at (profile_of p) b.place u (octets ++ more) b.is_place) in
          let le = ends_before (profile_of p) (s ++ more) b.place (length u) e a m ok is_due (has_outermost b.place e q) h.0 h.1.encodes in
          omega (arith, b.offset, ap length b.joined, length-append u octets)
      | None ↦ λ q is.
          let lt : length u < bound (profile_of p) b.place = omega (arith, b.offset, near.0) in
          reaches_at_least p Stands at s octets l n more (inside_reaches p b.place (length u) n octets more lt near.1 (in_mark b.place octets) refl is) a m ok h
    ] in
    reach (outermost b.place) refl need

-- an identifier has an octet at least, and so has a length
identifier_some : (t : Tag) (f : Bool) (x : List ℕ) → HasIdentifier t f → identifier t f ≡ x → 0 < length x
identifier_some t f [] v e = absurd (let d : part_identifier ≡ identified t f [] = sym (ap (λ z. read_identifier (z ++ [])) e) ∙ identifier_read t f [] v in cc)
identifier_some t f (a ∷ x) v e = omega arith

length_some : (n : ℕ) (octets : List ℕ) → IsLength n octets → 0 < length octets
length_some n octets (short_form h) = omega arith
length_some n octets (long_form some few below is) = omega arith

-- whatever comes at a place where none ends takes two octets
two_reach : (p : Profile) (path : List Open) (k : ℕ) (rest : List ℕ) (j : Judgement) → k < bound p path → Judged p path k rest j → Reaches (k + 2) k j
two_reach p path k rest (faulty f) lt r = tt
two_reach p path k rest (closes m) lt r = elim r.how [
  | inl x ↦ absurd (no_end_here p r.innermost r.outer k (subst (λ z. k < bound p z) r.is_path lt) x.1)
  | inr x ↦ omega (arith, x.0)
]
two_reach p path k rest (opens tag x h end) lt r =
    let one = identifier_some tag true (identifier tag true) r.started.has_identifier refl in
    let other : 0 < length r.octets = elim r.how [
      | inl y ↦ omega (arith, ap length y.0)
      | inr y ↦ length_some y.0 r.octets y.1
    ] in
    let size = r.size in
    omega (arith, length-append (identifier tag true) r.octets)
two_reach p path k rest (reads tag h content) lt r =
    let one = identifier_some tag false (identifier tag false) r.started.has_identifier refl in
    let other = length_some (length content) r.octets r.is_length in
    let size = r.size in
    omega (arith, length-append (identifier tag false) r.octets)

-- The same of what these octets need, wherever a decoder keeps them.
pub needed_at_least : (p : Named) (fed : List ℕ) (n : ℕ) → IsTrue (are_octets fed) → NeedsAfterIn p fed n → (more : List ℕ) (a : Apdu) (m : ℕ) → IsTrue (are_octets (fed ++ more)) → Accepts (profile_of p) (fed ++ more) a m → length fed + n ≤ m
needed_at_least p fed n ok x =
    let last : StandsLast p (λ _. Unit {0}) (length x.before) fed x.rest =
    (record { place = x.place; before = x.before; joined = x.joined; octets = ok; offset = refl; stands = tt; is_place = x.is_place }, x.ends) in
    need_at_least p (λ _. Unit {0}) (length x.before) fed x.rest last n x.needed

-- so two octets at least belong to the message where no definite element is open
pub two_at_least : (p : Named) (Stands : List Open → Type 0) (at : ℕ) (s : List ℕ) (l : StandsLast p Stands at s []) → (more : List ℕ) (a : Apdu) (m : ℕ) → IsTrue (are_octets (s ++ more)) → Accepts (profile_of p) (s ++ more) a m → length s + 2 ≤ m
two_at_least p Stands at s l more a m ok h =
    let lt : length l.0.before < bound (profile_of p) l.0.place = omega (arith, l.0.offset, (short p Stands at s [] l).0) in
    let size : length l.0.before + 2 ≡ length l.0.before + 0 + 2 = omega arith in
    reaches_at_least p Stands at s [] l 2 more (λ j r. subst (λ z. Reaches z (length l.0.before) j) size (two_reach (profile_of p) l.0.place (length l.0.before) more j lt r)) a m ok h

-- of a part of a length, or of a content, octets are missing
length_open : (p : Named) (place : List Open) (octets r : List ℕ) (f : Bool) (n : ℕ) → IsLengthCut (profile_of p) place f r → (tag : Tag) → read_identifier octets ≡ identified tag f r → NeedsOfLength (read_length f r) octets n → 0 < n
length_open p place octets r f n (inr w) tag q h =
    let size : w.0 ≡ length w.1 + n = subst (λ x. NeedsOfLength x octets n) w.3 h in
    let lt = w.4 in
    omega arith
length_open p place octets r f n (inl l) tag q h =
    let lacks : Lacks octets n = subst (λ x. NeedsOfLength x octets n) l h in
    let header = lacks.1.0 in
    let rest = lacks.1.1 in
    elim (two_cases (nat_eq n 0)) [
      | inr e ↦ grind (arith, e)
      | inl e ↦
          let zero : length rest ≡ 0 = grind (arith, e, lacks.1.3) in
          let whole : octets ≡ (octets ++ rest) ++ [] = sym (append-nil (octets ++ rest) ∙ ap (λ z. octets ++ z) (nil_from_length rest zero) ∙ append-nil octets) in
          absurd (no_header header (octets ++ rest) [] octets lacks.1.2 whole (inr (tag, f, r, q, l)))
    ]

-- and in the words of the octets alone
pub needs_after : (p : Named) (Stands : List Open → Type 0) (at : ℕ) (fed octets : List ℕ) (l : StandsLast p Stands at fed octets) (n : ℕ) → IsNeed l.0.place at octets n → NeedsAfterIn p fed n
needs_after p Stands at fed octets l n need =
    let b = l.0 in
    record {
      place = b.place;
      before = b.before;
      rest = octets;
      joined = b.joined;
      is_place = b.is_place;
      ends = subst (λ k. fault_at (profile_of p) b.place k octets ≡ Some (fault Cause.Truncated (length fed))) b.offset l.1;
      needed = subst (λ k. IsNeed b.place k octets n) b.offset need;
    }

-- and there are some
pub need_open : (p : Named) (Stands : List Open → Type 0) (at : ℕ) (s octets : List ℕ) (l : StandsLast p Stands at s octets) (n : ℕ) → IsNeed l.0.place at octets n → 0 < n
need_open p Stands at s octets l n need = go (outermost l.0.place) refl need
  where
    element : InElement p l.0.place octets → NeedsOfElement (read_identifier octets) octets n → 0 < n
    element (inl q) is = let one : n ≡ 1 = subst (λ x. NeedsOfElement x octets n) q is in omega arith
    element (inr w) is = length_open p l.0.place octets w.2 w.1 n w.4 w.0 w.3 (subst (λ x. NeedsOfElement x octets n) w.3 is)

    inside : (b : Bool) → in_mark l.0.place octets ≡ b → NeedsAfterMark b octets n → 0 < n
    inside true m is = omega arith
    inside false m is = element (wants_element p l.0.place octets (short p Stands at s octets l).1 m) is

    go : (x : Option ℕ) → outermost l.0.place ≡ x → NeedsBefore x l.0.place at octets n → 0 < n
    go (Some e) q is =
        let near = (short p Stands at s octets l).0 in
        let le = bound_before (profile_of p) l.0.place l.0.before e l.0.is_place (has_outermost l.0.place e q) in
        omega arith
    go None q is = inside (in_mark l.0.place octets) refl is

-- What headers, parts of them and faults of them say of octets that begin with them.
use Rattle.std.proofs.Common.{◌≡◌, ◌⊎◌, ℕ, ◌<◌, ◌≤◌, ◌+◌, ◌*◌, Bool, true, List, [], ◌∷◌, ◌++◌, length, drop, slice_get, slice_index_or, Some, nat_le, nat_lt, IsTrue, refl, sym, ap, subst, ◌∙◌, arith, inl, inr, append_assoc, append-nil}
use Rattle.ber_core.specs.declared.id.Id.{Id}
use Rattle.ber_core.specs.declared.header.Header.{Header}
use Rattle.ber_core.specs.declared.header.HeaderFault.TheVariants.{BadTag, BadLength}
use Rattle.ber_core.specs.declared.header.Len.{Len}
use Rattle.ber_core.specs.declared.header.Len.TheVariants.{Definite, Indefinite}
use Rattle.ber_core.specs.Header.{IsHeader, IsPartHeader, IsFault, HasWholeId, BeginsWithId, SpellsLen}
use Rattle.ber_core.specs.Id.{tag_of_id, form_of_id, id_octets}
use Rattle.ber_tree.specs.Octets.{are_octets}
use Rattle.ber_core.specs.HeaderRead.{IsWholeLength}
use Rattle.ber_core.specs.Reading.{LengthRead, read_identifier, read_length, identified, no_identifier, part_identifier, definite, indefinite, no_length, part_length}
use Rattle.ber_core.proofs.HeaderFaults.{bad_tag_read, bad_length_read, part_header_read}
use Rattle.ber_core.proofs.ReadOctets.{identifier_read, length_read, indefinite_read, identifier_longer, no_identifier_longer, no_length_longer, read_is_identifier}

-- octets that begin with an identifier
abbrev Reads : Id → List ℕ → List ℕ → Type 0
Reads id w rest = read_identifier w ≡ identified (tag_of_id id) (form_of_id id) rest

id_read : (id : Id) (w rest : List ℕ) → w ≡ id_octets id ++ rest → Reads id w rest
id_read id w rest e = ap read_identifier e ∙ identifier_read (tag_of_id id) (form_of_id id) rest id.valid

whole_length : (f : Bool) (len : Len) (os behind : List ℕ) → SpellsLen f len os → IsWholeLength (read_length f (os ++ behind)) len behind
whole_length f (Definite held) os behind h = (h.0, length_read f h.0 os behind h.1, h.2)
whole_length f Indefinite os behind h =
    subst (λ g. read_length g (os ++ behind) ≡ indefinite behind) (sym h.0) (ap (λ z. read_length true (z ++ behind)) h.1 ∙ indefinite_read behind)

-- a whole header at the front
pub whole_header_read : (header : Header) (b behind w : List ℕ) → w ≡ b ++ behind → IsHeader header b
    → (rest : List ℕ) × Reads header.id w rest × IsWholeLength (read_length (form_of_id header.id) rest) header.len behind
whole_header_read header b behind w e h = (
  h.octets ++ behind,
  id_read header.id w (h.octets ++ behind) (e ∙ ap (λ z. z ++ behind) h.joined ∙ append_assoc (id_octets header.id) h.octets behind),
  whole_length (form_of_id header.id) header.len h.octets behind h.spell_len,
)

-- a length is read in one way
one_behind : (r : LengthRead) (m n : Len) (x y : List ℕ) → IsWholeLength r m x → IsWholeLength r n y → x ≡ y
one_behind r (Definite m) (Definite n) x y h k = let e : definite h.0 x ≡ definite k.0 y = sym h.1 ∙ k.1 in cc
one_behind r (Definite m) Indefinite x y h k = absurd (let e : definite h.0 x ≡ indefinite y = sym h.1 ∙ k in cc)
one_behind r Indefinite (Definite n) x y h k = absurd (let e : indefinite x ≡ definite k.0 y = sym h ∙ k.1 in cc)
one_behind r Indefinite Indefinite x y h k = let e : indefinite x ≡ indefinite y = sym h ∙ k in cc

-- no header is a proper prefix of another
no_header_in : (g h : Header) (c y : List ℕ) → IsHeader g c → IsHeader h (c ++ y) → y ≡ []
no_header_in g h c y a b =
    let p = whole_header_read g c y (c ++ y) refl a in
    let q = whole_header_read h (c ++ y) [] (c ++ y) (sym (append-nil (c ++ y))) b in
    let e : identified (tag_of_id g.id) (form_of_id g.id) p.0 ≡ identified (tag_of_id h.id) (form_of_id h.id) q.0 = sym p.1 ∙ q.1 in
    let form : form_of_id g.id ≡ form_of_id h.id = cc in
    let rest : p.0 ≡ q.0 = cc in
    let same : read_length (form_of_id g.id) p.0 ≡ read_length (form_of_id h.id) q.0 = ap (λ f. read_length f p.0) form ∙ ap (read_length (form_of_id h.id)) rest in
    one_behind (read_length (form_of_id g.id) p.0) g.len h.len y [] p.2 (subst (λ r. IsWholeLength r h.len []) (sym same) q.2)

-- no identifier begins
pub no_identifier_read : (b behind w : List ℕ) → IsTrue (are_octets b) → w ≡ b ++ behind → IsFault BadTag b → read_identifier w ≡ no_identifier
no_identifier_read b behind w ok e h = ap read_identifier e ∙ no_identifier_longer b behind (bad_tag_read b ok h)

last_apart : (u c x : List ℕ) (o : ℕ) → u ++ o ∷ [] ≡ c ++ x → (x ≡ []) ⊎ ((y : List ℕ) × (u ≡ c ++ y))
last_apart u [] x o e = inr (u, refl)
last_apart [] (a ∷ c) x o e = inl (empty c x (let f : [] ≡ c ++ x = cc in f))
  where
    empty : (c x : List ℕ) → [] ≡ c ++ x → x ≡ []
    empty [] x e = sym e
    empty (a ∷ c) x e = absurd cc
last_apart (a ∷ u) (b ∷ c) x o e =
    let f : u ++ o ∷ [] ≡ c ++ x = cc in
    let g : a ≡ b = cc in
    elim (last_apart u c x o f) [ inl n ↦ inl n | inr y ↦ inr (y.0, ap (λ z. a ∷ z) y.1 ∙ ap (λ z. z ∷ (c ++ y.0)) g) ]

nothing_after : (y r : List ℕ) → y ++ r ≡ [] → r ≡ []
nothing_after [] r e = e
nothing_after (a ∷ y) r e = absurd cc

-- no length begins after an identifier
pub no_length_read : (u : List ℕ) (o : ℕ) (behind w : List ℕ) (id : Id) → IsTrue (are_octets (u ++ o ∷ [])) → w ≡ (u ++ o ∷ []) ++ behind → IsPartHeader u
    → IsFault BadLength (u ++ o ∷ []) → BeginsWithId id (u ++ o ∷ []) → (rest : List ℕ) × Reads id w rest × (read_length (form_of_id id) rest ≡ no_length)
no_length_read u o behind w id ok e part h begins =
    let b = u ++ o ∷ [] in
    let none : (g : Header) (c x : List ℕ) → IsHeader g c → b ≡ c ++ x → ⊥ = λ g c x i s. elim (last_apart u c x o s) [
      | inl n ↦ h.0 g [] (subst (IsHeader g) (sym (append-nil b ∙ s ∙ ap (λ z. c ++ z) n ∙ append-nil c)) i)
      | inr y ↦ part.2 (nothing_after y.0 part.1 (no_header_in g part.0 c (y.0 ++ part.1) i
          (subst (IsHeader part.0) (ap (λ z. z ++ part.1) y.1 ∙ append_assoc c y.0 part.1) part.3)))
    ] in
    let q = bad_length_read b ok h none in
    let is : Reads id b begins.0 = id_read id b begins.0 begins.1 in
    let same : identified (tag_of_id id) (form_of_id id) begins.0 ≡ identified q.0 q.1 q.2 = sym is ∙ q.3 in
    let form : q.1 ≡ form_of_id id = cc in
    let rest : q.2 ≡ begins.0 = cc in
    let wrong : read_length (form_of_id id) begins.0 ≡ no_length = ap (λ r. read_length (form_of_id id) r) (sym rest) ∙ ap (λ f. read_length f q.2) (sym form) ∙ q.4 in
    (begins.0 ++ behind, ap read_identifier e ∙ identifier_longer b behind (tag_of_id id) (form_of_id id) begins.0 is, no_length_longer (form_of_id id) begins.0 behind wrong)

-- a part of a header without a whole identifier, and with one
pub part_identifier_read : (w : List ℕ) → IsTrue (are_octets w) → IsPartHeader w → (HasWholeId w → ⊥) → read_identifier w ≡ part_identifier
part_identifier_read w ok part none = elim (part_header_read w ok part) [
  | inl e ↦ e
  | inr q ↦
      let is = read_is_identifier w q.0 q.1 q.2 ok q.3 in
      absurd (none (record { class = q.0.class; constructed = q.1; number = q.0.number; valid = is.0 }, (q.2, is.1)))
]

pub part_length_read : (w : List ℕ) (id : Id) → IsTrue (are_octets w) → IsPartHeader w → BeginsWithId id w → (rest : List ℕ) × Reads id w rest × (read_length (form_of_id id) rest ≡ part_length)
part_length_read w id ok part begins =
    let is : Reads id w begins.0 = id_read id w begins.0 begins.1 in
    elim (part_header_read w ok part) [
      | inl e ↦ absurd (let f : identified (tag_of_id id) (form_of_id id) begins.0 ≡ part_identifier = sym is ∙ e in cc)
      | inr q ↦
          let same : identified (tag_of_id id) (form_of_id id) begins.0 ≡ identified q.0 q.1 q.2 = sym is ∙ q.3 in
          let form : q.1 ≡ form_of_id id = cc in
          let rest : q.2 ≡ begins.0 = cc in
          (begins.0, is, ap (λ r. read_length (form_of_id id) r) (sym rest) ∙ ap (λ f. read_length f q.2) (sym form) ∙ q.4)
    ]

-- a length in the short form, after an identifier of one octet
pub short_length : (f : Bool) (w : List ℕ) → 2 ≤ length w → slice_index_or w 1 0 < 128 → read_length f (drop 1 w) ≡ definite (slice_index_or w 1 0) (drop 2 w)
short_length f (a ∷ (n ∷ w)) h short = let e : nat_lt n 128 ≡ true = grind (arith, short) in rw e refl
short_length f _ h short = absurd (omega (arith, h))

-- a length in four octets
pub four_length : (f : Bool) (w : List ℕ) → 6 ≤ length w → slice_get w 1 ≡ Some 132
    → read_length f (drop 1 w) ≡ definite (((slice_index_or w 2 0 * 256 + slice_index_or w 3 0) * 256 + slice_index_or w 4 0) * 256 + slice_index_or w 5 0) (drop 6 w)
four_length f (i ∷ k ∷ a ∷ b ∷ c ∷ d ∷ w) h e =
    let first : k ≡ 132 = cc in
    let there : nat_le 4 (length (a ∷ b ∷ c ∷ d ∷ w)) ≡ true = grind arith in
    let front : 0 + a ≡ a = omega arith in
    rw first (rw there (ap (λ n. definite (((n * 256 + b) * 256 + c) * 256 + d) w) front))
four_length f _ h e = absurd (omega (arith, h))

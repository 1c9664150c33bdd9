-- How headers that are read octet by octet are judged.
use Rattle.std.proofs.Common.{◌≡◌, ◌⊎◌, ℕ, min, Bool, List, [], ◌∷◌, ◌++◌, IsTrue, refl, sym, ap, subst, ◌∙◌, inl, inr, append_assoc, append-nil, lit≤}
use Rattle.ber_core.specs.declared.id.Id.{Id}
use Rattle.ber_core.specs.declared.header.Header.{Header}
use Rattle.ber_core.specs.declared.header.HeaderFault.TheVariants.{BadTag, BadLength}
use Rattle.ber_core.specs.declared.header.Len.{Len}
use Rattle.ber_core.specs.declared.header.Len.TheVariants.{Definite, Indefinite}
use Rattle.ber_core.specs.Header.{SpellsLen, IsHeader, IsPartHeader, IsFault}
use Rattle.ber_core.specs.Id.{tag_of_id, id_octets}
use Rattle.ber_tree.specs.Identifier.{Tag, identifier, HasIdentifier}
use Rattle.ber_tree.specs.Length.{IsLength, short}
use Rattle.ber_core.proofs.Identifiers.{identifier_unique}
use Rattle.ber_core.proofs.Lengths.{length_unique}
use Rattle.ber_tree.proofs.Lists.{cells}
use Rattle.ber_core.proofs.Trees.{no_length_128}
use Rattle.ber_tree.specs.Octets.{are_octets}
use Rattle.ber_core.specs.Reading.{IdentifierRead, identified, part_identifier, no_identifier, read_identifier, LengthRead, definite, indefinite, part_length, no_length, read_length}
use Rattle.ber_core.proofs.PartHeaders.{completing, none_begins, part_begins, no_length_begins, part_begins_length}
use Rattle.ber_core.proofs.ReadOctets.{identifier_read, read_is_identifier, read_is_length, read_is_indefinite, octets_right}

abbrev id_of : (t : Tag) (f : Bool) → HasIdentifier t f → Id
id_of t f h = record { class = t.class; constructed = f; number = t.number; valid = h }

-- BadTag is what is judged where no identifier begins
pub bad_tag_read : (b : List ℕ) → IsTrue (are_octets b) → IsFault BadTag b → read_identifier b ≡ no_identifier
bad_tag_read b ok h = go (read_identifier b) refl
  where
    go : (x : IdentifierRead) → read_identifier b ≡ x → read_identifier b ≡ no_identifier
    go no_identifier e = e
    go part_identifier e =
        let q = part_begins b ok e in
        absurd (h.0 (record { id = id_of q.0 q.1 q.2; len = Definite 0 }) (completing b ∷ 0 ∷ []) (record {
          octets = 0 ∷ [];
          spell_len = (0, short (lit≤ tt), refl);
          joined = sym (append_assoc b (completing b ∷ []) (0 ∷ [])) ∙ ap (λ z. z ++ 0 ∷ []) (q.3 ∙ append-nil (identifier q.0 q.1));
        }))
    go (identified t f r) e = let q = read_is_identifier b t f r ok e in absurd (h.1 (id_of t f q.0, (r, q.1)))

-- BadLength is what is judged where an identifier is, and no length begins after it
pub bad_length_read : (b : List ℕ) → IsTrue (are_octets b) → IsFault BadLength b → ((h : Header) (c x : List ℕ) → IsHeader h c → b ≡ c ++ x → ⊥)
    → (t : Tag) × (f : Bool) × (r : List ℕ) × (read_identifier b ≡ identified t f r) × (read_length f r ≡ no_length)
bad_length_read b ok h none =
    let id = h.1.0 in let r = h.1.1.0 in let s = h.1.1.1 in (
      tag_of_id id,
      id.constructed,
      r,
      ap read_identifier s ∙ identifier_read (tag_of_id id) id.constructed r id.valid,
      go id r s (read_length id.constructed r) refl,
    )
  where
    go : (id : Id) (r : List ℕ) → b ≡ id_octets id ++ r → (x : LengthRead) → read_length id.constructed r ≡ x → read_length id.constructed r ≡ no_length
    go id r s no_length e = e
    go id r s part_length e =
        let q = part_begins_length id.constructed r (octets_right (id_octets id) r (subst (λ z. IsTrue (are_octets z)) s ok)) e in
        absurd (h.0 (record { id = id; len = Definite (min q.0 4_294_967_295) }) q.2 (record {
          octets = q.1;
          spell_len = (q.0, q.3, refl);
          joined = ap (λ z. z ++ q.2) s ∙ append_assoc (id_octets id) r q.2 ∙ ap (λ z. id_octets id ++ z) q.4;
        }))
    go id r s (definite n v) e =
        let q = read_is_length id.constructed r n v (octets_right (id_octets id) r (subst (λ z. IsTrue (are_octets z)) s ok)) e in
        absurd (none (record { id = id; len = Definite (min n 4_294_967_295) }) (id_octets id ++ q.0) v (record { octets = q.0; spell_len = (n, q.1, refl); joined = refl })
        (s ∙ ap (λ z. id_octets id ++ z) q.2 ∙ sym (append_assoc (id_octets id) q.0 v)))
    go id r s (indefinite v) e =
        let q = read_is_indefinite id.constructed r v (octets_right (id_octets id) r (subst (λ z. IsTrue (are_octets z)) s ok)) e in
        absurd (none (record { id = id; len = Indefinite }) (id_octets id ++ 128 ∷ []) v (record { octets = 128 ∷ []; spell_len = (q.0, refl); joined = refl })
        (s ∙ ap (λ z. id_octets id ++ z) q.1 ∙ sym (append_assoc (id_octets id) (128 ∷ []) v)))

no_rest : (a b : List ℕ) → a ++ b ≡ [] → b ≡ []
no_rest [] b e = e
no_rest (x ∷ a) b e = absurd cc

-- a part of a header: its identifier is a part, or its length is
pub part_header_read : (b : List ℕ) → IsTrue (are_octets b) → IsPartHeader b
    → (read_identifier b ≡ part_identifier) ⊎ ((t : Tag) × (f : Bool) × (r : List ℕ) × (read_identifier b ≡ identified t f r) × (read_length f r ≡ part_length))
part_header_read b ok h = go (read_identifier b) refl
  where
    lengths : (len : Len) (f : Bool) (r os : List ℕ) → IsTrue (are_octets r) → r ++ h.1 ≡ os → SpellsLen f len os → (x : LengthRead) → read_length f r ≡ x → read_length f r ≡ part_length
    lengths len f r os o s k part_length e = e
    lengths (Definite m) f r os o s k no_length e = absurd (no_length_begins f r k.0 os [] h.1 e k.1 (s ∙ sym (append-nil os)))
    lengths Indefinite f [] os o s k no_length e = absurd (let q : part_length ≡ no_length = e in cc)
    lengths Indefinite f (a ∷ r) os o s k no_length e =
        let q = cells (s ∙ k.1) in
        absurd (h.2 (no_rest r h.1 q.1))
    lengths len f r os o s k (definite n v) e =
        let q = read_is_length f r n v o e in
        let u : q.0 ++ (v ++ h.1) ≡ os = sym (append_assoc q.0 v h.1) ∙ ap (λ z. z ++ h.1) (sym q.2) ∙ s in
        absurd (whole len n q.0 v os q.1 u k)
      where
        whole : (len : Len) (n : ℕ) (c v os : List ℕ) → IsLength n c → c ++ (v ++ h.1) ≡ os → SpellsLen f len os → ⊥
        whole (Definite m) n c v os i u k = h.2 (no_rest v h.1 ((length_unique n k.0 c os (v ++ h.1) [] i k.1 (u ∙ sym (append-nil os))).2))
        whole Indefinite n c v os i u k = no_length_128 n c (v ++ h.1) [] i (u ∙ k.1)
    lengths (Definite m) f r os o s k (indefinite v) e =
        let q = read_is_indefinite f r v o e in
        absurd (no_length_128 k.0 os [] (v ++ h.1) k.1 (append-nil os ∙ sym s ∙ ap (λ z. z ++ h.1) q.1))
    lengths Indefinite f r os o s k (indefinite v) e =
        let q = read_is_indefinite f r v o e in
        let u : 128 ∷ (v ++ h.1) ≡ 128 ∷ [] = ap (λ z. z ++ h.1) (sym q.1) ∙ s ∙ k.1 in
        absurd (h.2 (no_rest v h.1 ((cells u).1)))

    go : (x : IdentifierRead) → read_identifier b ≡ x
        → (read_identifier b ≡ part_identifier) ⊎ ((t : Tag) × (f : Bool) × (r : List ℕ) × (read_identifier b ≡ identified t f r) × (read_length f r ≡ part_length))
    go part_identifier e = inl e
    go no_identifier e = let k = h.3 in absurd (none_begins b (tag_of_id h.0.id) h.0.id.constructed k.octets h.1 e h.0.id.valid k.joined)
    go (identified t f r) e =
        let k = h.3 in
        let q = read_is_identifier b t f r ok e in
        let u = identifier_unique t (tag_of_id h.0.id) f h.0.id.constructed (r ++ h.1) k.octets q.0 h.0.id.valid
        (sym (append_assoc (identifier t f) r h.1) ∙ ap (λ z. z ++ h.1) (sym q.1) ∙ k.joined) in
        inr (
          t,
          f,
          r,
          e,
          lengths h.0.len f r k.octets (octets_right (identifier t f) r (subst (λ z. IsTrue (are_octets z)) q.1 ok)) u.2
              (subst (λ g. SpellsLen g h.0.len k.octets) (sym u.1) k.spell_len) (read_length f r) refl,
        )

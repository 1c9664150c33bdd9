-- The first octet of an APDU's normal form is the identifier of its number.
use Rattle.std.proofs.Common.{◌≡◌, ℕ, zero, suc, ◌+◌, ◌-◌, ◌%◌, ◌<◌, Bool, true, false, nat_lt, List, [], ◌∷◌, ◌++◌, length, Some, None, refl, sym, ap, subst, ◌∙◌, arith, lit<, slice_get}
use Rattle.ber_core.specs.Der.{encoding, encodings}
use Rattle.ber_tree.specs.Identifier.{Tag, identifier}
use Rattle.ber_tree.specs.Length.{shortest_length}
use Rattle.ber_tree.specs.Tree.{Tree, Trees, constructed, none}
use Rattle.ber_tree.specs.declared.class.Class.TheVariants.{Application}
use Rattle.ill_schema.specs.Apdu.{Apdu, SpellsApdu, normal_form_in, root}
use Rattle.ill_schema.specs.Content.{Content, simple, sequence, list, alternative, foreign}
use Rattle.ill_schema.specs.Normal.{normal_tree}
use Rattle.ill_schema.specs.Presence.{IsCarried}
use Rattle.ill_schema.specs.Profiles.{profile_of}
use Rattle.ill_tables.specs.Table.{rows_of}
use Rattle.ill_schema.specs.Tagging.{explicit_or_bare, tagging, sequence_tag}
use Rattle.ill_tables.specs.declared.node.NodeId.{NodeId}
use Rattle.ill_tables.specs.declared.part.Row.{Row}
use Rattle.ill_tables.specs.declared.profile.Profile.{Profile as Named}
use Rattle.ill_tables.specs.declared.profile.Profile.TheVariants.{Two, Module}

abbrev apdu_tag : ℕ → Tag
apdu_tag n = record { class = Application; number = n }

-- the rows of ILL-APDU that are carried have their numbers as tags
abbrev AreApdus : Named → ℕ → List Row → Type 0
AreApdus q k [] = Unit {0}
AreApdus q k (row ∷ rows) = (IsCarried row.presence → tagging (profile_of q) row ≡ explicit_or_bare (apdu_tag k)) × AreApdus q (suc k) rows

all_apdus : (q : Named) → AreApdus q 1 (rows_of (root (profile_of q)))
all_apdus Two = (λ i. refl, (λ i. absurd i, (λ i. refl, (λ i. refl, (λ i. refl, (λ i. refl, (λ i. refl, (λ i. refl, (λ i. refl, (λ i. refl, (λ i. refl, (λ i. refl, (λ i. refl, (λ i. refl, (λ i. refl, (λ i. refl, (λ i. refl, (λ i. refl, (λ i. absurd i, (λ i. refl, tt))))))))))))))))))))
all_apdus Module = (λ i. refl, (λ i. refl, (λ i. refl, (λ i. refl, (λ i. refl, (λ i. refl, (λ i. refl, (λ i. refl, (λ i. refl, (λ i. refl, (λ i. refl, (λ i. refl, (λ i. refl, (λ i. refl, (λ i. refl, (λ i. refl, (λ i. refl, (λ i. refl, (λ i. refl, (λ i. refl, tt))))))))))))))))))))

apdu_at : (q : Named) (k : ℕ) (rows : List Row) → AreApdus q k rows → (n : ℕ) (row : Row) → slice_get rows n ≡ Some row → IsCarried row.presence → tagging (profile_of q) row ≡ explicit_or_bare (apdu_tag (k + n))
apdu_at q k [] h n row e i = absurd cc
apdu_at q k (x ∷ rows) h zero row e i =
    let same : x ≡ row = cc in
    subst (λ r. tagging (profile_of q) r ≡ explicit_or_bare (apdu_tag k)) same (h.0 (subst (λ r. IsCarried r.presence) (sym same) i))
    ∙ ap (λ m. explicit_or_bare (apdu_tag m)) (omega arith)
apdu_at q k (x ∷ rows) h (suc n) row e i = apdu_at q (suc k) rows h.1 n row e i ∙ ap (λ m. explicit_or_bare (apdu_tag m)) (omega arith)

few : (rows : List Row) (n : ℕ) (row : Row) → slice_get rows n ≡ Some row → n < length rows
few [] n row e = absurd cc
few (x ∷ rows) zero row e = omega arith
few (x ∷ rows) (suc n) row e = omega (arith, few rows n row e)

apdus_count : (q : Named) → length (rows_of (root (profile_of q))) < 31
apdus_count Two = lit< tt
apdus_count Module = lit< tt

-- under an explicit tag is one tree
tagged : (c : Content) (node : NodeId) (t : Tag) → (ts : Trees) × (normal_tree c node (explicit_or_bare t) ≡ constructed t ts)
tagged (simple v) node t = (_, refl)
tagged (sequence es) node t = (_, refl)
tagged (list is) node t = (_, refl)
tagged (alternative n c) node t = (_, refl)
tagged (foreign V) node t = (_, refl)

one_octet : (n : ℕ) → n < 31 → (rest : List ℕ) × (identifier (apdu_tag n) true ≡ (96 + n) ∷ rest)
one_octet n h = go (nat_lt n 31) refl
  where
    go : (b : Bool) → nat_lt n 31 ≡ b → (rest : List ℕ) × (identifier (apdu_tag n) true ≡ (96 + n) ∷ rest)
    go true q = ([], rw q refl)
    go false q = absurd (grind (arith, q, h))

pub first_octet : (q : Named) (a : Apdu) (b : List ℕ) → SpellsApdu (profile_of q) a b → (rest : List ℕ) × (normal_form_in (profile_of q) a ≡ (96 + a.number) ∷ rest) × (a.number < 31)
first_octet q a b h =
    let rows = rows_of (root (profile_of q)) in
    let m = h.encodes.means in
    let some = m.0 in
    let n = a.number - 1 in
    let row = m.1.0 in
    let is = m.1.1.1 in
    let tag = apdu_at q 1 rows (all_apdus q) n row is m.1.1.2 in
    let small = few rows n row is in
    let most : length rows < 31 = apdus_count q in
    let number : 1 + n ≡ a.number = omega (arith, some) in
    let under = tagged a.body row.node (apdu_tag (1 + n)) in
    let tree : normal_form_in (profile_of q) a ≡ encoding (constructed (apdu_tag (1 + n)) under.0) =
    ap (λ o. encoding (elim o as (λ _. Tree) [ Some r ↦ normal_tree a.body r.node (tagging (profile_of q) r) | None ↦ constructed sequence_tag none ])) is
    ∙ ap (λ g. encoding (normal_tree a.body row.node g)) tag ∙ ap encoding under.1 in
    let octet = one_octet (1 + n) (omega (arith, small, most)) in
    let after = shortest_length (length (encodings under.0)) ++ encodings under.0 in
    (octet.0 ++ after, tree ∙ ap (λ x. x ++ after) octet.1 ∙ ap (λ k. (96 + k) ∷ (octet.0 ++ after)) number, omega (arith, small, number, most))

pub number_is : (n : ℕ) → n < 31 → (96 + n) % 32 ≡ n
number_is n h = grind (arith, h)

-- What is due in profile 2 is due in the module profile, under the twins of its nodes: but for what is left out, and for the first
-- component of the types whose tags are explicit in the module alone.
use Rattle.std.proofs.Common.{◌≡◌, ◌⊎◌, zero, suc, ◌-◌, Bool, true, false, ◌&&◌, not, List, [], ◌∷◌, Option, Some, None, IsTrue, refl, sym, ap, ap₂, subst, ◌∙◌, inl, inr, map}
use Rattle.ber_tree.specs.declared.class.Class.{Class}
use Rattle.ber_tree.specs.Identifier.{Tag}
use Rattle.ber_tree.proofs.Lists.{two_cases}
use Rattle.ber_leaf.specs.Leaf.{enumerated}
use Rattle.ber_leaf.specs.Profile.{profile_two, profile_three}
use Rattle.ill_tables.specs.declared.node.Kind.{Kind}
use Rattle.ill_tables.specs.declared.node.NodeId.{NodeId}
use Rattle.ill_tables.specs.declared.node.NodeId.TheVariants.{Boolean, UnitsPerMedium, WillSupply}
use Rattle.ill_tables.specs.declared.part.PartId.{PartId}
use Rattle.ill_tables.specs.declared.part.Presence.{Presence}
use Rattle.ill_tables.specs.Table.{kind_of, twin}
use Rattle.ill_schema.specs.Lift.{is_retagged}
use Rattle.ill_schema.specs.Tagging.{Tagging, untagged, same_tag, sequence_tag}
use Rattle.ill_schema.proofs.Lifted.{list_plain}
use Rattle.ill_schema.proofs.Twins.{kinds_stay}
use Rattle.ber_core.specs.Foreign.{foreign_levels}
use Rattle.ill_refusals.specs.Element.{Component, node_components, Element, leaf, sequence, list, wrapper, loose_wrapper, segment, foreign, left_out, Start, start, starts_by}
use Rattle.ill_refusals.specs.Next.{Next, rows, items, either, segments, anything, foreigns, Due, part, octets, any, element_of, next_of, due_by, due, missing, first_mandatory, opening, is_last}
use Rattle.ill_refusals.specs.Retagged.{holds_retagged}
use Rattle.ill_refusals.proofs.Rows.{starting, due-found, due-skip, missing-skip, must_ends, must_stops, same_tag-is}
use Rattle.ill_refusals.proofs.WholeElements.{IsProper}
use Rattle.ill_refusals.proofs.OpenElements.{IsProperNext}

-- ---- what the module has for a component and an element

abbrev pub mirror_component : Component → Component
mirror_component c = record { part = record { node = twin c.part.node; row = c.part.row }; presence = c.presence; tagging = c.tagging; node = twin c.node }

abbrev pub mirror : Element → Element
mirror (leaf l) = leaf l
mirror (sequence node) = sequence (twin node)
mirror (list node) = list (twin node)
mirror (wrapper c) = wrapper (mirror_component c)
mirror (loose_wrapper c) = loose_wrapper (mirror_component c)
mirror (segment tag) = segment tag
mirror (foreign n) = foreign n
mirror (left_out x) = left_out x

-- any element for one that is left out
abbrev pub mirror_or : Element → Element → Element
mirror_or (left_out x) e = e
mirror_or d e = mirror d

abbrev pub is_left_out : Element → Bool
is_left_out (left_out x) = true
is_left_out e = false

pub mirror_cases : (d e : Element) → e ≡ mirror_or d e → IsTrue (is_left_out d) ⊎ (e ≡ mirror d)
mirror_cases (left_out x) e h = inl refl
mirror_cases (leaf l) e h = inr h
mirror_cases (sequence node) e h = inr h
mirror_cases (list node) e h = inr h
mirror_cases (wrapper c) e h = inr h
mirror_cases (loose_wrapper c) e h = inr h
mirror_cases (segment tag) e h = inr h
mirror_cases (foreign n) e h = inr h

abbrev pub mirror_starts : List Start → List Start → List Start
mirror_starts [] ts = []
mirror_starts (s ∷ ss) [] = s ∷ []
mirror_starts (s ∷ ss) (t ∷ ts) = start s.tag (mirror_or s.element t.element) ∷ mirror_starts ss ts

-- the starts of the one component are those of the other, for the twins
abbrev pub SameStarts : Component → Component → Type 0
SameStarts c d = starts_by true d ≡ mirror_starts (starts_by true c) (starts_by true d)

-- ---- starts by a tag

starting-yes : (t : Tag) (s : Start) (ss : List Start) → same_tag s.tag t ≡ true → starting t (s ∷ ss) ≡ Some s
starting-yes t s ss h = rw h refl

starting-no : (t : Tag) (s : Start) (ss : List Start) → same_tag s.tag t ≡ false → starting t (s ∷ ss) ≡ starting t ss
starting-no t s ss h = rw h refl

-- with a tag both have a start or none
pub both_start : (t : Tag) (ss ts : List Start) → ts ≡ mirror_starts ss ts
    → ((s : Start) × (u : Start) × (starting t ss ≡ Some s) × (starting t ts ≡ Some u) × (u.element ≡ mirror_or s.element u.element))
    ⊎ ((starting t ss ≡ None) × (starting t ts ≡ None))
both_start t [] ts h = inr (refl, ap (starting t) h)
both_start t (s ∷ ss) [] h = absurd cc
both_start t (s ∷ ss) (u ∷ us) h =
    let first : u ≡ start s.tag (mirror_or s.element u.element) = cc in
    let rest : us ≡ mirror_starts ss us = cc in
    let tag : u.tag ≡ s.tag = ap (λ (x : Start). x.tag) first in
    elim (two_cases (same_tag s.tag t)) [
      | inl e ↦ inl (s, u, starting-yes t s ss e, starting-yes t u us (ap (λ x. same_tag x t) tag ∙ e), ap (λ (x : Start). x.element) first)
      | inr e ↦
          let no = starting-no t s ss e in
          let nu = starting-no t u us (ap (λ x. same_tag x t) tag ∙ e) in
          elim (both_start t ss us rest) [
            | inl x ↦ inl (x.0, x.1, no ∙ x.2, nu ∙ x.3, x.4)
            | inr x ↦ inr (no ∙ x.0, nu ∙ x.1)
          ]
    ]

-- a component without a tag of its own, by its node
abbrev plain : PartId → NodeId → Component
plain x node = record { part = x; presence = Presence.Must; tagging = untagged; node = node }

plain_starts : (a b : PartId) (node : NodeId) → SameStarts (plain a node) (plain b (twin node))
plain_starts a b Boolean = refl
plain_starts a b _ = refl

pub inner_starts : (c : Component) → c.presence ≡ Presence.Must → c.tagging ≡ untagged → SameStarts c (mirror_component c)
inner_starts c e f =
    let is : c ≡ plain c.part c.node = ap₂ (λ (x : Presence) (y : Tagging). let z : Component = record { part = c.part; presence = x; tagging = y; node = c.node } in z) e f in
    subst (λ z. SameStarts z (mirror_component z)) (sym is) (plain_starts c.part (mirror_component c).part c.node)

-- ---- rows

-- what the module has for a component: any optional one where that is left out
abbrev beside : Presence → Component → Component → Component
beside Presence.LeftOut c d = record { part = d.part; presence = Presence.May; tagging = d.tagging; node = d.node }
beside _ c d = mirror_component c

abbrev optional : Component → Component
optional d = record { part = d.part; presence = Presence.May; tagging = d.tagging; node = d.node }

-- what it has for components, and other optional ones after them
abbrev beside_all : List Component → List Component → List Component
beside_all [] ds = map optional ds
beside_all (c ∷ cs) [] = c ∷ []
beside_all (c ∷ cs) (d ∷ ds) = beside c.presence c d ∷ beside_all cs ds

abbrev loose_starts : Component → List Start
loose_starts c = starts_by true c

abbrev starts_beside : List Component → List Component → List (List Start)
starts_beside [] ds = map loose_starts ds
starts_beside (c ∷ cs) [] = [] ∷ []
starts_beside (c ∷ cs) (d ∷ ds) = mirror_starts (loose_starts c) (loose_starts d) ∷ starts_beside cs ds

pub record Beside (cs ds : List Component) : Type 0 where
  pub are : ds ≡ beside_all cs ds
  pub begin : map loose_starts ds ≡ starts_beside cs ds

abbrev has_rows : Kind → Bool
has_rows Kind.Seq = true
has_rows Kind.SeqOf = true
has_rows _ = false

abbrev suits : NodeId → Bool
suits node = has_rows (kind_of node) && not (is_retagged node)

abbrev components_where : Bool → List Component → List Component
components_where true cs = cs
components_where false cs = []

abbrev starts_where : Bool → List (List Start) → List (List Start)
starts_where true ss = ss
starts_where false ss = []

all_are : (node : NodeId) → components_where (suits node) (node_components true (twin node)) ≡ components_where (suits node) (beside_all (node_components true node) (node_components true (twin node)))
all_are Boolean = refl
all_are _ = refl

all_begin : (node : NodeId) → starts_where (suits node) (map loose_starts (node_components true (twin node))) ≡ starts_where (suits node) (starts_beside (node_components true node) (node_components true (twin node)))
all_begin Boolean = refl
all_begin _ = refl

-- the components of a node and those of its twin
pub node_beside : (node : NodeId) → IsTrue (suits node) → Beside (node_components true node) (node_components true (twin node))
node_beside node h =
    let cs = node_components true node in
    let ds = node_components true (twin node) in
    record {
      are = subst (λ b. components_where b ds ≡ components_where b (beside_all cs ds)) h (all_are node);
      begin = subst (λ b. starts_where b (map loose_starts ds) ≡ starts_where b (starts_beside cs ds)) h (all_begin node);
    }

rest_beside : (c : Component) (cs : List Component) (d : Component) (ds : List Component) → Beside (c ∷ cs) (d ∷ ds) → Beside cs ds
rest_beside c cs d ds b = let x = b.are in let y = b.begin in record { are = cc; begin = cc }

first_beside : (c : Component) (cs : List Component) (d : Component) (ds : List Component) → Beside (c ∷ cs) (d ∷ ds) → (d ≡ beside c.presence c d) × SameStarts c d
first_beside c cs d ds b = let x = b.are in let y = b.begin in (cc, cc)

-- the wrapped component, which has no tag of its own
pub inner_beside : (c : Component) → c.presence ≡ Presence.Must → c.tagging ≡ untagged → Beside (c ∷ []) (mirror_component c ∷ [])
inner_beside c e f = record {
  are = ap (λ x. beside x c (mirror_component c) ∷ []) (sym e);
  begin = ap (λ z. z ∷ []) (inner_starts c e f);
}

-- ---- what may come next

abbrev pub Mirrored : Next → Next → Type 0
Mirrored (rows cs) n = (ds : List Component) × (n ≡ rows ds) × Beside cs ds
Mirrored (items c) n = (d : Component) × (n ≡ items d) × SameStarts c d
Mirrored (either c) n = IsTrue (not (is_retagged c.node)) × (n ≡ either (mirror_component c))
Mirrored (segments tag) n = n ≡ segments tag
Mirrored (anything c) n = (d : Component) × (n ≡ anything d)
Mirrored (foreigns k) n = n ≡ foreigns k

-- what is due in profile 2 is due in the module, too, unless it is left out
abbrev pub IsDueToo : Tag → Next → Due → Type 0
IsDueToo t n d = IsTrue (is_left_out (element_of d)) ⊎ ((e : Due) × (due profile_three t n ≡ Some e) × (element_of e ≡ mirror (element_of d)) × Mirrored (next_of d) (next_of e))

not_must : (pr : Presence) (c d : Component) → c.presence ≡ pr → d ≡ beside pr c d → (pr ≡ Presence.Must → ⊥) → d.presence ≡ Presence.Must → ⊥
not_must Presence.Must c d f e n h = n refl
not_must Presence.May c d f e n h = let q : Presence.May ≡ Presence.Must = sym f ∙ sym (ap (λ (x : Component). x.presence) e) ∙ h in cc
not_must (Presence.Default x) c d f e n h = let q : Presence.Default x ≡ Presence.Must = sym f ∙ sym (ap (λ (x : Component). x.presence) e) ∙ h in cc
not_must Presence.LeftOut c d f e n h = let q : Presence.May ≡ Presence.Must = sym (ap (λ (x : Component). x.presence) e) ∙ h in cc

rows_due : (t : Tag) (cs ds : List Component) (d : Due) → Beside cs ds → due_by true t cs ≡ Some d → IsDueToo t (rows ds) d
rows_due t [] ds d b h = absurd cc
rows_due t (c ∷ cs) [] d b h = absurd (let q = b.are in cc)
rows_due t (c ∷ cs) (x ∷ ds) d b h =
    let first = first_beside c cs x ds b in
    let rest = rest_beside c cs x ds b in
    elim (both_start t (loose_starts c) (loose_starts x) first.1) [
      | inl s ↦
          let q : Some (part c s.0.element (rows cs)) ≡ Some d = sym (due-found profile_two t c cs s.0 s.2) ∙ h in
          let r : part c s.0.element (rows cs) ≡ d = cc in
          subst (λ z. IsDueToo t (rows (x ∷ ds)) z) r (elim (mirror_cases s.0.element s.1.element s.4) [
            | inl l ↦ inl l
            | inr m ↦ inr (part x s.1.element (rows ds), due-found profile_three t x ds s.1 s.3, m, (ds, refl, rest))
          ])
      | inr n ↦
          let must = must_stops profile_two t c cs d n.0 h in
          let later = rows_due t cs ds d rest (sym (due-skip profile_two t c cs c.presence refl must n.0) ∙ h) in
          elim later [
            | inl l ↦ inl l
            | inr m ↦ inr (m.0, due-skip profile_three t x ds x.presence refl (not_must c.presence c x refl first.0 must) n.1 ∙ m.1, m.2, m.3)
          ]
    ]

abbrev either_body : Component → Tag → Bool → Option Due
either_body c t b = elim b as (λ _. Option Due) [ true ↦ due_by true t (c ∷ []) | false ↦ due_by true t (node_components true c.node) ]

as_either : (c : Component) (t : Tag) (b : Bool) (cs : List Component) (d : Due) → same_tag t sequence_tag ≡ b → either_body c t b ≡ due_by true t cs → IsDueToo t (rows cs) d → IsDueToo t (either c) d
as_either c t b cs d e f (inl l) = inl l
as_either c t b cs d e f (inr m) = inr (m.0, ap (either_body c t) e ∙ f ∙ m.1, m.2, m.3)

seq_suits : (node : NodeId) → kind_of node ≡ Kind.Seq → IsTrue (not (is_retagged node)) → IsTrue (suits node)
seq_suits node e h = ap (λ k. has_rows k && not (is_retagged node)) e ∙ h

list_suits : (node : NodeId) → kind_of node ≡ Kind.SeqOf → IsTrue (suits node)
list_suits node e = ap (λ k. has_rows k && not (is_retagged node)) e ∙ list_plain node e

abbrev items_body : Component → Option Start → Option Due
items_body c o = elim o as (λ _. Option Due) [ Some s ↦ Some (part c s.element (items c)) | None ↦ None ]

pub next_due : (t : Tag) (n m : Next) (d : Due) → IsProperNext profile_two n → Mirrored n m → due profile_two t n ≡ Some d → IsDueToo t m d
next_due t (rows cs) m d ok k h = subst (λ z. IsDueToo t z d) (sym k.1) (rows_due t cs k.0 d k.2 h)
next_due t (items c) m d ok k h = subst (λ z. IsDueToo t z d) (sym k.1) (elim (both_start t (loose_starts c) (loose_starts k.0) k.2) [
  | inl s ↦
      let q : Some (part c s.0.element (items c)) ≡ Some d = sym (ap (items_body c) s.2) ∙ h in
      let r : part c s.0.element (items c) ≡ d = cc in
      subst (λ z. IsDueToo t (items k.0) z) r (elim (mirror_cases s.0.element s.1.element s.4) [
        | inl l ↦ inl l
        | inr e ↦ inr (part k.0 s.1.element (items k.0), ap (items_body k.0) s.3, e, (k.0, refl, k.2))
      ])
  | inr s ↦ absurd (let q : None ≡ Some d = sym (ap (items_body c) s.0) ∙ h in cc)
])
next_due t (either c) m d ok k h = subst (λ z. IsDueToo t z d) (sym k.1) (elim (two_cases (same_tag t sequence_tag)) [
  | inl e ↦ as_either (mirror_component c) t true (mirror_component c ∷ []) d e refl (rows_due t (c ∷ []) (mirror_component c ∷ []) d (inner_beside c ok.0 ok.1) (sym (ap (either_body c t) e) ∙ h))
  | inr e ↦ as_either (mirror_component c) t false (node_components true (twin c.node)) d e refl
      (rows_due t (node_components true c.node) (node_components true (twin c.node)) d (node_beside c.node (seq_suits c.node ok.2 k.0)) (sym (ap (either_body c t) e) ∙ h))
])
next_due t (segments tag) m d ok k h = subst (λ z. IsDueToo t z d) (sym k) (elim (two_cases (same_tag t tag)) [
  | inl e ↦
      let q : due profile_two t (segments tag) ≡ Some (octets tag) = rw e refl in
      let r : Some (octets tag) ≡ Some d = sym q ∙ h in
      let s : octets tag ≡ d = cc in
      subst (λ z. IsDueToo t (segments tag) z) s (inr (octets tag, q, refl, refl))
  | inr e ↦
      let q : due profile_two t (segments tag) ≡ None = rw e refl in
      absurd (let r : None ≡ Some d = sym q ∙ h in cc)
])
next_due t (anything c) m d ok k h = subst (λ z. IsDueToo t z d) (sym k.1)
    (let s : any (foreign_levels - 1) (rows []) ≡ d = cc in subst (λ z. IsDueToo t (anything k.0) z) s (inr (any (foreign_levels - 1) (rows []), refl, refl, ([], refl, record { are = refl; begin = refl }))))
next_due t (foreigns zero) m d ok k h = absurd cc
next_due t (foreigns (suc n)) m d ok k h = subst (λ z. IsDueToo t z d) (sym k)
    (let s : any n (foreigns (suc n)) ≡ d = cc in subst (λ z. IsDueToo t (foreigns (suc n)) z) s (inr (any n (foreigns (suc n)), refl, refl, refl)))

-- ---- what is missing, and what may follow

mirrored_mandatory : (cs ds : List Component) → Beside cs ds → first_mandatory cs ≡ None → first_mandatory ds ≡ None
mirrored_mandatory [] [] b h = refl
mirrored_mandatory [] (x ∷ ds) b h =
    let e = b.are in
    let f : x ≡ optional x = cc in
    let g : ds ≡ map optional ds = cc in
    let i : map loose_starts ds ≡ starts_beside [] ds = refl in
    missing-skip profile_three x ds x.presence refl (λ q. let r : Presence.May ≡ Presence.Must = sym (ap (λ (y : Component). y.presence) f) ∙ q in cc)
    ∙ mirrored_mandatory [] ds (record { are = g; begin = i }) refl
mirrored_mandatory (c ∷ cs) [] b h = absurd (let q = b.are in cc)
mirrored_mandatory (c ∷ cs) (x ∷ ds) b h =
    let must = must_ends profile_two c cs c.presence refl h in
    let first = first_beside c cs x ds b in
    missing-skip profile_three x ds x.presence refl (not_must c.presence c x refl first.0 must)
    ∙ mirrored_mandatory cs ds (rest_beside c cs x ds b) (sym (missing-skip profile_two c cs c.presence refl must) ∙ h)

pub none_missing : (n m : Next) → IsProperNext profile_two n → Mirrored n m → missing profile_two n ≡ None → missing profile_three m ≡ None
none_missing (rows cs) m ok k h = ap (missing profile_three) k.1 ∙ mirrored_mandatory cs k.0 k.2 h
none_missing (items c) m ok k h = ap (missing profile_three) k.1
none_missing (either c) m ok k h =
    ap (missing profile_three) k.1
    ∙ mirrored_mandatory (node_components true c.node) (node_components true (twin c.node)) (node_beside c.node (seq_suits c.node ok.2 k.0)) h
none_missing (segments tag) m ok k h = ap (missing profile_three) k
none_missing (anything c) m ok k h = absurd cc
none_missing (foreigns n) m ok k h = ap (missing profile_three) k

pub same_last : (n m : Next) → Mirrored n m → is_last m ≡ is_last n
same_last (rows cs) m k = ap is_last k.1
same_last (items c) m k = ap is_last k.1
same_last (either c) m k = ap is_last k.1
same_last (segments tag) m k = ap is_last k
same_last (anything c) m k = ap is_last k.1
same_last (foreigns n) m k = ap is_last k

-- ---- the types whose tags are explicit in the module alone

abbrev pub first_tag : Tag
first_tag = record { class = Class.Context; number = 0 }

-- the first component is due in profile 2, and in the module the tag round it
abbrev pub IsRetaggedDue : Tag → Next → Due → Type 0
IsRetaggedDue t n d = (t ≡ first_tag) × (element_of d ≡ leaf enumerated) × ((e : Due) × (c : Component) × (due profile_three t n ≡ Some e) × (element_of e ≡ wrapper c))

abbrev StartStrict : List Component → List Component → Type 0
StartStrict (c ∷ cs) (x ∷ ds) =
    (c.presence ≡ Presence.Must) × (x.presence ≡ Presence.Must) × (loose_starts c ≡ start first_tag (leaf enumerated) ∷ []) × ((i : Component) × (loose_starts x ≡ start first_tag (wrapper i) ∷ []))
StartStrict _ _ = ⊥

strict_nodes : (node : NodeId) → IsTrue (is_retagged node) → StartStrict (node_components true node) (node_components true (twin node))
strict_nodes UnitsPerMedium h = (refl, refl, refl, (_, refl))
strict_nodes WillSupply h = (refl, refl, refl, (_, refl))
strict_nodes _ h = absurd cc

strict_due : (t : Tag) (cs ds : List Component) (d : Due) → StartStrict cs ds → due_by true t cs ≡ Some d → IsRetaggedDue t (rows ds) d
strict_due t [] ds d k h = absurd k
strict_due t (c ∷ cs) [] d k h = absurd k
strict_due t (c ∷ cs) (x ∷ ds) d k h = elim (two_cases (same_tag first_tag t)) [
  | inl e ↦
      let s : starting t (loose_starts c) ≡ Some (start first_tag (leaf enumerated)) = ap (starting t) k.2 ∙ starting-yes t (start first_tag (leaf enumerated)) [] e in
      let u : starting t (loose_starts x) ≡ Some (start first_tag (wrapper k.3.0)) = ap (starting t) k.3.1 ∙ starting-yes t (start first_tag (wrapper k.3.0)) [] e in
      let q : Some (part c (leaf enumerated) (rows cs)) ≡ Some d = sym (due-found profile_two t c cs (start first_tag (leaf enumerated)) s) ∙ h in
      let r : part c (leaf enumerated) (rows cs) ≡ d = cc in (
        sym (same_tag-is first_tag t e),
        ap element_of (sym r),
        (part x (wrapper k.3.0) (rows ds), k.3.0, due-found profile_three t x ds (start first_tag (wrapper k.3.0)) u, refl),
      )
  | inr e ↦
      let s : starting t (loose_starts c) ≡ None = ap (starting t) k.2 ∙ starting-no t (start first_tag (leaf enumerated)) [] e in
      absurd (must_stops profile_two t c cs d s h k.0)
]

-- in the module the tag round it alone is due
strict_three : (cs ds : List Component) (d : Due) → StartStrict cs ds → due_by true first_tag ds ≡ Some d → (c : Component) × (element_of d ≡ wrapper c)
strict_three [] ds d k h = absurd k
strict_three (c ∷ cs) [] d k h = absurd k
strict_three (c ∷ cs) (x ∷ ds) d k h =
    let u : starting first_tag (loose_starts x) ≡ Some (start first_tag (wrapper k.3.0)) = ap (starting first_tag) k.3.1 in
    let q : Some (part x (wrapper k.3.0) (rows ds)) ≡ Some d = sym (due-found profile_three first_tag x ds (start first_tag (wrapper k.3.0)) u) ∙ h in
    let r : part x (wrapper k.3.0) (rows ds) ≡ d = cc in
    (k.3.0, ap element_of (sym r))

mandatory_three : (cs ds : List Component) → StartStrict cs ds → first_mandatory ds ≡ None → ⊥
mandatory_three [] ds k h = k
mandatory_three (c ∷ cs) [] k h = k
mandatory_three (c ∷ cs) (x ∷ ds) k h = must_ends profile_three x ds x.presence refl h k.1

strict_mandatory : (cs ds : List Component) → StartStrict cs ds → first_mandatory cs ≡ None → ⊥
strict_mandatory [] ds k h = k
strict_mandatory (c ∷ cs) [] k h = k
strict_mandatory (c ∷ cs) (x ∷ ds) k h = must_ends profile_two c cs c.presence refl h k.0

-- what is due where such an element has just been opened
pub fresh_due : (e : Element) (t : Tag) (d : Due) → IsTrue (holds_retagged e) → IsProperNext profile_two (opening profile_two e) → due profile_two t (opening profile_two e) ≡ Some d
    → IsDueToo t (opening profile_three (mirror e)) d ⊎ IsRetaggedDue t (opening profile_three (mirror e)) d
fresh_due (sequence node) t d f ok h = inr (strict_due t (node_components true node) (node_components true (twin node)) d (strict_nodes node f) h)
fresh_due (loose_wrapper c) t d f ok h = elim (two_cases (same_tag t sequence_tag)) [
  | inl e ↦ inl (as_either (mirror_component c) t true (mirror_component c ∷ []) d e refl (rows_due t (c ∷ []) (mirror_component c ∷ []) d (inner_beside c ok.0 ok.1) (sym (ap (either_body c t) e) ∙ h)))
  | inr e ↦
      let r = strict_due t (node_components true c.node) (node_components true (twin c.node)) d (strict_nodes c.node f) (sym (ap (either_body c t) e) ∙ h) in
      inr (r.0, r.1, (r.2.0, r.2.1, ap (either_body (mirror_component c) t) e ∙ r.2.2, r.2.3))
]
fresh_due (leaf l) t d f ok h = absurd cc
fresh_due (list node) t d f ok h = absurd cc
fresh_due (wrapper c) t d f ok h = absurd cc
fresh_due (segment tag) t d f ok h = absurd cc
fresh_due (foreign n) t d f ok h = absurd cc
fresh_due (left_out x) t d f ok h = absurd cc

-- nothing of it is there yet
pub fresh_missing : (e : Element) → IsTrue (holds_retagged e) → missing profile_two (opening profile_two e) ≡ None → ⊥
fresh_missing (sequence node) f h = strict_mandatory (node_components true node) (node_components true (twin node)) (strict_nodes node f) h
fresh_missing (loose_wrapper c) f h = strict_mandatory (node_components true c.node) (node_components true (twin c.node)) (strict_nodes c.node f) h
fresh_missing (leaf l) f h = absurd cc
fresh_missing (list node) f h = absurd cc
fresh_missing (wrapper c) f h = absurd cc
fresh_missing (segment tag) f h = absurd cc
fresh_missing (foreign n) f h = absurd cc
fresh_missing (left_out x) f h = absurd cc

pub fresh_last : (e : Element) → IsTrue (holds_retagged e) → is_last (opening profile_three (mirror e)) ≡ is_last (opening profile_two e)
fresh_last (sequence node) f = refl
fresh_last (loose_wrapper c) f = refl
fresh_last (leaf l) f = absurd cc
fresh_last (list node) f = absurd cc
fresh_last (wrapper c) f = absurd cc
fresh_last (segment tag) f = absurd cc
fresh_last (foreign n) f = absurd cc
fresh_last (left_out x) f = absurd cc

-- ---- what may come in an element that opens

abbrev is_full : Kind → List Component → Bool
is_full Kind.SeqOf [] = false
is_full _ _ = true

all_full : (node : NodeId) → IsTrue (is_full (kind_of node) (node_components true node))
all_full Boolean = refl
all_full _ = refl

abbrev first_items : List Component → Next
first_items cs = elim cs as (λ _. Next) [ [] ↦ rows [] | c ∷ _ ↦ items c ]

items_mirrored : (cs ds : List Component) → IsTrue (is_full Kind.SeqOf cs) → Beside cs ds → Mirrored (first_items cs) (first_items ds)
items_mirrored [] ds f b = absurd cc
items_mirrored (c ∷ cs) [] f b = absurd (let q = b.are in cc)
items_mirrored (c ∷ cs) (x ∷ ds) f b = (x, refl, (first_beside c cs x ds b).1)

wrapper_mirrored : (c : Component) → c.presence ≡ Presence.Must → c.tagging ≡ untagged → (k : Kind)
    → Mirrored (elim k as (λ _. Next) [ Kind.Any ↦ anything c | _ ↦ rows (c ∷ []) ]) (elim k as (λ _. Next) [ Kind.Any ↦ anything (mirror_component c) | _ ↦ rows (mirror_component c ∷ []) ])
wrapper_mirrored c e f Kind.Any = (mirror_component c, refl)
wrapper_mirrored c e f Kind.Seq = (mirror_component c ∷ [], refl, inner_beside c e f)
wrapper_mirrored c e f Kind.SeqOf = (mirror_component c ∷ [], refl, inner_beside c e f)
wrapper_mirrored c e f Kind.Choice = (mirror_component c ∷ [], refl, inner_beside c e f)
wrapper_mirrored c e f Kind.IllString = (mirror_component c ∷ [], refl, inner_beside c e f)
wrapper_mirrored c e f (Kind.Leaf l) = (mirror_component c ∷ [], refl, inner_beside c e f)

not_false : (b : Bool) → b ≡ false → IsTrue (not b)
not_false b e = ap not e

pub opening_mirrored : (e : Element) → IsProper profile_two e → IsTrue (holds_retagged e) ⊎ Mirrored (opening profile_two e) (opening profile_three (mirror e))
opening_mirrored (leaf l) h = inr refl
opening_mirrored (sequence node) h = elim (two_cases (is_retagged node)) [
  | inl f ↦ inl f
  | inr f ↦ inr (node_components true (twin node), refl, node_beside node (seq_suits node h (not_false (is_retagged node) f)))
]
opening_mirrored (list node) h =
    inr (items_mirrored (node_components true node) (node_components true (twin node)) (subst (λ k. IsTrue (is_full k (node_components true node))) h (all_full node)) (node_beside node (list_suits node h)))
opening_mirrored (wrapper c) h =
    inr (subst (λ k. Mirrored (opening profile_two (wrapper c)) (elim k as (λ _. Next) [ Kind.Any ↦ anything (mirror_component c) | _ ↦ rows (mirror_component c ∷ []) ])) (sym (kinds_stay c.node))
    (wrapper_mirrored c h.0 h.1 (kind_of c.node)))
opening_mirrored (loose_wrapper c) h = elim (two_cases (is_retagged c.node)) [
  | inl f ↦ inl f
  | inr f ↦ inr (not_false (is_retagged c.node) f, refl)
]
opening_mirrored (segment tag) h = inr refl
opening_mirrored (foreign n) h = inr refl
opening_mirrored (left_out x) h = inr ([], refl, record { are = refl; begin = refl })

-- ---- what the module has where such an element has just been opened

pub opened_due : (e : Element) (d : Due) → IsTrue (holds_retagged e) → due profile_three first_tag (opening profile_three (mirror e)) ≡ Some d → (c : Component) × (element_of d ≡ wrapper c)
opened_due (sequence node) d f h = strict_three (node_components true node) (node_components true (twin node)) d (strict_nodes node f) h
opened_due (loose_wrapper c) d f h = strict_three (node_components true c.node) (node_components true (twin c.node)) d (strict_nodes c.node f) h
opened_due (leaf l) d f h = absurd cc
opened_due (list node) d f h = absurd cc
opened_due (wrapper c) d f h = absurd cc
opened_due (segment tag) d f h = absurd cc
opened_due (foreign n) d f h = absurd cc
opened_due (left_out x) d f h = absurd cc

pub opened_missing : (e : Element) → IsTrue (holds_retagged e) → missing profile_three (opening profile_three (mirror e)) ≡ None → ⊥
opened_missing (sequence node) f h = mandatory_three (node_components true node) (node_components true (twin node)) (strict_nodes node f) h
opened_missing (loose_wrapper c) f h = mandatory_three (node_components true c.node) (node_components true (twin c.node)) (strict_nodes c.node f) h
opened_missing (leaf l) f h = absurd cc
opened_missing (list node) f h = absurd cc
opened_missing (wrapper c) f h = absurd cc
opened_missing (segment tag) f h = absurd cc
opened_missing (foreign n) f h = absurd cc
opened_missing (left_out x) f h = absurd cc

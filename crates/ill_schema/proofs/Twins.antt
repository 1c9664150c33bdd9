-- The rows of a node in profile 2 stand in the table of its twin in the module.
use Rattle.std.proofs.Common.{◌≡◌, ℕ, zero, suc, Bool, true, false, ◌&&◌, ◌||◌, not, List, [], ◌∷◌, Option, Some, IsTrue, refl, sym, ap, ap₂, map, subst, ◌∙◌, slice_get}
use Rattle.std.specs.List.{list_all}
use Rattle.std.proofs.lemmas.Bool.{and_parts}
use Rattle.ber_tree.specs.declared.class.Class.{Class}
use Rattle.ber_tree.specs.Identifier.{Tag}
use Rattle.ber_tree.specs.Tree.{none}
use Rattle.ber_leaf.specs.Profile.{profile_two, profile_three}
use Rattle.ill_tables.specs.declared.node.Kind.{Kind}
use Rattle.ill_tables.specs.declared.node.NodeId.{NodeId}
use Rattle.ill_tables.specs.declared.node.NodeId.TheVariants.{Boolean, Conditional}
use Rattle.ill_tables.specs.declared.part.Mode.{Mode}
use Rattle.ill_tables.specs.declared.part.Presence.{Presence}
use Rattle.ill_tables.specs.declared.part.Row.{Row}
use Rattle.ill_schema.specs.Fits.{FitRows}
use Rattle.ill_schema.specs.Lift.{added_entries, is_retagged}
use Rattle.ill_schema.specs.Meaning.{Matches}
use Rattle.ill_schema.specs.Presence.{IsCarried, MayLack}
use Rattle.ill_tables.specs.Table.{kind_of, rows_of, twin}
use Rattle.ill_schema.specs.TableFacts.{row_tags, stand, standing}
use Rattle.ill_schema.specs.Tagging.{tagging, row_tagging}

abbrev pub Stand : List Row → List Row → Type 0
Stand rs ss = ss ≡ stand rs ss

pub all_stand : (node : NodeId) → Stand (rows_of node) (rows_of (twin node))
all_stand Boolean = refl
all_stand _ = refl

pub kinds_stay : (node : NodeId) → kind_of (twin node) ≡ kind_of node
kinds_stay Boolean = refl
kinds_stay _ = refl

-- the tags by which rows of profile 2 begin, and by which those begin that the module has more
abbrev pub tags_from : List Row → List Row → List (List Tag)
tags_from [] ss = map (row_tags profile_three) ss
tags_from (r ∷ rs) [] = row_tags profile_two r ∷ tags_from rs []
tags_from (r ∷ rs) (s ∷ ss) = row_tags profile_two r ∷ tags_from rs ss

abbrev pub SameTags : List Row → List Row → Type 0
SameTags rs ss = map (row_tags profile_three) ss ≡ tags_from rs ss

pub all_tags : (node : NodeId) → SameTags (rows_of node) (rows_of (twin node))
all_tags Boolean = refl
all_tags _ = refl

pub tags_at : (rs ss : List Row) (n : ℕ) (r s : Row) → SameTags rs ss → slice_get rs n ≡ Some r → slice_get ss n ≡ Some s → row_tags profile_three s ≡ row_tags profile_two r
tags_at [] ss n r s h e f = absurd cc
tags_at (q ∷ rs) [] n r s h e f = absurd cc
tags_at (q ∷ rs) (p ∷ ss) zero r s h e f =
    let first : row_tags profile_three p ≡ row_tags profile_two q = cc in
    let a : q ≡ r = cc in let b : p ≡ s = cc in
    sym (ap (row_tags profile_three) b) ∙ first ∙ ap (row_tags profile_two) a
tags_at (q ∷ rs) (p ∷ ss) (suc n) r s h e f = let rest : SameTags rs ss = cc in tags_at rs ss n r s rest e f

pub record Stands (r s : Row) : Type 0 where
  pub presence : s.presence ≡ r.presence
  pub node : s.node ≡ twin r.node
  pub tag : s.tag ≡ r.tag

stands-at : (pr : Presence) (r s : Row) → s ≡ standing pr r s → IsCarried pr → (s.presence ≡ pr) × (s.node ≡ twin r.node) × (s.tag ≡ r.tag)
stands-at Presence.LeftOut r s e c = absurd c
stands-at _ r s e c = (ap (λ (x : Row). x.presence) e, ap (λ (x : Row). x.node) e, ap (λ (x : Row). x.tag) e)

pub stands : (r s : Row) → s ≡ standing r.presence r s → IsCarried r.presence → Stands r s
stands r s e c = let q = stands-at r.presence r s e c in record { presence = q.0; node = q.1; tag = q.2 }

pub stand_at : (rs ss : List Row) (n : ℕ) (r : Row) → Stand rs ss → slice_get rs n ≡ Some r → (s : Row) × (slice_get ss n ≡ Some s) × (s ≡ standing r.presence r s)
stand_at [] ss n r h e = absurd cc
stand_at (q ∷ rs) [] n r h e = absurd cc
stand_at (q ∷ rs) (s ∷ ss) zero r h e =
    let same : q ≡ r = cc in let first : s ≡ standing q.presence q s = cc in (s, refl, subst (λ (x : Row). s ≡ standing x.presence x s) same first)
stand_at (q ∷ rs) (s ∷ ss) (suc n) r h e = let rest : ss ≡ stand rs ss = cc in stand_at rs ss n r rest e

-- what profile 2 leaves out is optional in the module, and no list leaves out its items
abbrev pub is_left_out : Presence → Bool
is_left_out Presence.LeftOut = true
is_left_out _ = false

abbrev pub is_may : Presence → Bool
is_may Presence.May = true
is_may _ = false

abbrev pub are_optional : List Row → List Row → Bool
are_optional (r ∷ rs) (s ∷ ss) = (not (is_left_out r.presence) || is_may s.presence) && are_optional rs ss
are_optional _ _ = true

abbrev pub is_kept : Row → Bool
is_kept row = not (is_left_out row.presence)

abbrev suits : Kind → List Row → List Row → Bool
suits Kind.Seq rs ss = are_optional rs ss
suits Kind.SeqOf rs ss = list_all is_kept rs
suits _ rs ss = true

all_suit : (node : NodeId) → IsTrue (suits (kind_of node) (rows_of node) (rows_of (twin node)))
all_suit Boolean = refl
all_suit _ = refl

pub optional : (node : NodeId) → kind_of node ≡ Kind.Seq → IsTrue (are_optional (rows_of node) (rows_of (twin node)))
optional node e = subst (λ k. IsTrue (suits k (rows_of node) (rows_of (twin node)))) e (all_suit node)

may_lack : (pr : Presence) → IsTrue (is_may pr) → MayLack pr
may_lack Presence.May h = tt
may_lack _ h = absurd cc

pub lacks-at : (pr : Presence) (r s : Row) → s ≡ standing pr r s → IsTrue (not (is_left_out pr) || is_may s.presence) → MayLack pr → MayLack s.presence
lacks-at Presence.LeftOut r s e h m = may_lack s.presence h
lacks-at Presence.May r s e h m = subst MayLack (sym (ap (λ (x : Row). x.presence) e)) tt
lacks-at _ r s e h m = absurd m

carried-at : (pr : Presence) → IsTrue (not (is_left_out pr)) → IsCarried pr
carried-at Presence.LeftOut h = absurd cc
carried-at _ h = tt

first_kept : (rows : List Row) (row : Row) → IsTrue (list_all is_kept rows) → slice_get rows 0 ≡ Some row → IsCarried row.presence
first_kept [] row h e = absurd cc
first_kept (r ∷ rows) row h e = let same : r ≡ row = cc in subst (λ (x : Row). IsCarried x.presence) same (carried-at r.presence (and_parts _ _ h).0)

pub item_carried : (node : NodeId) (row : Row) → kind_of node ≡ Kind.SeqOf → slice_get (rows_of node) 0 ≡ Some row → IsCarried row.presence
item_carried node row k e = first_kept (rows_of node) row (subst (λ k. IsTrue (suits k (rows_of node) (rows_of (twin node)))) k (all_suit node)) e

-- the rows that the module has more
abbrev pub after : List Row → List Row → List Row
after [] ss = ss
after (r ∷ rs) [] = []
after (r ∷ rs) (s ∷ ss) = after rs ss

pub more_fit : (node : NodeId) → FitRows profile_three (added_entries node) (after (rows_of node) (rows_of (twin node)))
more_fit Conditional = (tt, tt)
more_fit _ = tt

pub more_match : (node : NodeId) → Matches profile_three (added_entries node) (after (rows_of node) (rows_of (twin node))) none
more_match Conditional = (tt, refl)
more_match _ = refl

-- but for two nodes the tags stay in their modes, too
abbrev pub same_mode : Mode → Mode → Bool
same_mode Mode.Implicit Mode.Implicit = true
same_mode Mode.Explicit Mode.Explicit = true
same_mode Mode.ExplicitOrBare Mode.ExplicitOrBare = true
same_mode Mode.Untagged Mode.Untagged = true
same_mode _ _ = false

same_mode-is : (m n : Mode) → IsTrue (same_mode m n) → n ≡ m
same_mode-is Mode.Implicit Mode.Implicit h = refl
same_mode-is Mode.Explicit Mode.Explicit h = refl
same_mode-is Mode.ExplicitOrBare Mode.ExplicitOrBare h = refl
same_mode-is Mode.Untagged Mode.Untagged h = refl
same_mode-is _ _ h = absurd cc

abbrev pub same_modes : List Row → List Row → Bool
same_modes (r ∷ rs) (s ∷ ss) = (is_left_out r.presence || same_mode r.mode s.mode) && same_modes rs ss
same_modes _ _ = true

all_modes : (node : NodeId) → IsTrue (is_retagged node || same_modes (rows_of node) (rows_of (twin node)))
all_modes Boolean = refl
all_modes _ = refl

pub modes : (node : NodeId) → IsTrue (not (is_retagged node)) → IsTrue (same_modes (rows_of node) (rows_of (twin node)))
modes node h = at (is_retagged node) (same_modes (rows_of node) (rows_of (twin node))) h (all_modes node)
  where
    at : (a b : Bool) → IsTrue (not a) → IsTrue (a || b) → IsTrue b
    at true b h k = absurd cc
    at false b h k = k

mode-at : (pr : Presence) (m n : Mode) → IsCarried pr → IsTrue (is_left_out pr || same_mode m n) → n ≡ m
mode-at Presence.LeftOut m n c h = absurd c
mode-at _ m n c h = same_mode-is m n h

pub mode_of : (r s : Row) → IsCarried r.presence → IsTrue (is_left_out r.presence || same_mode r.mode s.mode) → s.mode ≡ r.mode
mode_of r s c h = mode-at r.presence r.mode s.mode c h

pub modes_at : (rs ss : List Row) (n : ℕ) (r s : Row) → IsTrue (same_modes rs ss) → slice_get rs n ≡ Some r → slice_get ss n ≡ Some s → IsTrue (is_left_out r.presence || same_mode r.mode s.mode)
modes_at [] ss n r s h e f = absurd cc
modes_at (q ∷ rs) [] n r s h e f = absurd cc
modes_at (q ∷ rs) (p ∷ ss) zero r s h e f =
    let first = (and_parts (is_left_out q.presence || same_mode q.mode p.mode) (same_modes rs ss) h).0 in
    let a : q ≡ r = cc in let b : p ≡ s = cc in
    subst (λ (x : Row). IsTrue (is_left_out r.presence || same_mode r.mode x.mode)) b (subst (λ (x : Row). IsTrue (is_left_out x.presence || same_mode x.mode p.mode)) a first)
modes_at (q ∷ rs) (p ∷ ss) (suc n) r s h e f = modes_at rs ss n r s ((and_parts (is_left_out q.presence || same_mode q.mode p.mode) (same_modes rs ss) h).1) e f

pub same_tagging : (r s : Row) → s.tag ≡ r.tag → s.mode ≡ r.mode → tagging profile_three s ≡ tagging profile_two r
same_tagging r s e f = ap₂ (λ (t : Option (Class × ℕ)) (m : Mode). row_tagging true (let x : Row = record { tag = t; mode = m; presence = Presence.Must; node = Boolean } in x)) e f

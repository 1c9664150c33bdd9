-- An element is read, and what is to be written of it is.
use Rattle.std.proofs.Common.{◌≡◌, ◌∙◌, ℕ, suc, ◌+◌, ◌-◌, ◌≤◌, ◌<◌, Bool, true, false, List, ◌++◌, Some, length, refl, sym, ap, ap₂, subst, arith}
use Rattle.std.specs.List.{between}
use Rattle.std.proofs.lemmas.List.Edits.{between_none, length-between}
use Rattle.ber_tree.specs.Length.{IsLength, shortest_length}
use Rattle.ill_tables.specs.declared.profile.Profile.{Profile as Named}
use Rattle.ill_grammar.specs.code.Spots.{IsUsualDue, is_constructed, spot_next}
use Rattle.ill_grammar.specs.declared.due.Next.{Next}
use Rattle.ill_grammar.specs.declared.leaf_type.LeafType.{LeafType}
use Rattle.ill_read.specs.code.Usual.{Adds, EndsAt, HasAll, IsLeafPut, IsSized, IsStep, Puts, kind_leaf, leaf_octets, mark_of}
use Rattle.ill_read.specs.declared.usual.header.Header.{Header}
use Rattle.ill_read.proofs.UsualElements.{adds_as, leaf_adds, open_adds}
use Rattle.ill_read.proofs.UsualWrites.{between_kept, between_less, between_split, kept_before, puts_as, puts_less, puts_then}

-- octets in four parts
four_parts : (xs : List ℕ) (a b c d e : ℕ) → a ≤ b → b ≤ c → c ≤ d → d ≤ e → between a e xs ≡ between a b xs ++ (between b c xs ++ (between c d xs ++ between d e xs))
four_parts xs a b c d e ab bc cd de =
    between_split xs a b e ab (omega (arith, bc, cd, de))
    ∙ ap (λ ys. between a b xs ++ ys) (between_split xs b c e bc (omega (arith, cd, de)) ∙ ap (λ ys. between b c xs ++ ys) (between_split xs c d e cd de))

-- the end mark, or nothing where the length is definite
pub marks_at : (is_definite : Bool) (octets : List ℕ) (at bound : ℕ) → EndsAt is_definite octets at bound → (to : ℕ) → to ≡ at + length (mark_of is_definite) → between at to octets ≡ mark_of is_definite
marks_at true octets at bound ends to is = ap (λ n. between at n octets) (is ∙ (let z : at + 0 ≡ at = omega arith in z)) ∙ between_none octets at
marks_at false octets at bound ends to is = ap (λ n. between at n octets) is ∙ ends.1

-- a constructed element
pub open_step : (p : Named) (octets old mid new : List ℕ) (h : Header) (n : Next) (is_definite : Bool) (levels contents taken to start inner end : ℕ) (due : IsUsualDue (between h.from.taken h.length.taken octets) n h.element)
    → between h.from.written h.length.written old ≡ between h.from.taken h.length.taken octets → (h.from.taken < h.length.taken) × (h.length.taken ≤ contents) × (contents ≤ taken) × (taken ≤ to)
    → (h.from.written < h.length.written) × (h.length.written < start) × (start ≤ inner) → 1 < levels → is_constructed h.element.kind ≡ true → Puts old mid start inner (between start inner mid)
    → Puts mid new h.length.written end (shortest_length (inner - start) ++ between start inner mid) → HasAll p due.element (levels - 1) (between contents taken octets) (between start inner mid)
    → IsSized is_definite (length (between contents taken octets)) (between h.length.taken contents octets) → between taken to octets ≡ mark_of is_definite
    → IsStep p n (spot_next h.element.after) levels octets old new h.from (record { taken = to; written = end })
open_step p octets old mid new h n is_definite levels contents taken to start inner end due same order room deep opens filled put all sized marks =
    let id = between h.from.written h.length.written old in
    let w = between start inner mid in
    let kept : Puts old mid h.from.written h.length.written id = record {
      room = filled.room;
      forward = (omega (arith, room), omega (arith, room, filled.forward));
      before = kept_before old mid h.from.written start (omega (arith, room)) filled.before;
      put = between_kept old mid h.from.written h.length.written (kept_before old mid h.length.written start (omega (arith, room)) filled.before);
    } in
    let whole = puts_then old mid new h.from.written h.length.written end id _ kept put in
    let width : inner - start ≡ length w = sym (length-between mid start inner filled.forward.1) in
    let level : suc (levels - 1) ≡ levels = omega (arith, deep) in
    record {
      taken = omega (arith, order);
      put = puts_as old new h.from.written end end _ _ whole refl (sym whole.put);
      adds = subst (λ k. Adds p n (spot_next h.element.after) k (between h.from.taken to octets) (between h.from.written end new)) level
          (adds_as p n _ _ (suc (levels - 1)) _ _ _ _
          (open_adds p (between h.from.taken h.length.taken octets) n h.element is_definite (levels - 1) (between h.length.taken contents octets) (between contents taken octets) w due opens all sized) refl
          (sym (four_parts octets h.from.taken h.length.taken contents taken to (omega (arith, order)) order.1 order.2 order.3
          ∙ ap (λ x. between h.from.taken h.length.taken octets ++ (between h.length.taken contents octets ++ (between contents taken octets ++ x))) marks))
          (sym (whole.put ∙ ap₂ (λ x m. x ++ (shortest_length m ++ w)) same width)));
    }

-- a leaf
pub leaf_step : (p : Named) (octets old new : List ℕ) (h : Header) (n : Next) (l : LeafType) (levels contents to end : ℕ) → IsUsualDue (between h.from.taken h.length.taken octets) n h.element
    → between h.from.written h.length.written old ≡ between h.from.taken h.length.taken octets → (h.from.taken < h.length.taken) × (h.length.taken ≤ contents) × (contents ≤ to) × (to ≤ length octets) → 0 < levels
    → kind_leaf h.element.kind ≡ Some l → IsLength (to - contents) (between h.length.taken contents octets) → IsLeafPut l h (between contents to octets) old new end
    → IsStep p n (spot_next h.element.after) levels octets old new h.from (record { taken = to; written = end })
leaf_step p octets old new h n l levels contents to end due same order some is sized leaf =
    let content = between contents to octets in
    let os = between h.length.taken contents octets in
    let i = between h.from.taken h.length.taken octets in
    record {
      taken = omega (arith, order);
      put = puts_as old new h.from.written end end _ _ leaf.put refl (sym leaf.put.put);
      adds = adds_as p n _ _ levels _ _ _ _
          (leaf_adds p i n h.element l levels os content due is some (subst (λ m. IsLength m os) (sym (length-between octets contents to order.3)) sized) (leaf.right p)) refl
          (sym (between_split octets h.from.taken h.length.taken to (omega (arith, order)) (omega (arith, order)) ∙ ap (λ x. i ++ x) (between_split octets h.length.taken contents to order.1 order.2)))
          (sym (leaf.put.put ∙ ap (λ x. leaf_octets h.element.default l x content) same));
    }

-- the identifier was copied
pub identifier_copied : (octets old new : List ℕ) (at to d : ℕ) → d ≤ 2 → Puts old new to (to + 2) (between at (at + 2) octets) → between to (to + d) new ≡ between at (at + d) octets
identifier_copied octets old new at to d few put = (puts_less old new to d 2 _ few put).put ∙ sym (between_less octets at d 2 few)

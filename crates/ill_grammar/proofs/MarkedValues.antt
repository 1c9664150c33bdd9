-- What the marks of a value say.
use Rattle.std.proofs.Common.{IsTrue, ◌≡◌, ℕ, suc, ◌+◌, ◌<◌, ◌≤◌, Bool, true, false, not, List, [], ◌∷◌, ◌++◌, length, take, drop, map, Option, Some, None, refl, sym, ap, subst, ◌∙◌, inl, inr, arith, append_assoc, length-append, get_or, ℤ}
use Rattle.std.proofs.lemmas.List.{take_more}
use Rattle.std.proofs.lemmas.List.{take_at, drop_at, length-drop}
use Rattle.std.proofs.Math.Seq.{take-length}
use Rattle.std.proofs.Common.{◌-◌}
use Rattle.ber_core.specs.Der.{encoding}
use Rattle.ber_core.specs.Foreign.{foreign_levels, is_foreign}
use Rattle.ber_tree.specs.Tree.{Tree}
use Rattle.ber_leaf.specs.Leaf.{Leaf, bit_string, enumerated, integer, value}
use Rattle.ber_leaf.specs.Simple.{Simple}
use Rattle.ill_schema.specs.Profiles.{profile_of}
use Rattle.ill_tables.specs.declared.profile.Profile.{Profile as Named}
use Rattle.ber_leaf.proofs.Integers.{integer_size}
use Rattle.ill_tables.specs.declared.node.NodeId.{NodeId}
use Rattle.ill_tables.specs.declared.part.Presence.{Presence}
use Rattle.ill_tables.specs.declared.part.Row.{Row as TableRow}
use Rattle.ill_schema.specs.Presence.{default_value}
use Rattle.ill_tables.specs.Table.{kind_of}
use Rattle.ill_schema.specs.Content.{Content, simple, sequence, list, alternative, foreign, Entries, no_entries, absent, present, Items, no_items, item}
use Rattle.ill_grammar.specs.LeafTypes.{IsContentIn, leaf_is, module_leaf_is}
use Rattle.ill_grammar.specs.Outline.{AreEntries, AreItems, IsMarked, IsAbsent, leaf_marked}
use Rattle.ill_grammar.specs.declared.outline.Mark.{Mark}
use Rattle.ill_grammar.specs.declared.outline.Mark.TheVariants as mark
use Rattle.ill_grammar.specs.code.MarkedOctets.{SaysOctets, is_of_module}
use Rattle.ill_grammar.specs.Marks.{IsEntry, leading_octets, is_at_end, is_there, octets_in, absent_in}
use Rattle.ill_tables.specs.declared.part.PartId.{PartId}
use Rattle.ill_grammar.specs.declared.leaf_type.LeafType.{LeafType}
use Rattle.ill_grammar.specs.declared.leaf_type.ModuleLeaf.{ModuleLeaf}
use Rattle.std.proofs.Common.{slice_get}

pub octets_back : (o : List ℕ) → octets_in (map mark.Octet o) ≡ o
octets_back [] = refl
octets_back (a ∷ o) = ap (λ x. a ∷ x) (octets_back o)

pub marks_length : (o : List ℕ) → length (map mark.Octet o) ≡ length o
marks_length [] = refl
marks_length (a ∷ o) = ap (λ (n : ℕ). suc n) (marks_length o)

pub front_of : (o : List ℕ) (rest : List Mark) → leading_octets (map mark.Octet o ++ (mark.End ∷ rest)) ≡ length o
front_of [] rest = refl
front_of (a ∷ o) rest = ap (λ (n : ℕ). suc n) (front_of o rest)

-- the octets of a leaf, and the marks after its end
pub leaf_parts : (o : List ℕ) (rest ms : List Mark) (n : ℕ) → ms ≡ map mark.Octet o ++ (mark.End ∷ rest) → n ≡ leading_octets ms → (octets_in (take n ms) ≡ o) × (drop (n + 1) ms ≡ rest) × (n + 1 ≤ length ms)
leaf_parts o rest ms n e f =
    let size : length (map mark.Octet o) ≡ n = marks_length o ∙ sym (front_of o rest) ∙ ap leading_octets (sym e) ∙ sym f in
    let more : length (map mark.Octet o ++ mark.End ∷ []) ≡ n + 1 = omega (arith, length-append (map mark.Octet o) (mark.End ∷ []), size) in (
      ap octets_in (ap (take n) e ∙ take_at (map mark.Octet o) (mark.End ∷ rest) n size) ∙ octets_back o,
      ap (drop (n + 1)) (e ∙ sym (append_assoc (map mark.Octet o) (mark.End ∷ []) rest)) ∙ drop_at (map mark.Octet o ++ mark.End ∷ []) rest (n + 1) more,
      omega (arith, ap length e, length-append (map mark.Octet o) (mark.End ∷ rest), size),
    )

-- what the marks of a value say, by the first of them
abbrev pub Says : Mark → Content → List Mark → Type 0
Says (mark.Absent part) c inside = IsAbsent part (Some c) × (inside ≡ [])
Says (mark.Alternative n) c inside = (d : Content) × (c ≡ alternative n d) × IsMarked d inside
Says mark.Sequence c inside = (es : Entries) × (own : List Mark) × (c ≡ sequence es) × AreEntries es own × (inside ≡ own ++ mark.End ∷ [])
Says mark.List c inside = (is : Items) × (own : List Mark) × (c ≡ list is) × AreItems is own × (inside ≡ own ++ mark.End ∷ [])
Says mark.Foreign c inside = (T : Tree) × (c ≡ foreign T) × IsTrue (is_foreign foreign_levels T) × (inside ≡ map mark.Octet (encoding T) ++ mark.End ∷ [])
Says (mark.Octet octet) c inside = ⊥
Says mark.End c inside = ⊥
Says m c inside = (l : Leaf) × (o : List ℕ) × (p : Named) × (leaf_marked m ≡ Some l) × IsContentIn p l o × (c ≡ simple (value l o)) × (inside ≡ map mark.Octet o ++ mark.End ∷ [])

leaf_says : (m : Mark) (l : Leaf) (o : List ℕ) (p : Named) (v : Simple) → leaf_marked m ≡ Some l → IsContentIn p l o → v ≡ value l o → Says m (simple v) (map mark.Octet o ++ mark.End ∷ [])
leaf_says (mark.Leaf k) l o p v is content holds = (l, o, p, is, content, ap simple holds, refl)
leaf_says (mark.ModuleLeaf k) l o p v is content holds = (l, o, p, is, content, ap simple holds, refl)
leaf_says mark.BitString l o p v is content holds = (l, o, p, is, content, ap simple holds, refl)
leaf_says _ l o p v is content holds = absurd cc

value_says : (c : Content) (ms : List Mark) → IsMarked c ms → (m : Mark) × (inside : List Mark) × (ms ≡ m ∷ inside) × Says m c inside
value_says (simple v) ms (inl h) = (h.first, map mark.Octet h.octets ++ mark.End ∷ [], h.are, leaf_says h.first h.leaf h.octets h.profile v h.begins h.content h.holds)
value_says (simple v) ms (inr h) = (mark.Absent h.0, [], h.1, (h.2, refl))
value_says (sequence es) ms h = (mark.Sequence, h.0 ++ mark.End ∷ [], h.1, (es, h.0, refl, h.2, refl))
value_says (list is) ms h = (mark.List, h.0 ++ mark.End ∷ [], h.1, (is, h.0, refl, h.2, refl))
value_says (alternative n c) ms h = (mark.Alternative n, h.0, h.1, (c, refl, h.2))
value_says (foreign T) ms h = (mark.Foreign, map mark.Octet (encoding T) ++ mark.End ∷ [], h.0, (T, refl, h.1, refl))

-- a mark that begins a value
abbrev pub begins : Mark → Bool
begins (mark.Octet octet) = false
begins mark.End = false
begins _ = true

says_begins : (m : Mark) (c : Content) (inside : List Mark) → Says m c inside → begins m ≡ true
says_begins (mark.Octet octet) c inside h = absurd h
says_begins mark.End c inside h = absurd h
says_begins _ c inside h = refl

begins_apart : (m : Mark) (ms : List Mark) → begins m ≡ true → is_at_end (m ∷ ms) ≡ false
begins_apart mark.End ms h = absurd cc
begins_apart _ ms h = refl

-- a value begins with a mark that is no end
pub no_end : (c : Content) (ms rest : List Mark) → IsMarked c ms → is_at_end (ms ++ rest) ≡ false
no_end c ms rest h = let v = value_says c ms h in ap (λ x. is_at_end (x ++ rest)) v.2 ∙ begins_apart v.0 (v.1 ++ rest) (says_begins v.0 c v.1 v.3)

pub no_entry : (es : Entries) (ms rest : List Mark) → AreEntries es ms → is_at_end (ms ++ (mark.End ∷ rest)) ≡ true → (es ≡ no_entries) × (ms ≡ [])
no_entry no_entries ms rest h e = (refl, h)
no_entry (absent es) ms rest h e = absurd (let q : false ≡ true = sym (ap (λ x. is_at_end (x ++ (mark.End ∷ rest))) h.2) ∙ e in cc)
no_entry (present c es) ms rest h e =
    absurd (let q : false ≡ true = sym (ap is_at_end (ap (λ x. x ++ (mark.End ∷ rest)) h.2 ∙ append_assoc h.0 h.1 (mark.End ∷ rest)) ∙ no_end c h.0 (h.1 ++ (mark.End ∷ rest)) h.3) ∙ e in cc)

pub no_item : (is : Items) (ms rest : List Mark) → AreItems is ms → is_at_end (ms ++ (mark.End ∷ rest)) ≡ true → (is ≡ no_items) × (ms ≡ [])
no_item no_items ms rest h e = (refl, h)
no_item (item c is) ms rest h e =
    absurd (let q : false ≡ true = sym (ap is_at_end (ap (λ x. x ++ (mark.End ∷ rest)) h.2 ∙ append_assoc h.0 h.1 (mark.End ∷ rest)) ∙ no_end c h.0 (h.1 ++ (mark.End ∷ rest)) h.3) ∙ e in cc)

octets_join : (xs ys : List Mark) → octets_in (xs ++ ys) ≡ octets_in xs ++ octets_in ys
octets_join [] ys = refl
octets_join (mark.Octet octet ∷ xs) ys = ap (λ o. octet ∷ o) (octets_join xs ys)
octets_join (mark.Absent part ∷ xs) ys = octets_join xs ys
octets_join (mark.Alternative n ∷ xs) ys = octets_join xs ys
octets_join (mark.Leaf l ∷ xs) ys = octets_join xs ys
octets_join (mark.ModuleLeaf l ∷ xs) ys = octets_join xs ys
octets_join (mark.BitString ∷ xs) ys = octets_join xs ys
octets_join (mark.Foreign ∷ xs) ys = octets_join xs ys
octets_join (mark.Sequence ∷ xs) ys = octets_join xs ys
octets_join (mark.List ∷ xs) ys = octets_join xs ys
octets_join (mark.End ∷ xs) ys = octets_join xs ys

pub mark_step : (xs : List Mark) (i : ℕ) (d : Mark) → i < length xs → octets_in (take (i + 1) xs) ≡ octets_in (take i xs) ++ octets_in (get_or xs i d ∷ [])
mark_step xs i d h = ap octets_in (take_more xs i d h) ∙ octets_join (take i xs) (get_or xs i d ∷ [])

pub other_mark : (m : Mark) → ((octet : ℕ) → m ≡ mark.Octet octet → ⊥) → octets_in (m ∷ []) ≡ []
other_mark (mark.Octet octet) h = absurd (h octet refl)
other_mark (mark.Absent part) h = refl
other_mark (mark.Alternative n) h = refl
other_mark (mark.Leaf l) h = refl
other_mark (mark.ModuleLeaf l) h = refl
other_mark mark.BitString h = refl
other_mark mark.Foreign h = refl
other_mark mark.Sequence h = refl
other_mark mark.List h = refl
other_mark mark.End h = refl

pub eight_step : (xs : List Mark) (i : ℕ) (m : Mark) (old new : List ℕ) → (length (old ++ octets_in (m ∷ [])) ≤ 8 → new ≡ old ++ octets_in (m ∷ [])) → octets_in (take (i + 1) xs) ≡ octets_in (take i xs) ++ octets_in (m ∷ [])
    → (length (octets_in (take i xs)) ≤ 8 → old ≡ octets_in (take i xs)) → length (octets_in (take (i + 1) xs)) ≤ 8 → new ≡ octets_in (take (i + 1) xs)
eight_step xs i m old new push step before few =
    let was = before (omega (arith, few, ap length step, length-append (octets_in (take i xs)) (octets_in (m ∷ [])))) in
    let now = ap (λ o. o ++ octets_in (m ∷ [])) was ∙ sym step in
    push (omega (arith, few, ap length now)) ∙ now

pub not_true : (b c : Bool) → c ≡ not b → c ≡ true → b ≡ false
not_true true c e f = absurd (let q : false ≡ true = sym e ∙ f in cc)
not_true false c e f = refl

pub not_false : (b c : Bool) → c ≡ not b → c ≡ false → b ≡ true
not_false true c e f = refl
not_false false c e f = absurd (let q : true ≡ false = sym e ∙ f in cc)

pub few_octets : (p : Named) (o : List ℕ) → IsContentIn p integer o → (0 < length o) × (length o ≤ 8)
few_octets p o h = integer_size (profile_of p) o h.1

pub few_enumerated : (p : Named) (o : List ℕ) → IsContentIn p enumerated o → (0 < length o) × (length o ≤ 8)
few_enumerated p o h = integer_size (profile_of p) o h.1

-- a row that has no default has no entry where it has no element
pub no_default : (p : Presence) (node : NodeId) (e : Option Content) → ((d : ℤ) → p ≡ Presence.Default d → ⊥) → (elim p as (λ _. Option Content) [ Presence.Default d ↦ Some (simple (default_value (kind_of node) d)) | _ ↦ None ]) ≡ e → e ≡ None
no_default (Presence.Default d) node e h q = absurd (h d refl)
no_default Presence.Must node e h q = sym q
no_default Presence.May node e h q = sym q
no_default Presence.LeftOut node e h q = sym q

pub same_row : (x : Option TableRow) (r s : TableRow) → x ≡ Some r → x ≡ Some s → r ≡ s
same_row x r s h k = let q : Some r ≡ Some s = sym h ∙ k in cc

pub whole_rest : (k : ℕ) (ms : List Mark) → take (length ms - k) (drop k ms) ≡ drop k ms
whole_rest k ms = ap (λ (n : ℕ). take n (drop k ms)) (sym (length-drop k ms)) ∙ take-length (drop k ms)

pub starts : (ms : List Mark) (m : Mark) → slice_get ms 0 ≡ Some m → ms ≡ m ∷ drop 1 ms
starts [] m e = absurd cc
starts (x ∷ ms) m e = let q : x ≡ m = cc in ap (λ y. y ∷ ms) q

pub some_left : (ms : List Mark) → is_at_end ms ≡ false → 0 < length ms
some_left [] e = absurd cc
some_left (m ∷ ms) e = omega arith

tail_of : (m n : Mark) (xs ys : List Mark) → m ∷ xs ≡ n ∷ ys → (m ≡ n) × (xs ≡ ys)
tail_of m n xs ys e = (cc, cc)

-- the marks of a value, and then others
front : (ms rest tail marks : List Mark) (m : Mark) → ms ≡ m ∷ tail → marks ≡ ms ++ rest → marks ≡ m ∷ (tail ++ rest)
front ms rest tail marks m e q = q ∙ ap (λ x. x ++ rest) e

-- what a value says whose marks begin so
begun : (c : Content) (ms rest tail : List Mark) (m : Mark) → IsMarked c ms → m ∷ tail ≡ ms ++ rest → (inside : List Mark) × Says m c inside × (tail ≡ inside ++ rest)
begun c ms rest tail m h e =
    let v = value_says c ms h in
    let t = tail_of m v.0 tail (v.1 ++ rest) (front ms rest v.1 (m ∷ tail) v.0 v.2 e) in
    (v.1, subst (λ x. Says x c v.1) (sym t.0) v.3, t.1)

ended : (own inside rest tail : List Mark) → inside ≡ own ++ mark.End ∷ [] → tail ≡ inside ++ rest → tail ≡ own ++ (mark.End ∷ rest)
ended own inside rest tail e q = q ∙ ap (λ ms. ms ++ rest) e ∙ append_assoc own (mark.End ∷ []) rest

pub leaf_first : (c : Content) (ms rest tail : List Mark) (l : LeafType) → IsMarked c ms → mark.Leaf l ∷ tail ≡ ms ++ rest
    → (o : List ℕ) × (p : Named) × IsContentIn p (leaf_is l) o × (c ≡ simple (value (leaf_is l) o)) × (tail ≡ map mark.Octet o ++ (mark.End ∷ rest))
leaf_first c ms rest tail l h e =
    let b = begun c ms rest tail (mark.Leaf l) h e in
    let s = b.1 in
    let is : leaf_is l ≡ s.0 = let q : Some (leaf_is l) ≡ Some s.0 = s.3 in cc in
    (s.1, s.2, subst (λ k. IsContentIn s.2 k s.1) (sym is) s.4, s.5 ∙ ap (λ k. simple (value k s.1)) (sym is), ended (map mark.Octet s.1) b.0 rest tail s.6 b.2)

-- what only the module profile has
pub module_first : (c : Content) (ms rest tail : List Mark) (m : Mark) → is_of_module m ≡ true → IsMarked c ms → m ∷ tail ≡ ms ++ rest → (o : List ℕ) × SaysOctets m c o × (tail ≡ map mark.Octet o ++ (mark.End ∷ rest))
module_first c ms rest tail (mark.ModuleLeaf l) q h e =
    let b = begun c ms rest tail (mark.ModuleLeaf l) h e in
    let s = b.1 in
    let is : module_leaf_is l ≡ s.0 = let q : Some (module_leaf_is l) ≡ Some s.0 = s.3 in cc in
    (s.1, (s.2, subst (λ k. IsContentIn s.2 k s.1) (sym is) s.4, s.5 ∙ ap (λ k. simple (value k s.1)) (sym is)), ended (map mark.Octet s.1) b.0 rest tail s.6 b.2)
module_first c ms rest tail mark.BitString q h e =
    let b = begun c ms rest tail mark.BitString h e in
    let s = b.1 in
    let is : bit_string ≡ s.0 = let q : Some bit_string ≡ Some s.0 = s.3 in cc in
    (s.1, (s.2, subst (λ k. IsContentIn s.2 k s.1) (sym is) s.4, s.5 ∙ ap (λ k. simple (value k s.1)) (sym is)), ended (map mark.Octet s.1) b.0 rest tail s.6 b.2)
module_first c ms rest tail mark.Foreign q h e =
    let b = begun c ms rest tail mark.Foreign h e in
    let s = b.1 in
    (encoding s.0, (s.0, s.2, s.1, refl), ended (map mark.Octet (encoding s.0)) b.0 rest tail s.3 b.2)
module_first c ms rest tail _ q h e = absurd cc

-- the octets after any other mark say nothing
pub says_nothing : (m : Mark) (c : Content) (octets : List ℕ) → ((l : ModuleLeaf) → m ≡ mark.ModuleLeaf l → ⊥) → (m ≡ mark.BitString → ⊥) → (m ≡ mark.Foreign → ⊥) → SaysOctets m c octets → ⊥
says_nothing (mark.ModuleLeaf l) c octets f b t is = f l refl
says_nothing mark.BitString c octets f b t is = b refl
says_nothing mark.Foreign c octets f b t is = t refl
says_nothing _ c octets f b t is = is

pub absent_first : (c : Content) (ms rest tail : List Mark) (p : PartId) → IsMarked c ms → mark.Absent p ∷ tail ≡ ms ++ rest → IsAbsent p (Some c) × (tail ≡ rest)
absent_first c ms rest tail p h e = let b = begun c ms rest tail (mark.Absent p) h e in (b.1.0, b.2 ∙ ap (λ ms. ms ++ rest) b.1.1)

pub alternative_first : (c : Content) (ms rest tail : List Mark) (n : ℕ) → IsMarked c ms → mark.Alternative n ∷ tail ≡ ms ++ rest → (d : Content) × (inside : List Mark) × (c ≡ alternative n d) × IsMarked d inside × (tail ≡ inside ++ rest)
alternative_first c ms rest tail n h e = let b = begun c ms rest tail (mark.Alternative n) h e in (b.1.0, b.0, b.1.1, b.1.2, b.2)

pub sequence_first : (c : Content) (ms rest tail : List Mark) → IsMarked c ms → mark.Sequence ∷ tail ≡ ms ++ rest → (es : Entries) × (inside : List Mark) × (c ≡ sequence es) × AreEntries es inside × (tail ≡ inside ++ (mark.End ∷ rest))
sequence_first c ms rest tail h e = let b = begun c ms rest tail mark.Sequence h e in (b.1.0, b.1.1, b.1.2, b.1.3, ended b.1.1 b.0 rest tail b.1.4 b.2)

pub list_first : (c : Content) (ms rest tail : List Mark) → IsMarked c ms → mark.List ∷ tail ≡ ms ++ rest → (is : Items) × (inside : List Mark) × (c ≡ list is) × AreItems is inside × (tail ≡ inside ++ (mark.End ∷ rest))
list_first c ms rest tail h e = let b = begun c ms rest tail mark.List h e in (b.1.0, b.1.1, b.1.2, b.1.3, ended b.1.1 b.0 rest tail b.1.4 b.2)

pub none_begins : (c : Content) (ms rest tail : List Mark) (m : Mark) → begins m ≡ false → IsMarked c ms → m ∷ tail ≡ ms ++ rest → ⊥
none_begins c ms rest tail m off h e = absurd (let q : false ≡ true = sym off ∙ says_begins m c _ (begun c ms rest tail m h e).1 in cc)

pub nothing_begins : (c : Content) (ms rest marks : List Mark) → slice_get marks 0 ≡ None → IsMarked c ms → marks ≡ ms ++ rest → ⊥
nothing_begins c ms rest marks none h e =
    let v = value_says c ms h in
    absurd (let q : None ≡ Some v.0 = sym none ∙ ap (λ x. slice_get x 0) (front ms rest v.1 marks v.0 v.2 e) in cc)

absent_at : (marks : List Mark) (p : PartId) → absent_in marks ≡ Some p → marks ≡ mark.Absent p ∷ drop 1 marks
absent_at [] p is = absurd cc
absent_at (mark.Absent q ∷ ms) p is = (let same : q ≡ p = cc in ap (λ x. mark.Absent x ∷ ms) same)
absent_at (_ ∷ ms) p is = absurd cc

-- an entry whose row is absent, and one that has an element
absent_alone : (q : PartId) (p : PartId) (ms rest marks : List Mark) → ms ≡ mark.Absent q ∷ [] → marks ≡ ms ++ rest → absent_in marks ≡ Some p → (q ≡ p) × (drop 1 marks ≡ rest)
absent_alone q p ms rest marks e at is =
    let all : marks ≡ mark.Absent q ∷ rest = front ms rest [] marks (mark.Absent q) e at in
    (let x : Some q ≡ Some p = sym (ap absent_in all) ∙ is in cc, ap (drop 1) all)

pub entry_absent_first : (e : Option Content) (ms rest marks : List Mark) (p : PartId) → IsEntry e ms → marks ≡ ms ++ rest → absent_in marks ≡ Some p → IsAbsent p e × (drop 1 marks ≡ rest)
entry_absent_first None ms rest marks p h e is = let a = absent_alone h.0 p ms rest marks h.1 e is in (subst (λ x. IsAbsent x None) a.0 h.2, a.1)
entry_absent_first (Some c) ms rest marks p h e is = absent_first c ms rest (drop 1 marks) p h (sym (absent_at marks p is) ∙ e)

pub entry_value : (e : Option Content) (ms rest marks : List Mark) → IsEntry e ms → marks ≡ ms ++ rest → absent_in marks ≡ None → (c : Content) × (e ≡ Some c) × IsMarked c ms
entry_value None ms rest marks h e is = absurd (let x : Some h.0 ≡ None = sym (ap absent_in (front ms rest [] marks (mark.Absent h.0) h.1 e)) ∙ is in cc)
entry_value (Some c) ms rest marks h e is = (c, refl, h)

pub entry_absent : (e : Option Content) (ms rest marks : List Mark) → IsEntry e ms → marks ≡ ms ++ rest → is_there e ≡ false → (e ≡ None) × (drop 1 marks ≡ rest)
entry_absent None ms rest marks h q off = (refl, ap (drop 1) (front ms rest [] marks _ h.1 q))
entry_absent (Some c) ms rest marks h q off = absurd cc

pub entry_there : (e : Option Content) (ms : List Mark) → IsEntry e ms → is_there e ≡ true → (c : Content) × (e ≡ Some c) × IsMarked c ms
entry_there None ms h on = absurd cc
entry_there (Some c) ms h on = (c, refl, h)

pub not_some : (x : Option Mark) → ((m : Mark) → x ≡ Some m → ⊥) → x ≡ None
not_some None h = refl
not_some (Some m) h = absurd (h m refl)

pub no_mark : (ms : List Mark) → slice_get ms 0 ≡ None → length ms ≡ 0
no_mark [] e = refl
no_mark (m ∷ ms) e = absurd cc

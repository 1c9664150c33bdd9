-- The machine goes from places that are due to places that are due.
use Rattle.std.proofs.Common.{◌≡◌, ◌⊎◌, ℕ, zero, suc, ◌+◌, ◌-◌, ◌*◌, ◌<◌, ◌≤◌, true, false, List, [], ◌∷◌, ◌++◌, length, take, drop, Option, Some, None, IsTrue, refl, sym, ap, subst, ◌∙◌, inl, inr, arith, append_assoc, append-nil, length-append}
use Rattle.std.proofs.lemmas.List.{drop_at, length-drop}
use Rattle.ber_tree.specs.Identifier.{Tag, identifier}
use Rattle.ber_tree.specs.Length.{IsLength}
use Rattle.ber_tree.specs.Tree.{Tree, Trees, primitive, constructed, none, more, tag_of, Spells, SpellsAll, depth, depth_all}
use Rattle.ill_tables.specs.declared.node.Kind.{Kind}
use Rattle.ill_schema.specs.Apdu.{Apdu, root, MeansApdu}
use Rattle.ill_schema.specs.Content.{Content, simple, alternative}
use Rattle.ill_schema.specs.Content as content
use Rattle.ill_refusals.proofs.FirstFault.{has_fault}
use Rattle.ill_refusals.specs.Element.{Element, Start}
use Rattle.ill_refusals.specs.Fault.{fault_at}
use Rattle.ill_refusals.specs.code.Judge.{Judgement, faulty, closes, opens, reads, judge}
use Rattle.ber_tree.specs.Octets.{are_octets}
use Rattle.ill_schema.specs.Meaning.{Means}
use Rattle.ill_refusals.specs.Next.{rows, Due, part, element_of, due, start_of, opening, IsWhole}
use Rattle.ill_refusals.specs.Place.{Open, message, next_in, bound, allows, IsOpening, IsOpen, IsPlace, IsDue}
use Rattle.ber_leaf.specs.Profile.{Profile}
use Rattle.ill_tables.specs.Table.{kind_of}
use Rattle.ill_schema.specs.Tagging.{untagged}
use Rattle.ill_schema.proofs.Tags.{root_choice}
use Rattle.ill_schema.proofs.Unique.{no_leaf}
use Rattle.ill_refusals.proofs.WholeElements.{IsProper, IsElement}
use Rattle.ill_refusals.proofs.OpenElements.{in_body, due_whole, due_proper, read_element, primitive_element}
use Rattle.ber_core.proofs.ReadOctets.{octets_left, octets_right, take-all}
use Rattle.ill_refusals.proofs.Segments.{segments_octets}
use Rattle.ill_refusals.proofs.Judgements.{MayEnd, Judged, Closes, Opens, Reads, judged, bound_some, id_size, length_size}
use Rattle.ill_refusals.specs.code.Step.{Step, refused, goes, whole, stuck, snoc, with_tree, close, opened, step_after}
use Rattle.ill_refusals.proofs.Machine.{step, IsFinal, Runs, runs-none, runs-step, runs-trans}
use Rattle.ill_refusals.proofs.TreeRuns.{whole-snoc}
use Rattle.ill_refusals.proofs.PlaceRuns.{place_proper}

-- a tree after trees
spelled-snoc : (ts : Trees) (T : Tree) (a b : List ℕ) → SpellsAll ts a → Spells T b → SpellsAll (snoc ts T) (a ++ b)
spelled-snoc none T a b h k = (b, [], k, refl, ap (λ z. z ++ b) h ∙ sym (append-nil b))
spelled-snoc (more U ts) T a b h k =
    (h.0, h.1 ++ b, h.2, spelled-snoc ts T h.1 b h.3 k, ap (λ z. z ++ b) h.4 ∙ append_assoc h.0 h.1 b)

depth-snoc : (ts : Trees) (T : Tree) (n : ℕ) → depth_all ts ≤ n → depth T ≤ n → depth_all (snoc ts T) ≤ n
depth-snoc none T n h k = omega arith
depth-snoc (more U ts) T n h k = let r = depth-snoc ts T n (omega arith) k in omega arith

-- a message's tree, spelled by the first octets
pub record IsMessage (p : Profile) (s : List ℕ) (T : Tree) (n : ℕ) : Type 0 where
  pub apdu : Apdu
  pub means : MeansApdu p apdu T
  pub octets : List ℕ
  pub remaining : List ℕ
  pub begins : s ≡ octets ++ remaining
  pub size : n ≡ length octets
  pub spells : Spells T octets
  pub shallow : depth T ≤ 32
  pub short : n ≤ p.limit

-- what a step of the machine says of the input
abbrev pub Placed : Profile → List ℕ → Step → Type 0
Placed p s (goes path k rest) = (u : List ℕ) × (s ≡ u ++ rest) × (k ≡ length u) × IsPlace p u path
Placed p s (whole T n) = IsMessage p s T n
Placed p s (refused f) = (path : List Open) × (k : ℕ) × IsDue p s k path × (fault_at p path k (drop k s) ≡ Some f)
Placed p s stuck = ⊥

root_value : (p : Profile) (d : Due) (T : Tree) → due p (tag_of T) (next_in p []) ≡ Some d → IsWhole p d T → (v : Content) × Means p v (root p) untagged T
root_value p d T e w = found (start_of p (tag_of T) (message p)) refl
  where
    found : (o : Option Start) → start_of p (tag_of T) (message p) ≡ o → (v : Content) × Means p v (root p) untagged T
    found (Some s) q =
        let r : Some (part (message p) s.element (rows [])) ≡ Some d = sym (ap (in_body p (tag_of T) (message p) []) q) ∙ e in
        let t : d ≡ part (message p) s.element (rows []) = cc in
        let x : IsWhole p (part (message p) s.element (rows [])) T = subst (λ y. IsWhole p y T) t w in
        x.1
    found None q = absurd (let r : None ≡ Some d = sym (ap (in_body p (tag_of T) (message p) []) q) ∙ e in cc)

apdu_of : (p : Profile) (v : Content) (T : Tree) → Means p v (root p) untagged T → (a : Apdu) × MeansApdu p a T
apdu_of p (alternative n body) T m =
    let e : n ≡ n + 1 - 1 = omega arith in
    (record { number = n + 1; body = body }, (omega arith, subst (λ z. Means p (alternative z body) (root p) untagged T) e m))
apdu_of p (simple w) T m = absurd (no_leaf (kind_of (root p)) w m.0 m.1 (inr (inr (root_choice p.full))))
apdu_of p (content.sequence es) T m = absurd (let q : Kind.Choice ≡ Kind.Seq = sym (root_choice p.full) ∙ m.0 in cc)
apdu_of p (content.list is) T m = absurd (let q : Kind.Choice ≡ Kind.SeqOf = sym (root_choice p.full) ∙ m.0 in cc)
apdu_of p (content.foreign V) T m = absurd (let q : Kind.Choice ≡ Kind.Any = sym (root_choice p.full) ∙ m.0 in cc)

-- a whole tree is appended, or is the message
pub add_tree : (p : Profile) (s : List ℕ) (path : List Open) (T : Tree) (u b x : List ℕ) (d : Due) → s ≡ u ++ (b ++ x) → IsPlace p u path → due p (tag_of T) (next_in p path) ≡ Some d → IsWhole p d T
    → Spells T b → length path + depth T ≤ 32 → length u + length b ≤ bound p path → Placed p s (with_tree path T (length u + length b) x)
add_tree p s [] T u b x d e h q w sp deep le =
    let z : length u ≡ 0 = ap length h in
    let a = root_value p d T q w in
    let m = apdu_of p a.0 T a.1 in
    record { apdu = m.0; means = m.1; octets = b; remaining = x; begins = e ∙ ap (λ y. y ++ (b ++ x)) h; size = omega arith; spells = sp; shallow = omega arith; short = le }
add_tree p s (o ∷ path) T u b x d e h q w sp deep le =
    let i = h.4 in
    let o2 : Open = record o { trees = snoc o.trees T } in
    let shallow = i.shallow in
    let size : length u ≡ length h.0 + length h.1 + length h.2 = omega (arith, ap length h.5, length-append h.0 (h.1 ++ h.2), length-append h.1 h.2) in
    let l : depth_all (snoc o.trees T) ≤ 32 - (length path + 1) = depth-snoc o.trees T (32 - (length path + 1)) (omega arith) (omega arith) in
    let at : IsOpen p path o2 h.0 h.1 (h.2 ++ b) = record {
      starts = i.starts;
      opens = i.opens;
      is_due = i.is_due;
      allowed = i.allowed;
      spelled = spelled-snoc o.trees T h.2 b i.spelled sp;
      whole = whole-snoc p (opening p o.element) o.trees T d i.whole q w;
      shallow = omega arith;
      inside = i.inside;
      reached = omega (arith, length-append h.2 b);
    } in (
      u ++ b,
      e ∙ sym (append_assoc u b x),
      sym (length-append u b),
      (h.0, h.1, h.2 ++ b, h.3, at, ap (λ z. z ++ b) h.5 ∙ append_assoc h.0 (h.1 ++ h.2) b ∙ ap (λ z. h.0 ++ z) (append_assoc h.1 h.2 b)),
    )

-- a primitive element is read
pub reads_placed : (p : Profile) (s : List ℕ) (path : List Open) (k : ℕ) (rest : List ℕ) (tag : Tag) (n : ℕ) (octets : List ℕ) → IsTrue (are_octets s) → Placed p s (goes path k rest)
    → Reads p path k rest tag n octets → Placed p s (step_after (reads tag n octets) path k rest)
reads_placed p s path k rest tag n octets ok h r =
    let u = h.0 in let d = r.found in let T = primitive tag octets in
    let id = identifier tag false in
    let b = id ++ (r.octets ++ octets) in
    let begins : rest ≡ b ++ r.behind =
    r.spelled ∙ ap (λ z. id ++ z) (sym (append_assoc r.octets octets r.behind)) ∙ sym (append_assoc id (r.octets ++ octets) r.behind) in
    let size : length b ≡ n + length octets = omega (arith, r.size, length-append id (r.octets ++ octets), length-append r.octets octets) in
    let os : IsTrue (are_octets octets) =
    octets_right r.octets octets (octets_right id (r.octets ++ octets) (octets_left b r.behind (octets_right u (b ++ r.behind) (subst (λ z. IsTrue (are_octets z)) (h.1 ∙ ap (λ z. u ++ z) begins) ok)))) in
    let st = r.started in
    let w = due_whole p (next_in p path) d T (place_proper p path u h.3) st.is_due (primitive_element p (element_of d) tag octets st.allowed r.no_fault os st.has_identifier) in
    let sp : Spells T b = record { has_identifier = st.has_identifier; octets = r.octets; spell_length = r.is_length; joined = refl } in
    let shallow = st.shallow in let within = r.within in let at = h.2 in
    let q = add_tree p s path T u b r.behind d (h.1 ∙ ap (λ z. u ++ z) begins) h.3 st.is_due w sp (omega arith) (omega arith) in
    let e : length u + length b ≡ k + n + length octets = omega arith in
    let f : r.behind ≡ drop (n + length octets) rest = sym (drop_at b r.behind (n + length octets) size) ∙ ap (drop (n + length octets)) (sym begins) in
    subst (λ z. Placed p s (with_tree path T (k + n + length octets) z)) f (subst (λ m. Placed p s (with_tree path T m r.behind)) e q)

-- an element opens
pub opens_placed : (p : Profile) (s : List ℕ) (path : List Open) (k : ℕ) (rest : List ℕ) (tag : Tag) (e : Element) (n : ℕ) (end : Option ℕ) → Placed p s (goes path k rest)
    → Opens p path k rest tag e n end → Placed p s (step_after (opens tag e n end) path k rest)
opens_placed p s path k rest tag e n end h r =
    let u = h.0 in let d = r.found in let st = r.started in
    let id = identifier tag true in
    let header = id ++ r.octets in
    let o = opened e tag k end in
    let begins : rest ≡ header ++ r.behind = r.spelled ∙ sym (append_assoc id r.octets r.behind) in
    let size : length header ≡ n = length-append id r.octets ∙ sym r.size in
    let shallow = st.shallow in let within = r.within in let at = h.2 in
    let op : IsOpening o header = (
      r.octets,
      st.has_identifier,
      refl,
      elim r.how [
        | inl i ↦ inl (i.1, i.0)
        | inr i ↦ inr (i.0, i.1, i.2 ∙ ap (λ m. Some (k + m + i.0)) (sym size))
      ],
    ) in
    let ends : (bound p (o ∷ path) ≤ bound p path) × (k + n ≤ bound p (o ∷ path)) = elim r.how [
      | inl i ↦ let b : bound p (o ∷ path) ≡ bound p path = bound_none end i.1 in (omega arith, omega arith)
      | inr i ↦ let b : bound p (o ∷ path) ≡ k + n + i.0 = bound_some p o path (k + n + i.0) i.2 in let l = i.3 in (omega arith, omega arith)
    ] in
    let inside = ends.0 in let near = ends.1 in
    let here : IsOpen p path o u header [] = record {
      starts = at;
      opens = op;
      is_due = (d, st.is_due, r.is_element);
      allowed = subst (λ x. allows x true ≡ true) r.is_element st.allowed;
      spelled = refl;
      whole = tt;
      shallow = omega arith;
      inside = inside;
      reached = omega arith;
    } in (
      u ++ header,
      h.1 ∙ ap (λ z. u ++ z) begins ∙ sym (append_assoc u header r.behind) ∙ ap (λ z. (u ++ header) ++ z) (sym (drop_at header r.behind n size) ∙ ap (drop n) (sym begins)),
      omega (arith, length-append u header),
      (u, header, [], h.3, here, ap (λ z. u ++ z) (sym (append-nil header))),
    )
  where
    bound_none : (end : Option ℕ) → end ≡ None → bound p (opened e tag k end ∷ path) ≡ bound p path
    bound_none end q = ap (λ x. bound p (opened e tag k x ∷ path)) q

-- the tree of the innermost element, when it ends
ended_whole : (p : Profile) (s : List ℕ) (o : Open) (outer : List Open) (u rest before header contents : List ℕ) → IsTrue (are_octets s) → s ≡ u ++ rest → IsPlace p before outer
    → (i : IsOpen p outer o before header contents) → u ≡ before ++ (header ++ contents) → MayEnd p o outer → IsWhole p i.is_due.0 (constructed o.tag o.trees)
ended_whole p s o outer u rest before header contents ok e pl i f may =
    let d = i.is_due.0 in
    let proper = place_proper p outer before pl in
    let octets : IsTrue (are_octets contents) =
    octets_right header contents (octets_right before (header ++ contents) (subst (λ z. IsTrue (are_octets z)) f (octets_left u rest (subst (λ z. IsTrue (are_octets z)) e ok)))) in
    let is : IsProper p o.element = subst (IsProper p) i.is_due.2 ((due_proper p o.tag (next_in p outer) d proper i.is_due.1).0) in
    let m : IsElement p o.element (constructed o.tag o.trees) =
    read_element p o.element o.tag o.trees is i.allowed (record { whole = i.whole; complete = may.complete }) may.no_fault (λ l. segments_octets l o.trees contents i.spelled octets) i.opens.1 in
    due_whole p (next_in p outer) d (constructed o.tag o.trees) proper i.is_due.1 (subst (λ x. IsElement p x (constructed o.tag o.trees)) (sym i.is_due.2) m)

ended_definite : (p : Profile) (o : Open) (outer : List Open) (before header contents : List ℕ) (k : ℕ) → (i : IsOpen p outer o before header contents)
    → k ≡ length before + length header + length contents → o.end ≡ Some k → Spells (constructed o.tag o.trees) (header ++ contents)
ended_definite p o outer before header contents k i size e = (
  contents,
  i.spelled,
  inl (elim i.opens.3 [
    | inl x ↦ absurd (let q : None ≡ Some k = sym x.0 ∙ e in cc)
    | inr x ↦
        let q : Some (o.start + length header + x.0) ≡ Some k = sym x.2 ∙ e in
        let r : o.start + length header + x.0 ≡ k = cc in
        let st = i.starts in
        let n : x.0 ≡ length contents = omega arith in
        record {
          has_identifier = i.opens.1;
          octets = i.opens.0;
          spell_length = subst (λ m. IsLength m i.opens.0) n x.1;
          joined = ap (λ z. z ++ contents) i.opens.2 ∙ append_assoc (identifier o.tag true) i.opens.0 contents;
        }
  ]),
)

ended_indefinite : (p : Profile) (o : Open) (outer : List Open) (before header contents : List ℕ) → (i : IsOpen p outer o before header contents)
    → o.end ≡ None → Spells (constructed o.tag o.trees) (header ++ (contents ++ 0 ∷ 0 ∷ []))
ended_indefinite p o outer before header contents i e = (
  contents,
  i.spelled,
  inr (elim i.opens.3 [
    | inr x ↦ absurd (let q : None ≡ Some (o.start + length header + x.0) = sym e ∙ x.2 in cc)
    | inl x ↦ record {
      has_identifier = i.opens.1;
      joined = ap (λ z. z ++ (contents ++ 0 ∷ 0 ∷ [])) i.opens.2 ∙ append_assoc (identifier o.tag true) i.opens.0 (contents ++ 0 ∷ 0 ∷ [])
          ∙ ap (λ z. identifier o.tag true ++ (z ++ (contents ++ 0 ∷ 0 ∷ []))) x.1;
    }
  ]),
)

-- the innermost element ends
pub closes_at : (p : Profile) (s : List ℕ) (o : Open) (outer : List Open) (k : ℕ) (rest : List ℕ) (m : ℕ) → IsTrue (are_octets s) → Placed p s (goes (o ∷ outer) k rest) → MayEnd p o outer
    → ((m ≡ 0) × (o.end ≡ Some k)) ⊎ ((m ≡ 2) × (o.end ≡ None) × ((w : List ℕ) × (rest ≡ 0 ∷ 0 ∷ w)) × (k + 2 ≤ bound p (o ∷ outer)))
    → Placed p s (with_tree outer (constructed o.tag o.trees) (k + m) (drop m rest))
closes_at p s o outer k rest m ok h may how =
    let u = h.0 in let at = h.2 in
    let before = h.3.0 in let header = h.3.1 in let contents = h.3.2 in let i = h.3.4 in
    let T = constructed o.tag o.trees in
    let d = i.is_due.0 in
    let w = ended_whole p s o outer u rest before header contents ok h.1 h.3.3 i h.3.5 may in
    let size : length u ≡ length before + length header + length contents = omega (arith, ap length h.3.5, length-append before (header ++ contents), length-append header contents) in
    let deep = i.shallow in let inside = i.inside in let reached = i.reached in
    elim how [
      | inl x ↦
          let b = header ++ contents in
          let sp = ended_definite p o outer before header contents k i (omega arith) x.1 in
          let e : s ≡ before ++ (b ++ rest) = h.1 ∙ ap (λ z. z ++ rest) h.3.5 ∙ append_assoc before b rest in
          let q = add_tree p s outer T before b rest d e h.3.3 i.is_due.1 w sp (omega arith) (omega (arith, length-append header contents)) in
          let l : length before + length b ≡ k + m = omega (arith, x.0, length-append header contents) in
          subst (λ z. Placed p s (with_tree outer T (k + m) z)) (ap (λ n. drop n rest) (sym x.0)) (subst (λ n. Placed p s (with_tree outer T n rest)) l q)
      | inr x ↦
          let v = x.2.0 in
          let b = header ++ (contents ++ 0 ∷ 0 ∷ []) in
          let sp = ended_indefinite p o outer before header contents i x.1 in
          let lb : length b ≡ length header + (length contents + 2) = omega (arith, length-append header (contents ++ 0 ∷ 0 ∷ []), length-append contents (0 ∷ 0 ∷ [])) in
          let near = x.3 in
          let e : s ≡ before ++ (b ++ v) =
          h.1 ∙ ap (λ z. u ++ z) x.2.1 ∙ ap (λ z. z ++ (0 ∷ 0 ∷ v)) h.3.5 ∙ append_assoc before (header ++ contents) (0 ∷ 0 ∷ v)
          ∙ ap (λ z. before ++ z) (append_assoc header contents (0 ∷ 0 ∷ v) ∙ ap (λ z. header ++ z) (sym (append_assoc contents (0 ∷ 0 ∷ []) v)) ∙ sym (append_assoc header (contents ++ 0 ∷ 0 ∷ []) v)) in
          let q = add_tree p s outer T before b v d e h.3.3 i.is_due.1 w sp (omega arith) (omega arith) in
          let l : length before + length b ≡ k + m = omega (arith, x.0) in
          let f : v ≡ drop m rest = ap (drop 2) (sym x.2.1) ∙ ap (λ n. drop n rest) (sym x.0) in
          subst (λ z. Placed p s (with_tree outer T (k + m) z)) f (subst (λ n. Placed p s (with_tree outer T n v)) l q)
    ]

closes_placed : (p : Profile) (s : List ℕ) (path : List Open) (k : ℕ) (rest : List ℕ) (m : ℕ) → IsTrue (are_octets s) → Placed p s (goes path k rest)
    → Closes p path k rest m → Placed p s (step_after (closes m) path k rest)
closes_placed p s path k rest m ok h r =
    subst (λ z. Placed p s (step_after (closes m) z k rest)) (sym r.is_path)
    (closes_at p s r.innermost r.outer k rest m ok (subst (λ z. Placed p s (goes z k rest)) r.is_path h) r.may_end (elim r.how [
      | inl x ↦ inl x
      | inr x ↦ inr (x.0, x.1, x.2, subst (λ z. k + 2 ≤ bound p z) r.is_path x.3)
    ]))

take-u : (u rest : List ℕ) (k : ℕ) → k ≡ length u → take k (u ++ rest) ≡ u
take-u u rest k e = ap (λ n. take n (u ++ rest)) e ∙ take-all u rest

-- each step leads from a place to a place, to a fault or to a message
moved_placed : (p : Profile) (s : List ℕ) (path : List Open) (k : ℕ) (rest : List ℕ) (j : Judgement) → IsTrue (are_octets s) → Placed p s (goes path k rest) → judge p path k rest ≡ j
    → Judged p path k rest j → Placed p s (step_after j path k rest)
moved_placed p s path k rest (faulty f) ok h e r =
    let u = h.0 in let at = h.2 in
    let t : take k s ≡ u = ap (take k) h.1 ∙ take-u u rest k at in
    let g : drop k s ≡ rest = ap (drop k) h.1 ∙ drop_at u rest k (sym at) in (
      path,
      k,
      (omega (arith, ap length h.1, length-append u rest), subst (λ z. IsPlace p z path) (sym t) h.3),
      has_fault p path k (drop k s) f (ap (judge p path k) g ∙ e),
    )
moved_placed p s path k rest (closes m) ok h e r = closes_placed p s path k rest m ok h r
moved_placed p s path k rest (opens tag x n end) ok h e r = opens_placed p s path k rest tag x n end h r
moved_placed p s path k rest (reads tag n octets) ok h e r = reads_placed p s path k rest tag n octets ok h r

pub step_placed : (p : Profile) (s : List ℕ) (path : List Open) (k : ℕ) (rest : List ℕ) → IsTrue (are_octets s) → Placed p s (goes path k rest) → Placed p s (step p path k rest)
step_placed p s path k rest ok h =
    moved_placed p s path k rest (judge p path k rest) ok h refl (judged p path k rest (octets_right h.0 rest (subst (λ z. IsTrue (are_octets z)) h.1 ok)))

-- each step shortens what is left to do
abbrev pub Less : Step → ℕ → Type 0
Less (goes path k rest) n = 2 * length rest + length path < n
Less (refused f) n = Unit {0}
Less (whole T m) n = Unit {0}
Less stuck n = Unit {0}

with_less : (path : List Open) (T : Tree) (k : ℕ) (rest : List ℕ) (n : ℕ) → 2 * length rest + length path < n → Less (with_tree path T k rest) n
with_less [] T k rest n h = tt
with_less (o ∷ path) T k rest n h = h

moved_less : (p : Profile) (path : List Open) (k : ℕ) (rest : List ℕ) (j : Judgement) (n : ℕ) → Judged p path k rest j → 2 * length rest + length path < n + 1 → Less (step_after j path k rest) n
moved_less p path k rest (faulty f) n r l = tt
moved_less p path k rest (closes m) n r l =
    let a : length path ≡ suc (length r.outer) = ap length r.is_path in
    subst (λ z. Less (close z (k + m) (drop m rest)) n) (sym r.is_path)
    (with_less r.outer _ (k + m) (drop m rest) n (omega (arith, length-drop m rest)))
moved_less p path k rest (opens tag e h end) n r l =
    let i = id_size tag true r.started.has_identifier in
    let o : 1 ≤ length r.octets = elim r.how [ inl x ↦ (let q : length r.octets ≡ 1 = ap length x.0 in omega arith) | inr x ↦ length_size x.0 r.octets x.1 ] in
    omega (arith, length-drop h rest, r.size, ap length r.spelled, length-append (identifier tag true) (r.octets ++ r.behind), length-append r.octets r.behind)
moved_less p path k rest (reads tag h content) n r l =
    let i = id_size tag false r.started.has_identifier in
    with_less path _ (k + h + length content) (drop (h + length content) rest) n
    (omega (
      arith,
      length-drop (h + length content) rest,
      r.size,
      ap length r.spelled,
      length-append (identifier tag false) (r.octets ++ (content ++ r.behind)),
      length-append r.octets (content ++ r.behind),
      length-append content r.behind,
    ))

-- the machine ends, at a fault or with a message
pub ends : (p : Profile) (s : List ℕ) (n : ℕ) (st : Step) → IsTrue (are_octets s) → Placed p s st → Less st n → (end : Step) × IsFinal end × Placed p s end × Runs p st end
ends p s n (refused f) ok h l = (refused f, tt, h, runs-none p (refused f))
ends p s n (whole T m) ok h l = (whole T m, tt, h, runs-none p (whole T m))
ends p s n stuck ok h l = absurd h
ends p s zero (goes path k rest) ok h l = absurd (omega arith)
ends p s (suc n) (goes path k rest) ok h l =
    let j = judged p path k rest (octets_right h.0 rest (subst (λ z. IsTrue (are_octets z)) h.1 ok)) in
    let r = ends p s n (step p path k rest) ok (step_placed p s path k rest ok h) (moved_less p path k rest (judge p path k rest) n j (omega arith)) in
    (r.0, r.1, r.2, runs-trans p _ _ _ (runs-step p path k rest (step p path k rest) refl) r.3)

-- Which causes a profile's refusals have.
use Rattle.std.proofs.Common.{◌≡◌, ◌≢◌, ℕ, ◌+◌, ◌-◌, ◌≤◌, Bool, true, false, ◌&&◌, List, [], ◌∷◌, length, take, drop, Option, Some, None, IsTrue, refl, sym, ap, subst, ◌∙◌, inl, inr, arith, lit≤, if◌then◌else◌}
use Rattle.std.specs.Prelude.{not, nat_eq, nat_lt, nat_le, is_some}
use Rattle.ber_tree.specs.Identifier.{Tag}
use Rattle.ber_tree.specs.Tree.{Trees}
use Rattle.ber_leaf.specs.declared.fault.LeafFault.{LeafFault}
use Rattle.ber_leaf.specs.Leaf.{Leaf, boolean, integer, enumerated, general_string, visible_string, printable_string, iso_date, iso_time, null_type, object_identifier, octet_string, bit_string, object_descriptor, content_fault}
use Rattle.ber_leaf.specs.Profile.{Profile, profile_two, profile_three}
use Rattle.ber_core.specs.Reading.{IdentifierRead, identified, part_identifier, no_identifier, read_identifier, LengthRead, definite, indefinite, part_length, no_length, read_length}
use Rattle.ill_tables.specs.declared.part.PartId.{PartId}
use Rattle.ill_schema.specs.declared.refusal.Cause.{Cause}
use Rattle.ill_schema.specs.Causes.{cause_of, cause_number}
use Rattle.ill_refusals.specs.Element.{Element, leaf, sequence, list, wrapper, loose_wrapper, segment, foreign, left_out}
use Rattle.ill_refusals.specs.Fault.{Fault, fault, ends_at, is_indefinite, past_end, cut_fault, element_fault, string_fault, is_deep, Refuses}
use Rattle.ill_refusals.specs.Next.{Due, element_of, due, missing}
use Rattle.ill_refusals.specs.Place.{Open, next_in, innermost_end, bound, allows, IsPlace}
use Rattle.ill_refusals.specs.Outcome.{CausesAreOfLeaves, HasLeaf, leaf_with}
use Rattle.ill_refusals.specs.code.Judge.{Judgement, faulty, closes, opens, reads, or_faulty, judge_end, judge_content, judge_size, judge_length, judge_form, judge_tag, judge_element, judge_mark, judge_octets, judge}
use Rattle.ill_refusals.proofs.FirstFault.{is_judged}
use Rattle.ill_refusals.proofs.DueOfProfile.{has_leaf, IsElementOf, due_of_profile, open_of_profile}

-- ---- the causes of a place

-- a cause that is neither a leaf's nor that of a row that is left out
abbrev is_plain : Cause → Bool
is_plain Cause.Truncated = true
is_plain Cause.BadTag = true
is_plain Cause.BadLength = true
is_plain Cause.TooLong = true
is_plain Cause.Overrun = true
is_plain Cause.TooDeep = true
is_plain Cause.UnexpectedTag = true
is_plain Cause.WrongForm = true
is_plain (Cause.Missing part) = true
is_plain Cause.BadEnd = true
is_plain cause = false

-- the causes that are right, where the innermost element may be in a list of elements, and what is due in another
module _ (p : Profile) (Ok : Cause → Type 0) (plain : (c : Cause) → IsTrue (is_plain c) → Ok c) where
  abbrev OkIn : Judgement → Type 0
  OkIn (faulty f) = Ok f.cause
  OkIn _ = Unit {0}

  -- each fault of an element's contents is right
  abbrev pub OkElement : Element → Type 0
  OkElement (leaf l) = (octets : List ℕ) (c : LeafFault) → content_fault p l octets ≡ Some c → Ok (cause_of c)
  OkElement (left_out part) = Ok (Cause.LeftOut part)
  OkElement e = Unit {0}

  abbrev OkOpen : List Open → Type 0
  OkOpen [] = Unit {0}
  OkOpen (o ∷ path) = OkElement o.element

  or_ok : (x : Option LeafFault) (at : ℕ) (j : Judgement) → ((c : LeafFault) → x ≡ Some c → Ok (cause_of c)) → OkIn j → OkIn (or_faulty x at j)
  or_ok None at j h k = k
  or_ok (Some c) at j h k = h c refl

  string_ok : (e : Element) (ts : Trees) (c : LeafFault) → OkElement e → string_fault p e ts ≡ Some c → Ok (cause_of c)
  string_ok (leaf l) ts c h e = h _ c e
  string_ok (sequence node) ts c h e = cc
  string_ok (list node) ts c h e = cc
  string_ok (wrapper w) ts c h e = cc
  string_ok (loose_wrapper w) ts c h e = cc
  string_ok (segment tag) ts c h e = cc
  string_ok (foreign n) ts c h e = cc
  string_ok (left_out part) ts c h e = cc

  content_ok : (e : Element) (octets : List ℕ) (c : LeafFault) → OkElement e → element_fault p e octets ≡ Some c → Ok (cause_of c)
  content_ok (leaf l) octets c h e = h octets c e
  content_ok (sequence node) octets c h e = cc
  content_ok (list node) octets c h e = cc
  content_ok (wrapper w) octets c h e = cc
  content_ok (loose_wrapper w) octets c h e = cc
  content_ok (segment tag) octets c h e = cc
  content_ok (foreign n) octets c h e = cc
  content_ok (left_out part) octets c h e = cc

  end_ok : (path : List Open) (k marks : ℕ) → OkOpen path → OkIn (judge_end p path k marks)
  end_ok [] k marks h = tt
  end_ok (o ∷ path) k marks h = go (missing p (next_in p (o ∷ path)))
    where
      go : (x : Option PartId) → OkIn (elim x as (λ _. Judgement) [
        | Some part ↦ faulty (fault (Cause.Missing part) k)
        | None ↦ or_faulty (string_fault p o.element o.trees) o.start (closes marks)
      ])
      go (Some part) = plain (Cause.Missing part) refl
      go None = or_ok (string_fault p o.element o.trees) o.start (closes marks) (λ c e. string_ok o.element o.trees c h e) tt

  past_ok : (path : List Open) → Ok (past_end path)
  past_ok path = go (is_some (innermost_end path))
    where
      go : (b : Bool) → Ok (if b then Cause.Overrun else Cause.TooLong)
      go true = plain Cause.Overrun refl
      go false = plain Cause.TooLong refl

  module _ (path : List Open) (k : ℕ) (cut : Fault) (cut_ok : Ok cut.cause) where
    size_ok : (e : Element) (tag : Tag) (f : Bool) (h n : ℕ) (w : List ℕ) → OkElement e → OkIn (judge_size p path e tag f k h cut n w)
    size_ok e tag f h n w ok = go (nat_lt (bound p path) (k + h + n)) f
      where
        content : (b : Bool) → OkIn (if b then faulty cut else or_faulty (element_fault p e (take n w)) k (reads tag h (take n w)))
        content true = cut_ok
        content false = or_ok (element_fault p e (take n w)) k (reads tag h (take n w)) (λ c q. content_ok e (take n w) c ok q) tt

        go : (b f : Bool) → OkIn (if b then faulty (fault (past_end path) k) else elim f as (λ _. Judgement) [ true ↦ opens tag e h (Some (k + h + n)) | false ↦ judge_content p e tag k h cut n w ])
        go true f = past_ok path
        go false true = tt
        go false false = content (nat_lt (length w) n)

    length_ok : (e : Element) (tag : Tag) (f : Bool) (i : ℕ) (w : List ℕ) → OkElement e → OkIn (judge_length p path e tag f k i cut w)
    length_ok e tag f i w ok = go (read_length f w)
      where
        go : (x : LengthRead) → OkIn (elim x as (λ _. Judgement) [
          | part_length ↦ faulty cut
          | no_length ↦ faulty (fault Cause.BadLength k)
          | indefinite rest ↦ opens tag e (i + (length w - length rest)) None
          | definite n rest ↦ judge_size p path e tag f k (i + (length w - length rest)) cut n rest
        ])
        go part_length = cut_ok
        go no_length = plain Cause.BadLength refl
        go (indefinite rest) = tt
        go (definite n rest) = size_ok e tag f (i + (length w - length rest)) n rest ok

    allowed_ok : (e : Element) (tag : Tag) (f : Bool) (i : ℕ) (w : List ℕ) → OkElement e → (b : Bool)
        → OkIn (elim b as (λ _. Judgement) [ true ↦ judge_length p path e tag f k i cut w | false ↦ faulty (fault Cause.WrongForm k) ])
    allowed_ok e tag f i w ok true = length_ok e tag f i w ok
    allowed_ok e tag f i w ok false = plain Cause.WrongForm refl

    form_ok : (e : Element) (tag : Tag) (f : Bool) (i : ℕ) (w : List ℕ) → OkElement e → OkIn (judge_form p path e tag f k i cut w)
    form_ok (leaf l) tag f i w ok = allowed_ok (leaf l) tag f i w ok (allows (leaf l) f)
    form_ok (sequence n) tag f i w ok = allowed_ok (sequence n) tag f i w ok (allows (sequence n) f)
    form_ok (list n) tag f i w ok = allowed_ok (list n) tag f i w ok (allows (list n) f)
    form_ok (wrapper c) tag f i w ok = allowed_ok (wrapper c) tag f i w ok (allows (wrapper c) f)
    form_ok (loose_wrapper c) tag f i w ok = allowed_ok (loose_wrapper c) tag f i w ok (allows (loose_wrapper c) f)
    form_ok (segment u) tag f i w ok = length_ok (segment u) tag f i w ok
    form_ok (foreign n) tag f i w ok = length_ok (foreign n) tag f i w ok
    form_ok (left_out part) tag f i w ok = ok

    abbrev OkDue : Option Due → Type 0
    OkDue None = Unit {0}
    OkDue (Some d) = OkElement (element_of d)

    tag_ok : (tag : Tag) (f : Bool) (i : ℕ) (w : List ℕ) → OkDue (due p tag (next_in p path)) → OkIn (judge_tag p path tag f k i cut w)
    tag_ok tag f i w h = go (due p tag (next_in p path)) h
      where
        go : (x : Option Due) → OkDue x → OkIn (elim x as (λ _. Judgement) [ None ↦ faulty (fault Cause.UnexpectedTag k) | Some d ↦ judge_form p path (element_of d) tag f k i cut w ])
        go None ok = plain Cause.UnexpectedTag refl
        go (Some d) ok = form_ok (element_of d) tag f i w ok

    element_ok : (w : List ℕ) → ((tag : Tag) (f : Bool) (r : List ℕ) → read_identifier w ≡ identified tag f r → OkDue (due p tag (next_in p path))) → OkIn (judge_element p path k cut w)
    element_ok w h = go (read_identifier w) refl
      where
        deep : (b : Bool) (tag : Tag) (f : Bool) (r : List ℕ) → read_identifier w ≡ identified tag f r
            → OkIn (if b then faulty (fault Cause.TooDeep k) else judge_tag p path tag f k (length w - length r) cut r)
        deep true tag f r q = plain Cause.TooDeep refl
        deep false tag f r q = tag_ok tag f (length w - length r) r (h tag f r q)

        go : (x : IdentifierRead) → read_identifier w ≡ x → OkIn (elim x as (λ _. Judgement) [
          | part_identifier ↦ faulty cut
          | no_identifier ↦ faulty (fault Cause.BadTag k)
          | identified tag constructed r ↦
              if is_deep p path then faulty (fault Cause.TooDeep k)
              else judge_tag p path tag constructed k (length w - length r) cut r
        ])
        go part_identifier q = cut_ok
        go no_identifier q = plain Cause.BadTag refl
        go (identified tag f r) q = deep (is_deep p path) tag f r q

    mark_ok : (w : List ℕ) → OkOpen path → OkIn (judge_mark p path k cut w)
    mark_ok [] h = cut_ok
    mark_ok (a ∷ w) h = go (nat_eq a 0)
      where
        go : (b : Bool) → OkIn (elim b as (λ _. Judgement) [ true ↦ judge_end p path k 2 | false ↦ faulty (fault Cause.BadEnd k) ])
        go true = end_ok path k 2 h
        go false = plain Cause.BadEnd refl

    octets_ok : (w : List ℕ) → OkOpen path → ((tag : Tag) (f : Bool) (r : List ℕ) → read_identifier w ≡ identified tag f r → OkDue (due p tag (next_in p path))) → OkIn (judge_octets p path k cut w)
    octets_ok [] h e = cut_ok
    octets_ok (a ∷ w) h e = go (is_indefinite path && nat_eq a 0)
      where
        go : (b : Bool) → OkIn (elim b as (λ _. Judgement) [ true ↦ judge_mark p path k cut w | false ↦ judge_element p path k cut (a ∷ w) ])
        go true = mark_ok w h
        go false = element_ok (a ∷ w) e

  pub judge_ok : (path : List Open) (k : ℕ) (rest : List ℕ) → OkOpen path
      → ((tag : Tag) (f : Bool) (r : List ℕ) → read_identifier (take (bound p path - k) rest) ≡ identified tag f r → (d : Due) → due p tag (next_in p path) ≡ Some d → OkElement (element_of d))
      → OkIn (judge p path k rest)
  judge_ok path k rest h e = go (ends_at path k)
    where
      cut_ok : (b : Bool) → Ok ((if b then fault (past_end path) k else fault Cause.Truncated (k + length rest)).cause)
      cut_ok true = past_ok path
      cut_ok false = plain Cause.Truncated refl

      found : (tag : Tag) (o : Option Due) → ((d : Due) → o ≡ Some d → OkElement (element_of d)) → OkDue path k (cut_fault p path k rest) (cut_ok (nat_le (bound p path - k) (length rest))) o
      found tag None q = tt
      found tag (Some d) q = q d refl

      go : (b : Bool) → OkIn (elim b as (λ _. Judgement) [
        | true ↦ judge_end p path k 0
        | false ↦ judge_octets p path k (cut_fault p path k rest) (take (bound p path - k) rest)
      ])
      go true = end_ok path k 0 h
      go false = octets_ok path k (cut_fault p path k rest) (cut_ok (nat_le (bound p path - k) (length rest))) (take (bound p path - k) rest) h
          (λ tag f r q. found tag (due p tag (next_in p path)) (λ d x. e tag f r q d x))

-- ---- the causes of a profile

abbrev IsCauseOf : Bool → Cause → Type 0
IsCauseOf false c = cause_number c ≤ 19
IsCauseOf true c = cause_number c ≡ 8 → ⊥

plain_cause : (full : Bool) (c : Cause) → IsTrue (is_plain c) → IsCauseOf full c
plain_cause false Cause.Truncated h = lit≤ tt
plain_cause false Cause.BadTag h = lit≤ tt
plain_cause false Cause.BadLength h = lit≤ tt
plain_cause false Cause.TooLong h = lit≤ tt
plain_cause false Cause.Overrun h = lit≤ tt
plain_cause false Cause.TooDeep h = lit≤ tt
plain_cause false Cause.UnexpectedTag h = lit≤ tt
plain_cause false Cause.WrongForm h = lit≤ tt
plain_cause false (Cause.Missing part) h = lit≤ tt
plain_cause false Cause.BadEnd h = lit≤ tt
plain_cause false c h = cc
plain_cause true (Cause.LeftOut part) h = cc
plain_cause true c h = λ e. omega (arith, e)

-- what holds of each fault of a leaf's contents
abbrev EachFault : (LeafFault → Type 0) → Leaf → Type 0
EachFault Q boolean = Q LeafFault.BadBoolean
EachFault Q integer = Q LeafFault.BadInteger × Q LeafFault.IntegerTooLong
EachFault Q enumerated = Q LeafFault.BadInteger × Q LeafFault.IntegerTooLong
EachFault Q iso_date = Q LeafFault.BadDate
EachFault Q iso_time = Q LeafFault.BadTime
EachFault Q null_type = Q LeafFault.BadNull
EachFault Q object_identifier = Q LeafFault.BadOid
EachFault Q bit_string = Q LeafFault.BadBits
EachFault Q octet_string = Unit {0}
EachFault Q object_descriptor = Unit {0}
EachFault Q l = Q LeafFault.BadText

of_fault : (Q : LeafFault → Type 0) (b : Bool) (c d : LeafFault) → Q c → (if b then None else Some c) ≡ Some d → Q d
of_fault Q true c d h e = cc
of_fault Q false c d h e = let q : c ≡ d = cc in subst Q q h

of_integer : (Q : LeafFault → Type 0) (a b : Bool) (c : LeafFault) → Q LeafFault.BadInteger × Q LeafFault.IntegerTooLong
    → (if a then Some LeafFault.BadInteger else if b then None else Some LeafFault.IntegerTooLong) ≡ Some c → Q c
of_integer Q true b c h e = let q : LeafFault.BadInteger ≡ c = cc in subst Q q h.0
of_integer Q false b c h e = of_fault Q b LeafFault.IntegerTooLong c h.1 e

of_content : (Q : LeafFault → Type 0) (p : Profile) (l : Leaf) (octets : List ℕ) (c : LeafFault) → EachFault Q l → content_fault p l octets ≡ Some c → Q c
of_content Q p boolean octets c h e = of_fault Q _ LeafFault.BadBoolean c h e
of_content Q p integer octets c h e = of_integer Q _ _ c h e
of_content Q p enumerated octets c h e = of_integer Q _ _ c h e
of_content Q p general_string octets c h e = of_fault Q _ LeafFault.BadText c h e
of_content Q p visible_string octets c h e = of_fault Q _ LeafFault.BadText c h e
of_content Q p printable_string octets c h e = of_fault Q _ LeafFault.BadText c h e
of_content Q p iso_date octets c h e = of_fault Q _ LeafFault.BadDate c h e
of_content Q p iso_time octets c h e = of_fault Q _ LeafFault.BadTime c h e
of_content Q p null_type octets c h e = of_fault Q _ LeafFault.BadNull c h e
of_content Q p object_identifier octets c h e = of_fault Q _ LeafFault.BadOid c h e
of_content Q p octet_string octets c h e = cc
of_content Q p bit_string octets c h e = of_fault Q _ LeafFault.BadBits c h e
of_content Q p object_descriptor octets c h e = cc

leaf_causes : (full : Bool) (l : Leaf) → IsTrue (has_leaf full l) → EachFault (λ c. IsCauseOf full (cause_of c)) l
leaf_causes false boolean h = lit≤ tt
leaf_causes false integer h = (lit≤ tt, lit≤ tt)
leaf_causes false enumerated h = (lit≤ tt, lit≤ tt)
leaf_causes false general_string h = lit≤ tt
leaf_causes false visible_string h = lit≤ tt
leaf_causes false printable_string h = lit≤ tt
leaf_causes false iso_date h = lit≤ tt
leaf_causes false iso_time h = lit≤ tt
leaf_causes false null_type h = cc
leaf_causes false object_identifier h = cc
leaf_causes false octet_string h = tt
leaf_causes false bit_string h = cc
leaf_causes false object_descriptor h = tt
leaf_causes true boolean h = λ e. omega (arith, e)
leaf_causes true integer h = ((λ e. omega (arith, e)), (λ e. omega (arith, e)))
leaf_causes true enumerated h = ((λ e. omega (arith, e)), (λ e. omega (arith, e)))
leaf_causes true octet_string h = tt
leaf_causes true object_descriptor h = tt
leaf_causes true general_string h = λ e. omega (arith, e)
leaf_causes true visible_string h = λ e. omega (arith, e)
leaf_causes true printable_string h = λ e. omega (arith, e)
leaf_causes true iso_date h = λ e. omega (arith, e)
leaf_causes true iso_time h = λ e. omega (arith, e)
leaf_causes true null_type h = λ e. omega (arith, e)
leaf_causes true object_identifier h = λ e. omega (arith, e)
leaf_causes true bit_string h = λ e. omega (arith, e)

left_cause : (full : Bool) (part : PartId) → IsTrue (not full) → IsCauseOf full (Cause.LeftOut part)
left_cause false part h = lit≤ tt
left_cause true part h = cc

causes_are : (p : Profile) (s : List ℕ) (f : Fault) → Refuses p s f → IsCauseOf p.full f.cause
causes_are p s f (inr n) = subst (λ (x : Fault). IsCauseOf p.full x.cause) (sym n.0) (long p.full)
  where
    long : (full : Bool) → IsCauseOf full Cause.NormalTooLong
    long false = lit≤ tt
    long true = λ e. omega (arith, e)
causes_are p s f (inl r) =
    subst (OkIn p (IsCauseOf p.full) (plain_cause p.full)) (is_judged p r.0 r.1 (drop r.1 s) f r.3)
    (judge_ok p (IsCauseOf p.full) (plain_cause p.full) r.0 r.1 (drop r.1 s) (opened r.0 r.2.1)
    (λ tag form w _ d e. element (length r.0) (element_of d) (due_of_profile p r.0 (take r.1 s) tag d r.2.1 e)))
  where
    element : (n : ℕ) (e : Element) → IsElementOf p.full p.bare n e → OkElement p (IsCauseOf p.full) (plain_cause p.full) e
    element n (leaf l) h = λ octets c e. of_content (λ x. IsCauseOf p.full (cause_of x)) p l octets c (leaf_causes p.full l h.0) e
    element n (left_out part) h = left_cause p.full part h.0
    element n (sequence node) h = tt
    element n (list node) h = tt
    element n (wrapper c) h = tt
    element n (loose_wrapper c) h = tt
    element n (segment tag) h = tt
    element n (foreign m) h = tt

    opened : (path : List Open) → IsPlace p (take r.1 s) path → OkOpen p (IsCauseOf p.full) (plain_cause p.full) path
    opened [] h = tt
    opened (o ∷ path) h = element (length path) o.element (open_of_profile p o path (take r.1 s) h)

pub causes_of_two : (s : List ℕ) (f : Fault) → Refuses profile_two s f → cause_number f.cause ≤ 19
causes_of_two s f h = causes_are profile_two s f h

pub causes_of_three : (s : List ℕ) (f : Fault) → Refuses profile_three s f → cause_number f.cause ≢ 8
causes_of_three s f h = causes_are profile_three s f h

-- ---- the leaves of causes

owned : (m : Leaf) → EachFault (λ c. (l : Leaf) → leaf_with c ≡ Some l → m ≡ l) m
owned boolean = λ l e. cc
owned integer = ((λ l e. cc), (λ l e. cc))
owned enumerated = ((λ l e. cc), (λ l e. cc))
owned general_string = λ l e. cc
owned visible_string = λ l e. cc
owned printable_string = λ l e. cc
owned iso_date = λ l e. cc
owned iso_time = λ l e. cc
owned null_type = λ l e. cc
owned object_identifier = λ l e. cc
owned octet_string = tt
owned bit_string = λ l e. cc
owned object_descriptor = tt

abbrev leaf_of : Cause → LeafFault
leaf_of Cause.BadInteger = LeafFault.BadInteger
leaf_of Cause.IntegerTooLong = LeafFault.IntegerTooLong
leaf_of Cause.BadText = LeafFault.BadText
leaf_of Cause.BadDate = LeafFault.BadDate
leaf_of Cause.BadTime = LeafFault.BadTime
leaf_of Cause.BadNull = LeafFault.BadNull
leaf_of Cause.BadOid = LeafFault.BadOid
leaf_of Cause.BadBits = LeafFault.BadBits
leaf_of _ = LeafFault.BadBoolean

leaf_again : (c : LeafFault) → leaf_of (cause_of c) ≡ c
leaf_again LeafFault.BadBoolean = refl
leaf_again _ = refl

no_plain : (c : LeafFault) → IsTrue (is_plain (cause_of c)) → ⊥
no_plain LeafFault.BadBoolean h = cc
no_plain LeafFault.BadInteger h = cc
no_plain LeafFault.IntegerTooLong h = cc
no_plain LeafFault.BadText h = cc
no_plain LeafFault.BadDate h = cc
no_plain LeafFault.BadTime h = cc
no_plain LeafFault.BadNull h = cc
no_plain LeafFault.BadOid h = cc
no_plain LeafFault.BadBits h = cc

no_left : (c : LeafFault) (part : PartId) → Cause.LeftOut part ≡ cause_of c → ⊥
no_left LeafFault.BadBoolean part h = cc
no_left LeafFault.BadInteger part h = cc
no_left LeafFault.IntegerTooLong part h = cc
no_left LeafFault.BadText part h = cc
no_left LeafFault.BadDate part h = cc
no_left LeafFault.BadTime part h = cc
no_left LeafFault.BadNull part h = cc
no_left LeafFault.BadOid part h = cc
no_left LeafFault.BadBits part h = cc

no_long : (c : LeafFault) → Cause.NormalTooLong ≡ cause_of c → ⊥
no_long LeafFault.BadBoolean h = cc
no_long LeafFault.BadInteger h = cc
no_long LeafFault.IntegerTooLong h = cc
no_long LeafFault.BadText h = cc
no_long LeafFault.BadDate h = cc
no_long LeafFault.BadTime h = cc
no_long LeafFault.BadNull h = cc
no_long LeafFault.BadOid h = cc
no_long LeafFault.BadBits h = cc

pub cause_of_leaf : (p : Profile) → CausesAreOfLeaves p
cause_of_leaf p x l own s f c (inr n) = absurd (no_long x (sym (ap (λ (y : Fault). y.cause) n.0) ∙ c))
cause_of_leaf p x l own s f c (inl r) = (
  r.0,
  r.1,
  r.2,
  r.3,
  subst (OkIn p Ok plain) (is_judged p r.0 r.1 (drop r.1 s) f r.3) (judge_ok p Ok plain r.0 r.1 (drop r.1 s) (opened r.0 refl)
      (λ tag form w i d e. element (element_of d) (λ q. inr (tag, form, w, d, i, e, q)))) c,
)
  where
    here : List ℕ
    here = take (bound p r.0 - r.1) (drop r.1 s)

    Ok : Cause → Type 0
    Ok y = y ≡ cause_of x → HasLeaf p r.0 here l

    plain : (y : Cause) → IsTrue (is_plain y) → Ok y
    plain y h e = absurd (no_plain x (subst (λ z. IsTrue (is_plain z)) e h))

    element : (e : Element) → (e ≡ leaf l → HasLeaf p r.0 here l) → OkElement p Ok plain e
    element (leaf m) has = λ octets y q same.
        let one : y ≡ x = sym (leaf_again y) ∙ ap leaf_of same ∙ leaf_again x in
        has (ap leaf (of_content (λ z. (n : Leaf) → leaf_with z ≡ Some n → m ≡ n) p m octets y (owned m) q l (ap leaf_with one ∙ own)))
    element (left_out part) has = λ e. absurd (no_left x part e)
    element (sequence node) has = tt
    element (list node) has = tt
    element (wrapper w) has = tt
    element (loose_wrapper w) has = tt
    element (segment tag) has = tt
    element (foreign n) has = tt

    opened : (path : List Open) → r.0 ≡ path → OkOpen p Ok plain path
    opened [] e = tt
    opened (o ∷ path) e = element o.element (λ q. inl (o, path, e, q))

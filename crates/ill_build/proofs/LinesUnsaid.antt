-- A line that has a fault says no APDU.
use Rattle.std.proofs.Common.{◌≡◌, ◌⊎◌, inl, inr, ◌∙◌, ◌-◌, ◌<◌, ◌≤◌, ℕ, Bool, true, false, not, List, [], Some, None, length, refl, sym, ap, subst, arith, codes, slice_get}
use Rattle.json.specs.Find.{as_str, get}
use Rattle.json.specs.Json.{Json, Members, document}
use Rattle.json.specs.Json as json
use Rattle.ber_leaf.specs.Profile.{Profile}
use Rattle.ill_schema.specs.Apdu.{Apdu, normal_form_in, root}
use Rattle.ill_schema.specs.Fits.{Fits, FitsApdu}
use Rattle.ill_schema.specs.Presence.{IsCarried}
use Rattle.ill_tables.specs.Names.{node_or_left_out, row_name, row_node}
use Rattle.ill_tables.specs.Table.{rows_of}
use Rattle.ill_tables.specs.declared.part.Row.{Row}
use Rattle.ill_build.specs.declared.cause.BuildCause.{BuildCause}
use Rattle.ill_build.specs.Faulty.{IsFaultOf, IsFaulty, IsMemberFault}
use Rattle.ill_build.specs.Line.{HasProfileFault, IsApduFault, IsFaultyLine, IsLineFault, IsProfileFault, IsProfileSaid, NamesApdu, SaysApdu, SaysLine, line_limit, line_names, profile_word}
use Rattle.ill_build.specs.Members.{name_fault, of_names, of_type, place_fault, row_fault}
use Rattle.ill_build.specs.Path.{Step}
use Rattle.ill_build.specs.Said.{Says}
use Rattle.ill_build.proofs.LeavesUnsaid.{member_clean, object_clean, object_there, text_clean}
use Rattle.ill_tables.proofs.DistinctNames.{row_once}
use Rattle.ill_build.proofs.Names.{row_place}
use Rattle.ill_build.proofs.Unsaid.{carried_clean, said_clean}

-- an APDU that a line may say: it fits, and its normal form is within the limit
pub record IsFit (p : Profile) (a : Apdu) : Type 0 where
  pub fits : FitsApdu p a
  pub short : length (normal_form_in p a) ≤ p.limit

word_clean : (full : Bool) (cause : BuildCause) → profile_word full ≡ profile_word (not full) → ⊥
word_clean false cause e = absurd cc
word_clean true cause e = absurd cc

pub profile_clean : (p : Profile) (j : Json) (cause : BuildCause) (path : List Step) → IsProfileSaid p (get (codes "profile") j) → HasProfileFault p j cause path → ⊥
profile_clean p j cause path said f =
    let is : f.0 ≡ json.string (profile_word p.full) = subst (IsProfileSaid p) f.2 said in
    text_clean (as_str f.0) (profile_word p.full) (IsProfileFault p) cause f.1 (ap as_str is) by f.4
  where
    by : IsProfileFault p (profile_word p.full) cause → ⊥
    by (inl x) = word_clean p.full cause x.0
    by (inr x) = x.0 refl

pub name_clean : (p : Profile) (n : ℕ) (row : Row) (cause : BuildCause) → slice_get (rows_of (root p)) n ≡ Some row → IsCarried row.presence → IsApduFault p (row_name (root p) n) cause → ⊥
name_clean p n row cause at carried f =
    let known : name_fault (of_type (root p)) (row_name (root p) n) ≡ None = ap (place_fault (root p)) (row_place (root p) n row at) ∙ ap row_fault at ∙ carried_clean row.presence carried in
    absurd (let q : Some f.0 ≡ None = sym f.1 ∙ known in cc)

pub value_clean : (p : Profile) (j : Json) (a : Apdu) (i : ℕ) (row : Row) (cause : BuildCause) (path : List Step) → FitsApdu p a → SaysLine p j a → NamesApdu p j i row
    → IsMemberFault (codes "value") (λ k. IsFaulty p [] row.node k) j cause path → ⊥
value_clean p j a i row cause path fit s names f =
    let q : Some (json.string (row_name (root p) i)) ≡ Some (json.string (row_name (root p) (a.number - 1))) = sym names.name ∙ s.apdu in
    let name : row_name (root p) i ≡ row_name (root p) (a.number - 1) = cc in
    let own : Row = fit.1.0 in
    let at : slice_get (rows_of (root p)) (a.number - 1) ≡ Some own = fit.1.1.1 in
    let same : i ≡ a.number - 1 = row_once (root p) i (a.number - 1) row own names.at at name in
    let node : row_node (root p) (a.number - 1) ≡ row.node = ap node_or_left_out (ap (slice_get (rows_of (root p))) (sym same) ∙ names.at) in
    let fitted : row_node (root p) (a.number - 1) ≡ own.node = ap node_or_left_out at in
    member_clean (codes "value") (λ k. IsFaulty p [] row.node k) j s.said.0 cause path s.said.1
    (λ rest g. said_clean p rest [] row.node s.said.0 cause g (record {
      content = a.body;
      says = subst (λ n. Says [] n s.said.0 a.body) node s.said.2;
      fits = subst (Fits p a.body) (sym fitted ∙ node) fit.1.2;
    })) f

-- a value of JSON that says an APDU has no fault, where it says but one
pub line_clean : (p : Profile) (j : Json) (a : Apdu) (cause : BuildCause) (path : List Step) → IsFit p a → SaysLine p j a
    → ((b : Apdu) → SaysLine p j b → FitsApdu p b → a ≡ b) → IsLineFault p j cause path → ⊥
line_clean p j a cause path fit s one f = let o = object_there (of_names line_names) j s.known in object_clean (of_names line_names) j o.0 cause path _ o.1 o.2 rest f
  where
    own : Row
    own = fit.fits.1.0

    rest : (HasProfileFault p j cause path
        ⊎ (IsProfileSaid p (get (codes "profile") j) × (
        IsMemberFault (codes "apdu") (λ k. IsFaultOf (as_str k) (IsApduFault p)) j cause path
        ⊎ ((i : ℕ) × (row : Row) × NamesApdu p j i row × (
        IsMemberFault (codes "value") (λ k. IsFaulty p [] row.node k) j cause path
        ⊎ ((b : Apdu) × SaysLine p j b × FitsApdu p b × (p.limit < length (normal_form_in p b)) × (cause ≡ BuildCause.NormalTooLong) × (path ≡ []))
        ))
        ))) → ⊥
    rest (inl x) = profile_clean p j cause path s.profile x
    rest (inr (said, inl x)) =
        member_clean (codes "apdu") (λ k. IsFaultOf (as_str k) (IsApduFault p)) j (json.string (row_name (root p) (a.number - 1))) cause path s.apdu
        (λ steps g. text_clean (Some (row_name (root p) (a.number - 1))) (row_name (root p) (a.number - 1)) (IsApduFault p) cause steps refl (name_clean p (a.number - 1) own cause fit.fits.1.1.1 fit.fits.1.1.2) g) x
    rest (inr (said, inr (i, row, names, inl x))) = value_clean p j a i row cause path fit.fits s names x
    rest (inr (said, inr (i, row, names, inr (b, t, g, long, c, e)))) =
        let same : a ≡ b = one b t g in
        let short : length (normal_form_in p b) ≤ p.limit = subst (λ y. length (normal_form_in p y) ≤ p.limit) same fit.short in
        absurd (omega (arith, long, short))

-- a line that says an APDU and isn't too long has no fault
pub faulty_line_clean : (p : Profile) (line : List ℕ) (a : Apdu) (cause : BuildCause) (path : List Step) → length line ≤ line_limit → IsFit p a → SaysApdu p line a
    → ((j : Json) (b : Apdu) → SaysLine p j a → SaysLine p j b → FitsApdu p b → a ≡ b) → IsFaultyLine p line cause path → ⊥
faulty_line_clean p line a cause path short fit s one (inl x) = absurd (let long = x.0 in omega (arith, long, short))
faulty_line_clean p line a cause path short fit s one (inr (inl x)) = absurd (let q : None ≡ Some s.1.0 = sym (x.1 s.0) ∙ s.1.1 in cc)
faulty_line_clean p line a cause path short fit s one (inr (inr (le, utf8, (j, is, f)))) =
    let q : Some j ≡ Some s.1.0 = sym is ∙ s.1.1 in
    let same : s.1.0 ≡ j = cc in
    let t : SaysLine p j a = subst (λ x. SaysLine p x a) same s.1.2 in
    line_clean p j a cause path fit t (λ b u g. one j b t u g) f

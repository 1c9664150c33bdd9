-- The answer to a line of which the first octets were kept.
use Rattle.std.proofs.Common.{◌≡◌, ◌∙◌, ◌++◌, ◌<◌, ◌≤◌, ℕ, false, List, length, take, Result, Ok, Err, OnOk, IfOk, ap, subst, arith, length-take, inl, inr}
use Rattle.std.specs.Prelude.{if◌then◌else◌, is_ok}
use Rattle.std.proofs.lemmas.Bool.{cases_lt}
use Rattle.std.proofs.lemmas.List.{take_all}
use Rattle.ber_leaf.specs.Profile.{Profile}
use Rattle.ill_schema.specs.Apdu.{Apdu, SpellsApdu, normal_form_in}
use Rattle.ill_schema.specs.Profiles.{profile_of}
use Rattle.ill_build.specs.Line.{IsFaultyLine, SaysApdu}
use Rattle.ill_build.specs.Path.{Step}
use Rattle.ill_build.specs.declared.cause.BuildCause.{BuildCause}
use Rattle.ill_commands.specs.declared.lines.answer.LineVerdict.{LineVerdict}
use Rattle.ill_cli.specs.Builds.{BuildAnswers, IsBuiltResult}
use Rattle.ill_cli.specs.declared.build.BuildOptions.{BuildOptions}

-- what was added, unless memory was refused
pub extended_by : {T E : Type 0} (r : Result T E) (new old more : List ℕ) (P : List ℕ → Type 0) → new ≡ (if is_ok r then old ++ more else old) → P more
    → OnOk r ((own : List ℕ) × (new ≡ old ++ own) × P own)
extended_by (Ok t) new old more P e p = (more, e, p)
extended_by (Err t) new old more P e p = tt

-- two clauses of one result
pub answered_by : {E : Type 0} (r : Result LineVerdict E) (A : Type 0) (B C : LineVerdict → Type 0) → OnOk r A → IfOk r B → ((v : LineVerdict) → A → B v → C v) → IfOk r C
answered_by (Ok v) A B C a b f = f v a b
answered_by (Err e) A B C a b f = tt

-- a line that is within its limit is kept whole
pub kept_whole : (kept line : List ℕ) → length kept ≤ 16_777_216 → kept ≡ take 16_777_217 line → kept ≡ line
kept_whole kept line few e = elim (cases_lt 16_777_216 (length line)) [
  | inl lt ↦ absurd (omega (arith, few, lt, ap length e, length-take 16_777_217 line))
  | inr le ↦ e ∙ take_all 16_777_217 line (omega (arith, le))
]

-- the fault of what is kept is that of the line
pub faulty_line : (p : Profile) (kept line : List ℕ) (cause : BuildCause) (path : List Step) → kept ≡ take 16_777_217 line → IsFaultyLine p kept cause path → IsFaultyLine p line cause path
faulty_line p kept line cause path e (inl h) =
    let long : 16_777_216 < length line = let more = h.0 in omega (arith, more, ap length e, length-take 16_777_217 line) in
    inl (long, h.1, h.2)
faulty_line p kept line cause path e (inr (inl h)) = subst (λ l. IsFaultyLine p l cause path) (kept_whole kept line h.0 e) (inr (inl h))
faulty_line p kept line cause path e (inr (inr h)) = subst (λ l. IsFaultyLine p l cause path) (kept_whole kept line h.0 e) (inr (inr h))

-- what is kept of a line says an APDU, of which these octets are built
pub built_answer : {E : Type 0} (work : BuildOptions) (kept octets old new : List ℕ) (a : Apdu) (r : Result LineVerdict E)
    → SaysApdu (profile_of work.profile) kept a → length kept ≤ 16_777_216 → SpellsApdu (profile_of work.profile) a octets
    → (work.writes_defaults ≡ false → octets ≡ normal_form_in (profile_of work.profile) a)
    → OnOk r ((own : List ℕ) × (new ≡ old ++ own) × IsBuiltResult work a octets own) → IfOk r (λ v. v ≡ LineVerdict.Good)
    → IfOk r (λ v. (own : List ℕ) × (new ≡ old ++ own) × ((line : List ℕ) → kept ≡ take 16_777_217 line → BuildAnswers work line own v))
built_answer work kept octets old new a r says short spells normal done good =
    answered_by r ((own : List ℕ) × (new ≡ old ++ own) × IsBuiltResult work a octets own) (λ v. v ≡ LineVerdict.Good)
    (λ v. (own : List ℕ) × (new ≡ old ++ own) × ((line : List ℕ) → kept ≡ take 16_777_217 line → BuildAnswers work line own v))
    done good
    (λ v own is. (
      own.0,
      own.1,
      λ line e. inl (record {
        apdu = a;
        octets = octets;
        says = subst (λ l. SaysApdu (profile_of work.profile) l a) (kept_whole kept line short e) says;
        spells = spells;
        normal = normal;
        is_result = own.2;
        good = is;
      }),
    ))

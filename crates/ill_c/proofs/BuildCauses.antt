-- A number is that of one name, of the causes for which lines are refused.
use Rattle.std.proofs.Common.{◌≡◌, ◌≢◌, ◌∙◌, ℕ, List, [], ◌∷◌, codes, Option, Some, None, slice_get, refl, sym, ap}
use Rattle.ill_build.specs.Causes.{cause_name, cause_number}
use Rattle.ill_build.specs.declared.cause.BuildCause.{BuildCause}

-- the causes from number 0 on, which is that of no cause
abbrev causes : List BuildCause
causes = BuildCause.NotJson ∷ BuildCause.NotJson ∷ BuildCause.LineTooLong ∷ BuildCause.WrongType ∷ BuildCause.UnknownMember ∷ BuildCause.RepeatedMember ∷ BuildCause.LeftOut ∷ BuildCause.MissingMember ∷ BuildCause.NotOneMember ∷ BuildCause.UnknownName ∷ BuildCause.OtherName ∷ BuildCause.NotWhole ∷ BuildCause.NumberTooLong ∷ BuildCause.BadCharacter ∷ BuildCause.BadText ∷ BuildCause.BadDate ∷ BuildCause.BadTime ∷ BuildCause.BadHexadecimal ∷ BuildCause.BadBits ∷ BuildCause.BadOid ∷ BuildCause.BadForeign ∷ BuildCause.NormalTooLong ∷ BuildCause.OtherProfile ∷ []

listed : (c : BuildCause) → slice_get causes (cause_number c) ≡ Some c
listed BuildCause.NotJson = refl
listed _ = refl

-- causes of one number are one cause
pub one_cause : (c d : BuildCause) → cause_number c ≡ cause_number d → c ≡ d
one_cause c d e =
    let q : Some c ≡ Some d = sym (listed c) ∙ ap (slice_get causes) e ∙ listed d in
    cc

-- a number that is none of these is that of no cause
pub no_cause : (n : ℕ) → n ≢ 1 → n ≢ 2 → n ≢ 3 → n ≢ 4 → n ≢ 5 → n ≢ 6 → n ≢ 7 → n ≢ 8 → n ≢ 9 → n ≢ 10 → n ≢ 11 → n ≢ 12 → n ≢ 13 → n ≢ 14 → n ≢ 15 → n ≢ 16 → n ≢ 17 → n ≢ 18 → n ≢ 19 → n ≢ 20 → n ≢ 21 → n ≢ 22 → (c : BuildCause) → cause_number c ≢ n
no_cause n h _ _ _ _ _ _ _ _ _ _ _ _ _ _ _ _ _ _ _ _ _ BuildCause.NotJson e = h (sym e)
no_cause n _ h _ _ _ _ _ _ _ _ _ _ _ _ _ _ _ _ _ _ _ _ BuildCause.LineTooLong e = h (sym e)
no_cause n _ _ h _ _ _ _ _ _ _ _ _ _ _ _ _ _ _ _ _ _ _ BuildCause.WrongType e = h (sym e)
no_cause n _ _ _ h _ _ _ _ _ _ _ _ _ _ _ _ _ _ _ _ _ _ BuildCause.UnknownMember e = h (sym e)
no_cause n _ _ _ _ h _ _ _ _ _ _ _ _ _ _ _ _ _ _ _ _ _ BuildCause.RepeatedMember e = h (sym e)
no_cause n _ _ _ _ _ h _ _ _ _ _ _ _ _ _ _ _ _ _ _ _ _ BuildCause.LeftOut e = h (sym e)
no_cause n _ _ _ _ _ _ h _ _ _ _ _ _ _ _ _ _ _ _ _ _ _ BuildCause.MissingMember e = h (sym e)
no_cause n _ _ _ _ _ _ _ h _ _ _ _ _ _ _ _ _ _ _ _ _ _ BuildCause.NotOneMember e = h (sym e)
no_cause n _ _ _ _ _ _ _ _ h _ _ _ _ _ _ _ _ _ _ _ _ _ BuildCause.UnknownName e = h (sym e)
no_cause n _ _ _ _ _ _ _ _ _ h _ _ _ _ _ _ _ _ _ _ _ _ BuildCause.OtherName e = h (sym e)
no_cause n _ _ _ _ _ _ _ _ _ _ h _ _ _ _ _ _ _ _ _ _ _ BuildCause.NotWhole e = h (sym e)
no_cause n _ _ _ _ _ _ _ _ _ _ _ h _ _ _ _ _ _ _ _ _ _ BuildCause.NumberTooLong e = h (sym e)
no_cause n _ _ _ _ _ _ _ _ _ _ _ _ h _ _ _ _ _ _ _ _ _ BuildCause.BadCharacter e = h (sym e)
no_cause n _ _ _ _ _ _ _ _ _ _ _ _ _ h _ _ _ _ _ _ _ _ BuildCause.BadText e = h (sym e)
no_cause n _ _ _ _ _ _ _ _ _ _ _ _ _ _ h _ _ _ _ _ _ _ BuildCause.BadDate e = h (sym e)
no_cause n _ _ _ _ _ _ _ _ _ _ _ _ _ _ _ h _ _ _ _ _ _ BuildCause.BadTime e = h (sym e)
no_cause n _ _ _ _ _ _ _ _ _ _ _ _ _ _ _ _ h _ _ _ _ _ BuildCause.BadHexadecimal e = h (sym e)
no_cause n _ _ _ _ _ _ _ _ _ _ _ _ _ _ _ _ _ h _ _ _ _ BuildCause.BadBits e = h (sym e)
no_cause n _ _ _ _ _ _ _ _ _ _ _ _ _ _ _ _ _ _ h _ _ _ BuildCause.BadOid e = h (sym e)
no_cause n _ _ _ _ _ _ _ _ _ _ _ _ _ _ _ _ _ _ _ h _ _ BuildCause.BadForeign e = h (sym e)
no_cause n _ _ _ _ _ _ _ _ _ _ _ _ _ _ _ _ _ _ _ _ h _ BuildCause.NormalTooLong e = h (sym e)
no_cause n _ _ _ _ _ _ _ _ _ _ _ _ _ _ _ _ _ _ _ _ _ h BuildCause.OtherProfile e = h (sym e)

-- A number is that of one name and of one clause.
use Rattle.std.proofs.Common.{◌≡◌, ◌≢◌, ◌∙◌, ℕ, List, [], ◌∷◌, Option, Some, None, slice_get, refl, sym, ap}
use Rattle.ill_tables.specs.declared.{node.NodeId.NodeId, part.PartId.PartId}
use Rattle.ill_schema.specs.Causes.{cause_clause, cause_name, cause_number}
use Rattle.ill_schema.specs.declared.refusal.Cause.{Cause}

-- a part, for the causes that have one
any : PartId
any = record { node = NodeId.Boolean; row = 0 }

-- a cause of each number from 1 on; no cause has 0
abbrev causes : List Cause
causes = Cause.Truncated ∷ Cause.Truncated ∷ Cause.BadTag ∷ Cause.BadLength ∷ Cause.TooLong ∷ Cause.Overrun ∷ Cause.TooDeep ∷ Cause.UnexpectedTag ∷ Cause.LeftOut any ∷ Cause.WrongForm ∷ Cause.Missing any ∷ Cause.BadEnd ∷ Cause.BadBoolean ∷ Cause.BadInteger ∷ Cause.IntegerTooLong ∷ Cause.BadText ∷ Cause.BadDate ∷ Cause.BadTime ∷ Cause.TrailingBytes ∷ Cause.NormalTooLong ∷ Cause.BadNull ∷ Cause.BadOid ∷ Cause.BadBits ∷ []

abbrev cause_in : Option Cause → Cause
cause_in None = Cause.Truncated
cause_in (Some c) = c

abbrev numbered : ℕ → Cause
numbered n = cause_in (slice_get causes n)

named : (c : Cause) → cause_name (numbered (cause_number c)) ≡ cause_name c
named Cause.Truncated = refl
named _ = refl

has_clause : (c : Cause) → cause_clause (numbered (cause_number c)) ≡ cause_clause c
has_clause Cause.Truncated = refl
has_clause _ = refl

-- causes of one number have one name
pub one_name : (c d : Cause) → cause_number c ≡ cause_number d → cause_name c ≡ cause_name d
one_name c d e = sym (named c) ∙ ap (λ n. cause_name (numbered n)) e ∙ named d

-- and one clause
pub one_clause : (c d : Cause) → cause_number c ≡ cause_number d → cause_clause c ≡ cause_clause d
one_clause c d e = sym (has_clause c) ∙ ap (λ n. cause_clause (numbered n)) e ∙ has_clause d

-- a number that is none of these is that of no cause
pub no_cause : (n : ℕ) → n ≢ 1 → n ≢ 2 → n ≢ 3 → n ≢ 4 → n ≢ 5 → n ≢ 6 → n ≢ 7 → n ≢ 8 → n ≢ 9 → n ≢ 10 → n ≢ 11 → n ≢ 12 → n ≢ 13 → n ≢ 14 → n ≢ 15 → n ≢ 16 → n ≢ 17 → n ≢ 18 → n ≢ 19 → n ≢ 20 → n ≢ 21 → n ≢ 22 → (c : Cause) → cause_number c ≢ n
no_cause n h _ _ _ _ _ _ _ _ _ _ _ _ _ _ _ _ _ _ _ _ _ Cause.Truncated e = h (sym e)
no_cause n _ h _ _ _ _ _ _ _ _ _ _ _ _ _ _ _ _ _ _ _ _ Cause.BadTag e = h (sym e)
no_cause n _ _ h _ _ _ _ _ _ _ _ _ _ _ _ _ _ _ _ _ _ _ Cause.BadLength e = h (sym e)
no_cause n _ _ _ h _ _ _ _ _ _ _ _ _ _ _ _ _ _ _ _ _ _ Cause.TooLong e = h (sym e)
no_cause n _ _ _ _ h _ _ _ _ _ _ _ _ _ _ _ _ _ _ _ _ _ Cause.Overrun e = h (sym e)
no_cause n _ _ _ _ _ h _ _ _ _ _ _ _ _ _ _ _ _ _ _ _ _ Cause.TooDeep e = h (sym e)
no_cause n _ _ _ _ _ _ h _ _ _ _ _ _ _ _ _ _ _ _ _ _ _ Cause.UnexpectedTag e = h (sym e)
no_cause n _ _ _ _ _ _ _ h _ _ _ _ _ _ _ _ _ _ _ _ _ _ (Cause.LeftOut part) e = h (sym e)
no_cause n _ _ _ _ _ _ _ _ h _ _ _ _ _ _ _ _ _ _ _ _ _ Cause.WrongForm e = h (sym e)
no_cause n _ _ _ _ _ _ _ _ _ h _ _ _ _ _ _ _ _ _ _ _ _ (Cause.Missing part) e = h (sym e)
no_cause n _ _ _ _ _ _ _ _ _ _ h _ _ _ _ _ _ _ _ _ _ _ Cause.BadEnd e = h (sym e)
no_cause n _ _ _ _ _ _ _ _ _ _ _ h _ _ _ _ _ _ _ _ _ _ Cause.BadBoolean e = h (sym e)
no_cause n _ _ _ _ _ _ _ _ _ _ _ _ h _ _ _ _ _ _ _ _ _ Cause.BadInteger e = h (sym e)
no_cause n _ _ _ _ _ _ _ _ _ _ _ _ _ h _ _ _ _ _ _ _ _ Cause.IntegerTooLong e = h (sym e)
no_cause n _ _ _ _ _ _ _ _ _ _ _ _ _ _ h _ _ _ _ _ _ _ Cause.BadText e = h (sym e)
no_cause n _ _ _ _ _ _ _ _ _ _ _ _ _ _ _ h _ _ _ _ _ _ Cause.BadDate e = h (sym e)
no_cause n _ _ _ _ _ _ _ _ _ _ _ _ _ _ _ _ h _ _ _ _ _ Cause.BadTime e = h (sym e)
no_cause n _ _ _ _ _ _ _ _ _ _ _ _ _ _ _ _ _ h _ _ _ _ Cause.TrailingBytes e = h (sym e)
no_cause n _ _ _ _ _ _ _ _ _ _ _ _ _ _ _ _ _ _ h _ _ _ Cause.NormalTooLong e = h (sym e)
no_cause n _ _ _ _ _ _ _ _ _ _ _ _ _ _ _ _ _ _ _ h _ _ Cause.BadNull e = h (sym e)
no_cause n _ _ _ _ _ _ _ _ _ _ _ _ _ _ _ _ _ _ _ _ h _ Cause.BadOid e = h (sym e)
no_cause n _ _ _ _ _ _ _ _ _ _ _ _ _ _ _ _ _ _ _ _ _ h Cause.BadBits e = h (sym e)

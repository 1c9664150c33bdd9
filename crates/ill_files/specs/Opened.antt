-- What is left in an input, whichever it is.
use Rattle.std.specs.Prelude.{ℕ, Bool, List, Option}
use Rattle.ill_files.specs.declared.input.Opened.{Opened}
use Rattle.ill_files.specs.declared.input.Opened.TheVariants.{Standard, File}

abbrev pub left_of : {S F : Type 0} → (S → Option (List ℕ)) → (F → Option (List ℕ)) → Opened S F → Option (List ℕ)
left_of standard file (Standard source) = standard source
left_of standard file (File source) = file source

abbrev pub is_broken_of : {S F : Type 0} → (S → Bool) → (F → Bool) → Opened S F → Bool
is_broken_of standard file (Standard source) = standard source
is_broken_of standard file (File source) = file source

abbrev pub hand_len_of : {S F : Type 0} → (S → ℕ) → (F → ℕ) → Opened S F → ℕ
hand_len_of standard file (Standard source) = standard source
hand_len_of standard file (File source) = file source

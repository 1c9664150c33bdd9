-- What is said of a message.
use Rattle.std.specs.Prelude.{ℕ, Bool, true, false, List, ◌++◌, codes, decimal}

abbrev pub form_words : Bool → ℕ → List ℕ
form_words true size = codes "normal"
form_words false size = codes "not normal, normal form " ++ decimal size ++ codes " octets"

-- the name of its APDU, how many octets it has, whether they are its normal form, and how many that has
abbrev pub check_words : List ℕ → ℕ → Bool → ℕ → List ℕ
check_words apdu octets normal size = apdu ++ codes ", " ++ decimal octets ++ codes " octets, " ++ form_words normal size

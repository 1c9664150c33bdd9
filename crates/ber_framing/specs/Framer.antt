-- What a framer says of the octets that it was fed.
use Rattle.std.specs.Prelude.{◌≡◌, ◌↔◌, ℕ, zero, suc, ◌-◌, ◌≤◌, Bool, true, List, [], ◌∷◌, ◌++◌, length}
use Rattle.std.specs.Int.Digits.{AllBelowBase, number_from_digits_after}
use Rattle.ber_tree.specs.Length.{IsLength}
use Rattle.ber_framing.specs.declared.framer.Framing.{Framing}
use Rattle.ber_framing.specs.declared.framer.Framing.TheVariants.{Part, Whole}
use Rattle.ber_framing.specs.declared.framer.Framing.TheVariants as frame
use Rattle.ber_framing.specs.declared.framer.Framer.{Framer}
use Rattle.ber_framing.specs.declared.framer.Stage.{Stage}
use Rattle.ber_framing.specs.declared.framer.Stage.TheVariants.{Identifier, BetweenElements, Number, Length, LongLength, Contents, EndOfContents, Unframed}
use Rattle.ber_framing.specs.Framed.{IsTagNumber, IsFramed, AreFramed, IsFrame, IsPartOfFrame, IsUnframed}

-- what the octets are: the first ones of a framed element, one, or the first ones of none
abbrev pub HasFraming : List ℕ → Framing → Type 0
HasFraming b Part = IsPartOfFrame b
HasFraming b Whole = IsFrame b
HasFraming b frame.Unframed = IsUnframed b

-- what closes `marks` elements of the indefinite form: for each the elements that are still to come, and its end mark
abbrev pub Closes : ℕ → ℕ → List ℕ → Type 0
Closes zero deep x = x ≡ []
Closes (suc marks) deep x = (contents : List ℕ) × (rest : List ℕ) × AreFramed deep contents × Closes marks (suc deep) rest × (x ≡ contents ++ 0 ∷ 0 ∷ rest)

-- an element, and then what closes the open ones
pub record IsElementThen (marks deep : ℕ) (x : List ℕ) : Type 0 where
  pub element : List ℕ
  pub rest : List ℕ
  pub framed : IsFramed deep element
  pub closes : Closes marks deep rest
  pub joined : x ≡ element ++ rest

-- this many octets, and then what closes the open elements
pub record IsContentsThen (missing_len marks deep : ℕ) (x : List ℕ) : Type 0 where
  pub contents : List ℕ
  pub rest : List ℕ
  pub size : length contents ≡ missing_len
  pub closes : Closes marks deep rest
  pub joined : x ≡ contents ++ rest

-- the last `missing_len` octets of a length, after octets that say `value`, and then its contents and what closes the open elements
pub record IsLongThen (missing_len value marks deep : ℕ) (x : List ℕ) : Type 0 where
  pub octets : List ℕ
  pub rest : List ℕ
  pub size : length octets ≡ missing_len
  pub small : AllBelowBase 256 octets
  pub fits : number_from_digits_after 256 value octets ≤ 4_294_967_294
  pub contents : IsContentsThen (number_from_digits_after 256 value octets) marks deep rest
  pub joined : x ≡ octets ++ rest

-- a length, and then what it says
pub data IsLengthThen (constructed : Bool) (marks deep : ℕ) (x : List ℕ) : Type 0 where
  definite : {octets rest : List ℕ} → (n : ℕ) → IsLength n octets → n ≤ 4_294_967_294 → IsContentsThen n marks deep rest → x ≡ octets ++ rest
      → IsLengthThen constructed marks deep x
  indefinite : {rest : List ℕ} → (inner : ℕ) → constructed ≡ true → deep ≡ suc inner → Closes (suc marks) inner rest → x ≡ 128 ∷ rest
      → IsLengthThen constructed marks deep x

-- the rest of a tag number, and then a length and what it says
pub record IsNumberThen (constructed : Bool) (marks deep : ℕ) (x : List ℕ) : Type 0 where
  pub number : List ℕ
  pub rest : List ℕ
  pub is_number : IsTagNumber number
  pub length_then : IsLengthThen constructed marks deep rest
  pub joined : x ≡ number ++ rest

-- the second octet of an end mark, and then what closes the open elements
pub record IsMarkThen (marks deep : ℕ) (x : List ℕ) : Type 0 where
  pub rest : List ℕ
  pub closes : Closes marks deep rest
  pub joined : x ≡ 0 ∷ rest

-- what finishes a framed element from this stage, with this many elements open, in which this many more may be marks
abbrev pub FinishesAt : Stage → ℕ → ℕ → List ℕ → Type 0
FinishesAt Identifier marks deep x = IsElementThen marks deep x
FinishesAt BetweenElements marks deep x = Closes marks deep x
FinishesAt (Number constructed) marks deep x = IsNumberThen constructed marks deep x
FinishesAt (Length constructed) marks deep x = IsLengthThen constructed marks deep x
FinishesAt (LongLength long) marks deep x = IsLongThen long.missing_len long.value marks deep x
FinishesAt (Contents contents) marks deep x = IsContentsThen contents.missing_len marks deep x
FinishesAt EndOfContents marks deep x = IsMarkThen marks deep x
FinishesAt (Unframed missing_len) marks deep x = ⊥

abbrev pub Finishes : Framer → List ℕ → Type 0
Finishes framer x = FinishesAt framer.stage framer.marks (18_446_744_073_709_551_615 - framer.marks) x

-- the framer was fed these octets: exactly what finishes it makes one framed element of them
unfoldable pub IsFed : Framer → List ℕ → Type 0
IsFed framer b = (x : List ℕ) → IsFrame (b ++ x) ↔ Finishes framer x

-- The contents of leaves: which octets hold which value, and which of them are its normal content (X.690, 8.2 to 8.4, 8.6 to 8.8, 8.19, 8.23, 8.25, 11.1 and 11.2).
use Rattle.std.specs.Prelude.{◌≡◌, ℕ, ◌+◌, ◌-◌, ◌*◌, ◌/◌, ◌%◌, ◌^◌, suc, zero, ℤ, pos, negsuc, Bool, true, false, IsTrue, not, ◌&&◌, ◌||◌, nat_eq, nat_lt, nat_le, List, [], ◌∷◌, ◌++◌, length, codes, Option, Some, None, if◌then◌else◌}
use Rattle.std.specs.List.{list_all, list_any}
use Rattle.jiff.specs.Words.{days_in_month}
use Rattle.std.specs.Int.Digits.{number_from_digits}
use Rattle.ber_tree.specs.Octets.{are_octets}
use Rattle.ber_leaf.specs.declared.fault.LeafFault.{LeafFault}
use Rattle.ber_leaf.specs.Simple.{Simple, flag, whole, date, time, printable, general, visible, null, oid, binary, bits, descriptor}
use Rattle.ber_leaf.specs.Profile.{Profile, is_graphic}

-- the kinds of leaves; five are strings of characters, of which ISO-Date and ISO-Time have a form of their own
pub data Leaf : Type 0 where
  boolean integer enumerated general_string visible_string printable_string iso_date iso_time : Leaf
  null_type object_identifier octet_string bit_string object_descriptor : Leaf

-- strings of bits, of octets and of characters may be in segments (8.6.4, 8.7.3, 8.23, 8.25)
abbrev pub is_string : Leaf → Bool
is_string boolean = false
is_string integer = false
is_string enumerated = false
is_string null_type = false
is_string object_identifier = false
is_string _ = true

-- the characters of PrintableString (X.680, 41.4)
abbrev pub is_printable : ℕ → Bool
is_printable octet = list_any (nat_eq octet) (codes "ABCDEFGHIJKLMNOPQRSTUVWXYZabcdefghijklmnopqrstuvwxyz0123456789 '()+,-./:=?")

-- the digits of ASCII
abbrev pub is_digit : ℕ → Bool
is_digit octet = nat_le 0x30 octet && nat_le octet 0x39

-- the number that two digits spell
abbrev pub two_digits : ℕ → ℕ → ℕ
two_digits t u = 10 * (t - 0x30) + (u - 0x30)

-- the proleptic Gregorian calendar has the day
abbrev pub is_civil_day : ℕ → ℕ → ℕ → Bool
is_civil_day year month day = nat_le 1 month && nat_le month 12 && nat_le 1 day && nat_le day (days_in_month (pos year) month)

-- YYYYMMDD: eight digits that name a day, from 0000-01-01 to 9999-12-31
abbrev pub is_day : List ℕ → Bool
is_day (y₁ ∷ y₂ ∷ y₃ ∷ y₄ ∷ m₁ ∷ m₂ ∷ d₁ ∷ d₂ ∷ []) =
    list_all is_digit (y₁ ∷ y₂ ∷ y₃ ∷ y₄ ∷ m₁ ∷ m₂ ∷ d₁ ∷ d₂ ∷ [])
    && is_civil_day (100 * two_digits y₁ y₂ + two_digits y₃ y₄) (two_digits m₁ m₂) (two_digits d₁ d₂)
is_day _ = false

-- a time of a day, whose second may be 60 in every minute; or 24:00:00, the end of a day
abbrev pub is_clock_time : ℕ → ℕ → ℕ → Bool
is_clock_time hour minute second =
    (nat_le hour 23 && nat_le minute 59 && nat_le second 60) || (nat_eq hour 24 && nat_eq minute 0 && nat_eq second 0)

-- HHMMSS: six digits that name a time
abbrev pub is_time : List ℕ → Bool
is_time (h₁ ∷ h₂ ∷ m₁ ∷ m₂ ∷ s₁ ∷ s₂ ∷ []) =
    list_all is_digit (h₁ ∷ h₂ ∷ m₁ ∷ m₂ ∷ s₁ ∷ s₂ ∷ []) && is_clock_time (two_digits h₁ h₂) (two_digits m₁ m₂) (two_digits s₁ s₂)
is_time _ = false

-- empty, or two octets or more whose first nine bits are equal (8.3.1 and 8.3.2)
abbrev pub is_padded : List ℕ → Bool
is_padded [] = true
is_padded (a ∷ []) = false
is_padded (a ∷ b ∷ _) = (nat_eq a 0 && nat_lt b 128) || (nat_eq a 255 && nat_le 128 b)

-- octets after this one are subidentifiers, or the rest of one and then others: an octet below 80 is the last of its subidentifier,
-- and 80 is the first of none (8.19.2)
abbrev pub goes_on : ℕ → List ℕ → Bool
goes_on before [] = nat_lt before 0x80
goes_on before (a ∷ octets) = not (nat_lt before 0x80 && nat_eq a 0x80) && goes_on a octets

-- one subidentifier or more (8.19.2): the first begins as if another had ended before it, with 0
abbrev pub is_oid : List ℕ → Bool
is_oid octets = not (nat_eq (length octets) 0) && goes_on 0 octets

-- an octet from 0 to 7, the number of unused bits, which is 0 where no octet follows, and then the bits (8.6.2)
abbrev pub is_bits : List ℕ → Bool
is_bits [] = false
is_bits (u ∷ []) = nat_eq u 0
is_bits (u ∷ _ ∷ _) = nat_le u 7

-- no fault, or this one
abbrev unless : Bool → LeafFault → Option LeafFault
unless b fault = if b then None else Some fault

-- of an integer: padded, or else more than eight octets
abbrev integer_fault : List ℕ → Option LeafFault
integer_fault octets =
    if is_padded octets then Some LeafFault.BadInteger
    else unless (nat_le (length octets) 8) LeafFault.IntegerTooLong

-- why octets are no content of a leaf (8.2.1, 8.3, 8.4, 8.6.2, 8.8, 8.19, 8.23)
abbrev pub content_fault : Profile → Leaf → List ℕ → Option LeafFault
content_fault p boolean octets = unless (nat_eq (length octets) 1) LeafFault.BadBoolean
content_fault p integer octets = integer_fault octets
content_fault p enumerated octets = integer_fault octets
content_fault p general_string octets = unless (list_all p.general octets) LeafFault.BadText
content_fault p visible_string octets = unless (list_all is_graphic octets) LeafFault.BadText
content_fault p printable_string octets = unless (list_all is_printable octets) LeafFault.BadText
content_fault p iso_date octets = unless (is_day octets) LeafFault.BadDate
content_fault p iso_time octets = unless (is_time octets) LeafFault.BadTime
content_fault p null_type octets = unless (nat_eq (length octets) 0) LeafFault.BadNull
content_fault p object_identifier octets = unless (is_oid octets) LeafFault.BadOid
content_fault p octet_string octets = None
content_fault p bit_string octets = unless (is_bits octets) LeafFault.BadBits
content_fault p object_descriptor octets = None

-- two's complement, most significant octet first (8.3.3)
abbrev pub integer_of : List ℕ → ℤ
integer_of [] = pos 0
integer_of (a ∷ octets) =
    if nat_lt a 128 then pos (number_from_digits 256 (a ∷ octets))
    else negsuc (256 ^ suc (length octets) - 1 - number_from_digits 256 (a ∷ octets))

-- the octet with its last u bits 0
abbrev pub cleared : ℕ → ℕ → ℕ
cleared u octet = octet / 2 ^ u * 2 ^ u

-- the octets with the last u bits of the last one 0
abbrev pub cleared_last : ℕ → List ℕ → List ℕ
cleared_last u [] = []
cleared_last u (a ∷ []) = cleared u a ∷ []
cleared_last u (a ∷ b ∷ octets) = a ∷ cleared_last u (b ∷ octets)

-- how many bits a content has: those of the octets after the first, but for the unused ones (8.6.2.2)
abbrev pub bit_count : List ℕ → ℕ
bit_count [] = 0
bit_count (u ∷ octets) = 8 * length octets - u

-- the octets that the bits of a content fill, the unused bits 0
abbrev pub bit_octets : List ℕ → List ℕ
bit_octets [] = []
bit_octets (u ∷ octets) = cleared_last u octets

-- the value that a content holds; a boolean is false where each octet, of which it has one, is 0 (8.2.2)
abbrev pub value : Leaf → List ℕ → Simple
value boolean octets = flag (not (list_all (nat_eq 0) octets))
value integer octets = whole (integer_of octets)
value enumerated octets = whole (integer_of octets)
value general_string octets = general octets
value visible_string octets = visible octets
value printable_string octets = printable octets
value iso_date octets = date octets
value iso_time octets = time octets
value null_type octets = null
value object_identifier octets = oid octets
value octet_string octets = binary octets
value bit_string octets = bits (bit_count octets) (bit_octets octets)
value object_descriptor octets = descriptor octets

-- the octets are a content of the value
abbrev pub Holds : Profile → Leaf → Simple → List ℕ → Type 0
Holds p leaf v octets = IsTrue (are_octets octets) × (content_fault p leaf octets ≡ None) × (v ≡ value leaf octets)

-- n in k octets, most significant first
abbrev pub big_endian : ℕ → ℕ → List ℕ
big_endian zero n = []
big_endian (suc k) n = big_endian k (n / 256) ++ n % 256 ∷ []

-- how many octets hold the numbers from -(n + 1) to n, at most eight
abbrev pub octet_count : ℕ → ℕ
octet_count n =
    if nat_lt n 0x80 then 1
    else if nat_lt n 0x8000 then 2
    else if nat_lt n 0x80_0000 then 3
    else if nat_lt n 0x8000_0000 then 4
    else if nat_lt n 0x80_0000_0000 then 5
    else if nat_lt n 0x8000_0000_0000 then 6
    else if nat_lt n 0x80_0000_0000_0000 then 7
    else 8

-- the octets of a number
abbrev integer_octets : ℤ → List ℕ
integer_octets (pos n) = big_endian (octet_count n) n
integer_octets (negsuc n) = big_endian (octet_count n) (256 ^ octet_count n - 1 - n)

-- DER's content of a value: a true boolean is FF (11.1), unused bits are 0 (11.2.1), and every other value has but one content
abbrev pub normal_content : Simple → List ℕ
normal_content (flag false) = 0 ∷ []
normal_content (flag true) = 0xFF ∷ []
normal_content (whole n) = integer_octets n
normal_content (date octets) = octets
normal_content (time octets) = octets
normal_content (printable octets) = octets
normal_content (general octets) = octets
normal_content (visible octets) = octets
normal_content null = []
normal_content (oid octets) = octets
normal_content (binary octets) = octets
normal_content (bits n octets) = (8 * length octets - n) ∷ octets
normal_content (descriptor octets) = octets

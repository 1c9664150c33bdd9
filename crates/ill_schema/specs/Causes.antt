-- The causes of refusals: those that the contents octets of a leaf give, and the name, the number, the text and the clause of each.
use Rattle.std.specs.Prelude.{ℕ, List, codes}
use Rattle.ber_leaf.specs.declared.fault.LeafFault.{LeafFault}
use Rattle.ber_leaf.specs.declared.fault.LeafFault.TheVariants as leaf
use Rattle.ill_schema.specs.declared.refusal.Cause.{Cause}

-- the cause that a fault in the contents octets of a leaf is
abbrev pub cause_of : LeafFault → Cause
cause_of leaf.BadBoolean = Cause.BadBoolean
cause_of leaf.BadInteger = Cause.BadInteger
cause_of leaf.IntegerTooLong = Cause.IntegerTooLong
cause_of leaf.BadText = Cause.BadText
cause_of leaf.BadDate = Cause.BadDate
cause_of leaf.BadTime = Cause.BadTime
cause_of leaf.BadNull = Cause.BadNull
cause_of leaf.BadOid = Cause.BadOid
cause_of leaf.BadBits = Cause.BadBits

-- the name of a cause
abbrev pub cause_name : Cause → List ℕ
cause_name Cause.Truncated = codes "Truncated"
cause_name Cause.BadTag = codes "BadTag"
cause_name Cause.BadLength = codes "BadLength"
cause_name Cause.TooLong = codes "TooLong"
cause_name Cause.Overrun = codes "Overrun"
cause_name Cause.TooDeep = codes "TooDeep"
cause_name Cause.UnexpectedTag = codes "UnexpectedTag"
cause_name (Cause.LeftOut part) = codes "LeftOut"
cause_name Cause.WrongForm = codes "WrongForm"
cause_name (Cause.Missing part) = codes "Missing"
cause_name Cause.BadEnd = codes "BadEnd"
cause_name Cause.BadBoolean = codes "BadBoolean"
cause_name Cause.BadInteger = codes "BadInteger"
cause_name Cause.IntegerTooLong = codes "IntegerTooLong"
cause_name Cause.BadText = codes "BadText"
cause_name Cause.BadDate = codes "BadDate"
cause_name Cause.BadTime = codes "BadTime"
cause_name Cause.TrailingBytes = codes "TrailingBytes"
cause_name Cause.NormalTooLong = codes "NormalTooLong"
cause_name Cause.BadNull = codes "BadNull"
cause_name Cause.BadOid = codes "BadOid"
cause_name Cause.BadBits = codes "BadBits"

-- the number of a cause
abbrev pub cause_number : Cause → ℕ
cause_number Cause.Truncated = 1
cause_number Cause.BadTag = 2
cause_number Cause.BadLength = 3
cause_number Cause.TooLong = 4
cause_number Cause.Overrun = 5
cause_number Cause.TooDeep = 6
cause_number Cause.UnexpectedTag = 7
cause_number (Cause.LeftOut part) = 8
cause_number Cause.WrongForm = 9
cause_number (Cause.Missing part) = 10
cause_number Cause.BadEnd = 11
cause_number Cause.BadBoolean = 12
cause_number Cause.BadInteger = 13
cause_number Cause.IntegerTooLong = 14
cause_number Cause.BadText = 15
cause_number Cause.BadDate = 16
cause_number Cause.BadTime = 17
cause_number Cause.TrailingBytes = 18
cause_number Cause.NormalTooLong = 19
cause_number Cause.BadNull = 20
cause_number Cause.BadOid = 21
cause_number Cause.BadBits = 22

-- the text of a cause
abbrev pub cause_text : Cause → List ℕ
cause_text Cause.Truncated = codes "the input ends inside the message"
cause_text Cause.BadTag = codes "no identifier begins so, or the tag number has more than four octets"
cause_text Cause.BadLength = codes "the first length octet is FF, or 80 in a primitive element"
cause_text Cause.TooLong = codes "the message would have more than 1,048,576 octets"
cause_text Cause.Overrun = codes "the element would go past the end of an element round it"
cause_text Cause.TooDeep = codes "more than 32 elements would be open"
cause_text Cause.UnexpectedTag = codes "this tag is not expected here"
cause_text (Cause.LeftOut part) = codes "this part is not read"
cause_text Cause.WrongForm = codes "its form, primitive or constructed, is not the one expected here"
cause_text (Cause.Missing part) = codes "the element ends before a mandatory part"
cause_text Cause.BadEnd = codes "the second octet of an end mark is not 00"
cause_text Cause.BadBoolean = codes "the BOOLEAN does not have exactly one octet"
cause_text Cause.BadInteger = codes "the number has no octet, or one more than it needs"
cause_text Cause.IntegerTooLong = codes "the number has more than eight octets"
cause_text Cause.BadText = codes "an octet is not in the alphabet of the string"
cause_text Cause.BadDate = codes "it is not eight digits of a day that exists"
cause_text Cause.BadTime = codes "it is not six digits of a time of day"
cause_text Cause.TrailingBytes = codes "octets follow the message"
cause_text Cause.NormalTooLong = codes "the normal form would have more than 1,048,576 octets"
cause_text Cause.BadNull = codes "the NULL has octets"
cause_text Cause.BadOid = codes "the identifier has no octet, one more than it needs, or no end"
cause_text Cause.BadBits = codes "the first octet is not the number of unused bits"

-- the clause that a cause enforces; where no standard is broken, the words say that it is a limit
abbrev pub cause_clause : Cause → List ℕ
cause_clause Cause.Truncated = codes "X.690, 8.1.1"
cause_clause Cause.BadTag = codes "X.690, 8.1.2, or limit of illcanon"
cause_clause Cause.BadLength = codes "X.690, 8.1.3.2 and 8.1.3.5"
cause_clause Cause.TooLong = codes "limit of illcanon"
cause_clause Cause.Overrun = codes "X.690, 8.1.3.3"
cause_clause Cause.TooDeep = codes "limit of illcanon"
cause_clause Cause.UnexpectedTag = codes "X.690, 8.9.2, 8.10.2, 8.13 and 8.14, with the types of ISO 10161-1"
cause_clause (Cause.LeftOut part) = codes "limit of illcanon"
cause_clause Cause.WrongForm = codes "X.690, 8.2.1, 8.3.1, 8.8.1, 8.9.1, 8.10.1, 8.14 and 8.19.1"
cause_clause (Cause.Missing part) = codes "X.690, 8.9.3 and 8.14, with the types of ISO 10161-1"
cause_clause Cause.BadEnd = codes "X.690, 8.1.5"
cause_clause Cause.BadBoolean = codes "X.690, 8.2.1"
cause_clause Cause.BadInteger = codes "X.690, 8.3.1 and 8.3.2"
cause_clause Cause.IntegerTooLong = codes "limit of illcanon"
cause_clause Cause.BadText = codes "X.690, 8.23, and X.680, 41"
cause_clause Cause.BadDate = codes "ISO 10161-1: ISO-Date ::= VisibleString -- conforms to ISO 8601, length = 8, fixed, YYYYMMDD"
cause_clause Cause.BadTime = codes "ISO 10161-1: ISO-Time ::= VisibleString -- conforms to ISO 8601, length = 6, fixed, HHMMSS"
cause_clause Cause.TrailingBytes = codes "limit of illcanon"
cause_clause Cause.NormalTooLong = codes "limit of illcanon"
cause_clause Cause.BadNull = codes "X.690, 8.8.2"
cause_clause Cause.BadOid = codes "X.690, 8.19.2"
cause_clause Cause.BadBits = codes "X.690, 8.6.2"

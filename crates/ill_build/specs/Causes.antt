-- The causes for which a line is refused: the name and the number of each.
use Rattle.std.specs.Prelude.{ℕ, List, codes}
use Rattle.ill_build.specs.declared.cause.BuildCause.{BuildCause}

-- the name of a cause
abbrev pub cause_name : BuildCause → List ℕ
cause_name BuildCause.NotJson = codes "NotJson"
cause_name BuildCause.LineTooLong = codes "LineTooLong"
cause_name BuildCause.WrongType = codes "WrongType"
cause_name BuildCause.UnknownMember = codes "UnknownMember"
cause_name BuildCause.RepeatedMember = codes "RepeatedMember"
cause_name BuildCause.LeftOut = codes "LeftOut"
cause_name BuildCause.MissingMember = codes "MissingMember"
cause_name BuildCause.NotOneMember = codes "NotOneMember"
cause_name BuildCause.UnknownName = codes "UnknownName"
cause_name BuildCause.OtherName = codes "OtherName"
cause_name BuildCause.NotWhole = codes "NotWhole"
cause_name BuildCause.NumberTooLong = codes "NumberTooLong"
cause_name BuildCause.BadCharacter = codes "BadCharacter"
cause_name BuildCause.BadText = codes "BadText"
cause_name BuildCause.BadDate = codes "BadDate"
cause_name BuildCause.BadTime = codes "BadTime"
cause_name BuildCause.BadHexadecimal = codes "BadHexadecimal"
cause_name BuildCause.BadBits = codes "BadBits"
cause_name BuildCause.BadOid = codes "BadOid"
cause_name BuildCause.BadForeign = codes "BadForeign"
cause_name BuildCause.NormalTooLong = codes "NormalTooLong"
cause_name BuildCause.OtherProfile = codes "OtherProfile"

-- the number of a cause
abbrev pub cause_number : BuildCause → ℕ
cause_number BuildCause.NotJson = 1
cause_number BuildCause.LineTooLong = 2
cause_number BuildCause.WrongType = 3
cause_number BuildCause.UnknownMember = 4
cause_number BuildCause.RepeatedMember = 5
cause_number BuildCause.LeftOut = 6
cause_number BuildCause.MissingMember = 7
cause_number BuildCause.NotOneMember = 8
cause_number BuildCause.UnknownName = 9
cause_number BuildCause.OtherName = 10
cause_number BuildCause.NotWhole = 11
cause_number BuildCause.NumberTooLong = 12
cause_number BuildCause.BadCharacter = 13
cause_number BuildCause.BadText = 14
cause_number BuildCause.BadDate = 15
cause_number BuildCause.BadTime = 16
cause_number BuildCause.BadHexadecimal = 17
cause_number BuildCause.BadBits = 18
cause_number BuildCause.BadOid = 19
cause_number BuildCause.BadForeign = 20
cause_number BuildCause.NormalTooLong = 21
cause_number BuildCause.OtherProfile = 22

-- Numbers and names of reasons.
use Rattle.std.specs.Prelude.{ℕ, List, codes}
use Rattle.tlv_core.specs.declared.reason.Reason.{Reason}
use Rattle.tlv_core.specs.declared.reason.Reason.TheVariants.{Truncated, TooLong, BadTag, PastEnd, BadEnd, TooDeep, WrongTag, Extra, LeftOut, WrongForm, BadLength, Missing, BadInteger, BadBoolean, BadNull, BadBits, BadOid, BadText, EmptySet, Version, Parameters, Inner, Curve, KeyLength, VersionRule, TextTooLong, Trailing}

abbrev pub number_of : Reason → ℕ
number_of Truncated = 1
number_of TooLong = 2
number_of BadTag = 3
number_of PastEnd = 4
number_of BadEnd = 5
number_of TooDeep = 6
number_of WrongTag = 7
number_of Extra = 8
number_of LeftOut = 9
number_of WrongForm = 10
number_of BadLength = 11
number_of Missing = 12
number_of BadInteger = 13
number_of BadBoolean = 14
number_of BadNull = 15
number_of BadBits = 16
number_of BadOid = 17
number_of BadText = 18
number_of EmptySet = 19
number_of Version = 20
number_of Parameters = 21
number_of Inner = 22
number_of Curve = 23
number_of KeyLength = 24
number_of VersionRule = 25
number_of TextTooLong = 26
number_of Trailing = 27

abbrev pub name_of : Reason → List ℕ
name_of Truncated = codes "Truncated"
name_of TooLong = codes "TooLong"
name_of BadTag = codes "BadTag"
name_of PastEnd = codes "PastEnd"
name_of BadEnd = codes "BadEnd"
name_of TooDeep = codes "TooDeep"
name_of WrongTag = codes "WrongTag"
name_of Extra = codes "Extra"
name_of LeftOut = codes "LeftOut"
name_of WrongForm = codes "WrongForm"
name_of BadLength = codes "BadLength"
name_of Missing = codes "Missing"
name_of BadInteger = codes "BadInteger"
name_of BadBoolean = codes "BadBoolean"
name_of BadNull = codes "BadNull"
name_of BadBits = codes "BadBits"
name_of BadOid = codes "BadOid"
name_of BadText = codes "BadText"
name_of EmptySet = codes "EmptySet"
name_of Version = codes "Version"
name_of Parameters = codes "Parameters"
name_of Inner = codes "Inner"
name_of Curve = codes "Curve"
name_of KeyLength = codes "KeyLength"
name_of VersionRule = codes "VersionRule"
name_of TextTooLong = codes "TextTooLong"
name_of Trailing = codes "Trailing"

-- How long the words of lines are.
use Rattle.std.proofs.Common.{◌<◌, ◌≤◌, arith, length}
use Rattle.tlv_core.specs.Reasons.{name_of}
use Rattle.tlv_core.specs.declared.reason.Reason.{Reason}
use Rattle.tlv_core.specs.declared.reason.Reason.TheVariants as reasons
use Rattle.pk_documents.specs.KindRows.{word_of}
use Rattle.pk_documents.specs.declared.kind.Kind.{Kind}
use Rattle.pk_documents.specs.declared.kind.Kind.TheVariants as kinds
use Rattle.commands.specs.NameLists.{fault_of}
use Rattle.commands.specs.Openings.{why_of}
use Rattle.commands.specs.declared.names.NamesFault.{NamesFault}
use Rattle.commands.specs.declared.names.NamesFault.TheVariants as faults
use Rattle.commands.specs.declared.opener.Unopened.{Unopened}
use Rattle.commands.specs.declared.opener.Unopened.TheVariants as whys

pub names_are_short : (why : Reason) → length (name_of why) ≤ 11
names_are_short reasons.Truncated = omega arith
names_are_short reasons.TooLong = omega arith
names_are_short reasons.BadTag = omega arith
names_are_short reasons.PastEnd = omega arith
names_are_short reasons.BadEnd = omega arith
names_are_short reasons.TooDeep = omega arith
names_are_short reasons.WrongTag = omega arith
names_are_short reasons.Extra = omega arith
names_are_short reasons.LeftOut = omega arith
names_are_short reasons.WrongForm = omega arith
names_are_short reasons.BadLength = omega arith
names_are_short reasons.Missing = omega arith
names_are_short reasons.BadInteger = omega arith
names_are_short reasons.BadBoolean = omega arith
names_are_short reasons.BadNull = omega arith
names_are_short reasons.BadBits = omega arith
names_are_short reasons.BadOid = omega arith
names_are_short reasons.BadText = omega arith
names_are_short reasons.EmptySet = omega arith
names_are_short reasons.Version = omega arith
names_are_short reasons.Parameters = omega arith
names_are_short reasons.Inner = omega arith
names_are_short reasons.Curve = omega arith
names_are_short reasons.KeyLength = omega arith
names_are_short reasons.VersionRule = omega arith
names_are_short reasons.TextTooLong = omega arith
names_are_short reasons.Trailing = omega arith

pub whys_are_short : (why : Unopened) → length (why_of why) < 128
whys_are_short whys.NotFound = omega arith
whys_are_short whys.Directory = omega arith
whys_are_short whys.NotDirectory = omega arith
whys_are_short whys.Denied = omega arith
whys_are_short whys.NotUtf8 = omega arith
whys_are_short whys.TooLong = omega arith
whys_are_short whys.Irregular = omega arith
whys_are_short whys.Memory = omega arith
whys_are_short whys.Other = omega arith

pub faults_are_short : (fault : NamesFault) → length (fault_of fault) < 128
faults_are_short faults.Read = omega arith
faults_are_short faults.TooLong = omega arith
faults_are_short faults.TooMany = omega arith
faults_are_short faults.Memory = omega arith

pub words_are_short : (kind : Kind) → length (word_of kind) ≤ 9
words_are_short kinds.Key = omega arith
words_are_short kinds.Ec = omega arith
words_are_short kinds.Request = omega arith
words_are_short kinds.Public = omega arith
words_are_short kinds.Encrypted = omega arith
words_are_short kinds.Package = omega arith

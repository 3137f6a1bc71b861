-- Why a document isn't opened, in words.
use Rattle.std.specs.Prelude.{List, codes, ℕ}
use Rattle.commands.specs.declared.opener.Unopened.{Unopened}
use Rattle.commands.specs.declared.opener.Unopened.TheVariants.{Denied, Directory, Irregular, Memory, NotDirectory, NotFound, NotUtf8, Other, TooLong}

abbrev pub why_of : Unopened → List ℕ
why_of NotFound = codes "no such file"
why_of Directory = codes "is a directory"
why_of NotDirectory = codes "not in a directory"
why_of Denied = codes "permission denied"
why_of NotUtf8 = codes "the name is not UTF-8"
why_of TooLong = codes "the name is too long"
why_of Irregular = codes "not a regular file"
why_of Memory = codes "out of memory"
why_of Other = codes "can't be opened"

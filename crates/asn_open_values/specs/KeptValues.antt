-- What is kept of open values.
use Rattle.std.specs.Prelude.{List, None, Option, Some, ℕ}
use Rattle.x690.specs.DerTexts.{der}
use Rattle.x690.specs.Layouts.{universal}
use Rattle.x690.specs.Values.{Leaf}
use Rattle.asn_open_values.specs.declared.any.KeptContents.{KeptContents}
use Rattle.asn_open_values.specs.declared.any.KeptContents.TheVariants.{Identifier, Text}

-- the DER text of what is kept
abbrev pub text_kept : KeptContents → List ℕ
text_kept (Identifier oid) = der (Leaf (universal 6) oid)
text_kept (Text text) = text.items

-- the contents of an identifier that is kept
abbrev pub identifier_kept : KeptContents → Option (List ℕ)
identifier_kept (Identifier oid) = Some oid
identifier_kept (Text text) = None

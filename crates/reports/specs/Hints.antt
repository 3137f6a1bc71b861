-- What is likely, and what to do.
use Rattle.std.specs.Prelude.{Bool, List, None, Option, Some, [], codes, cond, decimal, length, nat_lt, ℕ, ◌%◌, ◌&&◌, ◌++◌, ◌-◌, ◌==◌, ◌||◌}
use Rattle.std.specs.Option.{option_map}
use Rattle.std.specs.Str.{bytes_eq}
use Rattle.tlv_core.specs.declared.fault.Fault.{Fault}
use Rattle.tlv_core.specs.declared.reason.Reason.{Reason}
use Rattle.reports.specs.Afters.{line_end}
use Rattle.reports.specs.Guesses.{guess_act, guess_said}
use Rattle.reports.specs.PlacedAdvice.{fault_act, fault_likely}
use Rattle.pkix_shapes.specs.declared.identifiers.Identifier.{Identifier}
use Rattle.reports.specs.Remarks.{algorithm_remark_said, attribute_remark_said, extension_remark_said, key_remark_said}
use Rattle.reports.specs.Remarks.{name_remark_said, tls_remark_said}
use Rattle.reports.specs.Seen.{seen_of}
use Rattle.reports.specs.Texts.{octet_text}
use Rattle.reports.specs.Words.{place_said, sized}
use Rattle.reports.specs.declared.report.Answer.{Answer}
use Rattle.reports.specs.declared.report.Answer.TheVariants.{Der, NotDer, Refused}
use Rattle.reports.specs.declared.report.Cause.{Cause}
use Rattle.reports.specs.declared.report.Cause.TheVariants as causes
use Rattle.reports.specs.declared.report.Guess.{Guess}
use Rattle.reports.specs.declared.report.Guess.TheVariants as guesses
use Rattle.reports.specs.declared.report.Remark.{Remark}
use Rattle.reports.specs.declared.report.Remark.TheVariants as remarks
use Rattle.reports.specs.declared.report.Report.{Report}

-- whether lines of 64 letters of base64, or of 76, have so many octets
abbrev pub is_lines : ℕ → Bool
is_lines octets = (octets % 48 == 0) || (octets % 57 == 0)

-- whether a line of a PEM text may be missing, or there twice
abbrev pub line_by : ℕ → ℕ → List ℕ
line_by octets announced =
    cond (nat_lt octets announced && is_lines (announced - octets)) (codes "a line of the PEM text is missing")
    (cond (nat_lt announced octets && is_lines (octets - announced)) (codes "a line of the PEM text stands twice") [])

unfoldable pub line_said : ℕ → Option ℕ → List ℕ
line_said octets None = []
line_said octets (Some announced) = line_by octets announced

-- by what the file looks like; else by its length; else by the reason
abbrev pub likely_by : Guess → List ℕ → List ℕ → List ℕ
likely_by guesses.Unknown line reason = cond (length line == 0) reason line
likely_by guess line reason = guess_said guess

unfoldable pub reason_likely : Report → Fault → List ℕ
reason_likely report fault =
    likely_by report.guess (line_said report.octets (line_end report))
    (fault_likely report.kind.word.now (seen_of report fault) fault)

abbrev pub likely_of : Report → Answer → List ℕ
likely_of report (Refused fault) = reason_likely report fault
likely_of report Der = []
likely_of report (NotDer at) = []

abbrev pub likely_said : Report → List ℕ
likely_said report = likely_of report report.answer

abbrev pub act_by : List ℕ → Guess → List ℕ → List ℕ
act_by kind guesses.Unknown reason = reason
act_by kind guess reason = guess_act kind guess

unfoldable pub reason_act : Report → Fault → List ℕ
reason_act report fault =
    act_by report.kind.word.now report.guess (fault_act report.kind.word.now (seen_of report fault) fault)

-- what to do with what is signed, which a request alone has
abbrev pub signed_words : List ℕ → List ℕ
signed_words kind =
    cond (bytes_eq kind (codes "request"))
    (codes ", and verify the signature over the octets as they came, which pkder signed --part received writes; "
    ++ codes "where that fails, over what pkder signed writes")
    []

abbrev pub sound_words : List ℕ
sound_words =
    codes "the document is sound. A program that takes DER alone refuses it; else keep what pkder normalise writes"

-- what to do with a document of this kind that isn't in DER
unfoldable pub sound_said : List ℕ → List ℕ
sound_said kind = sound_words ++ signed_words kind

abbrev pub do_by : Report → Answer → List ℕ
do_by report Der = []
do_by report (NotDer at) = sound_said report.kind.word.now
do_by report (Refused fault) = reason_act report fault

abbrev pub do_said : Report → List ℕ
do_said report = do_by report report.answer

-- why an element isn't in DER (X.690 clauses 10 and 11)
unfoldable pub cause_said : Cause → List ℕ
cause_said causes.LongLength = codes "a length in more octets than it needs"
cause_said causes.IndefiniteLength = codes "a length of the indefinite form"
cause_said causes.Segments = codes "a string in segments"
cause_said causes.True = codes "TRUE by another octet than FF"
cause_said causes.UnusedBits = codes "unused bits that aren't 0"
cause_said causes.Default = codes "a default value written out, which DER leaves out"
cause_said causes.Order = codes "members of a SET OF that aren't in the order of their octets"

-- an extension by its usual name, where it has one
abbrev pub extension_said : Option Identifier → List ℕ
extension_said None = codes "the extension"
extension_said (Some identifier) = identifier.name.now

unfoldable pub point_size_said : ℕ → List ℕ
point_size_said octets =
    codes "a point of " ++ sized octets ++ codes ", which none of this curve has (RFC 5480 section 2.2)"

-- a point whose first octet says another form than its length
unfoldable pub point_said : ℕ → List ℕ
point_said octet =
    codes "a point whose first octet is " ++ octet_text octet
    ++ codes ", which none of its length has (RFC 5480 section 2.2)"

unfoldable pub several_values_said : ℕ → List ℕ
several_values_said count = decimal count ++ codes " values of an attribute that has one (RFC 2985 section 5.4)"

unfoldable pub due_size_said : ℕ → ℕ → List ℕ
due_size_said octets due =
    codes "a key of " ++ sized octets ++ codes ", where its algorithm has " ++ decimal due
    ++ codes " (RFC 9881, RFC 9935, RFC 9909)"

-- the value of an extension that isn't in DER
unfoldable pub not_der_value_said : Option Identifier → List ℕ
not_der_value_said name = extension_said name ++ codes " isn't in DER inside (RFC 5280 section 4.2)"

-- one that is a keyUsage with zeros at its end
unfoldable pub zero_bits_said : Option Identifier → List ℕ
zero_bits_said name = extension_said name ++ codes " has bits 0 at its end, which DER leaves out (X.690 11.2.2)"

-- one that isn't of its type
unfoldable pub refused_value_said : Option Identifier → ℕ → Reason → List ℕ
refused_value_said name at why =
    extension_said name ++ codes " isn't of its type inside: fault at " ++ place_said at why
    ++ codes ", counted from the first octet of its value (RFC 5280 section 4.2)"

-- what other standards say to what is there
unfoldable pub remark_said : Remark → List ℕ
remark_said (remarks.PointSize octets) = point_size_said octets
remark_said remarks.PointBits = codes "a point with unused bits (RFC 5480 section 2.2)"
remark_said (remarks.PointHybrid octet) = point_said octet
remark_said remarks.NoNamedCurve = codes "id-ecPublicKey without a named curve (RFC 5480 section 2.1.1)"
remark_said remarks.ExtensionTwice = codes "an extension that stands there before (RFC 5280 section 4.2)"
remark_said remarks.AttributeTwice =
    codes "an attribute of a type that stands there before; one has all its values (RFC 2986 section 4.1)"
remark_said (remarks.SeveralValues count) = several_values_said count
remark_said (remarks.KeySize octets due) = due_size_said octets due
remark_said remarks.NeedlessParameters =
    codes "parameters beside an algorithm that has none (RFC 9881, RFC 9935, RFC 9909)"
remark_said (remarks.ExtensionNotDer name) = not_der_value_said (option_map (λ r. r.now) name)
remark_said (remarks.ExtensionZeroBits name) = zero_bits_said (option_map (λ r. r.now) name)
remark_said (remarks.ExtensionRefused name at why) = refused_value_said (option_map (λ r. r.now) name) at why
remark_said (remarks.Key remark) = key_remark_said remark
remark_said (remarks.Name remark) = name_remark_said remark
remark_said (remarks.Extension remark) = extension_remark_said remark
remark_said (remarks.Algorithm remark) = algorithm_remark_said remark
remark_said (remarks.Attribute remark) = attribute_remark_said remark
remark_said (remarks.Tls remark) = tls_remark_said remark

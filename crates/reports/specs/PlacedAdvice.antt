-- What often causes a fault, and what to do, where what is shown or its place says more than its reason.
use Rattle.std.specs.Prelude.{Bool, List, None, Option, Some, [], codes, cond, decimal, nat_lt, ℕ, ◌+◌, ◌++◌, ◌==◌, ◌||◌}
use Rattle.std.specs.Str.{bytes_eq}
use Rattle.tlv_core.specs.declared.fault.Fault.{Fault}
use Rattle.tlv_core.specs.declared.reason.Reason.{Reason}
use Rattle.tlv_core.specs.declared.reason.Reason.TheVariants.{BadEnd, BadInteger, KeyLength, Parameters, PastEnd, Trailing, Truncated, Version, VersionRule, WrongTag}
use Rattle.reports.specs.Advice.{advice_of}
use Rattle.reports.specs.Afters.{after_said}
use Rattle.reports.specs.Guesses.{is_request}
use Rattle.reports.specs.declared.seen.Seen.{Seen}
use Rattle.reports.specs.declared.seen.Seen.TheVariants as seen

-- a document of this kind was wanted
abbrev pub is_ec : List ℕ → Bool
is_ec kind = bytes_eq kind (codes "ec")

abbrev pub is_key : List ℕ → Bool
is_key kind = bytes_eq kind (codes "key")

-- by what is shown of the fault, but for the octets after a document
abbrev pub seen_likely : Seen → List ℕ
seen_likely seen.Nothing = []
seen_likely seen.NullParameters = codes "NULL beside an algorithm that has no parameters"
seen_likely seen.Parameters = codes "parameters beside an algorithm that has none"
seen_likely seen.NoCurve = codes "an EC key without the name of its curve"
seen_likely seen.WrittenOut = codes "a curve that is written out"
seen_likely seen.InSegments =
    codes "it is marked as a string in segments, and holds something else: a fault of its writer"
seen_likely (seen.KeyInSegments begin) =
    codes "it is marked as a string in segments, and holds something else: a fault of its writer"
seen_likely seen.NoSet = codes "a value without the SET around it: a fault of its writer"
seen_likely seen.MaybeNoSet = codes "a value without the SET around it, or a damaged octet"
seen_likely (seen.After after) = []

-- an element of another type by its place in the file
abbrev pub wrong_tag_likely : ℕ → List ℕ
wrong_tag_likely at =
    cond (at == 0) (codes "PEM or text, something that isn't ASN.1")
    (cond (nat_lt at 14) (codes "another kind of document") (codes "a damaged octet"))

-- the version of a request is 0; certificates count theirs by another number
abbrev pub version_likely : List ℕ → List ℕ
version_likely kind =
    cond (is_request kind) (codes "a client that numbers requests as certificates")
    (cond (is_ec kind) (codes "a PKCS #8 or PKCS #1 file, a damaged octet")
    (cond (is_key kind) (codes "a PKCS #12 file, a damaged octet") (codes "a damaged octet")))

-- private keys alone have to name a curve
abbrev pub parameters_likely : List ℕ → List ℕ
parameters_likely kind =
    cond (is_key kind || bytes_eq kind (codes "package")) (advice_of Parameters).likely
    (codes "parameters beside an algorithm that has none, mostly NULL")

abbrev pub likely_at : List ℕ → ℕ → Reason → List ℕ
likely_at kind at WrongTag = wrong_tag_likely at
likely_at kind at Version = version_likely kind
likely_at kind at Parameters = parameters_likely kind
likely_at kind at Truncated = codes "a transfer that broke off, an outer length that is too large"
likely_at kind at BadEnd = codes "a wrong length before " ++ decimal at ++ codes ", padding with zeros"
likely_at kind at why = (advice_of why).likely

-- inside privateKey, where the file is whole and its lengths are right
abbrev pub likely_inside : Reason → List ℕ
likely_inside WrongTag = codes "a damaged octet"
likely_inside Truncated = codes "a length inside that is too large"
likely_inside BadEnd = codes "padding with zeros, a wrong length before it"
likely_inside Trailing = codes "padding, an octet that the writer added"
likely_inside Version = codes "another sort of key than the algorithm says, a damaged octet"
likely_inside why = (advice_of why).likely

abbrev pub likely_by_place : List ℕ → ℕ → Reason → Option (ℕ × Reason) → List ℕ
likely_by_place kind at why None = likely_at kind at why
likely_by_place kind at why (Some inside) = likely_inside inside.1

abbrev pub place_likely : List ℕ → Fault → List ℕ
place_likely kind fault = likely_by_place kind fault.at fault.why fault.inside

-- where a document of this kind was wanted: by what is shown of the fault, else by its place
abbrev pub fault_likely : List ℕ → Seen → Fault → List ℕ
fault_likely kind seen.Nothing fault = place_likely kind fault
fault_likely kind (seen.After after) fault = after_said after
fault_likely kind what fault = seen_likely what

-- with other parameters than NULL beside an algorithm that has none, and with NULL
abbrev pub beside_act : List ℕ → List ℕ
beside_act kind =
    cond (is_request kind)
    (codes "a new request, by a program that leaves them out: its signature is over its key's parameters, too")
    (codes "have it written anew by a program that leaves them out")

abbrev pub null_act : List ℕ → List ℕ
null_act kind =
    cond (is_key kind)
    (codes "certtool --to-p8 --load-privkey FILE --inder --outder --password= --outfile NEW leaves it out; "
    ++ codes "OpenSSL refuses it, too")
    (cond (bytes_eq kind (codes "public"))
    (codes "certtool --pubkey-info --load-pubkey FILE --inder --outder --outfile NEW leaves it out; "
    ++ codes "OpenSSL refuses it, too")
    (beside_act kind))

-- with a curve that is written out
abbrev pub written_act : List ℕ → List ℕ
written_act kind =
    cond (is_ec kind)
    (codes "openssl ec -inform DER -in FILE -param_enc named_curve -outform DER names it, where it has a usual name")
    (cond (is_key kind)
    (codes "openssl ec -inform DER -in FILE -param_enc named_curve | openssl pkcs8 -topk8 -nocrypt -outform DER "
    ++ codes "names it, where it has a usual name")
    (codes "have it written anew, with the name of the curve"))

-- with a value that has no SET around it
abbrev pub set_act : List ℕ → List ℕ
set_act kind =
    cond (is_request kind) (codes "a new request, by another program") (codes "have it written anew by another program")

-- with privateKey at this place, whose identifier octet is to be 04 and not 24
unfoldable pub octet_replaced : ℕ → List ℕ
octet_replaced begin = codes "(head -c " ++ decimal begin ++ codes " FILE; echo 04 | xxd -r -p; tail -c +"

unfoldable pub held_act : ℕ → List ℕ
held_act begin =
    octet_replaced begin ++ decimal (begin + 2) ++ codes " FILE) > NEW marks it as one string"

abbrev pub seen_act : List ℕ → Seen → List ℕ
seen_act kind seen.NullParameters = null_act kind
seen_act kind seen.Parameters = beside_act kind
seen_act kind seen.NoCurve =
    codes "openssl asn1parse -inform DER -in FILE -strparse PLACE -noout -out NEW writes what privateKey, at that "
    ++ codes "place, holds: read it with --kind ec"
seen_act kind seen.WrittenOut = written_act kind
seen_act kind seen.NoSet = set_act kind
seen_act kind seen.MaybeNoSet = set_act kind
seen_act kind what = codes "refuse it"

-- with a number that isn't in the fewest octets
abbrev pub integer_act : List ℕ → List ℕ
integer_act kind =
    cond (is_key kind)
    (codes "openssl pkcs8 -topk8 -nocrypt -inform DER -in FILE -outform DER writes the numbers of an RSA key anew")
    (advice_of BadInteger).act

-- with a private key that hasn't the length of its curve
abbrev pub length_act : List ℕ → List ℕ
length_act kind =
    cond (is_ec kind)
    (codes "openssl ec -inform DER -in FILE -outform DER writes it anew; compare the public keys")
    (cond (is_key kind)
    (codes "first see that both curves are one (openssl asn1parse); openssl pkcs8 -topk8 -nocrypt -inform DER "
    ++ codes "-in FILE -outform DER writes an EC key anew; compare the public keys")
    (advice_of KeyLength).act)

-- with what is inside privateKey, of which no place is one of the file
abbrev pub act_inside : List ℕ → Reason → List ℕ
act_inside kind WrongTag = codes "refuse it"
act_inside kind PastEnd = codes "refuse it"
act_inside kind Truncated = codes "refuse it"
act_inside kind Version = codes "refuse it"
act_inside kind Trailing = codes "have the key written anew by its own tool"
act_inside kind BadInteger = integer_act kind
act_inside kind KeyLength = length_act kind
act_inside kind why = (advice_of why).act

-- where another type was due
abbrev pub wrong_tag_act : ℕ → List ℕ
wrong_tag_act at = cond (nat_lt at 14) (advice_of WrongTag).act (codes "refuse it")

abbrev pub version_act : List ℕ → List ℕ
version_act kind =
    cond (is_request kind) (codes "a new request, whose version is written as 0 and called v1")
    (codes "see the manual's table of other kinds and formats; else refuse it")

abbrev pub parameters_act : List ℕ → List ℕ
parameters_act kind =
    cond (is_request kind) (beside_act kind)
    (codes "have it written anew, as the manual says under Getting the octets")

abbrev pub version_rule_act : List ℕ → List ℕ
version_rule_act kind =
    cond (is_key kind)
    (codes "openssl pkcs8 -topk8 -nocrypt -inform DER -in FILE -outform DER writes a key of version 1 without a public "
    ++ codes "key anew; another one has its own tool to write")
    (advice_of VersionRule).act

-- with a place in the file
abbrev pub act_at : List ℕ → ℕ → Reason → List ℕ
act_at kind at WrongTag = wrong_tag_act at
act_at kind at Version = version_act kind
act_at kind at Parameters = parameters_act kind
act_at kind at KeyLength = length_act kind
act_at kind at VersionRule = version_rule_act kind
act_at kind at PastEnd = codes "look at the lengths before " ++ decimal at ++ codes "; refuse it"
act_at kind at Trailing =
    codes "look at what follows, by xxd -s " ++ decimal at ++ codes " FILE, before you cut it off"
act_at kind at why = (advice_of why).act

abbrev pub act_by_place : List ℕ → ℕ → Reason → Option (ℕ × Reason) → List ℕ
act_by_place kind at why None = act_at kind at why
act_by_place kind at why (Some inside) = act_inside kind inside.1

abbrev pub place_act : List ℕ → Fault → List ℕ
place_act kind fault = act_by_place kind fault.at fault.why fault.inside

-- where a document of this kind was wanted: by what is shown of the fault, else by its place
abbrev pub fault_act : List ℕ → Seen → Fault → List ℕ
fault_act kind seen.Nothing fault = place_act kind fault
fault_act kind (seen.After after) fault = place_act kind fault
fault_act kind (seen.KeyInSegments begin) fault = held_act begin
fault_act kind what fault = seen_act kind what

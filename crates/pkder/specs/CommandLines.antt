-- The commands and options of the program, and what a command line asks for. What clap makes of the words of a
-- command is `subcommand_of`.
use Rattle.std.specs.Prelude.{◌≡◌, ◌≤◌, ◌⊎◌, ◌&&◌, ◌||◌, ◌++◌, ◌==◌, ℕ, Bool, IfSome, List, [], ◌∷◌, None, Option, Some, codes, false, if◌then◌else◌, length, map, option_map, string_bytes, true, unwrap_or}
use Rattle.std.specs.Char.{is_control}
use Rattle.std.specs.List.{filter, find, flat_map, fold, list_any}
use Rattle.std.specs.Option.{is_some, option_or}
use Rattle.std.specs.Str.{bytes_eq, chars}
use Rattle.std.specs.Str.Parse.{IsNumeral, digits_value, without_leading_plus}
use Rattle.clap.specs.Words.{App, IsAmong, Row, Rule, Shape, Text, all_of, fault_of, first_of, new_app, new_rule, subcommand_of, with_rule, with_subcommand}
use Rattle.clap.specs.Simple.{on_top}
use Rattle.clap.specs.declared.builder.action.ArgAction.TheVariants.{Append, Set, SetTrue}
use Rattle.clap.specs.declared.error.kind.ErrorKind.{ErrorKind}
use Rattle.clap.specs.declared.error.kind.ErrorKind.TheVariants as errors
use Rattle.tlv_core.specs.Limits.{IsLimits, Limits}
use Rattle.pk_documents.specs.KindRows.{is_key, kind_named, word_of}
use Rattle.pk_documents.specs.declared.kind.Kind.{Kind}
use Rattle.pk_documents.specs.declared.kind.Kind.TheVariants as kinds
use Rattle.pk_documents.specs.declared.kind.TheConstants.{KEY_WORDS, WORDS}
use Rattle.pk_documents.specs.declared.request_part.Part.TheVariants as parts
use Rattle.explain.specs.declared.profile.Profile.{Profile}
use Rattle.explain.specs.declared.profile.Profile.TheVariants.{General, Tls}
use Rattle.explain.specs.declared.received.RequestPart.{RequestPart}
use Rattle.explain.specs.declared.received.RequestPart.TheVariants.{Received, Written}
use Rattle.explain.specs.declared.written.Form.{Form}
use Rattle.commands.specs.Names.{IsPrintable, escaped, quoted}
use Rattle.commands.specs.Outcomes.{line_feed}
use Rattle.commands.specs.declared.task.Action.{Action}
use Rattle.commands.specs.declared.task.Action.TheVariants.{Check, Explain, Normalise, Note, Show, Signed}
use Rattle.commands.specs.declared.task.Noting.{Noting}
use Rattle.commands.specs.declared.task.Refuse.{Refuse}
use Rattle.commands.specs.declared.task.Refuse.TheVariants.{Must, Nothing}
use Rattle.pkder.specs.declared.refusal.BadValue.{BadValue}
use Rattle.pkder.specs.declared.line.LineFault.{LineFault}
use Rattle.pkder.specs.declared.line.LineFault.TheVariants as faults
use Rattle.pkder.specs.declared.line.Invocation.{Invocation}
use Rattle.pkder.specs.declared.line.Invocation.TheVariants.{Both, Each}
use Rattle.pkder.specs.declared.line.Order.{Order}
use Rattle.pkder.specs.declared.pair.Pair.{Pair}
use Rattle.commands.specs.declared.question.Comparison.{Comparison}
use Rattle.commands.specs.declared.question.Question.{Question}
use Rattle.commands.specs.declared.question.Question.TheVariants.{Document, Key}
use Rattle.commands.specs.declared.task.Task.{Task}
use Rattle.comparison.specs.declared.same.Style.TheVariants.{Json, Text as TextForm}

-- ---- the options: their names, and what stands for one that isn't given

-- an option with a value
abbrev pub option_rule : Text → Rule
option_rule name = record (new_rule name) { long = Some name; action = Some Set; value_names = 1 }

abbrev pub kind_rule : Rule
kind_rule = record (option_rule (codes "kind")) { short = Some 107; required = true }

-- the kind of a command that finds it by itself with `--any`
abbrev pub optional_kind_rule : Rule
optional_kind_rule = record kind_rule { required = false }

-- the kind that `signed` may have
abbrev pub request_rule : Rule
request_rule = record kind_rule { required = false; defaults = word_of kinds.Request ∷ [] }

-- the kind of two documents, or the kinds of both
abbrev pub pair_kinds_rule : Rule
pair_kinds_rule = record kind_rule { action = Some Append }

abbrev pub part_rule : Rule
part_rule = record (option_rule (codes "part")) { defaults = codes "info" ∷ [] }

abbrev pub depth_rule : Rule
depth_rule = record (option_rule (codes "depth")) { defaults = codes "32" ∷ [] }

abbrev pub octets_rule : Rule
octets_rule = record (option_rule (codes "octets")) { defaults = codes "1048576" ∷ [] }

abbrev pub places_rule : Rule
places_rule = record (option_rule (codes "places")) { defaults = codes "100" ∷ [] }

-- the level of notes that no document is to have
abbrev pub refuse_rule : Rule
refuse_rule = option_rule (codes "refuse")

-- what a document is for
abbrev pub profile_rule : Rule
profile_rule = option_rule (codes "profile")

abbrev pub flag_rule : Text → Rule
flag_rule name = record (new_rule name) { long = Some name; action = Some SetTrue }

-- the name of a file, and the names of any number of them
abbrev pub name_rule : Rule
name_rule = record (new_rule (codes "file")) { action = Some Set; value_names = 1 }

abbrev pub names_rule : Rule
names_rule = record name_rule { action = Some Append }

-- the name of a file that has to be given
abbrev pub required_rule : Text → Rule
required_rule id = record name_rule { id = id; required = true }

-- ---- the commands

abbrev pub limit_rules : List Rule
limit_rules = depth_rule ∷ octets_rule ∷ []

-- of a command that finds out the kind by itself with `--any`
abbrev pub any_rules : List Rule
any_rules = optional_kind_rule ∷ flag_rule (codes "any") ∷ limit_rules

-- any number of files, which may have documents one behind another, and perhaps a sum
abbrev pub names_rules : List Rule
names_rules = option_rule (codes "files0-from") ∷ flag_rule (codes "sum") ∷ flag_rule (codes "each") ∷ names_rule ∷ []

-- one file, and another one that is written
abbrev pub name_rules : List Rule
name_rules = option_rule (codes "to") ∷ name_rule ∷ []

-- a command with these options and files
abbrev pub command_of : Text → List Rule → Shape
command_of name rules = record (new_app name).top { rules = rules }

abbrev pub check_shape : Shape
check_shape = command_of (codes "check") (any_rules
    ++ (flag_rule (codes "quiet") ∷ flag_rule (codes "notes") ∷ refuse_rule ∷ profile_rule ∷ [])
    ++ (flag_rule (codes "json") ∷ places_rule ∷ names_rules))

abbrev pub explain_shape : Shape
explain_shape = command_of (codes "explain") (any_rules
    ++ (flag_rule (codes "all") ∷ flag_rule (codes "brief") ∷ profile_rule ∷ [])
    ++ (flag_rule (codes "json") ∷ places_rule ∷ names_rules))

abbrev pub show_shape : Shape
show_shape = command_of (codes "show") (any_rules ++ flag_rule (codes "json") ∷ names_rules)

-- of two documents of a kind, or of two kinds
abbrev pub same_shape : Shape
same_shape = command_of (codes "same") (pair_kinds_rule ∷ limit_rules
    ++ (flag_rule (codes "key") ∷ flag_rule (codes "json") ∷ [])
    ++ (required_rule (codes "first") ∷ required_rule (codes "second") ∷ []))

abbrev pub normalise_shape : Shape
normalise_shape = command_of (codes "normalise") (kind_rule ∷ limit_rules ++ name_rules)

abbrev pub signed_shape : Shape
signed_shape = command_of (codes "signed") (part_rule ∷ request_rule ∷ limit_rules ++ name_rules)

abbrev pub top : App
top = on_top (λ s. record s { has_version = true; subcommand_required = true }) (new_app (codes "pkder"))

abbrev pub commands : List Shape
commands = check_shape ∷ explain_shape ∷ show_shape ∷ same_shape ∷ normalise_shape ∷ signed_shape ∷ []

-- the program: all commands
abbrev pub program : App
program = fold with_subcommand top commands

-- the command of this name
abbrev pub command_named : Text → Option Shape
command_named word = find (λ s. bytes_eq word s.name) commands

-- the program with this command alone; with all of them where there is none
abbrev pub program_with : Option Shape → App
program_with None = program
program_with (Some command) = with_subcommand top command

-- the program as far as a line needs it: with the command alone that the word after the program's name names
abbrev pub program_for : List Text → App
program_for (name ∷ word ∷ words) = program_with (command_named word)
program_for words = program

-- ---- the words that are read

abbrev pub command_name : Action → Text
command_name (Show json) = codes "show"
command_name (Check json quiet places) = codes "check"
command_name (Note noting) = codes "check"
command_name (Explain form) = codes "explain"
command_name Normalise = codes "normalise"
command_name (Signed part) = codes "signed"

abbrev pub part_name : RequestPart → Text
part_name (Written parts.Info) = codes "info"
part_name (Written parts.Algorithm) = codes "algorithm"
part_name (Written parts.Key) = codes "key"
part_name (Written parts.Signature) = codes "signature"
part_name Received = codes "received"

-- decimal digits, perhaps after a plus sign, that say the number
abbrev pub IsNumber : Text → ℕ → Type 0
IsNumber text n = IsNumeral 10 (without_leading_plus text) × (digits_value 10 (without_leading_plus text) ≡ n)

-- the value of an option, given or standing for it
abbrev pub value_of : Text → List Row → Text
value_of id rows = unwrap_or (first_of id rows) []

-- a flag is given
abbrev pub is_given : Text → List Row → Bool
is_given id rows = bytes_eq (value_of id rows) (codes "true")

-- how many places that aren't in DER are shown
abbrev pub ReadsPlaces : List Row → ℕ → Type 0
ReadsPlaces rows places = IsNumber (value_of (codes "places") rows) places × (1 ≤ places) × (places ≤ 2147483647)

-- the notes that no document is to have, by the value of their option, if it is one
unfoldable pub refuse_by : Option Text → Option Refuse
refuse_by None = Some Nothing
refuse_by (Some word) = if bytes_eq word (codes "must") || bytes_eq word (codes "tls") then Some Must else None

abbrev pub ReadsRefuse : List Row → Refuse → Type 0
ReadsRefuse rows refuse = refuse_by (first_of (codes "refuse") rows) ≡ Some refuse

-- there are such notes
abbrev pub refuses : Refuse → Bool
refuses Nothing = false
refuses Must = true

-- what a document is for, by the value of its option, if it is one
unfoldable pub profile_by : Option Text → Option Profile
profile_by None = Some General
profile_by (Some word) = if bytes_eq word (codes "tls") then Some Tls else None

abbrev pub ReadsProfile : List Row → Profile → Type 0
ReadsProfile rows profile = profile_by (first_of (codes "profile") rows) ≡ Some profile

-- the profile of a check by the value of `--refuse`, which may say it, too
abbrev pub noted_profile : Text → Profile → Profile
noted_profile refused named = if bytes_eq refused (codes "tls") then Tls else named

abbrev pub ReadsNotedProfile : List Row → Profile → Type 0
ReadsNotedProfile rows profile =
    (named : Profile) × ReadsProfile rows named × (profile ≡ noted_profile (value_of (codes "refuse") rows) named)

abbrev pub is_for_tls : Profile → Bool
is_for_tls General = false
is_for_tls Tls = true

-- Notes are asked for: by themselves, by what no document is to have, or by a profile.
abbrev pub asks_notes : Noting → List Row → Bool
asks_notes noting rows = is_given (codes "notes") rows || (refuses noting.refuse || is_for_tls noting.profile)

-- how `check` writes, and how it ends
abbrev pub ReadsNoting : List Row → Noting → Type 0
ReadsNoting rows noting =
    (noting.json ≡ is_given (codes "json") rows)
    × (noting.quiet ≡ is_given (codes "quiet") rows)
    × ReadsPlaces rows noting.places
    × ReadsRefuse rows noting.refuse
    × ReadsNotedProfile rows noting.profile

abbrev pub ReadsForm : List Row → Form → Type 0
ReadsForm rows form =
    (form.json ≡ is_given (codes "json") rows)
    × (form.brief ≡ is_given (codes "brief") rows)
    × (form.all ≡ is_given (codes "all") rows)
    × ReadsPlaces rows form.places
    × ReadsProfile rows form.profile

abbrev pub ReadsAction : Action → List Row → Type 0
ReadsAction (Show json) rows = json ≡ is_given (codes "json") rows
ReadsAction (Check json quiet places) rows =
    (json ≡ is_given (codes "json") rows)
    × (quiet ≡ is_given (codes "quiet") rows)
    × ReadsPlaces rows places
    × ReadsRefuse rows Nothing
    × ReadsNotedProfile rows General
    × (is_given (codes "notes") rows ≡ false)
ReadsAction (Note noting) rows = ReadsNoting rows noting × (asks_notes noting rows ≡ true)
ReadsAction (Explain form) rows = ReadsForm rows form
ReadsAction Normalise rows = Unit {0}
ReadsAction (Signed part) rows = value_of (codes "part") rows ≡ part_name part

-- `signed` reads requests alone.
abbrev pub TakesKind : Action → Kind → Type 0
TakesKind (Signed part) kind = kind ≡ kinds.Request
TakesKind _ kind = Unit {0}

abbrev pub ReadsLimits : List Row → Limits → Type 0
ReadsLimits rows limits =
    IsNumber (value_of (codes "depth") rows) limits.depth
    × IsNumber (value_of (codes "octets") rows) limits.octets
    × IsLimits limits

abbrev pub ReadsNamedKind : Action → List Row → Kind → Type 0
ReadsNamedKind action rows kind = (kind_named (value_of (codes "kind") rows) ≡ Some kind) × TakesKind action kind

-- A kind is named, or is to be found.
abbrev pub ReadsKind : Action → List Row → Option Kind → Type 0
ReadsKind action rows (Some kind) = (is_given (codes "any") rows ≡ false) × ReadsNamedKind action rows kind
ReadsKind action rows None = (is_given (codes "any") rows ≡ true) × (first_of (codes "kind") rows ≡ None)

-- the command of this name with these values of its options does the task
abbrev pub MeansTask : Text → List Row → Task → Type 0
MeansTask name rows task =
    (name ≡ command_name task.action) × ReadsAction task.action rows × ReadsKind task.action rows task.kind
    × ReadsLimits rows task.limits

-- the names of files, in their order
abbrev pub names_of : List Row → List Text
names_of rows = unwrap_or (all_of (codes "file") rows) []

abbrev pub ReadsNames : List Row → Order → Type 0
ReadsNames rows order =
    (map (λ name. name.now) order.names.items ≡ names_of rows)
    × (option_map (λ name. name.now) order.list ≡ first_of (codes "files0-from") rows)
    × (option_map (λ name. name.now) order.to ≡ first_of (codes "to") rows)
    × (order.sums ≡ is_given (codes "sum") rows)
    × (order.each ≡ is_given (codes "each") rows)

abbrev pub is_dash : Text → Bool
is_dash name = bytes_eq name (codes "-")

-- one of the names is a dash, and before it another one, or there was one `already`
abbrev pub has_second_dash : Bool → List Text → Bool
has_second_dash already [] = false
has_second_dash already (name ∷ names) =
    if is_dash name then already || has_second_dash true names else has_second_dash already names

-- standard input is to be read twice
abbrev pub is_input_twice : List Row → Bool
is_input_twice rows = has_second_dash (is_dash (value_of (codes "files0-from") rows)) (names_of rows)

-- documents one behind another are to be those of a list
abbrev pub is_each_of_list : List Row → Bool
is_each_of_list rows = is_given (codes "each") rows && is_some (first_of (codes "files0-from") rows)

abbrev pub Means : Text → List Row → Order → Type 0
Means name rows order =
    MeansTask name rows order.task × ReadsNames rows order × (is_input_twice rows ≡ false)
    × (is_each_of_list rows ≡ false)

-- ---- two documents that are compared

-- a kind of private keys
abbrev pub key_kind : Option Kind → Option Kind
key_kind (Some kind) = if is_key kind then Some kind else None
key_kind None = None

-- a kind, where private keys are asked for one of theirs
abbrev pub taken_kind : Bool → Text → Option Kind
taken_kind key text = if key then key_kind (kind_named text) else kind_named text

-- A second kind stands with private keys alone, and no third one.
abbrev pub other_taken : Bool → Text → List Text → Option Kind
other_taken true text [] = taken_kind true text
other_taken _ text others = None

abbrev pub both_kinds : Option Kind → Option Kind → Option (Kind × Kind)
both_kinds (Some kind) (Some other) = Some (kind, other)
both_kinds _ _ = None

-- the kinds of both documents; one that is given alone is that of both
abbrev pub kinds_of : Bool → List Text → Option (Kind × Kind)
kinds_of key [] = both_kinds (taken_kind key []) (taken_kind key [])
kinds_of key (text ∷ []) = both_kinds (taken_kind key text) (taken_kind key text)
kinds_of key (text ∷ other ∷ others) = both_kinds (taken_kind key text) (other_taken key other others)

abbrev pub kinds_given : List Row → List Text
kinds_given rows = unwrap_or (all_of (codes "kind") rows) []

abbrev pub is_of_keys : List Row → Bool
is_of_keys rows = is_given (codes "key") rows

-- of keys in lines alone
abbrev pub question_by : Bool → Bool → Option Question
question_by true true = None
question_by true false = Some Key
question_by false true = Some (Document Json)
question_by false false = Some (Document TextForm)

abbrev pub question_of : List Row → Option Question
question_of rows = question_by (is_of_keys rows) (is_given (codes "json") rows)

-- both are to be standard input
abbrev pub is_input_both : List Row → Bool
is_input_both rows = is_dash (value_of (codes "first") rows) && is_dash (value_of (codes "second") rows)

abbrev pub ReadsComparison : List Row → Comparison → Type 0
ReadsComparison rows comparison =
    ReadsLimits rows comparison.limits
    × (question_of rows ≡ Some comparison.question)
    × (kinds_of (is_of_keys rows) (kinds_given rows) ≡ Some (comparison.kind, comparison.other_kind))

abbrev pub ReadsPair : List Row → Pair → Type 0
ReadsPair rows pair =
    ReadsComparison rows pair.comparison
    × (pair.first.now ≡ value_of (codes "first") rows)
    × (pair.second.now ≡ value_of (codes "second") rows)
    × (is_input_both rows ≡ false)

abbrev pub is_same : Text → Bool
is_same name = bytes_eq name (codes "same")

-- ---- what a command asks for

abbrev pub MeansInvocation : Text → List Row → Invocation → Type 0
MeansInvocation name rows (Each order) = Means name rows order
MeansInvocation name rows (Both pair) = (is_same name ≡ true) × ReadsPair rows pair

-- So does the subcommand that was met.
abbrev pub MeansBy : Option (Text × List Row) → Invocation → Type 0
MeansBy None invocation = ⊥
MeansBy (Some met) invocation = MeansInvocation met.0 met.1 invocation

-- ---- control characters, which are shown as escapes

abbrev pub has_control : Text → Bool
has_control word = list_any is_control (chars word)

-- one line of printable ASCII
abbrev pub IsPlainLine : Text → Type 0
IsPlainLine text = (line : Text) × (text ≡ line ++ line_feed) × IsPrintable line

-- a word in quotes, after a blank
abbrev pub quoted_word : Text → Text
quoted_word word = codes " " ++ quoted word

-- what is shown of words of which some have control characters: those that do
abbrev pub controls_line : List Text → Text
controls_line words =
    codes "error: a word has control characters:" ++ (flat_map quoted_word (filter has_control words) ++ line_feed)

-- a value as it is shown
abbrev pub shown : Text → Text
shown value = if has_control value then escaped value else value

-- ---- what to type in the place of a word

abbrev pub advice_for_command : Text → Option Text
advice_for_command word =
    if bytes_eq word (codes "verify") then
    Some (codes "no signature is verified; 'signed' writes what it covers")
    else (if bytes_eq word (codes "diff") || bytes_eq word (codes "compare") then
    Some (codes "pkder same --kind key FILE OTHER")
    else (if bytes_eq word (codes "version") then Some (codes "pkder --version") else None))

abbrev pub advice_for_option : Text → Option Text
advice_for_option word =
    if bytes_eq word (codes "-in") || (bytes_eq word (codes "--in") || bytes_eq word (codes "--infile")) then
    Some (codes "files are named without an option: pkder check --kind key FILE")
    else (if bytes_eq word (codes "-inform") || (bytes_eq word (codes "-outform") || bytes_eq word (codes "--inform"))
    then Some (codes "BER and DER are read alike, and DER is written, with no option")
    else (if bytes_eq word (codes "-out") || (bytes_eq word (codes "-o") || bytes_eq word (codes "--output")) then
    Some (codes "normalise and signed have --to NEW-FILE")
    else (if bytes_eq word (codes "-v") then Some (codes "pkder --version") else None)))

abbrev pub advice_for_kind : Text → Text
advice_for_kind value =
    if bytes_eq value (codes "pem") || bytes_eq value (codes "PEM") then
    codes "PEM is not read: decode its base64; the kind is what its BEGIN line says"
    else (if bytes_eq value (codes "private") then codes "key, or ec for BEGIN EC PRIVATE KEY" else [])

abbrev pub tip : Text → Text
tip [] = []
tip (x ∷ xs) = codes "  tip: " ++ (x ∷ xs) ++ line_feed ++ line_feed

abbrev pub more : Text
more = codes "For more information, try '--help'." ++ line_feed

abbrev pub advised_line : Text → Text → Text
advised_line word advice =
    codes "error: '" ++ word ++ (codes "' is not taken" ++ line_feed ++ line_feed) ++ tip advice ++ more

-- of the word where a command should stand
abbrev pub command_advised : List Text → Option Text
command_advised (name ∷ word ∷ words) = option_map (advised_line word) (advice_for_command word)
command_advised _ = None

-- of the first word that is an option of another program
abbrev pub option_advised : List Text → Option Text
option_advised [] = None
option_advised (word ∷ words) =
    option_or (option_map (advised_line word) (advice_for_option word)) (option_advised words)

abbrev pub no_kind_line : Text
no_kind_line =
    codes "error: no kind is named: --kind is " ++ WORDS.now ++ (line_feed ++ line_feed)
    ++ tip (codes "pkder check --kind key FILE") ++ more

-- the command is `same`, which clap says more of
abbrev pub are_of_same : List Text → Bool
are_of_same (name ∷ word ∷ words) = is_same word
are_of_same _ = false

abbrev pub missing_line : ErrorKind → List Text → Option Text
missing_line errors.MissingRequiredArgument words = if are_of_same words then None else Some no_kind_line
missing_line _ words = None

-- what is shown of words that clap refuses by an error of this kind, where it isn't clap's own text
abbrev pub refusal_line : ErrorKind → List Text → Option Text
refusal_line kind words =
    if list_any has_control words then Some (controls_line words)
    else option_or (command_advised words) (option_or (option_advised words) (missing_line kind words))

abbrev pub ShowsOwn : ErrorKind → List Text → Text → Type 0
ShowsOwn kind words line = IfSome (refusal_line kind words) (λ due. line ≡ due)

-- ---- what is shown of a value that its option doesn't have

abbrev pub Names : BadValue → Text → Text → Text → Type 0
Names bad option value wanted = (bad.option.now ≡ option) × (bad.value.now ≡ value) × (bad.wanted.now ≡ wanted)

abbrev pub IsNoNumber : Text → ℕ → Type 0
IsNoNumber text most = (n : ℕ) → IsNumber text n → 1 ≤ n → n ≤ most → ⊥

abbrev pub IsDepth : Text → Type 0
IsDepth text = (n : ℕ) × IsNumber text n × (1 ≤ n) × (n ≤ 64)

abbrev pub BadDepth : List Row → BadValue → Type 0
BadDepth rows bad =
    Names bad (codes "--depth <N>") (value_of (codes "depth") rows) (codes "a number from 1 to 64")
    × IsNoNumber (value_of (codes "depth") rows) 64
    × (bad.advice.now ≡ [])

abbrev pub BadOctets : List Row → BadValue → Type 0
BadOctets rows bad =
    Names bad (codes "--octets <N>") (value_of (codes "octets") rows) (codes "a number from 1 to 2147483647")
    × IsNoNumber (value_of (codes "octets") rows) 2147483647
    × (bad.advice.now ≡ [])

-- Of two bad limits the depth is shown.
abbrev pub BadLimit : List Row → BadValue → Type 0
BadLimit rows bad = BadDepth rows bad ⊎ (IsDepth (value_of (codes "depth") rows) × BadOctets rows bad)

-- the option of a kind; nothing where no kind is named
abbrev pub kind_option : Text → Text
kind_option text = if length text == 0 then [] else codes "--kind <KIND>"

abbrev pub BadKind : List Row → BadValue → Type 0
BadKind rows bad =
    Names bad (kind_option (value_of (codes "kind") rows)) (value_of (codes "kind") rows) WORDS.now
    × (kind_named (value_of (codes "kind") rows) ≡ None)
    × (bad.advice.now ≡ advice_for_kind (value_of (codes "kind") rows))

-- a kind that isn't `request`, of a command that reads requests alone
abbrev pub BadRequest : List Row → BadValue → Type 0
BadRequest rows bad =
    Names bad (codes "--kind <KIND>") (value_of (codes "kind") rows) (word_of kinds.Request)
    × (kind_named (value_of (codes "kind") rows) ≡ Some kinds.Request → ⊥)
    × (bad.advice.now ≡ [])

abbrev pub BadPart : List Row → BadValue → Type 0
BadPart rows bad =
    Names bad (codes "--part <PART>") (value_of (codes "part") rows)
    (codes "info, algorithm, key, signature or received")
    × ((part : RequestPart) → value_of (codes "part") rows ≡ part_name part → ⊥)
    × (bad.advice.now ≡ [])

abbrev pub BadCommand : Text → BadValue → Type 0
BadCommand name bad =
    Names bad (codes "COMMAND") name (codes "check, explain, show, same, normalise or signed")
    × ((action : Action) → name ≡ command_name action → ⊥)
    × (bad.advice.now ≡ [])

abbrev pub BadPlaces : List Row → BadValue → Type 0
BadPlaces rows bad =
    Names bad (codes "--places <N>") (value_of (codes "places") rows) (codes "a number from 1 to 2147483647")
    × IsNoNumber (value_of (codes "places") rows) 2147483647
    × (bad.advice.now ≡ [])

abbrev pub BadRefuse : List Row → BadValue → Type 0
BadRefuse rows bad =
    Names bad (codes "--refuse <LEVEL>") (value_of (codes "refuse") rows) (codes "must or tls")
    × (refuse_by (first_of (codes "refuse") rows) ≡ None)
    × (bad.advice.now ≡ [])

abbrev pub BadProfile : List Row → BadValue → Type 0
BadProfile rows bad =
    Names bad (codes "--profile <PROFILE>") (value_of (codes "profile") rows) (codes "tls")
    × (profile_by (first_of (codes "profile") rows) ≡ None)
    × (bad.advice.now ≡ [])

-- these commands say places, and notes
abbrev pub ShowsPlaces : Text → Type 0
ShowsPlaces name = (name ≡ codes "check") ⊎ (name ≡ codes "explain")

-- what is wrong with the command of this name, with the part that `signed` is to write, with the number of places, with
-- the notes that `check` is to refuse, or with the profile
abbrev pub BadAction : Text → List Row → BadValue → Type 0
BadAction name rows bad =
    ((name ≡ codes "signed") × BadPart rows bad) ⊎ (ShowsPlaces name × BadPlaces rows bad)
    ⊎ ((name ≡ codes "check") × BadRefuse rows bad) ⊎ (ShowsPlaces name × BadProfile rows bad) ⊎ BadCommand name bad

-- a kind that the action doesn't take
abbrev pub BadNamedKind : Action → List Row → BadValue → Type 0
BadNamedKind (Signed part) rows bad = BadRequest rows bad
BadNamedKind _ rows bad = BadKind rows bad

-- a kind that is named and to be found
abbrev pub BadAny : List Row → BadValue → Type 0
BadAny rows bad =
    Names bad (codes "--any") (codes "--kind") (codes "one of the two")
    × (first_of (codes "kind") rows ≡ None → ⊥)
    × (bad.advice.now ≡ [])

abbrev pub BadKindOf : Action → List Row → BadValue → Type 0
BadKindOf action rows bad =
    ((is_given (codes "any") rows ≡ true) × BadAny rows bad)
    ⊎ ((is_given (codes "any") rows ≡ false) × BadNamedKind action rows bad)

abbrev pub DoesAction : Text → List Row → Action → Type 0
DoesAction name rows action = (name ≡ command_name action) × ReadsAction action rows

-- Why the command of this name has no task with these values of its options: a limit that is bad is shown before
-- others, and the kind after them.
abbrev pub BadTask : Text → List Row → BadValue → Type 0
BadTask name rows bad =
    BadLimit rows bad
    ⊎ (((limits : Limits) × ReadsLimits rows limits)
    × (BadAction name rows bad ⊎ ((action : Action) × DoesAction name rows action × BadKindOf action rows bad)))

abbrev pub BadInput : List Row → BadValue → Type 0
BadInput rows bad =
    Names bad (codes "FILE") (codes "-") (codes "standard input at most once")
    × (is_input_twice rows ≡ true)
    × (bad.advice.now ≡ [])

abbrev pub BadEach : List Row → BadValue → Type 0
BadEach rows bad =
    Names bad (codes "--each") (codes "--files0-from") (codes "one of the two")
    × (is_each_of_list rows ≡ true)
    × (bad.advice.now ≡ codes "xargs -0 pkder check --any --each < FILE")

-- Why that command orders nothing: it has no task, or is to read standard input twice, or documents one behind another
-- of a list.
abbrev pub BadOrder : Text → List Row → BadValue → Type 0
BadOrder name rows bad =
    BadTask name rows bad
    ⊎ (((task : Task) × MeansTask name rows task)
    × (BadInput rows bad ⊎ ((is_input_twice rows ≡ false) × BadEach rows bad)))

abbrev pub wanted_kinds : Bool → Text
wanted_kinds true = KEY_WORDS.now
wanted_kinds false = WORDS.now

-- a kind that isn't taken of documents, or of private keys
abbrev pub BadTaken : Bool → Text → BadValue → Type 0
BadTaken key text bad =
    Names bad (codes "--kind <KIND>") text (wanted_kinds key)
    × (taken_kind key text ≡ None)
    × (bad.advice.now ≡ (if key then [] else advice_for_kind text))

-- a second kind of documents, or a third one of private keys
abbrev pub NeedlessKind : Text → BadValue → Type 0
NeedlessKind text bad =
    Names bad (codes "--kind <KIND>") text (codes "one kind, or two with --key") × (bad.advice.now ≡ [])

abbrev pub BadOther : Bool → Text → List Text → BadValue → Type 0
BadOther true text [] bad = BadTaken true text bad
BadOther _ text others bad = NeedlessKind text bad

abbrev pub BadKinds : Bool → List Text → BadValue → Type 0
BadKinds key [] bad = BadTaken key [] bad
BadKinds key (text ∷ []) bad = BadTaken key text bad
BadKinds key (text ∷ other ∷ others) bad =
    BadTaken key text bad ⊎ (((kind : Kind) × (taken_kind key text ≡ Some kind)) × BadOther key other others bad)

-- JSON of private keys
abbrev pub BadQuestion : List Row → BadValue → Type 0
BadQuestion rows bad =
    Names bad (codes "same --key") (codes "--json") (codes "an answer in lines")
    × (question_of rows ≡ None)
    × (bad.advice.now ≡ [])

-- Why two documents aren't compared: a limit is shown first, then the question, and then the kinds.
abbrev pub BadComparison : List Row → BadValue → Type 0
BadComparison rows bad =
    BadLimit rows bad
    ⊎ (((limits : Limits) × ReadsLimits rows limits)
    × (BadQuestion rows bad
    ⊎ (((question : Question) × (question_of rows ≡ Some question))
    × BadKinds (is_of_keys rows) (kinds_given rows) bad)))

abbrev pub BadBoth : List Row → BadValue → Type 0
BadBoth rows bad =
    Names bad (codes "FILE") (codes "-") (codes "standard input at most once")
    × (is_input_both rows ≡ true)
    × (bad.advice.now ≡ [])

abbrev pub BadPair : List Row → BadValue → Type 0
BadPair rows bad =
    BadComparison rows bad
    ⊎ (((comparison : Comparison) × ReadsComparison rows comparison) × BadBoth rows bad)

-- why that command asks for nothing that can be done
abbrev pub BadInvocation : Text → List Row → BadValue → Type 0
BadInvocation name rows bad =
    ((is_same name ≡ false) × BadOrder name rows bad) ⊎ ((is_same name ≡ true) × BadPair rows bad)

abbrev pub invalid_value_line : BadValue → Text
invalid_value_line bad =
    codes "error: invalid value '" ++ shown bad.value.now ++ codes "' for '" ++ bad.option.now ++ codes "': "
    ++ bad.wanted.now
    ++ (codes " is wanted" ++ line_feed ++ line_feed) ++ tip bad.advice.now ++ more

-- of no option, that no kind is named
abbrev pub bad_value_line : BadValue → Text
bad_value_line bad = if length bad.option.now == 0 then no_kind_line else invalid_value_line bad

-- why the subcommand that was met means no task
abbrev pub ShowsWhy : Option (Text × List Row) → Text → Type 0
ShowsWhy None line = line ≡ codes "error: a command is wanted" ++ line_feed
ShowsWhy (Some met) line = (bad : BadValue) × BadInvocation met.0 met.1 bad × (line ≡ bad_value_line bad)

-- ---- what a line asks for

-- No task is meant, and the text says why; or memory ran out.
abbrev pub MeansNothing : Option (Text × List Row) → LineFault → Type 0
MeansNothing met (faults.Line text) =
    ((invocation : Invocation) → MeansBy met invocation → ⊥) × ShowsWhy met (string_bytes text)
MeansNothing met (faults.Help text) = ⊥
MeansNothing met faults.Memory = Unit {0}

-- `help reasons`, which clap knows nothing of
abbrev pub asks_reasons : List Text → Bool
asks_reasons (name ∷ help ∷ topic ∷ []) = bytes_eq help (codes "help") && bytes_eq topic (codes "reasons")
asks_reasons _ = false

-- The words ask for it: clap takes them, and the subcommand that they name means it.
abbrev pub Invokes : List Text → Invocation → Type 0
Invokes words invocation =
    (asks_reasons words ≡ false) × (fault_of program words ≡ []) × MeansBy (subcommand_of program words) invocation

-- an error of clap's that is neither help nor the version nor refused memory
abbrev pub IsRefusal : ErrorKind → Type 0
IsRefusal kind = (kind ≡ errors.OutOfMemory → ⊥) × (kind ≡ errors.DisplayHelp → ⊥) × (kind ≡ errors.DisplayVersion → ⊥)

-- Clap refuses the words, and the line says it, without a control character of theirs.
abbrev pub ShowsRefusal : List Text → Text → Type 0
ShowsRefusal words line =
    (kind : ErrorKind) × IsAmong kind (fault_of program words) × IsRefusal kind
    × ShowsOwn kind words line
    × (list_any has_control words ≡ true → IsPlainLine line)

-- Why words are refused: clap refuses them; or it takes them, and a value isn't one of its option.
abbrev pub ShowsFault : List Text → Text → Type 0
ShowsFault words line =
    ShowsRefusal words line ⊎ ((fault_of program words ≡ []) × ShowsWhy (subcommand_of program words) line)

-- Why words ask for nothing that can be done: they ask for no task and are refused, or they ask
-- for help or the version.
abbrev pub InvokesNothing : List Text → LineFault → Type 0
InvokesNothing words (faults.Line text) =
    (asks_reasons words ≡ false)
    × ((invocation : Invocation) → Invokes words invocation → ⊥)
    × ShowsFault words (string_bytes text)
InvokesNothing words (faults.Help text) =
    (asks_reasons words ≡ true)
    ⊎ (IsAmong errors.DisplayHelp (fault_of program words) ⊎ IsAmong errors.DisplayVersion (fault_of program words))
InvokesNothing words faults.Memory = Unit {0}

-- what is answered by the kind of clap's error
abbrev pub IsFaultOf : ErrorKind → List Text → LineFault → Type 0
IsFaultOf kind words (faults.Line text) = IsRefusal kind × ShowsOwn kind words (string_bytes text)
IsFaultOf kind words (faults.Help text) = (kind ≡ errors.DisplayHelp) ⊎ (kind ≡ errors.DisplayVersion)
IsFaultOf kind words faults.Memory = kind ≡ errors.OutOfMemory

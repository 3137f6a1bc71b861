-- What readers of values read, by the plain reading at their point.
use Rattle.std.specs.Prelude.{Bool, List, MatchResult, Result, [], false, length, true, ℕ, ◌<◌, ◌∷◌, ◌≡◌, ◌⊎◌}
use Rattle.std.specs.Str.{is_utf8}
use Rattle.tlv_core.specs.Identifier.{Tag}
use Rattle.tlv_core.specs.declared.fault.ReadError.{ReadError}
use Rattle.tlv_core.specs.declared.source.Source.{Ghosts}
use Rattle.x690.specs.Contents as kinds
use Rattle.x690.specs.Contents.{LeafKind}
use Rattle.x690.specs.ReadContents.{all_members, is_integer_contents, is_object_identifier, read_leaf}
use Rattle.x690.specs.ReadHeaders.{Ended}
use Rattle.x690.specs.ReadTypes.{read_type}
use Rattle.x690.specs.Lists.{Each}
use Rattle.x690.specs.Reading.{Reading}
use Rattle.x690.specs.Reads.{Said}
use Rattle.x690.specs.TypeTerms.{TypeTerm}
use Rattle.x690.specs.Values.{Same, Value}
use Rattle.ber_pull.specs.Hears.{heard_error}
use Rattle.ber_pull.specs.Standing.{Standing, enclosing}
use Rattle.ber_pull.specs.View.{Answers}
use Rattle.ber_pull.specs.declared.pull.Pull.{Pull}
use Rattle.ber_pull.specs.declared.state.Given.{Given}
use Rattle.asn_elements.specs.BitStrings.{IsDerBits}
use Rattle.asn_elements.specs.declared.leaf_reading.SimpleType.{SimpleType}
use Rattle.asn_elements.specs.declared.leaf_reading.SimpleType.TheVariants as coded

-- the element that is given, as the type
abbrev pub read_given : TypeTerm → Standing → Given → Reading Value
read_given type s g = read_type s.limits type [] (enclosing s) g.at g.tag g.constructed

-- the leaf that is given, of the kind, as one of this tag
abbrev pub read_given_leaf : LeafKind → Tag → Standing → Given → Reading Value
read_given_leaf kind own s g = read_leaf s.limits (enclosing s) kind g.at own g.constructed

abbrev pub kind_of : SimpleType → LeafKind
kind_of coded.Boolean = kinds.Boolean
kind_of coded.Integer = kinds.Integer
kind_of coded.Null = kinds.Null
kind_of coded.ObjectIdentifier = kinds.ObjectIdentifier
kind_of coded.BitString = kinds.BitString
kind_of coded.OctetString = kinds.OctetString
kind_of coded.Utf8String = kinds.Utf8String

-- strings, which are UTF-8 or any octets
abbrev pub string_kind : Bool → LeafKind
string_kind true = kinds.Utf8String
string_kind false = kinds.OctetString

-- what is known of a leaf's contents, whoever told them
abbrev pub HasContents : SimpleType → List ℕ → Type 0
HasContents coded.Boolean contents = (contents ≡ 0 ∷ []) ⊎ (contents ≡ 255 ∷ [])
HasContents coded.Integer contents = is_integer_contents contents ≡ true
HasContents coded.Null contents = contents ≡ []
HasContents coded.ObjectIdentifier contents = is_object_identifier contents ≡ true
HasContents coded.BitString contents = (0 < length contents) × IsDerBits contents
HasContents coded.OctetString contents = Unit {0}
HasContents coded.Utf8String contents = is_utf8 contents ≡ true

-- the members, and the place where their container ends
abbrev pub ended : List Value → ℕ → Ended (List Value)
ended values at = record { all = values; at = at }

-- the members of the container that is given, each as the type
abbrev pub read_given_members : TypeTerm → Standing → Given → Reading (Ended (List Value))
read_given_members type s g = all_members s.limits (enclosing s) g.at g.constructed (read_type s.limits type [])

-- What a reader answered is what the reading gives, up to the order of what stands in a SET OF: a value that
-- is the same, or that error.
abbrev pub AnswersValue : {R : Type 0} {s : Ghosts R} {A : Type 0} → Pull R s → Pull R s → Reading Value → (A → Value)
    → Result A ReadError → Type 0
AnswersValue old new p value result =
    MatchResult result (λ x. (v : Value) × Same v (value x) × Answers old new p (Said v))
    (λ e. Answers old new p (heard_error e))

-- the same of members and the place where their container ends
abbrev pub AnswersMembers : {R : Type 0} {s : Ghosts R} {A : Type 0} → Pull R s → Pull R s
    → Reading (Ended (List Value)) → (A → List Value) → (A → ℕ) → Result A ReadError → Type 0
AnswersMembers old new p values at result =
    MatchResult result (λ x. (vs : List Value) × Each Same vs (values x) × Answers old new p (Said (ended vs (at x))))
    (λ e. Answers old new p (heard_error e))

-- What readers of open values append, by the plain reading at their point.
use Rattle.std.specs.Prelude.{Bool, IfSome, List, MatchResult, Result, false, length, true, ℕ, ◌++◌, ◌≡◌}
use Rattle.tlv_core.specs.Identifier.{Tag}
use Rattle.tlv_core.specs.declared.fault.ReadError.{ReadError}
use Rattle.tlv_core.specs.declared.source.Source.{Ghosts}
use Rattle.x690.specs.DerTexts.{der, texts_of}
use Rattle.x690.specs.OpenValues as forms
use Rattle.x690.specs.ReadContents.{all_members, read_open}
use Rattle.x690.specs.ReadHeaders.{Ended}
use Rattle.x690.specs.Reading.{Done, Reading, ◌>>=◌}
use Rattle.x690.specs.Reads.{Said}
use Rattle.x690.specs.Values.{Leaf, Sequence, SetOf, Value, Values, values_of}
use Rattle.ber_pull.specs.Calls.{read_primitive}
use Rattle.ber_pull.specs.Hears.{heard_error}
use Rattle.ber_pull.specs.Standing.{IsGiven, Standing, enclosing}
use Rattle.ber_pull.specs.View.{Answers}
use Rattle.ber_pull.specs.declared.pull.Pull.{Pull}
use Rattle.ber_pull.specs.declared.state.Given.{Given}
use Rattle.asn_elements.specs.Members.{starts_from}
use Rattle.asn_elements.specs.Reading.{ended, kind_of, read_given_leaf}
use Rattle.asn_open_values.specs.declared.open_form.OpenForm.{OpenForm}
use Rattle.asn_open_values.specs.declared.open_form.OpenForm.TheVariants as coded

abbrev pub form_of : OpenForm → forms.OpenForm
form_of (coded.Leaf kind) = forms.OpenLeaf (kind_of kind)
form_of coded.Sequence = forms.OpenSequence
form_of coded.SetOf = forms.OpenSetOf
form_of coded.Plain = forms.OpenPlain
form_of coded.Refused = forms.OpenRefused

-- an identifier of this tag and form is given
abbrev pub IsNext : Tag → Bool → Standing → Type 0
IsNext tag constructed s = IsGiven tag s × IfSome s.given (λ g. (g.tag ≡ tag) × (g.constructed ≡ constructed))

-- the octets of the primitive element that is given, as they are
abbrev pub read_given_octets : Tag → Standing → Given → Reading Value
read_given_octets own s g = read_primitive s g >>= λ contents. Done (Leaf own contents)

-- the element that is given, as a leaf of this tag: by its kind where the form has one, else its octets as they are
abbrev pub read_given_contents : OpenForm → Tag → Standing → Given → Reading Value
read_given_contents (coded.Leaf kind) own s g = read_given_leaf (kind_of kind) own s g
read_given_contents coded.Sequence own s g = read_given_octets own s g
read_given_contents coded.SetOf own s g = read_given_octets own s g
read_given_contents coded.Plain own s g = read_given_octets own s g
read_given_contents coded.Refused own s g = read_given_octets own s g

-- a SET OF, or a sequence
abbrev pub container : Bool → Tag → Values → Value
container true tag values = SetOf tag values
container false tag values = Sequence tag values

-- the members of the container that is given, each as an open value at most `deep` deep
abbrev pub read_given_open_members : ℕ → Standing → Given → Reading (Ended (List Value))
read_given_open_members deep s g =
    all_members s.limits (enclosing s) g.at g.constructed (λ inside. read_open deep s.limits inside)

-- the container itself, as one of this tag
abbrev pub read_given_container : ℕ → Bool → Tag → Standing → Given → Reading Value
read_given_container deep is_set own s g =
    read_given_open_members deep s g >>= λ ended. Done (container is_set own (values_of ended.all))

-- the open value that is given, at most `deep` deep
abbrev pub read_given_open : ℕ → Standing → Given → Reading Value
read_given_open deep s g = read_open deep s.limits (enclosing s) g.at g.tag g.constructed

-- The text of the value that the reading gives was put after what stood there, or the error is what it gives.
abbrev pub AnswersText : {R : Type 0} {s : Ghosts R} → Pull R s → Pull R s → Reading Value → List ℕ → List ℕ
    → Result (Unit {0}) ReadError → Type 0
AnswersText old new p before after result =
    MatchResult result (λ _. (v : Value) × (after ≡ before ++ der v) × Answers old new p (Said v))
    (λ e. Answers old new p (heard_error e))

-- The texts of the values stand after what stood there, and in a SET it is told where each begins.
abbrev pub StandBehind : Bool → List Value → List ℕ → List ℕ → List ℕ → Type 0
StandBehind is_set values before after starts =
    (after ≡ before ++ texts_of values) × (is_set ≡ true → starts ≡ starts_from (length before) values)

-- The texts of the members that the reading gives were put after what stood there, or the error is what it gives.
abbrev pub AnswersTexts : {R : Type 0} {s : Ghosts R} → Pull R s → Pull R s → Reading (Ended (List Value)) → Bool
    → List ℕ → List ℕ → List ℕ → Result (Unit {0}) ReadError → Type 0
AnswersTexts old new p is_set before after starts result =
    MatchResult result
    (λ _.
    (values : List Value) × (place : ℕ) × StandBehind is_set values before after starts
    × Answers old new p (Said (ended values place)))
    (λ e. Answers old new p (heard_error e))

-- What an OCTET STRING contains, read as a document of its own.
use Rattle.std.specs.Prelude.{Bool, List, MatchResult, None, Result, Some, ℕ, ◌≡◌}
use Rattle.tlv_core.specs.Identifier.{Tag}
use Rattle.tlv_core.specs.Limits.{Limits}
use Rattle.tlv_core.specs.declared.fault.ReadError.{ReadError}
use Rattle.tlv_core.specs.declared.reason.Reason.TheVariants.{WrongTag}
use Rattle.tlv_core.specs.declared.source.Source.{Ghosts}
use Rattle.x690.specs.Contents.{OctetString}
use Rattle.x690.specs.Layouts.{same_tag}
use Rattle.x690.specs.Points.{Enclosing, fault}
use Rattle.x690.specs.ReadContents.{read_leaf}
use Rattle.x690.specs.Reading.{Reading, require, ◌>>=◌}
use Rattle.x690.specs.TypeTerms.{TypeTerm}
use Rattle.x690.specs.Values.{Value, leaf_contents}
use Rattle.ber_pull.specs.Standing.{Standing, enclosing}
use Rattle.ber_pull.specs.declared.pull.Pull.{Pull}
use Rattle.ber_pull.specs.declared.state.Given.{Given}
use Rattle.asn_elements.specs.Reading.{AnswersValue}
use Rattle.asn_elements.specs.Whole.{HaltsInside, IsValueInside, read_inside}

-- the value that an OCTET STRING of this tag contains, whose identifier is taken
abbrev pub read_contained : Limits → Tag → TypeTerm → List Value → Enclosing → ℕ → Tag → Bool → Reading Value
read_contained limits own type earlier enclosing place tag constructed =
    require (same_tag own tag) (fault place WrongTag)
    (read_leaf limits enclosing OctetString place own constructed
    >>= λ value. read_inside limits type earlier place (leaf_contents value))

abbrev pub read_given_contained : Tag → TypeTerm → List Value → Standing → Given → Reading Value
read_given_contained own type earlier s g =
    read_contained s.limits own type earlier (enclosing s) g.at g.tag g.constructed

-- What a reader answered of the OCTET STRING of this tag that is given is the value that it contains, whatever the
-- earlier fields of the container.
abbrev pub AnswersContained : {R A : Type 0} {s : Ghosts R} → Pull R s → Pull R s → Tag → TypeTerm → (A → Value)
    → Result A ReadError → Type 0
AnswersContained old new own type value result =
    (earlier : List Value) (g : Given) → old.state.error ≡ None → old.state.given ≡ Some g
    → AnswersValue old new (read_given_contained own type earlier old.state g) value result

-- what octets came to that were read as a document of their own
abbrev pub CameInside : {A : Type 0} → Limits → TypeTerm → List ℕ → (A → Value) → Result A ReadError → Type 0
CameInside limits type octets value read =
    MatchResult read (λ x. IsValueInside limits type octets (value x)) (HaltsInside limits type octets)

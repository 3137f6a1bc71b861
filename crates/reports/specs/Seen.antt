-- What a report shows of the cause of a fault, where its reason alone doesn't say it.
use Rattle.std.specs.Prelude.{Bool, List, None, Option, Some, [], codes, cond, drop, false, is_some, length, nat_lt, not, slice_get, ℕ, ◌&&◌, ◌-◌, ◌==◌, ◌||◌, ◌∷◌}
use Rattle.std.specs.Str.{bytes_eq}
use Rattle.asn_names.specs.declared.element.Step.{Step}
use Rattle.tlv_core.specs.declared.fault.Fault.{Fault}
use Rattle.tlv_core.specs.declared.reason.Reason.{Reason}
use Rattle.tlv_core.specs.declared.reason.Reason.TheVariants as reasons
use Rattle.reports.specs.Asks.{from_field, is_step}
use Rattle.reports.specs.declared.report.After.{After}
use Rattle.reports.specs.declared.report.After.TheVariants as afters
use Rattle.reports.specs.declared.report.Diagnosis.{Diagnosis}
use Rattle.reports.specs.declared.report.Found.{Found}
use Rattle.reports.specs.declared.report.Line.{Line}
use Rattle.reports.specs.declared.report.Report.{Report}
use Rattle.reports.specs.declared.report.Value.{Value}
use Rattle.reports.specs.declared.report.Value.TheVariants as values
use Rattle.reports.specs.declared.seen.Seen.{Seen}
use Rattle.reports.specs.declared.seen.Seen.TheVariants as seen

-- of an algorithm that has no parameters: those that stand after it
abbrev pub beside_value : Value → Seen
beside_value values.Null = seen.NullParameters
beside_value value = seen.Parameters

abbrev pub beside : List Line → Seen
beside [] = seen.Parameters
beside (line ∷ lines) = beside_value line.value

-- of id-ecPublicKey: what stands in the place of a curve's name; what isn't listed has more than two octets
abbrev pub curve_value : Value → Seen
curve_value values.Null = seen.NoCurve
curve_value value = seen.Nothing

abbrev pub curve_between : Option ℕ → Option ℕ → Seen
curve_between (Some begin) (Some end) = cond (nat_lt 2 (end - begin)) seen.WrittenOut seen.NoCurve
curve_between (Some begin) None = seen.Nothing
curve_between None end = seen.Nothing

abbrev pub curve : Option ℕ → Option ℕ → List Line → Seen
curve begin end [] = curve_between begin end
curve begin end (line ∷ lines) = curve_value line.value

-- of an AlgorithmIdentifier that ends there, by its algorithm and the lines after that
abbrev pub by_name : List ℕ → Option ℕ → Line → List Line → Seen
by_name name end algorithm lines =
    cond (bytes_eq name (codes "id-ecPublicKey")) (curve algorithm.end end lines) (beside lines)

abbrev pub by_algorithm : Option ℕ → Line → List Line → Value → Seen
by_algorithm end algorithm lines (values.Named identifier) = by_name identifier.now.name.now end algorithm lines
by_algorithm end algorithm lines value = seen.Nothing

-- of the lines from an AlgorithmIdentifier's on
abbrev pub parameters_of : List Line → Seen
parameters_of [] = seen.Nothing
parameters_of (line ∷ []) = seen.Nothing
parameters_of (line ∷ algorithm ∷ lines) = by_algorithm line.end algorithm lines algorithm.value

abbrev pub parameters_at : List Line → Option ℕ → Seen
parameters_at lines None = seen.Nothing
parameters_at lines (Some number) = parameters_of (drop number lines)

-- the field before privateKey, by the kind
abbrev pub before_key : List ℕ → List ℕ
before_key kind = cond (bytes_eq kind (codes "ec")) (codes "version") (codes "privateKeyAlgorithm")

-- where the first element of these ends
abbrev pub first_end : List Line → Option ℕ
first_end [] = None
first_end (line ∷ lines) = line.end

-- the last step of a path, and the first
abbrev pub is_last : List ℕ → Option Step → Bool
is_last name None = false
is_last name (Some step) = is_step name step

abbrev pub ends_in : List ℕ → List Step → Bool
ends_in name path = is_last name (slice_get path (length path - 1))

abbrev pub begins_in : List ℕ → List Step → Bool
begins_in name [] = false
begins_in name (step ∷ path) = is_step name step

-- whether what is there has this universal tag
abbrev pub is_universal : ℕ → Option Found → Bool
is_universal number None = false
is_universal number (Some found) = (found.tag.class == 0) && (found.tag.number == number)

abbrev pub has_keys : List ℕ → Bool
has_keys kind = bytes_eq kind (codes "key") || bytes_eq kind (codes "ec")

abbrev pub is_in_key : List ℕ → List Step → Bool
is_in_key kind path = has_keys kind && ends_in (codes "privateKey") path

-- privateKey begins where the element before it ends, so what is refused behind that place is in it, as a segment
abbrev pub segment : List ℕ → ℕ → Option Found → Seen
segment kind begin found =
    cond (bytes_eq kind (codes "key") && is_universal 16 found) (seen.KeyInSegments begin) seen.InSegments

abbrev pub behind : List ℕ → ℕ → Option Found → Option ℕ → Seen
behind kind at found None = seen.Nothing
behind kind at found (Some begin) = cond (nat_lt begin at) (segment kind begin found) seen.Nothing

abbrev pub in_key : List ℕ → ℕ → List Line → Diagnosis → Seen
in_key kind at lines diagnosis =
    cond (is_in_key kind diagnosis.path.items)
    (behind kind at diagnosis.found (first_end (from_field (before_key kind) lines))) seen.Nothing

abbrev pub is_written_out : List ℕ → Diagnosis → Bool
is_written_out kind diagnosis =
    bytes_eq kind (codes "ec")
    && (begins_in (codes "parameters") diagnosis.path.items && is_universal 16 diagnosis.found)

-- what is in the place of the SET of an attribute's values: another type of X.680, or what isn't shown
abbrev pub no_set : Option Found → Seen
no_set None = seen.MaybeNoSet
no_set (Some found) = cond ((found.tag.class == 0) && not (found.tag.number == 17)) seen.NoSet seen.Nothing

-- of an element of another type than is due
abbrev pub wrong_tag : List ℕ → ℕ → List Line → Diagnosis → Seen
wrong_tag kind at lines diagnosis =
    cond (is_written_out kind diagnosis) seen.WrittenOut
    (cond (ends_in (codes "values") diagnosis.path.items) (no_set diagnosis.found)
    (in_key kind at lines diagnosis))

-- what the octets after the document are
abbrev pub after_document : After → Seen
after_document afters.Unsaid = seen.Nothing
after_document after = seen.After after

-- what a report shows of the cause of a fault in the file, by its reason
abbrev pub by_reason : Report → ℕ → Reason → Diagnosis → Seen
by_reason report at reasons.Parameters diagnosis = parameters_at report.lines.items diagnosis.line
by_reason report at reasons.WrongTag diagnosis =
    wrong_tag report.kind.word.now at report.lines.items diagnosis
by_reason report at reasons.Trailing diagnosis = after_document report.after
by_reason report at why diagnosis = seen.Nothing

abbrev pub diagnosed : Report → Fault → Option Diagnosis → Seen
diagnosed report fault None = seen.Nothing
diagnosed report fault (Some diagnosis) = by_reason report fault.at fault.why diagnosis

unfoldable pub seen_of : Report → Fault → Seen
seen_of report fault = cond (is_some fault.inside) seen.Nothing (diagnosed report fault report.diagnosis)

use Rattle.std.proofs.Common.{rules, ap, subst, sym, ◌≡◌, ◌∙◌, ◌∷◌, [], false}
use Rattle.tlv_core.specs.declared.fault.ReadError.TheVariants as errors
use Rattle.tlv_core.specs.declared.reason.Reason.TheVariants.{Version}
use Rattle.pkix_definitions.specs.DocumentTypes.{version}
use Rattle.x690.specs.Contents.{Integer}
use Rattle.x690.specs.Layouts.{universal}
use Rattle.x690.specs.Lists.{one_of}
use Rattle.x690.specs.Points.{fault}
use Rattle.x690.specs.Reads.{Said}
use Rattle.x690.specs.TypeTerms.{LeafType}
use Rattle.x690.specs.Values.{Leaf, Same}
use Rattle.ber_pull.specs.Contents.{octet_or}
use Rattle.ber_pull.specs.Hears.{heard_error}
use Rattle.ber_pull.specs.View.{Answers}
use Rattle.asn_elements.proofs.RuledReadings.{rule_holds, rule_refuses, ruled, ruled_error}
use Rattle.asn_elements.proofs.ReaderAnswers.{place_given, refused_by, value_err}
use Rattle.asn_elements.specs.Reading.{read_given}
use Rattle.pkix_values.specs.Versions.{versions}
use Rattle.pkix_values.proofs.VersionTests.{of_others, version_holds, version_refused}
use Rattle.pkix_values.proofs.version.VersionElement.read.Goals as goal
use Rattle.pkix_values.proofs.version.VersionElement.read.Goals.{in_default-via-in-Some+else-is_version, in_default-via-in_default}

pub returns-in_err-number-clause-reads : goal.returns-in_err-number-clause-reads
returns-in_err-number-clause-reads g c = λ given fine is.
    value_err c.args.pull.now c.read_integer_octet.new.pull
    (read_given (version (versions g.row.LEAST g.row.MOST)) c.args.pull.now.state given)
    _ c.from_residual.result c.in_err-number.field-0.0
    (search rules)
    (ruled_error _ _ _ _ _ _ _ _ _ _ _ _ _
    (subst (λ tag. Answers c.args.pull.now c.read_integer_octet.new.pull
    (read_given (LeafType tag Integer) c.args.pull.now.state given) (heard_error c.in_err-number.field-0.0))
    c.universal_tag.ensures (c.in_err-number.ensures.reads given fine is)))

pub returns-in-Some-clause-reads : goal.returns-in-Some-clause-reads
returns-in-Some-clause-reads g c = λ given fine is.
    let allowed = versions g.row.LEAST g.row.MOST in
    let others = c.read_integer_octet.new.others.items in
    let r = c.in_ok-number.ensures.reads given fine is in
    let one = ap (octet_or others) c.in-Some.is in
    let same = subst (λ o. Same r.0 (Leaf (universal 2) o)) one
    (subst (λ tag. Same r.0 (Leaf tag (octet_or others c.in_ok-number.field-0))) c.universal_tag.ensures r.1) in (
      r.0,
      same,
      ruled _ _ _ _ _ _ _ _ _ _ _ _ _ _ _ _
          (subst (λ tag. Answers c.args.pull.now c.read_integer_octet.new.pull
          (read_given (LeafType tag Integer) c.args.pull.now.state given) (Said r.0)) c.universal_tag.ensures r.2)
          (rule_holds _ _ _ _ _ (version_holds allowed (c.in-Some.number ∷ []) r.0 same
          (sym c.if-is_version.true ∙ c.is_version.ensures))),
    )

pub returns-clause-reads : goal.returns-clause-reads
returns-clause-reads g c = λ given fine is.
    let allowed = versions g.row.LEAST g.row.MOST in
    let others = c.read_integer_octet.new.others.items in
    let contents = octet_or others c.in_ok-number.field-0 in
    let r = c.in_ok-number.ensures.reads given fine is in
    let same = subst (λ tag. Same r.0 (Leaf tag contents)) c.universal_tag.ensures r.1 in
    let unlisted : false ≡ one_of contents allowed =
    elim c.in_default.branch [
      | in_default-via-in-Some+else-is_version w ↦
          sym w.if-is_version.false
          ∙ (w.is_version.ensures ∙ ap (λ o. one_of (octet_or others o) allowed) (sym w.in-Some.is))
      | in_default-via-in_default w ↦
          of_others g.row.LEAST g.row.MOST others (c.in_ok-number.ensures.others w.in_default.is)
          ∙ ap (λ o. one_of (octet_or others o) allowed) (sym w.in_default.is)
    ] in
    let first = c.refuse.ensures.first (search rules) in
    let at : c.at-at.result ≡ given.at = c.at-at.ensures.value ∙ place_given c.args.pull.now.state given is in
    refused_by
    (read_given (version allowed) c.args.pull.now.state given)
    c.args.pull.now c.read_integer_octet.new.pull c.refuse.new.self
    (fault given.at Version) c.refuse.result
    (first.0 ∙ ap (λ p. errors.Fault (fault p Version)) at) first.1 c.refuse.ensures.same
    (ruled _ _ _ _ _ _ _ _ _ _ _ _ _ _ _ _
    (subst (λ tag. Answers c.args.pull.now c.read_integer_octet.new.pull
    (read_given (LeafType tag Integer) c.args.pull.now.state given) (Said r.0)) c.universal_tag.ensures r.2)
    (rule_refuses _ _ _ _ _ _ (version_refused allowed contents r.0 same unlisted)))

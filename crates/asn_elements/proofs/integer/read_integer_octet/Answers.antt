use Rattle.std.proofs.Common.{rules, ◌≡◌, ◌∙◌, ap, true, false, refl, List, ℕ, Option, Some, None}
use Rattle.tlv_core.specs.declared.fault.ReadError.TheVariants as errors
use Rattle.tlv_core.specs.declared.reason.Reason.TheVariants.{BadInteger}
use Rattle.tlv_core.specs.declared.source.Source.{Ghosts}
use Rattle.tlv_core.specs.Identifier.{Tag}
use Rattle.x690.specs.Contents.{Integer}
use Rattle.x690.specs.Layouts.{same_tag}
use Rattle.x690.specs.Points.{fault}
use Rattle.x690.specs.ReadContents.{is_contents, is_integer_contents}
use Rattle.x690.specs.Reading.{◌>>=◌}
use Rattle.x690.specs.Reads.{Heard}
use Rattle.x690.specs.TypeTerms.{LeafType}
use Rattle.x690.specs.Values.{Leaf, Value}
use Rattle.x690_laws.proofs.ValuesSame.{equivalence}
use Rattle.ber_pull.specs.Calls.{read_primitive}
use Rattle.ber_pull.specs.Contents.{octet_or}
use Rattle.ber_pull.specs.View.{Answers, Unmoved, standing}
use Rattle.ber_pull.specs.declared.pull.Pull.{Pull}
use Rattle.ber_pull.specs.declared.state.Given.{Given}
use Rattle.ber_pull.proofs.Hearing.{hears_as, hears_done, hears_error, hears_off, hears_on, hears_then}
use Rattle.asn_elements.specs.Reading.{read_given}
use Rattle.asn_elements.proofs.ReaderAnswers.{fine_still, given_still, refused_by, value_err}
use Rattle.asn_elements.proofs.LeafReadings.{judged, leaf_is}
use Rattle.asn_elements.proofs.TypeReadings.{leaf_behind_tag, leaf_type_is}
use Rattle.asn_elements.proofs.integer.read_integer_octet.Goals as goal

-- one octet is an INTEGER
fits : (octet : Option ℕ) (others : List ℕ) → (octet ≡ None → is_integer_contents others ≡ true)
    → is_contents Integer (octet_or others octet) ≡ true
fits (Some x) others h = refl
fits None others h = h refl

-- others are one only where they are
unfit : (octet : Option ℕ) (others : List ℕ) → octet ≡ None → is_integer_contents others ≡ false
    → is_contents Integer (octet_or others octet) ≡ false
unfit (Some x) others none h = cc
unfit None others none h = h

-- the element has the tag, and its contents were read
read_behind : {R : Type 0} {s : Ghosts R} (old mid new : Pull R s) (own : Tag) (g : Given) (h : Heard Value)
    → Unmoved old mid → same_tag own g.tag ≡ true
    → Answers mid new (read_primitive (standing mid) g >>= judged Integer own g.at) h
    → Answers old new (read_given (LeafType own Integer) (standing old) g) h
read_behind old mid new own g h same on x =
    leaf_behind_tag old mid new own Integer g h same on
    (hears_as _ _ _ _ _ _ _ (leaf_is Integer own (standing mid) g (λ form. refl)) x)

pub returns-in_err-at-clause-reads : goal.returns-in_err-at-clause-reads
returns-in_err-at-clause-reads g c = λ given fine is.
    value_err c.args.pull.now c.expect_tag.new.pull
    (read_given (LeafType c.args.own Integer) c.args.pull.now.state given)
    _ c.from_residual.result c.in_err-at.field-0.0 (search rules)
    (hears_as _ _ _ _ _ _ _ (leaf_type_is c.args.own Integer c.args.pull.now.state given)
    (c.in_err-at.ensures.stops given fine is _))

pub returns-in_err-octet-clause-reads : goal.returns-in_err-octet-clause-reads
returns-in_err-octet-clause-reads g c = λ given fine is.
    let old = c.args.pull.now in
    let mid = c.expect_tag.new.pull in
    let ok = c.in_ok-at.ensures in
    let new = c.primitive_octet.new.self in
    value_err old new
    (read_given (LeafType c.args.own Integer) old.state given)
    (λ octet. Leaf c.args.own (octet_or c.primitive_octet.new.others.items octet))
    c.from_residual-in_err-octet.result c.in_err-octet.field-0.0 (search rules)
    (read_behind old mid new c.args.own given _ ok.same (ok.is given fine is).1
    (hears_error (read_primitive mid.state given) (judged Integer c.args.own given.at) _ _ _ _ _
    (c.in_err-octet.ensures.reads given (fine_still old mid ok.same fine) (given_still old mid given ok.same is))))

pub returns-then-not-is_integer-clause-reads : goal.returns-then-not-is_integer-clause-reads
returns-then-not-is_integer-clause-reads g c = λ given fine is.
    let old = c.args.pull.now in
    let mid = c.expect_tag.new.pull in
    let ok = c.in_ok-at.ensures in
    let first = c.refuse.ensures.first (search rules) in
    let contents = octet_or c.primitive_octet.new.others.items c.in_ok-octet.octet in
    let none : c.in_ok-octet.octet ≡ None = search rules in
    let off : is_integer_contents c.primitive_octet.new.others.items ≡ false = search rules in
    let bad : is_contents Integer contents ≡ false = unfit c.in_ok-octet.octet _ none off in
    refused_by _ old c.primitive_octet.new.self c.refuse.new.self (fault given.at BadInteger) c.refuse.result
    (first.0 ∙ ap (λ p. errors.Fault (fault p BadInteger)) (ok.is given fine is).0) first.1 c.refuse.ensures.same
    (read_behind old mid c.primitive_octet.new.self c.args.own given _ ok.same (ok.is given fine is).1
    (hears_then (read_primitive mid.state given) (judged Integer c.args.own given.at) contents _ _ _ _ _ _ _
    (c.in_ok-octet.ensures.reads given (fine_still old mid ok.same fine) (given_still old mid given ok.same is))
    (hears_off _ _ _ _ _ bad)))

pub returns-clause-reads : goal.returns-clause-reads
returns-clause-reads g c = λ given fine is.
    let old = c.args.pull.now in
    let mid = c.expect_tag.new.pull in
    let ok = c.in_ok-at.ensures in
    let contents = octet_or c.primitive_octet.new.others.items c.in_ok-octet.octet in
    let good : is_contents Integer contents ≡ true = fits c.in_ok-octet.octet _ (λ none. (search rules)) in
    let v = Leaf c.args.own contents in (
      v,
      equivalence.same_refl v,
      read_behind old mid c.primitive_octet.new.self c.args.own given _ ok.same (ok.is given fine is).1
          (hears_then (read_primitive mid.state given) (judged Integer c.args.own given.at) contents _ _ _ _ _ _ _
          (c.in_ok-octet.ensures.reads given (fine_still old mid ok.same fine) (given_still old mid given ok.same is))
          (hears_on _ _ _ _ _ _ _ _ good (hears_done _ _ _))),
    )

use Rattle.std.proofs.Common.{rules, arith, ◌≡◌, ◌∙◌, ◌++◌, None, ap, subst, sym}
use Rattle.x690.specs.Contents.{ObjectIdentifier}
use Rattle.x690.specs.DerTexts.{der}
use Rattle.x690.specs.Layouts.{universal}
use Rattle.x690.specs.Reads.{Said}
use Rattle.x690.specs.TypeTerms.{OpenType}
use Rattle.x690.specs.Values.{Leaf, Same}
use Rattle.ber_pull.specs.Hears.{heard_error}
use Rattle.ber_pull.proofs.Hearing.{hears_as, hears_said}
use Rattle.asn_open_values.specs.TextValues.{identifier_in, open_value}
use Rattle.asn_open_values.specs.OpenValues.{open_value_of}
use Rattle.asn_elements.specs.Reading.{read_given, read_given_leaf}
use Rattle.asn_elements.proofs.ObjectIdentifierContents.{identifier_from}
use Rattle.asn_elements.proofs.ReaderAnswers.{fine_still, given_still, none_by, some_given, unmoved_answers, value_err}
use Rattle.asn_open_values.proofs.TextValues.{begun, identifier_again, identifier_is, no_identifier, open_is, open_read, SaysAgain}
use Rattle.x690_laws.proofs.ReadingLayoutsSound.{same_tag_is}
use Rattle.asn_open_values.proofs.any.AnyElement.read.Goals as goal

pub from_checked-requires : goal.from_checked-requires
from_checked-requires g c =
    identifier_from c.read_leaf_into.new.contents.items c.in_ok-read_leaf_into.ensures.contents

pub returns-in_err-read_leaf_into-clause-reads : goal.returns-in_err-read_leaf_into-clause-reads
returns-in_err-read_leaf_into-clause-reads g c = λ given fine is.
    let old = c.args.pull.now in
    let mid = c.next_tag.new.self in
    let s = old.state in
    let b = begun old mid given c.in_ok-tag.field-0 c.in-Some.tag c.in-Some.constructed c.in-Some.is
    (c.in_ok-tag.ensures.given given fine is) c.in_ok-tag.ensures.fits in
    let read = c.in_err-read_leaf_into.ensures.reads given.tag given (fine_still old mid b.still fine)
    (given_still old mid given b.still is) in
    value_err old c.read_leaf_into.new.pull
    (read_given OpenType s given) open_value_of
    c.from_residual-in_err-read_leaf_into.result c.in_err-read_leaf_into.field-0.0 (search rules)
    (hears_as _ _ _ _ _ _ _ (identifier_is s given b.fits (rw (← b.tag_is) (search rules)))
    (unmoved_answers (λ z. read_given_leaf ObjectIdentifier given.tag z given) old mid c.read_leaf_into.new.pull
    (heard_error c.in_err-read_leaf_into.field-0.0) b.still read))

pub returns-in_err-append_open-clause-reads : goal.returns-in_err-append_open-clause-reads
returns-in_err-append_open-clause-reads g c = λ given fine is.
    let old = c.args.pull.now in
    let mid = c.next_tag.new.self in
    let s = old.state in
    let b = begun old mid given c.in_ok-tag.field-0 c.in-Some.tag c.in-Some.constructed c.in-Some.is
    (c.in_ok-tag.ensures.given given fine is) c.in_ok-tag.ensures.fits in
    let read = c.in_err-append_open.ensures.reads mid.state.limits.depth given (fine_still old mid b.still fine)
    (given_still old mid given b.still is) (omega arith) in
    value_err old c.append_open.new.pull
    (read_given OpenType s given) open_value_of c.from_residual-in_err-append_open.result c.in_err-append_open.field-0.0
    (search rules)
    (unmoved_answers (λ z. read_given OpenType z given) old mid c.append_open.new.pull
    (heard_error c.in_err-append_open.field-0.0) b.still (hears_as _ _ _ _ _ _ _ (open_is mid.state given) read))

pub invariant_of-result-2 : goal.invariant_of-result-2
invariant_of-result-2 g c =
    let old = c.args.pull.now in
    let mid = c.next_tag.new.self in
    let s = old.state in
    let fine : s.error ≡ None = none_by s.error (λ e h. let r = (c.in_ok-tag.ensures.repeats e h).0 in cc) in
    let given = some_given s.given (c.requires fine) in
    let b = begun old mid given.0 c.in_ok-tag.field-0 c.in-Some.tag c.in-Some.constructed c.in-Some.is
    (c.in_ok-tag.ensures.given given.0 fine given.1) c.in_ok-tag.ensures.fits in
    let read = c.in_ok-append_open.ensures.reads mid.state.limits.depth given.0 (fine_still old mid b.still fine)
    (given_still old mid given.0 b.still given.1) (omega arith) in
    let text : c.append_open.new.text.items ≡ der read.0 =
    read.1 ∙ ap (λ z. z ++ der read.0) c.new-text.ensures.items in
    let known = open_read s given.0 read.0 _ _ _ _ b.fits
    (unmoved_answers (λ z. read_given OpenType z given.0) old mid c.append_open.new.pull (Said read.0) b.still
    (hears_as _ _ _ _ _ _ _ (open_is mid.state given.0) read.2)) in
    record {
      whole = subst (λ z. der (open_value z) ≡ z) (sym text) known.again.text;
      identified =
          subst (λ z. None ≡ identifier_in (open_value z)) (sym text)
          (no_identifier given.0.tag read.0 known (rw (← b.tag_is) (search rules)));
    }

pub invariant_of-result : goal.invariant_of-result
invariant_of-result g c =
    let old = c.args.pull.now in
    let mid = c.next_tag.new.self in
    let s = old.state in
    let fine : s.error ≡ None = none_by s.error (λ e h. let r = (c.in_ok-tag.ensures.repeats e h).0 in cc) in
    let given = some_given s.given (c.requires fine) in
    let b = begun old mid given.0 c.in_ok-tag.field-0 c.in-Some.tag c.in-Some.constructed c.in-Some.is
    (c.in_ok-tag.ensures.given given.0 fine given.1) c.in_ok-tag.ensures.fits in
    let read = hears_said _ _ _ _ _ _ _ (ap (Leaf given.0.tag) (sym c.from_checked.ensures))
    (c.in_ok-read_leaf_into.ensures.reads given.0.tag given.0 (fine_still old mid b.still fine)
    (given_still old mid given.0 b.still given.1)) in
    let tag = same_tag_is (universal 6) given.0.tag (rw (← b.tag_is) (search rules)) in
    let known = open_read s given.0 (Leaf given.0.tag c.from_checked.result) _ _ _ _ b.fits
    (hears_as _ _ _ _ _ _ _ (identifier_is s given.0 b.fits (rw (← b.tag_is) (search rules)))
    (unmoved_answers (λ z. read_given_leaf ObjectIdentifier given.0.tag z given.0) old mid c.read_leaf_into.new.pull
    (Said (Leaf given.0.tag c.from_checked.result)) b.still read)) in
    let again = subst (λ t. SaysAgain (Leaf t c.from_checked.result)) (sym tag) known.again in
    record { whole = again.text; identified = identifier_again (Leaf (universal 6) c.from_checked.result) again }

pub returns-then-is_same_tag-clause-reads : goal.returns-then-is_same_tag-clause-reads
returns-then-is_same_tag-clause-reads g c = λ given fine is.
    let old = c.args.pull.now in
    let mid = c.next_tag.new.self in
    let s = old.state in
    let b = begun old mid given c.in_ok-tag.field-0 c.in-Some.tag c.in-Some.constructed c.in-Some.is
    (c.in_ok-tag.ensures.given given fine is) c.in_ok-tag.ensures.fits in
    let read = hears_said _ _ _ _ _ _ _ (ap (Leaf given.tag) (sym c.from_checked.ensures))
    (c.in_ok-read_leaf_into.ensures.reads given.tag given (fine_still old mid b.still fine)
    (given_still old mid given b.still is)) in
    let tag = same_tag_is (universal 6) given.tag (rw (← b.tag_is) (search rules)) in
    let whole = hears_as _ _ _ _ _ _ _ (identifier_is s given b.fits (rw (← b.tag_is) (search rules)))
    (unmoved_answers (λ z. read_given_leaf ObjectIdentifier given.tag z given) old mid c.read_leaf_into.new.pull
    (Said (Leaf given.tag c.from_checked.result)) b.still read) in
    let known = open_read s given (Leaf given.tag c.from_checked.result) _ _ _ _ b.fits whole in (
      Leaf given.tag c.from_checked.result,
      subst (λ t. Same (Leaf given.tag c.from_checked.result) (open_value (der (Leaf t c.from_checked.result))))
          (sym tag) known.again.same,
      whole,
    )

pub returns-clause-reads : goal.returns-clause-reads
returns-clause-reads g c = λ given fine is.
    let old = c.args.pull.now in
    let mid = c.next_tag.new.self in
    let s = old.state in
    let b = begun old mid given c.in_ok-tag.field-0 c.in-Some.tag c.in-Some.constructed c.in-Some.is
    (c.in_ok-tag.ensures.given given fine is) c.in_ok-tag.ensures.fits in
    let read = c.in_ok-append_open.ensures.reads mid.state.limits.depth given (fine_still old mid b.still fine)
    (given_still old mid given b.still is) (omega arith) in
    let text : c.append_open.new.text.items ≡ der read.0 =
    read.1 ∙ ap (λ z. z ++ der read.0) c.new-text.ensures.items in
    let whole = unmoved_answers (λ z. read_given OpenType z given) old mid c.append_open.new.pull (Said read.0) b.still
    (hears_as _ _ _ _ _ _ _ (open_is mid.state given) read.2) in
    let known = open_read s given read.0 _ _ _ _ b.fits whole in
    (read.0, subst (λ z. Same read.0 (open_value z)) (sym text) known.again.same, whole)

use Rattle.std.proofs.Common.{ap, ap₂, rules, sym, true, ◌≡◌, ◌∙◌}
use Rattle.tlv_core.specs.Identifier.{Tag}
use Rattle.tlv_core.specs.declared.source.Source.{Ghosts}
use Rattle.x690.specs.Contents.{LeafKind}
use Rattle.x690.specs.Layouts.{same_tag, universal}
use Rattle.x690.specs.Reads.{Heard}
use Rattle.x690.specs.StringTypes.{string_types}
use Rattle.x690.specs.TypeTerms.{fits_tag}
use Rattle.x690.specs.Values.{Leaf, Value}
use Rattle.x690_laws.proofs.ValuesSame.{equivalence}
use Rattle.ber_pull.specs.View.{Answers, Unmoved, standing}
use Rattle.ber_pull.specs.declared.pull.Pull.{Pull}
use Rattle.ber_pull.specs.declared.state.Given.{Given}
use Rattle.ber_pull.proofs.Hearing.{hears_as, hears_on}
use Rattle.asn_elements.specs.Reading.{kind_of, read_given, read_given_leaf, string_kind}
use Rattle.asn_elements.proofs.ReaderAnswers.{fine_still, given_still, unmoved_answers, value_err}
use Rattle.asn_elements.proofs.StringReadings.{string_is}
use Rattle.asn_elements.proofs.text.TextElement.read.Goals as goal

-- the tag is that of a string, and the leaf was read
leaf_read : {R : Type 0} {s : Ghosts R} (old mid new : Pull R s) (g : Given) (own : Tag) (kind : LeafKind)
    (h : Heard Value)
    → Unmoved old mid → own ≡ g.tag → fits_tag string_types own ≡ true
    → kind ≡ string_kind (same_tag (universal 12) own)
    → Answers mid new (read_given_leaf kind own (standing mid) g) h
    → Answers old new (read_given string_types (standing old) g) h
leaf_read old mid new g own kind h same is fits by_tag x =
    hears_as _ _ _ _ _ _ _ (sym (string_is (standing old) g))
    (hears_on _ _ _ _ _ _ _ _ (ap (fits_tag string_types) (sym is) ∙ fits)
    (hears_as _ _ _ _ _ _ _
    (ap₂ (λ k t. read_given_leaf k t (standing old) g)
    (by_tag ∙ ap (λ t. string_kind (same_tag (universal 12) t)) is) is)
    (unmoved_answers (λ s. read_given_leaf kind own s g) old mid new h same x)))

pub returns-in_err-tag-clause-reads : goal.returns-in_err-tag-clause-reads
returns-in_err-tag-clause-reads g c = λ given fine is.
    value_err c.args.pull.now c.expect_string.new.pull (read_given string_types c.args.pull.now.state given)
    (λ text. Leaf text.tag text.octets.items) c.from_residual.result c.in_err-tag.field-0.0 (search rules)
    (hears_as _ _ _ _ _ _ _ (sym (string_is c.args.pull.now.state given)) (c.in_err-tag.ensures.stops given fine is _))

pub returns-in_err-read_leaf_into-clause-reads : goal.returns-in_err-read_leaf_into-clause-reads
returns-in_err-read_leaf_into-clause-reads g c = λ given fine is.
    let ok = c.in_ok-tag.ensures in
    value_err c.args.pull.now c.read_leaf_into.new.pull (read_given string_types c.args.pull.now.state given)
    (λ text. Leaf text.tag text.octets.items)
    c.from_residual-in_err-read_leaf_into.result c.in_err-read_leaf_into.field-0.0
    (search rules)
    (leaf_read c.args.pull.now c.expect_string.new.pull c.read_leaf_into.new.pull given c.in_ok-tag.tag
    (kind_of c.kind_by_tag.result) _ ok.same (ok.is given fine is) ok.string c.kind_by_tag.ensures
    (c.in_err-read_leaf_into.ensures.reads c.in_ok-tag.tag given
    (fine_still c.args.pull.now c.expect_string.new.pull ok.same fine)
    (given_still c.args.pull.now c.expect_string.new.pull given ok.same is)))

pub returns-clause-reads : goal.returns-clause-reads
returns-clause-reads g c = λ given fine is.
    let ok = c.in_ok-tag.ensures in
    let value = Leaf c.in_ok-tag.tag c.read_leaf_into.new.contents.items in (
      value,
      equivalence.same_refl value,
      leaf_read c.args.pull.now c.expect_string.new.pull c.read_leaf_into.new.pull given c.in_ok-tag.tag
          (kind_of c.kind_by_tag.result) _ ok.same (ok.is given fine is) ok.string c.kind_by_tag.ensures
          (c.in_ok-read_leaf_into.ensures.reads c.in_ok-tag.tag given
          (fine_still c.args.pull.now c.expect_string.new.pull ok.same fine)
          (given_still c.args.pull.now c.expect_string.new.pull given ok.same is)),
    )

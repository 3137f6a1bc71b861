use Rattle.std.proofs.Common.{rules, ◌≡◌, ◌∷◌, None, ap, subst, sym}
use Rattle.x690.specs.Values.{Leaf}
use Rattle.ber_pull.specs.Calls.{read_bits}
use Rattle.ber_pull.proofs.Hearing.{hears_done, hears_err, hears_error, hears_said, hears_same, hears_then, hears_then_memory}
use Rattle.asn_elements.specs.BitStrings.{IsDerBits}
use Rattle.asn_elements.proofs.ReaderAnswers.{none_by, some_given}
use Rattle.asn_elements.proofs.BitReadings.{bits_heard}
use Rattle.asn_elements.proofs.LeafReadings.{bits_leaf, bits_leaf_is}
use Rattle.asn_elements.proofs.leaf_reading.read_bits_leaf.Goals as goal

pub returns-in_err-unused-clause-reads : goal.returns-in_err-unused-clause-reads
returns-in_err-unused-clause-reads g c = λ own given fine is.
    let s = c.args.pull.now.state in
    hears_err _ _ c.from_residual.result c.in_err-unused.field-0.0 _ _ _ _ (search rules)
    (hears_same _ _ _ _ _ _ _ (bits_leaf_is own s given)
    (hears_error (read_bits s given) (bits_leaf own) _ _ _ _ _ (c.in_err-unused.ensures.reads given fine is)))

pub returns-in-Ok-clause-reads : goal.returns-in-Ok-clause-reads
returns-in-Ok-clause-reads g c = λ own given fine is.
    let s = c.args.pull.now.state in
    let whole : c.insert.new.self.items ≡ c.in_ok-unused.unused ∷ c.in_ok-unused.octets.items = search rules in
    hears_said _ _ _ _ _ _ _ (ap (Leaf own) (sym whole))
    (hears_same _ _ _ _ _ _ _ (bits_leaf_is own s given)
    (hears_then (read_bits s given) (bits_leaf own) (c.in_ok-unused.unused, c.in_ok-unused.octets.items) _ _ _ _ _ _ _
    (c.in_ok-unused.ensures.reads given fine is) (hears_done _ _ _)))

pub returns-in-Err-clause-reads : goal.returns-in-Err-clause-reads
returns-in-Err-clause-reads g c = λ own given fine is.
    let s = c.args.pull.now.state in
    let first = c.no_memory.ensures.first (search rules) in
    hears_same _ _ _ _ _ _ _ (bits_leaf_is own s given)
    (hears_error (read_bits s given) (bits_leaf own) c.no_memory.result _ _ _ _
    (hears_then_memory _ (c.in_ok-unused.unused, c.in_ok-unused.octets.items) c.no_memory.result _ _ _ _ _ _ first.0
    (ap (λ z. z.taken) first.1) (ap g.R.Source.remaining c.no_memory.ensures.same)
    (c.in_ok-unused.ensures.reads given fine is)))

pub returns-in-Ok-clause-bits : goal.returns-in-Ok-clause-bits
returns-in-Ok-clause-bits g c =
    let s = c.args.pull.now.state in
    let fine : s.error ≡ None = none_by s.error (λ e h. let r = (c.in_ok-unused.ensures.repeats e h).0 in cc) in
    let given = some_given s.given (c.requires fine) in
    let whole : c.insert.new.self.items ≡ c.in_ok-unused.unused ∷ c.in_ok-unused.octets.items = search rules in
    subst IsDerBits (sym whole) (bits_heard s given.0 _ _ _ _ _ _ (c.in_ok-unused.ensures.reads given.0 fine given.1))

use Rattle.std.proofs.Common.{rules, refl, ap}
use Rattle.ber_pull.proofs.Hearing.{hears_at, hears_halted, hears_error, hears_then}
use Rattle.x690.specs.ReadHeaders.{primitive_contents}
use Rattle.ber_pull.proofs.Pieces.{alone_came, alone_stopped}
use Rattle.ber_pull.proofs.pull.Pull.octet_or_others.Goals as goal

pub returns-in_err-count-clause-reads : goal.returns-in_err-count-clause-reads
unfolding primitive_contents
returns-in_err-count-clause-reads g c =
    hears_halted c.definite_length.new.self _ _ c.from_residual.result c.in_err-count.field-0.0 _ _ _ _ (search rules)
    (hears_error _ _ _ _ _ _ _ c.in_err-count.ensures.reads)

pub returns-in_err-octet-clause-reads : goal.returns-in_err-octet-clause-reads
unfolding primitive_contents
returns-in_err-octet-clause-reads g c =
    hears_halted c.next_octet.new.self _ _ c.from_residual-in_err-octet.result c.in_err-octet.field-0.0 _ _ _ _ (search rules)
    (hears_then _ _ c.in_ok-count.count _ _ _ _ _ _ _ c.in_ok-count.ensures.reads
    (alone_stopped _ _ _ _ _ _ c.if-count-eq1.true c.in_err-octet.ensures.reads))

pub returns-then-count-eq1-clause-reads : goal.returns-then-count-eq1-clause-reads
unfolding primitive_contents
returns-then-count-eq1-clause-reads g c =
    hears_at _ _ _ _ _ _ _ _ (ap (λ s. s.taken) c.use_given.ensures) refl
    (hears_then _ _ c.in_ok-count.count _ _ _ _ _ _ _ c.in_ok-count.ensures.reads
    (alone_came _ _ _ _ _ _ c.if-count-eq1.true c.in_ok-octet.ensures.reads))

pub returns-in_err-contents-clause-reads : goal.returns-in_err-contents-clause-reads
unfolding primitive_contents
returns-in_err-contents-clause-reads g c =
    hears_halted c.contents.new.self _ _ c.from_residual-in_err-contents.result c.in_err-contents.field-0.0 _ _ _ _ (search rules)
    (hears_then _ _ c.in_ok-count.count _ _ _ _ _ _ _ c.in_ok-count.ensures.reads c.in_err-contents.ensures.reads)

pub returns-clause-reads : goal.returns-clause-reads
unfolding primitive_contents
returns-clause-reads g c =
    hears_at _ _ _ _ _ _ _ _ (ap (λ s. s.taken) c.use_given-2.ensures) refl
    (hears_then _ _ c.in_ok-count.count _ _ _ _ _ _ _ c.in_ok-count.ensures.reads c.in_ok-contents.ensures.reads)

use Rattle.std.proofs.Common.{◌%◌}
use Rattle.std.proofs.Common.{arith, ◌≡◌, true, false, nat_lt}
use Rattle.std.proofs.lemmas.Bool.Decides.{nat_tests}
use Rattle.x690.specs.ReadHeaders.{read_tag_number}
use Rattle.ber_pull.proofs.Hearing.{hears_done_as, hears_first, hears_second}
use Rattle.ber_pull.proofs.pull.Pull.tag_number.Goals as goal

pub returns-then-low-lt31-clause-reads : goal.returns-then-low-lt31-clause-reads
unfolding read_tag_number
returns-then-low-lt31-clause-reads g c =
    let t : nat_lt (c.args.first % 32) 31 ≡ true = let z = c.if-low-lt31.true in grind (arith, nat_tests) in
    hears_first _ _ _ _ _ _ _ _ t (hears_done_as _ _ _ _ c.from.ensures)

pub returns-clause-reads : goal.returns-clause-reads
unfolding read_tag_number
returns-clause-reads g c =
    let t : nat_lt (c.args.first % 32) 31 ≡ false = let z = c.if-low-lt31.false in grind (arith, nat_tests) in
    hears_second _ _ _ _ _ _ _ _ t c.high_tag_number.ensures.reads

use Rattle.std.proofs.Common.{◌≡◌, ◌==◌, ◌+◌, ◌∙◌, arith, false, length, sym, true}
use Rattle.std.proofs.lemmas.Bool.Decides.{nat_tests}
use Rattle.private_keys.proofs.RsaInDer.{no_fields, one_more}
use Rattle.private_keys.proofs.rsa_private_key.are_numbers_and_primes.Goals as goal

pub loop-preserved : goal.loop-preserved
loop-preserved c = λ count behind values is.
    let more = one_more count _ false c.in-Some._number.now c.loop.rest.now c.in-Some.behind.now c.in-Some.ensures.is
    behind in
    omega (arith, c.loop.invariant (count + 1) more values is)

pub returns-in-Some-element_in_der : goal.returns-in-Some-element_in_der
returns-in-Some-element_in_der c = λ pass values is.
    let behind = c.in-Some-element_in_der.behind.now in
    let test : (length behind == 0) ≡ true = sym c.is_empty.ensures ∙ pass in
    let none : length behind ≡ 0 = grind (arith, nat_tests) in
    let one = one_more 0 _ true c.in-Some-element_in_der._primes.now c.loop.rest.now behind
    c.in-Some-element_in_der.ensures.is (no_fields behind none) in
    omega (arith, c.loop.invariant 1 one values is, c.loop-test.false, c.loop.auto.counter-end)

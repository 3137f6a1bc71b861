use Rattle.std.proofs.Common.{◌≡◌, ◌∙◌, ◌==◌, ap, arith, inl, inr, length, not, sym, true}
use Rattle.std.proofs.lemmas.Bool.Decides.{nat_tests}
use Rattle.pkix_values.proofs.InDer.{parameters_pass}
use Rattle.pkix_values.proofs.algorithm.AlgorithmFieldsRuledFields.pass_in_der.Goals as goal

pub returns-then-is_empty : goal.returns-then-is_empty
returns-then-is_empty c = λ pass limit values are.
    let rest = c.in-Some.behind.now in
    let test : (length rest == 0) ≡ true = sym c.is_empty.ensures ∙ c.if-is_empty.true in
    parameters_pass limit values c.args.octets.now c.in-Some.algorithm.now rest _ are c.in-Some.ensures.is
    (inl (grind (arith, nat_tests)))

pub returns : goal.returns
returns c = λ pass limit values are.
    parameters_pass limit values c.args.octets.now c.in-Some.algorithm.now c.in-Some.behind.now _ are
    c.in-Some.ensures.is (inr (sym c.rfc8410_length.ensures.listed ∙ c.is_none.ensures ∙ ap not pass))

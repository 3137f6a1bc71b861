use Rattle.std.proofs.Common.{◌≡◌, ◌∙◌, ◌++◌, ◌-◌, ◌==◌, ◌∷◌, ap, arith, drop, get_or, length, subst, sym, take, true}
use Rattle.std.proofs.lemmas.Bool.Decides.{nat_tests}
use Rattle.std.proofs.lemmas.Slice.{first_rest}
use Rattle.std.specs.Option.{is_some}
use Rattle.pkix_values.specs.Values.{key_fits}
use Rattle.pkix_values.proofs.InDer.{of_its_length, of_other_algorithms}
use Rattle.pkix_values.proofs.public_key.has_length_of.Goals as goal

pub returns-in_default : goal.returns-in_default
returns-in_default c = λ h.
    of_other_algorithms c.args.algorithm.now c.args.key.now
    (sym c.rfc8410_length.ensures.listed ∙ ap is_some c.in_default.is)

pub returns : goal.returns
returns c = λ h.
    let key = c.args.key.now in
    let octets = take (length key - 1) (drop 1 key) in
    let test : (length octets == c.in-Some.length) ≡ true = h in
    subst (λ k. key_fits c.args.algorithm.now k ≡ true) (sym (first_rest key 0 c.in-len1-up.len_at_least))
    (of_its_length c.args.algorithm.now octets (get_or key 0 0) c.in-Some.length
    (sym c.rfc8410_length.ensures.length ∙ c.in-Some.is) (grind (arith, nat_tests))
    (omega (arith, c.if-unused-ne0.false)))

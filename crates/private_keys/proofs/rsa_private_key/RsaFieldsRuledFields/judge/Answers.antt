use Rattle.std.proofs.Common.{◌∙◌, sym}
use Rattle.private_keys.proofs.Rules.{rsa_of_more}
use Rattle.private_keys.proofs.rsa_private_key.RsaFieldsRuledFields.judge.Goals as goal

pub returns-in-Some : goal.returns-in-Some
returns-in-Some c = rw (sym c.other_primes.ensures ∙ c.in-Some.is) (sym (rsa_of_more _ _ _ _ _ _ _ _ _ _))

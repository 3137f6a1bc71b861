use Rattle.std.proofs.Common.{subst, sym}
use Rattle.explain.specs.Public.{Says}
use Rattle.explain.proofs.document.values.value_of.Goals as goal

pub returns-in-Boolean : goal.returns-in-Boolean
returns-in-Boolean c =
    subst (λ sort. Says sort c.args.contents.now c.boolean_value.result) (sym c.in-Boolean.is) c.boolean_value.ensures

pub returns-in-Integer : goal.returns-in-Integer
returns-in-Integer c =
    subst (λ sort. Says sort c.args.contents.now c.integer_value.result) (sym c.in-Integer.is) c.integer_value.ensures

pub returns-in-Null : goal.returns-in-Null
returns-in-Null c =
    subst (λ sort. Says sort c.args.contents.now c.null_value.result) (sym c.in-Null.is) c.null_value.ensures

pub returns-in-Bits : goal.returns-in-Bits
returns-in-Bits c =
    subst (λ sort. Says sort c.args.contents.now c.bits_value.result) (sym c.in-Bits.is) c.bits_value.ensures

pub returns-in-PublicKey : goal.returns-in-PublicKey
returns-in-PublicKey c =
    subst (λ sort. Says sort c.args.contents.now c.key_value.result) (sym c.in-PublicKey.is) c.key_value.ensures

use Rattle.std.proofs.lemmas.Result.{IfOk-weaker}
use Rattle.explain.proofs.kinds.likely_kind.Goals as goal

pub returns : goal.returns
returns c =
    IfOk-weaker c.fault_of.result _ _ (λ likely h. (c.in_ok-begun.begun, c.in_ok-begun.ensures, h)) c.fault_of.ensures

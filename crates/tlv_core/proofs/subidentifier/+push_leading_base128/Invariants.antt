use Rattle.tlv_core.proofs.subidentifier.+push_leading_base128.Given as goal

abbrev pub decreases-push_leading_base128 : goal.decreases-push_leading_base128
decreases-push_leading_base128 l = l.number

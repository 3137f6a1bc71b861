-- Why a call has nothing to answer, by the errors of what it calls.
use Rattle.tlv_core.specs.declared.fault.ReadError.{ReadError}
use Rattle.tlv_core.specs.declared.fault.ReadError.TheVariants as errors
use Rattle.pkder_c.specs.declared.refusal.PairRefusal.{PairRefusal}
use Rattle.pkder_c.specs.declared.refusal.PairRefusal.TheVariants as pairs
use Rattle.pkder_c.specs.declared.refusal.Refusal.{Refusal}
use Rattle.pkder_c.specs.declared.refusal.Refusal.TheVariants as refusals

abbrev pub unread_refusal : ReadError → Refusal
unread_refusal (errors.Fault found) = refusals.Fault found
unread_refusal (errors.Read at) = refusals.Memory
unread_refusal errors.Memory = refusals.Memory

-- Why two documents are not compared, by why one of them has nothing to answer.
abbrev pub first_refusal : Refusal → PairRefusal
first_refusal refusals.Call = pairs.Call
first_refusal (refusals.Fault found) = pairs.First found
first_refusal refusals.Memory = pairs.Memory

abbrev pub second_refusal : Refusal → PairRefusal
second_refusal refusals.Call = pairs.Call
second_refusal (refusals.Fault found) = pairs.Second found
second_refusal refusals.Memory = pairs.Memory

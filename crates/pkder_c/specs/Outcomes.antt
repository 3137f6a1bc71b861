-- The numbers of outcomes.
use Rattle.std.specs.Prelude.{ℕ, Bool, None, Option, Some, false, true}
use Rattle.tlv_core.specs.Reasons.{number_of}
use Rattle.tlv_core.specs.declared.reason.Reason.{Reason}
use Rattle.reports.specs.declared.report.Answer.{Answer}
use Rattle.reports.specs.declared.report.Answer.TheVariants as answers
use Rattle.pkder_c.specs.declared.outcome.PkderOutcome.{PkderOutcome}
use Rattle.pkder_c.specs.declared.refusal.PairRefusal.{PairRefusal}
use Rattle.pkder_c.specs.declared.refusal.PairRefusal.TheVariants as pairs
use Rattle.pkder_c.specs.declared.refusal.Refusal.{Refusal}
use Rattle.pkder_c.specs.declared.refusal.Refusal.TheVariants.{Call, Fault, Memory}

abbrev pub accepted_outcome : ℕ → ℕ → PkderOutcome
accepted_outcome taken size =
    record { status = 0; reason = 0; inside_reason = 0; which = 0; at = 0; inside_at = 0; taken = taken; size = size }

abbrev pub too_small_outcome : ℕ → ℕ → PkderOutcome
too_small_outcome taken size =
    record { status = 2; reason = 0; inside_reason = 0; which = 0; at = 0; inside_at = 0; taken = taken; size = size }

-- by the place where a document isn't in DER
abbrev pub checked_outcome : ℕ → Option ℕ → PkderOutcome
checked_outcome taken None = accepted_outcome taken 0
checked_outcome taken (Some place) =
    record { status = 5; reason = 0; inside_reason = 0; which = 0; at = place; inside_at = 0; taken = taken; size = 0 }

-- the place and the number of the reason inside, 0 and 0 where there is none
abbrev pub inside_of : Option (ℕ × Reason) → ℕ × ℕ
inside_of None = (0, 0)
inside_of (Some inside) = (inside.0, number_of inside.1)

abbrev pub refused_outcome : Refusal → PkderOutcome
refused_outcome (Fault found) =
    record {
      status = 1;
      reason = number_of found.why;
      inside_reason = (inside_of found.inside).1;
      which = 0;
      at = found.at;
      inside_at = (inside_of found.inside).0;
      taken = 0;
      size = 0;
    }
refused_outcome Memory =
    record { status = 3; reason = 0; inside_reason = 0; which = 0; at = 0; inside_at = 0; taken = 0; size = 0 }
refused_outcome Call =
    record { status = 4; reason = 0; inside_reason = 0; which = 0; at = 0; inside_at = 0; taken = 0; size = 0 }

-- what `check` says of octets with this answer
abbrev pub answered_outcome : ℕ → Answer → PkderOutcome
answered_outcome taken answers.Der = checked_outcome taken None
answered_outcome taken (answers.NotDer place) = checked_outcome taken (Some place)
answered_outcome taken (answers.Refused found) = refused_outcome (Fault found)

-- the same with the octets of a report that is written
abbrev pub reported_outcome : ℕ → Answer → ℕ → PkderOutcome
reported_outcome taken answer size = record (answered_outcome taken answer) { status = 6; size = size }

-- of one that there is no room for
abbrev pub unreported_outcome : ℕ → Answer → ℕ → PkderOutcome
unreported_outcome taken answer size = record (answered_outcome taken answer) { status = 7; size = size }

-- by whether two documents are the same
abbrev pub compared_outcome : Bool → PkderOutcome
compared_outcome true = accepted_outcome 0 0
compared_outcome false =
    record { status = 8; reason = 0; inside_reason = 0; which = 0; at = 0; inside_at = 0; taken = 0; size = 0 }

-- of two documents that are not compared: a fault, and which of them has it
abbrev pub uncompared_outcome : PairRefusal → PkderOutcome
uncompared_outcome pairs.Call = refused_outcome Call
uncompared_outcome (pairs.First found) = record (refused_outcome (Fault found)) { which = 1 }
uncompared_outcome (pairs.Second found) = record (refused_outcome (Fault found)) { which = 2 }
uncompared_outcome pairs.Memory = refused_outcome Memory

-- What documents count as, and how many do.
use Rattle.std.specs.Prelude.{◌+◌, ◌-◌, ◌==◌, ◌^◌, ◌∷◌, ℕ, List, None, Option, Some, [], count_by, get_or, length, map, max, min, set}
use Rattle.std.specs.List.{range_with_len}
use Rattle.tlv_core.specs.Reasons.{number_of as number_of_reason}
use Rattle.tlv_core.specs.declared.fault.Fault.{Fault}
use Rattle.tlv_core.specs.declared.reason.Reason.{Reason}
use Rattle.pk_documents.specs.KindRows.{number_of as number_of_kind}
use Rattle.pk_documents.specs.declared.kind.Kind.{Kind}
use Rattle.commands.specs.declared.files.Came.{Came}
use Rattle.commands.specs.declared.files.Came.TheVariants.{Ran, Unopened}
use Rattle.commands.specs.declared.outcome.Outcome.{Outcome}
use Rattle.commands.specs.declared.outcome.Outcome.TheVariants as outcomes
use Rattle.commands.specs.declared.tally.Tally.{Tally}
use Rattle.commands.specs.declared.tally.Verdict.{Verdict}
use Rattle.commands.specs.declared.tally.Verdict.TheVariants.{NotDer, Noted, Refused, Sound, Unread}

-- of octets of no kind, the reason why they aren't of the likely one
abbrev pub likely_reason : Option (Kind × Fault) → Option Reason
likely_reason None = None
likely_reason (Some likely) = Some likely.1.why

-- what a document counts as, by how a run over it ended, and by its kind where that is known
abbrev pub verdict_of : Outcome → Option Kind → Verdict
verdict_of outcomes.Done kind = Sound kind
verdict_of (outcomes.NotDer at) kind = NotDer kind
verdict_of outcomes.Noted kind = Noted kind
verdict_of (outcomes.Fault found) kind = Refused (Some found.why)
verdict_of (outcomes.NoKind likely) kind = Refused (likely_reason likely)
verdict_of (outcomes.Explained found) kind = Refused (Some found.why)
verdict_of (outcomes.ReadFailed at) kind = Unread
verdict_of (outcomes.WriteFailed after) kind = Unread
verdict_of outcomes.Memory kind = Unread

abbrev pub verdict_of_came : Came → Option Kind → Verdict
verdict_of_came (Ran outcome) kind = verdict_of outcome kind
verdict_of_came (Unopened why) kind = Unread

abbrev pub status_of_verdict : Verdict → ℕ
status_of_verdict (Sound kind) = 0
status_of_verdict (NotDer kind) = 1
status_of_verdict (Refused why) = 2
status_of_verdict Unread = 3
status_of_verdict (Noted kind) = 5

-- ---- the rows in which a verdict counts

abbrev pub verdict_row : Verdict → ℕ
verdict_row (Sound kind) = 0
verdict_row (NotDer kind) = 1
verdict_row (Noted kind) = 2
verdict_row (Refused why) = 3
verdict_row Unread = 4

-- by the kind, at 0 where that isn't known
abbrev pub kind_number : Option Kind → ℕ
kind_number None = 0
kind_number (Some kind) = number_of_kind kind

-- seven rows for each verdict that says a kind, and none for others
abbrev pub kind_row : Verdict → ℕ
kind_row (Sound kind) = kind_number kind
kind_row (NotDer kind) = 7 + kind_number kind
kind_row (Noted kind) = 14 + kind_number kind
kind_row (Refused why) = 21
kind_row Unread = 21

abbrev pub reason_number : Option Reason → ℕ
reason_number None = 0
reason_number (Some why) = number_of_reason why

abbrev pub reason_row : Verdict → ℕ
reason_row (Refused why) = reason_number why
reason_row _ = 28

-- ---- how many there are

-- as far as 64 bits count
abbrev pub counted : ℕ → ℕ
counted count = min count (2 ^ 64 - 1)

abbrev pub raised : List ℕ → ℕ → List ℕ
raised counts row = set counts row (counted (get_or counts row 0 + 1))

-- how many verdicts count in each of so many rows
unfoldable pub counts : (Verdict → ℕ) → ℕ → List Verdict → List ℕ
counts row_of size all =
    map (λ row. counted (count_by (λ it. row_of it == row) all)) (range_with_len 0 size)

abbrev pub greatest : List Verdict → ℕ
greatest [] = 0
greatest (verdict ∷ all) = max (status_of_verdict verdict) (greatest all)

abbrev pub tally_of : List Verdict → Tally
tally_of all = record {
  status = greatest all;
  files = counted (length all);
  verdicts = counts verdict_row 5 all;
  kinds = counts kind_row 21 all;
  reasons = counts reason_row 28 all;
}

-- The line that says how many documents count as what.
use Rattle.std.specs.Prelude.{◌++◌, ◌+◌, ◌==◌, ◌∷◌, ◌⊎◌, ℕ, List, [], codes, cond, decimal, is_none, length, slice_index}
use Rattle.json.specs.Print.{print}
use Rattle.json.specs.Token.{Token}
use Rattle.tlv_core.specs.Reasons.{name_of, number_of as number_of_reason}
use Rattle.tlv_core.specs.declared.reason.Reason.{Reason}
use Rattle.pk_documents.specs.KindRows.{number_of as number_of_kind, word_of}
use Rattle.pk_documents.specs.declared.kind.Kind.{Kind}
use Rattle.pk_documents.specs.declared.kind.TheConstants.{KINDS}
use Rattle.explain.specs.Written.{version}
use Rattle.reports.specs.JsonMembers.{list_member, number_member, object, text_member}
use Rattle.commands.specs.Files.{is_json}
use Rattle.commands.specs.Outcomes.{line_feed, line_of}
use Rattle.commands.specs.declared.outcome.Outcome.TheVariants.{Memory}
use Rattle.commands.specs.declared.sums.TheConstants.{REASONS}
use Rattle.commands.specs.declared.tally.Tally.{Tally}
use Rattle.commands.specs.declared.task.Action.{Action}
use Rattle.commands.specs.declared.task.Action.TheVariants as actions
use Rattle.commands.specs.declared.task.Task.{Task}

-- ---- in words

-- a text and how many there are of something, with a comma after what is before; the text alone where there are none
unfoldable pub with_item : List ℕ → ℕ → List ℕ → List ℕ
with_item text count words =
    cond (count == 0) text (text ++ cond (length text == 0) [] (codes ", ") ++ decimal count ++ codes " " ++ words)

-- in brackets after a blank, where there is something
abbrev pub bracketed : List ℕ → List ℕ
bracketed text = cond (length text == 0) [] (codes " (" ++ text ++ codes ")")

-- how many are of each of these kinds, of the verdict whose rows begin here
unfoldable pub kind_items : Tally → ℕ → List ℕ → List Kind → List ℕ
kind_items tally row text [] = text
kind_items tally row text (kind ∷ kinds) =
    kind_items tally row (with_item text (slice_index tally.kinds (row + number_of_kind kind)) (word_of kind)) kinds

-- the same, where the kind of each document was to be found
abbrev pub kinds_text : Task → Tally → ℕ → List ℕ
kinds_text task tally row = cond (is_none task.kind) (kind_items tally row [] KINDS) []

-- how many are refused for each of these reasons
unfoldable pub reason_items : Tally → List ℕ → List Reason → List ℕ
reason_items tally text [] = text
reason_items tally text (why ∷ whys) =
    reason_items tally (with_item text (slice_index tally.reasons (number_of_reason why)) (name_of why)) whys

-- the same of all reasons, after how many are of no kind
abbrev pub reasons_text : Tally → List ℕ
reasons_text tally = reason_items tally (with_item [] (slice_index tally.reasons 0) (codes "of no kind")) REASONS

-- what a document is of which all was written that was asked for
abbrev pub sound_word : Action → List ℕ
sound_word (actions.Show json) = codes "shown"
sound_word _ = codes "DER"

-- how many there are of each verdict
unfoldable pub verdict_items : Task → Tally → List ℕ
verdict_items task tally =
    with_item (with_item (with_item (with_item (with_item []
    (slice_index tally.verdicts 0) (sound_word task.action ++ bracketed (kinds_text task tally 0)))
    (slice_index tally.verdicts 1) (codes "not DER" ++ bracketed (kinds_text task tally 7)))
    (slice_index tally.verdicts 2) (codes "noted" ++ bracketed (kinds_text task tally 14)))
    (slice_index tally.verdicts 3) (codes "refused" ++ bracketed (reasons_text tally)))
    (slice_index tally.verdicts 4) (codes "unread")

abbrev pub documents_word : ℕ → List ℕ
documents_word count = cond (count == 1) (codes " document") (codes " documents")

abbrev pub after_colon : List ℕ → List ℕ
after_colon text = cond (length text == 0) [] (codes ": " ++ text)

unfoldable pub sum_words : Task → Tally → List ℕ
sum_words task tally =
    codes "sum: " ++ decimal tally.files ++ documents_word tally.files ++ after_colon (verdict_items task tally) ++ line_feed

-- ---- as JSON

abbrev pub sound_key : Action → List ℕ
sound_key (actions.Show json) = codes "shown"
sound_key _ = codes "der"

-- how many documents of a kind are of each verdict that says one
unfoldable pub kind_counts : Task → Tally → Kind → List Token
kind_counts task tally kind =
    number_member (sound_key task.action) (slice_index tally.kinds (0 + number_of_kind kind))
    ++ number_member (codes "not_der") (slice_index tally.kinds (7 + number_of_kind kind))
    ++ number_member (codes "noted") (slice_index tally.kinds (14 + number_of_kind kind))

unfoldable pub kind_object : Task → Tally → Kind → List Token
kind_object task tally kind =
    object (text_member (codes "kind") (word_of kind) ++ kind_counts task tally kind)

unfoldable pub kind_objects : Task → Tally → List Kind → List Token
kind_objects task tally [] = []
kind_objects task tally (kind ∷ kinds) = kind_object task tally kind ++ kind_objects task tally kinds

-- how many are refused for a reason, where there are some
unfoldable pub reason_object : Tally → Reason → List Token
reason_object tally why =
    cond (slice_index tally.reasons (number_of_reason why) == 0) []
    (object (text_member (codes "reason") (name_of why)
    ++ number_member (codes "count") (slice_index tally.reasons (number_of_reason why))))

unfoldable pub reason_objects : Tally → List Reason → List Token
reason_objects tally [] = []
reason_objects tally (why ∷ whys) = reason_object tally why ++ reason_objects tally whys

-- how many there are of the other verdicts
unfoldable pub other_members : Tally → List Token
other_members tally =
    number_member (codes "not_der") (slice_index tally.verdicts 1)
    ++ number_member (codes "noted") (slice_index tally.verdicts 2)
    ++ number_member (codes "refused") (slice_index tally.verdicts 3)
    ++ number_member (codes "unread") (slice_index tally.verdicts 4)

-- how many there are, and of each verdict
unfoldable pub count_members : Task → Tally → List Token
count_members task tally =
    number_member (codes "documents") tally.files
    ++ number_member (sound_key task.action) (slice_index tally.verdicts 0)
    ++ other_members tally

unfoldable pub kinds_member : Task → Tally → List Token
kinds_member task tally = list_member (codes "kinds") (kind_objects task tally KINDS)

unfoldable pub reasons_member : Tally → List Token
reasons_member tally = list_member (codes "reasons") (reason_objects tally REASONS)

-- how many there are of each kind, and refused for each reason
unfoldable pub list_members : Task → Tally → List Token
list_members task tally =
    kinds_member task tally ++ number_member (codes "no_kind") (slice_index tally.reasons 0) ++ reasons_member tally

unfoldable pub head_members : List Token
head_members = number_member (codes "form") 1 ++ text_member (codes "version") version

unfoldable pub sum_members : Task → Tally → List Token
sum_members task tally = head_members ++ count_members task tally ++ list_members task tally

unfoldable pub sum_object : Task → Tally → List Token
sum_object task tally = object (sum_members task tally)

-- ---- the line, and what ends a run with it

-- the line of what documents count as that the task was done with
abbrev pub sum_line : Task → Tally → List ℕ
sum_line task tally =
    cond (is_json task.action) (print (sum_object task tally) ++ line_feed) (sum_words task tally)

-- It is written, and the status is the largest one; or there is no memory for it, and that is said.
abbrev pub SumsUp : (List ℕ → ℕ → Type 0) → Task → Tally → Type 0
SumsUp Says task tally = Says (sum_line task tally) tally.status ⊎ Says (line_of Memory) 3

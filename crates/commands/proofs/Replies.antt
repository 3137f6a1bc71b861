-- What is answered and written, as replies.
use Rattle.std.proofs.Common.{◌≡◌, ◌∙◌, ◌≤◌, ◌++◌, arith, Bool, Err, IfOk, IsErr, List, MatchOption, MatchResult, [], None, Ok, Option, Result, Some, ap, false, inl, length, refl, string_bytes, subst, sym, ℕ}
use Rattle.std.specs.Io.KnownBytes.{Consumes, IsAtEnd}
use Rattle.tlv_core.specs.declared.fault.ReadError.{ReadError}
use Rattle.tlv_core.specs.declared.fault.ReadError.TheVariants.{Fault as FaultRead, Read as ReadAt, Memory as MemoryRead}
use Rattle.tlv_core.specs.Limits.{IsLimits, Limits}
use Rattle.tlv_core.specs.declared.sink.WriteError.{WriteError}
use Rattle.x690.specs.Answers.{Spelled, answer}
use Rattle.x690.specs.Premises.{Lawful}
use Rattle.x690.specs.DerTexts.{der}
use Rattle.x690.specs.TypeTerms.{TypeTerm}
use Rattle.x690.specs.Values.{Same, Value}
use Rattle.asn_documents.specs.Normalised.{FailedAs, NormalisedAs, Took, WrittenInPart}
use Rattle.asn_documents.specs.ReadValues.{ReadsValue, StopsReading}
use Rattle.asn_documents.specs.WholeInputs.{RefusedWhole}
use Rattle.asn_documents.specs.WrittenValues.{WritesText}
use Rattle.asn_documents.specs.declared.normalise.NormaliseError.TheVariants.{Read}
use Rattle.asn_documents.proofs.Normalising.{took_as}
use Rattle.commands.specs.declared.outcome.Outcome.{Outcome}
use Rattle.commands.specs.declared.outcome.Outcome.TheVariants as outcomes
use Rattle.commands.specs.Outcomes.{IsWhole, words_of}
use Rattle.commands.specs.declared.reply.Reply.{Reply}
use Rattle.commands.specs.Replies.{DueOfValue, FailedBy, IsSilent, RepliedAs, RepliedTo, Unreadable, WroteText, unread_outcome, written_outcome}

-- what is said of none holds of what is not there
pub of_none : {A : Type 0} (P : Type 0) (Q : A → Type 0) (option : Option A) → ((x : A) → option ≡ Some x → ⊥)
    → MatchOption option P Q → P
of_none P Q None not said = said
of_none P Q (Some x) not said = absurd (not x refl)

-- ---- what was not read

module _ (Stopped : ReadError → Type 0) (Due : Outcome → List ℕ → Type 0) (old new : Option (List ℕ)) where
  stopped : (error : ReadError) → Stopped error → RepliedAs Stopped Due (unread_outcome error) old new
  stopped (FaultRead found) h = h
  stopped (ReadAt at) h = h
  stopped MemoryRead h = h

  pub unread_replies : (error : ReadError) (outcome : Outcome) → outcome ≡ unread_outcome error → Stopped error
      → RepliedAs Stopped Due outcome old new
  unread_replies error outcome is h = subst (λ o. RepliedAs Stopped Due o old new) (sym is) (stopped error h)

-- What is due and what stops a run may be said otherwise.
pub replies_as : (Stopped Halted : ReadError → Type 0) (Due Owed : Outcome → List ℕ → Type 0)
    (old new : Option (List ℕ)) → ((error : ReadError) → Stopped error → Halted error)
    → ((outcome : Outcome) (text : List ℕ) → Due outcome text → Owed outcome text)
    → (outcome : Outcome) → RepliedAs Stopped Due outcome old new → RepliedAs Halted Owed outcome old new
replies_as Stopped Halted Due Owed old new halts owes outcomes.Done h = (h.0, owes outcomes.Done h.0 h.1, h.2)
replies_as Stopped Halted Due Owed old new halts owes (outcomes.NotDer at) h =
    (h.0, owes (outcomes.NotDer at) h.0 h.1, h.2)
replies_as Stopped Halted Due Owed old new halts owes outcomes.Noted h = (h.0, owes outcomes.Noted h.0 h.1, h.2)
replies_as Stopped Halted Due Owed old new halts owes (outcomes.Explained found) h =
    (h.0, owes (outcomes.Explained found) h.0 h.1, h.2)
replies_as Stopped Halted Due Owed old new halts owes (outcomes.WriteFailed count) h =
    (h.0, h.1, owes h.1 h.0 h.2, h.3, h.4)
replies_as Stopped Halted Due Owed old new halts owes (outcomes.Fault found) h = halts (FaultRead found) h
replies_as Stopped Halted Due Owed old new halts owes (outcomes.NoKind likely) h = absurd h
replies_as Stopped Halted Due Owed old new halts owes (outcomes.ReadFailed at) h = halts (ReadAt at) h
replies_as Stopped Halted Due Owed old new halts owes outcomes.Memory h = halts MemoryRead h

unread_failed : (error : ReadError) (source target : Bool) → FailedAs (Read error) source target
    → FailedBy (unread_outcome error) source target
unread_failed (FaultRead found) source target h = h
unread_failed (ReadAt at) source target h = h
unread_failed MemoryRead source target h = h

pub unread_fails : (error : ReadError) (outcome : Outcome) (source target : Bool) → outcome ≡ unread_outcome error
    → FailedAs (Read error) source target → FailedBy outcome source target
unread_fails error outcome source target is h =
    subst (λ o. FailedBy o source target) (sym is) (unread_failed error source target h)

-- memory ran out after a value that was taken
pub no_memory : (limits : Limits) (type : TypeTerm) (before after : Option (List ℕ)) (octets text : List ℕ)
    → Consumes before after octets
    → ((more : List ℕ) → answer limits type (octets ++ more) ≡ Spelled text (length octets))
    → length octets ≤ limits.octets → Unreadable limits type MemoryRead before after
no_memory limits type None after octets text takes spells fit = inl (tt, tt)
no_memory limits type (Some before) None octets text takes spells fit = absurd takes
no_memory limits type (Some before) (Some after) octets text takes spells fit = inl (
  (octets, takes, λ other n a. within other n (sym (spells after) ∙ sym (ap (answer limits type) takes) ∙ a), fit),
  tt,
)
  where
    within : (other : List ℕ) (n : ℕ) → Spelled text (length octets) ≡ Spelled other n → length octets ≤ n
    within other n e = let count : length octets ≡ n = cc in omega (arith, count)

-- ---- what is written

-- all of what is due, or its first octets
pub written_replies : (Stopped : ReadError → Type 0) (Due : Outcome → List ℕ → Type 0) (old new : Option (List ℕ))
    (text : List ℕ) (count : Result ℕ WriteError) (failed : Bool) (outcome whole : Outcome)
    → outcome ≡ written_outcome count whole → IsWhole whole → WritesText text old new failed count → Due whole text
    → RepliedAs Stopped Due outcome old new
written_replies Stopped Due old new text count failed outcome whole is ends writes due =
    subst (λ o. RepliedAs Stopped Due o old new) (sym is) (go count whole ends writes due)
  where
    go : (count : Result ℕ WriteError) (whole : Outcome) → IsWhole whole → WritesText text old new failed count
        → Due whole text
        → RepliedAs Stopped Due (written_outcome count whole) old new
    go (Ok n) outcomes.Done ends writes due = (text, due, writes.1)
    go (Ok n) (outcomes.NotDer at) ends writes due = (text, due, writes.1)
    go (Ok n) outcomes.Noted ends writes due = (text, due, writes.1)
    go (Ok n) (outcomes.Explained found) ends writes due = (text, due, writes.1)
    go (Ok n) (outcomes.Fault found) ends writes due = absurd ends
    go (Ok n) (outcomes.NoKind likely) ends writes due = absurd ends
    go (Ok n) (outcomes.ReadFailed at) ends writes due = absurd ends
    go (Ok n) (outcomes.WriteFailed count) ends writes due = absurd ends
    go (Ok n) outcomes.Memory ends writes due = absurd ends
    go (Err error) whole ends writes due = (text, whole, due, writes.0, writes.1)

pub written_speaks : (count : Result ℕ WriteError) (outcome whole : Outcome)
    → outcome ≡ written_outcome count whole → IsWhole whole → IsSilent outcome → ⊥
written_speaks count outcome whole is ends silent = go count whole ends (subst IsSilent is silent)
  where
    go : (count : Result ℕ WriteError) (whole : Outcome) → IsWhole whole → IsSilent (written_outcome count whole) → ⊥
    go (Ok n) outcomes.Done ends h = h
    go (Ok n) (outcomes.NotDer at) ends h = h
    go (Ok n) outcomes.Noted ends h = h
    go (Ok n) (outcomes.Explained found) ends h = h
    go (Ok n) (outcomes.Fault found) ends h = ends
    go (Ok n) (outcomes.NoKind likely) ends h = ends
    go (Ok n) (outcomes.ReadFailed at) ends h = ends
    go (Ok n) (outcomes.WriteFailed count) ends h = ends
    go (Ok n) outcomes.Memory ends h = ends
    go (Err error) whole ends h = h

pub written_fails : (text : List ℕ) (old new : Option (List ℕ)) (count : Result ℕ WriteError)
    (outcome whole : Outcome) (source target : Bool)
    → outcome ≡ written_outcome count whole → IsWhole whole → WritesText text old new target count → source ≡ false
    → FailedBy outcome source target
written_fails text old new count outcome whole source target is ends writes fine =
    subst (λ o. FailedBy o source target) (sym is) (go count whole ends writes)
  where
    go : (count : Result ℕ WriteError) (whole : Outcome) → IsWhole whole → WritesText text old new target count
        → FailedBy (written_outcome count whole) source target
    go (Ok n) outcomes.Done ends writes = (fine, writes.2)
    go (Ok n) (outcomes.NotDer at) ends writes = (fine, writes.2)
    go (Ok n) outcomes.Noted ends writes = (fine, writes.2)
    go (Ok n) (outcomes.Explained found) ends writes = (fine, writes.2)
    go (Ok n) (outcomes.Fault found) ends writes = absurd ends
    go (Ok n) (outcomes.NoKind likely) ends writes = absurd ends
    go (Ok n) (outcomes.ReadFailed at) ends writes = absurd ends
    go (Ok n) (outcomes.WriteFailed count) ends writes = absurd ends
    go (Ok n) outcomes.Memory ends writes = absurd ends
    go (Err error) whole ends writes = (fine, writes.2)

-- ---- what is written in blocks

-- A document was normalised into blocks, and the count answered when these were closed.
module _ (limits : Limits) (type : TypeTerm) (value : Value) (before after held_first held old new : Option (List ℕ))
    (failed : Bool) (count : Result ℕ WriteError) (outcome : Outcome)
    (is : outcome ≡ written_outcome count outcomes.Done) (ends : IsAtEnd after)
    (writes : WritesText (der value) old new failed count) where
  in_part : (taken : ℕ) (error : WriteError) → Took limits type value before after taken
      → WritesText (der value) old new failed (Err error)
      → RepliedTo limits type (outcomes.WriteFailed error.written) before after old new
  in_part taken error took w = ((value, record { taken = taken; took = took; within = w.0; writes = w.1 }), ends)

  pub normalised_replies : (taken written : ℕ)
      → NormalisedAs limits type value before after held_first held taken written
      → RepliedTo limits type outcome before after old new
  normalised_replies taken written h =
      subst (λ o. RepliedTo limits type o before after old new) (sym is) (go count writes)
    where
      whole : (n : ℕ) → WritesText (der value) old new failed (Ok n)
          → RepliedTo limits type outcomes.Done before after old new
      whole n w = (
        (
          value,
          taken,
          n,
          record {
            took = h.took;
            writes = w.1;
            written_are = w.0;
            reads_back = h.reads_back;
            again = h.again;
            same = h.same;
          },
        ),
        ends,
      )

      go : (count : Result ℕ WriteError) → WritesText (der value) old new failed count
          → RepliedTo limits type (written_outcome count outcomes.Done) before after old new
      go (Ok n) w = whole n w
      go (Err error) w = in_part taken error h.took w

  pub cut_replies : (written : ℕ) → WrittenInPart limits type value before after held_first held written → IsErr count
      → RepliedTo limits type outcome before after old new
  cut_replies written h cut =
      subst (λ o. RepliedTo limits type o before after old new) (sym is) (go count cut writes)
    where
      go : (count : Result ℕ WriteError) → IsErr count → WritesText (der value) old new failed count
          → RepliedTo limits type (written_outcome count outcomes.Done) before after old new
      go (Ok n) cut w = absurd cc
      go (Err error) cut w = in_part h.taken error h.took w

pub unread_in_blocks : (limits : Limits) (type : TypeTerm) (error : ReadError) (outcome : Outcome)
    (before after held_first held old new : Option (List ℕ))
    → outcome ≡ unread_outcome error → RefusedWhole limits type (Read error) before after held_first held
    → RepliedTo limits type outcome before after old new
unread_in_blocks limits type error outcome before after held_first held old new is h =
    subst (λ o. RepliedTo limits type o before after old new) (sym is) (go error h)
  where
    go : (error : ReadError) → RefusedWhole limits type (Read error) before after held_first held
        → RepliedTo limits type (unread_outcome error) before after old new
    go (FaultRead found) h = h
    go (ReadAt at) h = h
    go MemoryRead h = h

-- No block was to be had, and nothing is taken.
stops_at_once : (limits : Limits) (type : TypeTerm) (before : Option (List ℕ))
    → StopsReading limits type MemoryRead before before
stops_at_once limits type None = tt
stops_at_once limits type (Some before) = ([], refl, λ text taken a. omega arith, omega arith)

pub no_block : (limits : Limits) (type : TypeTerm) (before old new : Option (List ℕ))
    → RepliedTo limits type outcomes.Memory before before old new
no_block limits type before old new = inl (stops_at_once limits type before, tt)

-- a text, or why there is none
module _ {S E W : Type 0} (octets_of : S → List ℕ) (whole_of : S → Outcome) (why : E → Outcome) (first last : W)
    (contents : W → Option (List ℕ)) (has_failed : W → Bool) (outcome : Outcome) where
  pub text_replies : (Stopped : ReadError → Type 0) (Due : Outcome → List ℕ → Type 0) (text : Result S E)
      → IfOk text (λ t. IsWhole (whole_of t))
      → MatchResult text (λ t. Due (whole_of t) (octets_of t))
      (λ error. RepliedAs Stopped Due (why error) (contents first) (contents last))
      → WroteText octets_of whole_of why text outcome (contents first) (contents last) (has_failed last) (last ≡ first)
      → RepliedAs Stopped Due outcome (contents first) (contents last)
  text_replies Stopped Due (Ok text) ends due h =
      written_replies Stopped Due (contents first) (contents last) (octets_of text) h.0 (has_failed last) outcome
      (whole_of text) h.1 ends h.2 due
  text_replies Stopped Due (Err error) ends due h =
      subst (λ o. RepliedAs Stopped Due o (contents first) (contents last)) (sym h.0) due

  pub text_silent : (text : Result S E) → IfOk text (λ t. IsWhole (whole_of t))
      → WroteText octets_of whole_of why text outcome (contents first) (contents last) (has_failed last) (last ≡ first)
      → IsSilent outcome → last ≡ first
  text_silent (Ok text) ends h silent = absurd (written_speaks h.0 outcome (whole_of text) h.1 ends silent)
  text_silent (Err error) ends h silent = h.1

  pub text_fails : (text : Result S E) (source : Bool) → IfOk text (λ t. IsWhole (whole_of t))
      → has_failed first ≡ false
      → MatchResult text (λ _. source ≡ false) (λ error. FailedBy (why error) source false)
      → WroteText octets_of whole_of why text outcome (contents first) (contents last) (has_failed last) (last ≡ first)
      → FailedBy outcome source (has_failed last)
  text_fails (Ok text) source ends writable fine h =
      written_fails (octets_of text) (contents first) (contents last) h.0 outcome (whole_of text) source
      (has_failed last)
      h.1 ends h.2 fine
  text_fails (Err error) source ends writable fine h =
      subst (λ o. FailedBy o source (has_failed last)) (sym h.0)
      (subst (FailedBy (why error) source) (sym (ap has_failed h.1 ∙ writable)) fine)

pub whole_says : (outcome : Outcome) → words_of outcome ≡ [] → IsWhole outcome
whole_says outcomes.Done says = tt
whole_says (outcomes.NotDer at) says = tt
whole_says outcomes.Noted says = tt
whole_says (outcomes.Explained found) says = tt
whole_says (outcomes.Fault found) says = absurd cc
whole_says (outcomes.NoKind None) says = absurd cc
whole_says (outcomes.NoKind (Some likely)) says = absurd cc
whole_says (outcomes.ReadFailed at) says = absurd cc
whole_says (outcomes.WriteFailed count) says = absurd cc
whole_says outcomes.Memory says = absurd cc

-- what a run is to write, by what it read
module _ {W : Type 0} (first last : W) (contents : W → Option (List ℕ)) (failed : Bool) (outcome : Outcome) where
  pub reply_replies : (Stopped : ReadError → Type 0) (Due : Outcome → List ℕ → Type 0) (reply : Result Reply ReadError)
      → MatchResult reply (λ it. Due it.whole (string_bytes it.text)) Stopped
      → WroteText (λ it. string_bytes it.text) (λ it. it.whole) unread_outcome reply outcome (contents first)
      (contents last) failed (last ≡ first)
      → RepliedAs Stopped Due outcome (contents first) (contents last)
  reply_replies Stopped Due (Ok reply) due h =
      written_replies Stopped Due (contents first) (contents last)
      (string_bytes reply.text) h.0 failed outcome reply.whole
      h.1 (whole_says reply.whole reply.says_all) h.2 due
  reply_replies Stopped Due (Err error) why h =
      unread_replies Stopped Due (contents first) (contents last) error outcome h.0 why

-- ---- what is due

pub due_of_value : (limits : Limits) (type : TypeTerm) (text_of : Value → List ℕ)
    → ((v w : Value) → Same v w → text_of v ≡ text_of w) → (before after : Option (List ℕ)) (value : Value) (taken : ℕ)
    → Lawful type → IsLimits limits → ReadsValue limits type value before after taken → IsAtEnd after
    → DueOfValue limits type text_of before after outcomes.Done (text_of value)
due_of_value limits type text_of one before after value taken lawful limited read ends = (
  read.spelled,
  taken,
  took_as limits type value before after taken lawful limited read,
  ends,
  refl,
  sym (one read.spelled value read.same),
)

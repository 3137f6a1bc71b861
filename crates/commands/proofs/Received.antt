-- What is answered with the octets of certificationRequestInfo as they came.
use Rattle.std.proofs.Common.{◌≡◌, ◌+◌, Err, IfErr, IfOk, List, MatchResult, Ok, Option, Result, false, inr, refl, ℕ}
use Rattle.tlv_core.specs.Limits.{Limits}
use Rattle.tlv_core.specs.declared.fault.ReadError.{ReadError}
use Rattle.tlv_core.specs.declared.fault.ReadError.TheVariants.{Fault, Memory, Read}
use Rattle.pk_documents.specs.declared.kind.Kind.TheVariants.{Request}
use Rattle.explain.specs.Received.{NotReceived, Received}
use Rattle.commands.specs.Outcomes.{IsWhole}
use Rattle.commands.specs.Inputs.{TakesFirst}
use Rattle.commands.specs.Replies.{DueOfOctets, DueOfReceived, FailedBy, RepliedReceived, StopsShowing, unread_outcome}
use Rattle.commands.specs.Reported.{Unreported}
use Rattle.commands.specs.declared.outcome.Outcome.TheVariants as outcomes
use Rattle.commands.proofs.Replies.{unread_replies}

unreported : (limits : Limits) (octets : List ℕ) (error : ReadError) → NotReceived limits octets error
    → Unreported limits Request octets error
unreported limits octets (Fault found) h = h
unreported limits octets (Read at) h = h
unreported limits octets Memory h = h

-- of the octets that were taken
module _ {S : Type 0} (items : S → List ℕ) (limits : Limits) (octets : List ℕ) where
  pub received_due : (before after old new : Option (List ℕ)) (made : Result S ReadError)
      → TakesFirst (limits.octets + 1) before after octets → IfOk made (λ part. Received limits octets (items part))
      → IfErr made (NotReceived limits octets)
      → MatchResult made
      (λ part. DueOfOctets limits (DueOfReceived limits) before after outcomes.Done (items part))
      (λ error. RepliedReceived limits (unread_outcome error) before after old new)
  received_due before after old new (Ok part) taken is not = (octets, taken, (refl, is))
  received_due before after old new (Err error) taken is not =
      unread_replies (λ error. StopsShowing limits Request error before after)
      (DueOfOctets limits (DueOfReceived limits) before after) old new error (unread_outcome error) refl
      (inr (octets, taken, unreported limits octets error not))

  pub received_fine : (made : Result S ReadError) → IfErr made (NotReceived limits octets)
      → MatchResult made (λ _. false ≡ false) (λ error. FailedBy (unread_outcome error) false false)
  received_fine (Ok part) not = refl
  received_fine (Err (Fault found)) not = (refl, refl)
  received_fine (Err (Read at)) not = absurd not
  received_fine (Err Memory) not = (refl, refl)

  pub all_whole : (made : Result S ReadError) → IfOk made (λ _. IsWhole outcomes.Done)
  all_whole (Ok part) = tt
  all_whole (Err error) = tt

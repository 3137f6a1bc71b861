-- What is said of octets whose kind is to be found.
use Rattle.std.proofs.Common.{Bool, List, Option, Some, [], ap, false, inl, inr, refl, subst, sym, ℕ, ◌∙◌, ◌≡◌, ◌⊎◌}
use Rattle.tlv_core.specs.Limits.{Limits}
use Rattle.x690.specs.Values.{Value}
use Rattle.pk_documents.specs.declared.document.Document.{Document}
use Rattle.pk_documents.specs.declared.kind.Kind.{Kind}
use Rattle.commands.specs.Files.{kept}
use Rattle.commands.specs.Replies.{FailedBy, RepliedBy, SaidOfOne}
use Rattle.commands.specs.declared.outcome.Outcome.{Outcome}
use Rattle.commands.specs.declared.outcome.Outcome.TheVariants.{Done, Explained, Fault, Memory, NoKind, NotDer, Noted, ReadFailed, WriteFailed}
use Rattle.commands.specs.declared.task.Action.{Action}

-- neither a read nor a write failed where a run over octets in memory wrote into memory
pub kept_sure : (outcome : Outcome) (target : Bool) → FailedBy outcome false target
    → FailedBy (kept outcome) false false
kept_sure Done target h = (refl, refl)
kept_sure (NotDer at) target h = (refl, refl)
kept_sure Noted target h = (refl, refl)
kept_sure (Fault found) target h = (refl, refl)
kept_sure (NoKind likely) target h = (refl, refl)
kept_sure (Explained found) target h = (refl, refl)
kept_sure (ReadFailed at) target h = (h.0, refl)
kept_sure (WriteFailed count) target h = (refl, refl)
kept_sure Memory target h = (refl, refl)

-- it ended as it is kept, or memory ran out
pub kept_says : (outcome : Outcome) → (kept outcome ≡ Memory) ⊎ (kept outcome ≡ outcome)
kept_says Done = inr refl
kept_says (NotDer at) = inr refl
kept_says Noted = inr refl
kept_says (Fault found) = inr refl
kept_says (NoKind likely) = inr refl
kept_says (Explained found) = inr refl
kept_says (ReadFailed at) = inr refl
kept_says (WriteFailed count) = inl refl
kept_says Memory = inr refl

-- ---- what is said of octets as those of a document of one kind

module _ (value_of : Document → Value) (action : Action) (file : Option (List ℕ)) (limits : Limits)
    (octets : List ℕ) (kind : Kind) (end : Outcome) (text : List ℕ) where
  pub said_one : (outcome : Outcome) (after : Option (List ℕ)) → end ≡ kept outcome
      → RepliedBy value_of action file kind limits outcome (Some octets) after (Some []) (Some text)
      → SaidOfOne value_of action file limits octets kind (λ written. written) end text
  said_one outcome after is replied =
      elim (kept_says outcome) [
        | inl memory ↦ inl (is ∙ memory)
        | inr same ↦
            inr (
              text,
              after,
              subst (λ o. RepliedBy value_of action file kind limits o (Some octets) after (Some []) (Some text))
                  (sym (is ∙ same)) replied,
              refl,
            )
      ]

  -- a text that is made of what was written
  pub said_more : (text_of : List ℕ → List ℕ) (written : List ℕ) → text ≡ text_of written
      → SaidOfOne value_of action file limits octets kind (λ it. it) end written
      → SaidOfOne value_of action file limits octets kind text_of end text
  said_more text_of written is (inl memory) = inl memory
  said_more text_of written is (inr h) = inr (h.0, h.1, h.2, is ∙ ap text_of h.3)

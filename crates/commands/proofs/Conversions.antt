-- What a conversion comes to.
use Rattle.std.proofs.Common.{◌≡◌, Bool, List, Option, Result, Some, inr, refl, subst, true, ℕ}
use Rattle.x690.specs.Values.{Value}
use Rattle.pk_documents.specs.declared.document.Document.{Document}
use Rattle.commands.specs.Conversions.{ClosesConverted, Converts, ConvertsTo}
use Rattle.commands.specs.Endings.{Served, is_done}
use Rattle.commands.specs.MadeFiles.{Made}
use Rattle.commands.specs.Names.{shown_name}
use Rattle.commands.specs.Standards.{Ends, Seen}
use Rattle.commands.specs.declared.new_file.Unmade.{Unmade}
use Rattle.commands.specs.declared.opener.Unopened.{Unopened as Why}
use Rattle.commands.specs.declared.outcome.Outcome.{Outcome}
use Rattle.commands.specs.declared.outcome.Outcome.TheVariants.{Done, Explained, Fault, Memory, NoKind, NotDer, Noted, ReadFailed, WriteFailed}
use Rattle.commands.specs.declared.task.Task.{Task}

pub done_is : (outcome : Outcome) → is_done outcome ≡ true → outcome ≡ Done
done_is Done done = refl
done_is (NotDer at) done = absurd cc
done_is Noted done = absurd cc
done_is (Fault found) done = absurd cc
done_is (NoKind likely) done = absurd cc
done_is (Explained found) done = absurd cc
done_is (ReadFailed at) done = absurd cc
done_is (WriteFailed count) done = absurd cc
done_is Memory done = absurd cc

module _ {File : Type 0} (value_of : Document → Value) (known : List ℕ → Option (List ℕ))
    (unopened : List ℕ → Why → Type 0)
    (made_of : File → Made) (refuses : List ℕ → Unmade → Type 0) (task : Task) (name known_as : List ℕ)
    (to : Option (List ℕ)) (old new : Seen) (status : ℕ) (result : Result Outcome Unmade)
    (before after : Option (List ℕ))
    (unread : Bool) where
  -- what is done with the document of a name, once that is opened
  pub converts_named : (from named : Option (List ℕ)) (input : Option (Option (List ℕ))) → Some name ≡ from → to ≡ named
      → known_as ≡ shown_name name → before ≡ known name
      → ConvertsTo made_of refuses task (Served value_of task before after unread) to result old.output new.output
      new.output_failed new.flushed
      → ClosesConverted (Ends old new status) (Some known_as) to result
      → Converts value_of known unopened made_of refuses task from named input old new status
  converts_named from named input from_is to_is known_is before_is converted closed =
      subst (λ it. Converts value_of known unopened made_of refuses task it named input old new status) from_is
      (subst (λ it. Converts value_of known unopened made_of refuses task (Some name) it input old new status) to_is
      (inr (inr (
        result,
        after,
        unread,
        subst
            (λ it.
            ConvertsTo made_of refuses task (Served value_of task it after unread) to result old.output new.output
            new.output_failed new.flushed)
            before_is converted,
        subst (λ it. ClosesConverted (Ends old new status) (Some it) to result) known_is closed,
      ))))

-- What may be shown of a document, by the answer to it.
use Rattle.std.proofs.Common.{Err, IfOk, List, None, Ok, Result, [], length, subst, sym, ℕ, ◌∙◌, ◌≡◌}
use Rattle.tlv_core.specs.Limits.{Limits}
use Rattle.tlv_core.specs.declared.fault.Fault.{Fault}
use Rattle.pk_documents.specs.Kinds.{type_of}
use Rattle.pk_documents.specs.declared.kind.Kind.{Kind}
use Rattle.explain.specs.Afters.{IsAfter}
use Rattle.explain.specs.Answers.{IsAnswer}
use Rattle.explain.specs.Disclosures.{IsDisclosed, IsRefused, IsShown}
use Rattle.explain.specs.Guesses.{IsGuess}
use Rattle.explain.specs.declared.disclosed.Disclosed.{Disclosed}
use Rattle.reports.specs.declared.report.After.TheVariants.{Unsaid}
use Rattle.reports.specs.declared.report.Answer.{Answer}
use Rattle.reports.specs.declared.report.Answer.TheVariants.{Der, NotDer, Refused}
use Rattle.reports.specs.declared.report.Guess.{Guess}

-- of a document that is refused
pub refused_disclosed : {E : Type 0}
    → (limits : Limits) (of : Kind) (document : List ℕ) (answer : Answer) (fault : Fault)
    (guess : Guess) (result : Result Disclosed E) → answer ≡ Refused fault
    → IsAnswer limits (type_of of) document answer
    → IsGuess limits of document answer guess → IfOk result (λ disclosed. disclosed.octets ≡ length document)
    → IfOk result (λ disclosed. disclosed.answer ≡ Refused fault)
    → IfOk result
    (λ disclosed. IsRefused limits of document fault disclosed.front.now disclosed.path.items disclosed.class)
    → IfOk result (λ disclosed. disclosed.guess ≡ guess)
    → IfOk result (λ disclosed. IsAfter limits of document (Refused fault) disclosed.after)
    → IfOk result (λ disclosed. IsDisclosed limits of document disclosed)
refused_disclosed limits of document answer fault guess (Ok disclosed) refused is like octets same shown alike after =
    let one : answer ≡ disclosed.answer = refused ∙ sym same in
    record {
      octets = octets;
      answer = subst (IsAnswer limits (type_of of) document) one is;
      shown =
          subst (λ it. IsShown limits of document it disclosed.front.now disclosed.path.items disclosed.class)
          (sym same) shown;
      guess = subst (IsGuess limits of document disclosed.answer) (sym alike)
          (subst (λ it. IsGuess limits of document it guess) one like);
      after = subst (λ it. IsAfter limits of document it disclosed.after) (sym same) after;
    }
refused_disclosed limits of document answer fault guess (Err error) refused is like octets same shown alike after = tt

-- of one that is in DER, or isn't and is accepted
pub der_disclosed : (limits : Limits) (of : Kind) (document : List ℕ) (answer : Answer) (guess : Guess)
    (disclosed : Disclosed)
    → answer ≡ Der → IsAnswer limits (type_of of) document answer → IsGuess limits of document answer guess
    → disclosed.octets ≡ length document → disclosed.answer ≡ answer → disclosed.front.now ≡ document
    → disclosed.path.items ≡ []
    → disclosed.class ≡ None → disclosed.guess ≡ guess → disclosed.after ≡ Unsaid
    → IsDisclosed limits of document disclosed
der_disclosed limits of document answer guess disclosed der is like octets same front path class alike after = record {
  octets = octets;
  answer = subst (IsAnswer limits (type_of of) document) (sym same) is;
  shown =
      subst (λ it. IsShown limits of document it disclosed.front.now disclosed.path.items disclosed.class)
      (sym (same ∙ der))
      (front, path, class);
  guess = subst (IsGuess limits of document disclosed.answer) (sym alike)
      (subst (λ it. IsGuess limits of document it guess) (sym same) like);
  after = subst (λ it. IsAfter limits of document it disclosed.after) (sym (same ∙ der)) after;
}

pub not_der_disclosed : (limits : Limits) (of : Kind) (document : List ℕ) (answer : Answer) (place : ℕ) (guess : Guess)
    (disclosed : Disclosed) → answer ≡ NotDer place → IsAnswer limits (type_of of) document answer
    → IsGuess limits of document answer guess → disclosed.octets ≡ length document → disclosed.answer ≡ answer
    → disclosed.front.now ≡ document → disclosed.path.items ≡ [] → disclosed.class ≡ None → disclosed.guess ≡ guess
    → disclosed.after ≡ Unsaid → IsDisclosed limits of document disclosed
not_der_disclosed limits of document answer at guess disclosed sound is like octets same front path class alike after =
    record {
      octets = octets;
      answer = subst (IsAnswer limits (type_of of) document) (sym same) is;
      shown =
          subst (λ it. IsShown limits of document it disclosed.front.now disclosed.path.items disclosed.class)
          (sym (same ∙ sound))
          (front, path, class);
      guess = subst (IsGuess limits of document disclosed.answer) (sym alike)
          (subst (λ it. IsGuess limits of document it guess) (sym same) like);
      after = subst (λ it. IsAfter limits of document it disclosed.after) (sym (same ∙ sound)) after;
    }

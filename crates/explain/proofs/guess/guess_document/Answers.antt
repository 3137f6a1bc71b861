use Rattle.std.proofs.Common.{Err, IfOk, List, None, Ok, Option, Result, Some, refl, subst, ℕ, ◌≡◌}
use Rattle.tlv_core.specs.Limits.{Limits}
use Rattle.pk_documents.specs.KindRows.{kinds}
use Rattle.pk_documents.specs.declared.kind.Kind.{Kind}
use Rattle.explain.specs.Guesses.{IsDocument, IsFirst, IsOtherDocument}
use Rattle.reports.specs.declared.report.Guess.{Guess}
use Rattle.explain.proofs.guess.guess_document.Goals as goal

-- of no other kind
of_none : {E : Type 0}
    → (limits : Limits) (wanted : Kind) (octets : List ℕ) (found : Option Kind) (result : Result Guess E)
    → found ≡ None → IsFirst limits octets wanted kinds found
    → IfOk result (λ guess. IsDocument limits octets None guess)
    → IfOk result (λ guess. IsOtherDocument limits wanted octets guess)
of_none limits wanted octets found (Ok guess) none first disclosed =
    (None, subst (IsFirst limits octets wanted kinds) none first, disclosed)
of_none limits wanted octets found (Err error) none first disclosed = tt

pub returns-in-None : goal.returns-in-None
returns-in-None c =
    of_none c.args.limits c.args.kind c.args.octets.now _ c.guess_by_headers.result c.in-None.is c.in_ok-other.ensures
    c.guess_by_headers.ensures

pub returns-in-Some : goal.returns-in-Some
returns-in-Some c = (
  Some c.in-Some.other,
  subst (IsFirst c.args.limits c.args.octets.now c.args.kind kinds) c.in-Some.is c.in_ok-other.ensures,
  (c.words_of.result, c.words_of.ensures.word, c.words_of.ensures.type_name, refl),
)

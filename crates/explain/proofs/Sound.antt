-- The answer to a document that is sound.
use Rattle.std.proofs.Common.{List, None, Option, Some, subst, sym, ℕ, ◌≡◌}
use Rattle.tlv_core.specs.Limits.{Limits}
use Rattle.x690.specs.TypeTerms.{TypeTerm}
use Rattle.explain.specs.Answers.{IsAnswer, IsChecked, sound_at}
use Rattle.reports.specs.declared.report.Answer.{Answer}

pub sound_answer : (limits : Limits) (type : TypeTerm) (octets : List ℕ) (place : Option ℕ) (answer : Answer)
    → answer ≡ sound_at place → IsChecked limits type octets place → IsAnswer limits type octets answer
sound_answer limits type octets None answer e h = subst (IsAnswer limits type octets) (sym e) h
sound_answer limits type octets (Some at) answer e h = subst (IsAnswer limits type octets) (sym e) h

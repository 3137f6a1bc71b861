use Rattle.std.proofs.Common.{MatchResult, Some, subst, ◌≡◌}
use Rattle.clap.specs.Words.{found_of, rows_of}
use Rattle.pkder.specs.CommandLines.{BadKinds, kinds_given, kinds_of}
use Rattle.pkder.proofs.CommandLines.{kinds_none, kinds_some}
use Rattle.pkder.proofs.pair.read_kinds.Goals as goal

pub returns-in-Some : goal.returns-in-Some
returns-in-Some c =
    let found = found_of c.args.options.now in
    subst
    (λ key. MatchResult c.kinds_among.result (λ kinds. kinds_of key (kinds_given (rows_of found)) ≡ Some kinds)
    (BadKinds key (kinds_given (rows_of found)))) c.is_flagged-key.ensures
    (subst
    (λ texts. MatchResult c.kinds_among.result (λ kinds. kinds_of c.is_flagged-key.result texts ≡ Some kinds)
    (BadKinds c.is_flagged-key.result texts))
    (kinds_some c.get_strs.result c.in-Some.given found c.in-Some.is c.get_strs.ensures) c.kinds_among.ensures)

pub returns-in-None : goal.returns-in-None
returns-in-None c =
    let found = found_of c.args.options.now in
    subst
    (λ key. MatchResult c.kinds_among-in-None.result
    (λ kinds. kinds_of key (kinds_given (rows_of found)) ≡ Some kinds)
    (BadKinds key (kinds_given (rows_of found)))) c.is_flagged-key.ensures
    (subst
    (λ texts. MatchResult c.kinds_among-in-None.result (λ kinds. kinds_of c.is_flagged-key.result texts ≡ Some kinds)
    (BadKinds c.is_flagged-key.result texts))
    (kinds_none c.get_strs.result found c.in-None.is c.get_strs.ensures) c.kinds_among-in-None.ensures)

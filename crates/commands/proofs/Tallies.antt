-- Tallies of lists that are put one after another.
use Rattle.std.proofs.Common.{◌≡◌, ◌∙◌, ℕ, ◌+◌, ◌<◌, ◌++◌, ◌⊎◌, List, [], ◌∷◌, ap, arith, count_by, cond, get_or, inl, inr, length, length-append, length-set, max, subst, sym, ◌==◌}
use Rattle.std.proofs.lemmas.Bool.{cases_eq}
use Rattle.std.proofs.lemmas.Bool.Decides.{nat_tests}
use Rattle.std.proofs.lemmas.List.{get_or-set_same, get_or-set_other}
use Rattle.std.proofs.lemmas.List.FromFn.{fill_by_all, get_or-map-range_with_len, length-map-range_with_len}
use Rattle.std.proofs.lemmas.List.Sums.{sum_by_push, sum_by-append}
use Rattle.tlv_core.specs.Reasons.{number_of as number_of_reason}
use Rattle.tlv_core.specs.declared.reason.Reason.{Reason}
use Rattle.tlv_core.specs.declared.reason.Reason.TheVariants as whys
use Rattle.pk_documents.specs.KindRows.{number_of as number_of_kind}
use Rattle.pk_documents.specs.declared.kind.Kind.{Kind}
use Rattle.pk_documents.specs.declared.kind.Kind.TheVariants as which
use Rattle.commands.specs.Tallies.{counted, counts, greatest, kind_row, raised, reason_row, status_of_verdict, tally_of, verdict_row}
use Rattle.commands.specs.declared.tally.Tally.{Tally}
use Rattle.commands.specs.declared.tally.Verdict.{Verdict}

pub greatest-append : (all others : List Verdict) → greatest (all ++ others) ≡ max (greatest all) (greatest others)
greatest-append [] others = omega arith
greatest-append (verdict ∷ all) others = omega (arith, greatest-append all others)

-- ---- the counts of rows

one_counted : (old all more one : ℕ) → old ≡ counted all → more ≡ all + one → one ≡ 1
    → counted (old + 1) ≡ counted more
one_counted old all more one old_is more_is one_is = omega arith

none_counted : (old all more none : ℕ) → old ≡ counted all → more ≡ all + none → none ≡ 0 → old ≡ counted more
none_counted old all more none old_is more_is none_is = omega arith

module _ (row_of : Verdict → ℕ) (size : ℕ) (all : List Verdict) where
  abbrev count_in : List Verdict → ℕ → ℕ
  count_in some row = count_by (λ it. row_of it == row) some

  length_is : length (counts row_of size all) ≡ size
  unfolding counts
  length_is = length-map-range_with_len (λ row. counted (count_in all row)) 0 size

  count_is : (row : ℕ) → row < size → get_or (counts row_of size all) row 0 ≡ counted (count_in all row)
  unfolding counts
  count_is row within = get_or-map-range_with_len (λ row. counted (count_in all row)) 0 size row row 0 within (omega arith)

  -- lists are counted that have so many verdicts in each row
  counts_are : (others : List Verdict) (sums : List ℕ) → length sums ≡ size
      → ((row : ℕ) → row < size → get_or sums row 0 ≡ counted (count_in others row))
      → sums ≡ counts row_of size others
  unfolding counts
  counts_are others sums long are = fill_by_all (λ row. counted (count_in others row)) sums size 0 long are

  one_more : (verdict : Verdict) (row : ℕ)
      → count_in (all ++ verdict ∷ []) row ≡ count_in all row + cond (row_of verdict == row) 1 0
  one_more verdict row = sum_by_push (λ it. cond (row_of it == row) 1 0) all verdict

  raised_at : (verdict : Verdict) (row : ℕ) → row < size → (row ≡ row_of verdict) ⊎ (row ≡ row_of verdict → ⊥)
      → get_or (raised (counts row_of size all) (row_of verdict)) row 0 ≡ counted (count_in (all ++ verdict ∷ []) row)
  raised_at verdict row within (inl same) =
      let before = counts row_of size all in
      let long : row < length (counts row_of size all) = subst (λ n. row < n) (sym length_is) within in
      let one : cond {A = ℕ} (row_of verdict == row) 1 0 ≡ 1 = grind (arith, nat_tests) in
      subst (λ at. get_or (raised before at) row 0 ≡ counted (count_in (all ++ verdict ∷ []) row)) same
      (get_or-set_same before row (counted (get_or before row 0 + 1)) 0 long
      ∙ one_counted (get_or before row 0) (count_in all row) (count_in (all ++ verdict ∷ []) row)
      (cond {A = ℕ} (row_of verdict == row) 1 0) (count_is row within) (one_more verdict row) one)
  raised_at verdict row within (inr other) =
      let before = counts row_of size all in
      let none : cond {A = ℕ} (row_of verdict == row) 1 0 ≡ 0 = grind (arith, nat_tests) in
      get_or-set_other before (row_of verdict) row (counted (get_or before (row_of verdict) 0 + 1)) 0 other
      ∙ none_counted (get_or before row 0) (count_in all row) (count_in (all ++ verdict ∷ []) row)
      (cond {A = ℕ} (row_of verdict == row) 1 0) (count_is row within) (one_more verdict row) none

  pub counts_more : (verdict : Verdict)
      → raised (counts row_of size all) (row_of verdict) ≡ counts row_of size (all ++ verdict ∷ [])
  counts_more verdict = counts_are (all ++ verdict ∷ []) (raised (counts row_of size all) (row_of verdict))
      (length-set (counts row_of size all) (row_of verdict)
      (counted (get_or (counts row_of size all) (row_of verdict) 0 + 1)) ∙ length_is)
      (λ row within. raised_at verdict row within (cases_eq row (row_of verdict)))

module _ (row_of : Verdict → ℕ) (size : ℕ) (all others : List Verdict) where
  pub counts-append : (sums : List ℕ) → length sums ≡ length (counts row_of size all)
      → ((row : ℕ) → row < length (counts row_of size all) → get_or sums row 0
      ≡ counted (get_or (counts row_of size all) row 0 + get_or (counts row_of size others) row 0))
      → sums ≡ counts row_of size (all ++ others)
  counts-append sums long are = counts_are row_of size all (all ++ others) sums (long ∙ length_is row_of size all)
      (λ row within.
      let first : get_or (counts row_of size all) row 0 ≡ counted (count_in row_of size all all row) =
      count_is row_of size all row within in
      let second : get_or (counts row_of size others) row 0 ≡ counted (count_in row_of size all others row) =
      count_is row_of size others row within in
      let both : count_in row_of size all (all ++ others) row
      ≡ count_in row_of size all all row + count_in row_of size all others row =
      sum_by-append (λ it. cond (row_of it == row) 1 0) all others in
      let sum = are row (subst (λ n. row < n) (sym (length_is row_of size all)) within) in
      omega (arith, sum))

  pub counts_long : length (counts row_of size others) ≡ length (counts row_of size all)
  counts_long = length_is row_of size others ∙ sym (length_is row_of size all)

-- the same of rows that are known to be these counts
pub rows-append : (row_of : Verdict → ℕ) (size : ℕ) (all others : List Verdict) (old more sums : List ℕ)
    → old ≡ counts row_of size all → more ≡ counts row_of size others → length sums ≡ length old
    → ((row : ℕ) → row < length old → get_or sums row 0 ≡ counted (get_or old row 0 + get_or more row 0))
    → sums ≡ counts row_of size (all ++ others)
rows-append row_of size all others old more sums old_is more_is long are =
    counts-append row_of size all others sums (long ∙ ap length old_is)
    (subst (λ it. (row : ℕ) → row < length it
    → get_or sums row 0 ≡ counted (get_or it row 0 + get_or (counts row_of size others) row 0)) old_is
    (subst (λ it. (row : ℕ) → row < length old → get_or sums row 0 ≡ counted (get_or old row 0 + get_or it row 0))
    more_is are))

-- ---- all counts

pub status_more : (all : List Verdict) (verdict : Verdict) (old this new : ℕ) → old ≡ greatest all
    → this ≡ status_of_verdict verdict → new ≡ max old this → new ≡ greatest (all ++ verdict ∷ [])
status_more all verdict old this new old_is this_is new_is = omega (arith, greatest-append all (verdict ∷ []))

pub files_more : (all : List Verdict) (verdict : Verdict) (old new : ℕ) → old ≡ counted (length all)
    → new ≡ counted (old + 1) → new ≡ counted (length (all ++ verdict ∷ []))
files_more all verdict old new old_is new_is = omega (arith, length-append all (verdict ∷ []))

pub status-append : (all others : List Verdict) (old more new : ℕ) → old ≡ greatest all → more ≡ greatest others
    → new ≡ max old more → new ≡ greatest (all ++ others)
status-append all others old more new old_is more_is new_is = omega (arith, greatest-append all others)

pub files-append : (all others : List Verdict) (old more new : ℕ) → old ≡ counted (length all)
    → more ≡ counted (length others) → new ≡ counted (old + more) → new ≡ counted (length (all ++ others))
files-append all others old more new old_is more_is new_is = omega (arith, length-append all others)

abbrev made : ℕ → ℕ → List ℕ → List ℕ → List ℕ → Tally
made status files verdicts kinds reasons =
    record { status = status; files = files; verdicts = verdicts; kinds = kinds; reasons = reasons }

pub tally_from : (all : List Verdict) (status files : ℕ) (verdicts kinds reasons : List ℕ) → status ≡ greatest all
    → files ≡ counted (length all) → verdicts ≡ counts verdict_row 5 all → kinds ≡ counts kind_row 21 all
    → reasons ≡ counts reason_row 28 all → made status files verdicts kinds reasons ≡ tally_of all
tally_from all status files verdicts kinds reasons status_is files_are verdicts_are kinds_are reasons_are =
    ap (λ it. made it files verdicts kinds reasons) status_is
    ∙ (ap (λ it. made (greatest all) it verdicts kinds reasons) files_are
    ∙ (ap (λ it. made (greatest all) (counted (length all)) it kinds reasons) verdicts_are
    ∙ (ap (λ it. made (greatest all) (counted (length all)) (counts verdict_row 5 all) it reasons) kinds_are
    ∙ ap (λ it. made (greatest all) (counted (length all)) (counts verdict_row 5 all) (counts kind_row 21 all) it)
    reasons_are)))

-- ---- how many rows there are

pub kinds_are_few : (kind : Kind) → number_of_kind kind < 7
kinds_are_few which.Key = omega arith
kinds_are_few which.Ec = omega arith
kinds_are_few which.Request = omega arith
kinds_are_few which.Public = omega arith
kinds_are_few which.Encrypted = omega arith
kinds_are_few which.Package = omega arith

pub reasons_are_few : (why : Reason) → number_of_reason why < 28
reasons_are_few whys.Truncated = omega arith
reasons_are_few whys.TooLong = omega arith
reasons_are_few whys.BadTag = omega arith
reasons_are_few whys.PastEnd = omega arith
reasons_are_few whys.BadEnd = omega arith
reasons_are_few whys.TooDeep = omega arith
reasons_are_few whys.WrongTag = omega arith
reasons_are_few whys.Extra = omega arith
reasons_are_few whys.LeftOut = omega arith
reasons_are_few whys.WrongForm = omega arith
reasons_are_few whys.BadLength = omega arith
reasons_are_few whys.Missing = omega arith
reasons_are_few whys.BadInteger = omega arith
reasons_are_few whys.BadBoolean = omega arith
reasons_are_few whys.BadNull = omega arith
reasons_are_few whys.BadBits = omega arith
reasons_are_few whys.BadOid = omega arith
reasons_are_few whys.BadText = omega arith
reasons_are_few whys.EmptySet = omega arith
reasons_are_few whys.Version = omega arith
reasons_are_few whys.Parameters = omega arith
reasons_are_few whys.Inner = omega arith
reasons_are_few whys.Curve = omega arith
reasons_are_few whys.KeyLength = omega arith
reasons_are_few whys.VersionRule = omega arith
reasons_are_few whys.TextTooLong = omega arith
reasons_are_few whys.Trailing = omega arith

-- What is shown of the first elements that differ, by the lines of two reports.
use Rattle.std.proofs.Common.{List, ap, length, map, ℕ, ◌-◌, ◌∙◌, ◌≡◌}
use Rattle.reports.specs.Picks.{first_ones}
use Rattle.reports.specs.declared.report.Line.{Line}
use Rattle.comparison.specs.DifferenceWords.{DifferenceWords, said_of}
use Rattle.comparison.specs.DifferenceLists.{differences}
use Rattle.comparison.specs.Written.{AreTheFirst}
use Rattle.comparison.specs.declared.difference_list.Difference.{Difference}

pub shown_first : (root one other : List ℕ) (lines others along along' shown shown' : List Line)
    (all given : List Difference) (words : List DifferenceWords) (count more : ℕ) → along ≡ lines → along' ≡ others
    → shown ≡ lines → shown' ≡ others → all ≡ differences one other along along' → given ≡ all
    → words ≡ map (said_of root shown shown') (first_ones 16 given) → count ≡ length all → more ≡ count - 16
    → AreTheFirst root one other lines others words more
shown_first root one other lines others along along' shown shown' all given words count more w w' s s' a g texts c m =
    let whole : all ≡ differences one other lines others =
    a ∙ ap (λ z. differences one other z along') w ∙ ap (λ z. differences one other lines z) w' in (
      texts
          ∙ ap (λ z. map (said_of root z shown') (first_ones 16 given)) s
          ∙ ap (λ z. map (said_of root lines z) (first_ones 16 given)) s'
          ∙ ap (λ z. map (said_of root lines others) (first_ones 16 z)) (g ∙ whole),
      m ∙ ap (λ z. z - 16) (c ∙ ap length whole),
    )

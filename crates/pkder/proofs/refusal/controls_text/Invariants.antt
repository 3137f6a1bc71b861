use Rattle.std.proofs.Common.{◌≡◌, ◌++◌, drop, string_bytes}
use Rattle.pkder.proofs.PlainTexts.{known}
use Rattle.pkder.proofs.refusal.controls_text.Given as goal

abbrev pub invariant-loop-word : goal.invariant-loop-word
invariant-loop-word l =
    string_bytes l.text ++ known (drop l.word-index l.words) ≡ string_bytes l.initial.text ++ known l.words

use Rattle.std.proofs.Common.{◌≡◌, drop, map, string_bytes}
use Rattle.pkder.specs.CommandLines.{option_advised}
use Rattle.pkder.proofs.refusal.option_text.Given as goal

abbrev pub invariant-loop-word : goal.invariant-loop-word
invariant-loop-word l =
    option_advised (map (λ word. string_bytes word) (drop l.word-index l.words))
    ≡ option_advised (map (λ word. string_bytes word) l.words)

-- What the laws on layouts say.
use Rattle.std.specs.Prelude.{List, length, ℕ, ◌++◌, ◌<◌, ◌≡◌, ◌≤◌}
use Rattle.tlv_core.specs.Length.{SpellsLength, shortest_length}
use Rattle.tlv_core.specs.ObjectIdentifier.{AllBelow}
use Rattle.x690.specs.Layouts.{LaidOut, RawTree}

-- No layout begins another one.
abbrev pub NoneBeginsAnother : Type 0
NoneBeginsAnother =
    (tree other : RawTree) (octets longer more : List ℕ) → LaidOut tree octets → LaidOut other longer
    → longer ≡ octets ++ more → (octets ≡ longer) × (tree ≡ other)

-- The length octets of DER spell the length, and no octets that spell it are fewer.
pub record ShortestLengths : Type 0 where
  pub spells : (n : ℕ) → n < 18446744073709551616 → SpellsLength n (shortest_length n)
  pub least : (n : ℕ) (octets : List ℕ) → AllBelow 256 octets → SpellsLength n octets
      → length (shortest_length n) ≤ length octets

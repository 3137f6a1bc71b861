-- What an element takes of the octets that follow.
use Rattle.std.specs.Prelude.{List, Some, false, length, ℕ, ◌++◌, ◌+◌, ◌≡◌, ◌≤◌}
use Rattle.tlv_core.specs.Limits.{Limits}
use Rattle.x690.specs.Fitting.{Fits}
use Rattle.x690.specs.Layouts.{LaidOut, RawTree, tree_depth}
use Rattle.x690.specs.Points.{Enclosing, EndsAt, past_end}
use Rattle.x690.specs.TypeTerms.{TypeTerm}
use Rattle.x690.specs.Values.{Value}

-- The first `taken` of the octets that stand from `place` on lay out an element of the type that says the value, within
-- its containers and the limits; `rest` stands after them.
pub record Takes (limits : Limits) (type : TypeTerm) (earlier : List Value) (enclosing : Enclosing) (place : ℕ)
    (stand : List ℕ) (value : Value) (taken : ℕ) (rest : List ℕ) : Type 0 where
  pub tree : RawTree
  pub octets : List ℕ
  pub is : stand ≡ octets ++ rest
  pub count : length octets ≡ taken
  pub laid_out : LaidOut tree octets
  pub in_bound : past_end enclosing.nearest_end (place + taken) ≡ false
  pub in_limit : place + taken ≤ limits.octets
  pub depth_fits : enclosing.open_containers + tree_depth tree ≤ limits.depth
  pub fits : Fits limits.depth type earlier tree value

-- An element of the type takes octets here, and this holds of its value, their number and what follows.
abbrev pub TakesThen : Limits → TypeTerm → List Value → Enclosing → ℕ → List ℕ → (Value → ℕ → List ℕ → Type 0) → Type 0
TakesThen limits type earlier enclosing place octets Holds =
    (value : Value)
    × (taken : ℕ)
    × (rest : List ℕ)
    × Takes limits type earlier enclosing place octets value taken rest
    × Holds value taken rest

-- An innermost container of definite length is the nearest one of definite length: so it is
-- wherever a reader can stand.
abbrev pub Proper : Enclosing → Type 0
Proper enclosing = (end : ℕ) → enclosing.innermost ≡ EndsAt end → enclosing.nearest_end ≡ Some end

-- What clauses see of values under implicit tags.
use Rattle.std.specs.Prelude.{ℕ}
use Rattle.asn_elements.specs.declared.implicit.Implicit.{Implicit}

-- the value under the tag
abbrev pub value_under : {N : ℕ} {A : Type 0} → Implicit N A → A
value_under implicit = implicit.inner

-- What clauses see of a version.
use Rattle.std.specs.Prelude.{ℕ}
use Rattle.pkix_values.specs.declared.version.Version.{Version}

abbrev pub version_number : {least most : ℕ} → Version least most → ℕ
version_number version = version.number

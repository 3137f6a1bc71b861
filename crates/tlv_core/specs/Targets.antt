-- What clauses see of the targets.
use Rattle.std.specs.Prelude.{Bool}
use Rattle.tlv_core.specs.declared.target.ToWrite.{ToWrite}

-- the writer under the target
abbrev pub writer_of : {W : Type 0} → ToWrite W → W
writer_of target = target.inner

abbrev pub write_failed : {W : Type 0} → ToWrite W → Bool
write_failed target = target.failed

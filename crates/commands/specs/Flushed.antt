-- What clauses see of a target that is flushed.
use Rattle.std.specs.Prelude.{Bool}
use Rattle.commands.specs.declared.flush.ToFlush.{ToFlush}

-- the writer under the target
abbrev pub writer_under : {W : Type 0} → ToFlush W → W
writer_under target = target.inner

abbrev pub flush_failed : {W : Type 0} → ToFlush W → Bool
flush_failed target = target.failed

-- the writer said that it is flushed, and was handed nothing since
abbrev pub none_kept : {W : Type 0} → ToFlush W → Bool
none_kept target = target.flushed

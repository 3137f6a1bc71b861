-- What clauses see of a target that writes in blocks.
use Rattle.std.specs.Prelude.{ℕ, Bool, List, Option, slice_range}
use Rattle.std.specs.Io.KnownBytes.{append_known}
use Rattle.tlv_core.specs.declared.target.Target.{Ghosts}
use Rattle.commands.specs.declared.block_target.Start.{Ghosts as Starts}
use Rattle.commands.specs.declared.block_target.BlockTarget.{BlockTarget}

-- the octets that wait, in order
abbrev pub waiting : {W K : Type 0} {t : Ghosts W} {s : Starts K} → BlockTarget W K t s → List ℕ
waiting blocks = slice_range blocks.block.items blocks.begin blocks.end

-- the target that they are to go to
abbrev pub target_of : {W K : Type 0} {t : Ghosts W} {s : Starts K} → BlockTarget W K t s → W
target_of blocks = blocks.target.now

-- the octets that are out, and then those that wait, where that is known
abbrev pub held : {W K : Type 0} {t : Ghosts W} {s : Starts K} → BlockTarget W K t s → Option (List ℕ)
held {W} {K} {t} blocks = append_known (t.contents blocks.target.now) (waiting blocks)

-- whether the target has failed
abbrev pub has_failed_under : {W K : Type 0} {t : Ghosts W} {s : Starts K} → BlockTarget W K t s → Bool
has_failed_under {W} {K} {t} blocks = t.has_failed blocks.target.now

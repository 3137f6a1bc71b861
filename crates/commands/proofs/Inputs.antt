-- What comes of octets that are taken one block after another.
use Rattle.std.proofs.Common.{◌++◌, ◌+◌, ◌<◌, ◌≤◌, List, Option, arith, length, length-append, ℕ}
use Rattle.std.proofs.KnownBytes.{Consumes-kept, Consumes-trans}
use Rattle.std.specs.Io.KnownBytes.{Consumes}
use Rattle.tlv_core.specs.declared.fault.ReadError.{ReadError}
use Rattle.tlv_core.specs.declared.fault.ReadError.TheVariants.{Fault, Memory, Read}
use Rattle.commands.specs.Inputs.{StopsAfter, StopsTaking}

-- It stops after the octets that were taken before.
pub stops_taking : (most room : ℕ) (error : ReadError) (first now last : Option (List ℕ)) (octets : List ℕ)
    → Consumes first now octets → length octets < most → length octets + room ≤ most
    → StopsAfter room error now last octets → StopsTaking most error first last
stops_taking most room (Fault found) first now last octets taken fewer fits h = h
stops_taking most room (Read at) first now last octets taken fewer fits h =
    (octets, Consumes-kept first now last octets taken h.1, h.0, omega (arith, fewer, h.0))
stops_taking most room Memory first now last octets taken fewer fits h = (
  octets ++ h.0,
  Consumes-trans first now last octets h.0 taken h.1,
  omega (arith, length-append octets h.0, h.2, fits),
)

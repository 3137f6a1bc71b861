-- Faults of the octets inside an OCTET STRING.
use Rattle.std.specs.Prelude.{◌≡◌, ◌↔◌, IsSome}
use Rattle.tlv_core.specs.declared.fault.Fault.{Fault}
use Rattle.tlv_core.specs.declared.reason.Reason.TheVariants.{Inner}

-- A place and reason inside stand exactly where the reason is Inner.
abbrev pub InsideMatches : Fault → Type 0
InsideMatches fault = IsSome fault.inside ↔ (fault.why ≡ Inner)

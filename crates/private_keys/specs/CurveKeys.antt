-- What clauses see of a CurvePrivateKey (RFC 8410 section 7).
use Rattle.asn_elements.specs.declared.octets.Octets.{Octets}
use Rattle.private_keys.specs.declared.curve_key.CurveKey.{CurveKey}

abbrev pub curve_key_of : CurveKey → Octets
curve_key_of it = it.0

-- What clauses see of open values.
use Rattle.x690.specs.Values.{Value}
use Rattle.asn_open_values.specs.KeptValues.{text_kept}
use Rattle.asn_open_values.specs.TextValues.{open_value}
use Rattle.asn_open_values.specs.declared.any.Any.{Any}

-- the value of an open value, which its text says
abbrev pub open_value_of : Any → Value
open_value_of any = open_value (text_kept any.kept)

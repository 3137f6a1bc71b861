-- Words for examples: octets written as hexadecimal digits, and what is answered to them.
use Rattle.std.specs.Prelude.{List, Some, [], false, length, nat_lt, true, ℕ, ◌*◌, ◌+◌, ◌-◌, ◌∷◌, ◌≡◌}
use Rattle.tlv_core.specs.Limits.{Limits}
use Rattle.tlv_core.specs.declared.reason.Reason.{Reason}
use Rattle.tlv_core.specs.declared.reason.Reason.TheVariants.{Inner}
use Rattle.x690.specs.Answers.{Answer, Refused, Spelled, answer}
use Rattle.x690.specs.Points.{fault}
use Rattle.x690.specs.TypeTerms.{TypeTerm}

-- the number of a digit 0 to 9 or a to f, by its character
abbrev pub hex_digit : ℕ → ℕ
hex_digit character = elim (nat_lt character 58) [ true ↦ character - 48 | false ↦ character - 87 ]

-- the octets that two digits each give, of a text that is the list of its characters
abbrev pub hex : List ℕ → List ℕ
hex [] = []
hex (x ∷ []) = []
hex (x ∷ y ∷ text) = (hex_digit x * 16 + hex_digit y) ∷ hex text

abbrev pub usual : Limits
usual = record { depth = 32; octets = 1048576 }

-- The octets are the DER text of their value, and all of them are taken.
abbrev pub IsDer : Limits → TypeTerm → List ℕ → Type 0
IsDer limits type octets = answer limits type octets ≡ Spelled octets (length octets)

abbrev pub refused : ℕ → Reason → Answer
refused at why = Refused (fault at why)

abbrev pub refused_inside : ℕ → ℕ → Reason → Answer
refused_inside at inner why = Refused (record { at = at; why = Inner; inside = Some (inner, why) })

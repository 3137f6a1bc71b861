-- The numbers of parts, forms and reasons.
use Rattle.std.specs.Prelude.{ℕ, ◌+◌, ◌≡◌, ◌≤◌, cond, false}
use Rattle.pk_documents.specs.declared.request_part.Part.TheVariants as parts
use Rattle.explain.specs.Written.{places_shown}
use Rattle.explain.specs.declared.profile.Profile.{Profile}
use Rattle.explain.specs.declared.profile.Profile.TheVariants.{General, Tls}
use Rattle.explain.specs.declared.received.RequestPart.{RequestPart}
use Rattle.explain.specs.declared.received.RequestPart.TheVariants.{Received, Written}
use Rattle.explain.specs.declared.written.Form.{Form}

abbrev pub part_number : RequestPart → ℕ
part_number (Written parts.Info) = 1
part_number (Written parts.Algorithm) = 2
part_number (Written parts.Key) = 3
part_number (Written parts.Signature) = 4
part_number Received = 5

abbrev pub IsPartNumber : ℕ → Type 0
IsPartNumber number = (1 ≤ number) × (number ≤ 5)

abbrev pub profile_number : Profile → ℕ
profile_number General = 0
profile_number Tls = 4

-- a report with all elements, one in JSON, and one with the notes for TLS servers
abbrev pub form_number : Form → ℕ
form_number form = cond form.all 1 0 + cond form.json 2 0 + profile_number form.profile

-- the form of a report that this number asks for
abbrev pub IsFormOf : ℕ → Form → Type 0
IsFormOf number form = (form_number form ≡ number) × (form.brief ≡ false) × (form.places ≡ places_shown)

abbrev pub IsFormNumber : ℕ → Type 0
IsFormNumber number = number ≤ 7

-- `number_of` of tlv_core has the numbers themselves
abbrev pub IsReasonNumber : ℕ → Type 0
IsReasonNumber number = (1 ≤ number) × (number ≤ 27)

-- What a document is by its first headers: the tags, and a few contents, of the elements after the outermost header.
use Rattle.std.specs.Prelude.{Bool, List, None, Option, Some, [], cond, false, nat_lt, true, ℕ, ◌&&◌, ◌==◌, ◌||◌, ◌∷◌}
use Rattle.std.specs.List.{slice_get}
use Rattle.std.specs.Str.{bytes_eq}
use Rattle.tlv_core.specs.Identifier.{Tag}
use Rattle.ber_outline.specs.declared.event.Event.{Event}
use Rattle.ber_outline.specs.declared.event.Event.TheVariants.{Begin, End, Primitive}
use Rattle.explain.specs.Contents.{between}
use Rattle.reports.specs.declared.report.Guess.{Guess}
use Rattle.reports.specs.declared.report.Guess.TheVariants as guesses

-- the numbers of universal tags (X.680 8.4)
abbrev pub integer : ℕ
integer = 2

abbrev pub object_identifier : ℕ
object_identifier = 6

abbrev pub sequence : ℕ
sequence = 16

-- numbers for [0], and for all tags but this and the universal ones below 31
abbrev pub explicit_0 : ℕ
explicit_0 = 100

abbrev pub other_tag : ℕ
other_tag = 101

-- a tag as one number
abbrev pub code_of : Tag → ℕ
code_of tag =
    cond ((tag.class == 0) && nat_lt tag.number 31) tag.number
    (cond ((tag.class == 2) && (tag.number == 0)) explicit_0 other_tag)

-- that of an element that begins; 0 of none
abbrev pub code_of_event : Option Event → ℕ
code_of_event None = 0
code_of_event (Some (Primitive header begin end)) = code_of header.tag
code_of_event (Some (Begin header begin)) = code_of header.tag
code_of_event (Some (End at)) = 0

abbrev pub are_contents : Option (List ℕ) → List ℕ → Bool
are_contents None contents = false
are_contents (Some own) contents = bytes_eq own contents

-- an element is primitive and has these contents
abbrev pub has_contents : List ℕ → Option Event → List ℕ → Bool
has_contents octets None contents = false
has_contents octets (Some (Primitive header begin end)) contents =
    are_contents (between octets (Some begin) (Some end)) contents
has_contents octets (Some (Begin header begin)) contents = false
has_contents octets (Some (End at)) contents = false

-- an element is an INTEGER of these contents
abbrev pub is_integer : List ℕ → Option Event → List ℕ → Bool
is_integer octets event contents = (code_of_event event == integer) && has_contents octets event contents

-- the first member is one of these contents
abbrev pub begins_with : List ℕ → List Event → List ℕ → Bool
begins_with octets events contents = is_integer octets (slice_get events 1) contents

-- a usual public exponent: 65537 or 3
abbrev pub is_exponent : List ℕ → Option Event → Bool
is_exponent octets event = is_integer octets event (1 ∷ 0 ∷ 1 ∷ []) || is_integer octets event (3 ∷ [])

-- a modulus and a usual exponent
abbrev pub are_numbers : List ℕ → Option Event → Option Event → Bool
are_numbers octets modulus exponent = (code_of_event modulus == integer) && is_exponent octets exponent

-- RSAPrivateKey (RFC 8017 A.1.2): version 0, a modulus, and a usual exponent.
abbrev pub is_rsa_private_key : List ℕ → List Event → Bool
is_rsa_private_key octets events =
    begins_with octets events (0 ∷ []) && are_numbers octets (slice_get events 2) (slice_get events 3)

abbrev pub are_integers : Option Event → Option Event → Option Event → Bool
are_integers first second third =
    (code_of_event first == integer) && (code_of_event second == integer) && (code_of_event third == integer)

-- the contents of the SEQUENCE end there
abbrev pub is_end : Option Event → Bool
is_end None = false
is_end (Some (Primitive header begin end)) = false
is_end (Some (Begin header begin)) = false
is_end (Some (End at)) = true

-- A private key of DSA in its old form: version 0 and five numbers, p, q, g and the two keys.
abbrev pub end_in_integers : Option Event → Option Event → Option Event → Bool
end_in_integers fourth fifth end =
    (code_of_event fourth == integer) && (code_of_event fifth == integer) && is_end end

abbrev pub are_first_integers : List Event → Bool
are_first_integers events = are_integers (slice_get events 2) (slice_get events 3) (slice_get events 4)

abbrev pub are_last_integers : List Event → Bool
are_last_integers events = end_in_integers (slice_get events 5) (slice_get events 6) (slice_get events 7)

abbrev pub are_five_integers : List Event → Bool
are_five_integers events = are_first_integers events && are_last_integers events

unfoldable pub is_dsa_private_key : List ℕ → List Event → Bool
is_dsa_private_key octets events = begins_with octets events (0 ∷ []) && are_five_integers events

-- RSAPublicKey (RFC 8017 A.1.1): a modulus, and a usual exponent.
abbrev pub is_rsa_public_key : List ℕ → List Event → Bool
is_rsa_public_key octets events = are_numbers octets (slice_get events 1) (slice_get events 2)

-- Certificate (RFC 5280 section 4.1): what is signed begins with its version, [0].
abbrev pub is_certificate : List Event → Bool
is_certificate events =
    (code_of_event (slice_get events 1) == sequence) && (code_of_event (slice_get events 2) == explicit_0)

abbrev pub is_content_info : Option Event → Option Event → Bool
is_content_info sequence' first =
    (code_of_event sequence' == sequence) && (code_of_event first == object_identifier)

-- PFX (RFC 7292 section 4): version 3, and a ContentInfo, which begins with its type.
abbrev pub is_pfx : List ℕ → List Event → Bool
is_pfx octets events =
    begins_with octets events (3 ∷ []) && is_content_info (slice_get events 2) (slice_get events 3)

-- by the first events of the outline of a document
abbrev pub guess_by_outline : List ℕ → List Event → Guess
guess_by_outline octets events =
    cond (is_rsa_private_key octets events) guesses.RsaPrivateKey
    (cond (is_dsa_private_key octets events) guesses.DsaPrivateKey
    (cond (is_rsa_public_key octets events) guesses.RsaPublicKey
    (cond (is_certificate events) guesses.Certificate (cond (is_pfx octets events) guesses.Pkcs12 guesses.Unknown))))

-- The syntax of names in subjectAltName (RFC 5280 section 4.2.1.6): mailboxes (RFC 5321 section 4.1.2), URIs (RFC 3986
-- section 3.1), and addresses of IP version 4 in decimal numbers.
use Rattle.std.specs.Prelude.{Bool, List, None, Option, Some, [], cond, false, length, nat_le, nat_lt, not, take, ℕ, ◌&&◌, ◌+◌, ◌-◌, ◌==◌, ◌||◌, ◌∷◌}
use Rattle.std.specs.List.{list_any}
use Rattle.explain.specs.HostNames.{is_domain_name, is_let_dig}
use Rattle.explain.specs.declared.notes.general_names.DottedNumbers.{DottedNumbers}

-- what follows the last octet of these that is this one, or else what was found before
abbrev pub after_last : ℕ → List ℕ → List ℕ → List ℕ
after_last mark found [] = found
after_last mark found (octet ∷ octets) = after_last mark (cond (octet == mark) octets found) octets

-- what follows the last @ (64)
abbrev pub domain_of : List ℕ → List ℕ
domain_of name = after_last 64 name name

-- what is before the octet in front of a domain: nothing, where the domain is all
abbrev pub before_domain : List ℕ → List ℕ → List ℕ
before_domain name domain = take (length name - length domain - 1) name

-- a blank, < or >, which set a mailbox apart from words around it
abbrev pub is_apart : ℕ → Bool
is_apart octet = (octet == 32) || ((octet == 60) || (octet == 62))

abbrev pub has_apart : List ℕ → Bool
has_apart octets = list_any is_apart octets

-- A local part has an octet at least, and such octets in quotes (34) alone.
abbrev pub is_local_part : List ℕ → Bool
is_local_part [] = false
is_local_part (first ∷ octets) = (first == 34) || not (has_apart (first ∷ octets))

-- A domain is a name, or an address in brackets (91).
abbrev pub is_mail_domain : List ℕ → Bool
is_mail_domain [] = is_domain_name []
is_mail_domain (first ∷ octets) = (first == 91) || is_domain_name (first ∷ octets)

-- A mailbox is a local part, @, and a domain.
abbrev pub is_mailbox : List ℕ → Bool
is_mailbox name =
    is_local_part (before_domain name (domain_of name)) && is_mail_domain (domain_of name)

-- a letter of ASCII
abbrev pub is_letter : ℕ → Bool
is_letter octet = (nat_le 65 octet && nat_le octet 90) || (nat_le 97 octet && nat_le octet 122)

-- an octet of a scheme after the first: a letter, a digit, or + - .
abbrev pub is_scheme_octet : ℕ → Bool
is_scheme_octet octet = is_let_dig octet || ((octet == 43) || ((octet == 45) || (octet == 46)))

-- Such octets are first, then a colon (58) and an octet.
abbrev pub goes_on : List ℕ → Bool
goes_on [] = false
goes_on (octet ∷ octets) =
    cond (octet == 58) (not (length octets == 0)) (is_scheme_octet octet && goes_on octets)

-- A scheme begins with a letter; a colon is after it, and something after that.
abbrev pub has_scheme : List ℕ → Bool
has_scheme [] = false
has_scheme (first ∷ octets) = is_letter first && goes_on octets

-- before the first octet of decimal numbers
abbrev pub numbers_start : DottedNumbers
numbers_start = record { dots = 0; digits = 0 }

abbrev pub is_digit : ℕ → Bool
is_digit octet = nat_le 48 octet && nat_le octet 57

-- The numbers after an octet more: a dot (46) after a digit, and three of them at most, or one of up to three digits.
abbrev pub numbers_after : DottedNumbers → ℕ → Option DottedNumbers
numbers_after numbers octet =
    cond ((octet == 46) && (nat_lt 0 numbers.digits && nat_lt numbers.dots 3))
    (Some (record { dots = numbers.dots + 1; digits = 0 }))
    (cond (is_digit octet && nat_lt numbers.digits 3)
    (Some (record { dots = numbers.dots; digits = numbers.digits + 1 })) None)

abbrev pub are_four : DottedNumbers → Bool
are_four numbers = (numbers.dots == 3) && nat_lt 0 numbers.digits

-- The octets go on with these numbers, up to the end of the fourth.
abbrev pub are_numbers : DottedNumbers → List ℕ → Bool
are_numbers numbers [] = are_four numbers
are_numbers numbers (octet ∷ octets) =
    elim (numbers_after numbers octet) [ None ↦ false | Some next ↦ are_numbers next octets ]

-- Four decimal numbers of up to three digits, with dots between, as an address of IP version 4 is written.
abbrev pub is_ipv4_address : List ℕ → Bool
is_ipv4_address name = are_numbers numbers_start name

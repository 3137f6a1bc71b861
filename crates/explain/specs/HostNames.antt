-- The names of hosts: the preferred name syntax (RFC 1034 section 3.5), whose labels may begin with a digit too (RFC
-- 1123 section 2.1).
use Rattle.std.specs.Prelude.{Bool, List, None, Option, Some, [], cond, false, length, nat_le, nat_lt, not, ℕ, ◌&&◌, ◌+◌, ◌==◌, ◌||◌, ◌∷◌}
use Rattle.std.specs.List.{list_any}
use Rattle.explain.specs.declared.notes.hosts.Label.{Label}

-- a letter or a digit of ASCII
abbrev pub is_let_dig : ℕ → Bool
is_let_dig octet =
    (nat_le 65 octet && nat_le octet 90)
    || ((nat_le 97 octet && nat_le octet 122) || (nat_le 48 octet && nat_le octet 57))

-- before the first octet of a label
abbrev pub label_start : Label
label_start = record { octets = 0; ends_in_hyphen = false }

-- A label has an octet at least, and its last one isn't a hyphen.
abbrev pub is_whole : Label → Bool
is_whole label = nat_lt 0 label.octets && not label.ends_in_hyphen

-- A label after an octet more: a letter, a digit, or a hyphen (45) that isn't the first one, up to 63. After a dot (46)
-- the next label.
abbrev pub label_after : Label → ℕ → Option Label
label_after label octet =
    cond (octet == 46) (cond (is_whole label) (Some label_start) None)
    (cond (nat_le 63 label.octets) None
    (cond (is_let_dig octet || ((octet == 45) && nat_lt 0 label.octets))
    (Some (record { octets = label.octets + 1; ends_in_hyphen = octet == 45 })) None))

-- The octets end this label, and are the labels after it.
abbrev pub are_labels : Label → List ℕ → Bool
are_labels label [] = is_whole label
are_labels label (octet ∷ octets) =
    elim (label_after label octet) [ None ↦ false | Some next ↦ are_labels next octets ]

abbrev pub after_dot : List ℕ → List ℕ → List ℕ
after_dot name [] = []
after_dot name (octet ∷ octets) = cond (octet == 46) octets name

-- what follows a first label that is a * (42) alone (RFC 9525 section 6.3)
abbrev pub after_wildcard : List ℕ → List ℕ
after_wildcard [] = []
after_wildcard (octet ∷ octets) = cond (octet == 42) (after_dot (octet ∷ octets) octets) (octet ∷ octets)

-- A * is elsewhere.
abbrev pub has_star : List ℕ → Bool
has_star name = list_any (λ octet. octet == 42) (after_wildcard name)

-- A name of 253 octets at most is in the syntax, but that its first label may be a * alone.
abbrev pub is_host_name : List ℕ → Bool
is_host_name name = nat_le (length name) 253 && are_labels label_start (after_wildcard name)

-- The same without a wildcard.
abbrev pub is_domain_name : List ℕ → Bool
is_domain_name name = nat_le (length name) 253 && are_labels label_start name

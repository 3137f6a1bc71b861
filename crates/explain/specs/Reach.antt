-- Names and addresses that aren't on the Internet.
use Rattle.std.specs.Prelude.{Bool, List, [], codes, cond, false, length, nat_le, true, ℕ, ◌&&◌, ◌+◌, ◌/◌, ◌==◌, ◌||◌, ◌∷◌}
use Rattle.std.specs.List.{list_any}
use Rattle.explain.specs.GeneralNames.{after_last}

-- the small letter of a large one of ASCII, else the octet
abbrev pub small : ℕ → ℕ
small octet = cond (nat_le 65 octet && nat_le octet 90) (octet + 32) octet

-- the label is this word, in small letters or large ones (RFC 1034 section 3.1)
abbrev pub is_label : List ℕ → List ℕ → Bool
is_label [] [] = true
is_label [] (letter ∷ letters) = false
is_label (octet ∷ octets) [] = false
is_label (octet ∷ octets) (letter ∷ letters) = (small octet == letter) && is_label octets letters

-- labels under which the public DNS has no names (RFC 6761 section 6, RFC 6762 section 3)
abbrev pub special_labels : List (List ℕ)
special_labels =
    codes "test" ∷ codes "example" ∷ codes "invalid" ∷ codes "localhost" ∷ codes "local" ∷ []

-- labels of networks of one's own, under which it has none either (RFC 6762 appendix G)
abbrev pub own_labels : List (List ℕ)
own_labels =
    codes "intranet" ∷ codes "internal" ∷ codes "private" ∷ codes "corp" ∷ codes "home" ∷ codes "lan" ∷ []

-- The name isn't in the public DNS: it is one label, or its last label (after the last dot, 46) is one of these.
abbrev pub is_internal : List ℕ → Bool
is_internal name =
    (length (after_last 46 name name) == length name)
    || (list_any (is_label (after_last 46 name name)) special_labels
    || list_any (is_label (after_last 46 name name)) own_labels)

-- 0.0.0.0/8, 10.0.0.0/8, 127.0.0.0/8, 240.0.0.0/4 (RFC 6890 section 2.2.2)
abbrev pub is_reserved_first : ℕ → Bool
is_reserved_first first = (first == 0) || ((first == 10) || ((first == 127) || nat_le 240 first))

-- 100.64.0.0/10, 169.254.0.0/16, 172.16.0.0/12, 192.168.0.0/16, 198.18.0.0/15 (the same)
abbrev pub is_reserved_pair : ℕ → ℕ → Bool
is_reserved_pair first second =
    ((first == 100) && ((second / 64) == 1))
    || (((first == 169) && (second == 254))
    || (((first == 172) && ((second / 16) == 1))
    || (((first == 192) && (second == 168)) || ((first == 198) && ((second / 2) == 9)))))

-- 192.0.2.0/24, 198.51.100.0/24, 203.0.113.0/24, for documents (the same)
abbrev pub is_of_documents : ℕ → ℕ → ℕ → Bool
is_of_documents first second third =
    ((first == 192) && ((second == 0) && (third == 2)))
    || (((first == 198) && ((second == 51) && (third == 100)))
    || ((first == 203) && ((second == 0) && (third == 113))))

-- an address of IP version 4 that isn't one of the Internet's, by its first three octets
abbrev pub is_reserved_four : ℕ → ℕ → ℕ → Bool
is_reserved_four first second third =
    is_reserved_first first || (is_reserved_pair first second || is_of_documents first second third)

-- fc00::/7, fe80::/10 (RFC 6890 section 2.2.3)
abbrev pub is_own_sixteen : ℕ → ℕ → Bool
is_own_sixteen first second = ((first / 2) == 126) || ((first == 254) && ((second / 64) == 2))

-- 2001:db8::/32, for documents (the same)
abbrev pub is_document_sixteen : ℕ → ℕ → ℕ → ℕ → Bool
is_document_sixteen first second third fourth =
    ((first == 32) && (second == 1)) && ((third == 13) && (fourth == 184))

-- :: and ::1 (the same): the last octet is 1 at most, and those before it are 0
abbrev pub is_host_itself : List ℕ → Bool
is_host_itself [] = false
is_host_itself (octet ∷ octets) =
    cond (length octets == 0) (nat_le octet 1) ((octet == 0) && is_host_itself octets)

-- an address of IP version 6 that isn't one of the Internet's, by its first four octets and all of them
abbrev pub is_reserved_sixteen : ℕ → ℕ → ℕ → ℕ → List ℕ → Bool
is_reserved_sixteen first second third fourth address =
    (length address == 16)
    && (is_own_sixteen first second
    || (is_document_sixteen first second third fourth || is_host_itself address))

-- an address that isn't one of the Internet's
abbrev pub is_reserved : List ℕ → Bool
is_reserved [] = false
is_reserved (first ∷ []) = false
is_reserved (first ∷ second ∷ []) = false
is_reserved (first ∷ second ∷ third ∷ []) = false
is_reserved (first ∷ second ∷ third ∷ fourth ∷ []) = is_reserved_four first second third
is_reserved (first ∷ second ∷ third ∷ fourth ∷ fifth ∷ rest) =
    is_reserved_sixteen first second third fourth
    (first ∷ second ∷ third ∷ fourth ∷ fifth ∷ rest)

-- The octets of a header, one after another.
use Rattle.std.proofs.Common.{◌≡◌, ℕ, Bool, ◌-◌, ◌++◌, List, [], ◌∷◌, ◌∙◌, ap, append_assoc, arith, cond, false, flat_map, length, length-append, sym, take, take_all, true}
use Rattle.std.proofs.lemmas.List.{take-append-le}
use Rattle.std.proofs.lemmas.List.Concat.{flat_map-append}
use Rattle.tlv_core.specs.Header.{der_header}
use Rattle.tlv_core.specs.Identifier.{Tag, identifier}
use Rattle.tlv_core.specs.Length.{shortest_length}
use Rattle.reports.specs.Texts.{octet_after, octet_text, octets_text}

take_but_last : (xs : List ℕ) (x : ℕ) → take (length (xs ++ x ∷ []) - 1) (xs ++ x ∷ []) ≡ xs
take_but_last xs x =
    let n = length (xs ++ x ∷ []) - 1 in
    let one = length-append xs (x ∷ []) in
    let same : n ≡ length xs = omega (arith, one) in
    take-append-le n xs (x ∷ []) (omega (arith, same)) ∙ take_all n xs (omega (arith, same))

-- a header of no contents octets without its last octet
pub identifier_alone : (tag : Tag) (constructed : Bool)
    → take (length (der_header tag constructed 0) - 1) (der_header tag constructed 0) ≡ identifier tag constructed
unfolding der_header shortest_length
identifier_alone tag constructed = take_but_last (identifier tag constructed) 0

-- octets after some are octets after the first one
more_octets : (octet : ℕ) (octets more : List ℕ)
    → octets_text (octet ∷ octets) ++ flat_map octet_after more ≡ octets_text ((octet ∷ octets) ++ more)
more_octets octet octets more =
    append_assoc (octet_text octet) (flat_map octet_after octets) (flat_map octet_after more)
    ∙ ap (λ s. octet_text octet ++ s) (sym (flat_map-append octet_after octets more))

after_either : (short : Bool) (one first : ℕ) (others more : List ℕ)
    → octets_text (cond short (one ∷ []) (first ∷ others)) ++ flat_map octet_after more
    ≡ octets_text (cond short (one ∷ []) (first ∷ others) ++ more)
after_either true one first others more = more_octets one [] more
after_either false one first others more = more_octets first others more

-- an identifier has an octet, so that those of the length are after others
pub after_identifier : (tag : Tag) (constructed : Bool) (more : List ℕ)
    → octets_text (identifier tag constructed) ++ flat_map octet_after more
    ≡ octets_text (identifier tag constructed ++ more)
unfolding identifier
after_identifier tag constructed more = after_either _ _ _ _ more

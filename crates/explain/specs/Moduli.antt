-- How long the modulus is of a key of RSA that a document contains: public, also in a private key (RFC 8017 section 3.2).
use Rattle.std.specs.Prelude.{List, None, Option, Some, [], codes, cond, option_and_then, ℕ, ◌∷◌}
use Rattle.std.specs.Option.{option_or}
use Rattle.asn_names.specs.declared.element.NamedElement.{NamedElement}
use Rattle.reports.specs.Keys.{integer_bits, is_below_zero}
use Rattle.reports.specs.declared.report.Answer.{Answer}
use Rattle.reports.specs.declared.report.Answer.TheVariants.{Der, NotDer, Refused}
use Rattle.explain.specs.Contents.{contents_in}
use Rattle.explain.specs.Public.{is_field}
use Rattle.explain.specs.declared.document.inside.Inside.{Inside}

-- how many bits the contents of an INTEGER have that isn't negative
abbrev pub positive_bits : List ℕ → Option ℕ
positive_bits contents = cond (is_below_zero contents) None (Some (integer_bits contents))

abbrev pub bits_of : Option (List ℕ) → Option ℕ
bits_of contents = option_and_then positive_bits contents

-- the bits of the first modulus among elements
abbrev pub modulus_in : List ℕ → List NamedElement → Option ℕ
modulus_in octets [] = None
modulus_in octets (element ∷ elements) =
    cond (is_field element.step (codes "modulus")) (bits_of (contents_in octets element)) (modulus_in octets elements)

-- those of the first one in these documents
abbrev pub modulus_of : List Inside → Option ℕ
modulus_of [] = None
modulus_of (inside ∷ insides) =
    option_or (modulus_in inside.octets.items inside.named.elements.items) (modulus_of insides)

-- of a document that is accepted
abbrev pub modulus_by : Answer → List Inside → Option ℕ
modulus_by Der insides = modulus_of insides
modulus_by (NotDer place) insides = modulus_of insides
modulus_by (Refused fault) insides = None

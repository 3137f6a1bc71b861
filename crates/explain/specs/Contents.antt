-- The contents octets of an element.
use Rattle.std.specs.Prelude.{List, None, Option, Some, cond, drop, length, nat_le, take, ℕ, ◌&&◌, ◌-◌}
use Rattle.asn_names.specs.declared.element.NamedElement.{NamedElement}

-- the contents octets between two places
abbrev pub between : List ℕ → Option ℕ → Option ℕ → Option (List ℕ)
between octets None end = None
between octets (Some begin) None = None
between octets (Some begin) (Some end) =
    cond (nat_le begin end && nat_le end (length octets)) (Some (take (end - begin) (drop begin octets))) None

-- those of a primitive element that is whole
abbrev pub contents_in : List ℕ → NamedElement → Option (List ℕ)
contents_in octets element = cond element.header.constructed None (between octets element.begin element.end)

-- What the readers and the writer of fields rest on.
use Rattle.std.specs.Prelude.{Bool, List, [], true, ℕ}
use Rattle.x690.specs.TypeTerms.{Fields}
use Rattle.x690.specs.Values.{Value}
use Rattle.asn_fields.specs.Apart.{BeginsAsTyped, Tells}

-- What is known of fields with these values: their types, in front of those after them; how many there are at most;
-- that each that is there begins as its type may; and that they are told by their texts.
pub record Listing {A : Type 0} (values : A → List Value) : Type 0 where
  pub types : Fields → Fields
  pub most : ℕ
  pub known : A → Bool
  pub begins : BeginsAsTyped known types values
  pub tells : Tells known types values

-- no fields
abbrev pub nothing : {A : Type 0} → Listing {A = A} (λ a. [])
nothing = record {
  types = λ rest. rest;
  most = 0;
  known = λ a. true;
  begins = λ a rest vs known begun. begun;
  tells = λ a b rest vs ws known known' parted begun begun' alike. (tt, alike, parted);
}

-- the same of what holds such fields
abbrev pub through : {A B : Type 0} {values : A → List Value} (held : B → A) → Listing values
    → Listing (λ b. values (held b))
through held of = record {
  types = of.types;
  most = of.most;
  known = λ b. of.known (held b);
  begins = λ b. of.begins (held b);
  tells = λ b c. of.tells (held b) (held c);
}

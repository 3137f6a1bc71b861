-- What clauses see of one of two.
use Rattle.std.specs.Prelude.{None, Option, Some}
use Rattle.asn_fields.specs.declared.either.Either.{Either}
use Rattle.asn_fields.specs.declared.either.Either.TheVariants.{First, Second}

abbrev pub first_of : {A B : Type 0} → Either A B → Option A
first_of (First a) = Some a
first_of (Second b) = None

abbrev pub second_of : {A B : Type 0} → Either A B → Option B
second_of (First a) = None
second_of (Second b) = Some b

abbrev pub each_of : {A B C D : Type 0} → (A → C) → (B → D) → Either A B → Either C D
each_of first second (First a) = First (first a)
each_of first second (Second b) = Second (second b)

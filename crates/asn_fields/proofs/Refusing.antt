-- What is read of an element that is refused by its tag.
use Rattle.std.proofs.Common.{◌≡◌, Bool, List, Option, true, ℕ}
use Rattle.tlv_core.specs.Identifier.{Tag}
use Rattle.tlv_core.specs.Limits.{Limits}
use Rattle.tlv_core.specs.declared.reason.Reason.{Reason}
use Rattle.tlv_core.specs.declared.reason.Reason.TheVariants.{WrongTag}
use Rattle.x690.specs.Layouts.{same_tag}
use Rattle.x690.specs.Points.{Enclosing, fault}
use Rattle.x690.specs.ReadTypes.{read_type}
use Rattle.x690.specs.Reading.{Fail, require}
use Rattle.x690.specs.Reads.{Heard, Refused}
use Rattle.x690.specs.TypeTerms.{RefusedType}
use Rattle.x690.specs.Values.{Value}
use Rattle.ber_pull.specs.Hears.{Hears}
use Rattle.ber_pull.proofs.Hearing.{hears_fail, hears_on}

module _ (l : Limits) (own : Tag) (why : Reason) (earlier : List Value) (c : Enclosing) (p : ℕ) (tag : Tag)
    (form : Bool) where
  pub refused_as : (h : Heard Value) (k i : ℕ) (s u : Option (List ℕ))
      → Hears (require (same_tag own tag) (fault p WrongTag) (Fail (fault p why))) k s h i u
      → Hears (read_type l (RefusedType own why) earlier c p tag form) k s h i u
  unfolding read_type
  refused_as h k i s u x = x

  pub refused_here : (k : ℕ) (s : Option (List ℕ)) → same_tag own tag ≡ true
      → Hears (read_type l (RefusedType own why) earlier c p tag form) k s (Refused (fault p why)) k s
  refused_here k s on =
      refused_as (Refused (fault p why)) k k s s (hears_on _ _ _ _ _ _ _ _ on (hears_fail Value (fault p why) k s))

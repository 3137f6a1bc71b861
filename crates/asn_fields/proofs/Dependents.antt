-- What is answered of an element that depends on the earlier fields of its container.
use Rattle.std.proofs.Common.{◌≡◌, ◌∙◌, ◌<◌, ◌^◌, Bool, IfSome, List, None, Option, Some, [], ap, append-nil, arith, false, length, true, ℕ}
use Rattle.std.specs.Option.{option_map}
use Rattle.tlv_core.specs.Identifier.{Tag}
use Rattle.tlv_core.specs.Limits.{Limits}
use Rattle.tlv_core.specs.declared.reason.Reason.{Reason}
use Rattle.tlv_core.specs.declared.reason.Reason.TheVariants.{WrongTag}
use Rattle.x690.specs.DerTexts.{der, texts_of}
use Rattle.x690.specs.Layouts.{same_tag}
use Rattle.x690.specs.Lists.{Each, one_of}
use Rattle.x690.specs.Points.{Enclosing, fault}
use Rattle.x690.specs.ReadHeaders.{Next}
use Rattle.x690.specs.ReadTypes.{read_type}
use Rattle.x690.specs.Reading.{Fail, Reading, require}
use Rattle.x690.specs.Reads.{Heard, Refused}
use Rattle.x690.specs.TypeTerms.{DefinedByType, RefusedType, TypeTerm}
use Rattle.x690.specs.Values.{Same, Value, leaf_at}
use Rattle.x690_laws.proofs.ValuesOfTrees.{leaf_at_same}
use Rattle.asn_fields.specs.Insides.{Inside}
use Rattle.asn_fields.specs.FieldReadings.{with_field}
use Rattle.ber_pull.specs.Hears.{Hears}
use Rattle.ber_pull.specs.Standing.{Standing, enclosing}
use Rattle.ber_pull.proofs.Hearing.{hears_as, hears_fail, hears_first, hears_on, hears_second}
use Rattle.asn_fields.proofs.Insides.{inside_limits}

-- at the point inside, after the same fields
pub there_as : (outer : Standing) (inside : Enclosing) (s : Standing) (next : Next) (T : TypeTerm) (fields : List Value)
    (p : ℕ) (tag : Tag) (form : Bool) (h : Heard Value) (k i : ℕ) (o u : Option (List ℕ))
    → Inside outer inside s next
    → Hears (read_type s.limits T fields (enclosing s) p tag form) k o h i u
    → Hears (read_type outer.limits T fields inside p tag form) k o h i u
there_as outer inside s next T fields p tag form h k i o u a x =
    hears_as _ _ h k i o u
    (ap (λ l. read_type l T fields (enclosing s) p tag form) (inside_limits outer inside s next a)
    ∙ ap (λ c. read_type outer.limits T fields c p tag form) a.point) x

-- of one of two types
module _ (l : Limits) (path : List ℕ) (octets : List (List ℕ)) (first second : TypeTerm) (fields ws : List Value)
    (same : Each Same fields ws) (c : Enclosing) (p : ℕ) (tag : Tag) (form : Bool) where
  pub as_first_type : (h : Heard Value) (k i : ℕ) (s u : Option (List ℕ)) → one_of (leaf_at path ws) octets ≡ true
      → Hears (read_type l first fields c p tag form) k s h i u
      → Hears (read_type l (DefinedByType path octets first second) fields c p tag form) k s h i u
  unfolding read_type
  as_first_type h k i s u e x =
      hears_first _ _ _ h k i s u (ap (λ o. one_of o octets) (leaf_at_same path fields ws same) ∙ e) x

  pub as_second_type : (h : Heard Value) (k i : ℕ) (s u : Option (List ℕ)) → one_of (leaf_at path ws) octets ≡ false
      → Hears (read_type l second fields c p tag form) k s h i u
      → Hears (read_type l (DefinedByType path octets first second) fields c p tag form) k s h i u
  unfolding read_type
  as_second_type h k i s u e x =
      hears_second _ _ _ h k i s u (ap (λ o. one_of o octets) (leaf_at_same path fields ws same) ∙ e) x

-- the text of a field that may be absent
pub optional_text_short : {A : Type 0} (value : A → Value) (o : Option A)
    → IfSome o (λ a. length (der (value a)) < 2 ^ 32) → length (texts_of (with_field (option_map value o) [])) < 2 ^ 32
optional_text_short value None short = omega arith
optional_text_short value (Some a) short = let is = ap length (append-nil (der (value a))) in omega arith

-- an element that is refused by its tag
pub refused_reads : (l : Limits) (own : Tag) (why : Reason) (fields : List Value) (c : Enclosing) (p : ℕ) (tag : Tag)
    (form : Bool) (k : ℕ) (s : Option (List ℕ))
    → same_tag own tag ≡ true
    → Hears (read_type l (RefusedType own why) fields c p tag form) k s (Refused (fault p why)) k s
unfolding read_type
refused_reads l own why fields c p tag form k s on = hears_on _ _ _ _ _ _ _ _ on (hears_fail Value (fault p why) k s)

pub refused_stops : (l : Limits) (own : Tag) (why : Reason) (fields : List Value) (c : Enclosing) (p : ℕ) (tag : Tag)
    (form : Bool) (h : Heard Value) (k i : ℕ) (s u : Option (List ℕ))
    → ((q : Reading Value) → Hears (require (same_tag own tag) (fault p WrongTag) q) k s h i u)
    → Hears (read_type l (RefusedType own why) fields c p tag form) k s h i u
unfolding read_type
refused_stops l own why fields c p tag form h k i s u x = x (Fail (fault p why))

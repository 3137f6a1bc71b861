-- A SEQUENCE that is read field by field: what was read so far, and what is left to read.
-- The proof of a reader is a list of these rules: `after_begin`, then `after_` each call that gave a value,
-- then `answered`, or `stopped_at_` the call that failed. A rule on a field goes between `take` and `ahead`,
-- one on the whole after `end`.
use Rattle.std.proofs.Common.{◌≡◌, ◌∙◌, ◌++◌, ℕ, Bool, true, false, List, [], ◌∷◌, Option, Some, None, ap, ap₂, append_assoc, append-nil, refl, subst, sym}
use Rattle.tlv_core.specs.Identifier.{Tag}
use Rattle.tlv_core.specs.Limits.{Limits}
use Rattle.tlv_core.specs.declared.fault.ReadError.{ReadError}
use Rattle.tlv_core.specs.declared.fault.ReadError.TheVariants as errors
use Rattle.tlv_core.specs.declared.reason.Reason.{Reason}
use Rattle.x690.specs.Lists.{Each, one_of}
use Rattle.x690.specs.Points.{Enclosing, fault}
use Rattle.x690.specs.Premises.{FairRule}
use Rattle.x690.specs.ReadHeaders.{Next, next_tag}
use Rattle.x690.specs.ReadTypes.{apply_rule, is_this_leaf, read_fields, read_type}
use Rattle.x690.specs.Reading.{Done, Reading, run, ◌>>=◌}
use Rattle.x690.specs.Reads.{Refused, Said}
use Rattle.x690.specs.TypeTerms.{Default, DefinedByType, EndOfFields, Fields, Optional, Required, Rule, RuledType, SequenceType, TypeTerm, fits_tag}
use Rattle.x690.specs.Values.{Leaf, Same, Sequence, SetOf, Value, leaf_at, values_of}
use Rattle.x690_laws.proofs.ValuesOfTrees.{leaf_at_same}
use Rattle.asn_fields.specs.Insides.{Inside, Within}
use Rattle.asn_fields.specs.FieldReadings.{but_default, read_begin, read_due, read_end, read_optional, read_take, with_field}
use Rattle.ber_pull.specs.Hears.{Continues, Hears, heard_error, next_at}
use Rattle.ber_pull.specs.Standing.{Standing, enclosing}
use Rattle.asn_fields.proofs.FieldReadings as rules
use Rattle.asn_elements.proofs.RuledReadings.{rule_refuses}
use Rattle.ber_pull.proofs.Hearing.{hears_done, hears_error, hears_same, hears_then}
use Rattle.x690.proofs.Runs.{bind_same}
use Rattle.asn_fields.specs.Fields.{SameField}
use Rattle.asn_fields.specs.BegunSequence.{BegunSequence}
use Rattle.asn_elements.proofs.SameMembers.{each_last, same_lists}

-- the values of a SEQUENCE as its value
abbrev pub as_sequence : Tag → List Value → Reading Value
as_sequence own values = Done (Sequence own (values_of values))

-- Into the SEQUENCE.

pub after_begin : {own own' : Tag} {fields : Fields} {outer new : Standing} {inside : Enclosing} {next : Next}
    {u : Option (List ℕ)} (earlier : List Value) (p : ℕ) (tag : Tag) (constructed : Bool) (s : Option (List ℕ))
    → own' ≡ own
    → Hears (read_begin outer.limits own' (enclosing outer) p tag constructed) outer.taken s
    (Said (inside, next)) new.taken u
    → Inside outer inside new next
    → BegunSequence outer.taken s
    (read_type outer.limits (SequenceType own fields) earlier (enclosing outer) p tag constructed)
    (as_sequence own) fields [] next new u
after_begin {own} {own'} {fields} {outer} {new} {inside} {next} {u} earlier p tag constructed s is x stands = record {
  values = [];
  same = tt;
  outer = outer;
  inside = inside;
  stands = stands;
  onward = record {
    rest = λ h i u' y.
        rules.begins outer.limits own own' fields earlier
        (enclosing outer) p tag constructed inside next h _ _ _ _ _ _ is x y;
  };
}

pub stopped_at_begin : {own own' : Tag} (fields : Fields) (earlier : List Value) (l : Limits) (c : Enclosing) (p : ℕ)
    (tag : Tag) (constructed : Bool) (e : ReadError) (k i : ℕ) (s u : Option (List ℕ))
    → own' ≡ own → Hears (read_begin l own' c p tag constructed) k s (heard_error e) i u
    → Hears (read_type l (SequenceType own fields) earlier c p tag constructed) k s (heard_error e) i u
stopped_at_begin {own} {own'} fields earlier l c p tag constructed e k i s u is x =
    rules.begins_error l own own' fields earlier c p tag constructed e k i s u is x

-- A field that is due.

module _ {k : ℕ} {s : Option (List ℕ)} {whole : Reading Value} {finish : List Value → Reading Value} {rest : Fields}
    {T : TypeTerm} {ws : List Value} {next : Next} {now : Standing} {t : Option (List ℕ)}
    (a : BegunSequence k s whole finish (Required T rest) ws next now t) where
  -- which looks at the earlier fields
  pub after_due_behind : {next' : Next} {new : Standing} {u : Option (List ℕ)} (w : Value)
      → ((fields : List Value) → Each Same fields ws → (outer : Standing) (inside : Enclosing)
      → Inside outer inside now next
      → (v : Value) × Same v w
      × Hears (read_due outer.limits T fields inside next) now.taken t (Said (v, next')) new.taken u)
      → ((outer : Standing) (inside : Enclosing) → Inside outer inside now next → Inside outer inside new next')
      → BegunSequence k s whole finish rest (ws ++ (w ∷ [])) next' new u
  after_due_behind {next'} {new} {u} w reads stands =
      let f = reads a.values a.same a.outer a.inside a.stands in record {
        values = a.values ++ (f.0 ∷ []);
        same = each_last _ _ _ _ a.same f.1;
        outer = a.outer;
        inside = a.inside;
        stands = stands a.outer a.inside a.stands;
        onward = record {
          rest = λ h i u' y. a.onward.rest h i u'
              (rules.due a.outer.limits T rest a.values a.inside next _ f.0 next' h _ _ i _ _ u' f.2
              (hears_same _ _ h new.taken i u u'
              (bind_same (read_fields a.outer.limits rest (a.values ++ (f.0 ∷ [])) a.inside next') _ _
              (λ more j o. ap (λ z. run (finish z) j o) (append_assoc a.values (f.0 ∷ []) more))) y));
        };
      }

  pub stopped_at_due_behind : (e : ReadError) (i : ℕ) (u : Option (List ℕ))
      → ((fields : List Value) → Each Same fields ws → (outer : Standing) (inside : Enclosing)
      → Inside outer inside now next
      → Hears (read_due outer.limits T fields inside next) now.taken t (heard_error e) i u)
      → Hears whole k s (heard_error e) i u
  stopped_at_due_behind e i u reads =
      a.onward.rest (heard_error e) i u
      (rules.due_error a.outer.limits T rest a.values a.inside next _ e _ i _ u
      (reads a.values a.same a.outer a.inside a.stands))

  -- or doesn't
  pub after_due : {next' : Next} {new : Standing} {u : Option (List ℕ)} (w : Value)
      → ((earlier : List Value) (outer : Standing) (inside : Enclosing) → Inside outer inside now next
      → (v : Value) × Same v w
      × Hears (read_due outer.limits T earlier inside next) now.taken t (Said (v, next')) new.taken u)
      → ((outer : Standing) (inside : Enclosing) → Inside outer inside now next → Inside outer inside new next')
      → BegunSequence k s whole finish rest (ws ++ (w ∷ [])) next' new u
  after_due w reads stands = after_due_behind w (λ fields same. reads fields) stands

  pub stopped_at_due : (e : ReadError) (i : ℕ) (u : Option (List ℕ))
      → ((earlier : List Value) (outer : Standing) (inside : Enclosing) → Inside outer inside now next
      → Hears (read_due outer.limits T earlier inside next) now.taken t (heard_error e) i u)
      → Hears whole k s (heard_error e) i u
  stopped_at_due e i u reads = stopped_at_due_behind e i u (λ fields same. reads fields)

-- the values of fields, and of those after them
pub behind_both : {k : ℕ} {s : Option (List ℕ)} {whole : Reading Value} {finish : List Value → Reading Value}
    {rest : Fields} {next : Next} {now : Standing} {t : Option (List ℕ)} (ws vs vs' : List Value)
    → BegunSequence k s whole finish rest ((ws ++ vs) ++ vs') next now t
    → BegunSequence k s whole finish rest (ws ++ (vs ++ vs')) next now t
behind_both {k} {s} {whole} {finish} {rest} {next} {now} {t} ws vs vs' a =
    subst (λ z. BegunSequence k s whole finish rest z next now t) (append_assoc ws vs vs') a

-- A field that is due, by itself: a rule on it is tested before what stands after it is looked at.

-- An element was read for a field that is due: `w`. Nothing after it was looked at; `judge` of it, and what
-- is left, answer the whole.
pub record FieldTaken (k : ℕ) (s : Option (List ℕ)) (whole : Reading Value) (finish : List Value → Reading Value)
    (judge : List Value → Value → Reading Value) (rest : Fields) (ws : List Value) (w : Value) (now : Standing)
    (t : Option (List ℕ)) : Type 0 where
  pub values : List Value
  pub same : Each Same values ws
  pub value : Value
  pub alike : Same value w
  pub outer : Standing
  pub inside : Enclosing
  pub stands : Within outer inside now
  pub onward : Continues whole k s
      (judge values value >>= rules.then_take outer.limits rest values inside (λ more. finish (values ++ more)))
      now.taken t

-- no rule
abbrev pub unjudged : List Value → Value → Reading Value
unjudged earlier value = Done value

-- the rule on the field that stands at `p`
abbrev pub judged : ℕ → Rule → List Value → Value → Reading Value
judged p rule earlier value = apply_rule p (rule earlier value) value

module _ {k : ℕ} {s : Option (List ℕ)} {whole : Reading Value} {finish : List Value → Reading Value} {rest : Fields}
    {T : TypeTerm} {ws : List Value} {next : Next} {now : Standing} {t : Option (List ℕ)}
    (a : BegunSequence k s whole finish (Required T rest) ws next now t) where
  pub after_take : {new : Standing} {u : Option (List ℕ)} (w : Value)
      → ((earlier : List Value) (outer : Standing) (inside : Enclosing) → Inside outer inside now next
      → (v : Value) × Same v w × Hears (read_take outer.limits T earlier inside next) now.taken t (Said v) new.taken u)
      → ((outer : Standing) (inside : Enclosing) → Inside outer inside now next → Within outer inside new)
      → FieldTaken k s whole finish unjudged rest ws w new u
  unfolding ◌>>=◌
  after_take {new} {u} w reads stands =
      let f = reads a.values a.outer a.inside a.stands in record {
        values = a.values;
        same = a.same;
        value = f.0;
        alike = f.1;
        outer = a.outer;
        inside = a.inside;
        stands = stands a.outer a.inside a.stands;
        onward = record {
          rest = λ h i u' y.
              a.onward.rest h i u' (rules.take a.outer.limits T rest a.values a.inside next _ f.0 h _ _ i _ _ u' f.2 y);
        };
      }

  pub stopped_at_take : (e : ReadError) (i : ℕ) (u : Option (List ℕ))
      → ((earlier : List Value) (outer : Standing) (inside : Enclosing) → Inside outer inside now next
      → Hears (read_take outer.limits T earlier inside next) now.taken t (heard_error e) i u)
      → Hears whole k s (heard_error e) i u
  stopped_at_take e i u reads =
      a.onward.rest (heard_error e) i u
      (rules.take_error a.outer.limits T rest a.values a.inside next _ e _ i _ u
      (reads a.values a.outer a.inside a.stands))

module _ {k : ℕ} {s : Option (List ℕ)} {whole : Reading Value} {finish : List Value → Reading Value} {rule : Rule}
    {rest : Fields} {T : TypeTerm} {ws : List Value} {now : Standing} {t : Option (List ℕ)} (p : ℕ)
    (n : Option (Tag × Bool))
    (a : BegunSequence k s whole finish (Required (RuledType rule T) rest) ws (next_at p n) now t) where
  pub after_take_to_judge : {new : Standing} {u : Option (List ℕ)} (w : Value)
      → ((earlier : List Value) (outer : Standing) (inside : Enclosing) → Inside outer inside now (next_at p n)
      → (v : Value) × Same v w
      × Hears (read_take outer.limits T earlier inside (next_at p n)) now.taken t (Said v) new.taken u)
      → ((outer : Standing) (inside : Enclosing) → Inside outer inside now (next_at p n) → Within outer inside new)
      → FieldTaken k s whole finish (judged p rule) rest ws w new u
  after_take_to_judge {new} {u} w reads stands =
      let f = reads a.values a.outer a.inside a.stands in record {
        values = a.values;
        same = a.same;
        value = f.0;
        alike = f.1;
        outer = a.outer;
        inside = a.inside;
        stands = stands a.outer a.inside a.stands;
        onward = record {
          rest = λ h i u' y.
              a.onward.rest h i u'
              (rules.take_ruled a.outer.limits rule T rest a.values a.inside p n _ f.0 h _ _ i _ _ u' f.2 y);
        };
      }

  pub stopped_at_take_to_judge : (e : ReadError) (i : ℕ) (u : Option (List ℕ))
      → ((earlier : List Value) (outer : Standing) (inside : Enclosing) → Inside outer inside now (next_at p n)
      → Hears (read_take outer.limits T earlier inside (next_at p n)) now.taken t (heard_error e) i u)
      → Hears whole k s (heard_error e) i u
  stopped_at_take_to_judge e i u reads =
      a.onward.rest (heard_error e) i u
      (rules.take_ruled_error a.outer.limits rule T rest a.values a.inside p n _ e _ i _ u
      (reads a.values a.outer a.inside a.stands))

module _ {k : ℕ} {s : Option (List ℕ)} {whole : Reading Value} {finish : List Value → Reading Value} {rest : Fields}
    {ws : List Value} {w : Value} {now : Standing} {t : Option (List ℕ)} (p : ℕ) (rule : Rule) (fair : FairRule rule)
    (a : FieldTaken k s whole finish (judged p rule) rest ws w now t) where
  -- the rule lets it pass
  pub passed : rule ws w ≡ None → FieldTaken k s whole finish unjudged rest ws w now t
  unfolding apply_rule
  passed e = record {
    values = a.values;
    same = a.same;
    value = a.value;
    alike = a.alike;
    outer = a.outer;
    inside = a.inside;
    stands = a.stands;
    onward = record {
      rest = λ h i u y. a.onward.rest h i u
          (subst (λ o.
          Hears (apply_rule p o a.value
          >>= rules.then_take a.outer.limits rest a.values a.inside (λ more. finish (a.values ++ more)))
          now.taken t h i u)
          (sym (fair a.values ws a.value w a.same a.alike ∙ e)) y);
    };
  }

  -- or doesn't
  pub turned_down : (why : Reason) → rule ws w ≡ Some why → Hears whole k s (Refused (fault p why)) now.taken t
  turned_down why e = a.onward.rest _ now.taken t
      (hears_error (judged p rule a.values a.value)
      (rules.then_take a.outer.limits rest a.values a.inside (λ more. finish (a.values ++ more)))
      (errors.Fault (fault p why)) now.taken now.taken t t
      (rule_refuses p (rule a.values a.value) why a.value now.taken t (fair a.values ws a.value w a.same a.alike ∙ e)))

module _ {k : ℕ} {s : Option (List ℕ)} {whole : Reading Value} {finish : List Value → Reading Value} {rest : Fields}
    {ws : List Value} {w : Value} {now : Standing} {t : Option (List ℕ)}
    (a : FieldTaken k s whole finish unjudged rest ws w now t) where
  pub after_ahead : {next : Next} {new : Standing} {u : Option (List ℕ)}
      → ((outer : Standing) (inside : Enclosing) → Within outer inside now
      → Hears (next_tag outer.limits inside) now.taken t (Said next) new.taken u)
      → ((outer : Standing) (inside : Enclosing) → Within outer inside now → Inside outer inside new next)
      → BegunSequence k s whole finish rest (ws ++ (w ∷ [])) next new u
  unfolding ◌>>=◌
  after_ahead {next} {new} {u} reads stands = record {
    values = a.values ++ (a.value ∷ []);
    same = each_last _ _ _ _ a.same a.alike;
    outer = a.outer;
    inside = a.inside;
    stands = stands a.outer a.inside a.stands;
    onward = record {
      rest = λ h i u' y. a.onward.rest h i u'
          (hears_then (next_tag a.outer.limits a.inside)
          (λ n. read_fields a.outer.limits rest (a.values ++ (a.value ∷ [])) a.inside n
          >>= λ more. finish (a.values ++ (a.value ∷ more))) next h _ _ i _ _ u'
          (reads a.outer a.inside a.stands)
          (hears_same _ _ h new.taken i u u'
          (bind_same (read_fields a.outer.limits rest (a.values ++ (a.value ∷ [])) a.inside next) _ _
          (λ more j o. ap (λ z. run (finish z) j o) (append_assoc a.values (a.value ∷ []) more))) y));
    };
  }

  pub stopped_at_ahead : (e : ReadError) (i : ℕ) (u : Option (List ℕ))
      → ((outer : Standing) (inside : Enclosing) → Within outer inside now
      → Hears (next_tag outer.limits inside) now.taken t (heard_error e) i u)
      → Hears whole k s (heard_error e) i u
  unfolding ◌>>=◌
  stopped_at_ahead e i u reads = a.onward.rest (heard_error e) i u
      (hears_error (next_tag a.outer.limits a.inside)
      (λ n. read_fields a.outer.limits rest (a.values ++ (a.value ∷ [])) a.inside n
      >>= λ more. finish (a.values ++ (a.value ∷ more))) e _ i _ u
      (reads a.outer a.inside a.stands))

-- A choice by an earlier field, between types that begin alike.

module _ {k : ℕ} {s : Option (List ℕ)} {whole : Reading Value} {finish : List Value → Reading Value} {path : List ℕ}
    {octets : List (List ℕ)} {first second : TypeTerm} {rest : Fields} {ws : List Value} {next : Next} {now : Standing}
    {t : Option (List ℕ)} (alike : (tag : Tag) → fits_tag second tag ≡ fits_tag first tag)
    (a : BegunSequence k s whole finish (Required (DefinedByType path octets first second) rest) ws next now t) where
  pub as_first : one_of (leaf_at path ws) octets ≡ true
      → BegunSequence k s whole finish (Required first rest) ws next now t
  as_first e = record {
    values = a.values;
    same = a.same;
    outer = a.outer;
    inside = a.inside;
    stands = a.stands;
    onward = record {
      rest = λ h i u y. a.onward.rest h i u
          (rules.due_first a.outer.limits path octets first second rest a.values a.inside next _ h _ i _ u
          (ap (λ o. one_of o octets) (leaf_at_same path a.values ws a.same) ∙ e) alike y);
    };
  }

  pub as_second : one_of (leaf_at path ws) octets ≡ false
      → BegunSequence k s whole finish (Required second rest) ws next now t
  as_second e = record {
    values = a.values;
    same = a.same;
    outer = a.outer;
    inside = a.inside;
    stands = a.stands;
    onward = record {
      rest = λ h i u y. a.onward.rest h i u
          (rules.due_second a.outer.limits path octets first second rest a.values a.inside next _ h _ i _ u
          (ap (λ o. one_of o octets) (leaf_at_same path a.values ws a.same) ∙ e) alike y);
    };
  }

-- A field that may be absent.

-- fields that are the same after others that are
each_field : (vs ws : List Value) (o o' : Option Value) → Each Same vs ws → SameField o o'
    → Each Same (vs ++ with_field o []) (ws ++ with_field o' [])
each_field vs ws None None h s =
    subst (Each Same (vs ++ [])) (sym (append-nil ws)) (subst (λ z. Each Same z ws) (sym (append-nil vs)) h)
each_field vs ws None (Some w) h s = absurd s
each_field vs ws (Some v) None h s = absurd s
each_field vs ws (Some v) (Some w) h s = each_last vs ws v w h s

-- and in front of others
field_first : (vs more : List Value) (o : Option Value) → (vs ++ with_field o []) ++ more ≡ vs ++ with_field o more
field_first vs more None = ap (λ z. z ++ more) (append-nil vs)
field_first vs more (Some v) = append_assoc vs (v ∷ []) more

module _ {k : ℕ} {s : Option (List ℕ)} {whole : Reading Value} {finish : List Value → Reading Value} {rest : Fields}
    {T : TypeTerm} {ws : List Value} {next : Next} {now : Standing} {t : Option (List ℕ)}
    (a : BegunSequence k s whole finish (Optional T rest) ws next now t) where
  -- which looks at the earlier fields
  pub after_optional_behind : {next' : Next} {new : Standing} {u : Option (List ℕ)} (w : Option Value)
      → ((fields : List Value) → Each Same fields ws → (outer : Standing) (inside : Enclosing)
      → Inside outer inside now next
      → (v : Option Value) × SameField v w
      × Hears (read_optional outer.limits T fields inside next) now.taken t (Said (v, next')) new.taken u)
      → ((outer : Standing) (inside : Enclosing) → Inside outer inside now next → Inside outer inside new next')
      → BegunSequence k s whole finish rest (ws ++ with_field w []) next' new u
  after_optional_behind {next'} {new} {u} w reads stands =
      let f = reads a.values a.same a.outer a.inside a.stands in record {
        values = a.values ++ with_field f.0 [];
        same = each_field _ _ _ _ a.same f.1;
        outer = a.outer;
        inside = a.inside;
        stands = stands a.outer a.inside a.stands;
        onward = record {
          rest = λ h i u' y. a.onward.rest h i u'
              (rules.optional a.outer.limits T rest a.values a.inside next _ f.0 next' h _ _ i _ _ u' f.2
              (hears_same _ _ h new.taken i u u'
              (bind_same (read_fields a.outer.limits rest (a.values ++ with_field f.0 []) a.inside next') _ _
              (λ more j o. ap (λ z. run (finish z) j o) (field_first a.values more f.0))) y));
        };
      }

  pub stopped_at_optional_behind : (e : ReadError) (i : ℕ) (u : Option (List ℕ))
      → ((fields : List Value) → Each Same fields ws → (outer : Standing) (inside : Enclosing)
      → Inside outer inside now next
      → Hears (read_optional outer.limits T fields inside next) now.taken t (heard_error e) i u)
      → Hears whole k s (heard_error e) i u
  stopped_at_optional_behind e i u reads =
      a.onward.rest (heard_error e) i u
      (rules.optional_error a.outer.limits T rest a.values a.inside next _ e _ i _ u
      (reads a.values a.same a.outer a.inside a.stands))

  -- or doesn't
  pub after_optional : {next' : Next} {new : Standing} {u : Option (List ℕ)} (w : Option Value)
      → ((earlier : List Value) (outer : Standing) (inside : Enclosing) → Inside outer inside now next
      → (v : Option Value) × SameField v w
      × Hears (read_optional outer.limits T earlier inside next) now.taken t (Said (v, next')) new.taken u)
      → ((outer : Standing) (inside : Enclosing) → Inside outer inside now next → Inside outer inside new next')
      → BegunSequence k s whole finish rest (ws ++ with_field w []) next' new u
  after_optional w reads stands = after_optional_behind w (λ fields same. reads fields) stands

  pub stopped_at_optional : (e : ReadError) (i : ℕ) (u : Option (List ℕ))
      → ((earlier : List Value) (outer : Standing) (inside : Enclosing) → Inside outer inside now next
      → Hears (read_optional outer.limits T earlier inside next) now.taken t (heard_error e) i u)
      → Hears whole k s (heard_error e) i u
  stopped_at_optional e i u reads = stopped_at_optional_behind e i u (λ fields same. reads fields)

-- a field that may be absent, and is said in another way
pub fields_as : {k : ℕ} {s : Option (List ℕ)} {whole : Reading Value} {finish : List Value → Reading Value}
    {rest : Fields} {next : Next} {now : Standing} {t : Option (List ℕ)} {o o' : Option Value} (ws : List Value)
    → o ≡ o' → BegunSequence k s whole finish rest (ws ++ with_field o' []) next now t
    → BegunSequence k s whole finish rest (ws ++ with_field o []) next now t
fields_as {k} {s} {whole} {finish} {rest} {next} {now} {t} ws e a =
    subst (λ z. BegunSequence k s whole finish rest (ws ++ with_field z []) next now t) (sym e) a

-- A field with a DEFAULT.

-- values that are the same are the default or not alike
default_alike : (own : Tag) (octets : List ℕ) (v w : Value) → Same v w
    → is_this_leaf own octets v ≡ is_this_leaf own octets w
unfolding Same
default_alike own octets (Leaf t o) (Leaf t' o') h = ap₂ (λ x y. is_this_leaf own octets (Leaf x y)) h.0 h.1
default_alike own octets (Leaf t o) (Sequence t' vs) h = absurd h
default_alike own octets (Leaf t o) (SetOf t' vs) h = absurd h
default_alike own octets (Sequence t vs) (Leaf t' o) h = absurd h
default_alike own octets (Sequence t vs) (Sequence t' ws) h = refl
default_alike own octets (Sequence t vs) (SetOf t' ws) h = absurd h
default_alike own octets (SetOf t vs) (Leaf t' o) h = absurd h
default_alike own octets (SetOf t vs) (Sequence t' ws) h = absurd h
default_alike own octets (SetOf t vs) (SetOf t' ws) h = refl

default_same : (own : Tag) (octets : List ℕ) (o o' : Option Value) → SameField o o'
    → SameField (but_default own octets o) (but_default own octets o')
default_same own octets None None h = tt
default_same own octets None (Some w) h = absurd h
default_same own octets (Some v) None h = absurd h
default_same own octets (Some v) (Some w) h =
    subst (λ b.
    SameField (elim (is_this_leaf own octets v) [ true ↦ None | false ↦ Some v ])
    (elim b [ true ↦ None | false ↦ Some w ]))
    (default_alike own octets v w h) (go (is_this_leaf own octets v))
  where
    go : (b : Bool) → SameField (elim b [ true ↦ None | false ↦ Some v ]) (elim b [ true ↦ None | false ↦ Some w ])
    go true = tt
    go false = h

module _ {k : ℕ} {s : Option (List ℕ)} {whole : Reading Value} {finish : List Value → Reading Value} {own : Tag}
    {octets : List ℕ} {rest : Fields} {T : TypeTerm} {ws : List Value} {next : Next} {now : Standing}
    {t : Option (List ℕ)} (a : BegunSequence k s whole finish (Default own octets T rest) ws next now t) where
  pub after_default : {next' : Next} {new : Standing} {u : Option (List ℕ)} (w : Option Value)
      → ((earlier : List Value) (outer : Standing) (inside : Enclosing) → Inside outer inside now next
      → (v : Option Value) × SameField v w
      × Hears (read_optional outer.limits T earlier inside next) now.taken t (Said (v, next')) new.taken u)
      → ((outer : Standing) (inside : Enclosing) → Inside outer inside now next → Inside outer inside new next')
      → BegunSequence k s whole finish rest (ws ++ with_field (but_default own octets w) []) next' new u
  after_default {next'} {new} {u} w reads stands =
      let f = reads a.values a.outer a.inside a.stands in
      let kept = but_default own octets f.0 in record {
        values = a.values ++ with_field kept [];
        same = each_field _ _ _ _ a.same (default_same own octets _ _ f.1);
        outer = a.outer;
        inside = a.inside;
        stands = stands a.outer a.inside a.stands;
        onward = record {
          rest = λ h i u' y. a.onward.rest h i u'
              (rules.default a.outer.limits own octets T rest a.values a.inside next _ f.0 next' h _ _ i _ _ u' f.2
              (hears_same _ _ h new.taken i u u'
              (bind_same (read_fields a.outer.limits rest (a.values ++ with_field kept []) a.inside next') _ _
              (λ more j o. ap (λ z. run (finish z) j o) (field_first a.values more kept))) y));
        };
      }

  pub stopped_at_default : (e : ReadError) (i : ℕ) (u : Option (List ℕ))
      → ((earlier : List Value) (outer : Standing) (inside : Enclosing) → Inside outer inside now next
      → Hears (read_optional outer.limits T earlier inside next) now.taken t (heard_error e) i u)
      → Hears whole k s (heard_error e) i u
  stopped_at_default e i u reads =
      a.onward.rest (heard_error e) i u
      (rules.default_error a.outer.limits own octets T rest a.values a.inside next _ e _ i _ u
      (reads a.values a.outer a.inside a.stands))

-- The end.

-- All values were read, and `finish` of them answers the whole.
pub record AllRead (k : ℕ) (s : Option (List ℕ)) (whole : Reading Value) (finish : List Value → Reading Value)
    (ws : List Value) (j : ℕ) (t : Option (List ℕ)) : Type 0 where
  pub values : List Value
  pub same : Each Same values ws
  pub onward : Continues whole k s (finish values) j t

module _ {k : ℕ} {s : Option (List ℕ)} {whole : Reading Value} {finish : List Value → Reading Value} {ws : List Value}
    {next : Next} {now : Standing} {t : Option (List ℕ)}
    (a : BegunSequence k s whole finish EndOfFields ws next now t) where
  pub after_end : {j : ℕ} {u : Option (List ℕ)}
      → ((outer : Standing) (inside : Enclosing) → Inside outer inside now next
      → Hears (read_end next) now.taken t (Said tt) j u)
      → AllRead k s whole finish ws j u
  after_end {j} {u} reads = record {
    values = a.values;
    same = a.same;
    onward = record {
      rest = λ h i u' y. a.onward.rest h i u'
          (rules.ends a.outer.limits a.values a.inside next _ h _ _ i _ _ u' (reads a.outer a.inside a.stands)
          (subst (λ z. Hears (finish z) j u h i u') (sym (append-nil a.values)) y));
    };
  }

  pub stopped_at_end : (e : ReadError) (i : ℕ) (u : Option (List ℕ))
      → ((outer : Standing) (inside : Enclosing) → Inside outer inside now next
      → Hears (read_end next) now.taken t (heard_error e) i u)
      → Hears whole k s (heard_error e) i u
  stopped_at_end e i u reads =
      a.onward.rest (heard_error e) i u
      (rules.ends_error a.outer.limits a.values a.inside next _ e _ i _ u (reads a.outer a.inside a.stands))

-- the value of the SEQUENCE is the answer
pub answered : {k : ℕ} {s : Option (List ℕ)} {whole : Reading Value} {own : Tag} {ws : List Value} {j : ℕ}
    {t : Option (List ℕ)}
    → AllRead k s whole (as_sequence own) ws j t
    → (v : Value) × Same v (Sequence own (values_of ws)) × Hears whole k s (Said v) j t
answered {k} {s} {whole} {own} {ws} {j} {t} a =
    (Sequence own (values_of a.values), same_lists own a.values ws a.same, a.onward.rest _ j t (hears_done _ j t))

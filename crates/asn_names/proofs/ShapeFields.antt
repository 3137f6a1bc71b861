-- The plain reading of fields as data, by the calls of a pull reader.
use Rattle.std.proofs.Common.{◌≡◌, ◌∙◌, ◌++◌, ◌∷◌, Bool, Err, List, [], MatchResult, None, Ok, Option, Result, Some, ap, append-nil, append_assoc, false, refl, subst, sym, true, ℕ}
use Rattle.tlv_core.specs.Identifier.{Tag}
use Rattle.tlv_core.specs.Limits.{Limits}
use Rattle.tlv_core.specs.declared.fault.ReadError.{ReadError}
use Rattle.x690.specs.DerTexts.{der, texts_of}
use Rattle.tlv_core.specs.declared.reason.Reason.TheVariants.{WrongTag}
use Rattle.x690.specs.Layouts.{same_tag}
use Rattle.x690.specs.Points.{Enclosing, fault}
use Rattle.x690.specs.ReadHeaders.{ContainerEnds, ElementStands, Next, in_container, next_tag}
use Rattle.x690.specs.ReadTypes.{read_fields, read_type}
use Rattle.x690.specs.Reading.{Done, Reading, choose, require, ◌>>=◌}
use Rattle.x690.specs.Reads.{Heard, Said}
use Rattle.x690.specs.TypeTerms.{EndOfFields, Fields, Optional, Required, SequenceType, TypeTerm, fits_tag}
use Rattle.x690.specs.Values.{Sequence, Value, values_of}
use Rattle.x690.proofs.Alike.{Alike, behind, require_then}
use Rattle.ber_pull.specs.Hears.{Hears, heard, heard_error, next_at}
use Rattle.ber_pull.specs.Standing.{Standing, enclosing}
use Rattle.ber_pull.specs.declared.state.Given.{Given}
use Rattle.ber_pull.proofs.Hearing.{hears_as, hears_done, hears_error, hears_same, hears_then}
use Rattle.asn_elements.specs.Reading.{read_given}
use Rattle.asn_fields.specs.FieldReadings.{read_due, read_end, read_take}
use Rattle.asn_fields.specs.Fields.{may_stand}
use Rattle.asn_fields.specs.Insides.{Inside}
use Rattle.asn_fields.proofs.Dependents.{there_as}
use Rattle.asn_fields.proofs.FieldReadings.{take_read}
use Rattle.pkix_shapes.specs.Terms.{term_of}
use Rattle.pkix_shapes.specs.declared.shape.Shape.{Shape}
use Rattle.pkix_shapes.specs.Plain.{is_plain}
use Rattle.asn_names.proofs.ShapeReadings.{plain_closed}

-- A field that is due, and the fields after it.

abbrev after_due : Limits → Fields → List Value → Enclosing → Value × Next → Reading (List Value)
after_due l rest earlier c r = read_fields l rest (earlier ++ (r.0 ∷ [])) c r.1 >>= λ vs. Done (r.0 ∷ vs)

due_alike : (l : Limits) (T : TypeTerm) (rest : Fields) (earlier : List Value) (c : Enclosing) (next : Next)
    → Alike (read_due l T earlier c next >>= after_due l rest earlier c)
    (read_fields l (Required T rest) earlier c next)
unfolding read_due read_fields ◌>>=◌
due_alike l T rest earlier c (ContainerEnds p) = λ k s. refl
due_alike l T rest earlier c (ElementStands p tag constructed) =
    require_then (fits_tag T tag) _ _ _ _
    (behind (read_type l T earlier c p tag constructed) (λ v. next_tag l c) (λ v n. Done (v, n))
    (after_due l rest earlier c))

pub due_stops : (l : Limits) (T : TypeTerm) (rest : Fields) (earlier : List Value) (c : Enclosing) (next : Next)
    (e : ReadError) (k i : ℕ) (s u : Option (List ℕ))
    → Hears (read_due l T earlier c next) k s (heard_error e) i u
    → Hears (read_fields l (Required T rest) earlier c next) k s (heard_error e) i u
due_stops l T rest earlier c next e k i s u x =
    hears_same _ _ (heard_error e) k i s u (due_alike l T rest earlier c next)
    (hears_error _ (after_due l rest earlier c) e k i s u x)

-- The field is read, and then the fields after it are, or stop.
pub due_then_fields : (l : Limits) (T : TypeTerm) (rest : Fields) (earlier : List Value) (c : Enclosing)
    (next next' : Next) (v : Value) (k j i : ℕ) (s t u : Option (List ℕ)) (before mid after : List ℕ)
    (r : Result (Unit {0}) ReadError)
    → Hears (read_due l T earlier c next) k s (Said (v, next')) j t → mid ≡ before ++ der v
    → MatchResult r
    (λ _.
    (vs : List Value) × (after ≡ mid ++ texts_of vs)
    × Hears (read_fields l rest (earlier ++ (v ∷ [])) c next') j t (Said vs) i u)
    (λ e. Hears (read_fields l rest (earlier ++ (v ∷ [])) c next') j t (heard_error e) i u)
    → MatchResult r
    (λ _.
    (vs : List Value) × (after ≡ before ++ texts_of vs)
    × Hears (read_fields l (Required T rest) earlier c next) k s (Said vs) i u)
    (λ e. Hears (read_fields l (Required T rest) earlier c next) k s (heard_error e) i u)
due_then_fields l T rest earlier c next next' v k j i s t u before mid after (Ok x) h put a = (
  v ∷ a.0,
  a.1 ∙ (ap (λ z. z ++ texts_of a.0) put ∙ append_assoc before (der v) (texts_of a.0)),
  hears_same _ _ _ k i s u (due_alike l T rest earlier c next)
      (hears_then _ (after_due l rest earlier c) (v, next') _ k j i s t u h
      (hears_then _ (λ vs. Done (v ∷ vs)) a.0 _ j i i t u u a.2 (hears_done _ _ _))),
)
due_then_fields l T rest earlier c next next' v k j i s t u before mid after (Err e) h put a =
    hears_same _ _ _ k i s u (due_alike l T rest earlier c next)
    (hears_then _ (after_due l rest earlier c) (v, next') _ k j i s t u h
    (hears_error _ (λ vs. Done (v ∷ vs)) e j i t u a))

-- A field that may be absent: it is there, or isn't.

pub optional_there : (l : Limits) (T : TypeTerm) (rest : Fields) (earlier : List Value) (c : Enclosing) (p : ℕ)
    (n : Option (Tag × Bool))
    → may_stand T n ≡ true
    → read_fields l (Required T rest) earlier c (next_at p n) ≡ read_fields l (Optional T rest) earlier c (next_at p n)
unfolding read_fields require choose
optional_there l T rest earlier c p None e = cc
optional_there l T rest earlier c p (Some t) e = rw e refl

pub optional_absent : (l : Limits) (T : TypeTerm) (rest : Fields) (earlier : List Value) (c : Enclosing) (p : ℕ)
    (n : Option (Tag × Bool))
    → may_stand T n ≡ false
    → read_fields l rest earlier c (next_at p n) ≡ read_fields l (Optional T rest) earlier c (next_at p n)
unfolding read_fields choose
optional_absent l T rest earlier c p None e = refl
optional_absent l T rest earlier c p (Some t) e = rw e refl

-- the fields are read as others that are the same
pub fields_as : (p q : Reading (List Value)) (k i : ℕ) (s u : Option (List ℕ)) (before after : List ℕ)
    (r : Result (Unit {0}) ReadError)
    → p ≡ q
    → MatchResult r (λ _. (vs : List Value) × (after ≡ before ++ texts_of vs) × Hears p k s (Said vs) i u)
    (λ e. Hears p k s (heard_error e) i u)
    → MatchResult r (λ _. (vs : List Value) × (after ≡ before ++ texts_of vs) × Hears q k s (Said vs) i u)
    (λ e. Hears q k s (heard_error e) i u)
fields_as p q k i s u before after r e x =
    subst (λ z.
    MatchResult r (λ _. (vs : List Value) × (after ≡ before ++ texts_of vs) × Hears z k s (Said vs) i u)
    (λ e. Hears z k s (heard_error e) i u)) e x

-- The end.

end_is : (l : Limits) (earlier : List Value) (c : Enclosing) (next : Next)
    → read_end next >>= (λ u. Done []) ≡ read_fields l EndOfFields earlier c next
unfolding read_end read_fields ◌>>=◌
end_is l earlier c (ContainerEnds p) = refl
end_is l earlier c (ElementStands p tag constructed) = refl

pub end_of_fields : (l : Limits) (earlier : List Value) (c : Enclosing) (next : Next) (k i : ℕ) (s u : Option (List ℕ))
    (before : List ℕ) (r : Result (Unit {0}) ReadError)
    → Hears (read_end next) k s (heard {A = Unit {0}} (λ w. w) r) i u
    → MatchResult r
    (λ _.
    (vs : List Value) × (before ≡ before ++ texts_of vs)
    × Hears (read_fields l EndOfFields earlier c next) k s (Said vs) i u)
    (λ e. Hears (read_fields l EndOfFields earlier c next) k s (heard_error e) i u)
end_of_fields l earlier c next k i s u before (Ok x) h = (
  [],
  sym (append-nil before),
  hears_as _ _ _ k i s u (end_is l earlier c next)
      (hears_then (read_end next) (λ w. Done []) x _ k i i s u u h (hears_done _ _ _)),
)
end_of_fields l earlier c next k i s u before (Err e) h =
    hears_as _ _ _ k i s u (end_is l earlier c next) (hears_error (read_end next) (λ w. Done []) e k i s u h)

-- The element of the field is read as its type, wherever the container was opened.
pub taken_as : (outer : Standing) (inside : Enclosing) (shape : Shape) → is_plain shape ≡ true → (s : Standing) (p : ℕ)
    (n : Option (Tag × Bool)) (t : Tag × Bool) (earlier : List Value) (h : Heard Value) (k i : ℕ)
    (o u : Option (List ℕ))
    → Inside outer inside s (next_at p n) → n ≡ Some t → fits_tag (term_of shape) t.0 ≡ true
    → Hears (read_given (term_of shape) s (record { at = p; tag = t.0; constructed = t.1 })) k o h i u
    → Hears (read_take outer.limits (term_of shape) earlier inside (next_at p n)) k o h i u
taken_as outer inside shape plain s p n t earlier h k i o u a is on x =
    take_read outer.limits (term_of shape) earlier inside p n t h k i o u is on
    (there_as outer inside s (next_at p n) (term_of shape) earlier p t.0 t.1 h k i o u a
    (hears_as _ _ h k i o u
    (sym (plain_closed shape plain s.limits earlier (enclosing s) p t.0 t.1)) x))

pub sequence_type_is : (own : Tag) (fields : Fields) (s : Standing) (g : Given)
    → require (same_tag own g.tag) (fault g.at WrongTag)
    (in_container s.limits (enclosing s) g.at g.constructed
    (λ inside. next_tag s.limits inside >>= λ next. read_fields s.limits fields [] inside next)
    >>= λ values. Done (Sequence own (values_of values)))
    ≡ read_given (SequenceType own fields) s g
unfolding read_type
sequence_type_is own fields s g = refl

-- The plain reading of a leaf with a DEFAULT, by the calls of a pull reader.
use Rattle.std.proofs.Common.{◌≡◌, ◌∙◌, ◌&&◌, ◌++◌, ◌==◌, ◌∷◌, Bool, Err, IfErr, List, [], MatchResult, None, Ok, OnOk, Option, Result, Some, ap, append-nil, append_assoc, false, refl, subst, sym, true, ℕ}
use lib.Dec.{T, eqb, eqb_refl}
use lib.Pointwise.{pointwise}
use Rattle.tlv_core.specs.Identifier.{Tag}
use Rattle.tlv_core.specs.Limits.{Limits}
use Rattle.tlv_core.specs.declared.fault.ReadError.{ReadError}
use Rattle.tlv_core.specs.declared.fault.ReadError.TheVariants as errors
use Rattle.tlv_core.specs.declared.source.Source.{Ghosts}
use Rattle.x690.specs.Contents.{LeafKind}
use Rattle.x690.specs.DerTexts.{der, texts_of}
use Rattle.x690.specs.Layouts.{same_tag}
use Rattle.x690.specs.Lists.{same_octets}
use Rattle.x690.specs.Points.{Enclosing}
use Rattle.x690.specs.ReadHeaders.{Next}
use Rattle.x690.specs.ReadTypes.{is_this_leaf, read_fields, read_type}
use Rattle.x690.specs.Reading.{Done, Halted, Outcome, Reading, Took, run, ◌>>=◌}
use Rattle.x690.specs.Reads.{Heard, Said}
use Rattle.x690.specs.TypeTerms.{Default, Fields, LeafType, TypeTerm, fits_tag}
use Rattle.x690.specs.Values.{Leaf, Value}
use Rattle.x690.proofs.Alike.{Alike}
use Rattle.x690.proofs.Runs.{halt_bind, run_bind}
use Rattle.x690_laws.proofs.TypesClosed.{leaf_closed}
use Rattle.ber_pull.specs.Hears.{Hears, heard_error, next_at}
use Rattle.ber_pull.specs.Standing.{Standing, enclosing, failed_with}
use Rattle.ber_pull.specs.View.{Answers, source, standing}
use Rattle.ber_pull.specs.declared.pull.Pull.{Pull}
use Rattle.ber_pull.specs.declared.state.Given.{Given}
use Rattle.ber_pull.proofs.Hearing.{hears_as, hears_done, hears_error, hears_on, hears_same, hears_then, hears_then_memory}
use Rattle.asn_elements.specs.Reading.{read_given_leaf}
use Rattle.asn_elements.proofs.TypeReadings.{leaf_type_is}
use Rattle.asn_fields.specs.FieldReadings.{but_default, read_optional, with_field}
use Rattle.asn_fields.specs.Insides.{Inside}
use Rattle.asn_fields.proofs.Dependents.{there_as}
use Rattle.asn_fields.proofs.FieldReadings as rules
use Rattle.pkix_shapes.specs.Terms.{leaf_tag, term_of}
use Rattle.pkix_shapes.specs.declared.shape.Shape.{Shape}
use Rattle.asn_names.proofs.Judging.{same_compared}

-- nothing is done with what was read
done_last : {A : Type 0} (p : Reading A) → Alike (p >>= Done) p
unfolding run
done_last {A} p k s = go (run p k s) refl
  where
    go : (o : Outcome A) → run p k s ≡ o → run (p >>= Done) k s ≡ run p k s
    go (Took a j r) x = run_bind p Done k s a j r x ∙ sym x
    go (Halted g) x = halt_bind p Done k s g x ∙ sym x

-- the text of a field that may be absent, before those of others
texts_first : (o : Option Value) (vs : List Value)
    → texts_of (with_field o []) ++ texts_of vs ≡ texts_of (with_field o vs)
texts_first None vs = refl
texts_first (Some v) vs = ap (λ z. z ++ texts_of vs) (append-nil (der v))

pub default_stops : (l : Limits) (own : Tag) (octets : List ℕ) (T : TypeTerm) (rest : Fields) (earlier : List Value)
    (c : Enclosing) (next : Next) (e : ReadError) (k i : ℕ) (s u : Option (List ℕ))
    → Hears (read_optional l T earlier c next) k s (heard_error e) i u
    → Hears (read_fields l (Default own octets T rest) earlier c next) k s (heard_error e) i u
default_stops l own octets T rest earlier c next e k i s u x =
    hears_same _ _ (heard_error e) k i s u (done_last (read_fields l (Default own octets T rest) earlier c next))
    (rules.default_error l own octets T rest earlier c next Done e k i s u x)

-- The field is read, and then the fields after it are, or stop.
pub default_then_fields : (l : Limits) (own : Tag) (octets : List ℕ) (T : TypeTerm) (rest : Fields)
    (earlier : List Value) (c : Enclosing) (next next' : Next) (o : Option Value) (k j i : ℕ)
    (s t u : Option (List ℕ)) (before mid after : List ℕ) (r : Result (Unit {0}) ReadError)
    → Hears (read_optional l T earlier c next) k s (Said (o, next')) j t
    → mid ≡ before ++ texts_of (with_field (but_default own octets o) [])
    → MatchResult r
    (λ _.
    (vs : List Value) × (after ≡ mid ++ texts_of vs)
    × Hears (read_fields l rest (earlier ++ with_field (but_default own octets o) []) c next') j t (Said vs) i u)
    (λ e. Hears (read_fields l rest (earlier ++ with_field (but_default own octets o) []) c next') j t (heard_error e) i u)
    → MatchResult r
    (λ _.
    (vs : List Value) × (after ≡ before ++ texts_of vs)
    × Hears (read_fields l (Default own octets T rest) earlier c next) k s (Said vs) i u)
    (λ e. Hears (read_fields l (Default own octets T rest) earlier c next) k s (heard_error e) i u)
default_then_fields l own octets T rest earlier c next next' o k j i s t u before mid after (Ok x) h put a =
    let kept = but_default own octets o in (
      with_field kept a.0,
      a.1
          ∙ (ap (λ z. z ++ texts_of a.0) put
          ∙ (append_assoc before (texts_of (with_field kept [])) (texts_of a.0)
          ∙ ap (λ z. before ++ z) (texts_first kept a.0))),
      hears_same _ _ _ k i s u (done_last (read_fields l (Default own octets T rest) earlier c next))
          (rules.default l own octets T rest earlier c next Done o next' _ k j i s t u h
          (hears_then _ (λ vs. Done (with_field kept vs)) a.0 _ j i i t u u a.2 (hears_done _ _ _))),
    )
default_then_fields l own octets T rest earlier c next next' o k j i s t u before mid after (Err e) h put a =
    hears_same _ _ _ k i s u (done_last (read_fields l (Default own octets T rest) earlier c next))
    (rules.default l own octets T rest earlier c next Done o next' _ k j i s t u h
    (hears_error _ (λ vs. Done (with_field (but_default own octets o) vs)) e j i t u a))

pub leaf_fits : (own : Tag) (kind : LeafKind) (tag : Tag) → same_tag own tag ≡ fits_tag (LeafType own kind) tag
unfolding fits_tag
leaf_fits own kind tag = refl

-- The leaf is read as its type, wherever the container was opened.
pub leaf_as : (outer : Standing) (inside : Enclosing) (own : Tag) (kind kind' : LeafKind) (s : Standing) (p : ℕ)
    (n : Option (Tag × Bool)) (t : Tag × Bool) (earlier : List Value) (h : Heard Value) (k i : ℕ)
    (o u : Option (List ℕ))
    → Inside outer inside s (next_at p n) → same_tag own t.0 ≡ true → kind' ≡ kind
    → Hears (read_given_leaf kind' own s (record { at = p; tag = t.0; constructed = t.1 })) k o h i u
    → Hears (read_type outer.limits (LeafType own kind) earlier inside p t.0 t.1) k o h i u
leaf_as outer inside own kind kind' s p n t earlier h k i o u a on same x =
    let given : Given = record { at = p; tag = t.0; constructed = t.1 } in
    there_as outer inside s (next_at p n) (LeafType own kind) earlier p t.0 t.1 h k i o u a
    (hears_as _ _ h k i o u (sym (leaf_closed own kind s.limits earlier (enclosing s) p t.0 t.1))
    (hears_as _ _ h k i o u (leaf_type_is own kind s given)
    (hears_on _ _ _ h k i o u on (hears_as _ _ h k i o u (ap (λ z. read_given_leaf z own s given) same) x))))

both : (a b : Bool) → a ≡ true → b ≡ true → (a && b) ≡ true
both true b e f = f
both false b e f = e

truth : (b : Bool) → T b → b ≡ true
truth true h = refl
truth false h = absurd h

same_own : (t : Tag) → same_tag t t ≡ true
same_own t =
    both (t.class == t.class) (t.number == t.number) (truth (t.class == t.class) (eqb_refl t.class))
    (truth (t.number == t.number) (eqb_refl t.number))

-- what is left of a leaf, by whether its contents are those of the default
pub but_this_leaf : (own : Tag) (contents octets : List ℕ) (b : Bool) → b ≡ pointwise eqb contents octets
    → but_default own octets (Some (Leaf own contents)) ≡ elim b [ true ↦ None | false ↦ Some (Leaf own contents) ]
but_this_leaf own contents octets b e =
    ap (λ z. elim z [ true ↦ None | false ↦ Some (Leaf own contents) ])
    (ap (λ z. z && same_octets contents octets) (same_own own) ∙ (sym (same_compared contents octets) ∙ sym e))

pub nothing_put : (before : List ℕ) (o : Option Value) → o ≡ None → before ≡ before ++ texts_of (with_field o [])
nothing_put before o e = sym (append-nil before) ∙ ap (λ z. before ++ texts_of (with_field z [])) (sym e)

pub one_put : (before : List ℕ) (o : Option Value) (v : Value) → o ≡ Some v
    → before ++ der v ≡ before ++ texts_of (with_field o [])
one_put before o v e =
    ap (λ z. before ++ z) (sym (append-nil (der v)) ∙ ap (λ z. texts_of (with_field z [])) (sym e))

-- The field was read, and then its text was put, or memory ran out.
pub default_put : {R : Type 0} {s : Ghosts R} (own : Tag) (octets : List ℕ) (old mid new : Pull R s)
    (p : Reading (Option Value × Next)) (o : Option Value) (next : Next) (before after : List ℕ)
    (r : Result (Unit {0}) ReadError)
    → Answers old mid p (Said (o, next))
    → OnOk r (after ≡ before ++ texts_of (with_field (but_default own octets o) [])) → OnOk r (new ≡ mid)
    → IfErr r (λ e. (e ≡ errors.Memory) × (source new ≡ source mid) × (standing new ≡ failed_with e (standing mid)))
    → MatchResult r
    (λ _.
    (o' : Option Value) × (after ≡ before ++ texts_of (with_field (but_default own octets o') []))
    × Answers old new p (Said (o', next)))
    (λ e. Answers old new p (heard_error e))
default_put own octets old mid new p o next before after (Ok x) a put still stops =
    (o, put, subst (λ z. Answers old z p (Said (o, next))) (sym still) a)
default_put {R} {s} own octets old mid new p o next before after (Err e) a put still stops =
    hears_then_memory p (o, next) e _ _ _ _ _ _ stops.0 (ap (λ z. z.taken) stops.2) (ap s.remaining stops.1) a

-- A field as data that is a leaf is the leaf with the default.
pub default_is : (l : Limits) (own : Tag) (kind : LeafKind) (octets : List ℕ) (shape : Shape) (rest : Fields)
    (earlier : List Value) (c : Enclosing) (next : Next)
    → term_of shape ≡ LeafType own kind → leaf_tag shape ≡ own
    → read_fields l (Default own octets (LeafType own kind) rest) earlier c next
    ≡ read_fields l (Default (leaf_tag shape) octets (term_of shape) rest) earlier c next
default_is l own kind octets shape rest earlier c next e f =
    ap (λ t. read_fields l (Default t octets (LeafType own kind) rest) earlier c next) (sym f)
    ∙ ap (λ T. read_fields l (Default (leaf_tag shape) octets T rest) earlier c next) (sym e)

-- The plain reading of open values, by the calls of a pull reader.
use Rattle.std.proofs.Common.{◌≡◌, ◌∙◌, ◌⊎◌, inl, inr, not, ◌+◌, ◌*◌, ◌<◌, ◌≤◌, ◌++◌, Bool, true, false, List, [], ℕ, zero, suc, Option, Some, None, Result, Ok, Err, IfErr, OnOk, refl, sym, ap, subst, length, arith}
use Rattle.tlv_core.specs.Identifier.{Tag}
use Rattle.tlv_core.specs.Limits.{Limits}
use Rattle.tlv_core.specs.declared.fault.ReadError.{ReadError}
use Rattle.tlv_core.specs.declared.fault.ReadError.TheVariants as errors
use Rattle.tlv_core.specs.declared.reason.Reason.TheVariants.{LeftOut, WrongForm}
use Rattle.tlv_core.specs.declared.source.Source.{Ghosts}
use Rattle.x690.specs.Contents.{LeafKind}
use Rattle.x690.specs.DerTexts.{der}
use Rattle.x690.specs.OpenValues as forms
use Rattle.x690.specs.OpenValues.{open_form}
use Rattle.x690.specs.Points.{Enclosing, fault}
use Rattle.x690.specs.ReadContents.{all_members, read_open}
use Rattle.x690.specs.ReadHeaders.{ElementStands, Ended, next_tag, primitive_contents}
use Rattle.x690.specs.Reading.{Done, Fail, Reading, require, ◌>>=◌}
use Rattle.x690.specs.Reads.{Said}
use Rattle.x690.specs.Values.{Leaf, Value, values_of}
use Rattle.x690_laws.proofs.ReadingHeadersSound.{next_took}
use Rattle.x690_laws.proofs.LengthsOfReadTexts.{read_texts}
use Rattle.ber_pull.specs.Calls.{read_primitive}
use Rattle.ber_pull.specs.Hears.{Hears, heard, heard_error}
use Rattle.ber_pull.specs.Standing.{Standing, enclosing, failed_with}
use Rattle.ber_pull.specs.View.{Answers, Unmoved, source, standing}
use Rattle.ber_pull.specs.declared.pull.Pull.{Pull}
use Rattle.ber_pull.specs.declared.state.Given.{Given}
use Rattle.ber_pull.proofs.Hearing.{hears_as, hears_done, hears_error, hears_fail, hears_given, hears_memory, hears_then, hears_then_memory}
use Rattle.asn_open_values.specs.OpenTexts.{AnswersText, AnswersTexts, container, form_of, read_given_container, read_given_contents, read_given_octets, read_given_open}
use Rattle.asn_elements.specs.Reading.{kind_of, read_given_leaf}
use Rattle.asn_elements.specs.declared.leaf_reading.SimpleType.{SimpleType}
use Rattle.asn_open_values.specs.declared.open_form.OpenForm.{OpenForm}
use Rattle.asn_open_values.specs.declared.open_form.OpenForm.TheVariants as coded
use Rattle.asn_elements.proofs.ReaderAnswers.{fine_still, given_still, refused_by, unmoved_answers}

-- the octets of a primitive element, as a leaf
pub hears_octets : (own : Tag) (p : Reading (List ℕ)) (contents : List ℕ) (r : Result (Unit {0}) ReadError) (k i : ℕ)
    (s u : Option (List ℕ))
    → Hears p k s (heard (λ _. contents) r) i u
    → Hears (p >>= λ o. Done (Leaf own o)) k s (heard (λ _. Leaf own contents) r) i u
hears_octets own p contents (Ok v) k i s u x =
    hears_then p (λ o. Done (Leaf own o)) contents _ _ _ _ _ _ _ x (hears_done _ _ _)
hears_octets own p contents (Err e) k i s u x = hears_error p (λ o. Done (Leaf own o)) e _ _ _ _ x

-- Texts after what is there.

pub text_err : {R : Type 0} {s : Ghosts R} (old new : Pull R s) (p : Reading Value) (before after : List ℕ)
    (r : Result (Unit {0}) ReadError) (e : ReadError)
    → r ≡ Err e → Answers old new p (heard_error e) → AnswersText old new p before after r
text_err old new p before after r e h x = subst (AnswersText old new p before after) (sym h) x

pub texts_err : {R : Type 0} {s : Ghosts R} (old new : Pull R s) (p : Reading (Ended (List Value))) (is_set : Bool)
    (before after starts : List ℕ) (r : Result (Unit {0}) ReadError) (e : ReadError)
    → r ≡ Err e → Answers old new p (heard_error e) → AnswersTexts old new p is_set before after starts r
texts_err old new p is_set before after starts r e h x =
    subst (AnswersTexts old new p is_set before after starts) (sym h) x

-- memory ran out before anything was read
pub text_memory : {R : Type 0} {s : Ghosts R} (old new : Pull R s) (p : Reading Value) (before after : List ℕ)
    (r : Result (Unit {0}) ReadError) (e : ReadError)
    → r ≡ Err e → e ≡ errors.Memory → source new ≡ source old → standing new ≡ failed_with e (standing old)
    → AnswersText old new p before after r
text_memory {R} {s} old new p before after r e h is told stands =
    text_err old new p before after r e h
    (hears_memory p e _ _ _ _ is (ap (λ z. z.taken) stands) (ap s.remaining told))

text_as : {R : Type 0} {s : Ghosts R} (old new : Pull R s) (p q : Reading Value) (before after : List ℕ)
    (r : Result (Unit {0}) ReadError)
    → p ≡ q → AnswersText old new p before after r → AnswersText old new q before after r
text_as old new p q before after r e x = subst (λ z. AnswersText old new z before after r) e x

-- a value was read, and then its text was put, or memory ran out
pub text_put : {R : Type 0} {s : Ghosts R} (old mid new : Pull R s) (p : Reading Value) (v : Value)
    (before after : List ℕ) (r : Result (Unit {0}) ReadError)
    → Answers old mid p (Said v) → OnOk r (after ≡ before ++ der v) → OnOk r (new ≡ mid)
    → IfErr r (λ e. (e ≡ errors.Memory) × (source new ≡ source mid) × (standing new ≡ failed_with e (standing mid)))
    → AnswersText old new p before after r
text_put old mid new p v before after (Ok x) a put still stops =
    (v, put, subst (λ z. Answers old z p (Said v)) (sym still) a)
text_put {R} {s} old mid new p v before after (Err e) a put still stops =
    hears_then_memory p v e _ _ _ _ _ _ stops.0 (ap (λ z. z.taken) stops.2) (ap s.remaining stops.1) a

-- what is answered from a reader that stands as it did
unmoved_text : {R : Type 0} {s : Ghosts R} (f : Standing → Reading Value) (old mid new : Pull R s)
    (before after : List ℕ) (r : Result (Unit {0}) ReadError)
    → Unmoved old mid → AnswersText mid new (f (standing mid)) before after r
    → AnswersText old new (f (standing old)) before after r
unmoved_text f old mid new before after (Ok x) u a = (a.0, a.1, unmoved_answers f old mid new (Said a.0) u a.2)
unmoved_text f old mid new before after (Err e) u a = unmoved_answers f old mid new (heard_error e) u a

-- By the form.

refused_is : (deep : ℕ) (l : Limits) (c : Enclosing) (p : ℕ) (tag : Tag) (constructed : Bool)
    → open_form tag ≡ forms.OpenRefused → Fail (fault p LeftOut) ≡ read_open (suc deep) l c p tag constructed
unfolding read_open
refused_is deep l c p tag constructed h = rw (h, read_open) refl

set_is : (deep : ℕ) (s : Standing) (g : Given) → open_form g.tag ≡ forms.OpenSetOf
    → read_given_container deep true g.tag s g ≡ read_given_open (suc deep) s g
unfolding read_open
set_is deep s g h = rw (h, read_open) refl

sequence_is : (deep : ℕ) (s : Standing) (g : Given) → open_form g.tag ≡ forms.OpenSequence
    → read_given_container deep false g.tag s g ≡ read_given_open (suc deep) s g
unfolding read_open
sequence_is deep s g h = rw (h, read_open) refl

plain_container : (deep : ℕ) (l : Limits) (c : Enclosing) (p : ℕ) (tag : Tag) (constructed : Bool)
    → open_form tag ≡ forms.OpenPlain → constructed ≡ true
    → all_members l c p constructed (λ inside. read_open deep l inside)
    >>= (λ ended. Done (container false tag (values_of ended.all)))
    ≡ read_open (suc deep) l c p tag constructed
unfolding read_open
plain_container deep l c p tag true h e = rw (h, read_open) refl
plain_container deep l c p tag false h e = cc

-- an element with a kind
leaf_is : (kind : LeafKind) (deep : ℕ) (s : Standing) (g : Given) → forms.OpenLeaf kind ≡ open_form g.tag
    → read_given_leaf kind g.tag s g ≡ read_given_open (suc deep) s g
unfolding read_open
leaf_is kind deep s g h = rw (sym h, read_open) refl

octets_are : (deep : ℕ) (l : Limits) (c : Enclosing) (p : ℕ) (tag : Tag) (constructed : Bool)
    → forms.OpenPlain ≡ open_form tag → constructed ≡ false
    → require (not constructed) (fault p WrongForm) (primitive_contents l c p) >>= (λ o. Done (Leaf tag o))
    ≡ read_open (suc deep) l c p tag constructed
unfolding read_open require
octets_are deep l c p tag true h e = cc
octets_are deep l c p tag false h e = rw (sym h, read_open) refl

plain_is : (deep : ℕ) (s : Standing) (g : Given) → forms.OpenPlain ≡ open_form g.tag → g.constructed ≡ false
    → read_given_octets g.tag s g ≡ read_given_open (suc deep) s g
unfolding read_primitive
plain_is deep s g h e = octets_are deep s.limits (enclosing s) g.at g.tag g.constructed h e

-- its text is at most twice as long as the octets that were taken for it
pub open_short : (deep : ℕ) (l : Limits) (c : Enclosing) (p : ℕ) (tag : Tag) (form : Bool) (v : Value) (k j i : ℕ)
    (t u w : Option (List ℕ))
    → l.octets ≤ 2147483647 → Hears (next_tag l c) k t (Said (ElementStands p tag form)) j u
    → Hears (read_open deep l c p tag form) j u (Said v) i w → length (der v) + 2 * k ≤ 2 * i
open_short deep l c p tag form v k j i t u w h x y =
    let a = hears_given (next_tag l c) (ElementStands p tag form) k j t u x in
    let n = next_took l c k a.0 (ElementStands p tag form) j [] a.2 in
    let b = hears_given (read_open deep l c p tag form) v j i u w y in
    let at : p ≡ k = n.at in
    let z = (read_texts.open_behind l deep c p tag form j b.0 v i [] (omega arith) n.tag n.deep
    (let place = n.place in omega arith) b.2).by_two in
    omega arith

-- An open value by what is read of its form.

some_deep : (deep n depth : ℕ) → n < depth → depth ≤ deep + n → (d : ℕ) × (deep ≡ suc d)
some_deep zero n depth h w = absurd (omega arith)
some_deep (suc d) n depth h w = (d, refl)

module _ {R : Type 0} {s : Ghosts R} (old mid new : Pull R s) (still : Unmoved old mid)
    (fits : length old.state.containers < old.state.limits.depth) (deep : ℕ) (g : Given) (fine : old.state.error ≡ None)
    (is : old.state.given ≡ Some g) (bound : old.state.limits.depth ≤ deep + length old.state.containers) where
  one_deep : (d : ℕ) × (deep ≡ suc d)
  one_deep = some_deep deep (length old.state.containers) old.state.limits.depth fits bound

  pub open_by : (f : ℕ → Standing → Reading Value) (before after : List ℕ) (r : Result (Unit {0}) ReadError)
      → ((d : ℕ) → f d old.state ≡ read_given_open (suc d) old.state g)
      → ((d : ℕ) → mid.state.error ≡ None → mid.state.given ≡ Some g
      → mid.state.limits.depth ≤ suc d + length mid.state.containers
      → AnswersText mid new (f d mid.state) before after r)
      → AnswersText old new (read_given_open deep old.state g) before after r
  open_by f before after r shape reads =
      let d = one_deep.0 in
      let more : mid.state.limits.depth ≤ suc d + length mid.state.containers =
      subst (λ z. z.limits.depth ≤ suc d + length z.containers) (sym still.0)
      (subst (λ n. old.state.limits.depth ≤ n + length old.state.containers) one_deep.1 bound) in
      text_as old new (f d old.state) (read_given_open deep old.state g) before after r
      (shape d ∙ ap (λ n. read_given_open n old.state g) (sym one_deep.1))
      (unmoved_text (f d) old mid new before after r still
      (reads d (fine_still old mid still fine) (given_still old mid g still is) more))

  pub open_refused : (e : ReadError) → open_form g.tag ≡ forms.OpenRefused → e ≡ errors.Fault (fault g.at LeftOut)
      → standing new ≡ failed_with e (standing mid) → source new ≡ source mid
      → Answers old new (read_given_open deep old.state g) (heard_error e)
  open_refused e h x stands same =
      refused_by _ old old new (fault g.at LeftOut) e x (stands ∙ ap (failed_with e) still.0) (same ∙ still.1)
      (hears_as _ _ _ _ _ _ _
      (refused_is one_deep.0 old.state.limits (enclosing old.state) g.at g.tag g.constructed h
      ∙ ap (λ n. read_given_open n old.state g) (sym one_deep.1))
      (hears_fail Value (fault g.at LeftOut) _ _))

pub set_by : (deep : ℕ) (s : Standing) (g : Given) (tag : Tag) → tag ≡ g.tag → open_form tag ≡ forms.OpenSetOf
    → read_given_container deep true tag s g ≡ read_given_open (suc deep) s g
set_by deep s g tag e h = ap (λ t. read_given_container deep true t s g) e ∙ set_is deep s g (ap open_form (sym e) ∙ h)

pub sequence_by : (deep : ℕ) (s : Standing) (g : Given) (tag : Tag) → tag ≡ g.tag → open_form tag ≡ forms.OpenSequence
    → read_given_container deep false tag s g ≡ read_given_open (suc deep) s g
sequence_by deep s g tag e h =
    ap (λ t. read_given_container deep false t s g) e ∙ sequence_is deep s g (ap open_form (sym e) ∙ h)

pub plain_by : (deep : ℕ) (s : Standing) (g : Given) (tag : Tag) → tag ≡ g.tag → g.constructed ≡ true
    → open_form tag ≡ forms.OpenPlain → read_given_container deep false tag s g ≡ read_given_open (suc deep) s g
plain_by deep s g tag e f h =
    ap (λ t. read_given_container deep false t s g) e
    ∙ plain_container deep s.limits (enclosing s) g.at g.tag g.constructed (ap open_form (sym e) ∙ h) f

pub octets_by : (deep : ℕ) (s : Standing) (g : Given) (tag : Tag) (form : OpenForm) → tag ≡ g.tag
    → g.constructed ≡ false → form ≡ coded.Plain → form_of form ≡ open_form tag
    → read_given_contents form tag s g ≡ read_given_open (suc deep) s g
octets_by deep s g tag form e f is h =
    ap (λ z. read_given_contents z tag s g) is
    ∙ (ap (λ t. read_given_octets t s g) e ∙ plain_is deep s g (ap form_of (sym is) ∙ (h ∙ ap open_form e)) f)

pub leaf_by : (deep : ℕ) (s : Standing) (g : Given) (tag : Tag) (kind : SimpleType) (form : OpenForm) → tag ≡ g.tag
    → form ≡ coded.Leaf kind → form_of form ≡ open_form tag
    → read_given_contents form tag s g ≡ read_given_open (suc deep) s g
leaf_by deep s g tag kind form e is h =
    ap (λ z. read_given_contents z tag s g) is
    ∙ (ap (λ t. read_given_leaf (kind_of kind) t s g) e
    ∙ leaf_is (kind_of kind) deep s g (ap form_of (sym is) ∙ (h ∙ ap open_form e)))

-- a form that has no kind
pub no_kind : (form : OpenForm) (own : Tag) (s : Standing) (g : Given)
    → (form ≡ coded.Sequence) ⊎ ((form ≡ coded.SetOf) ⊎ ((form ≡ coded.Plain) ⊎ (form ≡ coded.Refused)))
    → read_given_octets own s g ≡ read_given_contents form own s g
no_kind form own s g (inl e) = ap (λ z. read_given_contents z own s g) (sym e)
no_kind form own s g (inr (inl e)) = ap (λ z. read_given_contents z own s g) (sym e)
no_kind form own s g (inr (inr (inl e))) = ap (λ z. read_given_contents z own s g) (sym e)
no_kind form own s g (inr (inr (inr e))) = ap (λ z. read_given_contents z own s g) (sym e)

-- What is answered of what an OCTET STRING contains.
use Rattle.std.proofs.Common.{◌≡◌, Bool, Err, List, Ok, Option, Result, Some, [], ℕ, ap, false, refl, subst, sym, true}
use Rattle.tlv_core.specs.Identifier.{Tag}
use Rattle.tlv_core.specs.Limits.{Limits}
use Rattle.tlv_core.specs.declared.fault.Fault.{Fault}
use Rattle.tlv_core.specs.declared.fault.ReadError.{ReadError}
use Rattle.tlv_core.specs.declared.fault.ReadError.TheVariants as errors
use Rattle.tlv_core.specs.declared.reason.Reason.TheVariants.{Inner, WrongTag}
use Rattle.x690.specs.Contents.{OctetString}
use Rattle.x690.specs.DerTexts.{der}
use Rattle.x690.specs.Layouts.{same_tag}
use Rattle.x690.specs.Points.{Enclosing, fault, outermost}
use Rattle.x690.specs.ReadContents.{read_leaf}
use Rattle.x690.specs.ReadTypes.{IsClosed, apply_rule, due_element, from_inside, read_type}
use Rattle.x690.specs.Reading.{Done, Reading, require, run, ◌>>=◌}
use Rattle.x690.specs.Reads.{Heard, Refused, Said}
use Rattle.x690.specs.TypeTerms.{ContainingType, Rule, TypeTerm}
use Rattle.x690.specs.Values.{Leaf, Same, Value, leaf_contents}
use Rattle.x690.proofs.Runs.{bind_assoc}
use Rattle.x690_laws.proofs.ValuesSame.{equivalence}
use Rattle.x690_laws.proofs.TextsAsLayouts.{same_der}
use Rattle.tlv_core.specs.declared.source.Source.{Ghosts}
use Rattle.ber_pull.specs.Calls.{read_primitive}
use Rattle.ber_pull.specs.Hears.{Hears, heard_error}
use Rattle.ber_pull.specs.Standing.{Standing, enclosing}
use Rattle.ber_pull.specs.View.{Answers}
use Rattle.ber_pull.specs.declared.pull.Pull.{Pull}
use Rattle.ber_pull.specs.declared.state.Given.{Given}
use Rattle.ber_pull.proofs.Hearing.{hears_as, hears_done, hears_error, hears_fail, hears_on, hears_same, hears_then}
use Rattle.asn_elements.specs.ContainingClosed.{reader_closed}
use Rattle.asn_elements.proofs.Insides.{contained_fault}
use Rattle.asn_elements.specs.Reading.{AnswersValue, read_given_leaf}
use Rattle.asn_elements.specs.Whole.{HaltsInside, read_inside}
use Rattle.asn_elements.specs.Contained.{read_contained, read_given_contained}
use Rattle.asn_elements.proofs.LeafReadings.{judged, leaf_is}

-- A type that doesn't look at the earlier fields of its container reads the same after any.
inside_any : (l : Limits) (T : TypeTerm) (earlier : List Value) (p : ℕ) (octets : List ℕ) → IsClosed T
    → read_inside l T earlier p octets ≡ read_inside l T [] p octets
inside_any l T earlier p octets closed =
    ap (λ f. from_inside p (run (due_element l outermost f) 0 octets)) (reader_closed T closed l earlier outermost)

-- By the OCTET STRING, which stops, or whose octets are taken.

module _ (l : Limits) (own : Tag) (T : TypeTerm) (earlier : List Value) (c : Enclosing) (p : ℕ) (tag : Tag)
    (form : Bool) (on : same_tag own tag ≡ true) where
  pub contained_stops : (e : ReadError) (k j : ℕ) (s t : Option (List ℕ))
      → Hears (read_leaf l c OctetString p own form) k s (heard_error e) j t
      → Hears (read_contained l own T earlier c p tag form) k s (heard_error e) j t
  contained_stops e k j s t x =
      hears_on _ _ _ _ _ _ _ _ on (hears_error _ (λ value. read_inside l T earlier p (leaf_contents value)) e k j s t x)

  pub contained_then : (octets : List ℕ) (h : Heard Value) (k j i : ℕ) (s t u : Option (List ℕ)) → IsClosed T
      → Hears (read_leaf l c OctetString p own form) k s (Said (Leaf own octets)) j t
      → Hears (read_inside l T [] p octets) j t h i u
      → Hears (read_contained l own T earlier c p tag form) k s h i u
  contained_then octets h k j i s t u closed x y =
      hears_on _ _ _ _ _ _ _ _ on
      (hears_then _ (λ value. read_inside l T earlier p (leaf_contents value)) (Leaf own octets) h k j i s t u x
      (hears_as _ _ _ _ _ _ _ (sym (inside_any l T earlier p octets closed)) y))

-- The octets of one whose contents are at hand,
pub octets_at_hand : (own : Tag) (s : Standing) (g : Given) (octets : List ℕ) (k j : ℕ) (t u : Option (List ℕ))
    → g.constructed ≡ false → Hears (read_primitive s g) k t (Said octets) j u
    → Hears (read_given_leaf OctetString own s g) k t (Said (Leaf own octets)) j u
octets_at_hand own s g octets k j t u primitive x =
    hears_as _ _ _ _ _ _ _ (leaf_is OctetString own s g (λ h. cc))
    (hears_then (read_primitive s g) (judged OctetString own g.at) octets (Said (Leaf own octets)) k j j t u u x
    (hears_on _ _ _ _ _ _ _ _ refl (hears_done _ _ _)))

-- and then what reading them as a document came to.
pub settles : {R A : Type 0} {s : Ghosts R} (old mid new : Pull R s) (own : Tag) (T : TypeTerm) (earlier : List Value)
    (g : Given) (octets : List ℕ) (value : A → Value) (r : Result A ReadError)
    → IsClosed T → same_tag own g.tag ≡ true
    → Answers old mid (read_given_leaf OctetString own old.state g) (Said (Leaf own octets))
    → AnswersValue mid new (read_inside old.state.limits T [] g.at octets) value r
    → AnswersValue old new (read_given_contained own T earlier old.state g) value r
settles old mid new own T earlier g octets value (Ok x) closed on leaf came = (
  came.0,
  came.1,
  contained_then old.state.limits own T earlier (enclosing old.state) g.at g.tag g.constructed on octets (Said came.0)
      _ _ _ _ _ _ closed leaf came.2,
)
settles old mid new own T earlier g octets value (Err e) closed on leaf came =
    contained_then old.state.limits own T earlier (enclosing old.state) g.at g.tag g.constructed on octets (heard_error e)
    _ _ _ _ _ _ closed leaf came

-- an answer under the same limits, at the same place
pub settled_still : {R A : Type 0} {s : Ghosts R} (mid new : Pull R s) (T : TypeTerm) (l l' : Limits) (at at' : ℕ)
    (octets : List ℕ) (value : A → Value) (r : Result A ReadError) → l' ≡ l → at' ≡ at
    → AnswersValue mid new (read_inside l' T [] at' octets) value r
    → AnswersValue mid new (read_inside l T [] at octets) value r
settled_still mid new T l l' at at' octets value r limits place x =
    subst (λ w. AnswersValue mid new (read_inside w T [] at octets) value r) limits
    (subst (λ w. AnswersValue mid new (read_inside l' T [] w octets) value r) place x)

pub inside_said : (l : Limits) (T : TypeTerm) (p : ℕ) (octets : List ℕ) (v : Value) (k : ℕ) (s : Option (List ℕ))
    → ((place : ℕ) → read_inside l T [] place octets ≡ Done v) → Hears (read_inside l T [] p octets) k s (Said v) k s
inside_said l T p octets v k s e = hears_as _ _ _ _ _ _ _ (sym (e p)) (hears_done v k s)

pub inside_refused : (l : Limits) (T : TypeTerm) (p : ℕ) (octets : List ℕ) (f : Fault) (k : ℕ) (s : Option (List ℕ))
    → HaltsInside l T octets (errors.Fault f)
    → Hears (read_inside l T [] p octets) k s
    (Refused (record { at = p; why = Inner; inside = Some (f.at, f.why) })) k s
inside_refused l T p octets f k s e = hears_as _ _ _ _ _ _ _ (sym (contained_fault p _ f e)) (hears_fail Value _ k s)

-- A rule on what is contained.

alike_require : (b : Bool) (f : Fault) (p : Reading Value) (g : Value → Reading Value) (q : Reading Value)
    → ((k : ℕ) (s : List ℕ) → run (p >>= g) k s ≡ run q k s) → (k : ℕ) (s : List ℕ)
    → run (require b f p >>= g) k s ≡ run (require b f q) k s
unfolding require ◌>>=◌
alike_require true f p g q e k s = e k s
alike_require false f p g q e k s = refl

-- the value, and then the rule, which sees the earlier fields
pub containing : (l : Limits) (own : Tag) (rule : Rule) (T : TypeTerm) (earlier : List Value) (c : Enclosing) (p : ℕ)
    (tag : Tag) (form : Bool) (v : Value) (h : Heard Value) (k j i : ℕ) (s t u : Option (List ℕ))
    → Hears (read_contained l own T earlier c p tag form) k s (Said v) j t
    → Hears (apply_rule p (rule earlier v) (Leaf own (der v))) j t h i u
    → Hears (read_type l (ContainingType own rule T) earlier c p tag form) k s h i u
unfolding read_type
containing l own rule T earlier c p tag form v h k j i s t u x y =
    let judge : Value → Reading Value = λ w. apply_rule p (rule earlier w) (Leaf own (der w)) in
    let inside : Value → Reading Value = λ value. read_inside l T earlier p (leaf_contents value) in
    hears_same _ _ h k i s u
    (alike_require (same_tag own tag) (fault p WrongTag) (read_leaf l c OctetString p own form >>= inside) judge _
    (bind_assoc (read_leaf l c OctetString p own form) inside judge))
    (hears_then _ judge v h k j i s t u x y)

pub containing_error : (l : Limits) (own : Tag) (rule : Rule) (T : TypeTerm) (earlier : List Value) (c : Enclosing)
    (p : ℕ) (tag : Tag) (form : Bool) (e : ReadError) (k i : ℕ) (s u : Option (List ℕ))
    → Hears (read_contained l own T earlier c p tag form) k s (heard_error e) i u
    → Hears (read_type l (ContainingType own rule T) earlier c p tag form) k s (heard_error e) i u
unfolding read_type
containing_error l own rule T earlier c p tag form e k i s u x =
    let judge : Value → Reading Value = λ w. apply_rule p (rule earlier w) (Leaf own (der w)) in
    let inside : Value → Reading Value = λ value. read_inside l T earlier p (leaf_contents value) in
    hears_same _ _ (heard_error e) k i s u
    (alike_require (same_tag own tag) (fault p WrongTag) (read_leaf l c OctetString p own form >>= inside) judge _
    (bind_assoc (read_leaf l c OctetString p own form) inside judge))
    (hears_error _ judge e k i s u x)

-- octets that are the text of the same value
pub same_octets_inside : (own : Tag) (v w : Value) → Same v w → Same (Leaf own (der v)) (Leaf own (der w))
same_octets_inside own v w same =
    subst (λ o. Same (Leaf own (der v)) (Leaf own o)) (same_der v w same) (equivalence.same_refl (Leaf own (der v)))

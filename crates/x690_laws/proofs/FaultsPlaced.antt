-- What faults look like: Truncated stands at the end of the octets, and something is inside exactly for Inner.
use Rattle.std.proofs.Common.{◌≡◌, ℕ, zero, suc, ◌+◌, Bool, true, false, List, [], ◌∷◌, length, Option, Some, None, refl, sym, ◌∙◌, ap, arith, subst}
use Rattle.tlv_core.specs.Identifier.{Tag}
use Rattle.tlv_core.specs.Limits.{Limits}
use Rattle.tlv_core.specs.declared.fault.Fault.{Fault}
use Rattle.tlv_core.specs.declared.reason.Reason.{Reason}
use Rattle.tlv_core.specs.declared.reason.Reason.TheVariants.{Inner, LeftOut, Missing, Trailing, Truncated}
use Rattle.x690.specs.Contents.{BitString, Boolean, Integer, LeafKind, Null, ObjectIdentifier, OctetString, Utf8String}
use Rattle.x690.specs.OpenValues.{OpenForm, OpenLeaf, OpenPlain, OpenRefused, OpenSequence, OpenSetOf, open_form}
use Rattle.tlv_core.specs.Faults.{InsideMatches}
use Rattle.x690.specs.Points.{Enclosing, fault}
use Rattle.x690.specs.Premises.{Honest, HonestFields, HonestReason}
use Rattle.x690.specs.ReadContents.{add_member, all_members, bad_contents, read_leaf, read_open, read_segment}
use Rattle.x690.specs.ReadHeaders.{ContainerEnds, ElementStands, Ended, Next, each_member, fit_contents, header_octet, in_container, next_octets, next_tag, primitive_contents, read_big_endian, read_definite_length, read_high_number, read_length, read_number, read_tag_number}
use Rattle.x690.specs.ReadTypes.{apply_rule, due_element, from_inside, read_element, read_fields, read_type}
use Rattle.x690.specs.Reading.{Ask, Done, Fail, Halted, Outcome, Reading, Took, Where, choose, require, run, ◌>>=◌}
use Rattle.x690.specs.TypeTerms.{ChoiceType, ContainingType, Default, DefinedByType, EndOfFields, Fields, LeafType, OpenType, Optional, RefusedType, Required, RuledType, SequenceOfType, SequenceType, SetOfType, TypeTerm}
use Rattle.x690.specs.Values.{Leaf, Sequence, SetOf, Value, values_of}
use Rattle.x690_laws.specs.ReadingLaws.{InsideOfFaults, TruncatedAtTheEnd}

-- Truncated is left to the end of the octets, and what is inside is there exactly for Inner.
pub record Own (f : Fault) : Type 0 where
  pub not_truncated : f.why ≡ Truncated → ⊥
  pub inside_fits : InsideMatches f

-- each fault that the reading itself gives is its own
unfoldable pub Plainly : {A : Type 0} → Reading A → Type 0
Plainly (Done a) = Unit {0}
Plainly (Fail f) = Own f
Plainly (Where h) = (k : ℕ) → Plainly (h k)
Plainly (Ask h) = (x : ℕ) → Plainly (h x)

at_end : {A : Type 0} (p : Reading A) (k : ℕ) (s : List ℕ) (f : Fault) → Plainly p → run p k s ≡ Halted f
    → f.why ≡ Truncated → f ≡ fault (k + length s) Truncated
unfolding Plainly run
at_end (Done a) k s f p h w = cc
at_end (Fail g) k s f p h w = let e : g ≡ f = cc in absurd (p.not_truncated (ap (λ x. x.why) e ∙ w))
at_end (Where g) k s f p h w = at_end (g k) k s f (p k) h w
at_end (Ask g) k [] f p h w =
    let e : fault k Truncated ≡ f = cc in let z : k ≡ k + 0 = omega arith in sym e ∙ ap (λ n. fault n Truncated) z
at_end (Ask g) k (x ∷ s) f p h w =
    let z : k + 1 + length s ≡ k + length (x ∷ s) = omega arith in
    at_end (g x) (k + 1) s f (p x) h w ∙ ap (λ n. fault n Truncated) z

inside_fits : {A : Type 0} (p : Reading A) (k : ℕ) (s : List ℕ) (f : Fault) → Plainly p → run p k s ≡ Halted f
    → InsideMatches f
unfolding Plainly run
inside_fits (Done a) k s f p h = cc
inside_fits (Fail g) k s f p h = let e : g ≡ f = cc in subst InsideMatches e p.inside_fits
inside_fits (Where g) k s f p h = inside_fits (g k) k s f (p k) h
inside_fits (Ask g) k [] f p h = let e : fault k Truncated ≡ f = cc in subst InsideMatches e (λ z. cc, λ z. cc)
inside_fits (Ask g) k (x ∷ s) f p h = inside_fits (g x) (k + 1) s f (p x) h

plain : (p : ℕ) (w : Reason) → HonestReason w → Own (fault p w)
plain p w h = record { not_truncated = h.0; inside_fits = (λ z. cc, λ z. absurd (h.1 z)) }

within : (p at : ℕ) (why : Reason) → Own (record { at = p; why = Inner; inside = Some (at, why) })
within p at why = record { not_truncated = λ z. cc; inside_fits = (λ z. refl, λ z. refl) }

bind_plain : {A B : Type 0} (p : Reading A) (f : A → Reading B) → Plainly p → ((a : A) → Plainly (f a))
    → Plainly (p >>= f)
unfolding Plainly ◌>>=◌
bind_plain (Done a) f p g = g a
bind_plain (Fail e) f p g = p
bind_plain (Where h) f p g = λ k. bind_plain (h k) f (p k) g
bind_plain (Ask h) f p g = λ x. bind_plain (h x) f (p x) g

require_plain : {A : Type 0} (b : Bool) (f : Fault) (p : Reading A) → Own f → Plainly p → Plainly (require b f p)
unfolding Plainly require
require_plain true f p g h = h
require_plain false f p g h = g

choose_plain : {A : Type 0} (b : Bool) (p p' : Reading A) → Plainly p → Plainly p' → Plainly (choose b p p')
unfolding Plainly choose
choose_plain true p p' g h = g
choose_plain false p p' g h = h

done_plain : {A : Type 0} (a : A) → Plainly (Done a)
unfolding Plainly
done_plain a = tt

fail_plain : (A : Type 0) (f : Fault) → Own f → Plainly {A = A} (Fail f)
unfolding Plainly
fail_plain A f g = g

where_plain : {A : Type 0} (h : ℕ → Reading A) → ((k : ℕ) → Plainly (h k)) → Plainly (Where h)
unfolding Plainly
where_plain h g = g

octet_plain : (l : Limits) (e : Option ℕ) (p : ℕ) → Plainly (header_octet l e p)
unfolding header_octet Plainly
octet_plain l e p = λ k.
    require_plain _ _ _ (plain _ _ (λ z. cc, λ z. cc)) (require_plain _ _ _ (plain _ _ (λ z. cc, λ z. cc)) (λ x. tt))

high_plain : (l : Limits) (e : Option ℕ) (p left n : ℕ) → Plainly (read_high_number l e p left n)
unfolding read_high_number
high_plain l e p zero n = fail_plain ℕ _ (plain _ _ (λ z. cc, λ z. cc))
high_plain l e p (suc left) n =
    bind_plain _ _ (octet_plain l e p) (λ x.
    require_plain _ _ _ (plain _ _ (λ z. cc, λ z. cc))
    (choose_plain _ _ _ (require_plain _ _ _ (plain _ _ (λ z. cc, λ z. cc)) (done_plain _)) (high_plain l e p left _)))

next_plain : (l : Limits) (c : Enclosing) → Plainly (next_tag l c)
unfolding next_tag read_tag_number
next_plain l c =
    where_plain _
    (λ p. choose_plain _ _ _ (done_plain _) (bind_plain _ _ (octet_plain l c.nearest_end p) (λ x. choose_plain _ _ _
    (require_plain _ _ _ (plain _ _ (λ z. cc, λ z. cc))
    (bind_plain _ _ (octet_plain l c.nearest_end p)
    (λ y. require_plain _ _ _ (plain _ _ (λ z. cc, λ z. cc)) (done_plain _))))
    (require_plain _ _ _ (plain _ _ (λ z. cc, λ z. cc))
    (bind_plain _ _ (choose_plain _ _ _ (done_plain _) (high_plain l c.nearest_end p 4 0))
    (λ n. require_plain _ _ _ (plain _ _ (λ z. cc, λ z. cc)) (done_plain _)))))))

big_plain : (l : Limits) (e : Option ℕ) (p left n : ℕ) → Plainly (read_big_endian l e p left n)
unfolding read_big_endian
big_plain l e p zero n = done_plain n
big_plain l e p (suc left) n = bind_plain _ _ (octet_plain l e p) (λ x. big_plain l e p left _)

number_plain : (l : Limits) (e : Option ℕ) (p x : ℕ) → Plainly (read_number l e p x)
unfolding read_number fit_contents
number_plain l e p x =
    bind_plain _ _ (choose_plain _ _ _ (done_plain _) (big_plain l e p _ 0)) (λ n.
    where_plain _ (λ k.
    require_plain _ _ _ (plain _ _ (λ z. cc, λ z. cc))
    (require_plain _ _ _ (plain _ _ (λ z. cc, λ z. cc)) (done_plain _))))

length_plain : (l : Limits) (e : Option ℕ) (p : ℕ) → Plainly (read_length l e p)
unfolding read_length
length_plain l e p =
    bind_plain _ _ (octet_plain l e p) (λ x.
    require_plain _ _ _ (plain _ _ (λ z. cc, λ z. cc))
    (choose_plain _ _ _ (done_plain _) (bind_plain _ _ (number_plain l e p x) (λ n. done_plain _))))

octets_plain : (n : ℕ) → Plainly (next_octets n)
unfolding next_octets Plainly
octets_plain zero = tt
octets_plain (suc n) = λ x. bind_plain _ _ (octets_plain n) (λ o. tt)

primitive_plain : (l : Limits) (c : Enclosing) (p : ℕ) → Plainly (primitive_contents l c p)
unfolding primitive_contents read_definite_length
primitive_plain l c p =
    bind_plain _ _ (bind_plain _ _ (octet_plain l c.nearest_end p)
    (λ x. require_plain _ _ _ (plain _ _ (λ z. cc, λ z. cc)) (number_plain l c.nearest_end p x)))
    (λ n. octets_plain n)

container_plain : {A : Type 0} (l : Limits) (c : Enclosing) (p : ℕ) (form : Bool) (body : Enclosing → Reading A)
    → ((i : Enclosing) → Plainly (body i)) → Plainly (in_container l c p form body)
unfolding in_container
container_plain l c p form body g =
    require_plain _ _ _ (plain _ _ (λ z. cc, λ z. cc))
    (bind_plain _ _ (length_plain l c.nearest_end p) (λ x. where_plain _ (λ k. g _)))

members_plain : {S : Type 0} (one : S → ℕ → Tag → Bool → Reading S) (fuel : ℕ) (l : Limits) (c : Enclosing) (s : S)
    → ((s : S) (p : ℕ) (t : Tag) (form : Bool) → Plainly (one s p t form)) → Plainly (each_member one fuel l c s)
unfolding each_member
members_plain {S} one zero l c s g = fail_plain (Ended S) _ (plain _ _ (λ z. cc, λ z. cc))
members_plain {S} one (suc fuel) l c s g =
    bind_plain _ _ (next_plain l c) (λ d. go d (λ s'. members_plain one fuel l c s' g))
  where
    go : (d : Next) → ((s' : S) → Plainly (each_member one fuel l c s'))
        → Plainly {A = Ended S}
        (elim d [
          | ContainerEnds p ↦ Done (record { all = s; at = p })
          | ElementStands p t form ↦ one s p t form >>= λ s'. each_member one fuel l c s'
        ])
    go (ContainerEnds p) ih = done_plain _
    go (ElementStands p t form) ih = bind_plain _ _ (g s p t form) ih

segment_plain : (deep : ℕ) (l : Limits) (n : ℕ) (c : Enclosing) (s : List (List ℕ)) (p : ℕ) (t : Tag) (form : Bool)
    → Plainly (read_segment deep l n c s p t form)
unfolding read_segment
segment_plain zero l n c s p t form = fail_plain (List (List ℕ)) _ (plain _ _ (λ z. cc, λ z. cc))
segment_plain (suc deep) l n c s p t true =
    require_plain _ _ _ (plain _ _ (λ z. cc, λ z. cc))
    (bind_plain _ _
    (container_plain l c p true _
    (λ i. members_plain _ l.octets l i s (λ s' p' t' form'. segment_plain deep l n i s' p' t' form')))
    (λ e. done_plain _))
segment_plain (suc deep) l n c s p t false =
    require_plain _ _ _ (plain _ _ (λ z. cc, λ z. cc))
    (bind_plain _ _ (primitive_plain l c p) (λ o. require_plain _ _ _ (plain _ _ (λ z. cc, λ z. cc)) (done_plain _)))

bad_plain : (kind : LeafKind) → HonestReason (bad_contents kind)
bad_plain Boolean = (λ z. cc, λ z. cc)
bad_plain Integer = (λ z. cc, λ z. cc)
bad_plain Null = (λ z. cc, λ z. cc)
bad_plain ObjectIdentifier = (λ z. cc, λ z. cc)
bad_plain BitString = (λ z. cc, λ z. cc)
bad_plain OctetString = (λ z. cc, λ z. cc)
bad_plain Utf8String = (λ z. cc, λ z. cc)

leaf_plain : (l : Limits) (c : Enclosing) (kind : LeafKind) (p : ℕ) (t : Tag) (form : Bool)
    → Plainly (read_leaf l c kind p t form)
unfolding read_leaf
leaf_plain l c kind p t false =
    bind_plain _ _ (primitive_plain l c p) (λ o. require_plain _ _ _ (plain _ _ (bad_plain kind)) (done_plain _))
leaf_plain l c Boolean p t true = fail_plain Value _ (plain _ _ (λ z. cc, λ z. cc))
leaf_plain l c Integer p t true = fail_plain Value _ (plain _ _ (λ z. cc, λ z. cc))
leaf_plain l c Null p t true = fail_plain Value _ (plain _ _ (λ z. cc, λ z. cc))
leaf_plain l c ObjectIdentifier p t true = fail_plain Value _ (plain _ _ (λ z. cc, λ z. cc))
leaf_plain l c BitString p t true =
    bind_plain _ _ (container_plain l c p true _
    (λ i. members_plain _ l.octets l i [] (λ s' p' t' form'. segment_plain l.depth l 3 i s' p' t' form')))
    (λ e. require_plain _ _ _ (plain _ _ (λ z. cc, λ z. cc)) (done_plain _))
leaf_plain l c OctetString p t true =
    bind_plain _ _ (container_plain l c p true _
    (λ i. members_plain _ l.octets l i [] (λ s' p' t' form'. segment_plain l.depth l 4 i s' p' t' form')))
    (λ e. require_plain _ _ _ (plain _ _ (λ z. cc, λ z. cc)) (done_plain _))
leaf_plain l c Utf8String p t true =
    bind_plain _ _ (container_plain l c p true _
    (λ i. members_plain _ l.octets l i [] (λ s' p' t' form'. segment_plain l.depth l 4 i s' p' t' form')))
    (λ e. require_plain _ _ _ (plain _ _ (λ z. cc, λ z. cc)) (done_plain _))

values_plain : (l : Limits) (c : Enclosing) (p : ℕ) (form : Bool) (one : Enclosing → ℕ → Tag → Bool → Reading Value)
    → ((i : Enclosing) (p : ℕ) (t : Tag) (form : Bool) → Plainly (one i p t form))
    → Plainly (all_members l c p form one)
unfolding all_members add_member
values_plain l c p form one g =
    container_plain l c p form _
    (λ i. members_plain _ l.octets l i [] (λ s p' t' form'. bind_plain _ _ (g i p' t' form') (λ v. done_plain _)))

open_plainly : (deep : ℕ) (l : Limits) (c : Enclosing) (p : ℕ) (t : Tag) (form : Bool)
    → Plainly (read_open deep l c p t form)
unfolding read_open
open_plainly zero l c p t form = fail_plain Value _ (plain _ _ (λ z. cc, λ z. cc))
open_plainly (suc deep) l c p t form = go (open_form t) form (λ i p' t' form'. open_plainly deep l i p' t' form')
  where
    go : (o : OpenForm) (form : Bool)
        → ((i : Enclosing) (p : ℕ) (t : Tag) (form : Bool) → Plainly (read_open deep l i p t form))
        → Plainly {A = Value} (elim o [
          | OpenRefused ↦ Fail (fault p LeftOut)
          | OpenLeaf kind ↦ read_leaf l c kind p t form
          | OpenPlain ↦ elim form [
            | false ↦ primitive_contents l c p >>= λ o. Done (Leaf t o)
            | true ↦ all_members l c p true (λ c'. read_open deep l c') >>= λ e. Done (Sequence t (values_of e.all))
          ]
          | OpenSequence ↦
              all_members l c p form (λ c'. read_open deep l c') >>= λ e. Done (Sequence t (values_of e.all))
          | OpenSetOf ↦ all_members l c p form (λ c'. read_open deep l c') >>= λ e. Done (SetOf t (values_of e.all))
        ])
    go OpenRefused form ih = fail_plain Value _ (plain _ _ (λ z. cc, λ z. cc))
    go (OpenLeaf kind) form ih = leaf_plain l c kind p t form
    go OpenPlain false ih = bind_plain _ _ (primitive_plain l c p) (λ o. done_plain _)
    go OpenPlain true ih = bind_plain _ _ (values_plain l c p true _ ih) (λ e. done_plain _)
    go OpenSequence form ih = bind_plain _ _ (values_plain l c p form _ ih) (λ e. done_plain _)
    go OpenSetOf form ih = bind_plain _ _ (values_plain l c p form _ ih) (λ e. done_plain _)

ruled_plain : (p : ℕ) (why : Option Reason) (w : Value) → ((x : Reason) → why ≡ Some x → HonestReason x)
    → Plainly (apply_rule p why w)
unfolding apply_rule
ruled_plain p None w g = done_plain w
ruled_plain p (Some x) w g = fail_plain Value _ (plain _ _ (g x refl))

contained_plain : (p : ℕ) (o : Outcome Value) → Plainly (from_inside p o)
unfolding from_inside
contained_plain p (Halted g) = fail_plain Value _ (within p g.at g.why)
contained_plain p (Took w k []) = done_plain w
contained_plain p (Took w k (x ∷ s)) = fail_plain Value _ (within p k Trailing)

mutual
  unfolding read_type Honest

  type_plain : (l : Limits) (T : TypeTerm) (earlier : List Value) (c : Enclosing) (p : ℕ) (t : Tag) (form : Bool)
      → Honest T → Plainly (read_type l T earlier c p t form)
  type_plain l (LeafType u kind) earlier c p t form h =
      require_plain _ _ _ (plain _ _ (λ z. cc, λ z. cc)) (leaf_plain l c kind p u form)
  type_plain l OpenType earlier c p t form h = open_plainly l.depth l c p t form
  type_plain l (SequenceOfType u n T) earlier c p t form h =
      require_plain _ _ _ (plain _ _ (λ z. cc, λ z. cc))
      (bind_plain _ _ (values_plain l c p form _ (λ i p' t' form'. type_plain l T [] i p' t' form' h))
      (λ e. require_plain _ _ _ (plain _ _ (λ z. cc, λ z. cc)) (done_plain _)))
  type_plain l (SetOfType u n T) earlier c p t form h =
      require_plain _ _ _ (plain _ _ (λ z. cc, λ z. cc))
      (bind_plain _ _ (values_plain l c p form _ (λ i p' t' form'. type_plain l T [] i p' t' form' h))
      (λ e. require_plain _ _ _ (plain _ _ (λ z. cc, λ z. cc)) (done_plain _)))
  type_plain l (SequenceType u fs) earlier c p t form h =
      require_plain _ _ _ (plain _ _ (λ z. cc, λ z. cc))
      (bind_plain _ _
      (container_plain l c p form _ (λ i. bind_plain _ _ (next_plain l i) (λ d. fields_plain l fs [] i d h)))
      (λ vs. done_plain _))
  type_plain l (ContainingType u q T) earlier c p t form h =
      require_plain _ _ _ (plain _ _ (λ z. cc, λ z. cc))
      (bind_plain _ _ (leaf_plain l c OctetString p u form)
      (λ v. bind_plain _ _ (contained_plain p _) (λ w. ruled_plain p (q earlier w) _ (h.0 earlier w))))
  type_plain l (RuledType q T) earlier c p t form h =
      bind_plain _ _ (type_plain l T earlier c p t form h.1) (λ v. ruled_plain p (q earlier v) v (h.0 earlier v))
  type_plain l (RefusedType u why) earlier c p t form h =
      require_plain _ _ _ (plain _ _ (λ z. cc, λ z. cc)) (fail_plain Value _ (plain _ _ h))
  type_plain l (DefinedByType path os A B) earlier c p t form h =
      choose_plain _ _ _ (type_plain l A earlier c p t form h.0) (type_plain l B earlier c p t form h.1)
  type_plain l (ChoiceType A B) earlier c p t form h =
      choose_plain _ _ _ (type_plain l A earlier c p t form h.0) (type_plain l B earlier c p t form h.1)

  fields_plain : (l : Limits) (fs : Fields) (earlier : List Value) (c : Enclosing) (d : Next) → HonestFields fs
      → Plainly (read_fields l fs earlier c d)
  fields_plain l EndOfFields earlier c (ContainerEnds p) h = done_plain _
  fields_plain l EndOfFields earlier c (ElementStands p t form) h =
      fail_plain (List Value) _ (plain _ _ (λ z. cc, λ z. cc))
  fields_plain l (Required T fs) earlier c (ContainerEnds p) h =
      fail_plain (List Value) _ (plain _ _ (λ z. cc, λ z. cc))
  fields_plain l (Required T fs) earlier c (ElementStands p t form) h =
      require_plain _ _ _ (plain _ _ (λ z. cc, λ z. cc))
      (bind_plain _ _ (type_plain l T earlier c p t form h.0)
      (λ v. bind_plain _ _ (next_plain l c) (λ d. bind_plain _ _ (fields_plain l fs _ c d h.1) (λ vs. done_plain _))))
  fields_plain l (Optional T fs) earlier c (ContainerEnds p) h = fields_plain l fs earlier c (ContainerEnds p) h.1
  fields_plain l (Optional T fs) earlier c (ElementStands p t form) h =
      choose_plain _ _ _
      (bind_plain _ _ (type_plain l T earlier c p t form h.0)
      (λ v. bind_plain _ _ (next_plain l c) (λ d. bind_plain _ _ (fields_plain l fs _ c d h.1) (λ vs. done_plain _))))
      (fields_plain l fs earlier c (ElementStands p t form) h.1)
  fields_plain l (Default i o T fs) earlier c (ContainerEnds p) h = fields_plain l fs earlier c (ContainerEnds p) h.1
  fields_plain l (Default i o T fs) earlier c (ElementStands p t form) h =
      choose_plain _ _ _
      (bind_plain _ _ (type_plain l T earlier c p t form h.0) (λ v.
      bind_plain _ _ (next_plain l c) (λ d.
      choose_plain _ _ _ (fields_plain l fs earlier c d h.1)
      (bind_plain _ _ (fields_plain l fs _ c d h.1) (λ vs. done_plain _)))))
      (fields_plain l fs earlier c (ElementStands p t form) h.1)

element_plain : (l : Limits) (T : TypeTerm) (earlier : List Value) (c : Enclosing) → Honest T
    → Plainly (read_element l T earlier c)
unfolding due_element
element_plain l T earlier c h = bind_plain _ _ (next_plain l c) go
  where
    go : (d : Next)
        → Plainly {A = Value}
        (elim d [
          | ContainerEnds p ↦ Fail (fault p Missing)
          | ElementStands p t form ↦ read_type l T earlier c p t form
        ])
    go (ContainerEnds p) = fail_plain Value _ (plain _ _ (λ z. cc, λ z. cc))
    go (ElementStands p t form) = type_plain l T earlier c p t form h

pub truncated_at_the_end : TruncatedAtTheEnd
truncated_at_the_end l T earlier c k s f h e w =
    at_end (read_element l T earlier c) k s f (element_plain l T earlier c h) e w

pub inside_of_faults : InsideOfFaults
inside_of_faults l T earlier c k s f h e =
    inside_fits (read_element l T earlier c) k s f (element_plain l T earlier c h) e

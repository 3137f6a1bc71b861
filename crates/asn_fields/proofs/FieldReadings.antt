-- The rules by which readers of sequences are put together: into the container, field after field in the
-- order of the ASN.1, its end.
-- `then'` is what becomes of the values of all fields.
use Rattle.std.specs.Option.{is_some}
use Rattle.std.proofs.Common.{Bool, List, None, Option, Some, [], ap, append-nil, false, refl, subst, sym, true, ℕ, ◌++◌, ◌||◌, ◌∷◌, ◌≡◌}
use Rattle.tlv_core.specs.Identifier.{Tag}
use Rattle.tlv_core.specs.Limits.{Limits}
use Rattle.tlv_core.specs.declared.fault.ReadError.{ReadError}
use Rattle.tlv_core.specs.declared.reason.Reason.TheVariants.{Extra, Missing, WrongTag}
use Rattle.x690.specs.Layouts.{same_tag}
use Rattle.x690.specs.Lists.{one_of}
use Rattle.x690.specs.Points.{Enclosing, fault}
use Rattle.x690.specs.ReadHeaders.{ContainerEnds, ElementStands, Next, entered, in_container, next_tag, read_length}
use Rattle.x690.specs.ReadTypes.{IsClosed, apply_rule, is_this_leaf, read_fields, read_type}
use Rattle.x690.specs.Reading.{Done, Reading, Where, choose, require, run, ◌>>=◌}
use Rattle.x690.specs.Reads.{Heard, Refused, Said}
use Rattle.x690.specs.TypeTerms.{Default, DefinedByType, EndOfFields, Fields, Optional, Required, Rule, RuledType, SequenceType, TypeTerm, fits_tag}
use Rattle.x690.specs.Values.{Sequence, Value, leaf_at, values_of}
use Rattle.x690.proofs.Alike.{Alike, alike_both, alike_then, behind, behind_same, bind_first, choose_then, done_then, require_then}
use Rattle.x690.proofs.Runs.{bind_assoc, bind_same}
use Rattle.ber_pull.specs.Hears.{Hears, heard_error, next_at}
use Rattle.ber_pull.proofs.Hearing.{hears_done, hears_error, hears_fail, hears_first, hears_off, hears_on, hears_same, hears_second, hears_then}
use Rattle.asn_fields.specs.FieldReadings.{but_default, read_begin, read_due, read_end, read_optional, read_take, with_field}

-- a field that is there, and the fields after it
there : {B : Type 0} (p : Reading Value) (q : Reading Next) (rest : Value → Next → Reading (List Value))
    (then' : List Value → Reading B)
    → Alike ((p >>= λ v. q >>= λ n. rest v n >>= λ vs. Done (v ∷ vs)) >>= then')
    (p >>= λ v. q >>= λ n. rest v n >>= λ vs. then' (v ∷ vs))
unfolding ◌>>=◌
there p q rest then' =
    alike_then _ _ _ (behind p (λ v. q) (λ v n. rest v n >>= λ vs. Done (v ∷ vs)) then')
    (behind_same p q (λ v n. (rest v n >>= λ vs. Done (v ∷ vs)) >>= then') (λ v n. rest v n >>= λ vs. then' (v ∷ vs))
    (λ v n. bind_assoc (rest v n) (λ vs. Done (v ∷ vs)) then'))

-- Into the container.

inside_then : {A B : Type 0} (l : Limits) (c : Enclosing) (p : ℕ) (constructed : Bool) (body : Enclosing → Reading A)
    (f : A → Reading B)
    → Alike (in_container l c p constructed body >>= f) (in_container l c p constructed (λ i. body i >>= f))
unfolding in_container ◌>>=◌
inside_then l c p constructed body f =
    require_then constructed _ _ _ _
    (bind_assoc (read_length l c.nearest_end p) (λ o. Where (λ here. body (entered c here o))) f)

inside_same : {A : Type 0} (l : Limits) (c : Enclosing) (p : ℕ) (constructed : Bool)
    (body body' : Enclosing → Reading A)
    → ((i : Enclosing) → Alike (body i) (body' i))
    → Alike (in_container l c p constructed body) (in_container l c p constructed body')
unfolding in_container require run
inside_same l c p true body body' e =
    bind_same (read_length l c.nearest_end p) (λ o. Where (λ here. body (entered c here o)))
    (λ o. Where (λ here. body' (entered c here o))) (λ o k s. e (entered c k o) k s)
inside_same l c p false body body' e = λ k s. refl

-- what becomes of the point inside
abbrev then_begin : Limits → Fields → Tag → Enclosing × Next → Reading Value
then_begin l fields own r = read_fields l fields [] r.0 r.1 >>= λ vs. Done (Sequence own (values_of vs))

begin_alike : (l : Limits) (own : Tag) (fields : Fields) (earlier : List Value) (c : Enclosing) (p : ℕ) (tag : Tag)
    (constructed : Bool)
    → Alike (read_begin l own c p tag constructed >>= then_begin l fields own)
    (read_type l (SequenceType own fields) earlier c p tag constructed)
unfolding read_begin read_type ◌>>=◌
begin_alike l own fields earlier c p tag constructed =
    require_then (same_tag own tag) _ _ _ _
    (alike_both _ _ (in_container l c p constructed (λ i. next_tag l i >>= λ n. then_begin l fields own (i, n)))
    (alike_then _ _ _
    (behind (in_container l c p constructed Done) (next_tag l) (λ i n. Done (i, n)) (then_begin l fields own))
    (inside_then l c p constructed Done (λ i. next_tag l i >>= λ n. then_begin l fields own (i, n))))
    (alike_then _ _ _
    (inside_then l c p constructed (λ i. next_tag l i >>= λ n. read_fields l fields [] i n)
    (λ vs. Done (Sequence own (values_of vs))))
    (inside_same l c p constructed _ _
    (λ i. bind_assoc (next_tag l i) (λ n. read_fields l fields [] i n) (λ vs. Done (Sequence own (values_of vs)))))))

-- A field that is due.

abbrev then_due : {B : Type 0} → Limits → Fields → List Value → Enclosing → (List Value → Reading B) → Value × Next
    → Reading B
then_due l rest earlier c then' r = read_fields l rest (earlier ++ (r.0 ∷ [])) c r.1 >>= λ vs. then' (r.0 ∷ vs)

due_alike : {B : Type 0} (l : Limits) (T : TypeTerm) (rest : Fields) (earlier : List Value) (c : Enclosing)
    (next : Next) (then' : List Value → Reading B)
    → Alike (read_due l T earlier c next >>= then_due l rest earlier c then')
    (read_fields l (Required T rest) earlier c next >>= then')
unfolding read_due read_fields ◌>>=◌
due_alike l T rest earlier c (ContainerEnds p) then' = λ k s. refl
due_alike l T rest earlier c (ElementStands p tag constructed) then' =
    alike_both _ _ _
    (require_then (fits_tag T tag) _ _ _ _
    (behind (read_type l T earlier c p tag constructed) (λ v. next_tag l c) (λ v n. Done (v, n))
    (then_due l rest earlier c then')))
    (require_then (fits_tag T tag) _ _ _ _
    (there (read_type l T earlier c p tag constructed) (next_tag l c)
    (λ v n. read_fields l rest (earlier ++ (v ∷ [])) c n) then'))

-- the field by itself, and then what stands after it
take_alike : (l : Limits) (T : TypeTerm) (earlier : List Value) (c : Enclosing) (next : Next)
    → Alike (read_take l T earlier c next >>= λ v. next_tag l c >>= λ n. Done (v, n)) (read_due l T earlier c next)
unfolding read_take read_due ◌>>=◌
take_alike l T earlier c (ContainerEnds p) = λ k s. refl
take_alike l T earlier c (ElementStands p tag constructed) = require_then (fits_tag T tag) _ _ _ _ (λ k s. refl)

-- a type that looks at no earlier field is read the same after any
pub take_any : (l : Limits) (T : TypeTerm) (earlier : List Value) (c : Enclosing) (next : Next) → IsClosed T
    → read_take l T [] c next ≡ read_take l T earlier c next
unfolding read_take
take_any l T earlier c (ContainerEnds p) closed = refl
take_any l T earlier c (ElementStands p tag constructed) closed =
    ap (require (fits_tag T tag) (fault p WrongTag)) (sym (closed l earlier c p tag constructed))

pub due_any : (l : Limits) (T : TypeTerm) (earlier : List Value) (c : Enclosing) (next : Next) → IsClosed T
    → read_due l T [] c next ≡ read_due l T earlier c next
unfolding read_due
due_any l T earlier c (ContainerEnds p) closed = refl
due_any l T earlier c (ElementStands p tag constructed) closed =
    ap (λ r. require (fits_tag T tag) (fault p WrongTag) (r >>= λ v. next_tag l c >>= λ n. Done (v, n)))
    (sym (closed l earlier c p tag constructed))

pub optional_any : (l : Limits) (T : TypeTerm) (earlier : List Value) (c : Enclosing) (next : Next) → IsClosed T
    → read_optional l T [] c next ≡ read_optional l T earlier c next
unfolding read_optional
optional_any l T earlier c (ContainerEnds p) closed = refl
optional_any l T earlier c (ElementStands p tag constructed) closed =
    ap
    (λ r. choose (fits_tag T tag) (r >>= λ v. next_tag l c >>= λ n. Done (Some v, n))
    (Done (None, ElementStands p tag constructed)))
    (sym (closed l earlier c p tag constructed))

-- the field that is ruled, and the one that the rule judges
ruled_alike : (l : Limits) (rule : Rule) (T : TypeTerm) (earlier : List Value) (c : Enclosing) (p : ℕ)
    (n : Option (Tag × Bool))
    → Alike (read_take l T earlier c (next_at p n) >>= λ v. apply_rule p (rule earlier v) v)
    (read_take l (RuledType rule T) earlier c (next_at p n))
unfolding read_take read_type fits_tag ◌>>=◌
ruled_alike l rule T earlier c p None = λ k s. refl
ruled_alike l rule T earlier c p (Some t) = require_then (fits_tag T t.0) _ _ _ _ (λ k s. refl)

-- A field that may be absent.

abbrev then_optional : {B : Type 0} → Limits → Fields → List Value → Enclosing → (List Value → Reading B)
    → Option Value × Next → Reading B
then_optional l rest earlier c then' r =
    read_fields l rest (earlier ++ with_field r.0 []) c r.1 >>= λ vs. then' (with_field r.0 vs)

absent : {B : Type 0} (l : Limits) (rest : Fields) (earlier : List Value) (c : Enclosing) (next : Next)
    (then' : List Value → Reading B)
    → Alike (then_optional l rest earlier c then' (None, next)) (read_fields l rest earlier c next >>= then')
absent l rest earlier c next then' k s = ap (λ w. run (read_fields l rest w c next >>= then') k s) (append-nil earlier)

optional_alike : {B : Type 0} (l : Limits) (T : TypeTerm) (rest : Fields) (earlier : List Value) (c : Enclosing)
    (next : Next) (then' : List Value → Reading B)
    → Alike (read_optional l T earlier c next >>= then_optional l rest earlier c then')
    (read_fields l (Optional T rest) earlier c next >>= then')
unfolding read_optional read_fields ◌>>=◌
optional_alike l T rest earlier c (ContainerEnds p) then' = absent l rest earlier c (ContainerEnds p) then'
optional_alike l T rest earlier c (ElementStands p tag constructed) then' =
    alike_both _ _ _
    (choose_then (fits_tag T tag) _ _ _ _ _
    (behind (read_type l T earlier c p tag constructed) (λ v. next_tag l c) (λ v n. Done (Some v, n))
    (then_optional l rest earlier c then'))
    (absent l rest earlier c (ElementStands p tag constructed) then'))
    (choose_then (fits_tag T tag) _ _ _ _ _
    (there (read_type l T earlier c p tag constructed) (next_tag l c)
    (λ v n. read_fields l rest (earlier ++ (v ∷ [])) c n) then')
    (λ k s. refl))

-- A field with a DEFAULT.

abbrev then_default : {B : Type 0} → Limits → Tag → List ℕ → Fields → List Value → Enclosing → (List Value → Reading B)
    → Option Value × Next → Reading B
then_default l own octets rest earlier c then' r =
    then_optional l rest earlier c then' (but_default own octets r.0, r.1)

-- a value that is there, and is the default or isn't
given_default : {B : Type 0} (b : Bool) (l : Limits) (rest : Fields) (earlier : List Value) (c : Enclosing) (v : Value)
    (next : Next) (then' : List Value → Reading B)
    → Alike (then_optional l rest earlier c then' (elim b [ true ↦ None | false ↦ Some v ], next))
    (choose b (read_fields l rest earlier c next)
    (read_fields l rest (earlier ++ (v ∷ [])) c next >>= λ vs. Done (v ∷ vs))
    >>= then')
unfolding choose ◌>>=◌
given_default true l rest earlier c v next then' = absent l rest earlier c next then'
given_default false l rest earlier c v next then' =
    λ k s. sym (bind_assoc (read_fields l rest (earlier ++ (v ∷ [])) c next) (λ vs. Done (v ∷ vs)) then' k s)

default_alike : {B : Type 0} (l : Limits) (own : Tag) (octets : List ℕ) (T : TypeTerm) (rest : Fields)
    (earlier : List Value) (c : Enclosing) (next : Next) (then' : List Value → Reading B)
    → Alike (read_optional l T earlier c next >>= then_default l own octets rest earlier c then')
    (read_fields l (Default own octets T rest) earlier c next >>= then')
unfolding read_optional read_fields ◌>>=◌
default_alike l own octets T rest earlier c (ContainerEnds p) then' = absent l rest earlier c (ContainerEnds p) then'
default_alike l own octets T rest earlier c (ElementStands p tag constructed) then' =
    let rp = read_type l T earlier c p tag constructed in
    let w : Value → Next → Reading (List Value) = λ v n.
    choose (is_this_leaf own octets v) (read_fields l rest earlier c n)
    (read_fields l rest (earlier ++ (v ∷ [])) c n >>= λ vs. Done (v ∷ vs)) in
    alike_both _ _ _
    (choose_then (fits_tag T tag) _ _ _ _ _
    (alike_then _ _ _
    (behind rp (λ v. next_tag l c) (λ v n. Done (Some v, n)) (then_default l own octets rest earlier c then'))
    (behind_same rp (next_tag l c) (λ v n. then_default l own octets rest earlier c then' (Some v, n))
    (λ v n. w v n >>= then') (λ v n. given_default (is_this_leaf own octets v) l rest earlier c v n then')))
    (absent l rest earlier c (ElementStands p tag constructed) then'))
    (choose_then (fits_tag T tag) _ _ _ _ _ (behind rp (λ v. next_tag l c) w then') (λ k s. refl))

-- The end.

end_alike : {B : Type 0} (l : Limits) (earlier : List Value) (c : Enclosing) (next : Next)
    (then' : List Value → Reading B)
    → Alike (read_end next >>= λ u. then' []) (read_fields l EndOfFields earlier c next >>= then')
unfolding read_end read_fields ◌>>=◌
end_alike l earlier c (ContainerEnds p) then' = λ k s. refl
end_alike l earlier c (ElementStands p tag constructed) then' = λ k s. refl

-- The rules. Each ends in what is heard of the whole: of a call that answered a value by what is heard of the rest, of
-- one that failed by its error.

pub begins : (l : Limits) (own own' : Tag) (fields : Fields) (earlier : List Value) (c : Enclosing) (p : ℕ) (tag : Tag)
    (constructed : Bool) (inside : Enclosing) (next : Next) (h : Heard Value) (k j i : ℕ) (s t u : Option (List ℕ))
    → own' ≡ own → Hears (read_begin l own' c p tag constructed) k s (Said (inside, next)) j t
    → Hears (read_fields l fields [] inside next >>= λ vs. Done (Sequence own (values_of vs))) j t h i u
    → Hears (read_type l (SequenceType own fields) earlier c p tag constructed) k s h i u
begins l own own' fields earlier c p tag constructed inside next h k j i s t u is x y =
    hears_same _ _ h k i s u (begin_alike l own fields earlier c p tag constructed)
    (hears_then _ (then_begin l fields own) (inside, next) h k j i s t u
    (subst (λ w. Hears (read_begin l w c p tag constructed) k s (Said (inside, next)) j t) is x) y)

-- and so of a SEQUENCE with a rule on its value
pub begins_ruled : (l : Limits) (rule : Rule) (own own' : Tag) (fields : Fields) (earlier : List Value) (c : Enclosing)
    (p : ℕ) (tag : Tag) (constructed : Bool) (inside : Enclosing) (next : Next) (h : Heard Value) (k j i : ℕ)
    (s t u : Option (List ℕ))
    → own' ≡ own → Hears (read_begin l own' c p tag constructed) k s (Said (inside, next)) j t
    → Hears (read_fields l fields [] inside next
    >>= λ vs. apply_rule p (rule earlier (Sequence own (values_of vs))) (Sequence own (values_of vs))) j t h i u
    → Hears (read_type l (RuledType rule (SequenceType own fields)) earlier c p tag constructed) k s h i u
unfolding read_type ◌>>=◌
begins_ruled l rule own own' fields earlier c p tag constructed inside next h k j i s t u is x y =
    let judge : Value → Reading Value = λ v. apply_rule p (rule earlier v) v in
    let rest : Enclosing × Next → Reading Value =
    λ r. read_fields l fields [] r.0 r.1 >>= λ vs. judge (Sequence own (values_of vs)) in
    let begun = read_begin l own c p tag constructed in
    hears_same (begun >>= rest) _ h k i s u
    (alike_then _ _ _
    (bind_same begun rest (λ r. then_begin l fields own r >>= judge) (λ r k' s'.
    sym (bind_assoc (read_fields l fields [] r.0 r.1) (λ vs. Done (Sequence own (values_of vs))) judge k' s')))
    (alike_then _ _ _ (λ k' s'. sym (bind_assoc begun (then_begin l fields own) judge k' s'))
    (bind_first _ _ judge (begin_alike l own fields earlier c p tag constructed))))
    (hears_then begun rest (inside, next) h k j i s t u
    (subst (λ w. Hears (read_begin l w c p tag constructed) k s (Said (inside, next)) j t) is x) y)

pub begins_error : (l : Limits) (own own' : Tag) (fields : Fields) (earlier : List Value) (c : Enclosing) (p : ℕ)
    (tag : Tag) (constructed : Bool) (e : ReadError) (k i : ℕ) (s u : Option (List ℕ))
    → own' ≡ own → Hears (read_begin l own' c p tag constructed) k s (heard_error e) i u
    → Hears (read_type l (SequenceType own fields) earlier c p tag constructed) k s (heard_error e) i u
begins_error l own own' fields earlier c p tag constructed e k i s u is x =
    hears_same _ _ (heard_error e) k i s u (begin_alike l own fields earlier c p tag constructed)
    (hears_error _ (then_begin l fields own) e k i s u
    (subst (λ w. Hears (read_begin l w c p tag constructed) k s (heard_error e) i u) is x))

pub due : {B : Type 0} (l : Limits) (T : TypeTerm) (rest : Fields) (earlier : List Value) (c : Enclosing) (next : Next)
    (then' : List Value → Reading B) (value : Value) (next' : Next) (h : Heard B) (k j i : ℕ) (s t u : Option (List ℕ))
    → Hears (read_due l T earlier c next) k s (Said (value, next')) j t
    → Hears (read_fields l rest (earlier ++ (value ∷ [])) c next' >>= λ vs. then' (value ∷ vs)) j t h i u
    → Hears (read_fields l (Required T rest) earlier c next >>= then') k s h i u
due l T rest earlier c next then' value next' h k j i s t u x y =
    hears_same _ _ h k i s u (due_alike l T rest earlier c next then')
    (hears_then _ (then_due l rest earlier c then') (value, next') h k j i s t u x y)

pub due_error : {B : Type 0} (l : Limits) (T : TypeTerm) (rest : Fields) (earlier : List Value) (c : Enclosing)
    (next : Next) (then' : List Value → Reading B) (e : ReadError) (k i : ℕ) (s u : Option (List ℕ))
    → Hears (read_due l T earlier c next) k s (heard_error e) i u
    → Hears (read_fields l (Required T rest) earlier c next >>= then') k s (heard_error e) i u
due_error l T rest earlier c next then' e k i s u x =
    hears_same _ _ (heard_error e) k i s u (due_alike l T rest earlier c next then')
    (hears_error _ (then_due l rest earlier c then') e k i s u x)

-- The field that is due by itself, then what stands after it, then the rest: with a rule that judges it between.

abbrev pub then_take : {B : Type 0} → Limits → Fields → List Value → Enclosing → (List Value → Reading B) → Value
    → Reading B
then_take l rest earlier c then' v =
    next_tag l c >>= λ n. read_fields l rest (earlier ++ (v ∷ [])) c n >>= λ vs. then' (v ∷ vs)

take_fields : {B : Type 0} (l : Limits) (T : TypeTerm) (rest : Fields) (earlier : List Value) (c : Enclosing)
    (next : Next) (then' : List Value → Reading B)
    → Alike (read_take l T earlier c next >>= then_take l rest earlier c then')
    (read_fields l (Required T rest) earlier c next >>= then')
unfolding ◌>>=◌
take_fields l T rest earlier c next then' =
    let both =
    behind (read_take l T earlier c next) (λ v. next_tag l c) (λ v n. Done (v, n)) (then_due l rest earlier c then') in
    alike_then _ _ _ (λ k s. sym (both k s))
    (alike_then _ _ _ (bind_first _ _ (then_due l rest earlier c then') (take_alike l T earlier c next))
    (due_alike l T rest earlier c next then'))

ruled_fields : {B : Type 0} (l : Limits) (rule : Rule) (T : TypeTerm) (rest : Fields) (earlier : List Value)
    (c : Enclosing) (p : ℕ) (n : Option (Tag × Bool)) (then' : List Value → Reading B)
    → Alike (read_take l T earlier c (next_at p n)
    >>= λ v. apply_rule p (rule earlier v) v >>= then_take l rest earlier c then')
    (read_fields l (Required (RuledType rule T) rest) earlier c (next_at p n) >>= then')
ruled_fields l rule T rest earlier c p n then' =
    let both = bind_assoc (read_take l T earlier c (next_at p n)) (λ v. apply_rule p (rule earlier v) v)
    (then_take l rest earlier c then') in
    alike_then _ _ _ (λ k s. sym (both k s))
    (alike_then _ _ _ (bind_first _ _ (then_take l rest earlier c then') (ruled_alike l rule T earlier c p n))
    (take_fields l (RuledType rule T) rest earlier c (next_at p n) then'))

pub take : {B : Type 0} (l : Limits) (T : TypeTerm) (rest : Fields) (earlier : List Value) (c : Enclosing) (next : Next)
    (then' : List Value → Reading B) (value : Value) (h : Heard B) (k j i : ℕ) (s t u : Option (List ℕ))
    → Hears (read_take l T earlier c next) k s (Said value) j t
    → Hears (then_take l rest earlier c then' value) j t h i u
    → Hears (read_fields l (Required T rest) earlier c next >>= then') k s h i u
take l T rest earlier c next then' value h k j i s t u x y =
    hears_same _ _ h k i s u (take_fields l T rest earlier c next then')
    (hears_then _ (then_take l rest earlier c then') value h k j i s t u x y)

pub take_error : {B : Type 0} (l : Limits) (T : TypeTerm) (rest : Fields) (earlier : List Value) (c : Enclosing)
    (next : Next) (then' : List Value → Reading B) (e : ReadError) (k i : ℕ) (s u : Option (List ℕ))
    → Hears (read_take l T earlier c next) k s (heard_error e) i u
    → Hears (read_fields l (Required T rest) earlier c next >>= then') k s (heard_error e) i u
take_error l T rest earlier c next then' e k i s u x =
    hears_same _ _ (heard_error e) k i s u (take_fields l T rest earlier c next then')
    (hears_error _ (then_take l rest earlier c then') e k i s u x)

pub take_ruled : {B : Type 0} (l : Limits) (rule : Rule) (T : TypeTerm) (rest : Fields) (earlier : List Value)
    (c : Enclosing) (p : ℕ) (n : Option (Tag × Bool)) (then' : List Value → Reading B) (value : Value) (h : Heard B)
    (k j i : ℕ) (s t u : Option (List ℕ))
    → Hears (read_take l T earlier c (next_at p n)) k s (Said value) j t
    → Hears (apply_rule p (rule earlier value) value >>= then_take l rest earlier c then') j t h i u
    → Hears (read_fields l (Required (RuledType rule T) rest) earlier c (next_at p n) >>= then') k s h i u
take_ruled l rule T rest earlier c p n then' value h k j i s t u x y =
    hears_same _ _ h k i s u (ruled_fields l rule T rest earlier c p n then')
    (hears_then _ (λ v. apply_rule p (rule earlier v) v >>= then_take l rest earlier c then') value h k j i s t u x y)

pub take_ruled_error : {B : Type 0} (l : Limits) (rule : Rule) (T : TypeTerm) (rest : Fields) (earlier : List Value)
    (c : Enclosing) (p : ℕ) (n : Option (Tag × Bool)) (then' : List Value → Reading B) (e : ReadError) (k i : ℕ)
    (s u : Option (List ℕ))
    → Hears (read_take l T earlier c (next_at p n)) k s (heard_error e) i u
    → Hears (read_fields l (Required (RuledType rule T) rest) earlier c (next_at p n) >>= then') k s (heard_error e) i u
take_ruled_error l rule T rest earlier c p n then' e k i s u x =
    hears_same _ _ (heard_error e) k i s u (ruled_fields l rule T rest earlier c p n then')
    (hears_error _ (λ v. apply_rule p (rule earlier v) v >>= then_take l rest earlier c then') e k i s u x)

pub optional : {B : Type 0} (l : Limits) (T : TypeTerm) (rest : Fields) (earlier : List Value) (c : Enclosing)
    (next : Next) (then' : List Value → Reading B) (value : Option Value) (next' : Next) (h : Heard B) (k j i : ℕ)
    (s t u : Option (List ℕ))
    → Hears (read_optional l T earlier c next) k s (Said (value, next')) j t
    → Hears
    (read_fields l rest (earlier ++ with_field value []) c next' >>= λ vs. then' (with_field value vs)) j t h i u
    → Hears (read_fields l (Optional T rest) earlier c next >>= then') k s h i u
optional l T rest earlier c next then' value next' h k j i s t u x y =
    hears_same _ _ h k i s u (optional_alike l T rest earlier c next then')
    (hears_then _ (then_optional l rest earlier c then') (value, next') h k j i s t u x y)

pub optional_error : {B : Type 0} (l : Limits) (T : TypeTerm) (rest : Fields) (earlier : List Value) (c : Enclosing)
    (next : Next) (then' : List Value → Reading B) (e : ReadError) (k i : ℕ) (s u : Option (List ℕ))
    → Hears (read_optional l T earlier c next) k s (heard_error e) i u
    → Hears (read_fields l (Optional T rest) earlier c next >>= then') k s (heard_error e) i u
optional_error l T rest earlier c next then' e k i s u x =
    hears_same _ _ (heard_error e) k i s u (optional_alike l T rest earlier c next then')
    (hears_error _ (then_optional l rest earlier c then') e k i s u x)

pub default : {B : Type 0} (l : Limits) (own : Tag) (octets : List ℕ) (T : TypeTerm) (rest : Fields)
    (earlier : List Value) (c : Enclosing) (next : Next) (then' : List Value → Reading B) (value : Option Value)
    (next' : Next) (h : Heard B) (k j i : ℕ) (s t u : Option (List ℕ))
    → Hears (read_optional l T earlier c next) k s (Said (value, next')) j t
    → Hears (read_fields l rest (earlier ++ with_field (but_default own octets value) []) c next'
    >>= λ vs. then' (with_field (but_default own octets value) vs)) j t h i u
    → Hears (read_fields l (Default own octets T rest) earlier c next >>= then') k s h i u
default l own octets T rest earlier c next then' value next' h k j i s t u x y =
    hears_same _ _ h k i s u (default_alike l own octets T rest earlier c next then')
    (hears_then _ (then_default l own octets rest earlier c then') (value, next') h k j i s t u x y)

pub default_error : {B : Type 0} (l : Limits) (own : Tag) (octets : List ℕ) (T : TypeTerm) (rest : Fields)
    (earlier : List Value) (c : Enclosing) (next : Next) (then' : List Value → Reading B) (e : ReadError) (k i : ℕ)
    (s u : Option (List ℕ))
    → Hears (read_optional l T earlier c next) k s (heard_error e) i u
    → Hears (read_fields l (Default own octets T rest) earlier c next >>= then') k s (heard_error e) i u
default_error l own octets T rest earlier c next then' e k i s u x =
    hears_same _ _ (heard_error e) k i s u (default_alike l own octets T rest earlier c next then')
    (hears_error _ (then_default l own octets rest earlier c then') e k i s u x)

pub ends : {B : Type 0} (l : Limits) (earlier : List Value) (c : Enclosing) (next : Next)
    (then' : List Value → Reading B) (h : Heard B) (k j i : ℕ) (s t u : Option (List ℕ))
    → Hears (read_end next) k s (Said tt) j t → Hears (then' []) j t h i u
    → Hears (read_fields l EndOfFields earlier c next >>= then') k s h i u
ends l earlier c next then' h k j i s t u x y =
    hears_same _ _ h k i s u (end_alike l earlier c next then') (hears_then _ (λ v. then' []) tt h k j i s t u x y)

pub ends_error : {B : Type 0} (l : Limits) (earlier : List Value) (c : Enclosing) (next : Next)
    (then' : List Value → Reading B) (e : ReadError) (k i : ℕ) (s u : Option (List ℕ))
    → Hears (read_end next) k s (heard_error e) i u
    → Hears (read_fields l EndOfFields earlier c next >>= then') k s (heard_error e) i u
ends_error l earlier c next then' e k i s u x =
    hears_same _ _ (heard_error e) k i s u (end_alike l earlier c next then')
    (hears_error _ (λ v. then' []) e k i s u x)

-- A choice by an earlier field, between types that begin alike.

or_self : (b : Bool) → (b || b) ≡ b
or_self true = refl
or_self false = refl

defined_first : (l : Limits) (path : List ℕ) (octets : List (List ℕ)) (first second : TypeTerm) (earlier : List Value)
    (c : Enclosing) (next : Next)
    → one_of (leaf_at path earlier) octets ≡ true → ((tag : Tag) → fits_tag second tag ≡ fits_tag first tag)
    → Alike (read_due l first earlier c next) (read_due l (DefinedByType path octets first second) earlier c next)
unfolding read_due read_type fits_tag choose
defined_first l path octets first second earlier c (ContainerEnds p) e same = λ k s. refl
defined_first l path octets first second earlier c (ElementStands p tag constructed) e same =
    rw (e, same tag, or_self (fits_tag first tag)) (λ k s. refl)

defined_second : (l : Limits) (path : List ℕ) (octets : List (List ℕ)) (first second : TypeTerm) (earlier : List Value)
    (c : Enclosing) (next : Next)
    → one_of (leaf_at path earlier) octets ≡ false → ((tag : Tag) → fits_tag second tag ≡ fits_tag first tag)
    → Alike (read_due l second earlier c next) (read_due l (DefinedByType path octets first second) earlier c next)
unfolding read_due read_type fits_tag choose
defined_second l path octets first second earlier c (ContainerEnds p) e same = λ k s. refl
defined_second l path octets first second earlier c (ElementStands p tag constructed) e same =
    rw (e, same tag, or_self (fits_tag first tag)) (λ k s. refl)

by_due : {B : Type 0} (l : Limits) (T T' : TypeTerm) (rest : Fields) (earlier : List Value) (c : Enclosing)
    (next : Next) (then' : List Value → Reading B)
    → Alike (read_due l T earlier c next) (read_due l T' earlier c next)
    → Alike (read_fields l (Required T rest) earlier c next >>= then')
    (read_fields l (Required T' rest) earlier c next >>= then')
by_due l T T' rest earlier c next then' e =
    let first = due_alike l T rest earlier c next then' in
    alike_then _ _ _ (λ k s. sym (first k s))
    (alike_then _ _ _ (bind_first _ _ (then_due l rest earlier c then') e) (due_alike l T' rest earlier c next then'))

pub due_first : {B : Type 0} (l : Limits) (path : List ℕ) (octets : List (List ℕ)) (first second : TypeTerm)
    (rest : Fields) (earlier : List Value) (c : Enclosing) (next : Next) (then' : List Value → Reading B) (h : Heard B)
    (k i : ℕ) (s u : Option (List ℕ))
    → one_of (leaf_at path earlier) octets ≡ true → ((tag : Tag) → fits_tag second tag ≡ fits_tag first tag)
    → Hears (read_fields l (Required first rest) earlier c next >>= then') k s h i u
    → Hears (read_fields l (Required (DefinedByType path octets first second) rest) earlier c next >>= then') k s h i u
due_first l path octets first second rest earlier c next then' h k i s u e same x =
    hears_same _ _ h k i s u
    (by_due l first _ rest earlier c next then' (defined_first l path octets first second earlier c next e same)) x

pub due_second : {B : Type 0} (l : Limits) (path : List ℕ) (octets : List (List ℕ)) (first second : TypeTerm)
    (rest : Fields) (earlier : List Value) (c : Enclosing) (next : Next) (then' : List Value → Reading B) (h : Heard B)
    (k i : ℕ) (s u : Option (List ℕ))
    → one_of (leaf_at path earlier) octets ≡ false → ((tag : Tag) → fits_tag second tag ≡ fits_tag first tag)
    → Hears (read_fields l (Required second rest) earlier c next >>= then') k s h i u
    → Hears (read_fields l (Required (DefinedByType path octets first second) rest) earlier c next >>= then') k s h i u
due_second l path octets first second rest earlier c next then' h k i s u e same x =
    hears_same _ _ h k i s u
    (by_due l second _ rest earlier c next then' (defined_second l path octets first second earlier c next e same)) x

-- What the call on a field owes, by what stands next.

pub take_missing : (l : Limits) (T : TypeTerm) (earlier : List Value) (c : Enclosing) (p : ℕ) (n : Option (Tag × Bool))
    (k : ℕ) (s : Option (List ℕ))
    → n ≡ None → Hears (read_take l T earlier c (next_at p n)) k s (Refused (fault p Missing)) k s
unfolding read_take
take_missing l T earlier c p n k s e = rw e (hears_fail Value (fault p Missing) k s)

pub take_wrong : (l : Limits) (T : TypeTerm) (earlier : List Value) (c : Enclosing) (p : ℕ) (n : Option (Tag × Bool))
    (t : Tag × Bool) (k : ℕ) (s : Option (List ℕ))
    → n ≡ Some t → fits_tag T t.0 ≡ false
    → Hears (read_take l T earlier c (next_at p n)) k s (Refused (fault p WrongTag)) k s
unfolding read_take
take_wrong l T earlier c p n t k s e f = rw e (hears_off _ _ _ k s f)

pub take_read : (l : Limits) (T : TypeTerm) (earlier : List Value) (c : Enclosing) (p : ℕ) (n : Option (Tag × Bool))
    (t : Tag × Bool) (h : Heard Value) (k i : ℕ) (s u : Option (List ℕ))
    → n ≡ Some t → fits_tag T t.0 ≡ true → Hears (read_type l T earlier c p t.0 t.1) k s h i u
    → Hears (read_take l T earlier c (next_at p n)) k s h i u
unfolding read_take
take_read l T earlier c p n t h k i s u e f x = rw e (hears_on _ _ _ h k i s u f x)

-- what was taken, and then what stands after it
pub take_then : (l : Limits) (T : TypeTerm) (earlier : List Value) (c : Enclosing) (next : Next)
    (h : Heard (Value × Next)) (k i : ℕ) (s u : Option (List ℕ))
    → Hears (read_take l T earlier c next >>= λ v. next_tag l c >>= λ n. Done (v, n)) k s h i u
    → Hears (read_due l T earlier c next) k s h i u
take_then l T earlier c next h k i s u x = hears_same _ _ h k i s u (take_alike l T earlier c next) x

pub optional_absent : (l : Limits) (T : TypeTerm) (earlier : List Value) (c : Enclosing) (p : ℕ)
    (n : Option (Tag × Bool)) (k : ℕ) (s : Option (List ℕ))
    → n ≡ None → Hears (read_optional l T earlier c (next_at p n)) k s (Said (None, next_at p n)) k s
unfolding read_optional
optional_absent l T earlier c p n k s e = rw e (hears_done _ k s)

pub optional_other : (l : Limits) (T : TypeTerm) (earlier : List Value) (c : Enclosing) (p : ℕ)
    (n : Option (Tag × Bool)) (t : Tag × Bool) (k : ℕ) (s : Option (List ℕ))
    → n ≡ Some t → fits_tag T t.0 ≡ false
    → Hears (read_optional l T earlier c (next_at p n)) k s (Said (None, next_at p n)) k s
unfolding read_optional
optional_other l T earlier c p n t k s e f = rw e (hears_second _ _ _ _ k k s s f (hears_done _ k s))

pub optional_read : (l : Limits) (T : TypeTerm) (earlier : List Value) (c : Enclosing) (p : ℕ) (n : Option (Tag × Bool))
    (t : Tag × Bool) (h : Heard (Option Value × Next)) (k i : ℕ) (s u : Option (List ℕ))
    → n ≡ Some t → fits_tag T t.0 ≡ true
    → Hears (read_type l T earlier c p t.0 t.1 >>= λ v. next_tag l c >>= λ next. Done (Some v, next)) k s h i u
    → Hears (read_optional l T earlier c (next_at p n)) k s h i u
unfolding read_optional
optional_read l T earlier c p n t h k i s u e f x = rw e (hears_first _ _ _ h k i s u f x)

pub end_extra : (p : ℕ) (n : Option (Tag × Bool)) (k : ℕ) (s : Option (List ℕ)) → is_some n ≡ true
    → Hears (read_end (next_at p n)) k s (Refused (fault p Extra)) k s
unfolding read_end
end_extra p None k s e = cc
end_extra p (Some t) k s e = hears_fail (Unit {0}) (fault p Extra) k s

pub end_here : (p : ℕ) (n : Option (Tag × Bool)) (h : Heard (Unit {0})) (k i : ℕ) (s u : Option (List ℕ))
    → is_some n ≡ false → Hears (Done tt) k s h i u → Hears (read_end (next_at p n)) k s h i u
unfolding read_end
end_here p None h k i s u e x = x
end_here p (Some t) h k i s u e x = cc

-- Into the container, by the tag.

pub begin_wrong : (l : Limits) (own : Tag) (c : Enclosing) (p : ℕ) (tag : Tag) (constructed : Bool) (e : ReadError)
    (k i : ℕ) (s u : Option (List ℕ))
    → Hears (require (same_tag own tag) (fault p WrongTag) (Done (tt {0}))) k s (heard_error e) i u
    → Hears (read_begin l own c p tag constructed) k s (heard_error e) i u
unfolding read_begin
begin_wrong l own c p tag constructed e k i s u x =
    let inside : Unit {0} → Reading (Enclosing × Next) =
    λ w. in_container l c p constructed Done >>= λ inside. next_tag l inside >>= λ next. Done (inside, next) in
    hears_same _ _ (heard_error e) k i s u
    (require_then (same_tag own tag) (fault p WrongTag) (Done tt) inside (inside tt) (done_then tt inside))
    (hears_error _ inside e k i s u x)

pub begin_in : (l : Limits) (own : Tag) (c : Enclosing) (p : ℕ) (tag : Tag) (constructed : Bool)
    (h : Heard (Enclosing × Next)) (k i : ℕ) (s u : Option (List ℕ))
    → same_tag own tag ≡ true
    → Hears
    (in_container l c p constructed Done >>= λ inside. next_tag l inside >>= λ next. Done (inside, next)) k s h i u
    → Hears (read_begin l own c p tag constructed) k s h i u
unfolding read_begin
begin_in l own c p tag constructed h k i s u e x = hears_on _ _ _ h k i s u e x

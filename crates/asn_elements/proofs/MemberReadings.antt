-- The plain reading of members, by the calls of a pull reader.
use Rattle.std.proofs.Common.{◌≡◌, ◌∙◌, ◌+◌, ◌*◌, ◌<◌, ◌≤◌, ◌++◌, Bool, true, false, List, [], ◌∷◌, ℕ, zero, suc, None, Some, Option, refl, sym, ap, subst, length, arith}
use Rattle.tlv_core.specs.Identifier.{Tag}
use Rattle.tlv_core.specs.Limits.{Limits}
use Rattle.tlv_core.specs.declared.fault.ReadError.{ReadError}
use Rattle.tlv_core.specs.declared.fault.ReadError.TheVariants as errors
use Rattle.tlv_core.specs.declared.source.Source.{Ghosts}
use Rattle.x690.specs.DerTexts.{der, texts_of}
use Rattle.x690.specs.Points.{Enclosing}
use Rattle.x690.specs.ReadContents.{add_member, all_members}
use Rattle.x690.specs.ReadHeaders.{ContainerEnds, DefiniteLength, ElementStands, Ended, IndefiniteLength, LengthForm, Next, each_member, entered, in_container, next_tag, read_length}
use Rattle.x690.specs.Reading.{Done, Reading, Where, choose, require, run, ◌>>=◌}
use Rattle.x690.specs.Reads.{Heard, Said}
use Rattle.x690.specs.Values.{Value}
use Rattle.ber_pull.specs.Calls.{read_entering, read_next}
use Rattle.ber_pull.specs.Hears.{Continues, Hears, heard_error}
use Rattle.ber_pull.specs.Standing.{Standing, after_next, closing, container_of, enclosing, first_of, is_ended, is_over, opening, place, used, with_ended, without_first}
use Rattle.ber_pull.specs.View.{Answers, SameSource, Uses, told}
use Rattle.ber_pull.specs.declared.pull.Pull.{Pull}
use Rattle.ber_pull.specs.declared.state.Container.{Container}
use Rattle.ber_pull.specs.declared.state.Container.TheVariants as open'
use Rattle.ber_pull.specs.declared.state.Given.{Given}
use Rattle.ber_pull.proofs.Hearing.{hears_as, hears_done, hears_error, hears_memory, hears_same, hears_then}
use Rattle.ber_pull.proofs.Nexts.{place_taken}
use Rattle.x690.proofs.Runs.{bind_assoc, bind_same}
use Rattle.x690_laws.proofs.LengthsOfReadTexts.{texts_pushed}

-- going in

into : {A : Type 0} (c : Enclosing) (body : Enclosing → Reading A) (x : LengthForm) (k : ℕ) (o : List ℕ)
    → run (Where (λ q. Done (entered c q x)) >>= body) k o ≡ run (Where (λ q. body (entered c q x))) k o
unfolding run ◌>>=◌
into c body x k o = refl

entering_is : {A : Type 0} (l : Limits) (c : Enclosing) (p : ℕ) (form : Bool) (body : Enclosing → Reading A) (k : ℕ)
    (o : List ℕ)
    → run (in_container l c p form Done >>= body) k o ≡ run (in_container l c p form body) k o
unfolding in_container require ◌>>=◌
entering_is l c p false body k o = refl
entering_is l c p true body k o =
    bind_assoc (read_length l c.nearest_end p) (λ x. Where (λ q. Done (entered c q x))) body k o
    ∙ bind_same (read_length l c.nearest_end p) _ _ (into c body) k o

pub enter_is : {A : Type 0} (s : Standing) (g : Given) (body : Enclosing → Reading A) (k : ℕ) (o : List ℕ)
    → run (read_entering s g >>= body) k o ≡ run (in_container s.limits (enclosing s) g.at g.constructed body) k o
unfolding read_entering
enter_is s g body k o = entering_is s.limits (enclosing s) g.at g.constructed body k o

pub opened : (form : LengthForm) (s : Standing) → is_ended (container_of form s) ≡ false
opened (DefiniteLength n) s = refl
opened IndefiniteLength s = refl

-- at the next member

not_over : (c : Container) (cs cs' : List Container) (s : Standing) → s.containers ≡ cs' → cs' ≡ c ∷ cs
    → is_ended c ≡ false → is_over s ≡ false
not_over c cs cs' s e f h = rw (e, f) h

pub next_is : (s : Standing) (c : Container) (cs : List Container) → s.given ≡ None → s.containers ≡ c ∷ cs
    → is_ended c ≡ false → read_next s ≡ next_tag s.limits (enclosing s)
unfolding read_next choose
next_is s c cs g e h = rw (g, not_over c cs s.containers s refl e h) refl

module _ (one : Enclosing → ℕ → Tag → Bool → Reading Value) where
  -- the members from here on
  abbrev pub rest : ℕ → Limits → Enclosing → List Value → Reading (Ended (List Value))
  rest fuel l c values = each_member (add_member (one c)) fuel l c values

  -- what a member is, and those after it
  abbrev behind : ℕ → Limits → Enclosing → List Value → Next → Reading (Ended (List Value))
  behind fuel l c values next = elim next [
    | ContainerEnds place ↦ Done (record { all = values; at = place })
    | ElementStands place tag constructed ↦
        add_member (one c) values place tag constructed >>= λ values'. rest fuel l c values'
  ]

  rest_is : (fuel : ℕ) (l : Limits) (c : Enclosing) (values : List Value)
      → next_tag l c >>= behind fuel l c values ≡ rest (suc fuel) l c values
  unfolding each_member
  rest_is fuel l c values = refl

  rest_ends : (fuel : ℕ) (l : Limits) (c : Enclosing) (values : List Value) (p k j : ℕ) (t u : Option (List ℕ))
      → Hears (next_tag l c) k t (Said (ContainerEnds p)) j u
      → Hears (rest (suc fuel) l c values) k t (Said (record { all = values; at = p })) j u
  rest_ends fuel l c values p k j t u x =
      hears_as _ _ _ _ _ _ _ (rest_is fuel l c values)
      (hears_then (next_tag l c) (behind fuel l c values) (ContainerEnds p) _ _ _ _ _ _ _ x (hears_done _ _ _))

  rest_error : (fuel : ℕ) (l : Limits) (c : Enclosing) (values : List Value) (e : ReadError) (k j : ℕ)
      (t u : Option (List ℕ))
      → Hears (next_tag l c) k t (heard_error e) j u → Hears (rest (suc fuel) l c values) k t (heard_error e) j u
  rest_error fuel l c values e k j t u x =
      hears_as _ _ _ _ _ _ _ (rest_is fuel l c values) (hears_error (next_tag l c) (behind fuel l c values) e _ _ _ _ x)

  rest_member : (fuel : ℕ) (l : Limits) (c : Enclosing) (values : List Value) (p : ℕ) (tag : Tag) (form : Bool)
      (v : Value) (h : Heard (Ended (List Value))) (k j i m : ℕ) (t u w z : Option (List ℕ))
      → Hears (next_tag l c) k t (Said (ElementStands p tag form)) j u → Hears (one c p tag form) j u (Said v) i w
      → Hears (rest fuel l c (values ++ (v ∷ []))) i w h m z → Hears (rest (suc fuel) l c values) k t h m z
  unfolding add_member
  rest_member fuel l c values p tag form v h k j i m t u w z x y r =
      hears_as _ _ _ _ _ _ _ (rest_is fuel l c values)
      (hears_then (next_tag l c) (behind fuel l c values) (ElementStands p tag form) _ _ _ _ _ _ _ x
      (hears_then (one c p tag form >>= λ value. Done (values ++ (value ∷ []))) (λ values'. rest fuel l c values')
      (values ++ (v ∷ [])) _ _ _ _ _ _ _
      (hears_then (one c p tag form) (λ value. Done (values ++ (value ∷ []))) v _ _ _ _ _ _ _ y (hears_done _ _ _)) r))

  rest_stops : (fuel : ℕ) (l : Limits) (c : Enclosing) (values : List Value) (p : ℕ) (tag : Tag) (form : Bool)
      (e : ReadError) (k j i : ℕ) (t u w : Option (List ℕ))
      → Hears (next_tag l c) k t (Said (ElementStands p tag form)) j u
      → Hears (one c p tag form) j u (heard_error e) i w → Hears (rest (suc fuel) l c values) k t (heard_error e) i w
  unfolding add_member
  rest_stops fuel l c values p tag form e k j i t u w x y =
      hears_as _ _ _ _ _ _ _ (rest_is fuel l c values)
      (hears_then (next_tag l c) (behind fuel l c values) (ElementStands p tag form) _ _ _ _ _ _ _ x
      (hears_error (one c p tag form >>= λ value. Done (values ++ (value ∷ [])))
      (λ values'. rest fuel l c values') e _ _ _ _
      (hears_error (one c p tag form) (λ value. Done (values ++ (value ∷ []))) e _ _ _ _ y)))

  -- Inside a container: these members are read.
  pub record Inside {R : Type 0} {s : Ghosts R} (p : Reading (Ended (List Value))) (start now : Pull R s)
      (values : List Value) : Type 0 where
    pub container : Container
    pub containers : now.state.containers ≡ container ∷ start.state.containers
    pub still : is_ended container ≡ false
    pub none_given : now.state.given ≡ None
    pub fine : now.state.error ≡ None
    pub same_source : SameSource start now
    pub limits : now.state.limits ≡ start.state.limits
    pub forward : start.state.taken ≤ now.state.taken
    pub fuel : ℕ
    pub enough : start.state.limits.octets < fuel + now.state.taken
    pub reads : Continues p start.state.taken (told start)
        (rest fuel start.state.limits (enclosing now.state) values) now.state.taken (told now)
    pub short : length (texts_of values) ≤ 2 * now.state.taken
    pub below : length (texts_of values) < 4294967296

  pub inside_start : {R : Type 0} {s : Ghosts R} (start now : Pull R s) (g : Given) (form : LengthForm)
      → start.state.given ≡ Some g → now.state.error ≡ None → SameSource start now
      → now.state ≡ opening form (used now.state.taken start.state) → start.state.taken < now.state.taken
      → Answers start now (read_entering start.state g) (Said (enclosing now.state))
      → Inside (all_members start.state.limits (enclosing start.state) g.at g.constructed one) start now []
  unfolding all_members
  inside_start {R} {s} start now g form is fine same stands more reads =
      let l = start.state.limits in
      let taken : 0 < now.state.taken = omega (arith, more) in
      record {
        container = container_of form (used now.state.taken start.state);
        containers = ap (λ z. z.containers) stands;
        still = opened form (used now.state.taken start.state);
        none_given = ap (λ z. z.given) stands;
        fine = fine;
        same_source = same;
        limits = ap (λ z. z.limits) stands;
        forward = omega (arith, more);
        fuel = l.octets;
        enough = omega arith;
        reads = record {
          rest = λ h i u x.
              hears_same _ _ _ _ _ _ _ (enter_is start.state g (λ c. rest l.octets l c []))
              (hears_then (read_entering start.state g) (λ c. rest l.octets l c [])
              (enclosing now.state) _ _ _ _ _ _ _ reads x);
        };
        short = omega arith;
        below = omega arith;
      }

  pub inside_never : {R : Type 0} {s : Ghosts R} (start mid : Pull R s) (g : Given) (e : ReadError)
      → Answers start mid (read_entering start.state g) (heard_error e)
      → Answers start mid (all_members start.state.limits (enclosing start.state) g.at g.constructed one)
      (heard_error e)
  unfolding all_members
  inside_never start mid g e x =
      hears_same _ _ _ _ _ _ _ (enter_is start.state g (λ c. rest start.state.limits.octets start.state.limits c []))
      (hears_error (read_entering start.state g)
      (λ c. rest start.state.limits.octets start.state.limits c []) e _ _ _ _ x)

  module _ {R : Type 0} {s : Ghosts R} (p : Reading (Ended (List Value))) (start now : Pull R s) (values : List Value)
      (i : Inside p start now values) where
    some_fuel : (n fuel taken : ℕ) → n < fuel + taken → taken ≤ n → (f : ℕ) × (fuel ≡ suc f)
    some_fuel n zero taken h w = absurd (omega arith)
    some_fuel n (suc f) taken h w = (f, refl)

    -- the members from here on, one of them apart
    one_left : (f : ℕ) × (i.fuel ≡ suc f)
    one_left =
        let e : now.state.limits.octets ≡ start.state.limits.octets = ap (λ z. z.octets) i.limits in
        some_fuel start.state.limits.octets i.fuel now.state.taken i.enough (let w = now.within in omega arith)

    -- what is answered from here on answers the whole
    go_on : (h : Heard (Ended (List Value))) (k : ℕ) (u : Option (List ℕ))
        → Hears (rest (suc one_left.0) start.state.limits (enclosing now.state) values) now.state.taken (told now) h k u
        → Hears p start.state.taken (told start) h k u
    go_on h k u x =
        i.reads.rest h k u
        (subst (λ f. Hears (rest f start.state.limits (enclosing now.state) values) now.state.taken (told now) h k u)
        (sym one_left.1) x)

    -- the next identifier, by its own reading
    next_here : read_next now.state ≡ next_tag start.state.limits (enclosing now.state)
    next_here =
        next_is now.state i.container start.state.containers i.none_given i.containers i.still
        ∙ ap (λ l. next_tag l (enclosing now.state)) i.limits

    pub inside_here : (mid : Pull R s) (h : Heard Next) → Answers now mid (read_next now.state) h
        → Answers now mid (next_tag start.state.limits (enclosing now.state)) h
    inside_here mid h x = hears_as _ _ _ _ _ _ _ next_here x

    pub inside_ends : (mid : Pull R s) (place : ℕ) → Answers now mid (read_next now.state) (Said (ContainerEnds place))
        → Answers start mid p (Said (record { all = values; at = place }))
    inside_ends mid place x =
        go_on _ _ _ (rest_ends one_left.0 start.state.limits (enclosing now.state) values place _ _ _ _
        (hears_as _ _ _ _ _ _ _ next_here x))

    pub inside_error : (mid : Pull R s) (e : ReadError) → Answers now mid (read_next now.state) (heard_error e)
        → Answers start mid p (heard_error e)
    inside_error mid e x =
        go_on _ _ _ (rest_error one_left.0 start.state.limits (enclosing now.state) values e _ _ _ _
        (hears_as _ _ _ _ _ _ _ next_here x))

    pub inside_stops : (mid new : Pull R s) (place : ℕ) (tag : Tag) (form : Bool) (e : ReadError)
        → Answers now mid (read_next now.state) (Said (ElementStands place tag form))
        → Answers mid new (one (enclosing now.state) place tag form) (heard_error e)
        → Answers start new p (heard_error e)
    inside_stops mid new place tag form e x y =
        go_on _ _ _ (rest_stops one_left.0 start.state.limits (enclosing now.state) values place tag form e _ _ _ _ _ _
        (hears_as _ _ _ _ _ _ _ next_here x) y)

    pub inside_memory : (new : Pull R s) (e : ReadError) → e ≡ errors.Memory → new.state.taken ≡ now.state.taken
        → told new ≡ told now → Answers start new p (heard_error e)
    inside_memory new e x k t = i.reads.rest _ _ _ (hears_memory _ e _ _ _ _ x k t)

    pub inside_more : (mid new : Pull R s) (place : ℕ) (tag : Tag) (form : Bool) (v : Value)
        → Answers now mid (read_next now.state) (Said (ElementStands place tag form)) → SameSource now mid
        → mid.state ≡ after_next mid.state.taken (Some (tag, form)) now.state → now.state.taken < mid.state.taken
        → Answers mid new (one (enclosing now.state) place tag form) (Said v) → SameSource mid new → Uses mid new
        → new.state.error ≡ None → mid.state.taken ≤ new.state.taken
        → length (der v) + 2 * now.state.taken ≤ 2 * new.state.taken → start.state.limits.octets ≤ 2147483647
        → Inside p start new (values ++ (v ∷ []))
    inside_more mid new place tag form v x same stands more y same' uses fine on short most =
        let f = one_left.0 in
        let n = one_left.1 in
        let around : enclosing new.state ≡ enclosing now.state = ap enclosing uses ∙ ap enclosing stands in
        let t = texts_pushed values v in
        record {
          container = i.container;
          containers = ap (λ z. z.containers) uses ∙ (ap (λ z. z.containers) stands ∙ i.containers);
          still = i.still;
          none_given = ap (λ z. z.given) uses;
          fine = fine;
          same_source = (same'.0 ∙ (same.0 ∙ i.same_source.0), same'.1 ∙ (same.1 ∙ i.same_source.1));
          limits = ap (λ z. z.limits) uses ∙ (ap (λ z. z.limits) stands ∙ i.limits);
          forward = omega (arith, i.forward);
          fuel = f;
          enough = omega (arith, i.enough);
          reads = record {
            rest = λ h k u z.
                go_on h k u (rest_member f start.state.limits
                (enclosing now.state) values place tag form v h _ _ _ _ _ _ _ _ (hears_as _ _ _ _ _ _ _ next_here x) y
                (subst (λ c. Hears (rest f start.state.limits c (values ++ (v ∷ []))) new.state.taken (told new) h k u)
                around z));
          };
          short = omega (arith, i.short);
          below =
              let w = new.within in
              let e : new.state.limits.octets ≡ start.state.limits.octets =
              ap (λ z. z.limits.octets) uses ∙ (ap (λ z. z.limits.octets) stands ∙ ap (λ z. z.octets) i.limits) in
              omega (arith, i.short);
        }

-- what a call reads of the element that was given last, by the point where its identifier began
pub member_reads : {R : Type 0} {s : Ghosts R} (F : Limits → Enclosing → ℕ → Tag → Bool → Reading Value) (l : Limits)
    (now mid new : Pull R s) (tag : Tag) (form : Bool) (h : Heard Value)
    → now.state.given ≡ None → now.state.limits ≡ l
    → mid.state ≡ after_next mid.state.taken (Some (tag, form)) now.state
    → Answers mid new (F mid.state.limits (enclosing mid.state) now.state.taken tag form) h
    → Answers mid new (F l (enclosing now.state) (place now.state) tag form) h
member_reads F l now mid new tag form h none limits stands x =
    hears_as _ _ _ _ _ _ _
    (ap (λ z. F z.limits (enclosing z) now.state.taken tag form) stands
    ∙ (ap (λ z. F z (enclosing now.state) now.state.taken tag form) limits
    ∙ ap (λ p. F l (enclosing now.state) p tag form) (sym (place_taken now.state none))))
    x

-- leaving

with_ended_some : (c : Container) (cs : List Container) → (d : Container) × (with_ended (Some c) (c ∷ cs) ≡ d ∷ cs)
with_ended_some (open'.Definite end) cs = (open'.Definite end, refl)
with_ended_some (open'.Indefinite around) cs = (open'.Ended around, refl)
with_ended_some (open'.Ended around) cs = (open'.Ended around, refl)

-- a container is open where its end was met
pub still_open : (s t : Standing) (c : Container) (cs : List Container) (k : ℕ) → s.containers ≡ c ∷ cs
    → t ≡ after_next k None s → t.containers ≡ [] → ⊥
still_open s t c cs k e stands h =
    let w = with_ended_some c cs in
    let z : t.containers ≡ w.0 ∷ cs = ap (λ z. z.containers) stands ∙ (ap (λ z. with_ended (first_of z) z) e ∙ w.1) in
    let e' = ap length (sym z ∙ h) in absurd (omega (arith, e'))

-- and is the last one that is left
pub left : (s t u : Standing) (c : Container) (cs : List Container) (k : ℕ) → s.containers ≡ c ∷ cs
    → t ≡ after_next k None s → u ≡ closing t → u.containers ≡ cs
left s t u c cs k e stands closes =
    let w = with_ended_some c cs in
    ap (λ z. z.containers) closes
    ∙ ap without_first (ap (λ z. z.containers) stands ∙ (ap (λ z. with_ended (first_of z) z) e ∙ w.1))

-- the element is read, and all else is as it was
pub all_used : (s t : Standing) → s.limits ≡ t.limits → s.given ≡ None → s.containers ≡ t.containers → s.error ≡ t.error
    → s ≡ used s.taken t
all_used s t l g c e = λ i. record { limits = l i; taken = s.taken; given = g i; containers = c i; error = e i }

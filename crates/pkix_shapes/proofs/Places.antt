-- A fault of an element stands where the element begins, or after that.
use Rattle.std.proofs.Common.{◌≡◌, ◌≤◌, ◌+◌, Bool, List, Option, [], arith, length, subst, suc, sym, true, zero, ℕ, inl, inr, ap}
use Rattle.tlv_core.specs.Identifier.{Tag}
use Rattle.tlv_core.specs.Limits.{Limits}
use Rattle.tlv_core.specs.declared.fault.Fault.{Fault}
use Rattle.tlv_core.specs.declared.reason.Reason.{Reason}
use Rattle.tlv_core.specs.declared.reason.Reason.TheVariants.{EmptySet, Missing}
use Rattle.x690.specs.Contents.{LeafKind, OctetString}
use Rattle.x690.specs.ContentsFaults.{After, LeafStops, MemberStands, OpenStops, PrimitiveStops, SegmentStands, SegmentStops, SegmentsStop, StopsHere}
use Rattle.x690.specs.HeaderFaults.{NoOctet, Opens, StopsInForm, StopsInLength, StopsInTag, FormStands}
use Rattle.x690.specs.Points.{DefiniteLength, Enclosing, IndefiniteLength, LengthForm, fault}
use Rattle.x690.specs.Stops.{StopsBehind, StopsFields, MembersStop}
use Rattle.x690.specs.TypeTerms.{ChoiceType, ContainingType, Default, DefinedByType, EndOfFields, Fields, LeafType, OpenType, Optional, RefusedType, Required, RuledType, SequenceOfType, SequenceType, SetOfType, TypeTerm}
use Rattle.x690.specs.Values.{Value}
use Rattle.pkix_shapes.specs.PlaceLaws.{FaultsAreInside}

-- a fault at a place
at_place : (low place : ℕ) (why : Reason) (found : Fault) → low ≤ place → found ≡ fault place why → low ≤ found.at
at_place low place why found h e = subst (λ f. low ≤ f.at) (sym e) h

no_octet : (limits : Limits) (end : Option ℕ) (low place here : ℕ) (octets : List ℕ) (found : Fault)
    → low ≤ place → low ≤ here → NoOctet limits end place here octets found → low ≤ found.at
no_octet limits end low place here octets found h g x = elim x [
  | inl y ↦ at_place low place _ found h y.1
  | inr y ↦ elim y [
    | inl z ↦ at_place low place _ found h z.2
    | inr z ↦ at_place low here _ found g z.2
  ]
]

in_length : (limits : Limits) (end : Option ℕ) (low place : ℕ) (constructed : Bool) (here : ℕ) (octets : List ℕ)
    (found : Fault)
    → low ≤ place → low ≤ here → StopsInLength limits end place constructed here octets found → low ≤ found.at
in_length limits end low place constructed here octets found h g x = elim x [
  | inl y ↦ no_octet limits end low place here octets found h g y
  | inr y ↦ elim y [
    | inl z ↦ at_place low place _ found h z.3.1
    | inr z ↦ elim z [
      | inl w ↦
          let g' : low ≤ here + 1 + length w.1 = omega arith in
          no_octet limits end low place (here + 1 + length w.1) w.2 found h g' w.6
      | inr w ↦ elim w.5 [
        | inl v ↦ at_place low place _ found h v.1
        | inr v ↦ at_place low place _ found h v.2
      ]
    ]
  ]
]

in_form : (limits : Limits) (enclosing : Enclosing) (low place : ℕ) (constructed : Bool) (here : ℕ) (octets : List ℕ)
    (found : Fault)
    → low ≤ place → low ≤ here → StopsInForm limits enclosing place constructed here octets found → low ≤ found.at
in_form limits enclosing low place constructed here octets found h g x = elim x [
  | inl y ↦ at_place low place _ found h y.1
  | inr y ↦ in_length limits _ low place _ here octets found h g y.1
]

in_tag : (limits : Limits) (enclosing : Enclosing) (low place : ℕ) (octets : List ℕ) (found : Fault)
    → low ≤ place → StopsInTag limits enclosing place octets found → low ≤ found.at
in_tag limits enclosing low place octets found h x = elim x.1 [
  | inl y ↦ no_octet limits _ low place place octets found h h y
  | inr y ↦ elim y.3 [
    | inl z ↦ elim z.1 [
      | inl w ↦ at_place low place _ found h w.1
      | inr w ↦ elim w [
        | inl v ↦
            let g : low ≤ place + 1 = omega arith in
            no_octet limits _ low place (place + 1) _ found h g v.1
        | inr v ↦ at_place low place _ found h v.1.3.1
      ]
    ]
    | inr z ↦ elim z.1 [
      | inl w ↦ at_place low place _ found h w.1
      | inr w ↦ elim w [
        | inl v ↦ elim v.2.6 [
          | inl u ↦
              let g : low ≤ place + 1 + length v.2.0 = omega arith in
              no_octet limits _ low place (place + 1 + length v.2.0) _ found h g u
          | inr u ↦ at_place low place _ found h u.3.1
        ]
        | inr v ↦ at_place low place _ found h v.6
      ]
    ]
  ]
]

-- what holds after elements holds after where they begin
after : {State : Type 0} (Stand : State → ℕ → List ℕ → State → ℕ → List ℕ → Type 0)
    (Then : State → ℕ → List ℕ → Type 0) (low : ℕ) (Goal : Type 0)
    → ((s : State) (p : ℕ) (o : List ℕ) → low ≤ p → Then s p o → Goal)
    → (n : ℕ) (s : State) (p : ℕ) (o : List ℕ) → low ≤ p → After Stand Then n s p o → Goal
unfolding After
after Stand Then low Goal goal zero s p o h x = goal s p o h x
after Stand Then low Goal goal (suc n) s p o h x =
    let g : low ≤ p + x.1 = omega arith in after Stand Then low Goal goal n x.0 (p + x.1) x.2 g x.4

form_far : (limits : Limits) (end : Option ℕ) (here : ℕ) (octets : List ℕ) (form : LengthForm) (start : ℕ)
    (rest : List ℕ) → FormStands limits end here octets form start rest → here ≤ start
form_far limits end here octets (DefiniteLength number) start rest x = let e = x.behind_is in omega arith
form_far limits end here octets IndefiniteLength start rest x = let e = x.1 in omega arith

opens_far : (limits : Limits) (enclosing : Enclosing) (constructed : Bool) (here : ℕ) (octets : List ℕ)
    (inside : Enclosing) (start : ℕ) (rest : List ℕ)
    → Opens limits enclosing constructed here octets inside start rest → here ≤ start
opens_far limits enclosing constructed here octets inside start rest x =
    form_far limits enclosing.nearest_end here octets x.1 start rest x.2

-- what is at a place stops in its identifier, or after it
here_stops : (limits : Limits) (enclosing : Enclosing) (AfterIdentifier : ℕ → Tag → Bool → ℕ → List ℕ → Fault → Type 0)
    (low place : ℕ) (octets : List ℕ) (found : Fault)
    → low ≤ place
    → ((tag : Tag) (form : Bool) (start : ℕ) (rest : List ℕ) → low ≤ start
    → AfterIdentifier place tag form start rest found
    → low ≤ found.at)
    → StopsHere limits enclosing AfterIdentifier place octets found → low ≤ found.at
here_stops limits enclosing AfterIdentifier low place octets found h goal x = elim x [
  | inl y ↦ in_tag limits enclosing low place octets found h y
  | inr y ↦
      let e = y.4.behind_is in
      let g : low ≤ y.2 = omega arith in
      goal y.0 y.1 y.2 y.3 g y.5
]

primitive : (limits : Limits) (enclosing : Enclosing) (low place here : ℕ) (octets : List ℕ) (Bad : List ℕ → Type 0)
    (found : Fault)
    → low ≤ place → low ≤ here → ((contents : List ℕ) → Bad contents → low ≤ found.at)
    → PrimitiveStops limits enclosing place here octets Bad found → low ≤ found.at
primitive limits enclosing low place here octets Bad found h g bad x = elim x [
  | inl y ↦ in_length limits _ low place _ here octets found h g y
  | inr y ↦ elim y [
    | inl z ↦
        let e = z.3.behind_is in
        let k : low ≤ z.1 + length z.2 = omega arith in
        at_place low (z.1 + length z.2) _ found k z.5
    | inr z ↦ bad z.0 z.4
  ]
]

segments : (Segment : Enclosing → List (List ℕ) → ℕ → Tag → Bool → ℕ → List ℕ → Fault → Type 0) (limits : Limits)
    (number : ℕ) (enclosing : Enclosing) (before : List (List ℕ)) (low place here : ℕ) (octets : List ℕ)
    (found : Fault)
    → low ≤ place → low ≤ here
    → ((inside : Enclosing) (before' : List (List ℕ)) (place' : ℕ) (tag : Tag) (form : Bool) (start : ℕ) (rest : List ℕ)
    → low ≤ place' → low ≤ start → Segment inside before' place' tag form start rest found → low ≤ found.at)
    → SegmentsStop Segment limits number enclosing before place here octets found → low ≤ found.at
segments Segment limits number enclosing before low place here octets found h g goal x = elim x [
  | inl y ↦ in_length limits _ low place _ here octets found h g y
  | inr y ↦
      let e = opens_far limits enclosing true here octets y.0 y.1 y.2 y.3 in
      let k : low ≤ y.1 = omega arith in
      after (SegmentStands limits y.0 number) _ low (low ≤ found.at)
      (λ s p o l z. here_stops limits y.0 (Segment y.0 s) low p o found l
      (λ tag form start rest m w. goal y.0 s p tag form start rest l m w) z) y.4.0 before y.1 y.2 k y.4.1
]

segment : (deep : ℕ) (limits : Limits) (number : ℕ) (enclosing : Enclosing) (before : List (List ℕ)) (low place : ℕ)
    (tag : Tag) (constructed : Bool) (here : ℕ) (octets : List ℕ) (found : Fault)
    → low ≤ place → low ≤ here
    → SegmentStops deep limits number enclosing before place tag constructed here octets found → low ≤ found.at
unfolding SegmentStops
segment zero limits number enclosing before low place tag constructed here octets found h g x = absurd x
segment (suc deep) limits number enclosing before low place tag constructed here octets found h g x = elim x [
  | inl y ↦ at_place low place _ found h y.1
  | inr y ↦ elim y [
    | inl z ↦
        primitive limits enclosing low place here octets _ found h g
        (λ contents bad. at_place low place _ found h bad.2) z.2
    | inr z ↦
        segments (λ inside before'. SegmentStops deep limits number inside before') limits number enclosing before low
        place here octets found h g
        (λ inside before' p tag' form start rest l m w.
        segment deep limits number inside before' low p tag' form start rest found l m w) z.2
  ]
]

leaf : (limits : Limits) (enclosing : Enclosing) (kind : LeafKind) (low place : ℕ) (tag : Tag) (constructed : Bool)
    (here : ℕ) (octets : List ℕ) (found : Fault)
    → low ≤ place → low ≤ here → LeafStops limits enclosing kind place tag constructed here octets found
    → low ≤ found.at
leaf limits enclosing kind low place tag constructed here octets found h g x = elim x [
  | inl y ↦
      primitive limits enclosing low place here octets _ found h g (λ contents bad. at_place low place _ found h bad.1)
      y.1
  | inr y ↦ elim y [
    | inl z ↦ at_place low place _ found h z.2
    | inr z ↦ elim z.3 [
      | inl w ↦
          segments (λ inside before'. SegmentStops limits.depth limits z.1 inside before') limits z.1 enclosing [] low
          place here octets found h g
          (λ inside before' p tag' form start rest l m v.
          segment limits.depth limits z.1 inside before' low p tag' form start rest found l m v) w
      | inr w ↦ at_place low place _ found h w.1.4.1
    ]
  ]
]

open_value : (deep : ℕ) (limits : Limits) (enclosing : Enclosing) (low place : ℕ) (tag : Tag) (constructed : Bool)
    (here : ℕ) (octets : List ℕ) (found : Fault)
    → low ≤ place → low ≤ here → OpenStops deep limits enclosing place tag constructed here octets found
    → low ≤ found.at
unfolding OpenStops
open_value zero limits enclosing low place tag constructed here octets found h g x = absurd x
open_value (suc deep) limits enclosing low place tag constructed here octets found h g x = elim x [
  | inl y ↦ at_place low place _ found h y.1
  | inr y ↦ elim y [
    | inl z ↦ leaf limits enclosing z.0 low place tag constructed here octets found h g z.2
    | inr z ↦ elim z [
      | inl w ↦ primitive limits enclosing low place here octets _ found h g (λ contents bad. absurd bad) w.2
      | inr w ↦ elim w.1 [
        | inl v ↦ in_form limits enclosing low place constructed here octets found h g v
        | inr v ↦
            let e = opens_far limits enclosing constructed here octets v.0 v.1 v.2 v.3 in
            let k : low ≤ v.1 = omega arith in
            after (MemberStands limits OpenType v.0) _ low (low ≤ found.at)
            (λ s p o l u. here_stops limits v.0 (OpenStops deep limits v.0) low p o found l
            (λ tag' form start rest m t.
            open_value deep limits v.0 low p tag' form start rest found l m t) u) v.4.0 tt v.1 v.2 k v.4.1
      ]
    ]
  ]
]

members : (limits : Limits) (type : TypeTerm) (least : ℕ) (enclosing : Enclosing) (low place : ℕ) (constructed : Bool)
    (here : ℕ) (octets : List ℕ) (Member : Enclosing → ℕ → Tag → Bool → ℕ → List ℕ → Fault → Type 0)
    (too_few : ℕ → Fault) (found : Fault)
    → low ≤ place → low ≤ here
    → ((inside : Enclosing) (place' : ℕ) (tag : Tag) (form : Bool) (start : ℕ) (rest : List ℕ) → low ≤ place'
    → low ≤ start → Member inside place' tag form start rest found → low ≤ found.at)
    → ((end : ℕ) → low ≤ end → found ≡ too_few end → low ≤ found.at)
    → MembersStop limits type least enclosing place constructed here octets Member too_few found → low ≤ found.at
members limits type least enclosing low place constructed here octets Member too_few found h g goal few x = elim x [
  | inl y ↦ in_form limits enclosing low place constructed here octets found h g y
  | inr y ↦
      let e = opens_far limits enclosing constructed here octets y.0 y.1 y.2 y.3 in
      let k : low ≤ y.1 = omega arith in
      elim y.4 [
        | inl z ↦
            after (MemberStands limits type y.0) _ low (low ≤ found.at)
            (λ s p o l w. here_stops limits y.0 (Member y.0) low p o found l
            (λ tag form start rest m v. goal y.0 p tag form start rest l m v) w) z.0 tt y.1 y.2 k z.1
        | inr z ↦
            after (MemberStands limits type y.0) _ low (low ≤ found.at) (λ s p o l w. few p l w.1) z.0 tt y.1 y.2 k z.2
      ]
]

mutual
  unfolding StopsBehind StopsFields

  lies_inside : (limits : Limits) (type : TypeTerm) (earlier : List Value) (enclosing : Enclosing) (low place : ℕ)
      (tag : Tag) (constructed : Bool) (here : ℕ) (octets : List ℕ) (found : Fault)
      → low ≤ place → low ≤ here
      → StopsBehind limits type earlier enclosing place tag constructed here octets found → low ≤ found.at
  lies_inside limits (LeafType own kind) e c low p t f k o found h g x = elim x [
    | inl y ↦ at_place low p _ found h y.1
    | inr y ↦ leaf limits c kind low p t f k o found h g y.1
  ]
  lies_inside limits OpenType e c low p t f k o found h g x =
      open_value limits.depth limits c low p t f k o found h g x
  lies_inside limits (SequenceOfType own least type) e c low p t f k o found h g x = elim x [
    | inl y ↦ at_place low p _ found h y.1
    | inr y ↦
        members limits type least c low p f k o (λ inside. StopsBehind limits type [] inside) (λ end. fault end Missing)
        found h g
        (λ inside p' t' f' start rest l m v. lies_inside limits type [] inside low p' t' f' start rest found l m v)
        (λ end l w. at_place low end _ found l w) y.1
  ]
  lies_inside limits (SetOfType own least type) e c low p t f k o found h g x = elim x [
    | inl y ↦ at_place low p _ found h y.1
    | inr y ↦
        members limits type least c low p f k o (λ inside. StopsBehind limits type [] inside) (λ end. fault p EmptySet)
        found h g
        (λ inside p' t' f' start rest l m v. lies_inside limits type [] inside low p' t' f' start rest found l m v)
        (λ end l w. at_place low p _ found h w) y.1
  ]
  lies_inside limits (SequenceType own fields) e c low p t f k o found h g x = elim x [
    | inl y ↦ at_place low p _ found h y.1
    | inr y ↦ elim y.1 [
      | inl z ↦ in_form limits c low p f k o found h g z
      | inr z ↦
          let q = opens_far limits c f k o z.0 z.1 z.2 z.3 in
          let l : low ≤ z.1 = omega arith in
          fields_inside limits fields [] z.0 low z.1 z.2 found l z.4
    ]
  ]
  lies_inside limits (ContainingType own rule type) e c low p t f k o found h g x = elim x [
    | inl y ↦ at_place low p _ found h y.1
    | inr y ↦ elim y.1 [
      | inl z ↦ leaf limits c OctetString low p t f k o found h g z
      | inr z ↦ elim z.6 [
        | inl w ↦ subst (λ a. low ≤ a) (sym (ap (λ a. a.at) w.2)) h
        | inr w ↦ elim w [
          | inl v ↦ subst (λ a. low ≤ a) (sym (ap (λ a. a.at) v.5)) h
          | inr v ↦ at_place low p _ found h v.5
        ]
      ]
    ]
  ]
  lies_inside limits (RuledType rule type) e c low p t f k o found h g x = elim x [
    | inl y ↦ lies_inside limits type e c low p t f k o found h g y
    | inr y ↦ at_place low p _ found h y.8
  ]
  lies_inside limits (RefusedType own why) e c low p t f k o found h g x = elim x [
    | inl y ↦ at_place low p _ found h y.1
    | inr y ↦ at_place low p _ found h y.1
  ]
  lies_inside limits (DefinedByType path identifiers first second) e c low p t f k o found h g x = elim x [
    | inl y ↦ lies_inside limits first e c low p t f k o found h g y.1
    | inr y ↦ lies_inside limits second e c low p t f k o found h g y.1
  ]
  lies_inside limits (ChoiceType first second) e c low p t f k o found h g x = elim x [
    | inl y ↦ lies_inside limits first e c low p t f k o found h g y.1
    | inr y ↦ lies_inside limits second e c low p t f k o found h g y.1
  ]

  fields_inside : (limits : Limits) (fields : Fields) (earlier : List Value) (enclosing : Enclosing) (low place : ℕ)
      (octets : List ℕ) (found : Fault)
      → low ≤ place → StopsFields limits fields earlier enclosing place octets found → low ≤ found.at
  fields_inside limits EndOfFields e c low p o found h x = elim x [
    | inl y ↦ in_tag limits c low p o found h y
    | inr y ↦ at_place low p _ found h y.5
  ]
  fields_inside limits (Required type fields) e c low p o found h x = elim x [
    | inl y ↦ in_tag limits c low p o found h y
    | inr y ↦ elim y [
      | inl z ↦ at_place low p _ found h z.1
      | inr z ↦ elim z [
        | inl w ↦ elim w.5 [
          | inl v ↦ at_place low p _ found h v.1
          | inr v ↦
              let q = w.4.behind_is in
              let l : low ≤ w.2 = omega arith in
              lies_inside limits type e c low p w.0 w.1 w.2 w.3 found h l v.1
        ]
        | inr w ↦
            let l : low ≤ p + w.1 = omega arith in
            fields_inside limits fields _ c low (p + w.1) w.2 found l w.4
      ]
    ]
  ]
  fields_inside limits (Optional type fields) e c low p o found h x = elim x [
    | inl y ↦ in_tag limits c low p o found h y
    | inr y ↦ elim y [
      | inl z ↦ fields_inside limits fields e c low p o found h z.1
      | inr z ↦ elim z [
        | inl w ↦ elim w.5 [
          | inl v ↦ fields_inside limits fields e c low p o found h v.1
          | inr v ↦
              let q = w.4.behind_is in
              let l : low ≤ w.2 = omega arith in
              lies_inside limits type e c low p w.0 w.1 w.2 w.3 found h l v.1
        ]
        | inr w ↦
            let l : low ≤ p + w.1 = omega arith in
            fields_inside limits fields _ c low (p + w.1) w.2 found l w.4
      ]
    ]
  ]
  fields_inside limits (Default own contents type fields) e c low p o found h x = elim x [
    | inl y ↦ in_tag limits c low p o found h y
    | inr y ↦ elim y [
      | inl z ↦ fields_inside limits fields e c low p o found h z.1
      | inr z ↦ elim z [
        | inl w ↦ elim w.5 [
          | inl v ↦ fields_inside limits fields e c low p o found h v.1
          | inr v ↦
              let q = w.4.behind_is in
              let l : low ≤ w.2 = omega arith in
              lies_inside limits type e c low p w.0 w.1 w.2 w.3 found h l v.1
        ]
        | inr w ↦
            let l : low ≤ p + w.1 = omega arith in
            elim w.4 [
              | inl v ↦ fields_inside limits fields e c low (p + w.1) w.2 found l v.1
              | inr v ↦ fields_inside limits fields _ c low (p + w.1) w.2 found l v.1
            ]
      ]
    ]
  ]

pub faults_are_inside : FaultsAreInside
faults_are_inside limits type earlier enclosing place tag constructed here octets found far x =
    let same : place ≤ place = omega arith in
    lies_inside limits type earlier enclosing place place tag constructed here octets found same far x

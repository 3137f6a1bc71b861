-- The fault at the end of a path is the fault of the whole.
use Rattle.std.proofs.Common.{Bool, List, [], ◌∷◌, ◌++◌, ◌+◌, inl, inr, suc, zero, ℕ}
use Rattle.tlv_core.specs.Identifier.{Tag}
use Rattle.tlv_core.specs.Limits.{Limits}
use Rattle.tlv_core.specs.declared.fault.Fault.{Fault}
use Rattle.x690.specs.ContentsFaults.{After}
use Rattle.x690.specs.Points.{Enclosing, outermost}
use Rattle.x690.specs.Stops.{StopsBehind, StopsFields}
use Rattle.x690.specs.TypeTerms.{ChoiceType, ContainingType, Default, DefinedByType, EndOfFields, Fields, LeafType, OpenType, Optional, RefusedType, Required, RuledType, SequenceOfType, SequenceType, SetOfType, TypeTerm}
use Rattle.x690.specs.Values.{Value}
use Rattle.pkix_shapes.specs.FaultPaths.{FaultPathsStop, Faulty, FaultyField}
use Rattle.pkix_shapes.specs.Paths.{Path}

-- what holds after elements, by what holds there
after_more : {State : Type 0} (Stand : State → ℕ → List ℕ → State → ℕ → List ℕ → Type 0)
    (Then Then' : State → ℕ → List ℕ → Type 0) → ((s : State) (p : ℕ) (o : List ℕ) → Then s p o → Then' s p o)
    → (n : ℕ) (s : State) (p : ℕ) (o : List ℕ) → After Stand Then n s p o → After Stand Then' n s p o
unfolding After
after_more Stand Then Then' more zero s p o x = more s p o x
after_more Stand Then Then' more (suc n) s p o x =
    (x.0, x.1, x.2, x.3, after_more Stand Then Then' more n x.0 (p + x.1) x.2 x.4)

mutual
  unfolding Faulty FaultyField StopsBehind StopsFields

  faulty : (limits : Limits) (type : TypeTerm) (path : Path) (earlier : List Value) (enclosing : Enclosing)
      (place : ℕ) (tag : Tag) (constructed : Bool) (here : ℕ) (octets : List ℕ) (found : Fault)
      → Faulty limits type path earlier enclosing place tag constructed here octets found
      → StopsBehind limits type earlier enclosing place tag constructed here octets found
  faulty limits type [] e c p t f h o found x = x
  faulty limits (SequenceType own fields) (number ∷ path) e c p t f h o found x =
      inr (
        x.0,
        inr (
          x.1.0,
          x.1.1,
          x.1.2,
          x.1.3,
          faulty_field limits fields number path [] x.1.0 x.1.1 x.1.2 found x.1.4,
        ),
      )
  faulty limits (SequenceOfType own least type) (number ∷ path) e c p t f h o found x =
      inr (
        x.0,
        inr (
          x.1.0,
          x.1.1,
          x.1.2,
          x.1.3,
          inl (
            number,
            after_more _ _ _ (λ s p' o' y. inr (
              y.0,
              y.1,
              y.2,
              y.3,
              y.4,
              faulty limits type path [] x.1.0 p' y.0 y.1 y.2 y.3 found y.5,
            )) number tt x.1.1 x.1.2 x.1.4,
          ),
        ),
      )
  faulty limits (SetOfType own least type) (number ∷ path) e c p t f h o found x =
      inr (
        x.0,
        inr (
          x.1.0,
          x.1.1,
          x.1.2,
          x.1.3,
          inl (
            number,
            after_more _ _ _ (λ s p' o' y. inr (
              y.0,
              y.1,
              y.2,
              y.3,
              y.4,
              faulty limits type path [] x.1.0 p' y.0 y.1 y.2 y.3 found y.5,
            )) number tt x.1.1 x.1.2 x.1.4,
          ),
        ),
      )
  faulty limits (ContainingType own rule type) (number ∷ path) e c p t f h o found x =
      let (same, first, stand, contained, taken, rest, inner, stands, takes, inside, is) = x in
      inr (
        same,
        inr (
          stand,
          contained,
          taken,
          rest,
          stands,
          takes,
          inl (
            inner,
            inr (
              inside.0,
              inside.1,
              inside.2,
              inside.3,
              inside.4,
              faulty limits type path e outermost 0 inside.0 inside.1 inside.2 inside.3 inner inside.5,
            ),
            is,
          ),
        ),
      )
  faulty limits (RuledType rule type) (number ∷ path) e c p t f h o found x =
      inl (faulty limits type (number ∷ path) e c p t f h o found x)
  faulty limits (DefinedByType leaf_path identifiers first second) (number ∷ path) e c p t f h o found x = elim x [
    | inl y ↦ inl (y.0, faulty limits first (number ∷ path) e c p t f h o found y.1)
    | inr y ↦ inr (y.0, faulty limits second (number ∷ path) e c p t f h o found y.1)
  ]
  faulty limits (ChoiceType first second) (number ∷ path) e c p t f h o found x = elim x [
    | inl y ↦ inl (y.0, faulty limits first (number ∷ path) e c p t f h o found y.1)
    | inr y ↦ inr (y.0, faulty limits second (number ∷ path) e c p t f h o found y.1)
  ]
  faulty limits (LeafType own kind) (number ∷ path) e c p t f h o found x = absurd x
  faulty limits OpenType (number ∷ path) e c p t f h o found x = absurd x
  faulty limits (RefusedType own why) (number ∷ path) e c p t f h o found x = absurd x

  faulty_field : (limits : Limits) (fields : Fields) (number : ℕ) (path : Path) (earlier : List Value)
      (enclosing : Enclosing) (place : ℕ) (octets : List ℕ) (found : Fault)
      → FaultyField limits fields number path earlier enclosing place octets found
      → StopsFields limits fields earlier enclosing place octets found
  faulty_field limits EndOfFields number path e c p o found x = absurd x
  faulty_field limits (Required type fields) zero path e c p o found x =
      inr (inr (inl (
        x.0,
        x.1,
        x.2,
        x.3,
        x.4,
        inr (x.5.0, faulty limits type path e c p x.0 x.1 x.2 x.3 found x.5.1),
      )))
  faulty_field limits (Required type fields) (suc number) path e c p o found x =
      inr (inr (inr (
        x.0,
        x.1,
        x.2,
        x.3,
        faulty_field limits fields number path (e ++ x.0 ∷ []) c (p + x.1) x.2 found x.4,
      )))
  faulty_field limits (Optional type fields) zero path e c p o found x =
      inr (inr (inl (
        x.0,
        x.1,
        x.2,
        x.3,
        x.4,
        inr (x.5.0, faulty limits type path e c p x.0 x.1 x.2 x.3 found x.5.1),
      )))
  faulty_field limits (Optional type fields) (suc number) path e c p o found x = elim x [
    | inl y ↦
        inr (inr (inr (
          y.0,
          y.1,
          y.2,
          y.3,
          faulty_field limits fields number path (e ++ y.0 ∷ []) c (p + y.1) y.2 found y.4,
        )))
    | inr y ↦
        let z = faulty_field limits fields number path e c p o found y.5.1 in
        inr (inr (inl (y.0, y.1, y.2, y.3, y.4, inl (y.5.0, z))))
  ]
  faulty_field limits (Default own contents type fields) zero path e c p o found x =
      inr (inr (inl (
        x.0,
        x.1,
        x.2,
        x.3,
        x.4,
        inr (x.5.0, faulty limits type path e c p x.0 x.1 x.2 x.3 found x.5.1),
      )))
  faulty_field limits (Default own contents type fields) (suc number) path e c p o found x = elim x [
    | inl y ↦ inr (inr (inr (
      y.0,
      y.1,
      y.2,
      y.3,
      elim y.4 [
        | inl z ↦ inl (z.0, faulty_field limits fields number path e c (p + y.1) y.2 found z.1)
        | inr z ↦ inr (z.0, faulty_field limits fields number path (e ++ y.0 ∷ []) c (p + y.1) y.2 found z.1)
      ],
    )))
    | inr y ↦
        let z = faulty_field limits fields number path e c p o found y.5.1 in
        inr (inr (inl (y.0, y.1, y.2, y.3, y.4, inl (y.5.0, z))))
  ]

pub fault_paths_stop : FaultPathsStop
fault_paths_stop = faulty

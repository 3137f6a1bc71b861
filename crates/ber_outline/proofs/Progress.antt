-- What has happened up to a point, and one event more.
use Rattle.std.proofs.Common.{append-nil, ◌≡◌, ◌∙◌, ◌*◌, ◌++◌, ◌∷◌, ◌≤◌, List, None, Option, Some, [], append_assoc, arith, length, refl, subst, sym, ℕ}
use Rattle.tlv_core.specs.Limits.{Limits}
use Rattle.tlv_core.specs.declared.fault.Fault.{Fault}
use Rattle.x690.specs.Points.{Enclosing}
use Rattle.ber_pull.specs.Standing.{Standing, started}
use Rattle.ber_outline.specs.Outlines.{Happens, Outlines, StopsWith, start}
use Rattle.ber_outline.specs.Steps.{Leads, Ready, insides, position}
use Rattle.ber_outline.specs.declared.event.Event.{Event}
use Rattle.ber_outline.specs.declared.event.ElementHeader.{ElementHeader}
use Rattle.ber_outline.specs.declared.event.Stop.{Stop}
use Rattle.ber_outline.proofs.Positions.{length_insides, open_live}

-- These events have happened, more is to come, and what happens from here on happens after them.
pub record Went (limits : Limits) (document : List ℕ) (events : List Event) (s : Standing) (left : List ℕ)
    : Type 0 where
  pub ready : Ready document s left
  pub same_limits : s.limits ≡ limits
  pub bounded : length s.containers ≤ 2 * s.taken
  pub goes_on : (more : List Event) (stop : Option Stop) → Outlines limits more stop (position s left)
      → Outlines limits (events ++ more) stop (start document)

-- nothing has happened
pub went_none : (limits : Limits) (document : List ℕ) (s : Standing) → s ≡ started limits
    → Went limits document [] s document
went_none limits document s is = subst (λ z. Went limits document [] z document) (sym is) (record {
  ready = record {
    reading = record { fine = refl; none_given = refl; open_all = tt; takes = ([], refl, refl) };
    live = refl;
  };
  same_limits = refl;
  bounded = omega arith;
  goes_on = λ more stop x. x;
})

-- what holds where some containers are open, where none is
some_after : (all : List Enclosing) (A B : Type 0) → (length all ≡ 0 → ⊥) → B
    → elim all as (λ _. Type 0) [ [] ↦ A | enclosing ∷ around ↦ B ]
some_after [] A B some b = absurd (some refl)
some_after (enclosing ∷ around) A B some b = b

none_after : (all : List Enclosing) (A B : Type 0) → length all ≡ 0 → A
    → elim all as (λ _. Type 0) [ [] ↦ A | enclosing ∷ around ↦ B ]
none_after [] A B none a = a
none_after (enclosing ∷ around) A B none a = let z = none in cc

module _ (limits : Limits) (document : List ℕ) (events : List Event) (s : Standing) (left : List ℕ)
    (w : Went limits document events s left) where
  -- what comes next stops
  pub went_stops : (fault : Fault) (element : Option ElementHeader) → StopsWith s.limits fault element (position s left)
      → Outlines limits events (Some (record { fault = fault; element = element })) (start document)
  unfolding Outlines
  went_stops fault element x =
      subst (λ all. Outlines limits all (Some (record { fault = fault; element = element })) (start document))
      (append-nil events)
      (w.goes_on [] (Some (record { fault = fault; element = element }))
      (subst (λ l. StopsWith l fault element (position s left)) w.same_limits x))

  module _ (event : Event) (s' : Standing) (left' : List ℕ) (leads : Leads document event s left s' left') where
    happens : Happens limits event (position s left) (position s' left')
    happens = subst (λ l. Happens l event (position s left) (position s' left')) w.same_limits leads.happens

    -- the outermost element ends
    pub went_all : length s'.containers ≡ 0 → Outlines limits (events ++ event ∷ []) None (start document)
    unfolding Outlines
    went_all none = w.goes_on (event ∷ []) None (
      position s' left',
      happens,
      none_after (insides s'.containers) _ _ (sym (length_insides s'.containers) ∙ none) (refl, refl),
    )

    -- it doesn't
    pub went_more : (length s'.containers ≡ 0 → ⊥) → Went limits document (events ++ event ∷ []) s' left'
    unfolding Outlines
    went_more some =
        let was = w.bounded in
        let fewer = leads.fewer in
        record {
          ready = record {
            reading = leads.reading;
            live = open_live s'.containers s'.taken leads.reading.open_all some;
          };
          same_limits = leads.same_limits ∙ w.same_limits;
          bounded = omega arith;
          goes_on = λ more stop x.
              subst (λ all. Outlines limits all stop (start document)) (sym (append_assoc events (event ∷ []) more))
              (w.goes_on (event ∷ more) stop (
                position s' left',
                happens,
                some_after (insides s'.containers) _ _ (λ h. some (length_insides s'.containers ∙ h)) x,
              ));
        }

-- Names follow the reading of types.
use Rattle.std.proofs.Common.{◌++◌, ◌+◌, ◌∷◌, [], ◌≡◌, ◌∙◌, Bool, List, ap, false, inl, inr, refl, subst, true, ℕ, ◌||◌, ◌⊎◌}
use Rattle.tlv_core.specs.Identifier.{Tag}
use Rattle.tlv_core.specs.Limits.{Limits}
use Rattle.tlv_core.specs.declared.fault.Fault.{Fault}
use Rattle.tlv_core.specs.declared.reason.Reason.TheVariants.{Extra, Missing, WrongTag}
use Rattle.x690.specs.HeaderFaults.{EndsHere, Stands}
use Rattle.x690.specs.Points.{Enclosing, fault}
use Rattle.x690.specs.Stops.{StopsBehind, StopsFields}
use Rattle.x690.specs.Takes.{Takes}
use Rattle.x690.specs.TypeTerms as types
use Rattle.x690.specs.TypeTerms.{TypeTerm, fits_tag}
use Rattle.x690.specs.Values.{Value}
use Rattle.pkix_shapes.specs.DueLaws.{DueLaws, Follows, bare_due}
use Rattle.pkix_shapes.specs.Dues.{Due, IsExtra, IsField, IsWrong, due_in, may_end}
use Rattle.pkix_shapes.specs.Terms.{bare, bare_fields}

bare_tags : (type : TypeTerm) (tag : Tag) → fits_tag (bare type) tag ≡ fits_tag type tag
unfolding fits_tag
bare_tags (types.LeafType own kind) tag = refl
bare_tags types.OpenType tag = refl
bare_tags (types.SequenceOfType own least type) tag = refl
bare_tags (types.SetOfType own least type) tag = refl
bare_tags (types.SequenceType own fields) tag = refl
bare_tags (types.ContainingType own rule type) tag = refl
bare_tags (types.RuledType rule type) tag = bare_tags type tag
bare_tags (types.RefusedType own why) tag = refl
bare_tags (types.DefinedByType path octets first second) tag =
    ap (λ b. b || fits_tag (bare second) tag) (bare_tags first tag)
    ∙ ap (λ b. fits_tag first tag || b) (bare_tags second tag)
bare_tags (types.ChoiceType first second) tag =
    ap (λ b. b || fits_tag (bare second) tag) (bare_tags first tag)
    ∙ ap (λ b. fits_tag first tag || b) (bare_tags second tag)

-- what is due, by whether the tag fits the first field
by_fit : Bool → Due → Due → Due
by_fit b here else' = elim b [ true ↦ here | false ↦ else' ]

bare_by_fit : (b : Bool) (here else' : Due) → by_fit b (bare_due here) (bare_due else') ≡ bare_due (by_fit b here else')
unfolding by_fit
bare_by_fit true here else' = refl
bare_by_fit false here else' = refl

bare_dues : (fields : types.Fields) (tag : Tag) → due_in (bare_fields fields) tag ≡ bare_due (due_in fields tag)
unfolding by_fit
bare_dues types.EndOfFields tag = refl
bare_dues (types.Required type fields) tag =
    ap (λ b. by_fit b (IsField (bare type) (bare_fields fields)) (IsWrong (bare type))) (bare_tags type tag)
    ∙ bare_by_fit (fits_tag type tag) (IsField type fields) (IsWrong type)
bare_dues (types.Optional type fields) tag =
    ap (λ b. by_fit b (IsField (bare type) (bare_fields fields)) (due_in (bare_fields fields) tag)) (bare_tags type tag)
    ∙ (ap (by_fit (fits_tag type tag) (IsField (bare type) (bare_fields fields))) (bare_dues fields tag)
    ∙ bare_by_fit (fits_tag type tag) (IsField type fields) (due_in fields tag))
bare_dues (types.Default own contents type fields) tag =
    ap (λ b. by_fit b (IsField (bare type) (bare_fields fields)) (due_in (bare_fields fields) tag)) (bare_tags type tag)
    ∙ (ap (by_fit (fits_tag type tag) (IsField (bare type) (bare_fields fields))) (bare_dues fields tag)
    ∙ bare_by_fit (fits_tag type tag) (IsField type fields) (due_in fields tag))

module _ (limits : Limits) (enclosing : Enclosing) (place : ℕ) (octets : List ℕ) where
  missing : (fields : types.Fields) (earlier : List Value) → EndsHere limits enclosing place octets
      → may_end fields ≡ false → StopsFields limits fields earlier enclosing place octets (fault place Missing)
  unfolding StopsFields
  missing types.EndOfFields earlier ends none = absurd cc
  missing (types.Required type fields) earlier ends none = inr (inl (ends, refl))
  missing (types.Optional type fields) earlier ends none = inr (inl (ends, missing fields earlier ends none))
  missing (types.Default own contents type fields) earlier ends none =
      inr (inl (ends, missing fields earlier ends none))

  module _ (tag : Tag) (constructed : Bool) (following : ℕ) (rest : List ℕ)
      (stands : Stands limits enclosing place octets tag constructed following rest) where
    -- a field that isn't there is passed over
    passed : (type : TypeTerm) (fields : types.Fields) (due : Due) (b : Bool) → fits_tag type tag ≡ b
        → by_fit b (IsField type fields) (due_in fields tag) ≡ due → (IsField type fields ≡ due → ⊥)
        → (fits_tag type tag ≡ false) × (due_in fields tag ≡ due)
    unfolding by_fit
    passed type fields due true fits is other = absurd (other is)
    passed type fields due false fits is other = (fits, is)

    -- the first field is due and it fits, or it is wrong
    required_wrong : (type due : TypeTerm) (fields : types.Fields) (b : Bool) → fits_tag type tag ≡ b
        → by_fit b (IsField type fields) (IsWrong type) ≡ IsWrong due → fits_tag type tag ≡ false
    unfolding by_fit
    required_wrong type due fields true fits is = absurd cc
    required_wrong type due fields false fits is = fits

    required_extra : (type : TypeTerm) (fields : types.Fields) (b : Bool)
        → by_fit b (IsField type fields) (IsWrong type) ≡ IsExtra → ⊥
    unfolding by_fit
    required_extra type fields true is = cc
    required_extra type fields false is = cc

    wrong : (fields : types.Fields) (due : TypeTerm) (earlier : List Value) → due_in fields tag ≡ IsWrong due
        → StopsFields limits fields earlier enclosing place octets (fault place WrongTag)
    unfolding StopsFields by_fit
    wrong types.EndOfFields due earlier is = absurd cc
    wrong (types.Required type fields) due earlier is =
        inr (inr (inl (
          tag,
          constructed,
          following,
          rest,
          stands,
          inl (required_wrong type due fields (fits_tag type tag) refl is, refl),
        )))
    wrong (types.Optional type fields) due earlier is =
        let p = passed type fields (IsWrong due) (fits_tag type tag) refl is (λ e. cc) in
        inr (inr (inl (tag, constructed, following, rest, stands, inl (p.0, wrong fields due earlier p.1))))
    wrong (types.Default own contents type fields) due earlier is =
        let p = passed type fields (IsWrong due) (fits_tag type tag) refl is (λ e. cc) in
        inr (inr (inl (tag, constructed, following, rest, stands, inl (p.0, wrong fields due earlier p.1))))

    extra : (fields : types.Fields) (earlier : List Value) → due_in fields tag ≡ IsExtra
        → StopsFields limits fields earlier enclosing place octets (fault place Extra)
    unfolding StopsFields by_fit
    extra types.EndOfFields earlier is = inr (tag, constructed, following, rest, stands, refl)
    extra (types.Required type fields) earlier is = absurd (required_extra type fields (fits_tag type tag) is)
    extra (types.Optional type fields) earlier is =
        let p = passed type fields IsExtra (fits_tag type tag) refl is (λ e. cc) in
        inr (inr (inl (tag, constructed, following, rest, stands, inl (p.0, extra fields earlier p.1))))
    extra (types.Default own contents type fields) earlier is =
        let p = passed type fields IsExtra (fits_tag type tag) refl is (λ e. cc) in
        inr (inr (inl (tag, constructed, following, rest, stands, inl (p.0, extra fields earlier p.1))))

    module _ (found : Fault) (earlier : List Value) where
      abbrev Here : TypeTerm → Type 0
      Here type = StopsBehind limits type earlier enclosing place tag constructed following rest found

      -- the field that an element belongs to: the first one, or one after it
      required_field : (type due : TypeTerm) (fields after : types.Fields) (b : Bool) → fits_tag type tag ≡ b
          → by_fit b (IsField type fields) (IsWrong type) ≡ IsField due after → Here due
          → (fits_tag type tag ≡ true) × Here type
      unfolding by_fit
      required_field type due fields after true fits is here =
          (fits, let e : due ≡ type = cc in subst Here e here)
      required_field type due fields after false fits is here = absurd cc

      optional_field : (type due : TypeTerm) (fields after : types.Fields) (b : Bool) → fits_tag type tag ≡ b
          → by_fit b (IsField type fields) (due_in fields tag) ≡ IsField due after → Here due
          → ((fits_tag type tag ≡ true) × Here type)
          ⊎ ((fits_tag type tag ≡ false) × (due_in fields tag ≡ IsField due after))
      unfolding by_fit
      optional_field type due fields after true fits is here =
          inl (fits, let e : due ≡ type = cc in subst Here e here)
      optional_field type due fields after false fits is here = inr (fits, is)

      inside : (fields after : types.Fields) (type : TypeTerm) → due_in fields tag ≡ IsField type after → Here type
          → StopsFields limits fields earlier enclosing place octets found
      unfolding StopsFields by_fit
      inside types.EndOfFields after due is here = absurd cc
      inside (types.Required type fields) after due is here =
          let p = required_field type due fields after (fits_tag type tag) refl is here in
          inr (inr (inl (tag, constructed, following, rest, stands, inr p)))
      inside (types.Optional type fields) after due is here =
          elim (optional_field type due fields after (fits_tag type tag) refl is here) [
            | inl p ↦ inr (inr (inl (tag, constructed, following, rest, stands, inr p)))
            | inr p ↦
                inr (inr (inl (tag, constructed, following, rest, stands, inl (p.0, inside fields after due p.1 here))))
          ]
      inside (types.Default own contents type fields) after due is here =
          elim (optional_field type due fields after (fits_tag type tag) refl is here) [
            | inl p ↦ inr (inr (inl (tag, constructed, following, rest, stands, inr p)))
            | inr p ↦
                inr (inr (inl (tag, constructed, following, rest, stands, inl (p.0, inside fields after due p.1 here))))
          ]

    -- the field that an element belongs to, and the fields after it
    module _ (value : Value) (taken : ℕ) (left : List ℕ) (found : Fault) (earlier later : List Value) where
      abbrev Taken : TypeTerm → types.Fields → Type 0
      Taken type fields =
          Takes limits type earlier enclosing place octets value taken left
          × StopsFields limits fields later enclosing (place + taken) left found

      -- the fields after it stop, their earlier values being these
      stops_as : (fields : types.Fields) → later ≡ earlier
          → StopsFields limits fields later enclosing (place + taken) left found
          → StopsFields limits fields earlier enclosing (place + taken) left found
      stops_as fields e h = subst (λ w. StopsFields limits fields w enclosing (place + taken) left found) e h

      stops_with : (fields : types.Fields) → later ≡ earlier ++ (value ∷ [])
          → StopsFields limits fields later enclosing (place + taken) left found
          → StopsFields limits fields (earlier ++ (value ∷ [])) enclosing (place + taken) left found
      stops_with fields e h = subst (λ w. StopsFields limits fields w enclosing (place + taken) left found) e h

      -- it is the first one, or it is after that
      first_taken : (type due : TypeTerm) (fields after : types.Fields) (other : Due) (b : Bool) → b ≡ true
          → by_fit b (IsField type fields) other ≡ IsField due after → Taken due after → Taken type fields
      unfolding by_fit
      first_taken type due fields after other true fits is here =
          let e : due ≡ type = cc in
          let f : after ≡ fields = cc in
          subst (λ t. Taken t fields) e (subst (λ g. Taken due g) f here)
      first_taken type due fields after other false fits is here = absurd cc

      required_taken : (type due : TypeTerm) (fields after : types.Fields) (b : Bool)
          → by_fit b (IsField type fields) (IsWrong type) ≡ IsField due after → Taken due after → Taken type fields
      unfolding by_fit
      required_taken type due fields after true is here =
          first_taken type due fields after (IsWrong type) true refl is here
      required_taken type due fields after false is here = absurd cc

      first_passed : (here other due : Due) (b : Bool) → b ≡ false → by_fit b here other ≡ due → other ≡ due
      unfolding by_fit
      first_passed here other due true fits is = absurd cc
      first_passed here other due false fits is = is

      goes_on : (fields after : types.Fields) (type : TypeTerm) → Follows fields tag value earlier later
          → due_in fields tag ≡ IsField type after → Taken type after
          → StopsFields limits fields earlier enclosing place octets found
      unfolding StopsFields by_fit
      goes_on types.EndOfFields after due follows is here = absurd follows
      goes_on (types.Required type fields) after due follows is here =
          let p = required_taken type due fields after (fits_tag type tag) is here in
          inr (inr (inr (value, taken, left, p.0, stops_with fields follows p.1)))
      goes_on (types.Optional type fields) after due follows is here = elim follows [
        | inl a ↦
            let p = first_taken type due fields after (due_in fields tag) (fits_tag type tag) a.0 is here in
            inr (inr (inr (value, taken, left, p.0, stops_with fields a.1 p.1)))
        | inr a ↦
            let p = first_passed (IsField type fields) (due_in fields tag) (IsField due after) (fits_tag type tag) a.0
            is in
            inr (inr (inl (tag, constructed, following, rest, stands, inl (a.0, goes_on fields after due a.1 p here))))
      ]
      goes_on (types.Default own contents type fields) after due follows is here = elim follows [
        | inl a ↦
            let p = first_taken type due fields after (due_in fields tag) (fits_tag type tag) a.0 is here in
            inr (inr (inr (
              value,
              taken,
              left,
              p.0,
              elim a.1 [
                | inl b ↦ inl (b.0, stops_as fields b.1 p.1)
                | inr b ↦ inr (b.0, stops_with fields b.1 p.1)
              ],
            )))
        | inr a ↦
            let p = first_passed (IsField type fields) (due_in fields tag) (IsField due after) (fits_tag type tag) a.0
            is in
            inr (inr (inl (tag, constructed, following, rest, stands, inl (a.0, goes_on fields after due a.1 p here))))
      ]

pub due_laws : DueLaws
due_laws = record {
  bare_tags = bare_tags;
  bare_dues = bare_dues;
  wrong = λ limits enclosing place octets tag constructed following rest fields type earlier among.
      wrong limits enclosing place octets tag constructed following rest among.stands fields type earlier among.is;
  extra = λ limits enclosing place octets tag constructed following rest fields earlier among.
      extra limits enclosing place octets tag constructed following rest among.stands fields earlier among.is;
  missing = missing;
  inside = λ limits enclosing place octets tag constructed following rest fields after type earlier found among here.
      inside limits enclosing place octets tag constructed following rest among.stands found earlier fields after type
      among.is here;
  after =
      λ limits enclosing place octets tag constructed following rest fields after type earlier later value taken left
      found among takes follows stops.
      goes_on limits enclosing place octets tag constructed following rest among.stands value taken left found earlier
      later fields after type follows among.is (takes, stops);
}

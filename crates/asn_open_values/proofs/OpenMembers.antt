-- Members of open containers: their texts, and one turn of the loop over them.
use Rattle.std.proofs.Common.{◌≡◌, ◌∙◌, ◌∷◌, ◌++◌, ◌+◌, ◌<◌, ◌≤◌, Bool, List, [], None, Some, ℕ, ap, append_assoc, arith, length-append, refl, suc, sym, true, length}
use Rattle.tlv_core.specs.Identifier.{Tag}
use Rattle.tlv_core.specs.declared.fault.ReadError.{ReadError}
use Rattle.tlv_core.specs.declared.source.Source.{Ghosts}
use Rattle.x690.specs.DerTexts.{der, texts_of}
use Rattle.x690.specs.Points.{Enclosing}
use Rattle.x690.specs.ReadContents.{read_open}
use Rattle.x690.specs.ReadHeaders.{ElementStands}
use Rattle.x690.specs.Reading.{Reading}
use Rattle.x690.specs.Reads.{Heard, Said}
use Rattle.x690.specs.Values.{Value}
use Rattle.ber_pull.specs.Calls.{read_next}
use Rattle.ber_pull.specs.Hears.{heard_error}
use Rattle.ber_pull.specs.Standing.{IsGiven, after_next, enclosing, place}
use Rattle.ber_pull.specs.View.{Answers, SameSource, Uses}
use Rattle.ber_pull.specs.declared.pull.Pull.{Pull}
use Rattle.ber_pull.specs.declared.state.Given.{Given}
use Rattle.asn_open_values.specs.OpenTexts.{StandBehind, read_given_open, read_given_open_members}
use Rattle.asn_elements.specs.Members.{StandIn, starts_from}
use Rattle.asn_elements.proofs.MemberReadings.{Inside, inside_here, inside_more, inside_stops, member_reads}
use Rattle.asn_elements.proofs.MemberTexts.{starts_last, texts_last}
use Rattle.asn_open_values.proofs.OpenReadings.{open_short}

-- an open value inside a container that `start` stood before
abbrev pub member : {R : Type 0} {s : Ghosts R} → ℕ → Pull R s → Enclosing → ℕ → Tag → Bool → Reading Value
member deep start inside = read_open deep start.state.limits inside

-- these members of it are read
abbrev pub Members : {R : Type 0} {s : Ghosts R} → ℕ → Pull R s → Given → Pull R s → List Value → Type 0
Members deep start g now vs = Inside (member deep start) (read_given_open_members deep start.state g) start now vs

module _ {R : Type 0} {s : Ghosts R} (deep : ℕ) (start now mid new : Pull R s) (g : Given) (vs : List Value)
    (i : Members deep start g now vs) (tag : Tag) (form : Bool)
    (next : Answers now mid (read_next now.state) (Said (ElementStands (place now.state) tag form)))
    (stands : mid.state ≡ after_next mid.state.taken (Some (tag, form)) now.state) where
  -- the member that is given now
  abbrev pub given_now : Given
  given_now = record { at = now.state.taken; tag = tag; constructed = form }

  reads_member : (h : Heard Value) → Answers mid new (read_given_open deep mid.state given_now) h
      → Answers mid new (member deep start (enclosing now.state) (place now.state) tag form) h
  reads_member h x =
      member_reads (λ l. read_open deep l) start.state.limits now mid new tag form h i.none_given i.limits stands x

  pub room_now : start.state.limits.depth ≤ suc deep + length start.state.containers
      → mid.state.limits.depth ≤ deep + length mid.state.containers
  room_now bound = omega (
    arith,
    bound,
    ap (λ z. z.limits.depth) stands,
    ap (λ z. length z.containers) stands,
    ap (λ z. z.depth) i.limits,
    ap length i.containers,
  )

  pub member_stops : (e : ReadError) → Answers mid new (read_given_open deep mid.state given_now) (heard_error e)
      → Answers start new (read_given_open_members deep start.state g) (heard_error e)
  member_stops e x =
      inside_stops (member deep start) (read_given_open_members deep start.state g) start now vs i mid new
      (place now.state) tag form e next (reads_member (heard_error e) x)

  pub member_more : (v : Value) → Answers mid new (read_given_open deep mid.state given_now) (Said v)
      → SameSource now mid → SameSource mid new → Uses mid new → new.state.error ≡ None
      → mid.state.taken ≤ new.state.taken → now.state.taken < mid.state.taken → IsGiven tag mid.state
      → Members deep start g new (vs ++ v ∷ [])
  member_more v x same same' uses fine on moves fits =
      let l = start.state.limits in
      let y = reads_member (Said v) x in
      let most : l.octets ≤ 2147483647 =
      omega (arith, fits.octets_fit, ap (λ z. z.limits.octets) stands, ap (λ z. z.octets) i.limits) in
      let short = open_short deep l (enclosing now.state) (place now.state) tag form v _ _ _ _ _ _ most
      (inside_here (member deep start) _ start now vs i mid _ next) y in
      inside_more (member deep start) _ start now vs i mid new
      (place now.state) tag form v next same stands moves y same' uses fine on short most

-- one text more after the others
pub behind_more : (is_set : Bool) (before text starts text' starts' : List ℕ) (vs : List Value) (v : Value) (start : ℕ)
    → StandBehind is_set vs before text starts → text' ≡ text ++ der v
    → (is_set ≡ true → starts' ≡ starts ++ start ∷ []) → start ≡ length text
    → StandBehind is_set (vs ++ v ∷ []) before text' starts'
behind_more is_set before text starts text' starts' vs v start are t s n = (
  t
      ∙ (ap (λ z. z ++ der v) are.0
      ∙ (append_assoc before (texts_of vs) (der v) ∙ ap (λ z. before ++ z) (sym (texts_last vs v)))),
  λ yes.
      s yes
      ∙ (ap (λ z. z ++ start ∷ []) (are.1 yes)
      ∙ (ap (λ k. starts_from (length before) vs ++ k ∷ [])
      (let e : start ≡ length before + length (texts_of vs) =
      omega (arith, n, ap length are.0, length-append before (texts_of vs)) in e)
      ∙ sym (starts_last (length before) vs v))),
)

-- with nothing in front of them
pub stand_first : (values : List Value) (before after starts : List ℕ) → before ≡ []
    → StandBehind true values before after starts → StandIn values after starts
stand_first values before after starts none are =
    (are.0 ∙ ap (λ b. b ++ texts_of values) none, are.1 refl ∙ ap (λ b. starts_from (length b) values) none)

-- after room for a header
pub behind_header : (values : List Value) (is_set : Bool) (before room text after starts : List ℕ)
    → text ≡ before ++ room → StandBehind is_set values text after starts
    → after ≡ before ++ (room ++ texts_of values)
behind_header values is_set before room text after starts e are =
    are.0 ∙ (ap (λ t. t ++ texts_of values) e ∙ append_assoc before room (texts_of values))

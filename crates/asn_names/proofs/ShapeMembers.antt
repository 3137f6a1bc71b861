-- Members of lists and sets whose type is data: one turn of the loop over them.
use Rattle.std.proofs.Common.{◌≡◌, ◌++◌, ◌-◌, ◌<◌, ◌≤◌, ◌∷◌, Bool, List, [], None, Some, ap, arith, length, length-append, ℕ}
use Rattle.tlv_core.specs.Identifier.{Tag}
use Rattle.tlv_core.specs.declared.fault.ReadError.{ReadError}
use Rattle.tlv_core.specs.declared.source.Source.{Ghosts}
use Rattle.x690.specs.Points.{Enclosing}
use Rattle.x690.specs.ReadHeaders.{ElementStands}
use Rattle.x690.specs.ReadTypes.{read_type}
use Rattle.x690.specs.Reading.{Reading}
use Rattle.x690.specs.Reads.{Heard, Said}
use Rattle.x690.specs.TypeTerms.{TypeTerm}
use Rattle.x690.specs.Values.{Value}
use Rattle.ber_pull.specs.Calls.{read_next}
use Rattle.ber_pull.specs.Hears.{heard_error}
use Rattle.ber_pull.specs.Standing.{IsGiven, after_next, enclosing, place}
use Rattle.ber_pull.specs.View.{Answers, SameSource, Uses}
use Rattle.ber_pull.specs.declared.pull.Pull.{Pull}
use Rattle.ber_pull.specs.declared.state.Given.{Given}
use Rattle.asn_elements.specs.Reading.{read_given, read_given_members}
use Rattle.asn_elements.proofs.MemberReadings.{Inside, inside_here, inside_more, inside_stops, member_reads}
use Rattle.asn_elements.proofs.ShortElements.{element_short}

-- a member inside a container that `start` stood before
abbrev pub member : {R : Type 0} {s : Ghosts R} → TypeTerm → Pull R s → Enclosing → ℕ → Tag → Bool → Reading Value
member type start = read_type start.state.limits type []

-- these members of it are read
abbrev pub AreRead : {R : Type 0} {s : Ghosts R} → TypeTerm → Pull R s → Given → Pull R s → List Value → Type 0
AreRead type start g now vs = Inside (member type start) (read_given_members type start.state g) start now vs

module _ {R : Type 0} {s : Ghosts R} (type : TypeTerm) (start now mid new : Pull R s) (g : Given) (vs : List Value)
    (i : AreRead type start g now vs) (tag : Tag) (form : Bool)
    (next : Answers now mid (read_next now.state) (Said (ElementStands (place now.state) tag form)))
    (stands : mid.state ≡ after_next mid.state.taken (Some (tag, form)) now.state) where
  -- the member that is given now
  abbrev pub given_now : Given
  given_now = record { at = now.state.taken; tag = tag; constructed = form }

  reads_member : (h : Heard Value) → Answers mid new (read_given type mid.state given_now) h
      → Answers mid new (member type start (enclosing now.state) (place now.state) tag form) h
  reads_member h x =
      member_reads (λ l. read_type l type []) start.state.limits now mid new tag form h i.none_given i.limits stands x

  pub member_stops : (e : ReadError) → Answers mid new (read_given type mid.state given_now) (heard_error e)
      → Answers start new (read_given_members type start.state g) (heard_error e)
  member_stops e x =
      inside_stops (member type start) (read_given_members type start.state g) start now vs i mid new
      (place now.state) tag form e next (reads_member (heard_error e) x)

  pub member_more : (v : Value) → Answers mid new (read_given type mid.state given_now) (Said v)
      → SameSource now mid → SameSource mid new → Uses mid new → new.state.error ≡ None
      → mid.state.taken ≤ new.state.taken → now.state.taken < mid.state.taken → IsGiven tag mid.state
      → AreRead type start g new (vs ++ v ∷ [])
  member_more v x same same' uses fine on moves fits =
      let l = start.state.limits in
      let y = reads_member (Said v) x in
      let most : l.octets ≤ 2147483647 =
      omega (arith, fits.octets_fit, ap (λ z. z.limits.octets) stands, ap (λ z. z.octets) i.limits) in
      let short = element_short l type (enclosing now.state) (place now.state) tag form v _ _ _ _ _ _ most
      (inside_here (member type start) _ start now vs i mid _ next) y in
      inside_more (member type start) _ start now vs i mid new
      (place now.state) tag form v next same stands moves y same' uses fine on short most

-- one more of them
pub one_more : (vs : List Value) (v : Value) (least missing missing' : ℕ) → missing ≡ least - length vs
    → missing' ≡ missing - 1 → missing' ≡ least - length (vs ++ v ∷ [])
one_more vs v least missing missing' e f = omega (arith, e, f, length-append vs (v ∷ []))

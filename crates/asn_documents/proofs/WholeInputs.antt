-- What stands after a value that was read.
use Rattle.std.proofs.Common.{◌⊎◌, List, None, Option, Some, [], ℕ, append-nil, inl, inr, subst, sym}
use Rattle.std.specs.Io.KnownBytes.{Consumes, Keeps}
use Rattle.std.proofs.KnownBytes.{Consumes-trans}
use Rattle.tlv_core.specs.Limits.{Limits}
use Rattle.tlv_core.specs.Faults.{InsideMatches}
use Rattle.tlv_core.specs.declared.fault.ReadError.{ReadError}
use Rattle.tlv_core.specs.declared.fault.ReadError.TheVariants as errors
use Rattle.tlv_core.specs.declared.reason.Reason.TheVariants.{Trailing}
use Rattle.x690.specs.Points.{fault}
use Rattle.x690.specs.Premises.{Lawful}
use Rattle.x690.specs.TypeTerms.{TypeTerm}
use Rattle.x690.specs.Values.{Value}
use Rattle.asn_elements.specs.Whole.{TellsInsideOf}
use Rattle.asn_documents.specs.Checked.{CheckedAs}
use Rattle.asn_documents.specs.Normalised.{Took, Unread}
use Rattle.asn_documents.specs.ReadValues.{ReadsValue, StopsReading}
use Rattle.asn_documents.specs.WholeInputs.{EndsBadly, Followed, StopsWhole}
use Rattle.asn_documents.proofs.Normalising.{unread_as}

-- nothing was taken by a read that failed
pub kept_none : (before after : Option (List ℕ)) → Keeps before after → Consumes before after []
kept_none None after kept = tt
kept_none (Some xs) None kept = absurd kept
kept_none (Some xs) (Some ys) kept = sym kept

-- an octet stands after it, or the source failed there
pub followed : (l : Limits) (T : TypeTerm) (e : ReadError) (w : Value) (before mid after : Option (List ℕ)) (taken : ℕ)
    → ReadsValue l T w before mid taken → (behind : List ℕ) × Consumes mid after behind × EndsBadly e behind taken
    → StopsWhole l T e before after
followed l T e w before mid after taken r more = inr (record {
  value = r.spelled;
  octets = r.octets;
  behind = more.0;
  takes = Consumes-trans before mid after r.octets more.0 r.takes more.1;
  spells = r.spells;
  ends_badly = subst (EndsBadly e more.0) r.taken_are more.2;
})

-- nothing is inside the fault after a value
pub ends_badly_inside : (e : ReadError) (behind : List ℕ) (place : ℕ) → EndsBadly e behind place → TellsInsideOf e
ends_badly_inside (errors.Fault found) behind place h =
    let outside : InsideMatches (fault place Trailing) = (λ z. cc, λ z. cc) in subst InsideMatches (sym h.1) outside
ends_badly_inside (errors.Read at) behind place h = tt
ends_badly_inside errors.Memory behind place h = tt

-- the source told no more, and reading nothing changes nothing
pub ended : (l : Limits) (T : TypeTerm) (w : Value) (before mid after : Option (List ℕ)) (taken : ℕ)
    → ReadsValue l T w before mid taken → Consumes mid after [] → ReadsValue l T w before after taken
ended l T w before mid after taken r none = record {
  octets = r.octets;
  takes =
      subst (Consumes before after) (append-nil r.octets) (Consumes-trans before mid after r.octets [] r.takes none);
  taken_are = r.taken_are;
  spelled = r.spelled;
  spells = r.spells;
  same = r.same;
  is_answer = r.is_answer;
  answers = r.answers;
}

pub unread_whole : (l : Limits) (T : TypeTerm) (e : ReadError) (before after : Option (List ℕ)) → Lawful T
    → TellsInsideOf e → StopsWhole l T e before after
    → (StopsReading l T e before after × Unread l T e before) ⊎ Followed l T e before after
unread_whole l T e before after lawful inside (inl s) = inl (s, unread_as l T e before after lawful inside s)
unread_whole l T e before after lawful inside (inr f) = inr f

unfoldable took_ended : (l : Limits) (T : TypeTerm) (v : Value) (before mid after : Option (List ℕ)) (taken : ℕ)
    → Took l T v before mid taken → Consumes mid after [] → Took l T v before after taken
took_ended l T v before mid after taken t none = record {
  octets = t.octets;
  takes =
      subst (Consumes before after) (append-nil t.octets) (Consumes-trans before mid after t.octets [] t.takes none);
  taken_are = t.taken_are;
  spells = t.spells;
  one = t.one;
}

-- the same of a value that was checked

pub checked_ended : (l : Limits) (T : TypeTerm) (before mid after : Option (List ℕ)) (taken : ℕ) (place : Option ℕ)
    → (value : Value) × CheckedAs l T value before mid taken place → Consumes mid after []
    → (value : Value) × CheckedAs l T value before after taken place
unfolding took_ended
checked_ended l T before mid after taken place c none = (
  c.0,
  record {
    took = took_ended l T c.0 before mid after taken c.1.took none;
    differs = c.1.differs;
    in_both = c.1.in_both;
  },
)

pub checked_followed : (l : Limits) (T : TypeTerm) (e : ReadError) (before mid after : Option (List ℕ)) (taken : ℕ)
    (place : Option ℕ)
    → (value : Value) × CheckedAs l T value before mid taken place
    → (behind : List ℕ) × Consumes mid after behind × EndsBadly e behind taken
    → Followed l T e before after
checked_followed l T e before mid after taken place c more = record {
  value = c.0;
  octets = c.1.took.octets;
  behind = more.0;
  takes = Consumes-trans before mid after c.1.took.octets more.0 c.1.took.takes more.1;
  spells = c.1.took.spells;
  ends_badly = subst (EndsBadly e more.0) c.1.took.taken_are more.2;
}

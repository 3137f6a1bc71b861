-- What octets are as one element and nothing else, by what was heard of them.
use Rattle.std.proofs.Common.{◌≡◌, ◌∙◌, Err, List, Result, Some, [], ◌∷◌, ℕ, ap, arith, false, length, refl, subst, sym, true}
use Rattle.std.proofs.lemmas.Bool.{eqb-true}
use Rattle.std.specs.Prelude.{◌==◌}
use Rattle.std.specs.Result.{MatchResult}
use Rattle.tlv_core.specs.Limits.{Limits}
use Rattle.tlv_core.specs.declared.fault.Fault.{Fault}
use Rattle.tlv_core.specs.declared.fault.ReadError.{ReadError}
use Rattle.tlv_core.specs.declared.fault.ReadError.TheVariants as errors
use Rattle.tlv_core.specs.declared.reason.Reason.TheVariants.{Inner, Trailing}
use Rattle.x690.specs.Points.{fault, outermost}
use Rattle.x690.specs.ReadTypes.{from_inside, read_element}
use Rattle.x690.specs.Reading.{Done, Fail, Halted, Outcome, Took}
use Rattle.x690.specs.Reads.{Reads, Said}
use Rattle.x690.specs.TypeTerms.{TypeTerm}
use Rattle.x690.specs.Values.{Value}
use Rattle.ber_pull.specs.Hears.{Hears, heard_error}
use Rattle.asn_elements.specs.Whole.{HaltsInside, IsFailedRead, fault_inside, read_inside}

-- By the outcome of reading its octets as a document of their own.

contained_value : (p : ℕ) (o : Outcome Value) (v : Value) (n : ℕ) → o ≡ Took v n [] → from_inside p o ≡ Done v
unfolding from_inside
contained_value p o v n e = ap (from_inside p) e

-- a fault inside, as the fault of the OCTET STRING that contains it
pub contained_fault : (p : ℕ) (o : Outcome Value) (f : Fault) → fault_inside o ≡ Some f
    → from_inside p o ≡ Fail (record { at = p; why = Inner; inside = Some (f.at, f.why) })
unfolding from_inside
contained_fault p (Halted g) f e =
    let same : g ≡ f = cc in
    ap (λ found. Fail (record { at = p; why = Inner; inside = Some (found.at, found.why) })) same
contained_fault p (Took v n []) f e = absurd cc
contained_fault p (Took v n (x ∷ r)) f e =
    let same : fault n Trailing ≡ f = cc in
    ap (λ found. Fail (record { at = p; why = Inner; inside = Some (found.at, found.why) })) same

behind : (o : Outcome Value) (v : Value) (n : ℕ) (r : List ℕ) → (r ≡ [] → ⊥) → o ≡ Took v n r
    → fault_inside o ≡ Some (fault n Trailing)
behind o v n [] some e = absurd (some refl)
behind o v n (x ∷ r) some e = ap fault_inside e

-- By what was heard of them, when a slice told them.

pub inside_value : (l : Limits) (T : TypeTerm) (octets rest : List ℕ) (v : Value) (k : ℕ) → rest ≡ []
    → Hears (read_element l T [] outermost) 0 (Some octets) (Said v) k (Some rest) → (place : ℕ)
    → read_inside l T [] place octets ≡ Done v
unfolding Hears Reads
inside_value l T octets rest v k empty x place = contained_value place _ v k (x.1 ∙ ap (Took v k) empty)

pub inside_more : (l : Limits) (T : TypeTerm) (octets rest : List ℕ) (v : Value) (k : ℕ) → (rest ≡ [] → ⊥)
    → Hears (read_element l T [] outermost) 0 (Some octets) (Said v) k (Some rest)
    → HaltsInside l T octets (errors.Fault (fault k Trailing))
unfolding Hears Reads
inside_more l T octets rest v k some x = behind _ v k rest some x.1

pub inside_stops : (l : Limits) (T : TypeTerm) (octets rest : List ℕ) (e : ReadError) (k : ℕ) → IsFailedRead false e
    → Hears (read_element l T [] outermost) 0 (Some octets) (heard_error e) k (Some rest) → HaltsInside l T octets e
unfolding Hears Reads
inside_stops l T octets rest (errors.Fault f) k told x = ap fault_inside x.1
inside_stops l T octets rest (errors.Read at) k told x = let turned : false ≡ true = told in cc
inside_stops l T octets rest errors.Memory k told x = tt

pub halts_err : {A : Type 0} (Holds : A → Type 0) (l : Limits) (T : TypeTerm) (octets : List ℕ)
    (result : Result A ReadError) (e : ReadError)
    → result ≡ Err e → HaltsInside l T octets e → MatchResult result Holds (HaltsInside l T octets)
halts_err {A} Holds l T octets result e is h =
    subst (λ r. MatchResult {T = A} r Holds (HaltsInside l T octets)) (sym is) h

-- a slice with nothing left, or something
pub none_left : (xs : List ℕ) → true ≡ (length xs == 0) → xs ≡ []
none_left [] e = refl
none_left (x ∷ xs) e = let none : length (x ∷ xs) ≡ 0 = eqb-true (length (x ∷ xs)) 0 (sym e) in absurd (omega arith)

pub some_left : (xs : List ℕ) → false ≡ (length xs == 0) → xs ≡ [] → ⊥
some_left xs e empty = let turned : false ≡ true = e ∙ ap (λ o. length o == 0) empty in cc

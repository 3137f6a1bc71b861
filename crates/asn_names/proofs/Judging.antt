-- What is judged of octets, by what a reader over them answered.
use Rattle.std.proofs.Common.{◌≡◌, ◌∙◌, ◌&&◌, ◌==◌, ◌∷◌, Bool, Err, List, None, Option, Result, Some, [], ap, false, refl, subst, sym, true, ℕ}
use lib.Dec.{eqb}
use lib.Pointwise.{pointwise}
use Rattle.tlv_core.specs.Limits.{Limits}
use Rattle.tlv_core.specs.declared.fault.Fault.{Fault}
use Rattle.tlv_core.specs.declared.fault.ReadError.{ReadError}
use Rattle.tlv_core.specs.declared.reason.Reason.TheVariants.{Trailing}
use Rattle.x690.specs.DerTexts.{der}
use Rattle.x690.specs.Lists.{same_octets}
use Rattle.x690.specs.Points.{fault, outermost}
use Rattle.x690.specs.ReadTypes.{read_document, read_element}
use Rattle.x690.specs.Reads.{Reads, Said}
use Rattle.x690.specs.Reads as heards
use Rattle.x690.specs.TypeTerms.{TypeTerm}
use Rattle.x690.specs.Values.{Value}
use Rattle.ber_pull.specs.Hears.{Hears, heard_error}
use Rattle.asn_names.specs.Judged.{AnswersElement, judged, judgement}
use Rattle.asn_names.specs.declared.judgement.Judgement.TheVariants.{Der, NotDer, Refused}

pub element_stops : {R : Type 0} (remaining : R → Option (List ℕ)) (l : Limits) (T : TypeTerm) (e : ReadError) (k : ℕ)
    (told : Option (List ℕ)) (mid new : R) (before after : List ℕ) (result : Result ℕ ReadError)
    → result ≡ Err e → new ≡ mid → Hears (read_element l T [] outermost) 0 told (heard_error e) k (remaining mid)
    → AnswersElement l T told (remaining new) before after result
element_stops remaining l T e k told mid new before after result is same h =
    subst (AnswersElement l T told (remaining new) before after) (sym is) (
      k,
      subst (λ w. Hears (read_element l T [] outermost) 0 told (heard_error e) k (remaining w)) (sym same) h,
    )

pub judged_refused : (l : Limits) (T : TypeTerm) (octets : List ℕ) (found : Fault) (k : ℕ) (left : Option (List ℕ))
    → Hears (read_element l T [] outermost) 0 (Some octets) (heards.Refused found) k left
    → Refused found ≡ judged l T octets
unfolding Hears Reads read_document
judged_refused l T octets found k None x = absurd x
judged_refused l T octets found k (Some rest) x = ap (judgement octets) (sym x.1)

pub judged_more : (l : Limits) (T : TypeTerm) (octets rest : List ℕ) (v : Value) (k : ℕ)
    → (rest ≡ [] → ⊥) → Hears (read_element l T [] outermost) 0 (Some octets) (Said v) k (Some rest)
    → Refused (fault k Trailing) ≡ judged l T octets
unfolding Hears Reads read_document
judged_more l T octets [] v k some x = absurd (some refl)
judged_more l T octets (octet ∷ more) v k some x = ap (judgement octets) (sym x.1)

pub same_compared : (xs ys : List ℕ) → pointwise eqb xs ys ≡ same_octets xs ys
same_compared [] [] = refl
same_compared [] (y ∷ ys) = refl
same_compared (x ∷ xs) [] = refl
same_compared (x ∷ xs) (y ∷ ys) = ap (λ b. (x == y) && b) (same_compared xs ys)

pub judged_whole : (l : Limits) (T : TypeTerm) (octets rest text : List ℕ) (v : Value) (k : ℕ) (b : Bool)
    → rest ≡ [] → text ≡ der v → b ≡ pointwise eqb text octets
    → Hears (read_element l T [] outermost) 0 (Some octets) (Said v) k (Some rest)
    → elim b [ true ↦ Der | false ↦ NotDer ] ≡ judged l T octets
unfolding Hears Reads read_document
judged_whole l T octets [] text v k b none is e x =
    ap (λ z. elim z [ true ↦ Der | false ↦ NotDer ])
    (e ∙ (ap (λ t. pointwise eqb t octets) is ∙ same_compared (der v) octets))
    ∙ ap (judgement octets) (sym x.1)
judged_whole l T octets (octet ∷ more) text v k b none is e x = cc

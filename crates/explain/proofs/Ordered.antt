-- The causes of elements, found from the last one on.
use Rattle.std.proofs.Common.{Bool, List, None, Option, Some, ℕ, [], ap, arith, cond, drop, false, get_or, length, map, nat_lt, not, refl, slice_get, slice_set, subst, suc, sym, true, unwrap_or, zero, ◌+◌, ◌&&◌, ◌<◌, ◌==◌, ◌||◌, ◌∙◌, ◌∷◌, ◌≡◌, ◌≤◌}
use Rattle.std.proofs.Math.Numerals.{add-one}
use Rattle.std.proofs.Math.Seq.{drop-nil}
use Rattle.std.proofs.lemmas.Bool.{eq-eqb, ne_eqb}
use Rattle.std.proofs.lemmas.Bool.Decides.{nat_tests}
use Rattle.std.proofs.lemmas.List.{drop_all}
use Rattle.x690.specs.DerTexts.{padded_less}
use Rattle.asn_elements.specs.Members.{ascends}
use Rattle.asn_names.specs.declared.element.NamedElement.{NamedElement}
use Rattle.explain.specs.Causes.{causes_of, first_of_both, is_disordered, is_disordered_by, order_cause, own_cause, with_order}
use Rattle.reports.specs.declared.report.Cause.{Cause}
use Rattle.reports.specs.declared.report.Cause.TheVariants.{Order}

-- of the first elements, so many, their own causes; of those after them all
abbrev pub own_before : List ℕ → ℕ → List NamedElement → List (Option Cause)
own_before document zero elements = causes_of document elements
own_before document (suc number) [] = []
own_before document (suc number) (element ∷ elements) = own_cause document element ∷ own_before document number elements

all_own : (document : List ℕ) (elements : List NamedElement)
    → own_before document (length elements) elements ≡ map (own_cause document) elements
all_own document [] = refl
all_own document (element ∷ elements) = ap (λ causes. own_cause document element ∷ causes) (all_own document elements)

-- before any of them is done
pub none_ordered : (document : List ℕ) (elements : List NamedElement) (number : ℕ) (causes : List (Option Cause))
    → number ≡ length elements → causes ≡ map (own_cause document) elements
    → causes ≡ own_before document number elements
none_ordered document elements number causes n own =
    own ∙ (sym (all_own document elements) ∙ ap (λ all. own_before document all elements) (sym n))

cond_first : (is : Bool) (one other : Option Cause) (causes : List (Option Cause))
    → cond is (one ∷ causes) (other ∷ causes) ≡ cond is one other ∷ causes
cond_first true one other causes = refl
cond_first false one other causes = refl

cond_after : (is : Bool) (cause : Option Cause) (one other : List (Option Cause))
    → cond is (cause ∷ one) (cause ∷ other) ≡ cause ∷ cond is one other
cond_after true cause one other = refl
cond_after false cause one other = refl

first_ordered : (document : List ℕ) (element : NamedElement) (elements : List NamedElement)
    (causes : List (Option Cause))
    (cause : Option Cause)
    → cond (is_disordered_by document (Some element) (Some cause) elements causes) (Some Order ∷ causes)
    (cause ∷ causes)
    ≡ first_of_both cause (order_cause document element elements causes) ∷ causes
first_ordered document element elements causes None = cond_first _ (Some Order) None causes
first_ordered document element elements causes (Some cause) = refl

-- those after the first one
disordered_after : (document : List ℕ) (element : NamedElement) (elements : List NamedElement) (cause : Option Cause)
    (causes : List (Option Cause)) (number : ℕ)
    → is_disordered document (element ∷ elements) (cause ∷ causes) (suc number)
    ≡ is_disordered document elements causes number
disordered_after document element elements cause causes number =
    let one : suc number + 1 ≡ suc (number + 1) = omega arith in
    ap
    (λ later.
    is_disordered_by document (slice_get elements number) (slice_get causes number) (drop later (element ∷ elements))
    (drop later (cause ∷ causes)))
    one

one_ordered : (document : List ℕ) (elements : List NamedElement) (number : ℕ)
    → with_order document elements (own_before document (suc number) elements) number
    ≡ own_before document number elements
one_ordered document [] zero = refl
one_ordered document [] (suc number) = refl
one_ordered document (element ∷ elements) zero =
    first_ordered document element elements (causes_of document elements) (own_cause document element)
one_ordered document (element ∷ elements) (suc number) =
    let causes = own_before document (suc number) elements in
    let own = own_cause document element in
    ap (λ is. cond is (own ∷ slice_set causes number (Some Order)) (own ∷ causes))
    (disordered_after document element elements own causes number)
    ∙ (cond_after (is_disordered document elements causes number) own (slice_set causes number (Some Order)) causes
    ∙ ap (λ later. own ∷ later) (one_ordered document elements number))

-- the element before those that are done
pub one_more_ordered : (document : List ℕ) (elements : List NamedElement) (before number after : ℕ)
    (old new : List (Option Cause)) → before ≡ suc number → after ≡ number
    → old ≡ own_before document before elements → new ≡ with_order document elements old number
    → new ≡ own_before document after elements
one_more_ordered document elements before number after old new b a o n =
    let done = o ∙ ap (λ more. own_before document more elements) b in
    n
    ∙ (ap (λ causes. with_order document elements causes number) done
    ∙ (one_ordered document elements number ∙ ap (λ more. own_before document more elements) (sym a)))

-- where all are done
pub all_ordered : (document : List ℕ) (elements : List NamedElement) (number : ℕ) (causes : List (Option Cause))
    → number ≡ 0 → causes ≡ own_before document number elements → causes ≡ causes_of document elements
all_ordered document elements number causes n own = own ∙ ap (λ none. own_before document none elements) n

not_less_than_none : (text : List ℕ) → padded_less text [] ≡ false
unfolding padded_less
not_less_than_none [] = refl
not_less_than_none (octet ∷ octets) = refl

-- no text is less than one without octets
pub after_none : (texts : List (List ℕ)) → ascends ([] ∷ texts) ≡ ascends texts
after_none [] = refl
after_none (text ∷ texts) = ap (λ less. not less && ascends (text ∷ texts)) (not_less_than_none text)

or_equal : (less equal later : Bool) → (less ≡ false → equal ≡ true) → (less || later) ≡ (less || (equal && later))
or_equal true equal later h = refl
or_equal false equal later h = ap (λ is. is && later) (sym (h refl))

least_octet : (octet : ℕ) → nat_lt 0 octet ≡ false → (0 == octet) ≡ true
least_octet octet h = grind (arith, nat_tests)

less_than_first : (octet : ℕ) (octets : List ℕ)
    → padded_less [] (octet ∷ octets) ≡ (nat_lt 0 octet || (0 == octet && padded_less [] octets))
unfolding padded_less
less_than_first octet octets = or_equal (nat_lt 0 octet) (0 == octet) (padded_less [] octets) (least_octet octet)

less_at_none : (octets : List ℕ) (place : ℕ) → place < length octets
    → padded_less [] (drop place octets)
    ≡ (nat_lt 0 (get_or octets place 0) || (0 == get_or octets place 0 && padded_less [] (drop (suc place) octets)))
less_at_none [] place h = absurd (omega (arith, h))
less_at_none (octet ∷ octets) zero h = less_than_first octet octets
less_at_none (octet ∷ octets) (suc place) h = less_at_none octets place (omega (arith, h))

-- what comes first by its octet there, or by those after it
less_at : (first second : List ℕ) (place : ℕ) → place < length second
    → padded_less (drop place first) (drop place second)
    ≡ (nat_lt (unwrap_or (slice_get first place) 0) (get_or second place 0)
    || (unwrap_or (slice_get first place) 0 == get_or second place 0
    && padded_less (drop (suc place) first) (drop (suc place) second)))
unfolding padded_less
less_at [] second place h =
    subst
    (λ none.
    padded_less none (drop place second)
    ≡ (nat_lt 0 (get_or second place 0)
    || (0 == get_or second place 0 && padded_less (drop (suc place) []) (drop (suc place) second))))
    (sym (drop-nil place))
    (subst
    (λ none.
    padded_less [] (drop place second)
    ≡ (nat_lt 0 (get_or second place 0) || (0 == get_or second place 0 && padded_less none (drop (suc place) second))))
    (sym (drop-nil (suc place))) (less_at_none second place h))
less_at (own ∷ first) [] place h = absurd (omega (arith, h))
less_at (own ∷ first) (other ∷ second) zero h = refl
less_at (own ∷ first) (other ∷ second) (suc place) h = less_at first second place (omega (arith, h))

less_by : (first second : List ℕ) (place one : ℕ) → place < length second
    → one ≡ unwrap_or (slice_get first place) 0
    → padded_less (drop place first) (drop place second)
    ≡ (nat_lt one (get_or second place 0)
    || (one == get_or second place 0 && padded_less (drop (suc place) first) (drop (suc place) second)))
less_by first second place one h o =
    less_at first second place h
    ∙ ap
    (λ octet.
    nat_lt octet (get_or second place 0)
    || (octet == get_or second place 0 && padded_less (drop (suc place) first) (drop (suc place) second)))
    (sym o)

other_octet : (less equal later : Bool) → equal ≡ false → (less || (equal && later)) ≡ less
other_octet true true later h = refl
other_octet true false later h = refl
other_octet false true later h = absurd (cc)
other_octet false false later h = refl

same_octet : (less equal later : Bool) → less ≡ false → equal ≡ true → (less || (equal && later)) ≡ later
same_octet true equal later l e = absurd (cc)
same_octet false true later l e = refl
same_octet false false later l e = absurd (cc)

not_less : (one other : ℕ) → one ≡ other → nat_lt one other ≡ false
not_less one other h = grind (arith, nat_tests)

-- where the octets differ
pub less_here : (first second : List ℕ) (place one : ℕ) → place < length second
    → one ≡ unwrap_or (slice_get first place) 0 → (one ≡ get_or second place 0 → ⊥)
    → nat_lt one (get_or second place 0) ≡ padded_less (drop place first) (drop place second)
less_here first second place one h o other =
    sym
    (less_by first second place one h o
    ∙ other_octet (nat_lt one (get_or second place 0)) (one == get_or second place 0) _
    (ne_eqb one (get_or second place 0) other))

-- where they are the same
pub less_after : (first second : List ℕ) (place one : ℕ) → place < length second
    → one ≡ unwrap_or (slice_get first place) 0 → one ≡ get_or second place 0
    → padded_less (drop (place + 1) first) (drop (place + 1) second)
    ≡ padded_less (drop place first) (drop place second)
less_after first second place one h o same =
    ap (λ later. padded_less (drop later first) (drop later second)) (add-one place)
    ∙ sym
    (less_by first second place one h o
    ∙ same_octet (nat_lt one (get_or second place 0)) (one == get_or second place 0) _
    (not_less one (get_or second place 0) same) (eq-eqb one (get_or second place 0) same))

-- after all octets of the second
pub less_at_end : (first second : List ℕ) (place : ℕ) → length second ≤ place
    → false ≡ padded_less (drop place first) (drop place second)
less_at_end first second place h =
    sym
    (ap (padded_less (drop place first)) (drop_all place second h) ∙ not_less_than_none (drop place first))

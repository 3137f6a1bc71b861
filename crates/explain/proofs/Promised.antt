-- The lines of a report are those of the elements in no private one.
use Rattle.std.proofs.Common.{Bool, List, None, Option, Some, ℕ, [], ap, arith, cond, false, inl, inr, length, refl, slice_get, subst, suc, sym, take, true, zero, ◌+◌, ◌++◌, ◌<◌, ◌∙◌, ◌∷◌, ◌≡◌, ◌≤◌, ◌⊎◌, ◌||◌}
use Rattle.std.proofs.lemmas.List.{append-nil, append_assoc, length-take-le}
use Rattle.std.proofs.lemmas.Option.{get_or_from_slice_get, slice_get_past, slice_get_within}
use Rattle.std.proofs.Math.Nat.{zero-add}
use Rattle.std.proofs.Math.Seq.{take-length, take-suc}
use Rattle.std.specs.Option.{is_some}
use Rattle.x690.specs.Lists.{Each}
use Rattle.asn_names.specs.declared.element.NamedElement.{NamedElement}
use Rattle.asn_names.specs.declared.element.Step.{Step}
use Rattle.tlv_core.specs.Limits.{Limits}
use Rattle.pk_documents.specs.Kinds.{type_of}
use Rattle.pk_documents.specs.declared.kind.Kind.{Kind}
use Rattle.explain.specs.Answers.{IsAnswer}
use Rattle.explain.specs.Causes.{line_cause}
use Rattle.explain.specs.Disclosures.{IsShown}
use Rattle.explain.specs.FaultLines.{AddsFault, AddsPlace, IsPlaceAlone, is_between, line_at}
use Rattle.explain.specs.Fronts.{is_deeper}
use Rattle.explain.specs.Insides.{carried_by}
use Rattle.explain.specs.Lines.{AddsLine}
use Rattle.explain.specs.Listings.{AddsAfter, AddsDocument, AddsOne, IsNext, ListingState, Lists, ListsFile, after_inside, first_inside, hidden_after, inside_document, number_around, start_of}
use Rattle.explain.specs.Places.{ListedDocument, placed_in}
use Rattle.explain.specs.Promises.{EndsIn, HasInner, HasLines, IsFront, IsLineOf, IsListing, in_no_private}
use Rattle.explain.specs.Reports.{IsReportOf}
use Rattle.explain.specs.Rules.{causes_by, front_document}
use Rattle.explain.specs.Wordings.{IsListingBy, IsWordedReport}
use Rattle.explain.specs.declared.disclosed.Disclosed.{Disclosed}
use Rattle.explain.specs.declared.profile.Profile.{Profile}
use Rattle.explain.specs.declared.document.inside.Inside.{Inside}
use Rattle.reports.specs.declared.report.Answer.{Answer}
use Rattle.reports.specs.declared.report.Answer.TheVariants.{Der, NotDer, Refused}
use Rattle.reports.specs.declared.report.Cause.{Cause}
use Rattle.reports.specs.declared.report.Line.{Line}
use Rattle.reports.specs.declared.report.Report.{Report}

each_both : {A B : Type 0} (R : A → B → Type 0) (xs zs : List A) (ys ws : List B) → Each R xs ys → Each R zs ws
    → Each R (xs ++ zs) (ys ++ ws)
each_both R [] zs [] ws h g = g
each_both R [] zs (y ∷ ys) ws h g = absurd h
each_both R (x ∷ xs) zs [] ws h g = absurd h
each_both R (x ∷ xs) zs (y ∷ ys) ws h g = (h.0, each_both R xs zs ys ws h.1 g)

-- how deep the private element is that what comes after elements is in
abbrev hidden_all : Option ℕ → List NamedElement → Option ℕ
hidden_all private [] = private
hidden_all private (element ∷ elements) = hidden_all (hidden_after private element) elements

hidden_both : (private : Option ℕ) (elements : List NamedElement) (element : NamedElement)
    → hidden_all private (elements ++ (element ∷ [])) ≡ hidden_after (hidden_all private elements) element
hidden_both private [] element = refl
hidden_both private (one ∷ elements) element = hidden_both (hidden_after private one) elements element

abbrev shown_one : Option ℕ → NamedElement → List NamedElement
shown_one private element = cond (is_deeper private element) [] (element ∷ [])

shown_both : (private : Option ℕ) (elements : List NamedElement) (element : NamedElement)
    → in_no_private private (elements ++ (element ∷ []))
    ≡ in_no_private private elements ++ shown_one (hidden_all private elements) element
shown_both private [] element = append-nil (cond (is_deeper private element) [] (element ∷ []))
shown_both private (one ∷ elements) element =
    let first = cond (is_deeper private one) [] (one ∷ []) in
    let more = in_no_private (hidden_after private one) elements in
    let last = shown_one (hidden_all (hidden_after private one) elements) element in
    ap (λ some. first ++ some) (shown_both (hidden_after private one) elements element)
    ∙ sym (append_assoc first more last)

-- the first elements, one more of them
first_more : (elements : List NamedElement) (number : ℕ) (element : NamedElement)
    → slice_get elements number ≡ Some element
    → take (suc number) elements ≡ take number elements ++ (element ∷ [])
first_more elements number element listed =
    take-suc elements number element (slice_get_within elements number element listed)
    ∙ ap (λ one. take number elements ++ (one ∷ [])) (get_or_from_slice_get elements number element element listed)

first_none : (elements : List NamedElement) (number : ℕ) → slice_get elements number ≡ None
    → take (suc number) elements ≡ take number elements
first_none [] zero e = refl
first_none [] (suc number) e = refl
first_none (element ∷ elements) zero e = absurd (cc)
first_none (element ∷ elements) (suc number) e = ap (λ some. element ∷ some) (first_none elements number e)

-- what an element adds to the lines: its own, unless it is in a private one
record Adds (document : ListedDocument) (hidden : Bool) (element : NamedElement) (old new : List Line) : Type 0 where
  more : List Line
  are : new ≡ old ++ more
  lines : Each (IsLineOf document None) (cond hidden [] (element ∷ [])) more

adds_line : (document : ListedDocument) (element : NamedElement) (around : ℕ) (hidden : Bool) (cause : Option Cause)
    (old new : List Line)
    → AddsLine hidden document.is_carried document.octets (placed_in document element around) element cause None old new
    → Adds document hidden element old new
adds_line document element around true cause old new h =
    record { more = []; are = h ∙ sym (append-nil old); lines = tt }
adds_line document element around false cause old new h = record {
  more = h.0 ∷ [];
  are = h.1;
  lines = (record { around = around; header = h.2; value = h.3; carries_is = h.5 }, tt);
}

-- The lines of the first elements of a document, so many, after others.
record Run (document : ListedDocument) (start : List Line) (number : ℕ) (state : ListingState) : Type 0 where
  hidden : state.hidden ≡ hidden_all None (take number document.elements)
  run : List Line
  are : state.lines ≡ start ++ run
  own : Each (IsLineOf document None) (in_no_private None (take number document.elements)) run

run_more : (document : ListedDocument) (start : List Line) (number : ℕ) (found : Option NamedElement)
    (cause : Option Cause) (before after : ListingState) → slice_get document.elements number ≡ found
    → AddsOne document cause None found before after → Run document start number before
    → Run document start (suc number) after
run_more document start number None cause before after listed h state =
    let first = first_none document.elements number listed in record {
      hidden = ap (λ (it : ListingState). it.hidden) h ∙ (state.hidden ∙ ap (hidden_all None) (sym first));
      run = state.run;
      are = ap (λ (it : ListingState). it.lines) h ∙ state.are;
      own = subst (λ some. Each (IsLineOf document None) (in_no_private None some) state.run) (sym first) state.own;
    }
run_more document start number (Some element) cause before after listed h state =
    let elements = take number document.elements in
    let first = first_more document.elements number element listed in
    let adds = adds_line document element (number_around before.numbers document.around element)
    (is_deeper before.hidden element) cause before.lines after.lines h.line in
    let shown : in_no_private None (take (suc number) document.elements)
    ≡ in_no_private None elements ++ cond (is_deeper before.hidden element) [] (element ∷ []) =
    ap (in_no_private None) first
    ∙ (shown_both None elements element
    ∙ ap (λ it. in_no_private None elements ++ cond (is_deeper it element) [] (element ∷ [])) (sym state.hidden)) in
    record {
      hidden = h.hidden
          ∙ (ap (λ it. hidden_after it element) state.hidden
          ∙ (sym (hidden_both None elements element) ∙ ap (hidden_all None) (sym first)));
      run = state.run ++ adds.more;
      are = adds.are ∙ (ap (λ some. some ++ adds.more) state.are ∙ append_assoc start state.run adds.more);
      own = subst (λ some. Each (IsLineOf document None) some (state.run ++ adds.more)) (sym shown)
          (each_both (IsLineOf document None) (in_no_private None elements)
          (cond (is_deeper before.hidden element) [] (element ∷ [])) state.run adds.more state.own adds.lines);
    }

run_all : (document : ListedDocument) (start : List Line) (number : ℕ) (end : ListingState)
    → Lists document number (start_of start) end → Run document start number end
run_all document start zero end h = record {
  hidden = ap (λ it. it.hidden) h;
  run = [];
  are = ap (λ it. it.lines) h ∙ sym (append-nil start);
  own = tt;
}
run_all document start (suc number) end h =
    run_more document start number (slice_get document.elements number)
    (line_cause document.elements document.causes number) h.0 end refl h.2 (run_all document start number h.0 h.1)

-- the lines of the document inside an element, after others
record Holds (inside : Option Inside) (before after : ListingState) : Type 0 where
  inner : List Line
  are : after.lines ≡ before.lines ++ inner
  holds : HasInner inside inner
  hidden : after.hidden ≡ before.hidden

holds_after : (causes : List (Option Cause)) (inside : Inside) (number : ℕ) (line : Line) (found : Option Line)
    (before after : ListingState) → found ≡ Some line → AddsAfter causes inside number found before after
    → Holds (Some inside) before after
holds_after causes inside number line None before after e h = absurd (cc)
holds_after causes inside number line (Some other) before after e h =
    let document = inside_document causes inside other.depth number in
    let run = run_all document before.lines (length document.elements) h.end h.lists in record {
      inner = run.run;
      are = h.lines ∙ run.are;
      holds = (
        document.causes,
        document.depth,
        number,
        subst (λ some. Each (IsLineOf document None) (in_no_private None some) run.run) (take-length document.elements)
            run.own,
      );
      hidden = h.hidden;
    }

holds_document : (causes : List (Option Cause)) (inside : Option Inside) (number : ℕ) (line : Line)
    (before after : ListingState) → slice_get before.lines number ≡ Some line
    → AddsDocument causes inside number before after → Holds inside before after
holds_document causes None number line before after e h = record {
  inner = [];
  are = ap (λ it. it.lines) h ∙ sym (append-nil before.lines);
  holds = refl;
  hidden = ap (λ it. it.hidden) h;
}
holds_document causes (Some inside) number line before after e h =
    holds_after causes inside number line (slice_get before.lines number) before after e h

-- an element that has no line contains none
none_after : (causes : List (Option Cause)) (inside : Inside) (number : ℕ) (found : Option Line)
    (before after : ListingState) → found ≡ None → AddsAfter causes inside number found before after → after ≡ before
none_after causes inside number None before after e h = h
none_after causes inside number (Some line) before after e h = absurd (cc)

none_document : (causes : List (Option Cause)) (inside : Option Inside) (number : ℕ) (before after : ListingState)
    → slice_get before.lines number ≡ None → AddsDocument causes inside number before after → after ≡ before
none_document causes None number before after e h = h
none_document causes (Some inside) number before after e h =
    none_after causes inside number (slice_get before.lines number) before after e h

-- of elements one after another: which documents are left, and the number of the next element
abbrev left_all : List Inside → ℕ → List NamedElement → List Inside
left_all insides number [] = insides
left_all insides number (element ∷ elements) = left_all (after_inside insides number) (suc number) elements

abbrev number_all : ℕ → List NamedElement → ℕ
number_all number [] = number
number_all number (element ∷ elements) = number_all (suc number) elements

left_both : (insides : List Inside) (number : ℕ) (elements : List NamedElement) (element : NamedElement)
    → left_all insides number (elements ++ (element ∷ []))
    ≡ after_inside (left_all insides number elements) (number_all number elements)
left_both insides number [] element = refl
left_both insides number (one ∷ elements) element =
    left_both (after_inside insides number) (suc number) elements element

number_is : (number : ℕ) (elements : List NamedElement) → number_all number elements ≡ number + length elements
number_is number [] = omega arith
number_is number (element ∷ elements) =
    let more : suc number + length elements ≡ number + suc (length elements) = omega arith in
    number_is (suc number) elements ∙ more

-- one type or the other
abbrev Case : Bool → Type 0 → Type 0 → Type 0
Case is A B = elim is [ true ↦ A | false ↦ B ]

by_both : {A B C D : Type 0} (is : Bool) → (A → C) → (B → D) → Case is A B → Case is C D
by_both true one other h = one h
by_both false one other h = other h

lines_more : (file : ListedDocument) (insides : List Inside) (private : Option ℕ) (number : ℕ)
    (elements : List NamedElement) (element : NamedElement) (lines more : List Line)
    → HasLines file insides private number elements lines
    → HasLines file (left_all insides number elements) (hidden_all private elements) (number_all number elements)
    (element ∷ []) more
    → HasLines file insides private number (elements ++ (element ∷ [])) (lines ++ more)
lines_more file insides private number [] element lines more h g =
    subst (λ some. HasLines file insides private number (element ∷ []) (some ++ more)) (sym h) g
lines_more file insides private number (one ∷ elements) element lines more h g =
    by_both (is_deeper private one)
    (λ has.
    lines_more file (after_inside insides number) (hidden_after private one) (suc number) elements element lines more has
    g)
    (λ has. (
      has.0,
      has.1,
      has.2 ++ more,
      ap (λ some. some ++ more) has.3 ∙ ap (λ some. has.0 ∷ some) (append_assoc has.1 has.2 more),
      has.4,
      has.5,
      lines_more file (after_inside insides number) (hidden_after private one) (suc number) elements element has.2 more
          has.6 g,
    ))
    h

-- the last one of lines
last_line : (lines : List Line) (line : Line) → slice_get (lines ++ (line ∷ [])) (length lines) ≡ Some line
last_line [] line = refl
last_line (one ∷ lines) line = last_line lines line

-- the lines of one element of a file, with those of the document inside it
record One (file : ListedDocument) (others : List Inside) (number : ℕ) (hidden : Bool) (after : Option ℕ)
    (element : NamedElement) (before end : List Line) : Type 0 where
  more : List Line
  are : end ≡ before ++ more
  lines : Case hidden (HasLines file (after_inside others number) after (suc number) [] more)
      ((line : Line) × (inner : List Line) × (rest : List Line) × (more ≡ line ∷ (inner ++ rest))
      × IsLineOf file (carried_by (first_inside others number)) element line
      × HasInner (first_inside others number) inner
      × HasLines file (after_inside others number) after (suc number) [] rest)

one_by : (file : ListedDocument) (others : List Inside) (number around : ℕ) (hidden : Bool) (after : Option ℕ)
    (element : NamedElement) (cause : Option Cause) (before mid end : ListingState)
    → AddsLine hidden file.is_carried file.octets (placed_in file element around) element cause
    (carried_by (first_inside others number)) before.lines mid.lines
    → AddsDocument file.causes (first_inside others number) (length before.lines) mid end
    → (end.hidden ≡ mid.hidden) × One file others number hidden after element before.lines end.lines
one_by file others number around true after element cause before mid end line document =
    let few : length mid.lines ≤ length before.lines = subst (λ some. length some ≤ length before.lines) (sym line)
    (omega arith) in
    let same = none_document file.causes (first_inside others number) (length before.lines) mid end
    (slice_get_past mid.lines (length before.lines) few) document in (
      ap (λ (it : ListingState). it.hidden) same,
      record {
        more = [];
        are = ap (λ (it : ListingState). it.lines) same ∙ (line ∙ sym (append-nil before.lines));
        lines = refl;
      },
    )
one_by file others number around false after element cause before mid end line document =
    let last : slice_get mid.lines (length before.lines) ≡ Some line.0 =
    ap (λ some. slice_get some (length before.lines)) line.1 ∙ last_line before.lines line.0 in
    let holds = holds_document file.causes (first_inside others number) (length before.lines) line.0 mid
    end last document in (
      holds.hidden,
      record {
        more = line.0 ∷ holds.inner;
        are = holds.are
            ∙ (ap (λ some. some ++ holds.inner) line.1 ∙ append_assoc before.lines (line.0 ∷ []) holds.inner);
        lines = (
          line.0,
          holds.inner,
          [],
          ap (λ some. line.0 ∷ some) (sym (append-nil holds.inner)),
          record { around = around; header = line.2; value = line.3; carries_is = line.5 },
          holds.holds,
          refl,
        );
      },
    )

listed_at : (elements : List NamedElement) (number : ℕ) → number < length elements
    → (element : NamedElement) × (slice_get elements number ≡ Some element)
listed_at [] number less = absurd (omega arith)
listed_at (element ∷ elements) zero less = (element, refl)
listed_at (element ∷ elements) (suc number) less = listed_at elements number (omega (arith, less))

-- what is known of the lines of the first elements of a file, so many
record State (file : ListedDocument) (insides : List Inside) (number : ℕ) (left : List Inside) (state : ListingState)
    : Type 0 where
  hidden : state.hidden ≡ hidden_all None (take number file.elements)
  left_are : left ≡ left_all insides 0 (take number file.elements)
  lines : HasLines file insides None 0 (take number file.elements) state.lines

state_more : (file : ListedDocument) (insides others left : List Inside) (number : ℕ) (element : NamedElement)
    (before mid end : ListingState) → number < length file.elements
    → slice_get file.elements number ≡ Some element
    → IsNext file (line_cause file.elements file.causes number) (carried_by (first_inside others number)) element before
    mid
    → AddsDocument file.causes (first_inside others number) (length before.lines) mid end
    → left ≡ after_inside others number → State file insides number others before
    → State file insides (suc number) left end
state_more file insides others left number element before mid end less listed next document e state =
    let elements = take number file.elements in
    let first = first_more file.elements number element listed in
    let number_of : number_all 0 elements ≡ number =
    number_is 0 elements ∙ (ap (λ n. 0 + n) (length-take-le number file.elements (omega (arith, less))) ∙ zero-add number) in
    let one = one_by file others number (number_around before.numbers file.around element)
    (is_deeper before.hidden element) (hidden_after before.hidden element) element
    (line_cause file.elements file.causes number) before mid end next.line document in
    let lines : HasLines file others before.hidden number (element ∷ []) one.1.more = one.1.lines in
    let moved : HasLines file (left_all insides 0 elements) (hidden_all None elements) (number_all 0 elements)
    (element ∷ []) one.1.more =
    subst
    (λ n. HasLines file (left_all insides 0 elements) (hidden_all None elements) n (element ∷ []) one.1.more)
    (sym number_of)
    (subst (λ p. HasLines file (left_all insides 0 elements) p number (element ∷ []) one.1.more) state.hidden
    (subst (λ some. HasLines file some before.hidden number (element ∷ []) one.1.more) state.left_are lines)) in
    record {
      hidden = one.0
          ∙ (next.hidden
          ∙ (ap (λ it. hidden_after it element) state.hidden
          ∙ (sym (hidden_both None elements element) ∙ ap (hidden_all None) (sym first))));
      left_are = e
          ∙ (ap (λ some. after_inside some number) state.left_are
          ∙ (ap (λ n. after_inside (left_all insides 0 elements) n) (sym number_of)
          ∙ (sym (left_both insides 0 elements element) ∙ ap (left_all insides 0) (sym first))));
      lines = subst (λ some. HasLines file insides None 0 some end.lines) (sym first)
          (subst (λ some. HasLines file insides None 0 (elements ++ (element ∷ [])) some) (sym one.1.are)
          (lines_more file insides None 0 elements element before.lines one.1.more state.lines moved));
    }

whole_file : (file : ListedDocument) (insides : List Inside) (number : ℕ) (left : List Inside) (end : ListingState)
    → number ≤ length file.elements → ListsFile file insides number left end → State file insides number left end
whole_file file insides zero left end few h = record {
  hidden = ap (λ (it : ListingState). it.hidden) h.1;
  left_are = h.0;
  lines = ap (λ (it : ListingState). it.lines) h.1;
}
whole_file file insides (suc number) left end few h =
    let less : number < length file.elements = omega (arith, few) in
    let listed = listed_at file.elements number less in
    state_more file insides h.0 left number listed.0 h.1 h.2 end less listed.1
    (subst
    (λ found.
    AddsOne file (line_cause file.elements file.causes number) (carried_by (first_inside h.0 number)) found h.1 h.2)
    listed.1 h.4) h.5 h.6
    (whole_file file insides number h.0 h.1 (omega (arith, few)) h.3)

is_front : (limits : Limits) (of : Kind) (document : List ℕ) (answer : Answer) (front : List ℕ) (path : List Step)
    (class : Option ℕ) → IsShown limits of document answer front path class → IsFront answer document front
is_front limits of document Der front path class h = h.0
is_front limits of document (NotDer place) front path class h = h.0
is_front limits of document (Refused fault) front path class h = (_, h.front_is)

ends_place : (is : Bool) (place depth : ℕ) (old new : List Line) → AddsPlace is place depth old new
    → (new ≡ old) ⊎ ((line : Line) × (deep : ℕ) × (new ≡ old ++ (line ∷ [])) × IsPlaceAlone place deep line)
ends_place true place depth old new h = inl h
ends_place false place depth old new h = inr (h.0, depth, h.1, h.2)

ends_in : (answer : Answer) (depth : ℕ) (old new : List Line) → AddsFault answer depth old new → EndsIn answer old new
ends_in Der depth old new h = h
ends_in (NotDer place) depth old new h = h
ends_in (Refused fault) depth old new h =
    ends_place (is_between fault.why || is_some (line_at old fault.at)) fault.at depth old new h

is_listing : (limits : Limits) (of : Kind) (disclosed : Disclosed) (lines : List Line)
    → IsListingBy limits of disclosed lines → IsListing limits of disclosed.answer disclosed.front.now lines
is_listing limits of disclosed lines is =
    let file = front_document disclosed.answer disclosed.front.now is.elements in
    let state = whole_file file is.insides (length is.elements) is.listed.left is.listed.end (omega arith)
    is.listed.lists in
    record {
      root = is.root;
      is_shape = is.is_shape;
      elements = is.elements;
      mismatch = is.mismatch;
      is_named = is.is_named;
      insides = is.insides;
      has_insides = is.has_insides;
      causes = causes_by disclosed.answer disclosed.front.now is.elements;
      are = subst (HasLines file is.insides None 0 is.elements) (sym is.listed.are)
          (subst (λ some. HasLines file is.insides None 0 some is.listed.end.lines) (take-length is.elements)
          state.lines);
    }

-- What is worded so keeps what is promised of a report.
pub promised : (profile : Profile) (limits : Limits) (of : Kind) (document : List ℕ) (report : Report)
    → IsWordedReport profile limits of document report → IsReportOf profile limits of document report
promised profile limits of document report h =
    let disclosed = h.disclosed in
    let same = sym h.made_of.answer in record {
      octets = h.made_of.octets ∙ h.is_disclosed.octets;
      answer = subst (IsAnswer limits (type_of of) document) same h.is_disclosed.answer;
      front = disclosed.front.now;
      is_front = subst (λ it. IsFront it document disclosed.front.now) same
          (is_front limits of document disclosed.answer disclosed.front.now disclosed.path.items disclosed.class
          h.is_disclosed.shown);
      listing = h.made_of.listing;
      is_listing = subst (λ it. IsListing limits of it disclosed.front.now h.made_of.listing) same
          (is_listing limits of disclosed h.made_of.listing h.made_of.is_listing);
      lines = subst (λ it. EndsIn it h.made_of.listing report.lines.items) same
          (ends_in disclosed.answer (length disclosed.path.items) h.made_of.listing report.lines.items h.made_of.lines);
      worded = h;
    }

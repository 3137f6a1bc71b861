-- The octets of certificationRequestInfo in those of a request.
use Rattle.std.proofs.Common.{◌≡◌, ◌∙◌, ◌↔◌, ◌⊎◌, ◌++◌, ◌-◌, ◌≤◌, ◌∷◌, ⊎_elim, Err, IfErr, List, None, Ok, Option, Result, Some, [], ap, append-nil, append_assoc, arith, drop, false, inl, inr, length, length-append, refl, slice_get, subst, sym, take, true, ℕ}
use Rattle.std.proofs.Math.Seq.{drop-append_seam, take-append_seam}
use Rattle.std.specs.Io.KnownBytes.{IsAtEnd}
use Rattle.tlv_core.specs.Identifier.{identifier}
use Rattle.tlv_core.specs.Length.{SpellsLength}
use Rattle.tlv_core.specs.Limits.{Limits}
use Rattle.tlv_core.specs.declared.fault.ReadError.{ReadError}
use Rattle.tlv_core.specs.declared.fault.ReadError.TheVariants as errors
use Rattle.x690.specs.Answers.{Refused, Spelled, answer}
use Rattle.std.specs.Option.{option_map_or}
use Rattle.x690.specs.DerTexts.{der}
use Rattle.x690.specs.Fitting.{Fits, FitsFields, Spells}
use Rattle.x690.specs.Layouts.{Constructed, FirstTree, LaidOut, NoTrees, RawTree, RawTrees, member_trees, tree_depth, universal}
use Rattle.x690.specs.Values.{Same, Value, members, sequence_members}
use Rattle.x690_laws.proofs.AnswersOfDocuments.{spelling_is_answered}
use Rattle.x690_laws.proofs.LayoutsApart.{tree_alone}
use Rattle.x690_laws.proofs.ValuesOfTrees.{one_value}
use Rattle.pkix_definitions.specs.DocumentTypes.{CertificationRequest, CertificationRequestInfo, request_fields}
use Rattle.pkix_definitions.proofs.LawfulTypes.{request_info}
use Rattle.asn_elements.specs.Whole.{IsFailedRead}
use Rattle.asn_documents.specs.Checked.{CheckedAs, Unchecked}
use Rattle.asn_documents.specs.ReadValues.{ReadsValue, StopsReading}
use Rattle.asn_documents.specs.WholeInputs.{Followed}
use Rattle.pk_documents.specs.RequestParts.{part_of, text_at}
use Rattle.pk_documents.specs.declared.request_part.Part.TheVariants.{Info}
use Rattle.pk_documents.proofs.PartsStand.{part_stands}
use Rattle.pk_documents.proofs.RequestParts.{part_same}
use Rattle.explain.specs.Received.{NotReceived, Received, ReceivedOfRequests, behind_header}

-- ---- the header

-- what stands behind identifier and length octets
header_is_passed : (n : ℕ) (length_octets contents : List ℕ)
    → SpellsLength n length_octets ⊎ (length_octets ≡ 128 ∷ [])
    → behind_header (identifier (universal 16) true ++ (length_octets ++ contents)) ≡ contents
unfolding identifier SpellsLength
header_is_passed n [] contents (inl h) = absurd h
header_is_passed n (x ∷ octets) contents (inl (inl h)) =
    let none : x - 128 ≡ 0 = omega (arith, h.0) in
    ap (λ k. drop k (octets ++ contents)) none ∙ ap (λ o. o ++ contents) h.2
header_is_passed n (x ∷ octets) contents (inl (inr h)) =
    let many : x - 128 ≡ length octets = omega (arith, h.2) in
    ap (λ k. drop k (octets ++ contents)) many ∙ drop-append_seam octets contents
header_is_passed n [] contents (inr e) = absurd cc
header_is_passed n (x ∷ octets) contents (inr e) =
    let first : x ≡ 128 = cc in
    let none : x - 128 ≡ 0 = omega (arith, first) in
    let more : octets ≡ [] = cc in
    ap (λ k. drop k (octets ++ contents)) none ∙ ap (λ o. o ++ contents) more

pub behind_is : (l : Limits) (octets part : List ℕ) → (r : Received l octets part)
    → behind_header octets ≡ part ++ r.behind
behind_is l octets part r =
    ap behind_header r.is ∙ header_is_passed _ r.length_octets (part ++ r.behind) r.has_length

-- ---- there is a part

-- the octets of the first member of an element, and those around it
record FirstOf (tree : RawTree) (octets : List ℕ) : Type 0 where
  pub part : List ℕ
  pub length_octets : List ℕ
  pub behind : List ℕ
  pub is : octets ≡ identifier (universal 16) true ++ (length_octets ++ (part ++ behind))
  pub has_length : SpellsLength (length (part ++ behind)) length_octets ⊎ (length_octets ≡ 128 ∷ [])
  pub laid_out : LaidOut tree part

first_of : (tree : RawTree) (trees : RawTrees) (octets : List ℕ)
    → LaidOut (Constructed (universal 16) (FirstTree tree trees)) octets → FirstOf tree octets
unfolding LaidOut
first_of tree trees octets h =
    let contents = h.1.0 in
    let all = h.1.1 in
    let front = identifier (universal 16) true in
    ⊎_elim
    (λ d. record {
      part = all.0;
      length_octets = d.length_octets;
      behind = all.1;
      is = d.is ∙ ap (λ o. front ++ (d.length_octets ++ o)) all.4;
      has_length = inl (subst (λ o. SpellsLength (length o) d.length_octets) all.4 d.spells);
      laid_out = all.2;
    })
    (λ d. record {
      part = all.0;
      length_octets = 128 ∷ [];
      behind = all.1 ++ (0 ∷ 0 ∷ []);
      is = d.is
          ∙ ap (λ o. front ++ (128 ∷ (o ++ (0 ∷ 0 ∷ [])))) all.4
          ∙ ap (λ o. front ++ (128 ∷ o)) (append_assoc all.0 all.1 (0 ∷ 0 ∷ []));
      has_length = inr refl;
      laid_out = all.2;
    })
    h.1.2

-- the first member of a request, and its octets
record InfoOf (l : Limits) (request : Value) (octets : List ℕ) : Type 0 where
  pub tree : RawTree
  pub info : Value
  pub first : FirstOf tree octets
  pub depth_fits : tree_depth tree ≤ l.depth
  pub fits : Fits l.depth CertificationRequestInfo [] tree info
  pub is_first : slice_get (sequence_members request) 0 ≡ Some info

info_in : (l : Limits) (request : Value) (tree : RawTree) (octets : List ℕ)
    → Fits l.depth CertificationRequest [] tree request → LaidOut tree octets → tree_depth tree ≤ l.depth
    → InfoOf l request octets
unfolding Fits CertificationRequest
info_in l request tree octets h laid deep =
    go h.0 h.4 (subst (λ t. LaidOut t octets) h.2 laid) (subst (λ t. tree_depth t ≤ l.depth) h.2 deep)
  where
    go : (trees : RawTrees) → FitsFields l.depth request_fields [] (member_trees trees) (members h.1)
        → LaidOut (Constructed (universal 16) trees) octets → tree_depth (Constructed (universal 16) trees) ≤ l.depth
        → InfoOf l request octets
    go NoTrees f laid deep = let none : [] ≡ f.0 ∷ f.1 = f.4 in absurd cc
    go (FirstTree t ts) f laid deep =
        let e : t ∷ member_trees ts ≡ f.0 ∷ f.1 = f.4 in
        let same : f.0 ≡ t = cc in
        record {
          tree = t;
          info = f.2;
          first = first_of t ts octets laid;
          depth_fits = omega arith;
          fits = subst (λ u. Fits l.depth CertificationRequestInfo [] u f.2) same f.6;
          is_first = ap (λ v. slice_get (sequence_members v) 0) h.3 ∙ ap (λ vs. slice_get vs 0) f.5;
        }

-- what `info` writes of a request
info_text : (request info : Value) → slice_get (sequence_members request) 0 ≡ Some info
    → part_of Info request ≡ der info
info_text request info e = ap (λ o. option_map_or (text_at []) o []) e

pub there_is : (l : Limits) (request : Value) (octets : List ℕ) → Spells l CertificationRequest request octets
    → (part : List ℕ) × Received l octets part
there_is l request octets s =
    let i = info_in l request s.tree octets s.fits s.laid_out s.depth_fits in
    let f = i.first in
    let stands = part_stands Info request in
    let text = info_text request i.info i.is_first in (
      f.part,
      record {
        request = request;
        is_request = s;
        length_octets = f.length_octets;
        behind = f.behind;
        is = f.is;
        has_length = f.has_length;
        info = i.info;
        is_info = record {
          tree = i.tree;
          depth_fits = i.depth_fits;
          laid_out = f.laid_out;
          fits = i.fits;
          octets_fit = omega (
            arith,
            s.octets_fit,
            ap length f.is,
            length-append (identifier (universal 16) true) (f.length_octets ++ (f.part ++ f.behind)),
            length-append f.length_octets (f.part ++ f.behind),
            length-append f.part f.behind,
          );
          text_fits = omega (
            arith,
            s.text_fits,
            ap length stands.2,
            ap length text,
            length-append stands.0 (part_of Info request ++ stands.1),
            length-append (part_of Info request) stands.1,
          );
        };
        is_first = i.is_first;
      },
    )

-- ---- the part is found by reading it

spelled_count : (t t' : List ℕ) (n n' : ℕ) → Spelled t n ≡ Spelled t' n' → n ≡ n'
spelled_count t t' n n' e = cc

answered : (l : Limits) (octets part : List ℕ) → (r : Received l octets part)
    → answer l CertificationRequestInfo (behind_header octets) ≡ Spelled (der r.info) (length part)
answered l octets part r =
    ap (answer l CertificationRequestInfo) (behind_is l octets part r)
    ∙ spelling_is_answered l CertificationRequestInfo r.info part r.behind request_info.fair r.is_info

-- As many octets are taken as the part has.
pub taken_is : (l : Limits) (request value : Value) (octets before : List ℕ) (after : Option (List ℕ)) (taken : ℕ)
    → Spells l CertificationRequest request octets → before ≡ behind_header octets
    → ReadsValue l CertificationRequestInfo value (Some before) after taken
    → (taken ≤ length before) × Received l octets (take taken before)
taken_is l request value octets before None taken s is h = absurd h.takes
taken_is l request value octets before (Some after) taken s is h =
    let found = there_is l request octets s in
    let part = found.0 in
    let r = found.1 in
    let both = sym (h.answers after) ∙ ap (answer l CertificationRequestInfo) (sym h.takes ∙ is)
    ∙ answered l octets part r in
    let many : taken ≡ length part = spelled_count _ _ taken (length part) both in
    let all : before ≡ part ++ r.behind = is ∙ behind_is l octets part r in
    let cut : take taken before ≡ part =
    ap (λ n. take n before) many ∙ ap (take (length part)) all ∙ take-append_seam part r.behind in (
      omega (arith, many, ap length all, length-append part r.behind),
      subst (Received l octets) (sym cut) r,
    )

-- Nothing but want of memory stops that.
pub memory_alone : (l : Limits) (request : Value) (octets before : List ℕ) (after : Option (List ℕ))
    (error : ReadError)
    → Spells l CertificationRequest request octets → before ≡ behind_header octets
    → StopsReading l CertificationRequestInfo error (Some before) after → IsFailedRead false error
    → error ≡ errors.Memory
memory_alone l request octets before None error s is h fine = absurd h
memory_alone l request octets before (Some after) (errors.Fault found) s is h fine =
    let r = there_is l request octets s in
    let turned : Refused found ≡ Spelled (der r.1.info) (length r.0) =
    sym h.2.answers ∙ ap (answer l CertificationRequestInfo) is ∙ answered l octets r.0 r.1 in absurd cc
memory_alone l request octets before (Some after) (errors.Read at) s is h fine =
    let turned : false ≡ true = fine in absurd cc
memory_alone l request octets before (Some after) errors.Memory s is h fine = refl

-- ---- what is refused

-- All octets that are given are a request where the source ends after it.
pub all_spelled : (l : Limits) (octets : List ℕ) (after : Option (List ℕ)) (taken : ℕ) (place : Option ℕ)
    → (value : Value) × CheckedAs l CertificationRequest value (Some octets) after taken place → IsAtEnd after
    → (request : Value) × Spells l CertificationRequest request octets
all_spelled l octets None taken place h ends = absurd h.1.took.takes
all_spelled l octets (Some rest) taken place h ends =
    let took = h.1.took in
    let all : octets ≡ took.octets = took.takes ∙ ap (λ o. took.octets ++ o) ends ∙ append-nil took.octets in
    (h.0, subst (Spells l CertificationRequest h.0) (sym all) took.spells)

pub refused_as : (l : Limits) (octets : List ℕ) (after : Option (List ℕ)) (error : ReadError)
    → Unchecked l CertificationRequest error (Some octets) after
    ⊎ Followed l CertificationRequest error (Some octets) after
    → IsFailedRead false error → NotReceived l octets error
refused_as l octets after (errors.Fault found) h fine = (after, h)
refused_as l octets after (errors.Read at) h fine = let turned : false ≡ true = fine in cc
refused_as l octets after errors.Memory h fine = tt

-- Want of memory alone is left where the octets are a request.
pub only_memory : {A : Type 0} (l : Limits) (octets : List ℕ) (result : Result A ReadError)
    → IfErr result (λ error. error ≡ errors.Memory) → IfErr result (NotReceived l octets)
only_memory l octets (Ok value) h = tt
only_memory l octets (Err error) h = subst (NotReceived l octets) (sym h) tt

-- ---- the laws

one_part : (l l' : Limits) (octets part other : List ℕ) → Received l octets part → Received l' octets other
    → part ≡ other
one_part l l' octets part other r q =
    (tree_alone r.is_info.tree q.is_info.tree part other r.behind q.behind r.is_info.laid_out q.is_info.laid_out
    (sym (behind_is l octets part r) ∙ behind_is l' octets other q)).1

-- the values that octets spell are the same
spelled_same : (l : Limits) (v w : Value) (octets : List ℕ) → Spells l CertificationRequest v octets
    → Spells l CertificationRequest w octets → Same v w
spelled_same l v w octets s t =
    let one = (tree_alone s.tree t.tree octets octets [] [] s.laid_out t.laid_out refl).0 in
    one_value l.depth CertificationRequest [] s.tree v w s.fits
    (subst (λ tree. Fits l.depth CertificationRequest [] tree w) (sym one) t.fits)

-- where octets are answered by their own text
own_text : (text part : List ℕ) (n : ℕ) → Spelled text n ≡ Spelled part n → part ≡ text
own_text text part n e = cc

in_der : (l : Limits) (octets part : List ℕ) (request : Value) → Spells l CertificationRequest request octets
    → Received l octets part
    → (part ≡ part_of Info request) ↔ (answer l CertificationRequestInfo part ≡ Spelled part (length part))
in_der l octets part request s r =
    let text : part_of Info request ≡ der r.info =
    part_same Info request r.request (spelled_same l request r.request octets s r.is_request)
    ∙ info_text r.request r.info r.is_first in
    let said : answer l CertificationRequestInfo part ≡ Spelled (der r.info) (length part) =
    ap (answer l CertificationRequestInfo) (sym (append-nil part))
    ∙ spelling_is_answered l CertificationRequestInfo r.info part [] request_info.fair r.is_info in (
      λ e. said ∙ ap (λ t. Spelled t (length part)) (sym (e ∙ text)),
      λ a. own_text (der r.info) part (length part) (sym said ∙ a) ∙ sym text,
    )

pub received_of_requests : ReceivedOfRequests
received_of_requests = record { one = one_part; in_der = in_der }

-- What a comparison tells.
use Rattle.std.proofs.Common.{◌≡◌, ◌≢◌, ◌∙◌, ◌+◌, ◌++◌, ◌∷◌, ◌<◌, ◌≤◌, Bool, Err, List, None, Ok, Option, Result, Some, [], ℕ, ap, arith, append-nil, append_assoc, drop, false, length, refl, slice_get, subst, suc, sym, take, take-append-drop, zero, slice_index_or, IsSome, true}
use lib.Seq.{take-add}
use Rattle.std.proofs.lemmas.List.{take_at}
use Rattle.std.proofs.lemmas.Option.{slice_get-get_or, slice_get_past}
use Rattle.tlv_core.specs.declared.sink.WriteError.{WriteError}
use Rattle.asn_documents.specs.WrittenValues.{WritesText}
use Rattle.x690_laws.proofs.LayoutsOfHeaders.{split_alone}
use Rattle.asn_documents.specs.Comparisons.{the_octet}
use Rattle.asn_documents.specs.Differences.{DiffersFirst}

-- the octets that were written before, and those that begin the rest
pub taken_on : (octets piece : List ℕ) (at n : ℕ) → take n (drop at octets) ≡ take n piece
    → take (at + n) octets ++ [] ≡ (take at octets ++ []) ++ take n piece
taken_on octets piece at n e =
    append-nil (take (at + n) octets)
    ∙ take-add at n octets
    ∙ ap (λ z. take at octets ++ z) e
    ∙ ap (λ z. z ++ take n piece) (sym (append-nil (take at octets)))

pub told_on : (octets octets' piece : List ℕ) (at at' n : ℕ) (other other' : Option ℕ) → octets' ≡ octets → other ≡ None
    → other' ≡ None → at' ≡ at + n → take n (drop at octets) ≡ take n piece
    → length octets' ∷ (octets' ++ (take at' octets' ++ the_octet other'))
    ≡ (length octets ∷ (octets ++ (take at octets ++ the_octet other))) ++ take n piece
told_on octets octets' piece at at' n other other' same none none' further e =
    ap (λ z. length z ∷ (z ++ (take at' z ++ the_octet other'))) same
    ∙ ap (λ m. length octets ∷ (octets ++ (take m octets ++ the_octet other'))) further
    ∙ ap (λ o. length octets ∷ (octets ++ (take (at + n) octets ++ the_octet o))) none'
    ∙ ap (λ z. length octets ∷ (octets ++ z)) (taken_on octets piece at n e)
    ∙ ap (λ z. length octets ∷ z) (sym (append_assoc octets (take at octets ++ []) (take n piece)))
    ∙ ap (λ o. (length octets ∷ (octets ++ (take at octets ++ the_octet o))) ++ take n piece) (sym none)

pub told_other : (octets octets' piece : List ℕ) (at at' o : ℕ) (other other' : Option ℕ) → octets' ≡ octets
    → other ≡ None → other' ≡ Some o → at' ≡ at → slice_get piece 0 ≡ Some o
    → length octets' ∷ (octets' ++ (take at' octets' ++ the_octet other'))
    ≡ (length octets ∷ (octets ++ (take at octets ++ the_octet other))) ++ take 1 piece
told_other octets octets' [] at at' o other other' same none some still e = cc
told_other octets octets' (x ∷ piece) at at' o other other' same none some still e =
    let first : o ∷ [] ≡ take 1 (x ∷ piece) = cc in
    ap (λ z. length z ∷ (z ++ (take at' z ++ the_octet other'))) same
    ∙ ap (λ m. length octets ∷ (octets ++ (take m octets ++ the_octet other'))) still
    ∙ ap (λ z. length octets ∷ (octets ++ (take at octets ++ the_octet z))) some
    ∙ ap (λ z. length octets ∷ (octets ++ (take at octets ++ z))) first
    ∙ ap (λ z. length octets ∷ (octets ++ (z ++ take 1 (x ∷ piece)))) (sym (append-nil (take at octets)))
    ∙ ap (λ z. length octets ∷ z) (sym (append_assoc octets (take at octets ++ []) (take 1 (x ∷ piece))))
    ∙ ap (λ z. (length octets ∷ (octets ++ (take at octets ++ the_octet z))) ++ take 1 (x ∷ piece)) (sym none)

pub get_drop : (octets : List ℕ) (at n : ℕ) → slice_get (drop at octets) n ≡ slice_get octets (at + n)
get_drop octets zero n = ap (slice_get octets) (let e : n ≡ 0 + n = omega arith in e)
get_drop [] (suc at) n = slice_get_past [] n (omega arith) ∙ sym (slice_get_past [] (suc at + n) (omega arith))
get_drop (x ∷ octets) (suc at) n =
    get_drop octets at n ∙ ap (slice_get (x ∷ octets)) (let e : suc (at + n) ≡ suc at + n = omega arith in e)

pub get_at : (xs ys : List ℕ) → slice_get (xs ++ ys) (length xs) ≡ slice_get ys 0
get_at [] ys = refl
get_at (x ∷ xs) ys = get_at xs ys

pub take_whole : (xs : List ℕ) → take (length xs) xs ≡ xs
take_whole [] = refl
take_whole (x ∷ xs) = ap (λ z. x ∷ z) (take_whole xs)

pub length_take : (n : ℕ) (xs : List ℕ) → n ≤ length xs → length (take n xs) ≡ n
length_take zero xs le = refl
length_take (suc n) [] le = omega (arith, le)
length_take (suc n) (x ∷ xs) le = ap suc (length_take n xs (omega (arith, le)))

cons_tail : (x y : ℕ) (xs ys : List ℕ) → x ∷ xs ≡ y ∷ ys → (x ≡ y) × (xs ≡ ys)
cons_tail x y xs ys e = (cc, cc)

-- Contents that began with some octets and their number, and grew by some of a text: the octets are the same still,
-- and it is what was written.
pub seen : (before octets written text : List ℕ)
    → length octets ∷ (octets ++ written) ≡ (length before ∷ (before ++ [])) ++ text
    → (octets ≡ before) × (written ≡ text)
seen before octets written text e =
    let c = cons_tail _ _ _ _ e in
    split_alone octets before written text c.0 (c.1 ∙ ap (λ z. z ++ text) (append-nil before))

-- what writing a text to one that compares leaves
pub outcome : (before first octets : List ℕ) (w : List ℕ) (at : ℕ) (other : Option ℕ) (halted : Bool) (text : List ℕ)
    (result : Result ℕ WriteError)
    → first ≡ before → w ≡ []
    → WritesText text (Some (length first ∷ (first ++ w)))
    (Some (length octets ∷ (octets ++ (take at octets ++ the_octet other)))) halted result
    → (octets ≡ before)
    × ((more : List ℕ) × (text ≡ (take at octets ++ the_octet other) ++ more) × (halted ≡ false → more ≡ []))
outcome before first octets w at other halted text (Ok n) same none h =
    let e = h.1 ∙ ap (λ z. (length first ∷ (first ++ z)) ++ text) none in
    let s = seen first octets (take at octets ++ the_octet other) text e in
    (s.0 ∙ same, ([], sym s.1 ∙ sym (append-nil _), λ f. refl))
outcome before first octets w at other halted text (Err r) same none h =
    let e = h.1 ∙ ap (λ z. (length first ∷ (first ++ z)) ++ take r.written text) none in
    let s = seen first octets (take at octets ++ the_octet other) (take r.written text) e in (
      s.0 ∙ same,
      (
        drop r.written text,
        sym (take-append-drop r.written text) ∙ ap (λ z. z ++ drop r.written text) (sym s.1),
        λ f. cc,
      ),
    )

pub found : (octets text more : List ℕ) (at o : ℕ) → at ≤ length octets → slice_get octets at ≢ Some o
    → text ≡ (take at octets ++ (o ∷ [])) ++ more → DiffersFirst octets text at
found octets text more at o within other is =
    let n = length_take at octets within in
    let t : text ≡ take at octets ++ (o ∷ more) = is ∙ append_assoc (take at octets) (o ∷ []) more in
    let there : slice_get text at ≡ Some o = ap (λ z. slice_get z at) t
    ∙ ap (slice_get (take at octets ++ (o ∷ more))) (sym n) ∙ get_at (take at octets) (o ∷ more) in
    record {
      before = sym (ap (take at) t ∙ take_at (take at octets) (o ∷ more) at n);
      there = λ e. other (e ∙ there);
    }

pub shorter : (octets text : List ℕ) (at : ℕ) → at < length octets → text ≡ (take at octets ++ []) ++ []
    → DiffersFirst octets text at
shorter octets text at lt is =
    let n = length_take at octets (omega (arith, lt)) in
    let t : text ≡ take at octets = is ∙ append-nil (take at octets ++ []) ∙ append-nil (take at octets) in
    let none : slice_get text at ≡ None = slice_get_past text at (let m = ap length t in omega (arith, m, n)) in
    let some = slice_get-get_or octets at 0 lt in
    record {
      before =
          sym (ap (take at) t ∙ ap (take at) (sym (append-nil (take at octets))) ∙ take_at (take at octets) [] at n);
      there = λ e. cc;
    }

pub equal : (octets text : List ℕ) (at : ℕ) → at ≤ length octets → length octets ≤ at
    → text ≡ (take at octets ++ []) ++ [] → octets ≡ text
equal octets text at le ge is =
    let all : at ≡ length octets = omega (arith, le, ge) in
    sym (is ∙ append-nil (take at octets ++ []) ∙ append-nil (take at octets) ∙ ap (λ n. take n octets) all
    ∙ take_whole octets)

pub not_alike : (octets rest piece : List ℕ) (at count o : ℕ) → rest ≡ drop at octets → count ≡ 0 → 0 < length piece
    → (count < length piece → slice_get rest count ≢ slice_get piece count) → Some (slice_index_or piece 0 0) ≡ Some o
    → slice_get octets at ≡ Some o → ⊥
not_alike octets rest [] at count o is none some first e g = absurd (omega (arith, some))
not_alike octets rest (x ∷ piece) at count o is none some first e g =
    let z : at + 0 ≡ at = omega arith in
    let h : slice_get rest count ≡ Some o =
    ap (slice_get rest) none ∙ ap (λ r. slice_get r 0) is ∙ get_drop octets at 0 ∙ ap (slice_get octets) z ∙ g in
    let k : slice_get (x ∷ piece) count ≡ Some o = ap (slice_get (x ∷ piece)) none ∙ e in
    first (omega (arith, some, none)) (h ∙ sym k)

none_is : (o : Option ℕ) → o ≡ None → IsSome o → ⊥
none_is None e h = cc
none_is (Some o) e h = cc

pub found_at : (before octets : List ℕ) (at : ℕ) (other : Option ℕ) (text more : List ℕ) → octets ≡ before
    → at ≤ length octets → IsSome other → ((o : ℕ) → other ≡ Some o → slice_get octets at ≡ Some o → ⊥)
    → text ≡ (take at octets ++ the_octet other) ++ more → DiffersFirst before text at
found_at before octets at None text more same within some differs is = absurd (none_is None refl some)
found_at before octets at (Some o) text more same within some differs is =
    subst (λ z. DiffersFirst z text at) same (found octets text more at o within (λ e. differs o refl e) is)

written_all : (octets : List ℕ) (at : ℕ) (other : Option ℕ) (text more : List ℕ) (failed : Bool) → other ≡ None
    → (failed ≡ true → IsSome other) → (failed ≡ false → more ≡ []) → text ≡ (take at octets ++ the_octet other) ++ more
    → text ≡ (take at octets ++ []) ++ []
written_all octets at other text more true none halted rest is = absurd (none_is other none (halted refl))
written_all octets at other text more false none halted rest is =
    is ∙ ap (λ z. (take at octets ++ the_octet z) ++ more) none ∙ ap (λ z. (take at octets ++ []) ++ z) (rest refl)

pub shorter_at : (before octets : List ℕ) (at : ℕ) (other : Option ℕ) (text more : List ℕ) (failed : Bool)
    → octets ≡ before → at < length before → other ≡ None → (failed ≡ true → IsSome other)
    → (failed ≡ false → more ≡ []) → text ≡ (take at octets ++ the_octet other) ++ more → DiffersFirst before text at
shorter_at before octets at other text more failed same lt none halted rest is =
    shorter before text at lt
    (subst (λ z. text ≡ (take at z ++ []) ++ []) same
    (written_all octets at other text more failed none halted rest is))

pub equal_to : (before octets : List ℕ) (at : ℕ) (other : Option ℕ) (text more : List ℕ) (failed : Bool)
    → octets ≡ before → at ≤ length octets → length before ≤ at → other ≡ None → (failed ≡ true → IsSome other)
    → (failed ≡ false → more ≡ []) → text ≡ (take at octets ++ the_octet other) ++ more → before ≡ text
equal_to before octets at other text more failed same le ge none halted rest is =
    let n = ap length same in
    equal before text at (omega (arith, le, n)) ge
    (subst (λ z. text ≡ (take at z ++ []) ++ []) same
    (written_all octets at other text more failed none halted rest is))

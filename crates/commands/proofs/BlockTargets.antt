-- The octets that came to a target in blocks: those that are out, and those that wait.
use Rattle.std.proofs.Common.{◌≡◌, ◌∙◌, ◌+◌, ◌-◌, ◌≤◌, ◌++◌, List, [], None, Option, Some, ap, append-nil, arith, drop, length, length-append, subst, sym, take, take-append-drop, ℕ}
use Rattle.std.proofs.lemmas.List.{drop-append-le, drop-drop, drop-take, length-take, length-take-le, take-append-le}
use Rattle.std.proofs.lemmas.Slice.{take-put_mid}
use Rattle.std.proofs.Math.Nat.{min-le_left}
use Rattle.std.proofs.Math.Seq.{take-append-add, take-append_seam}
use Rattle.std.proofs.KnownBytes.{append_known-moved}
use Rattle.std.specs.Prelude.{slice_range}
use borrow.Rule.Slice.PartMut.{put_mid}
use Rattle.std.specs.Io.KnownBytes.{Appends, Keeps, append_known}
use Rattle.commands.specs.KnownOctets.{known_length}

-- what waits after the first octets of what waited
pub waiting_after : (items : List ℕ) (begin end count : ℕ) → begin + count ≤ end
    → slice_range items (begin + count) end ≡ drop count (slice_range items begin end)
waiting_after items begin end count few =
    let rest : end - begin ≡ count + (end - (begin + count)) = omega (arith, few) in
    sym (ap (λ n. drop count (take n (drop begin items))) rest
    ∙ drop-take count (end - (begin + count)) (drop begin items)
    ∙ ap (take (end - (begin + count))) (drop-drop count begin items))

-- The first octets of a text came, and the last of these wait.
pub first_out : (old known : Option (List ℕ)) (waiting text : List ℕ) (count out : ℕ)
    → known_length old ≤ known_length known → count ≤ length text → out ≡ count - length waiting
    → Appends old (append_known known waiting) (take count text)
    → (out ≤ length text) × Appends old known (take out text)
first_out None known waiting text count out grown few is a = (omega (arith, few, is), tt)
first_out (Some xs) None waiting text count out grown few is a = absurd a
first_out (Some xs) (Some ys) waiting text count out grown few is a =
    let come = take count text in
    let many : length come ≡ count = length-take-le count text few in
    let both : length ys + length waiting ≡ length xs + length come =
    sym (length-append ys waiting) ∙ ap length a ∙ length-append xs come in
    let outs : length ys ≡ length xs + out = omega (arith, both, many, grown, is) in
    let begun : take out come ≡ take out text =
    sym (take-append-le out come (drop count text) (omega (arith, many, is))) ∙ ap (take out)
    (take-append-drop count text) in (
      omega (arith, few, is),
      sym (take-append_seam ys waiting) ∙ ap (take (length ys)) a ∙ ap (λ n. take n (xs ++ come)) outs
          ∙ take-append-add xs come out
          ∙ ap (λ l. xs ++ l) begun,
    )

slice_is : (items : List ℕ) (begin end : ℕ) → begin ≤ end → slice_range items begin end ≡ drop begin (take end items)
slice_is items begin end few =
    let whole : end ≡ begin + (end - begin) = omega (arith, few) in
    sym (ap (λ n. drop begin (take n items)) whole ∙ drop-take begin (end - begin) items)

-- A piece comes after what waited.
pub waits_more : (items stands : List ℕ) (begin end : ℕ) (piece : List ℕ)
    → take (end + length piece) stands ≡ take end items ++ piece → begin ≤ end → end ≤ length items
    → slice_range stands begin (end + length piece) ≡ slice_range items begin end ++ piece
waits_more items stands begin end piece is few within =
    slice_is stands begin (end + length piece) (omega (arith, few)) ∙ ap (drop begin) is
    ∙ drop-append-le begin (take end items) piece (omega (arith, few, length-take-le end items within))
    ∙ ap (λ l. l ++ piece) (sym (slice_is items begin end few))

-- so it is where a piece was copied into the block
pub waits_after : (items stands shown copied piece : List ℕ) (begin end : ℕ)
    → stands ≡ put_mid end (end + length piece - end) shown copied → shown ≡ items → copied ≡ piece
    → begin ≤ end → end ≤ length items
    → slice_range stands begin (end + length piece) ≡ slice_range items begin end ++ piece
waits_after items stands shown copied piece begin end put same is few within =
    let long : length copied ≡ length piece = ap length is in
    let fits : end ≤ length shown = omega (arith, within, ap length same) in
    let first : take (end + length piece) stands ≡ take end items ++ piece =
    ap (take (end + length piece)) put
    ∙ take-put_mid end (end + length piece - end) shown copied (end + length piece) (omega (arith, long)) fits
    ∙ ap (λ h. take end h ++ copied) same
    ∙ ap (λ m. take end items ++ m) is in
    waits_more items stands begin end piece first few within

-- The first octets of those that waited went out, and the others still wait.
pub kept_after : (known after : Option (List ℕ)) (items shown : List ℕ) (begin end count : ℕ) → shown ≡ items
    → begin ≤ end → count ≤ length (slice_range shown begin end)
    → Appends known after (take count (slice_range shown begin end))
    → Keeps (append_known known (slice_range items begin end))
    (append_known after (slice_range items (begin + count) end))
kept_after known after items shown begin end count same ordered few out =
    let waits = slice_range items begin end in
    let short : count ≤ length waits = subst (λ h. count ≤ length (slice_range h begin end)) same few in
    let most : length waits ≤ end - begin =
    subst (λ n. n ≤ end - begin) (sym (length-take (end - begin) (drop begin items)))
    (min-le_left (end - begin) (length (drop begin items))) in
    let within : begin + count ≤ end = omega (arith, ordered, short, most) in
    append_known-moved known after (take count waits) (slice_range items (begin + count) end) waits
    (subst (λ h. Appends known after (take count (slice_range h begin end))) same out)
    (sym (take-append-drop count waits)
    ∙ ap (λ r. take count waits ++ r) (sym (waiting_after items begin end count within)))

-- Nothing waits at first.
pub none_waits : (known before : Option (List ℕ)) → known ≡ before → append_known known [] ≡ before
none_waits None before is = is
none_waits (Some xs) before is = ap Some (append-nil xs) ∙ is

-- What holds of a target when it is let go holds of what its lender then is.
pub at_last : {W : Type 0} (P : W → Type 0) (last given : W) → given ≡ last → P last → P given
at_last P last given is h = subst P (sym is) h

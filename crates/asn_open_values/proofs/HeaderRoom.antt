-- A header in place of the two octets of room that were kept for it.
use Rattle.std.proofs.Common.{◌≡◌, ◌∙◌, ◌+◌, ◌++◌, List, [], ◌∷◌, ℕ, ap, append_assoc, arith, ◌-◌, true, drop, drop_at, get_or, length, length-append, refl, set, sym, take, take-take, take_at, Result, Ok, Err, OnOk}
use lib.Seq.{set_at}
use Rattle.std.specs.declared.alloc.AllocError.{AllocError}
use Rattle.tlv_core.specs.Header.{der_header}
use Rattle.tlv_core.specs.Identifier.{Tag}
use Rattle.asn_elements.specs.Framing.{framed}

pub header_set : (before room contents : List ℕ) (start first second : ℕ) → length before ≡ start → length room ≡ 2
    → set (set (before ++ (room ++ contents)) start first) (start + 1) second ≡ before ++ first ∷ second ∷ contents
header_set before [] contents start first second at two = absurd (omega (arith, two))
header_set before (x ∷ []) contents start first second at two = absurd (omega (arith, two))
header_set before (x ∷ y ∷ z ∷ room) contents start first second at two = absurd (omega (arith, two))
header_set before (x ∷ y ∷ []) contents start first second at two =
    let long : length (before ++ first ∷ []) ≡ start + 1 =
    omega (arith, at, length-append before (first ∷ [])) in
    ap (λ t. set t (start + 1) second)
    (set_at before x (y ∷ contents) first start at ∙ sym (append_assoc before (first ∷ []) (y ∷ contents)))
    ∙ (set_at (before ++ first ∷ []) y contents second (start + 1) long
    ∙ append_assoc before (first ∷ []) (second ∷ contents))

pub in_front : (before room contents : List ℕ) (start : ℕ) → length before ≡ start
    → take start (before ++ (room ++ contents)) ≡ before
in_front before room contents start at = take_at before (room ++ contents) start at

pub behind_room : (before room contents : List ℕ) (start : ℕ) → length before ≡ start → length room ≡ 2
    → drop (start + 2) (before ++ (room ++ contents)) ≡ contents
behind_room before room contents start at two =
    ap (drop (start + 2)) (sym (append_assoc before room contents))
    ∙ drop_at (before ++ room) contents (start + 2) (omega (arith, at, two, length-append before room))

-- a list of two, by them
both : (octets : List ℕ) → length octets ≡ 2 → octets ≡ get_or octets 0 0 ∷ get_or octets 1 0 ∷ []
both [] two = absurd (omega (arith, two))
both (x ∷ []) two = absurd (omega (arith, two))
both (x ∷ y ∷ []) two = refl
both (x ∷ y ∷ z ∷ octets) two = absurd (omega (arith, two))

contents_length : (before room contents : List ℕ) (start : ℕ) → length before ≡ start → length room ≡ 2
    → length (before ++ (room ++ contents)) - (start + 2) ≡ length contents
contents_length before room contents start at two =
    omega (arith, at, two, length-append before (room ++ contents), length-append room contents)

pub short_put : (before room contents text octets : List ℕ) (start : ℕ) (tag : Tag) → length before ≡ start
    → length room ≡ 2 → text ≡ before ++ (room ++ contents) → length octets ≡ 2
    → octets ≡ der_header tag true (length text - (start + 2))
    → set (set text start (get_or octets 0 0)) (start + 1) (get_or octets 1 0) ≡ before ++ framed tag contents
short_put before room contents text octets start tag at two is short header =
    ap (λ t. set (set t start (get_or octets 0 0)) (start + 1) (get_or octets 1 0)) is
    ∙ (header_set before room contents start (get_or octets 0 0) (get_or octets 1 0) at two
    ∙ ap (λ h. before ++ (h ++ contents))
    (sym (both octets short)
    ∙ (header
    ∙ ap (λ n. der_header tag true n)
    (ap (λ t. length t - (start + 2)) is ∙ contents_length before room contents start at two))))

-- cut where the contents begin, and then where the room does
pub cut_in_front : (before room contents text : List ℕ) (start : ℕ) → length before ≡ start
    → text ≡ before ++ (room ++ contents) → take start (take (start + 2) text) ≡ before
cut_in_front before room contents text start at is =
    take-take start (start + 2) text (omega arith) ∙ (ap (take start) is ∙ in_front before room contents start at)

pub ok_then : {A B : Type 0} (r : Result (Unit {0}) AllocError) → OnOk r A → (A → B) → OnOk r B
ok_then (Ok x) a f = f a
ok_then (Err e) a f = a

-- The search for an earlier member of a list that says the same.
use Rattle.std.proofs.Common.{Bool, List, ap, arith, drop, false, get_or, length, refl, reverse, suc, sym, take, true, zero, ℕ, [], ◌+◌, ◌-◌, ◌<◌, ◌≡◌, ◌≤◌, ◌∙◌, ◌∷◌}
use Rattle.std.specs.Prelude.{nat_lt}
use Rattle.std.proofs.lemmas.Bool.{le-ltb, lt-ltb}
use Rattle.std.proofs.lemmas.List.{drop_more, get_or-reverse, length-reverse}
use Rattle.explain.specs.Notes.{is_said, is_same_field, is_same_member, list_depth}
use Rattle.reports.specs.declared.report.Line.{Line}

-- the last line of those that are left
last_left : (before : List Line) (back : ℕ) (other : Line) → back < length before
    → other ≡ get_or before (length before - 1 - back) other
    → drop back (reverse before) ≡ other ∷ drop (back + 1) (reverse before)
last_left before back other h e =
    drop_more (reverse before) back other (rw (length-reverse before) h)
    ∙ ap (λ (x : Line). x ∷ drop (back + 1) (reverse before)) (get_or-reverse before back other h ∙ sym e)

take_none : (n : ℕ) → take {A = Line} n [] ≡ []
take_none zero = refl
take_none (suc n) = refl

outside : (most : ℕ) (line other : Line) (lines : List Line) → other.depth ≤ list_depth line
    → is_said most line (other ∷ lines) ≡ false
outside most line other lines h =
    let e : nat_lt (list_depth line) other.depth ≡ false = le-ltb (list_depth line) other.depth h in
    rw (e, take_none most) refl

another : (most : ℕ) (line other : Line) (lines : List Line) → list_depth line < other.depth
    → is_same_field line other ≡ false → is_said most line (other ∷ lines) ≡ is_said most line lines
another most line other lines h s =
    let e : nat_lt (list_depth line) other.depth ≡ true = lt-ltb (list_depth line) other.depth h in
    rw (e, s) refl

same : (most : ℕ) (line other : Line) (lines : List Line) → 0 < most → list_depth line < other.depth
    → is_same_field line other ≡ true → is_same_member line other ≡ true
    → is_said most line (other ∷ lines) ≡ true
same zero line other lines m h s i = absurd (omega arith)
same (suc most) line other lines m h s i =
    let e : nat_lt (list_depth line) other.depth ≡ true = lt-ltb (list_depth line) other.depth h in
    rw (e, s, i) refl

differs : (most left : ℕ) (line other : Line) (lines : List Line) → 0 < most → left ≡ most - 1
    → list_depth line < other.depth → is_same_field line other ≡ true → is_same_member line other ≡ false
    → is_said most line (other ∷ lines) ≡ is_said left line lines
differs zero left line other lines m l h s i = absurd (omega arith)
differs (suc most) left line other lines m l h s i =
    let e : nat_lt (list_depth line) other.depth ≡ true = lt-ltb (list_depth line) other.depth h in
    let left_is : left ≡ most = omega arith in
    rw (e, s, i, left_is) refl

pub none_more : (most : ℕ) (line : Line) (lines : List Line) (answer : Bool) → most ≡ 0
    → is_said most line lines ≡ answer → false ≡ answer
none_more most line lines answer e is = ap (λ n. is_said n line lines) (sym e) ∙ is

pub list_ends : (before : List Line) (back most : ℕ) (line other : Line) (answer : Bool) → back < length before
    → other ≡ get_or before (length before - 1 - back) other → other.depth ≤ list_depth line
    → is_said most line (drop back (reverse before)) ≡ answer → false ≡ answer
list_ends before back most line other answer h e d is =
    sym (outside most line other (drop (back + 1) (reverse before)) d)
    ∙ ap (is_said most line) (sym (last_left before back other h e)) ∙ is

pub is_found : (before : List Line) (back most : ℕ) (line other : Line) (answer : Bool) → back < length before
    → other ≡ get_or before (length before - 1 - back) other → 0 < most → list_depth line < other.depth
    → is_same_field line other ≡ true → is_same_member line other ≡ true
    → is_said most line (drop back (reverse before)) ≡ answer → true ≡ answer
is_found before back most line other answer h e m d s i is =
    sym (same most line other (drop (back + 1) (reverse before)) m d s i)
    ∙ ap (is_said most line) (sym (last_left before back other h e)) ∙ is

pub one_less : (before : List Line) (back most left : ℕ) (line other : Line) (answer : Bool) → back < length before
    → other ≡ get_or before (length before - 1 - back) other → 0 < most → left ≡ most - 1
    → list_depth line < other.depth → is_same_field line other ≡ true → is_same_member line other ≡ false
    → is_said most line (drop back (reverse before)) ≡ answer
    → is_said left line (drop (back + 1) (reverse before)) ≡ answer
one_less before back most left line other answer h e m l d s i is =
    sym (differs most left line other (drop (back + 1) (reverse before)) m l d s i)
    ∙ ap (is_said most line) (sym (last_left before back other h e)) ∙ is

pub no_less : (before : List Line) (back most left : ℕ) (line other : Line) (answer : Bool) → back < length before
    → other ≡ get_or before (length before - 1 - back) other → left ≡ most → list_depth line < other.depth
    → is_same_field line other ≡ false → is_said most line (drop back (reverse before)) ≡ answer
    → is_said left line (drop (back + 1) (reverse before)) ≡ answer
no_less before back most left line other answer h e l d s is =
    ap (λ n. is_said n line (drop (back + 1) (reverse before))) l
    ∙ sym (another most line other (drop (back + 1) (reverse before)) d s)
    ∙ ap (is_said most line) (sym (last_left before back other h e)) ∙ is

-- What `next_tag` answers, by what its tests say.
use Rattle.std.proofs.Common.{◌≡◌, ℕ, ◌/◌, ◌%◌, ◌<◌, ◌==◌, ◌&&◌, ◌||◌, Bool, true, false, not, nat_lt, nat_le, length, List, [], ◌∷◌, Option, Some, None, refl, sym, ◌∙◌, subst, arith}
use Rattle.std.proofs.lemmas.Bool.Decides.{nat_tests}
use Rattle.tlv_core.specs.Identifier.{Tag}
use Rattle.tlv_core.specs.declared.reason.Reason.TheVariants.{BadTag, TooDeep}
use Rattle.x690.specs.Points.{ends_with_zeros, fault, stands_at_end}
use Rattle.x690.specs.ReadHeaders.{ContainerEnds, ElementStands, Next, header_octet, next_tag, read_tag_number}
use Rattle.x690.specs.Reading.{Done, Reading, choose, require, ◌>>=◌}
use Rattle.x690.specs.Reads.{Heard, Refused, Said}
use Rattle.ber_pull.specs.Calls.{read_end_of_contents, read_next}
use Rattle.ber_pull.specs.Hears.{Hears, heard_error}
use Rattle.ber_pull.specs.Standing.{Standing, enclosing, ending, first_of, innermost_in, is_done, is_over, is_over_in, moved, place, with_ended}
use Rattle.ber_pull.specs.declared.state.Container.{Container}
use Rattle.ber_pull.specs.declared.state.Container.TheVariants as open'
use Rattle.ber_pull.specs.declared.state.Given.{Given}
use Rattle.tlv_core.specs.declared.fault.ReadError.{ReadError}
use Rattle.ber_pull.proofs.Hearing.{hears_done, hears_error, hears_first, hears_off, hears_on, hears_second, hears_then, hears_where}

-- what stands after the first octet of an identifier or of end-of-contents octets
abbrev behind_tag : Standing → ℕ → ℕ → Reading Next
behind_tag s x n =
    require (nat_lt (length s.containers) s.limits.depth) (fault s.taken TooDeep)
    (Done (ElementStands s.taken (record { class = x / 64; number = n }) (nat_le 32 (x % 64))))

abbrev behind_first : Standing → ℕ → Reading Next
behind_first s x =
    choose (x == 0) (read_end_of_contents s.limits (enclosing s) s.taken)
    (require (not (x == 32) && nat_lt x 256) (fault s.taken BadTag)
    (read_tag_number s.limits (enclosing s).nearest_end s.taken x >>= behind_tag s x))

-- an identifier that was given is given again
pub next_given : (s : Standing) (g : Given) (t : Option (List ℕ)) → s.given ≡ Some g
    → Hears (read_next s) s.taken t (Said (ElementStands (place s) g.tag g.constructed)) s.taken t
unfolding read_next
next_given s g t h = rw h (hears_done _ _ _)

pub next_over : (s : Standing) (t : Option (List ℕ)) → s.given ≡ None → is_over s ≡ true
    → Hears (read_next s) s.taken t (Said (ContainerEnds (place s))) s.taken t
unfolding read_next
next_over s t h o = rw h (hears_first _ _ _ _ _ _ _ _ o (hears_done _ _ _))

pub next_at_end : (s : Standing) (t : Option (List ℕ)) → s.given ≡ None → is_over s ≡ false
    → stands_at_end (enclosing s).innermost s.taken ≡ true
    → Hears (read_next s) s.taken t (Said (ContainerEnds (place s))) s.taken t
unfolding read_next next_tag
next_at_end s t h o e =
    rw h (hears_second _ _ _ _ _ _ _ _ o (hears_where _ _ _ _ _ _ (hears_first _ _ _ _ _ _ _ _ e (hears_done _ _ _))))

done_by : (s : Standing) (t : Option (List ℕ)) (b c : Bool) → s.given ≡ None → is_over s ≡ b
    → stands_at_end (enclosing s).innermost s.taken ≡ c → b || c ≡ true
    → Hears (read_next s) s.taken t (Said (ContainerEnds (place s))) s.taken t
done_by s t true c none x y h = next_over s t none x
done_by s t false c none x y h = next_at_end s t none x (y ∙ h)

pub next_done : (s : Standing) (t : Option (List ℕ)) → s.given ≡ None → is_done s ≡ true
    → Hears (read_next s) s.taken t (Said (ContainerEnds (place s))) s.taken t
next_done s t none h = done_by s t _ _ none refl refl h

-- else the first octet is asked for
pub record Asks (s : Standing) : Type 0 where
  pub none_given : s.given ≡ None
  pub not_over : is_over s ≡ false
  pub not_at_end : stands_at_end (enclosing s).innermost s.taken ≡ false

neither : (a b : Bool) → a || b ≡ false → (a ≡ false) × (b ≡ false)
neither true b h = cc
neither false b h = (refl, h)

pub asks_here : (s : Standing) → s.given ≡ None → is_done s ≡ false → Asks s
asks_here s none more =
    let neither_is = neither _ _ more in
    record { none_given = none; not_over = neither_is.0; not_at_end = neither_is.1 }

asked : (s : Standing) (t u : Option (List ℕ)) (h : Heard Next) (i : ℕ) → Asks s
    → Hears (header_octet s.limits (enclosing s).nearest_end s.taken >>= behind_first s) s.taken t h i u
    → Hears (read_next s) s.taken t h i u
unfolding read_next next_tag
asked s t u h i a x =
    let e = a.none_given in
    rw e
    (hears_second _ _ _ _ _ _ _ _ a.not_over (hears_where _ _ _ _ _ _ (hears_second _ _ _ _ _ _ _ _ a.not_at_end x)))

pub next_error : (s : Standing) (t u : Option (List ℕ)) (e : ReadError) (i : ℕ) → Asks s
    → Hears (header_octet s.limits (enclosing s).nearest_end s.taken) s.taken t (heard_error e) i u
    → Hears (read_next s) s.taken t (heard_error e) i u
next_error s t u e i a x = asked s t u (heard_error e) i a (hears_error _ _ _ _ _ _ _ x)

-- the first octet came
pub record Came (s : Standing) (t : Option (List ℕ)) (x j : ℕ) (u : Option (List ℕ)) : Type 0 where
  pub asks : Asks s
  pub first : Hears (header_octet s.limits (enclosing s).nearest_end s.taken) s.taken t (Said x) j u

came : (s : Standing) (t u v : Option (List ℕ)) (x j i : ℕ) (h : Heard Next) → Came s t x j u
    → Hears (behind_first s x) j u h i v → Hears (read_next s) s.taken t h i v
came s t u v x j i h c y = asked s t v h i c.asks (hears_then _ (behind_first s) x _ _ _ _ _ _ _ c.first y)

pub next_end : (s : Standing) (t u v : Option (List ℕ)) (x j i : ℕ) (h : Heard Next) → Came s t x j u → x ≡ 0
    → Hears (read_end_of_contents s.limits (enclosing s) s.taken) j u h i v → Hears (read_next s) s.taken t h i v
next_end s t u v x j i h c z y =
    let e : (x == 0) ≡ true = rw z refl in came s t u v x j i h c (hears_first _ _ _ _ _ _ _ _ e y)

pub place_taken : (s : Standing) → s.given ≡ None → place s ≡ s.taken
place_taken s h = rw h refl

pub next_bad_tag : (s : Standing) (t u : Option (List ℕ)) (x j : ℕ) → Came s t x j u → x ≡ 32
    → Hears (read_next s) s.taken t (Refused (fault s.taken BadTag)) j u
next_bad_tag s t u x j c z =
    let e : (x == 0) ≡ false = rw z refl in let e' : (not (x == 32) && nat_lt x 256) ≡ false = rw z refl in
    came s t u u x j j _ c (hears_second _ _ _ _ _ _ _ _ e (hears_off _ _ _ _ _ e'))

-- and it begins an identifier
pub record Begins (s : Standing) (t : Option (List ℕ)) (x j : ℕ) (u : Option (List ℕ)) : Type 0 where
  pub came : Came s t x j u
  pub octet : x < 256
  pub no_end : x ≡ 0 → ⊥
  pub no_bad_tag : x ≡ 32 → ⊥

begins : (s : Standing) (t u v : Option (List ℕ)) (x j i : ℕ) (h : Heard Next) → Begins s t x j u
    → Hears (read_tag_number s.limits (enclosing s).nearest_end s.taken x >>= behind_tag s x) j u h i v
    → Hears (read_next s) s.taken t h i v
begins s t u v x j i h b y =
    let o = b.octet in let z = b.no_end in let w = b.no_bad_tag in
    let e : (x == 0) ≡ false = grind (arith, nat_tests) in
    let e' : (x == 32) ≡ false = grind (arith, nat_tests) in
    let e'' : nat_lt x 256 ≡ true = grind (arith, nat_tests) in
    let fine : (not (x == 32) && nat_lt x 256) ≡ true = rw (e', e'') refl in
    came s t u v x j i h b.came (hears_second _ _ _ _ _ _ _ _ e (hears_on _ _ _ _ _ _ _ _ fine y))

pub next_number_error : (s : Standing) (t u v : Option (List ℕ)) (x j i : ℕ) (e : ReadError) → Begins s t x j u
    → Hears (read_tag_number s.limits (enclosing s).nearest_end s.taken x) j u (heard_error e) i v
    → Hears (read_next s) s.taken t (heard_error e) i v
next_number_error s t u v x j i e b y = begins s t u v x j i (heard_error e) b (hears_error _ _ _ _ _ _ _ y)

pub next_deep : (s : Standing) (t u v : Option (List ℕ)) (x j i n : ℕ) → Begins s t x j u
    → Hears (read_tag_number s.limits (enclosing s).nearest_end s.taken x) j u (Said n) i v
    → nat_lt (length s.containers) s.limits.depth ≡ false
    → Hears (read_next s) s.taken t (Refused (fault s.taken TooDeep)) i v
next_deep s t u v x j i n b y d =
    begins s t u v x j i _ b (hears_then _ (behind_tag s x) n _ _ _ _ _ _ _ y (hears_off _ _ _ _ _ d))

pub next_element : (s : Standing) (t u v : Option (List ℕ)) (x j i n : ℕ) (tag : Tag) → Begins s t x j u
    → Hears (read_tag_number s.limits (enclosing s).nearest_end s.taken x) j u (Said n) i v
    → nat_lt (length s.containers) s.limits.depth ≡ true → tag ≡ record { class = x / 64; number = n }
    → Hears (read_next s) s.taken t (Said (ElementStands (place s) tag (nat_le 32 (x % 64)))) i v
next_element s t u v x j i n tag b y d e =
    subst (λ w. Hears (read_next s) s.taken t (Said (ElementStands w tag (nat_le 32 (x % 64)))) i v)
    (sym (place_taken s b.came.asks.none_given))
    (subst (λ w. Hears (read_next s) s.taken t (Said (ElementStands s.taken w (nat_le 32 (x % 64)))) i v) (sym e)
    (begins s t u v x j i _ b
    (hears_then _ (behind_tag s x) n _ _ _ _ _ _ _ y (hears_on _ _ _ _ _ _ _ _ d (hears_done _ _ _)))))

ended_in : (k : ℕ) (cs : List Container) → ends_with_zeros (innermost_in (first_of cs)) ≡ true
    → is_over_in k (first_of (with_ended (first_of cs) cs)) ≡ true
ended_in k [] h = cc
ended_in k (open'.Definite end ∷ cs) h = cc
ended_in k (open'.Indefinite around ∷ cs) h = refl
ended_in k (open'.Ended around ∷ cs) h = refl

-- where the end-of-contents octets of the innermost container are taken, nothing is left
pub ended_over : (s : Standing) (k : ℕ) → ends_with_zeros (enclosing s).innermost ≡ true
    → is_over (ending (moved k s)) ≡ true
ended_over s k h = ended_in k s.containers h

pub or_true : (a b : Bool) → a ≡ true → a || b ≡ true
or_true true b h = refl
or_true false b h = cc

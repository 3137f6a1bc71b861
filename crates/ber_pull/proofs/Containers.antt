-- Going into a container and out of it.
use Rattle.std.proofs.Common.{◌≡◌, ℕ, ◌+◌, length, List, Bool, true, false, Option, Some, ap}
use Rattle.std.proofs.Math.Numerals.{add-one}
use Rattle.tlv_core.specs.Identifier.{Tag}
use Rattle.tlv_core.specs.declared.fault.ReadError.{ReadError}
use Rattle.tlv_core.specs.declared.reason.Reason.TheVariants.{Extra, WrongForm}
use Rattle.x690.specs.Points.{EndsAt, EndsWithZeros, fault}
use Rattle.x690.specs.ReadHeaders.{ContainerEnds, DefiniteLength, ElementStands, IndefiniteLength, LengthForm, entered, in_container, read_length}
use Rattle.x690.specs.Reading.{Done, Where}
use Rattle.x690.specs.Reads.{Refused, Said}
use Rattle.ber_pull.specs.Calls.{read_entering, read_leaving, read_next}
use Rattle.ber_pull.specs.Hears.{Hears, heard_error}
use Rattle.ber_pull.specs.Standing.{Standing, enclosing, nearest_end_in, first_of, opening, used}
use Rattle.ber_pull.specs.declared.state.Given.{Given}
use Rattle.ber_pull.proofs.Hearing.{hears_done, hears_error, hears_fail, hears_off, hears_on, hears_said, hears_then, hears_where}

-- the point inside a container that is open from here on
pub entered_is : (x : LengthForm) (k : ℕ) (s : Standing) → entered (enclosing s) k x ≡ enclosing (opening x (used k s))
entered_is (DefiniteLength n) k s =
    ap (λ w. record { nearest_end = Some (k + n); innermost = EndsAt (k + n); open_containers = w })
    (add-one (length s.containers))
entered_is IndefiniteLength k s =
    ap (λ w.
    record { nearest_end = nearest_end_in (first_of s.containers); innermost = EndsWithZeros; open_containers = w })
    (add-one (length s.containers))

pub enter_primitive : (s : Standing) (g : Given) (k : ℕ) (t : Option (List ℕ)) → g.constructed ≡ false
    → Hears (read_entering s g) k t (Refused (fault g.at WrongForm)) k t
unfolding read_entering in_container
enter_primitive s g k t h = hears_off _ _ _ _ _ h

pub enter_error : (s : Standing) (g : Given) (e : ReadError) (k i : ℕ) (t u : Option (List ℕ)) → g.constructed ≡ true
    → Hears (read_length s.limits (enclosing s).nearest_end g.at) k t (heard_error e) i u
    → Hears (read_entering s g) k t (heard_error e) i u
unfolding read_entering in_container
enter_error s g e k i t u h x = hears_on _ _ _ _ _ _ _ _ h (hears_error _ _ _ _ _ _ _ x)

pub enter_opens : (s : Standing) (g : Given) (form : LengthForm) (k i : ℕ) (t u : Option (List ℕ))
    → g.constructed ≡ true → Hears (read_length s.limits (enclosing s).nearest_end g.at) k t (Said form) i u
    → Hears (read_entering s g) k t (Said (enclosing (opening form (used i s)))) i u
unfolding read_entering in_container
enter_opens s g form k i t u h x =
    hears_on _ _ _ _ _ _ _ _ h
    (hears_then _ (λ x. Where (λ p. Done (entered (enclosing s) p x))) form _ _ _ _ _ _ _ x
    (hears_where _ _ _ _ _ _ (hears_said _ _ _ _ _ _ _ (entered_is form i s) (hears_done _ _ _))))

pub leave_error : (s : Standing) (e : ReadError) (k i : ℕ) (t u : Option (List ℕ))
    → Hears (read_next s) k t (heard_error e) i u → Hears (read_leaving s) k t (heard_error e) i u
unfolding read_leaving
leave_error s e k i t u x = hears_error _ _ _ _ _ _ _ x

pub leave_extra : (s : Standing) (p : ℕ) (tag : Tag) (constructed : Bool) (k i : ℕ) (t u : Option (List ℕ))
    → Hears (read_next s) k t (Said (ElementStands p tag constructed)) i u
    → Hears (read_leaving s) k t (Refused (fault p Extra)) i u
unfolding read_leaving
leave_extra s p tag constructed k i t u x =
    hears_then _ _ (ElementStands p tag constructed) _ _ _ _ _ _ _ x (hears_fail _ _ _ _)

pub leave_ended : (s : Standing) (p k i : ℕ) (t u : Option (List ℕ))
    → Hears (read_next s) k t (Said (ContainerEnds p)) i u → Hears (read_leaving s) k t (Said tt) i u
unfolding read_leaving
leave_ended s p k i t u x = hears_then _ _ (ContainerEnds p) _ _ _ _ _ _ _ x (hears_done _ _ _)

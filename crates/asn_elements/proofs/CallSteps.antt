-- Each call of a pull reader follows a single step of the plain reading.
use Rattle.std.proofs.Common.{◌≡◌, ◌∙◌, List, None, Some, ap, false, not, refl, sym, true, ℕ}
use Rattle.tlv_core.specs.declared.reason.Reason.TheVariants.{Extra, WrongForm}
use Rattle.x690.specs.Points.{fault}
use Rattle.x690.specs.ReadHeaders.{ContainerEnds, ElementStands, Next, in_container, next_tag, primitive_contents}
use Rattle.x690.specs.Reading.{Done, Fail, Halted, Outcome, Reading, Took, run, ◌>>=◌}
use Rattle.x690.proofs.Runs.{bind_same, halt_bind, run_bind}
use Rattle.x690_laws.proofs.FaultsOfHeaders.{require_off}
use Rattle.x690_laws.proofs.ReadingOfHeaders.{choose_second, not_false, require_on}
use Rattle.x690_laws.specs.StepLaws.{read_all_segments, read_only_segment}
use Rattle.ber_pull.specs.Calls.{read_entering, read_leaving, read_next, read_primitive, read_segments}
use Rattle.ber_pull.specs.Standing.{Standing, enclosing, is_over}
use Rattle.ber_pull.specs.declared.state.Given.{Given}
use Rattle.asn_elements.specs.CallLaws.{CallSteps, end_is_due}

next_is : (s : Standing) (k : ℕ) (o : List ℕ) → s.given ≡ None → is_over s ≡ false
    → run (read_next s) k o ≡ run (next_tag s.limits (enclosing s)) k o
unfolding read_next
next_is s k o none live = rw none (choose_second _ _ _ k o live)

enter_is : (s : Standing) (g : Given) (k : ℕ) (o : List ℕ)
    → run (read_entering s g) k o ≡ run (in_container s.limits (enclosing s) g.at g.constructed Done) k o
unfolding read_entering
enter_is s g k o = refl

-- readings that are followed by one have one outcome where they do
followed_so : {A B : Type 0} (p q : Reading A) (f : A → Reading B) (k : ℕ) (o : List ℕ) → run p k o ≡ run q k o
    → run (p >>= f) k o ≡ run (q >>= f) k o
followed_so {A} {B} p q f k o e = go (run q k o) refl
  where
    go : (out : Outcome A) → run q k o ≡ out → run (p >>= f) k o ≡ run (q >>= f) k o
    go (Halted g) h = halt_bind p f k o g (e ∙ h) ∙ sym (halt_bind q f k o g h)
    go (Took a j r) h = run_bind p f k o a j r (e ∙ h) ∙ sym (run_bind q f k o a j r h)

leave_is : (s : Standing) (k : ℕ) (o : List ℕ) → s.given ≡ None → is_over s ≡ false
    → run (read_leaving s) k o ≡ run (next_tag s.limits (enclosing s) >>= end_is_due) k o
unfolding read_leaving
leave_is s k o none live =
    bind_same (read_next s) _ end_is_due alike k o
    ∙ followed_so (read_next s) (next_tag s.limits (enclosing s)) end_is_due k o (next_is s k o none live)
  where
    alike : (d : Next) (j : ℕ) (r : List ℕ)
        → run {A = Unit {0}}
        (elim d [ ContainerEnds p ↦ Done tt | ElementStands p tag constructed ↦ Fail (fault p Extra) ]) j r
        ≡ run (end_is_due d) j r
    alike (ContainerEnds p) j r = refl
    alike (ElementStands p tag constructed) j r = refl

not_left : (s : Standing) (g : Given) (k : ℕ) (o : List ℕ) → s.given ≡ Some g
    → run (read_leaving s) k o ≡ Halted (fault g.at Extra)
unfolding read_leaving read_next run ◌>>=◌
not_left s g k o e = rw e refl

primitive_is : (s : Standing) (g : Given) (k : ℕ) (o : List ℕ) → g.constructed ≡ false
    → run (read_primitive s g) k o ≡ run (primitive_contents s.limits (enclosing s) g.at) k o
unfolding read_primitive
primitive_is s g k o e = require_on _ _ _ k o (not_false _ e)

not_primitive : (s : Standing) (g : Given) (k : ℕ) (o : List ℕ) → g.constructed ≡ true
    → run (read_primitive s g) k o ≡ Halted (fault g.at WrongForm)
unfolding read_primitive
not_primitive s g k o e = require_off _ _ _ k o (fault g.at WrongForm) (ap not e) refl

one_segment : (n : ℕ) (s : Standing) (g : Given) (k : ℕ) (o : List ℕ) → g.constructed ≡ false
    → run (read_segments n s g) k o ≡ run (read_only_segment n s.limits (enclosing s) g.at) k o
unfolding read_segments
one_segment n s g k o e = rw e refl

segments_are : (n : ℕ) (s : Standing) (g : Given) (k : ℕ) (o : List ℕ) → g.constructed ≡ true
    → run (read_segments n s g) k o
    ≡ run (read_all_segments n s.limits (enclosing s) g.at >>= λ ended. Done ended.all) k o
unfolding read_segments
segments_are n s g k o e = rw e refl

pub call_steps : CallSteps
call_steps = record {
  next = next_is;
  enter = enter_is;
  leave = leave_is;
  not_left = not_left;
  primitive = primitive_is;
  not_primitive = not_primitive;
  one_segment = one_segment;
  segments = segments_are;
}

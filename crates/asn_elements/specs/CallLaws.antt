-- What the law on the calls of a pull reader says: each follows a single step of the plain reading.
use Rattle.std.specs.Prelude.{List, None, Some, false, true, ℕ, ◌≡◌}
use Rattle.tlv_core.specs.declared.reason.Reason.TheVariants.{Extra, WrongForm}
use Rattle.x690.specs.Points.{fault}
use Rattle.x690.specs.ReadHeaders.{ContainerEnds, ElementStands, Next, in_container, next_tag, primitive_contents}
use Rattle.x690.specs.Reading.{Done, Fail, Halted, Reading, run, ◌>>=◌}
use Rattle.x690_laws.specs.StepLaws.{read_all_segments, read_only_segment}
use Rattle.ber_pull.specs.Calls.{read_entering, read_leaving, read_next, read_primitive, read_segments}
use Rattle.ber_pull.specs.Standing.{Standing, enclosing, is_over}
use Rattle.ber_pull.specs.declared.state.Given.{Given}

-- the end of the container is due, and an element is one too many
abbrev pub end_is_due : Next → Reading (Unit {0})
end_is_due (ContainerEnds place) = Done tt
end_is_due (ElementStands place tag constructed) = Fail (fault place Extra)

pub record CallSteps : Type 0 where
  -- `next_tag`, where no identifier is given and something may come
  pub next : (s : Standing) (place : ℕ) (octets : List ℕ) → s.given ≡ None → is_over s ≡ false
      → run (read_next s) place octets ≡ run (next_tag s.limits (enclosing s)) place octets
  -- `enter`
  pub enter : (s : Standing) (g : Given) (place : ℕ) (octets : List ℕ)
      → run (read_entering s g) place octets
      ≡ run (in_container s.limits (enclosing s) g.at g.constructed Done) place octets
  -- `leave`, where nothing is given and something may come, and where an element is given
  pub leave : (s : Standing) (place : ℕ) (octets : List ℕ) → s.given ≡ None → is_over s ≡ false
      → run (read_leaving s) place octets ≡ run (next_tag s.limits (enclosing s) >>= end_is_due) place octets
  pub not_left : (s : Standing) (g : Given) (place : ℕ) (octets : List ℕ) → s.given ≡ Some g
      → run (read_leaving s) place octets ≡ Halted (fault g.at Extra)
  -- `primitive`
  pub primitive : (s : Standing) (g : Given) (place : ℕ) (octets : List ℕ) → g.constructed ≡ false
      → run (read_primitive s g) place octets ≡ run (primitive_contents s.limits (enclosing s) g.at) place octets
  pub not_primitive : (s : Standing) (g : Given) (place : ℕ) (octets : List ℕ) → g.constructed ≡ true
      → run (read_primitive s g) place octets ≡ Halted (fault g.at WrongForm)
  -- the segments of `octets`, of universal tag 4, and of `bits`, of universal tag 3
  pub one_segment : (number : ℕ) (s : Standing) (g : Given) (place : ℕ) (octets : List ℕ) → g.constructed ≡ false
      → run (read_segments number s g) place octets
      ≡ run (read_only_segment number s.limits (enclosing s) g.at) place octets
  pub segments : (number : ℕ) (s : Standing) (g : Given) (place : ℕ) (octets : List ℕ) → g.constructed ≡ true
      → run (read_segments number s g) place octets
      ≡ run (read_all_segments number s.limits (enclosing s) g.at >>= λ ended. Done ended.all) place octets

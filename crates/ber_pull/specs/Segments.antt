-- The segments of a string, as the reader walks through them with a stack of its own.
use Rattle.std.specs.Prelude.{Bool, List, MatchResult, Result, [], cond, false, length, true, ℕ, ◌+◌, ◌++◌, ◌<◌, ◌∷◌, ◌≡◌}
use Rattle.tlv_core.specs.Limits.{Limits}
use Rattle.tlv_core.specs.declared.fault.ReadError.{ReadError}
use Rattle.tlv_core.specs.declared.reason.Reason.TheVariants.{BadBits}
use Rattle.tlv_core.specs.declared.source.Source.{Ghosts}
use Rattle.x690.specs.Contents.{bit_octets, unused_bits}
use Rattle.x690.specs.Lists.{join}
use Rattle.x690.specs.Points.{Enclosing, fault}
use Rattle.x690.specs.ReadContents.{is_next_segment, read_segment}
use Rattle.x690.specs.ReadHeaders.{each_member, primitive_contents}
use Rattle.x690.specs.Reading.{Done, Reading, require, ◌>>=◌}
use Rattle.x690.specs.Reads.{Said}
use Rattle.ber_pull.specs.Hears.{Continues, heard_error}
use Rattle.ber_pull.specs.Standing.{Standing, enclosing_of, is_ended}
use Rattle.ber_pull.specs.View.{Answers, told}
use Rattle.ber_pull.specs.declared.pull.Pull.{Pull}
use Rattle.ber_pull.specs.declared.state.Container.{Container}
use Rattle.ber_pull.specs.declared.string.Joined.{Joined}

-- the number of the universal tag of segments: BIT STRING or OCTET STRING
abbrev pub segment_number : Bool → ℕ
segment_number is_bits = cond is_bits 3 4

abbrev pub joined_octets : Bool → List (List ℕ) → List ℕ
joined_octets true segments = bit_octets segments
joined_octets false segments = join segments

abbrev pub joined_unused : Bool → List (List ℕ) → ℕ
joined_unused true segments = unused_bits segments
joined_unused false segments = 0

-- it holds these primitive segments, joined
pub record Joins (joined : Joined) (segments : List (List ℕ)) : Type 0 where
  pub octets : joined.octets.items ≡ joined_octets joined.is_bits segments
  pub unused : joined.unused ≡ joined_unused joined.is_bits segments

-- a primitive segment after these
unfoldable pub read_one_segment : ℕ → Limits → Enclosing → List (List ℕ) → ℕ → Reading (List (List ℕ))
read_one_segment n l c segments p =
    primitive_contents l c p
    >>= λ o. require (is_next_segment n segments o) (fault p BadBits) (Done (segments ++ (o ∷ [])))

-- a constructed segment that is open: how deep and how many its members may be, and the point in it
pub record Level : Type 0 where
  pub deep : ℕ
  pub fuel : ℕ
  pub around : Enclosing

-- what is still to be read of the open segments, the innermost first, after the primitive ones that came
unfoldable pub read_rest : ℕ → Limits → List Level → List (List ℕ) → Reading (List (List ℕ))
read_rest n l [] segments = Done segments
read_rest n l (v ∷ vs) segments =
    each_member (read_segment v.deep l n v.around) v.fuel l v.around segments >>= λ e. read_rest n l vs e.all

-- the open containers are those of these segments, and then those around the string; each segment may go as deep as the
-- limit lets it, and has as many members as octets are left
abbrev pub Stacked : Standing → List Container → List Level → List Container → Type 0
Stacked s around [] cs = cs ≡ around
Stacked s around (v ∷ vs) [] = ⊥
Stacked s around (v ∷ vs) (c ∷ cs) =
    (v.around ≡ enclosing_of (c ∷ cs))
    × (is_ended c ≡ false)
    × (s.limits.octets < v.fuel + s.taken)
    × (s.limits.depth < v.deep + length (c ∷ cs))
    × Stacked s around vs cs

-- a walk that began with this reading goes on among these containers
pub record GoesOn {R : Type 0} {s : Ghosts R} (start now : Pull R s) (around : List Container) (n : ℕ)
    (p : Reading (List (List ℕ))) (joined : Joined) : Type 0 where
  pub levels : List Level
  pub segments : List (List ℕ)
  pub stacked : Stacked now.state around levels now.state.containers
  pub joins : Joins joined segments
  pub reads : Continues p start.state.taken (told start) (read_rest n now.state.limits levels segments) now.state.taken
      (told now)

-- a step of the walk
abbrev pub Steps : {R : Type 0} {s : Ghosts R} → Pull R s → Pull R s → List Container → ℕ → Reading (List (List ℕ))
    → Joined → Result (Unit {0}) ReadError → Type 0
Steps old new around n p joined result =
    MatchResult result (λ _. GoesOn old new around n p joined) (λ e. Answers old new p (heard_error e))

-- the segments that the reading gives are joined
abbrev pub AnswersJoined : {R : Type 0} {s : Ghosts R} → Pull R s → Pull R s → Reading (List (List ℕ))
    → Result Joined ReadError → Type 0
AnswersJoined old new p result =
    MatchResult result
    (λ joined. (segments : List (List ℕ)) × Joins joined segments × Answers old new p (Said segments))
    (λ e. Answers old new p (heard_error e))

-- the same, joined in place
abbrev pub AddsSegment : {R : Type 0} {s : Ghosts R} → Pull R s → Pull R s → Reading (List (List ℕ)) → Joined
    → Result (Unit {0}) ReadError → Type 0
AddsSegment old new p joined result =
    MatchResult result (λ _. (segments : List (List ℕ)) × Joins joined segments × Answers old new p (Said segments))
    (λ e. Answers old new p (heard_error e))

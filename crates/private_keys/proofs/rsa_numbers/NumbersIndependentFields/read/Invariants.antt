use Rattle.std.proofs.Common.{◌≡◌, ◌*◌, ◌+◌, ◌++◌, ◌-◌, ◌<◌, ◌≤◌, ◌^◌, List, None, Option, ℕ, length, true}
use Rattle.std.specs.Prelude.{slice_index}
use Rattle.x690.specs.DerTexts.{texts_of}
use Rattle.x690.specs.ReadContents.{is_integer_contents}
use Rattle.x690.specs.Reading.{Reading}
use Rattle.x690.specs.TypeTerms.{Fields}
use Rattle.x690.specs.Values.{Value}
use Rattle.ber_pull.specs.View.{SameSource, standing, told}
use Rattle.asn_fields.specs.BegunSequence.{BegunSequence}
use Rattle.asn_fields.specs.Fields.{StaysInside, next_of}
use Rattle.private_keys.specs.RsaNumbers.{integers_due, number_in, values_in}
use Rattle.private_keys.proofs.rsa_numbers.NumbersIndependentFields.read.Given as goal

abbrev pub invariant-loop-i : goal.invariant-loop-i
invariant-loop-i g l =
    let values = values_in l.text.items l.begins l.ends l.i in
    SameSource l.fn.pull l.pull
    × ((standing l.pull).error ≡ None)
    × ((standing l.pull).limits ≡ (standing l.fn.pull).limits)
    × ((standing l.fn.pull).taken ≤ (standing l.pull).taken)
    × ((standing l.fn.pull).error ≡ None)
    × StaysInside l.fn.pull l.pull l.fn.next l.next
    × (l.text.items ≡ texts_of values)
    × (length (texts_of values) ≤ l.i * 2 ^ 32)
    × ((j : ℕ) → j < l.i → (slice_index l.begins j ≤ slice_index l.ends j)
    × (slice_index l.ends j ≤ length l.text.items))
    × ((j : ℕ) → j < l.i → is_integer_contents (number_in l.text.items l.begins l.ends j) ≡ true)
    × ((k : ℕ) (s : Option (List ℕ)) (whole : Reading Value) (finish : List Value → Reading Value) (rest : Fields)
    (ws : List Value)
    → BegunSequence k s whole finish (integers_due 8 rest) ws (next_of l.fn.next) (standing l.fn.pull) (told l.fn.pull)
    → BegunSequence k s whole finish (integers_due (8 - l.i) rest) (ws ++ values) (next_of l.next) (standing l.pull)
    (told l.pull))
    × (length l.begins ≡ 8)
    × (length l.ends ≡ 8)

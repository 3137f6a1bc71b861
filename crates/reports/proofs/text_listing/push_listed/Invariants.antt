use Rattle.std.proofs.Common.{◌≡◌, ◌++◌, reverse, string_bytes, vec_len}
use Rattle.reports.specs.Listings.{listed}
use Rattle.reports.proofs.text_listing.push_listed.Given as goal

abbrev pub invariant-loop-number : goal.invariant-loop-number
invariant-loop-number l =
    string_bytes l.text ++ listed l.layout l.gaps l.lines l.last (reverse l.left.items)
    ≡ string_bytes l.fn.text ++ listed l.layout l.gaps l.lines 0 (reverse l.fn.numbers.items)

abbrev pub decreases-loop-number : goal.decreases-loop-number
decreases-loop-number l = vec_len l.left

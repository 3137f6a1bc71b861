use Rattle.std.proofs.Common.{◌≡◌, ◌++◌, drop, string_bytes}
use Rattle.reports.specs.Listings.{all_lines}
use Rattle.reports.proofs.text_listing.push_all.Given as goal

abbrev pub invariant-loop-number : goal.invariant-loop-number
invariant-loop-number l =
    string_bytes l.text ++ all_lines l.layout l.number (drop l.number l.lines)
    ≡ string_bytes l.fn.text ++ all_lines l.layout 0 l.lines

use Rattle.std.proofs.Common.{◌≡◌, length}
use Rattle.reports.specs.Listings.{header_columns}
use Rattle.reports.proofs.text_listing.header_columns.Given as goal

abbrev pub invariant-loop-left : goal.invariant-loop-left
invariant-loop-left l = header_columns l.widest l.left ≡ header_columns 0 l.lines

abbrev pub decreases-loop-left : goal.decreases-loop-left
decreases-loop-left l = length l.left

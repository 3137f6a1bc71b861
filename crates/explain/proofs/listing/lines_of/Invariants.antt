use Rattle.explain.specs.Listings.{ListsFile, listing_state}
use Rattle.explain.specs.Places.{SkipsIn, listed_document}
use Rattle.explain.proofs.listing.lines_of.Given as goal

abbrev pub invariant-loop-i : goal.invariant-loop-i
invariant-loop-i l =
    SkipsIn l.cursor
    → ListsFile (listed_document l.cursor) l.insides l.i l.left (listing_state l.hidden l.numbers.items l.lines.items)

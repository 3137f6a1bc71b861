use Rattle.explain.specs.Listings.{Lists, listing_state, start_of}
use Rattle.explain.specs.Places.{Skips, listed_document}
use Rattle.explain.proofs.listing.push_inside.Given as goal

abbrev pub invariant-loop-i : goal.invariant-loop-i
invariant-loop-i l = record {
  skips : Skips l.cursor.pieces.now l.before l.rest;
  lists : Lists (listed_document l.cursor) l.i (start_of l.fn.lines.items)
      (listing_state l.hidden l.numbers.items l.lines.items);
}

use Rattle.std.proofs.Common.{arith, length, refl, rules, subst, ◌≡◌}
use Rattle.explain.specs.Listings.{Lists, listing_state, start_of}
use Rattle.explain.specs.Places.{listed_document}
use Rattle.explain.proofs.Listed.{one_more, started}
use Rattle.explain.proofs.Pieces.{skip_none}
use Rattle.explain.proofs.listing.push_inside.Goals as goal

pub loop-i-init : goal.loop-i-init
loop-i-init c = record {
  skips = skip_none c.args.cursor.pieces.now;
  lists = started _ _ _ (search rules) (search rules);
}

pub loop-i-preserved : goal.loop-i-preserved
loop-i-preserved c =
    let skips = c.later_pieces-octets.ensures.skips c.loop-i.invariant.skips in
    record {
      skips = skips;
      lists =
          one_more (listed_document c.args.cursor) c.loop-i.i _ _ _ c.loop-i.invariant.lists
          (c.in_ok-next.ensures skips);
    }

pub returns : goal.returns
returns c =
    let all : c.loop-i.i ≡ length c.args.cursor.elements.now = omega arith in
    let end = listing_state c.loop-i.hidden c.loop-i.numbers.items c.loop-i.lines.items in (
      end,
      subst (λ number. Lists (listed_document c.args.cursor) number (start_of c.args.lines.now.items) end) all
          c.loop-i.invariant.lists,
      refl,
    )

use Rattle.std.proofs.Common.{arith, length, refl, rules, subst, ◌≡◌}
use Rattle.std.specs.Option.{option_map}
use Rattle.explain.specs.Listings.{AddsElement, ListsFile, listing_state}
use Rattle.explain.specs.Places.{listed_document}
use Rattle.explain.proofs.Listed.{file_more}
use Rattle.explain.proofs.listing.lines_of.Goals as goal

pub loop-i-preserved : goal.loop-i-preserved
loop-i-preserved c = λ skips.
    let document = listed_document c.args.cursor in
    let inside = option_map (λ r. r.now) c.next_inside.result.0 in
    let before = listing_state c.loop-i.hidden c.loop-i.numbers.items c.loop-i.lines.items in
    let mid = listing_state c.in_ok-next.next c.push_element.new.numbers.items c.push_element.new.lines.items in
    let end = listing_state c.in_ok-next.next c.push_element.new.numbers.items c.push_inside_of.new.lines.items in
    file_more document c.args.insides.now c.loop-i.i c.loop-i.left.now _ inside _ before mid end
    (c.loop-i.invariant skips)
    (subst (λ it. AddsElement document it c.loop-i.i before mid) c.judgement_of.ensures (c.in_ok-next.ensures skips))
    c.next_inside.ensures.inside (first_of (search rules, cc, omega arith))
    (c.in_ok-push_inside_of.ensures c.in_ok-next.next c.push_element.new.numbers.items)
    c.next_inside.ensures.after

pub returns : goal.returns
returns c = λ skips.
    let all : c.loop-i.i ≡ length c.args.cursor.elements.now = omega arith in
    let end = listing_state c.loop-i.hidden c.loop-i.numbers.items c.loop-i.lines.items in record {
      left = c.loop-i.left.now;
      end = end;
      lists =
          subst
          (λ number. ListsFile (listed_document c.args.cursor) c.args.insides.now number c.loop-i.left.now end) all
          (c.loop-i.invariant skips);
      are = refl;
    }

use Rattle.std.proofs.Common.{rules, ◌≡◌, ◌≤◌, ◌+◌, ◌∙◌, ap, ap₂, arith, false, length, sym, true}
use Rattle.ber_pull.specs.Standing.{has_room}
use Rattle.ber_pull.proofs.AtHand.{extent, extent_is, extent_stands, no_extent, shortly_spelled}
use Rattle.ber_pull.proofs.pull.Pull.extent_at_hand.Goals as goal
use Rattle.ber_pull.proofs.pull.Pull.extent_at_hand.Goals.{then-held-end-via-then-held-end, then-held-end-via-else-held-end+then-not-has_room}

pub returns-in_err-extent-clause-all : goal.returns-in_err-extent-clause-all
returns-in_err-extent-clause-all g c = λ none place end contents rest h few.
    let octets = g.R.Source.at_hand c.args.self.now.src.now in
    let t = shortly_spelled c.args.self.now.state octets contents rest place end h few in
    no_extent c.short_length.result (length t.text) (length contents) (search rules)
    (c.short_length.ensures.all t.text t.behind (length contents) (c.held-held.ensures ∙ t.is) t.spells t.short)

pub returns-then-held-end-clause-all : goal.returns-then-held-end-clause-all
returns-then-held-end-clause-all g c = λ none place end contents rest h few.
    let s = c.args.self.now.state in
    let octets = g.R.Source.at_hand c.args.self.now.src.now in
    let x = c.in_ok-extent.extent in
    let t = shortly_spelled s octets contents rest place end h few in
    let same = extent_is c.short_length.result x (length t.text) (length contents) (search rules)
    (c.short_length.ensures.all t.text t.behind (length contents) (c.held-held.ensures ∙ t.is) t.spells t.short) in
    elim c.then-held-end.branch [
      | then-held-end-via-then-held-end w ↦
          omega (arith, w.if-held-end.true, t.fits, same.0, same.1, ap length c.held-held.ensures)
      | then-held-end-via-else-held-end+then-not-has_room w ↦
          let no : has_room s (x.from + x.size) ≡ false = sym w.has_room.ensures.value ∙ w.if-not-has_room.true in
          let yes : has_room s (x.from + x.size) ≡ true =
          ap₂ (λ a b. has_room s (a + b)) same.0 same.1 ∙ t.room in
          cc
    ]

pub returns-clause-stand : goal.returns-clause-stand
returns-clause-stand g c =
    let x = c.in_ok-extent.extent in
    let told = c.in_ok-extent.ensures in
    let fits : x.from + x.size ≤ length c.held-held.result.now = omega (arith, c.if-held-end.false) in
    extent_stands c.args.self.now.state (g.R.Source.at_hand c.args.self.now.src.now) c.held-held.result.now x.from x.size
    c.held-held.ensures told.spells told.short told.small fits
    (sym c.has_room.ensures.value ∙ c.if-not-has_room.false) (c.has_room.ensures.within c.if-not-has_room.false)

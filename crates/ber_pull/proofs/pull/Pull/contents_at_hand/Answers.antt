use Rattle.std.proofs.Common.{rules, ◌≡◌, ◌+◌, ◌-◌, ◌∙◌, ap₂, arith, drop, false, sym, take, true}
use Rattle.ber_pull.specs.Standing.{gives_primitive}
use Rattle.ber_pull.proofs.AtHand.{at_hand_given, at_hand_primitive, element_read}
use Rattle.ber_pull.proofs.pull.Pull.contents_at_hand.Goals as goal
use Rattle.ber_pull.proofs.pull.Pull.contents_at_hand.Goals.{then-has_failed-via-then-has_failed, then-has_failed-via-else-has_failed+then-not-is_primitive}

pub returns-then-has_failed-clause-all : goal.returns-then-has_failed-clause-all
returns-then-has_failed-clause-all g c = λ none contents a.
    elim c.then-has_failed.branch [
      | then-has_failed-via-then-has_failed w ↦
          let failed = c.has_failed.ensures.failed w.if-has_failed.true in let fine = a.fine in cc
      | then-has_failed-via-else-has_failed+then-not-is_primitive w ↦
          let no : gives_primitive c.args.self.now.state ≡ false = sym w.is_primitive.ensures ∙ w.if-not-is_primitive.true in
          let yes = at_hand_primitive c.args.self.now.state _ contents a in
          cc
    ]

pub returns-in_err-extent-clause-all : goal.returns-in_err-extent-clause-all
returns-in_err-extent-clause-all g c = λ none contents a.
    c.extent_at_hand.ensures.all (search rules) a.element.at a.place contents a.rest
    (element_read c.args.self.now.state _ contents a).reads a.short

pub returns-clause-are : goal.returns-clause-are
returns-clause-are g c =
    let x = c.in_ok-extent.extent in
    let size : x.size ≡ x.from + x.size - x.from = omega arith in
    at_hand_given c.args.self.now.state (g.R.Source.at_hand c.args.self.now.src.now) _ x.from x.size
    (c.has_failed.ensures.fine c.if-has_failed.false) (sym c.is_primitive.ensures ∙ c.if-not-is_primitive.false)
    c.in_ok-extent.ensures.stand (ap₂ (λ n o. take n (drop x.from o)) size (sym c.held-held.ensures))

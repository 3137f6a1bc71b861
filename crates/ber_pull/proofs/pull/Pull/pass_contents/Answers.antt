use Rattle.std.proofs.Common.{rules}
use Rattle.ber_pull.proofs.AtHand.{element_passed, element_read}
use Rattle.ber_pull.proofs.pull.Pull.pass_contents.Goals as goal

pub unreachable-requires : goal.unreachable-requires
unreachable-requires g c =
    let a = c.requires.1 in
    c.extent_at_hand.ensures.all (search rules) a.element.at a.place c.requires.0 a.rest
    (element_read c.args.self.now.state _ c.requires.0 a).reads a.short

pub returns-clause-reads : goal.returns-clause-reads
returns-clause-reads g c = λ given contents is a.
    element_passed c.args.self.now.state (g.R.Source.at_hand c.args.self.now.src.now) contents c.in-Some.extent.from
    c.in-Some.extent.size given _ _ _ _ a c.in-Some.ensures.stand is c.pass_extent.ensures.reads

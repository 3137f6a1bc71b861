use Rattle.std.proofs.Common.{◌∙◌, ◌∷◌, List, [], ap, ap₂, arith, get_or, subst, sym, take, ℕ}
use Rattle.std.proofs.lemmas.List.{drop_more}
use Rattle.x690.specs.Reads.{Said}
use Rattle.x690.specs.ReadHeaders.{primitive_contents}
use Rattle.ber_pull.specs.Standing.{enclosing}
use Rattle.ber_pull.specs.View.{Answers}
use Rattle.ber_pull.proofs.pull.Pull.pass_octet.Goals as goal

pub returns-clause-reads : goal.returns-clause-reads
returns-clause-reads g c = λ place.
    let octets = g.R.Source.at_hand c.args.self.now.src.now in
    let s = c.args.self.now.state in
    let from = c.args.extent.from in
    let some = drop_more octets from 0 (omega (arith, c.requires.stand.within, c.requires.one)) in
    subst (λ contents. Answers c.args.self.now c.pass_extent.new.self
    (primitive_contents s.limits (enclosing s) place) (Said contents))
    (ap₂ (λ n (l : List ℕ). take n l) c.requires.one some
    ∙ sym (ap (λ (o : List ℕ). get_or o from 0 ∷ []) c.held.ensures))
    (c.pass_extent.ensures.reads place)

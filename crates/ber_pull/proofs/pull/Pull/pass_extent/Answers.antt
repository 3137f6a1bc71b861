use Rattle.std.proofs.Common.{◌+◌, ◌∙◌, ap, drop, refl, sym, take}
use Rattle.std.proofs.lemmas.List.{take-append-drop}
use Rattle.ber_pull.proofs.AtHand.{hears_passed}
use Rattle.ber_pull.proofs.Hearing.{hears_at}
use Rattle.ber_pull.proofs.pull.Pull.pass_extent.Goals as goal

pub returns-clause-reads : goal.returns-clause-reads
returns-clause-reads g c = λ place.
    let octets = g.R.Source.at_hand c.args.self.now.src.now in
    let end = c.args.extent.from + c.args.extent.size in
    hears_at _ _ _ _ _ _ _ _ (ap (λ s. s.taken) c.use_given.ensures ∙ ap (λ s. s.taken) c.take.ensures) refl
    (hears_passed _ _ _ _ (take end octets) (drop end octets) octets _ _ (c.requires.stand.reads place)
    (sym (take-append-drop end octets)) c.pass.ensures.octets)

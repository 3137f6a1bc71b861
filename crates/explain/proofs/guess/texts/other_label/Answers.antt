use Rattle.std.proofs.Common.{ap, ◌∙◌}
use Rattle.explain.specs.TextGuesses.{label_among, or_label}
use Rattle.reports.specs.Guesses.{certificate_labels, public_labels, unread_labels}
use Rattle.explain.proofs.guess.texts.other_label.Goals as goal

pub returns : goal.returns
returns c =
    c.or_among.ensures
    ∙ ap (λ found. or_label found (label_among unread_labels c.args.text.now))
    (c.or_among-or_public.ensures
    ∙ ap (λ found. or_label found (label_among public_labels c.args.text.now))
    (c.or_among-or_certificate.ensures
    ∙ ap (λ found. or_label found (label_among certificate_labels c.args.text.now)) c.label_among-private.ensures))

use Rattle.std.proofs.Common.{◌∙◌, ap, codes, string_bytes}
use Rattle.reports.specs.TypeWords.{bracketed, tag_by, tag_said}
use Rattle.reports.proofs.Appends.{in_words}
use Rattle.reports.proofs.type_words.push_tag.Goals as goal

pub returns-in-Application : goal.returns-in-Application
returns-in-Application c =
    let tag = c.args.tag in
    let number = c.number-in-Application.result in
    in_words c.push_bracketed.result (string_bytes c.push_bracketed.new.text) (string_bytes c.args.text.now)
    (bracketed (codes "[APPLICATION ") number) (tag_said tag) c.push_bracketed.ensures
    (ap (bracketed (codes "[APPLICATION ")) c.number-in-Application.ensures
    ∙ ap (λ class. tag_by class tag.number) c.in-Application.ensures)

use Rattle.std.proofs.Common.{◌≡◌, ◌∙◌, ap, subst}
use Rattle.pk_documents.proofs.DocumentValues.{valued}
use Rattle.commands.specs.Files.{CameAs, IsLeft, said_text}
use Rattle.commands.specs.Names.{file_name}
use Rattle.commands.proofs.files.said_of.Goals as goal

pub returns : goal.returns
returns g c =
    let came = c.came_of-came.result in
    let is : c.as_str.result.now ≡ file_name c.args.name.now =
    c.as_str.ensures.value ∙ c.in_ok-file.ensures in
    let is_again : c.as_str-2.result.now ≡ file_name c.args.name.now =
    c.as_str-2.ensures.value ∙ c.in_ok-file.ensures in (
      came.0,
      came.2,
      came.1.items,
      subst
          (λ file. CameAs valued (g.O.Opener.known c.args.opener.now c.args.name.now)
          (g.O.Opener.refuses c.args.opener.now c.args.name.now)
          (IsLeft g.O.Document.Source.has_failed g.O.Document.Source.remaining) c.args.task.now file came.0
          came.2 came.1.items)
          is c.came_of-came.ensures,
      c.came_verdict.ensures,
      c.in_ok-text.ensures
          ∙ ap (λ file. said_text c.args.task.now.action c.args.name.now file came.0 came.1.items) is_again,
    )

use Rattle.std.proofs.Common.{[], ◌∙◌, ◌++◌, ◌∷◌, ap, codes}
use Rattle.json.specs.Token.{begin_object, end_object}
use Rattle.explain.specs.Written.{version}
use Rattle.reports.specs.JsonMembers.{number_member, text_member}
use Rattle.commands.proofs.Tokens.{gathered, on_ok}
use Rattle.commands.proofs.reported.push_error.Goals as goal

pub returns-clause-tokens : goal.returns-clause-tokens
returns-clause-tokens c =
    let form = number_member (codes "form") 1 in
    let known = text_member (codes "version") version in
    let file = text_member (codes "file") c.args.file.now in
    let status = number_member (codes "status") c.args.status in
    let error = text_member (codes "error") c.args.error.now in
    let chain =
    c.in_ok-push_text-3.ensures.tokens
    ∙ ap (λ ts. ts ++ error) (c.in_ok-push_number-2.ensures.tokens
    ∙ ap (λ ts. ts ++ status) (c.in_ok-push_text-2.ensures.tokens
    ∙ ap (λ ts. ts ++ file) (c.in_ok-push_text.ensures.tokens
    ∙ ap (λ ts. ts ++ known) (c.in_ok-push_number.ensures.tokens
    ∙ ap (λ ts. ts ++ form) c.in_ok-begin_object.ensures.ok)))) in
    on_ok c.end_object.result
    (λ e. e ∙ ap (λ ts. ts ++ end_object ∷ []) chain
    ∙ gathered c.args.json.now.tokens (begin_object ∷ []) form known file status error (end_object ∷ []))
    c.end_object.ensures.ok

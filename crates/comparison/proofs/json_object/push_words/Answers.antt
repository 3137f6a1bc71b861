use Rattle.std.proofs.Common.{[], ◌++◌, ◌∙◌, ◌∷◌, ap, codes, string_bytes}
use Rattle.json.specs.Token.{begin_object, end_object}
use Rattle.reports.specs.JsonMembers.{text_member}
use Rattle.reports.proofs.Appends.{further, past}
use Rattle.comparison.specs.Json.{words_object}
use Rattle.comparison.proofs.json_object.push_words.Goals as goal

pub returns : goal.returns
unfolding words_object
returns c =
    let old = c.args.json.now in
    let shown = c.args.shown.now in
    let field = text_member (codes "field") (string_bytes shown.field) in
    let first = text_member (codes "first") (string_bytes shown.first) in
    let second = text_member (codes "second") (string_bytes shown.second) in
    let begin = begin_object ∷ [] in
    let two = further c.text.new.self c.begin_object.new.self old begin field c.in_ok-begin_object.ensures
    (c.in_ok-text.ensures
    ∙ ap (λ w. c.begin_object.new.self ++ text_member (codes "field") w) c.as_str.ensures.value) in
    let three = further c.text-2.new.self c.text.new.self old (begin ++ field) first two
    (c.in_ok-text-2.ensures ∙ ap (λ w. c.text.new.self ++ text_member (codes "first") w) c.as_str-2.ensures.value) in
    let four = further c.text-3.new.self c.text-2.new.self old (begin ++ field ++ first) second three
    (c.in_ok-text-3.ensures ∙ ap (λ w. c.text-2.new.self ++ text_member (codes "second") w) c.as_str-3.ensures.value) in
    past c.end_object.result c.end_object.new.self c.text-3.new.self old (begin ++ field ++ first ++ second)
    (end_object ∷ []) four c.end_object.ensures

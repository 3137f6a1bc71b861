use Rattle.std.proofs.Common.{◌∙◌, ap}
use Rattle.reports.specs.JsonWords.{class_word}
use Rattle.reports.proofs.Tags.{class_again}
use Rattle.reports.proofs.json_lists.class_of_tag.Goals as goal

pub returns : goal.returns
returns c = c.word_of_class.ensures ∙ ap class_word (class_again c.class.result c.args.tag.class c.class.ensures)

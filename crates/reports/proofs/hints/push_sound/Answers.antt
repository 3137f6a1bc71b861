use Rattle.std.proofs.Common.{◌++◌, ap, string_bytes}
use Rattle.reports.specs.Hints.{sound_said, sound_words}
use Rattle.reports.proofs.Appends.{in_words, past, put}
use Rattle.reports.proofs.hints.push_sound.Goals as goal

pub returns : goal.returns
unfolding sound_said
returns c =
    let r = c.push_str-2.result in
    let old = string_bytes c.args.text.now in
    let with_words = string_bytes c.push_str.new.self in
    let new = string_bytes c.push_str-2.new.self in
    let signed = c.signed_words.result.now in
    in_words r new old (sound_words ++ signed) (sound_said c.args.kind.now)
    (past r new with_words old sound_words signed c.in_ok-push_str.ensures.bytes
    (put r new with_words signed c.push_str-2.ensures.bytes))
    (ap (λ s. sound_words ++ s) c.signed_words.ensures)

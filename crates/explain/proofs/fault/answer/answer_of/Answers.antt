use Rattle.pk_documents.specs.Kinds.{type_of}
use Rattle.explain.proofs.Sound.{sound_answer}
use Rattle.explain.proofs.fault.answer.answer_of.Goals as goal

pub returns-in-Ok : goal.returns-in-Ok
returns-in-Ok c =
    let checked = c.in-Ok.ensures.checked in
    sound_answer c.args.limits (type_of c.args.kind) c.args.octets.now _ _ c.sound.ensures
    (checked.0, _, _, checked.1, c.in-Ok.ensures.ends)

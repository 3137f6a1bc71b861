use Rattle.commands.proofs.ReplyLaws.{normalise_replies}
use Rattle.commands.proofs.laws.normalise_replies.Goals as goal

pub returns : goal.returns
returns c = normalise_replies

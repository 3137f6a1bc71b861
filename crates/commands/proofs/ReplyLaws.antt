-- What one action replies.
use Rattle.commands.specs.Replies.{NormaliseReplies}

pub normalise_replies : NormaliseReplies
normalise_replies value_of kind limits file outcome found before after old new replied = replied.0

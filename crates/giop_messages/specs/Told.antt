-- What a stream that was heard says.
use Rattle.giop_messages.specs.Heard.{Heard, Waits, Replies, Breaks, Ends, Refuses}
use Rattle.giop_messages.specs.declared.reply_streams.heard.Heard.{Heard as Said}
use Rattle.giop_messages.specs.declared.reply_streams.heard.Heard.TheVariants as said

abbrev pub told : Said → Heard
told (said.Waits stream) = Waits stream.run stream.rest.items
told (said.Replies reply) = Replies reply
told (said.Breaks fault) = Breaks fault
told said.Ends = Ends
told said.Refuses = Refuses

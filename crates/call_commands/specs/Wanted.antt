-- What is wanted of a call, as contracts see it.
use Rattle.command_texts.specs.Outcomes.{Called, called}
use Rattle.call_commands.specs.declared.followed_calls.wanted.Wanted.{Wanted}

abbrev pub called_of : Wanted → Called
called_of wanted = called wanted.table.now.model wanted.names.now wanted.reply wanted.exceptions.now

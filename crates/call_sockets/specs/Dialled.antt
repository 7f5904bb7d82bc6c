-- What was dialled, as its line. Connections tell nothing of what they carry.
use Rattle.std.specs.Prelude.{if◌then◌else◌, None, false}
use Rattle.iiop_broker.specs.Outcomes.{Ends, ends}
use Rattle.call_client.specs.Lines.{Line, made, missed}
use Rattle.call_sockets.specs.declared.dialler.Dialled.{Dialled}

abbrev pub silent : Ends
silent = ends None None false false

abbrev pub line_of : Dialled → Line
line_of dialled =
    if dialled.is_made then made dialled.host.items dialled.port silent else missed dialled.host.items dialled.port

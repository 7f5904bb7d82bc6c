use Rattle.program_output.proofs.Ends.{put_kept}
use Rattle.program_output.proofs.output.put.Goals as goal

pub returns-clause-behind : goal.returns-clause-behind
returns-clause-behind g c = λ n le. put_kept c.args.at c.args.room.now c.args.octets.now n g.row.N le c.requires.room
    c.requires.there

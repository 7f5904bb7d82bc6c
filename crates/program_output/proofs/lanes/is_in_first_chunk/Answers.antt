use Rattle.std.proofs.Common.{ap, ◌∙◌, take-take}
use Rattle.std.specs.List.{list_any}
use Rattle.program_output.proofs.lanes.is_in_first_chunk.Goals as goal

pub returns : goal.returns
returns g c = c.is_in_first.ensures
    ∙ ap (list_any g.S.Sought.is_sought) (take-take c.args.n 32 c.args.octets.now c.requires.within)

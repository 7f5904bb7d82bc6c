use Rattle.std.proofs.Common.{ap, ◌∙◌, arith}
use Rattle.std.specs.List.{list_any}
use Rattle.std.proofs.lemmas.List.{take_all}
use Rattle.program_output.proofs.Chunks.{both_parts}
use Rattle.program_output.proofs.lanes.is_in_eight_chunks.Goals as goal

pub returns : goal.returns
returns g c =
    let p = g.S.Sought.is_sought in
    let long = c.joined.ensures.long in
    both_parts p c.args.at 128 128 c.args.octets.now _ _ _ c.joined_fours-first.ensures.either
    c.joined_fours-second.ensures.either
    (c.is_in_first.ensures ∙ ap (list_any p)
    (take_all 32 c.joined.result (omega (arith, long, c.joined_fours-first.ensures.long)))
    ∙ c.joined.ensures.either)

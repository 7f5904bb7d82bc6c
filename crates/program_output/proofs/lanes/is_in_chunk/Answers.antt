use Rattle.std.proofs.Common.{ap, ◌∙◌, drop, le_refl, take-take}
use Rattle.std.specs.List.{list_any}
use Rattle.std.proofs.lemmas.Simd.{length-chunk}
use Rattle.program_output.proofs.lanes.is_in_chunk.Goals as goal

pub is_in_first-requires-clause-long : goal.is_in_first-requires-clause-long
is_in_first-requires-clause-long g c = length-chunk c.args.at 32 c.args.octets.now c.requires

pub returns : goal.returns
returns g c = c.is_in_first.ensures
    ∙ ap (list_any g.S.Sought.is_sought) (take-take 32 32 (drop c.args.at c.args.octets.now) (le_refl 32))

use Rattle.std.proofs.Common.{◌+◌, refl, sym, ◌∙◌, arith}
use Rattle.std.proofs.lemmas.Simd.{length-chunk}
use Rattle.program_output.proofs.Chunks.{both_parts}
use Rattle.program_output.proofs.lanes.joined_chunks.Goals as goal

pub joined-requires : goal.joined-requires
joined-requires g c = record {
  as_long = length-chunk c.args.at 32 c.args.octets.now (omega (arith, c.requires))
      ∙ sym (length-chunk (c.args.at + 32) 32 c.args.octets.now (omega (arith, c.requires)));
}

pub returns-clause-either : goal.returns-clause-either
returns-clause-either g c =
    both_parts g.S.Sought.is_sought c.args.at 32 32 c.args.octets.now _ _ _ refl refl c.joined.ensures.either

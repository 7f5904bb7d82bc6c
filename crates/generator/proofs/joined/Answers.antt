use Rattle.std.proofs.Common.{sym, subst}
use Rattle.type_graph.specs.GraphRules.{IsGraph}
use Rattle.marshal_program.specs.ProgramRules.{IsProgram}
use Rattle.marshal_program.proofs.JoinedRules.{joined_is_program}
use Rattle.generator.proofs.joined.Goals as goal

pub unreachable-requires : goal.unreachable-requires
unreachable-requires c =
    let graph : IsGraph c.graph.result.now = subst IsGraph (sym c.graph.ensures.value) c.graph.ensures.rules.graph in
    c.in-Err.ensures.refused
    (subst IsProgram (sym c.in_ok-joined_routines.ensures) (joined_is_program c.graph.result.now graph))

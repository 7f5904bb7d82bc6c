-- Each instruction does its pieces.
use Rattle.std.proofs.Common.{ℕ, List, All, sym}
use Rattle.std.proofs.lemmas.Bool.{true≢false}
use Rattle.type_graph.specs.declared.node.Node.{Node}
use Rattle.type_graph.specs.Words.{Format}
use Rattle.type_graph.specs.GraphRules.{IsGraph}
use Rattle.marshal_program.specs.declared.instr.Instr.{Instr}
use Rattle.marshal_program.specs.declared.instr.Instr.TheVariants.{Align, Octets, Words, Bools, EnumWord, Text, SeqOctets, SeqBools, SeqWords, SeqOf, Times, Call, Switch}
use Rattle.marshal_program.specs.declared.instr.Routine.{Routine}
use Rattle.marshal_program.specs.ProgramRules.{IsInstr, called_by, IsLower}
use Rattle.routine_checker.proofs.Claim.{Assumes}
use Rattle.routine_checker.proofs.StepLaws.{IsRightStep}
use Rattle.routine_checker.proofs.PieceLaws.{octets_pieces, words_pieces, bools_pieces, enum_pieces, text_pieces}
use Rattle.routine_checker.proofs.SwitchPieces.{switch_pieces}
use Rattle.routine_checker.proofs.SeqPieces.{seq_octets_pieces, seq_bools_pieces, seq_words_pieces, seq_of_pieces}
use Rattle.routine_checker.proofs.CallPieces.{times_pieces, call_pieces}

pub right_step : (graph : List Node) (program : List Routine) (format : Format) (depth rank : ℕ) → IsGraph graph
    → Assumes graph program format depth rank
    → (instr : Instr) → IsInstr instr → All (IsLower program rank) (called_by instr)
    → IsRightStep graph program format depth instr
right_step graph program format depth rank rules assumes (Align to) itself lower work state numbers pass long entered
    padded = absurd (true≢false (sym work))
right_step graph program format depth rank rules assumes (Octets n) itself lower work state numbers pass long entered
    padded = octets_pieces graph program format depth state n numbers pass long padded
right_step graph program format depth rank rules assumes (Words width n) itself lower work state numbers pass long
    entered padded = words_pieces graph program format depth state width n numbers itself.1.0 pass long padded
right_step graph program format depth rank rules assumes (Bools n) itself lower work state numbers pass long entered
    padded = bools_pieces graph program format depth state n numbers pass long padded
right_step graph program format depth rank rules assumes (EnumWord limit) itself lower work state numbers pass long
    entered padded = enum_pieces graph program format depth state limit numbers pass long padded
right_step graph program format depth rank rules assumes (Text bound) itself lower work state numbers pass long entered
    padded = text_pieces graph program format depth state bound numbers pass long padded
right_step graph program format depth rank rules assumes (SeqOctets bound) itself lower work state numbers pass long
    entered padded = seq_octets_pieces graph program format depth bound state numbers pass long padded
right_step graph program format depth rank rules assumes (SeqBools bound) itself lower work state numbers pass long
    entered padded = seq_bools_pieces graph program format depth bound state numbers pass long padded
right_step graph program format depth rank rules assumes (SeqWords width first bound) itself lower work state numbers
    pass long entered padded = seq_words_pieces graph program format depth width first bound state numbers pass long
    padded
right_step graph program format depth rank rules assumes (SeqOf bound first number) itself lower work state numbers pass
    long entered padded = seq_of_pieces graph program format depth rules rank assumes bound first number state numbers
    pass long entered padded
right_step graph program format depth rank rules assumes (Times n number) itself lower work state numbers pass long
    entered padded = times_pieces graph program format depth rank rules assumes n number state numbers itself.0 lower
    pass long entered padded
right_step graph program format depth rank rules assumes (Call number) itself lower work state numbers pass long entered
    padded = call_pieces graph program format depth rank rules assumes number state numbers lower pass long entered
    padded
right_step graph program format depth rank rules assumes (Switch disc arms otherwise) itself lower work state numbers
    pass long entered padded = switch_pieces graph program format depth rank rules assumes disc arms otherwise state
    numbers lower pass long entered padded

use Rattle.std.proofs.Common.{◌≡◌, ◌++◌, drop, take}
use Rattle.command_words.specs.Spoken.{glued}
use Rattle.command_words.specs.Words.{texts}
use Rattle.command_words.proofs.spoken.text_pieces.Given as goal

abbrev pub invariant-loop-place : goal.invariant-loop-place
invariant-loop-place l = glued (texts l.words) ≡ take l.place (texts l.words) ++ glued (drop l.place (texts l.words))

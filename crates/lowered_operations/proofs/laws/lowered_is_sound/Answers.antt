use Rattle.lowered_operations.proofs.FileLaws.{sound_lowered}
use Rattle.lowered_operations.proofs.laws.lowered_is_sound.Goals as goal

pub returns : goal.returns
returns c = sound_lowered

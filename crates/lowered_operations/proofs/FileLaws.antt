-- What a file is lowered to under its own names is sound.
use Rattle.std.proofs.Common.{◌≡◌, [], length, Result, Ok, Err, subst}
use Rattle.idl_tree.specs.declared.spec.Spec.{Spec}
use Rattle.name_steps.specs.Steps.{steps_of}
use Rattle.scoped_names.specs.FileNames.{AreNames, FileNames}
use Rattle.lowered_types.specs.declared.fault.BuildFault.{BuildFault}
use Rattle.lowered_types.proofs.Fine.{Fine}
use Rattle.lowered_types.proofs.Settled.{behind}
use Rattle.lowered_operations.specs.Definitions.{defined_by}
use Rattle.lowered_operations.specs.Operations.{Defined}
use Rattle.lowered_operations.specs.Sound.{IsSoundFile}
use Rattle.lowered_operations.proofs.BodiesRead.{all_done}
use Rattle.lowered_operations.proofs.FileKeep.{of_names_fine}
use Rattle.lowered_operations.proofs.OperationsKeep.{KeepsAll}
use Rattle.lowered_operations.proofs.SoundFile.{file_sound}

pub given_by : {A : Type 0} (P : A → Type 0) (r : Result A BuildFault) (x : A) → Fine P r → r ≡ Ok x → P x
given_by P (Ok y) x h is = let same : y ≡ x = cc in subst P same h
given_by P (Err fault) x h is = absurd cc

pub sound_lowered : (spec : Spec) (names : FileNames) → AreNames spec.definitions.items names → (d : Defined)
    → defined_by names.entries spec.definitions.items ≡ Ok d
    → IsSoundFile (length names.entries) d
sound_lowered spec names h d is =
    let g = behind names.entries [] 0 (steps_of spec.definitions.items) in
    file_sound names.entries g d
    (given_by (KeepsAll names.entries g) (defined_by names.entries spec.definitions.items) d
    (of_names_fine spec names h) is)
    (all_done spec.definitions.items names h)

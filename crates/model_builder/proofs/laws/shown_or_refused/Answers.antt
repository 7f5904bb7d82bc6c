use Rattle.std.proofs.Common.{inl, inr, subst, List}
use Rattle.idl_tree.specs.declared.definitions.Definition.{Definition}
use Rattle.type_model.specs.ModelRules.{IsModel, Parts}
use Rattle.scoped_names.specs.FileNames.{FileNames}
use Rattle.lowered_types.specs.declared.fault.TypeFault.{TypeFault}
use Rattle.model_builder.specs.Faults.{IsFault, IsFaultOfPaths}
use Rattle.model_builder.specs.Shown.{Shows}
use Rattle.model_builder.proofs.Lowered.{lowered_once, lowered_or_not}
use Rattle.model_builder.proofs.laws.shown_or_refused.Goals as goal

pub returns : goal.returns
returns c = λ definitions names model fault s f. by definitions names model fault s f
  where
    by : (definitions : List Definition) (names : FileNames) (model : Parts) (fault : TypeFault)
        → Shows definitions names model → IsFault definitions names fault → ⊥
    by definitions names model fault s (inl told) = lowered_or_not s.told told
    by definitions names model fault s (inr late) =
        let path : IsFaultOfPaths s.lowered.types fault =
        subst (λ d. IsFaultOfPaths d.types fault) (lowered_once late.told s.told) late.late in
        let rules = subst IsModel s.shows.parts s.shows.rules in
        c.fault_is_of_long_paths.ensures s.lowered.types.nodes 14 s.lowered.types.sites path.path path.is
        rules.graph.shallow

use Rattle.std.proofs.Common.{◌≡◌, ◌∙◌, inl, inr, sym, ap, subst, List}
use Rattle.idl_tree.specs.declared.definitions.Definition.{Definition}
use Rattle.scoped_names.specs.FileNames.{FileNames}
use Rattle.lowered_types.specs.declared.fault.TypeFault.{TypeFault}
use Rattle.model_builder.specs.Faults.{IsFault, IsFaultOfPaths, path_told}
use Rattle.model_builder.proofs.Lowered.{refused_once, lowered_once, lowered_or_not}
use Rattle.model_builder.proofs.laws.fault_is_one.Goals as goal

pub returns : goal.returns
returns c = λ definitions names one other f g. by definitions names one other f g
  where
    by : (definitions : List Definition) (names : FileNames) (one other : TypeFault)
        → IsFault definitions names one → IsFault definitions names other → one ≡ other
    by definitions names one other (inl told) (inl again) = refused_once told again
    by definitions names one other (inl told) (inr late) = absurd (lowered_or_not late.told told)
    by definitions names one other (inr late) (inl told) = absurd (lowered_or_not late.told told)
    by definitions names one other (inr late) (inr again) =
        let first = late.late in
        let second : IsFaultOfPaths late.lowered.types other =
        subst (λ d. IsFaultOfPaths d.types other) (lowered_once again.told late.told) again.late in
        first.told ∙ ap path_told
        (c.path_fault_is_one.ensures late.lowered.types.nodes 14 late.lowered.types.sites first.path second.path
        first.is second.is)
        ∙ sym second.told

use Rattle.std.proofs.Common.{◌≡◌, ◌∙◌, ap, sym, subst}
use Rattle.model_builder.specs.inner.Own.{IsOwn}
use Rattle.model_builder.specs.Shown.{defined}
use Rattle.model_builder.proofs.RightModel.{own_of}
use Rattle.model_builder.proofs.file.build.Goals as goal

pub built_of-requires : goal.built_of-requires
built_of-requires c =
    let d = c.in_ok-table.table in
    let parts = c.into_parts-types.result in
    let given = c.into_parts-types.ensures in
    let same : defined parts.0 parts.1.items parts.2.items ≡ d =
    ap (λ types. defined types parts.1.items parts.2.items) given.types
    ∙ ap (λ operations. defined d.types operations parts.2.items) given.operations
    ∙ ap (λ interfaces. defined d.types d.operations interfaces) given.interfaces in
    subst (IsOwn c.args.names.now) (sym same) (own_of c.args.spec.now c.args.names.now d c.in_ok-table.ensures.lowered)

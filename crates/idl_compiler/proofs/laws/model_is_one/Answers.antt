use Rattle.std.proofs.Common.{subst}
use Rattle.model_builder.specs.Shown.{Shows}
use Rattle.idl_compiler.proofs.laws.model_is_one.Goals as goal

pub returns : goal.returns
returns c = λ definitions one other a b.
    let same = c.names_are_one.ensures definitions b.names a.names b.named a.named in
    c.model_is_one.ensures definitions a.names one other a.shows (subst (λ n. Shows definitions n other) same b.shows)

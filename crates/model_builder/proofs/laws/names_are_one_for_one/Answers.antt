use Rattle.model_builder.proofs.NamedFile.{file_named, one_for_one}
use Rattle.model_builder.proofs.laws.names_are_one_for_one.Goals as goal

pub returns : goal.returns
returns c = λ spec names d own told. one_for_one d.types.nodes d.types.names (file_named spec names own d told)

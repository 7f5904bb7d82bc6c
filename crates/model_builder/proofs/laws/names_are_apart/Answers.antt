use Rattle.model_builder.proofs.NamedFile.{all_apart, file_named}
use Rattle.model_builder.proofs.laws.names_are_apart.Goals as goal

pub returns : goal.returns
returns c = λ spec names d own told. all_apart d.types.nodes d.types.names (file_named spec names own d told)

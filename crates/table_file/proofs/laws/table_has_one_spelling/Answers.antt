use Rattle.table_file.proofs.laws.table_has_one_spelling.Goals as goal

pub returns : goal.returns
returns c = λ table octets others one other. cc

use Rattle.table_file.specs.inner.TableCodes.{one_table}
use Rattle.table_file.proofs.laws.octets_spell_one_table.Goals as goal

pub returns : goal.returns
returns c = λ table other octets t u one two. one_table table other octets t.uses.each u.uses.each one two

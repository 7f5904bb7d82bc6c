use Rattle.scoped_names.proofs.specification.bind.Goals as goal

pub read_whole-requires : goal.read_whole-requires
read_whole-requires c = c.new-reader.ensures

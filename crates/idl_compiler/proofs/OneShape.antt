-- Definitions of one shape have one model.
use Rattle.std.proofs.Common.{◌≡◌, ◌∙◌, List}
use Rattle.idl_tree.specs.declared.definitions.Definition.{Definition}
use Rattle.type_model.specs.ModelRules.{Parts}
use Rattle.name_table.specs.Entry.{Entry}
use Rattle.scoped_names.specs.FileNames.{names_of}
use Rattle.lowered_operations.specs.Definitions.{defined_by}
use Rattle.idl_compiler.specs.Compiled.{IsModelOf}

pub same_model : (definitions others : List Definition) (model : Parts) → names_of definitions ≡ names_of others
    → ((entries : List Entry) → defined_by entries definitions ≡ defined_by entries others)
    → IsModelOf others model → IsModelOf definitions model
same_model definitions others model names types is = record {
  names = is.names;
  named = names ∙ is.named;
  shows = record {
    lowered = is.shows.lowered;
    told = types is.names.entries ∙ is.shows.told;
    shows = is.shows.shows;
  };
}

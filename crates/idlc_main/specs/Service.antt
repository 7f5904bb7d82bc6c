-- What is served.
use Rattle.command_words.specs.declared.task.Service.{Service}
use Rattle.broker_sockets.specs.Serving.{IsServed as IsServedBy, places_of}
use Rattle.table_file.specs.Table.{TableParts}
use Rattle.command_tables.specs.Named.{Passing}
use Rattle.command_texts.specs.Lines.{Labels}
use Rattle.command_files.specs.Loaded.{IsLoaded}

-- just so many connections came as the words say, and the object that they name was served to each, by the table
-- that they name, one after the other or at the same time
pub record IsServed (Reads : Passing) (service : Service) : Type 0 where
  pub table : TableParts
  pub labels : Labels
  pub is : IsLoaded Reads service.table.now table labels
  pub done : IsServedBy table.model service.object.now (places_of service.at_once service.idle)
      service.idle service.connections

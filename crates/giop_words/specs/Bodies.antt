-- The texts of bodies, and the operations by which they are read.
use Rattle.std.specs.Prelude.{◌≡◌, ◌≢◌, ℕ, false, true, List, slice_get, codes}
use Rattle.std.specs.String.{string_bytes}
use Rattle.type_model.specs.ModelRules.{Parts}
use Rattle.type_model.specs.Operations.{has_name}
use Rattle.giop_messages.specs.Messages.{Answered}
use Rattle.command_texts.specs.Outcomes.{Called, IsOutcome}
use Rattle.command_texts.specs.declared.call_texts.outcome.Outcome.{Outcome}
use Rattle.command_texts.specs.declared.call_texts.outcome.Outcome.TheVariants.{Returned, Raised, Failed, Forwarded, Readdressed}
use Rattle.giop_words.specs.declared.names.Named.{Named}
use Rattle.giop_words.specs.declared.names.Named.TheVariants.{OfTable, IsA, NonExistent, Unknown}

-- the text of a result or of an exception of the operation is told as it is
abbrev pub Shows : Outcome → List ℕ → Type 0
Shows (Returned own) text = text ≡ string_bytes own
Shows (Raised own) text = text ≡ string_bytes own
Shows (Failed exception) text = Unit {0}
Shows (Forwarded reference) text = Unit {0}
Shows (Readdressed disposition) text = Unit {0}

-- the text of what a reply says
pub record IsTextOfReply (called : Called) (answered : Answered) (text : List ℕ) : Type 0 where
  pub outcome : Outcome
  pub is : IsOutcome called answered outcome
  pub shows : Shows outcome text

-- no operation of the table has the name
abbrev pub HasNone : Parts → List ℕ → Type 0
HasNone model name = (number : ℕ) → has_name name (slice_get model.operations number) ≡ false

-- The operation that a request of this name calls: one of the table, else one that every object has.
abbrev pub IsCalled : Parts → List ℕ → Named → Type 0
IsCalled model name (OfTable number) = has_name name (slice_get model.operations number) ≡ true
IsCalled model name IsA = HasNone model name × (name ≡ codes "_is_a")
IsCalled model name NonExistent = HasNone model name × (name ≡ codes "_non_existent")
IsCalled model name Unknown = HasNone model name × (name ≢ codes "_is_a") × (name ≢ codes "_non_existent")

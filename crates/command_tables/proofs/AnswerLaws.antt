-- What is answered to a request.
use Rattle.std.proofs.Common.{◌≡◌, List, ℕ, Contains, Result, Ok, Err, IfOk, IfErr, IsErr}
use Rattle.std.specs.Bool.{OnFalse}
use Rattle.hex.specs.Hex.{decode_of}
use Rattle.table_file.specs.Table.{TableParts}
use Rattle.command_tables.specs.declared.refusal.Refusal.{Refusal}
use Rattle.command_tables.specs.declared.refusal.Refusal.TheVariants.{BadHex, Refused, NoMemory}
use Rattle.command_words.specs.Requests.{Ask}
use Rattle.command_tables.specs.Answer.{IsLine, IsRefusalOf}
use Rattle.command_tables.specs.Lines.{Prints, HasNoAnswer}
use Rattle.command_tables.specs.Refusal.{wants_memory, IsOfRun}

module _ (table : TableParts) (ask : Ask) (node : ℕ) (named : Contains table.model.names (ask.name, node)) where
  -- the digits are none
  pub bad_digits : (refusal : Refusal)
      → OnFalse (wants_memory refusal) ((refusal ≡ BadHex) × IsErr (decode_of ask.input))
      → IsRefusalOf table ask refusal
  bad_digits NoMemory h = tt
  bad_digits BadHex h = record { node = node; named = named; bad = h.1 }
  bad_digits refusal h = absurd cc

  module _ (input : List ℕ) (digits_are : decode_of ask.input ≡ Ok input) where
    pub line_of : {A : Type 0} (text_of : A → List ℕ) (r : Result A Refusal)
        → IfOk r (λ line. Prints table.model.graph node ask.way ask.order ask.pos input (text_of line))
        → IfOk r (λ line. IsLine table ask (text_of line))
    line_of text_of (Ok line) prints =
        record {
          node = node;
          named = named;
          answers =
              record { input = input; digits_are = digits_are; prints = prints };
        }
    line_of text_of (Err refusal) prints = tt

    -- the run was refused
    refused : (refusal : Refusal) → IsOfRun refusal
        × OnFalse (wants_memory refusal) (HasNoAnswer table.model.graph node ask.way ask.order ask.pos input)
        → IsRefusalOf table ask refusal
    refused NoMemory h = tt
    refused (Refused fault) h =
        record { node = node; named = named; input = input; digits_are = digits_are; none = h.1 }
    refused refusal h = absurd h.0

    pub refusal_of : {A : Type 0} (r : Result A Refusal)
        → IfErr r (λ refusal. IsOfRun refusal
        × OnFalse (wants_memory refusal) (HasNoAnswer table.model.graph node ask.way ask.order ask.pos input))
        → IfErr r (IsRefusalOf table ask)
    refusal_of (Ok line) h = tt
    refusal_of (Err refusal) h = refused refusal h

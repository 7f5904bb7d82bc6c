-- Calls that were forwarded so far.
use Rattle.std.specs.Prelude.{◌≡◌, ℕ, List, ◌++◌, length}
use Rattle.iiop_broker.specs.Outcomes.{Ends}
use Rattle.reference_texts.specs.References.{Reference}
use Rattle.command_texts.specs.Outcomes.{Called}
use Rattle.call_client.specs.Lines.{Line}
use Rattle.call_client.specs.Talks.{Asking, Telling}
use Rattle.call_commands.specs.Followed.{At, AreForwarded, start}

-- so many times, the last time to this reference
pub record IsUnderway (Told Mid : Telling) (ask : Asking) (called : Called) (reference : Reference) (lines : List Line)
    (count : ℕ) (at : Reference) (mid : List Line) : Type 0 where
  pub hops : List At
  pub last : At
  pub forwarded : AreForwarded ask called (start reference lines) hops last
  pub reference_is : last.reference ≡ at
  pub lines_are : last.lines ≡ mid
  pub count_is : length hops ≡ count
  pub gone : (all : List Ends) → Told all → Mid (all ++ last.tos)

-- What is told of calls.
use Rattle.std.specs.Prelude.{◌≡◌, ℕ, List, [], ◌++◌, codes}
use Rattle.std.specs.String.{string_bytes}
use Rattle.giop.specs.declared.reply_bodies.exception.SystemException.{SystemException}
use Rattle.call_commands.specs.declared.ending.Ending.{Ending}
use Rattle.call_commands.specs.declared.ending.Ending.TheVariants.{Returned, Raised, Failed, Sent}
use Rattle.idlc_main.specs.declared.calls.CallEnd.{CallEnd}
use Rattle.idlc_main.specs.declared.calls.CallEnd.TheVariants as ends
use Rattle.idlc_main.specs.declared.calls.Concluded.{Concluded}

-- what standard output gets: the text of a result or of an exception of the operation as a line, else nothing
abbrev pub printed : Ending → List ℕ
printed (Returned text) = string_bytes text ++ codes "\n"
printed (Raised text) = string_bytes text ++ codes "\n"
printed (Failed exception) = []
printed Sent = []

abbrev pub end_of : Ending → CallEnd
end_of (Returned text) = ends.Done
end_of (Raised text) = ends.Raised
end_of (Failed exception) = ends.Failed exception
end_of Sent = ends.Done

-- it is told of a call that ended so
pub record IsConclusion (ending : Ending) (concluded : Concluded) : Type 0 where
  pub text_is : string_bytes concluded.text ≡ printed ending
  pub end_is : concluded.end ≡ end_of ending

-- the status of a run whose last call ended so
abbrev pub status_of_end : CallEnd → ℕ
status_of_end ends.Done = 0
status_of_end ends.Raised = 5
status_of_end (ends.Failed exception) = 6

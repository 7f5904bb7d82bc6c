-- What a run answers, by what it is asked for.
use Rattle.std.specs.Prelude.{◌≡◌, ◌≢◌, ◌⊎◌, ℕ, List, [], Option, Some, None, Result, Ok, Err, IfOk, IfErr}
use Rattle.std.specs.String.{string_bytes}
use Rattle.std.specs.Io.KnownBytes.{Appends, Keeps}
use Rattle.diagnostic_texts.specs.Named.{AreTexts, lines_below}
use Rattle.broker_sockets.specs.Lines.{serving}
use Rattle.position_checker.specs.Summary.{accepted}
use Rattle.command_tables.specs.Named.{Passing, IsUpgraded}
use Rattle.command_tables.specs.NoReference.{IsReferenceRefusal}
use Rattle.command_tables.specs.References.{IsReferenceLine}
use Rattle.command_tables.specs.declared.refusal.Refusal.TheVariants.{NoMemory}
use Rattle.idlc_main.specs.declared.fault.Fault.{Fault}
use Rattle.idlc_main.specs.declared.fault.Fault.TheVariants.{NoRefusal, Refused}
use Rattle.idlc_main.specs.Descriptions.{IsDescribed, IsDescriptionFault}
use Rattle.idlc_main.specs.Fault.{status_of}
use Rattle.idlc_main.specs.Files.{IsCompileFault, IsCompiledTo, IsUpgradeFault}
use Rattle.idlc_main.specs.Tables.{AnswersBy, HasTable, IsTableFault, RefusesBy}
use Rattle.command_words.specs.Ask.{Ask, Check, Compile, Description, Explanation, Reference, Show, Upgrade, Value}
use Rattle.idlc_main.specs.declared.told.TaskOutput.{TaskOutput}

-- texts of the refusals that the word means, of one at least
pub record AreExplained (word lines : List ℕ) : Type 0 where
  pub texts : AreTexts word 256 lines
  pub some : lines ≢ []

-- the lines of an explanation, or those of all numbers and names
abbrev pub Explains : Option (List ℕ) → List ℕ → Type 0
Explains (Some word) lines = AreExplained word lines
Explains None lines = lines ≡ lines_below 256

-- the line that answers, behind what is written to files; which lines `show` prints isn't said, and of a reference
-- the lines behind the one in digits are as its listing prints them
abbrev pub IsLine : Passing → Passing → Ask → List ℕ → Type 0
IsLine Reads Takes (Value ask) line = HasTable Reads ask.table (AnswersBy Reads ask line)
IsLine Reads Takes (Reference ask) line =
    HasTable Reads ask.table (λ table labels. IsReferenceLine table.model ask.parts line)
IsLine Reads Takes (Check name) line = HasTable Reads name (λ table labels. line ≡ accepted table)
IsLine Reads Takes (Show name types) lines = HasTable Reads name (λ table labels. Unit {0})
IsLine Reads Takes (Upgrade table output) line = IsUpgraded Reads Takes table output line
IsLine Reads Takes (Compile source output) line = IsCompiledTo Reads Takes source output line
IsLine Reads Takes (Explanation word) lines = Explains word lines
IsLine Reads Takes (Description word) lines = IsDescribed Reads word lines

-- the number or the name of no refusal
abbrev pub IsStrangeWord : Option (List ℕ) → Type 0
IsStrangeWord None = ⊥
IsStrangeWord (Some word) = AreTexts word 256 []

abbrev pub IsExplanationFault : Option (List ℕ) → Fault → Type 0
IsExplanationFault word (NoRefusal other) = (word ≡ Some other.now) × IsStrangeWord word
IsExplanationFault word (Refused NoMemory) = Unit {0}
IsExplanationFault word fault = ⊥

abbrev pub IsFaultOf : Passing → Ask → Fault → Type 0
IsFaultOf Reads (Value ask) fault = IsTableFault Reads ask.table (RefusesBy Reads ask) fault
IsFaultOf Reads (Reference ask) fault =
    IsTableFault Reads ask.table (λ refusal table labels. IsReferenceRefusal table.model ask.parts refusal) fault
IsFaultOf Reads (Check name) fault = IsTableFault Reads name (λ refusal table labels. refusal ≡ NoMemory) fault
IsFaultOf Reads (Show name types) fault = IsTableFault Reads name (λ refusal table labels. refusal ≡ NoMemory) fault
IsFaultOf Reads (Upgrade table output) fault = IsUpgradeFault Reads table output fault
IsFaultOf Reads (Compile source output) fault = IsCompileFault Reads source output fault
IsFaultOf Reads (Explanation word) fault = IsExplanationFault word fault
IsFaultOf Reads (Description word) fault = IsDescriptionFault Reads word fault

pub record IsAnswer (Reads Takes : Passing) (ask : Ask) (result : Result TaskOutput Fault) : Type 0 where
  pub line : IfOk result (λ answer. IsLine Reads Takes ask (string_bytes answer.text))
  pub fault : IfErr result (IsFaultOf Reads ask)

-- standard output, which held `old` and holds `new`, got the line that answers
pub record IsPrinted (Reads Takes : Passing) (ask : Ask) (old new : Option (List ℕ)) : Type 0 where
  pub line : List ℕ
  pub printed : Appends old new line
  pub is_line : IsLine Reads Takes ask line

-- The file is no right table, or the table has no such type or interface, the digits or the object are none, or no such
-- value or reference is there; or an IDL file has no table file, or a table none that fits.
abbrev pub IsRefusedAsk : Passing → Ask → Type 0
IsRefusedAsk Reads ask = (fault : Fault) × (status_of fault ≡ 1) × IsFaultOf Reads ask fault

abbrev pub IsStrange : Ask → Type 0
IsStrange (Explanation word) = IsStrangeWord word
IsStrange ask = ⊥

-- how a run ends that asks for something, by its status and what standard output held before and
-- holds after
pub record IsEndOf (Reads Takes : Passing) (ask : Ask) (status : ℕ) (old new : Option (List ℕ)) : Type 0 where
  pub done : status ≡ 0 → IsPrinted Reads Takes ask old new
  pub refused : status ≡ 1 → IsRefusedAsk Reads ask
  pub understood : status ≡ 2 → IsStrange ask

-- standard output, which held `old` and holds `new`, got nothing, or the line that calls are served
pub record MayServe (old new : Option (List ℕ)) : Type 0 where
  pub port : ℕ
  pub printed : Appends old new (serving port) ⊎ Keeps old new

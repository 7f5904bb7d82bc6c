-- How a run ends, on an answer or a fault.
use Rattle.std.proofs.Common.{◌≡◌, refl, sym, ◌∙◌, subst, ℕ, ◌≤◌, ◌⊎◌, inl, inr, List, Option, Ok, string_bytes, arith}
use Rattle.std.specs.Io.KnownBytes.{Appends}
use Rattle.std.specs.declared.alloc.Global.{Global}
use Rattle.std.specs.declared.vec.Vec.{Vec}
use Rattle.idlc_main.specs.declared.told.TaskOutput.{TaskOutput}
use Rattle.idlc_main.specs.declared.fault.Fault.{Fault}
use Rattle.idlc_main.specs.declared.fault.Fault.TheVariants.{Words, Refused, NotCompiled, NotSpelled, NoRefusal}
use Rattle.command_words.specs.declared.mistake.Mistake.{Mistake}
use Rattle.command_words.specs.declared.mistake.Mistake.TheVariants as mistakes
use Rattle.idl_compiler.specs.declared.fault.CompileFault.{CompileFault}
use Rattle.idl_compiler.specs.declared.fault.CompileFault.TheVariants as sources
use Rattle.idlc_main.specs.Fault.{status_of}
use Rattle.idlc_main.specs.Tables.{IsTableFault}
use Rattle.command_tables.specs.Named.{Passing}
use Rattle.command_tables.specs.declared.refusal.Refusal.{Refusal}
use Rattle.command_tables.specs.declared.refusal.Refusal.TheVariants as refusals
use Rattle.command_texts.specs.Lines.{Labels}
use Rattle.table_file.specs.Table.{TableParts}
use Rattle.command_words.specs.Ask.{Ask, Check, Compile, Description, Explanation, Reference, Show, Upgrade, Value}
use Rattle.idlc_main.specs.Answer.{IsAnswer, IsEndOf, IsExplanationFault, IsFaultOf, IsStrange}
use Rattle.idlc_main.specs.Descriptions.{IsDescriptionFault}
use Rattle.idlc_main.specs.Files.{IsCompileFault, IsUpgradeFault}
use Rattle.reference_listing.specs.declared.spelled_references.fault.SpellingFault.{SpellingFault}
use Rattle.reference_listing.specs.declared.spelled_references.fault.SpellingFault.TheVariants as spellings

-- the input was refused, or it was not the input
abbrev IsOrdinary : Fault → Type 0
IsOrdinary fault = (status_of fault ≡ 1) ⊎ (3 ≤ status_of fault)

refusals_are : (refusal : Refusal) → IsOrdinary (Refused refusal)
refusals_are (refusals.Unread file) = inr (omega arith)
refusals_are (refusals.Unwritten file) = inr (omega arith)
refusals_are refusals.NoMemory = inr (omega arith)
refusals_are refusal = inl refl

sources_are : (fault : CompileFault) (source : Vec ℕ Global) → IsOrdinary (NotCompiled fault source)
sources_are sources.NoMemory source = inr (omega arith)
sources_are fault source = inl refl

spellings_are : (fault : SpellingFault) → IsOrdinary (NotSpelled fault)
spellings_are spellings.NoMemory = inr (omega arith)
spellings_are fault = inl refl

-- so is the fault of a table that a word names
tables_are : (Reads : Passing) (name : List ℕ) (Refuses : Refusal → TableParts → Labels → Type 0) (fault : Fault)
    → IsTableFault Reads name Refuses fault → IsOrdinary fault
tables_are Reads name Refuses (Refused refusal) is = refusals_are refusal
tables_are Reads name Refuses (NotCompiled fault source) is = sources_are fault source
tables_are Reads name Refuses fault (inl is) = absurd is
tables_are Reads name Refuses fault (inr is) = absurd is.so

module _ (Reads Takes : Passing) (ask : Ask) (old new : Option (List ℕ)) where
  -- the input was refused
  ends_refused : (fault : Fault) (status : ℕ) → status ≡ 1 → status_of fault ≡ 1 → IsFaultOf Reads ask fault
      → IsEndOf Reads Takes ask status old new
  ends_refused fault status is_1 of_1 why = record {
    done = λ is_0. absurd (omega arith);
    refused = λ _. (fault, of_1, why);
    understood = λ is_2. absurd (omega arith);
  }

  -- no refusal has the number or the name
  ends_strange : (status : ℕ) → status ≡ 2 → IsStrange ask → IsEndOf Reads Takes ask status old new
  ends_strange status is_2 why = record {
    done = λ is_0. absurd (omega arith);
    refused = λ is_1. absurd (omega arith);
    understood = λ _. why;
  }

  -- it was not the input
  ends_else : (status : ℕ) → 3 ≤ status → IsEndOf Reads Takes ask status old new
  ends_else status above = record {
    done = λ is_0. absurd (omega arith);
    refused = λ is_1. absurd (omega arith);
    understood = λ is_2. absurd (omega arith);
  }

  -- standard output got the answer, or couldn't be written
  pub ends_said : (answer : TaskOutput) (status : ℕ) → (status ≡ 0) ⊎ (status ≡ 3)
      → (status ≡ 0 → Appends old new (string_bytes answer.text))
      → IsAnswer Reads Takes ask (Ok answer) → IsEndOf Reads Takes ask status old new
  ends_said answer status (inl is_0) said is = record {
    done = λ _. record { line = string_bytes answer.text; printed = said is_0; is_line = is.line };
    refused = λ is_1. absurd (omega arith);
    understood = λ is_2. absurd (omega arith);
  }
  ends_said answer status (inr is_3) said is = ends_else status (omega arith)

  -- there was no memory to read the words
  pub ends_unread : (mistake : Mistake) (status : ℕ) → mistake ≡ mistakes.NoMemory → status ≡ status_of (Words mistake)
      → IsEndOf Reads Takes ask status old new
  ends_unread mistake status no_memory is =
      let four : status ≡ 4 = subst (λ (m : Mistake). status ≡ status_of (Words m)) no_memory is in
      ends_else status (omega arith)

  -- there was a fault
  ends_by : (fault : Fault) (status : ℕ) → status ≡ status_of fault → (status_of fault ≡ 1) ⊎ (3 ≤ status_of fault)
      → IsFaultOf Reads ask fault
      → IsEndOf Reads Takes ask status old new
  ends_by fault status is (inl one) why = ends_refused fault status (is ∙ one) one why
  ends_by fault status is (inr above) why = ends_else status (subst (λ (n : ℕ). 3 ≤ n) (sym is) above)

-- no refusal is meant, or memory was wanted
ends_meant : (Reads Takes : Passing) (word : Option (List ℕ)) (old new : Option (List ℕ)) (fault : Fault) (status : ℕ)
    → status ≡ status_of fault
    → IsExplanationFault word fault → IsEndOf Reads Takes (Explanation word) status old new
ends_meant Reads Takes word old new (NoRefusal other) status is told =
    ends_strange Reads Takes (Explanation word) old new status is told.1
ends_meant Reads Takes word old new (Refused refusals.NoMemory) status is told =
    ends_else Reads Takes (Explanation word) old new status (omega arith)
ends_meant Reads Takes word old new fault status is told = absurd told

-- no table was written to another file
upgrades_are : (Reads : Passing) (table output : List ℕ) (fault : Fault) → IsUpgradeFault Reads table output fault
    → IsOrdinary fault
upgrades_are Reads table output (Refused refusal) told = refusals_are refusal
upgrades_are Reads table output fault told = absurd told

files_are : (Reads : Passing) (source output : List ℕ) (fault : Fault) → IsCompileFault Reads source output fault
    → IsOrdinary fault
files_are Reads source output (Refused refusal) told = refusals_are refusal
files_are Reads source output (NotCompiled refusal octets) told = sources_are refusal octets
files_are Reads source output fault told = absurd told

-- there is no reference, or memory was wanted
descriptions_are : (Reads : Passing) (word : List ℕ) (fault : Fault) → IsDescriptionFault Reads word fault
    → IsOrdinary fault
descriptions_are Reads word (Refused refusal) told = refusals_are refusal
descriptions_are Reads word (NotSpelled fault) told = spellings_are fault
descriptions_are Reads word fault told = absurd told

-- there was a fault
pub ends : (Reads Takes : Passing) (ask : Ask) (old new : Option (List ℕ)) (fault : Fault) (status : ℕ)
    → status ≡ status_of fault → IsFaultOf Reads ask fault
    → IsEndOf Reads Takes ask status old new
ends Reads Takes (Value value) old new fault status is told =
    ends_by Reads Takes (Value value) old new fault status is (tables_are Reads value.table _ fault told) told
ends Reads Takes (Reference reference) old new fault status is told =
    ends_by Reads Takes (Reference reference) old new fault status is (tables_are Reads reference.table _ fault told)
    told
ends Reads Takes (Check name) old new fault status is told =
    ends_by Reads Takes (Check name) old new fault status is (tables_are Reads name _ fault told) told
ends Reads Takes (Show name types) old new fault status is told =
    ends_by Reads Takes (Show name types) old new fault status is (tables_are Reads name _ fault told) told
ends Reads Takes (Upgrade table output) old new fault status is told =
    ends_by Reads Takes (Upgrade table output) old new fault status is (upgrades_are Reads table output fault told) told
ends Reads Takes (Compile source output) old new fault status is told =
    ends_by Reads Takes (Compile source output) old new fault status is (files_are Reads source output fault told) told
ends Reads Takes (Explanation word) old new fault status is told = ends_meant Reads Takes word old new fault status is
    told
ends Reads Takes (Description word) old new fault status is told =
    ends_by Reads Takes (Description word) old new fault status is (descriptions_are Reads word fault told) told

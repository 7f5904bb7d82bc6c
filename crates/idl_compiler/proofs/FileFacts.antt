-- What is known of a file and of its refusal, put together.
use Rattle.std.proofs.Common.{◌≡◌, ℕ, ◌≤◌, List, length, Result, Ok, Err, IfOk}
use Rattle.std.specs.Str.{IsUtf8}
use Rattle.std.specs.String.{string_bytes}
use Rattle.idl_compiler.specs.Compiled.{IsCompiled, IsNamedTable}
use Rattle.position_checker.specs.Acceptance.{IsRight}
use Rattle.idl_compiler.specs.declared.choice.Settled.{Settled}
use Rattle.idl_compiler.specs.declared.steps.NamedTable.{NamedTable}
use Rattle.position_checker.specs.Summary.{accepted}
use Rattle.table_file.specs.TableSpelling.{Spells}
use Rattle.idl_compiler.specs.declared.file.CompiledFile.{CompiledFile}
use Rattle.idl_compiler.specs.declared.fault.CompileFault.{CompileFault}
use Rattle.idl_compiler.specs.Files.{IsCompiledFile, IsNamedText}

pub named_text : (source text : List ℕ) (result : Result NamedTable CompileFault) → IsUtf8 source → text ≡ source
    → IfOk result (IsNamedTable text) → IfOk result (IsNamedText source)
named_text source text (Ok whole) is same named = record { text = is; is = rw same at named }
named_text source text (Err fault) is same named = tt

-- the table without the names
pub without_names : (source : List ℕ) (whole : NamedTable) → IsNamedTable source whole → IsCompiled source whole.settled
without_names source whole h = record { definitions = h.definitions; text = h.text; table = h.table }

pub compiled : (source : List ℕ) (settled : Settled) (result : Result CompiledFile CompileFault) → IsUtf8 source
    → IsCompiled source settled → IsRight settled.table
    → IfOk result (λ file. Spells settled.table file.octets.items)
    → IfOk result (λ file. length file.octets.items ≤ 16777216)
    → IfOk result (λ file. string_bytes file.line ≡ accepted settled.table)
    → IfOk result (λ file. file.is_planned ≡ settled.is_planned)
    → IfOk result (IsCompiledFile source)
compiled source settled (Ok file) text is right spelled within line planned = record {
  text = text;
  settled = settled;
  compiled = is;
  right = right;
  spelled = spelled;
  within = within;
  line = line;
  planned = planned;
}
compiled source settled (Err fault) text is right spelled within line planned = tt

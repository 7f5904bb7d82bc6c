-- A fault of a text, and that no table is the text's.
use Rattle.std.proofs.Common.{◌≡◌, ◌≢◌, inl, inr, ℕ, List, Result, Ok, Err, IfErr, refl, subst, sym}
use Rattle.std.specs.Str.{IsUtf8}
use Rattle.idl_lexer.specs.declared.fault.LexFault.TheVariants.{BadChar}
use Rattle.idl_compiler.specs.declared.choice.Settled.{Settled}
use Rattle.idl_compiler.specs.declared.fault.CompileFault.{CompileFault}
use Rattle.idl_compiler.specs.declared.fault.CompileFault.TheVariants.{Tokens, Grammar, Names, Types, TooLong, NoMemory}
use Rattle.idl_compiler.specs.Compiled.{IsCompiled}
use Rattle.idl_compiler.specs.declared.file.CompiledFile.{CompiledFile}
use Rattle.idl_compiler.specs.Files.{IsNoText, IsRefusedFile, IsRefusedSource, RefusesTable}
use Rattle.idl_compiler.specs.Refused.{HasNoTable, HasNoTableBut, IsRefused}

-- what the law of refused texts says
abbrev pub Law : Type 0
Law = (source : List ℕ) (fault : CompileFault) (settled : Settled) → IsRefused source fault → fault ≢ NoMemory
    → IsCompiled source settled → ⊥

none_but : Law → (source : List ℕ) (fault : CompileFault) → IsRefused source fault → HasNoTableBut source fault
none_but law source NoMemory refused = inl refl
none_but law source TooLong refused = absurd refused
none_but law source (Tokens f) refused = inr (λ settled is. law source (Tokens f) settled refused (λ h. cc) is)
none_but law source (Grammar f) refused = inr (λ settled is. law source (Grammar f) settled refused (λ h. cc) is)
none_but law source (Names f) refused = inr (λ settled is. law source (Names f) settled refused (λ h. cc) is)
none_but law source (Types f) refused = inr (λ settled is. law source (Types f) settled refused (λ h. cc) is)

pub none_of : {T : Type 0} → Law → (source : List ℕ) (result : Result T CompileFault) → IfErr result (IsRefused source)
    → IfErr result (HasNoTableBut source)
none_of law source (Ok x) refused = tt
none_of law source (Err fault) refused = none_but law source fault refused

-- ---- a text that is refused, as a file

none_at : (source : List ℕ) (fault : CompileFault) → fault ≢ NoMemory → HasNoTableBut source fault → HasNoTable source
none_at source fault told (inl e) = absurd (told e)
none_at source fault told (inr none) = none

refused_text : (source : List ℕ) (fault : CompileFault) → IsUtf8 source → IsRefused source fault
    → HasNoTableBut source fault → IsRefusedSource source fault
refused_text source TooLong text refused none = absurd refused
refused_text source NoMemory text refused none = tt
refused_text source fault text refused none =
    inr (record { text = text; refused = refused; none = none_at source fault (λ h. cc) none })

pub refused_source : {T : Type 0} (source text : List ℕ) (result : Result T CompileFault) → IsUtf8 source
    → text ≡ source → IfErr result (IsRefused text) → IfErr result (HasNoTableBut text)
    → IfErr result (IsRefusedSource source)
refused_source source text (Ok x) is same refused none = tt
refused_source source text (Err fault) is same refused none =
    refused_text source fault is (rw same at refused) (rw same at none)

pub no_text : (source : List ℕ) (fault : CompileFault) → IsNoText source fault → IsRefusedSource source fault
no_text source fault is =
    let there : IsNoText source (Tokens (BadChar 0 is.octet)) =
    record { none = is.none; octet = is.octet; place = is.place; told = refl } in
    subst (IsRefusedSource source) (sym is.told) (inl there)

-- ---- as a file

pub refused_file : (source : List ℕ) (fault : CompileFault) → IsRefusedSource source fault → IsRefusedFile source fault
refused_file source TooLong refused = absurd refused
refused_file source fault refused = refused

pub long_table : (source : List ℕ) (settled : Settled) (result : Result CompiledFile CompileFault)
    → IsCompiled source settled → IfErr result (RefusesTable settled.table) → IfErr result (IsRefusedFile source)
long_table source settled (Ok file) is refused = tt
long_table source settled (Err TooLong) is refused = record { settled = settled; compiled = is; long = refused }
long_table source settled (Err NoMemory) is refused = tt
long_table source settled (Err fault) is refused = absurd refused

use Rattle.std.proofs.Common.{◌≢◌, ℕ, List, refl}
use Rattle.idl_compiler.specs.declared.choice.Settled.{Settled}
use Rattle.idl_compiler.specs.declared.fault.CompileFault.{CompileFault}
use Rattle.idl_compiler.specs.declared.fault.CompileFault.TheVariants.{Tokens, Grammar, Names, Types, TooLong, NoMemory}
use Rattle.idl_compiler.specs.Compiled.{IsCompiled}
use Rattle.idl_compiler.specs.Refused.{HasFault, IsRefused}
use Rattle.idl_compiler.proofs.OneShape.{same_model}
use Rattle.idl_compiler.proofs.laws.refused_has_no_table.Goals as goal

pub returns : goal.returns
returns c = λ source fault settled refused told is. by source fault settled refused told is
  where
    of_definitions : (source : List ℕ) (fault : CompileFault) (settled : Settled)
        → HasFault source fault → fault ≢ NoMemory → IsCompiled source settled → ⊥
    of_definitions source fault settled has told is =
        let shape = c.definitions_are_one.ensures source has.definitions is.definitions has.text is.text in
        let names = c.names_are_of_the_shape.ensures has.definitions is.definitions shape in
        told (c.modelled_or_refused.ensures has.definitions is.table.model fault
        (same_model has.definitions is.definitions is.table.model names
        (λ entries. c.types_are_of_the_shape.ensures entries has.definitions is.definitions shape) is.table.shown)
        has.is)

    by : (source : List ℕ) (fault : CompileFault) (settled : Settled)
        → IsRefused source fault → fault ≢ NoMemory → IsCompiled source settled → ⊥
    by source (Tokens f) settled refused told is =
        c.text_or_refused.ensures.tokens source is.definitions f refused is.text
    by source (Grammar f) settled refused told is =
        c.text_or_refused.ensures.grammar source is.definitions f refused is.text
    by source (Names f) settled refused told is = of_definitions source (Names f) settled refused told is
    by source (Types f) settled refused told is = of_definitions source (Types f) settled refused told is
    by source TooLong settled refused told is = absurd refused
    by source NoMemory settled refused told is = absurd (told refl)
